use Rattle.std.proofs.Common.{◌≡◌, ℕ, ◌+◌, ◌-◌, ◌*◌, List, ◌++◌, take, drop, sym, ◌∙◌, ap, subst, arith}
use Rattle.fo_image.specs.Format.{SpellsPointer}
use Rattle.fo_sound.specs.Image.{is_zero}
use Rattle.fo_check_tree.specs.Slots.{unless, steps_below}
use Rattle.fo_check_tree.proofs.Slots.{below_first, below_more, leads_as_spelled, rest_is}
use Rattle.fo_check_tree.proofs.blocks.add_pointers.Goals as goal

part : (i : ℕ) (block : List ℕ) → take (20 * i + 20 - 20 * i) (drop (20 * i) block) ≡ take 20 (drop (20 * i) block)
part i block = let width : 20 * i + 20 - 20 * i ≡ 20 = omega arith in ap (λ (n : ℕ). take n (drop (20 * i) block)) width

pub loop-i-init : goal.loop-i-init
loop-i-init c = record {
  pushed = λ c' each. rw c.note_rest.ensures.steps (below_first c.args.step.now c.args.kind c.args.here c' c.args.walk.now.steps.items);
  noted = c.note_rest.ensures.noted ∙ ap (λ (s : List ℕ). unless (is_zero s) 5 c.args.here.block c.args.walk.now.noted) (rest_is 8180 c.args.block.now);
  blocks = c.note_rest.ensures.blocks;
  tree = c.note_rest.ensures.tree;
  low = c.note_rest.ensures.level;
  labels = c.note_rest.ensures.labels;
  named = c.note_rest.ensures.named;
  steps = rw c.note_rest.ensures.steps (omega arith);
  folders = c.note_rest.ensures.folders;
}

pub loop-i-preserved : goal.loop-i-preserved
loop-i-preserved c = record {
  pushed = λ c' each.
      let leads = leads_as_spelled c' c.args.block.now c.loop-i.i c.read_pointer-pointer.result (each c.loop-i.i c.loop-i-test.true) (λ q spelled. c.read_pointer-pointer.ensures.only q (subst (SpellsPointer q) (sym (part c.loop-i.i c.args.block.now)) spelled)) in
      below_more c.args.step.now c.args.kind c.args.here c' c.args.walk.now.steps.items c.loop-i.walk.steps.items c.add_pointer.new.walk.steps.items c.loop-i.i c.read_pointer-pointer.result leads (c.loop-i.invariant.pushed c' each) c.in_ok-add_pointer.ensures.pushed;
  noted = c.add_pointer.ensures.noted ∙ c.loop-i.invariant.noted;
  blocks = c.add_pointer.ensures.blocks ∙ c.loop-i.invariant.blocks;
  tree = (c.add_pointer.ensures.tree.0 ∙ c.loop-i.invariant.tree.0, c.add_pointer.ensures.tree.1 ∙ c.loop-i.invariant.tree.1);
  low = rw c.add_pointer.ensures.noted c.loop-i.invariant.low;
  labels = c.add_pointer.ensures.labels ∙ c.loop-i.invariant.labels;
  named = c.add_pointer.ensures.named ∙ c.loop-i.invariant.named;
  steps = omega (arith, c.in_ok-add_pointer.ensures.steps, c.loop-i.invariant.steps);
  folders = c.add_pointer.ensures.folders ∙ c.loop-i.invariant.folders;
}

pub returns-clause-pushed : goal.returns-clause-pushed
returns-clause-pushed c c' each =
    let end : c.loop-i.i ≡ 409 = omega (arith, c.loop-i-test.false, c.loop-i.auto.i-end) in
    subst (λ (n : ℕ). c.loop-i.walk.steps.items ≡ c.args.walk.now.steps.items ++ steps_below c.args.step.now c.args.kind c.args.here c' n) end (c.loop-i.invariant.pushed c' each)
