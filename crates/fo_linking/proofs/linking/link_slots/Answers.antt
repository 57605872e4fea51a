use Rattle.std.proofs.Common.{⊎_elim, refl, sym, ap, ◌∙◌, arith}
use Rattle.std.proofs.lemmas.Bool.{cases_lt}
use Rattle.fo_buffers.specs.of_crash.Images.{target}
use Rattle.fo_buffers.specs.of_ports.Blocks.{slot_count}
use Rattle.fo_buffers.specs.of_slots.Read.{read}
use Rattle.fo_linking.proofs.Joining.{grows_none, grows_on, never, past_slots, slots_on}
use Rattle.fo_linking.proofs.linking.link_slots.Goals as goal

pub loop-j-init : goal.loop-j-init
loop-j-init c = record {
  able = c.requires.able;
  capacity = refl;
  linked = λ k x lt to. absurd (omega (arith, lt));
  grows = grows_none c.args.buffers.now c.args.facts.now c.args.order.now c.args.links.now.items;
  only = λ region old to hangs r. r;
}

pub loop-j-preserved : goal.loop-j-preserved
loop-j-preserved c =
    let i = c.loop-j.invariant in
    let p = c.link_pointer.ensures in
    let to_is = c.target-to.ensures ∙ ap target c.slot_of.ensures in
    record {
      able = p.able;
      capacity = p.capacity ∙ i.capacity;
      linked = slots_on c.loop-j.facts c.link_pointer.new.facts (read c.args.kind c.args.bytes.now).slot c.loop-j.j (λ x e. p.linked x (to_is ∙ e)) p.grows.stays i.linked;
      grows = grows_on i.grows p.grows;
      only = λ region old to hangs r. p.only region old to (λ x e. hangs c.loop-j.j x (sym to_is ∙ e)) (i.only region old to hangs r);
    }

pub returns-clause-linked : goal.returns-clause-linked
returns-clause-linked c = λ j x to. ⊎_elim
    (λ lt. let is = c.slot_count-j-end.ensures.is in let end = c.loop-j-test.false in c.loop-j.invariant.linked j x (omega (arith, lt, is, end)) to)
    (λ ge. absurd (never (sym (ap target (past_slots c.args.kind c.args.bytes.now j ge)) ∙ to)))
    (cases_lt j (slot_count c.args.kind))
