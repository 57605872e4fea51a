use Rattle.std.proofs.Common.{◌≡◌, ℕ, ◌*◌, List, take, drop, sym, ap, ◌∙◌, subst, arith}
use Rattle.std.specs.Prelude.{◌==◌}
use Rattle.std.specs.List.{list_all}
use Rattle.std.proofs.lemmas.List.{take_rest}
use Rattle.fo_labels.specs.Spelled.{part_at}
use Rattle.fo_opening.specs.Loads.{LoadsPart}
use Rattle.fo_opening.proofs.Loading.{block_whole, no_label, no_rest, part_more, part_none}
use Rattle.fo_opening.proofs.labels.load_block.Goals as goal

bytes_at : (block : List ℕ) (from len k : ℕ) → from ≡ 14 * k → len ≡ 14 → take len (drop from block) ≡ part_at (14 * k) block
bytes_at block from len k e f = ap (λ n. take n (drop from block)) f ∙ ap (λ n. take 14 (drop n block)) e

pub returns-then-not-is_zero-clause-bad : goal.returns-then-not-is_zero-clause-bad
returns-then-not-is_zero-clause-bad c = λ _. no_rest c.args.n c.args.block.now c.args.labels.now (ap (list_all (λ b. b == 0)) (sym (take_rest c.args.block.now 8190)) ∙ sym c.is_zero.ensures ∙ c.if-not-is_zero.true)

pub loop-place-init : goal.loop-place-init
loop-place-init c = part_none c.args.n c.args.block.now c.args.labels.now c.requires.labelled

pub load_label-requires-clause-labelled : goal.load_label-requires-clause-labelled
load_label-requires-clause-labelled c = c.loop-place.invariant.stays.labels

pub returns-then-not-load_label-clause-bad : goal.returns-then-not-load_label-clause-bad
returns-then-not-load_label-clause-bad c = λ _. no_label c.args.n c.loop-place.place _ _ c.args.block.now c.args.labels.now c.loop-place.labels (omega arith) (omega arith) (bytes_at c.args.block.now _ _ c.loop-place.place (omega arith) (omega arith)) c.loop-place.invariant (c.load_label.ensures.bad c.if-not-load_label.true)

pub loop-place-preserved : goal.loop-place-preserved
loop-place-preserved c = part_more c.args.n c.loop-place.place _ _ c.args.block.now c.args.labels.now c.loop-place.labels c.load_label.new.labels (omega arith) (omega arith) (bytes_at c.args.block.now _ _ c.loop-place.place (omega arith) (omega arith)) c.loop-place.invariant (c.load_label.ensures.loads c.if-not-load_label.false)

pub returns-clause-loads : goal.returns-clause-loads
returns-clause-loads c = λ _. block_whole c.args.n c.args.block.now c.args.labels.now c.loop-place.labels c.requires.length (ap (list_all (λ b. b == 0)) (sym (take_rest c.args.block.now 8190)) ∙ sym c.is_zero.ensures ∙ c.if-not-is_zero.false) (subst (λ k. LoadsPart c.args.n k c.args.block.now c.args.labels.now c.loop-place.labels) (omega arith) c.loop-place.invariant)
