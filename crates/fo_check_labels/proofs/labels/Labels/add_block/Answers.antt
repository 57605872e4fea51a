use Rattle.std.proofs.Common.{◌≡◌, ℕ, ◌+◌, true, false, sym, ◌∙◌, ap, subst, arith}
use Rattle.std.proofs.lemmas.Bool.{false≢true}
use Rattle.std.proofs.lemmas.List.{take_rest}
use Rattle.std.proofs.lemmas.Result.{err_from_is_err_and}
use Rattle.fo_sound.specs.Image.{is_zero, rest_bytes, block_of}
use Rattle.fo_check_labels.specs.Known.{IsBelow}
use Rattle.fo_check_labels.specs.Table.{IsScanned}
use Rattle.fo_check_labels.specs.Table.BreaksTable.{rest}
use Rattle.fo_check_labels.proofs.Scanning.{label-bytes, scanned_rest, scanned_block}
use Rattle.fo_check_labels.proofs.Marking.{few_upto}
use Rattle.fo_check_labels.proofs.labels.Labels.add_block.Goals as goal

pub returns-then-is_zero-clause-table : goal.returns-then-is_zero-clause-table
returns-then-is_zero-clause-table c image len is scan = scanned_block c.args.block.now c.args.n c.requires.length is (sym c.is_zero.ensures ∙ c.if-is_zero.true) scan

pub returns-then-not-is_zero-clause-table : goal.returns-then-not-is_zero-clause-table
returns-then-not-is_zero-clause-table c image len is scan =
    let isnt : is_zero (rest_bytes (block_of image (2 + c.args.n))) ≡ false = ap (λ b. is_zero (rest_bytes b)) (sym is) ∙ ap is_zero (sym (take_rest c.args.block.now 8190)) ∙ sym c.is_zero-2.ensures ∙ c.if-not-is_zero.true in
    rest (omega arith) (omega (arith, len, c.requires.place)) (λ z. false≢true (sym isnt ∙ z))

pub loop-place-init : goal.loop-place-init
loop-place-init c = record {
  below = subst (λ (k : ℕ). IsBelow k c.args.self.now.known.items) (omega arith) c.requires.below;
  few = λ f. few_upto c.args.self.now.known.items (omega arith) f;
  table = λ image len is scan.
      let blank : is_zero (rest_bytes (block_of image (2 + c.args.n))) ≡ true = ap (λ b. is_zero (rest_bytes b)) (sym is) ∙ ap is_zero (sym (take_rest c.args.block.now 8190)) ∙ sym c.is_zero-2.ensures ∙ c.if-not-is_zero.false in
      subst (λ (k : ℕ). IsScanned image (c.args.n + 1) k c.args.self.now.known.items) (omega arith) (scanned_rest blank scan);
}

pub returns-in_err-add_label-clause-table : goal.returns-in_err-add_label-clause-table
returns-in_err-add_label-clause-table c image len is scan =
    let p = err_from_is_err_and c.from_residual.result c.from_residual.ensures.1 in
    rw (p.1, p.2) (c.in_err-add_label.ensures.table image (c.args.n + 1) len (label-bytes image c.args.block.now c.args.n c.loop-place.place _ _ (omega arith) is (omega arith) (omega arith)) (c.loop-place.invariant.table image len is scan))

pub loop-place-preserved : goal.loop-place-preserved
loop-place-preserved c = record {
  below = subst (λ (k : ℕ). IsBelow k c.add_label.new.self.known.items) (omega arith) c.in_ok-add_label.ensures.below;
  few = λ f. few_upto c.add_label.new.self.known.items (omega arith) (c.in_ok-add_label.ensures.few (c.loop-place.invariant.few f));
  table = λ image len is scan.
      subst (λ (k : ℕ). IsScanned image (c.args.n + 1) k c.add_label.new.self.known.items) (omega arith)
      (c.in_ok-add_label.ensures.table image (c.args.n + 1) len (label-bytes image c.args.block.now c.args.n c.loop-place.place _ _ (omega arith) is (omega arith) (omega arith)) (c.loop-place.invariant.table image len is scan));
}

pub returns-then-is_zero-clause-few : goal.returns-then-is_zero-clause-few
returns-then-is_zero-clause-few c f = few_upto c.args.self.now.known.items (omega arith) f

pub returns-clause-few : goal.returns-clause-few
returns-clause-few c f = few_upto c.loop-place.self.known.items (omega arith) (c.loop-place.invariant.few f)
