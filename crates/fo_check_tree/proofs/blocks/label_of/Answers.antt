use Rattle.std.proofs.Common.{refl, sym, ◌∙◌, ap, subst, arith}
use Rattle.std.proofs.lemmas.Bool.{false≢true}
use Rattle.fo_good.specs.Trees.{MayHave}
use Rattle.fo_sound.specs.Image.{IsDataBlock}
use Rattle.fo_check_labels.specs.declared.labels.Known.{Known}
use Rattle.fo_check_tree.specs.Steps.{place_of}
use Rattle.fo_check_tree.specs.Steps.BreaksStep.{label}
use Rattle.fo_check_labels.proofs.Marking.{only_label}
use Rattle.fo_check_tree.proofs.blocks.label_of.Goals as goal

pub returns-in-None-clause-answer : goal.returns-in-None-clause-answer
returns-in-None-clause-answer c =
    let place : IsDataBlock c.args.walk.now.blocks c.args.address = record { from = omega (arith, c.if-address-first_data.false, c.first_data.ensures); to = omega (arith, c.if-walk-address.false) } in
    label refl place (λ l any may. c.in-None.ensures any.0 any.1 any.2 (ap (λ (k : Known). k.address) any.3 ∙ any.4.address_is))

pub returns-in-Some-clause-answer : goal.returns-in-Some-clause-answer
returns-in-Some-clause-answer c = record {
  place = record { from = omega (arith, c.if-address-first_data.false, c.first_data.ensures); to = omega (arith, c.if-walk-address.false) };
  known = c.in-Some.ensures;
  may = c.may_have.ensures.0 c.if-may_have.true;
}

pub returns-in-Some-2-clause-answer : goal.returns-in-Some-2-clause-answer
returns-in-Some-2-clause-answer c =
    let place : IsDataBlock c.args.walk.now.blocks c.args.address = record { from = omega (arith, c.if-address-first_data.false, c.first_data.ensures); to = omega (arith, c.if-walk-address.false) } in
    label refl place (λ l any may.
    let same = only_label c.args.walk.now.labels.known.items c.args.address l c.in-Some.label c.args.walk.now.labels.ascending any c.in-Some.ensures in
    let here = subst (MayHave c.args.walk.now.epoch c.args.walk.now.active (place_of c.args.step.now) c.args.step.now.holder.label) same may in
    false≢true (sym c.if-may_have.false ∙ c.may_have.ensures.1 here))
