use Rattle.std.proofs.Common.{◌-◌, ◌*◌, ◌∙◌, sym, ap, refl, subst, arith}
use Rattle.fo_image.specs.Format.{LabelHolds}
use Rattle.fo_labels.specs.Spelled.{label_at}
use Rattle.fo_labels.proofs.Spelling.{all_spelled, label_holds, none_yet, one_more}
use Rattle.fo_labels.proofs.labels.Labels.spell.Goals as goal

pub put_label-requires-clause-label : goal.put_label-requires-clause-label
put_label-requires-clause-label c = subst LabelHolds (sym c.label_or_free-label.ensures) (label_holds _ c.requires.labels)

pub loop-place-init : goal.loop-place-init
loop-place-init c = none_yet _ (585 * (c.args.at - 2)) c.fill.new.self (c.requires.length) (c.fill.ensures.after (λ y e. e)) (c.fill.ensures.len ∙ c.requires.length)

pub loop-place-preserved : goal.loop-place-preserved
loop-place-preserved c = one_more (c.label_or_free-label.ensures ∙ ap (label_at c.args.self.now) c.address_at.ensures) c.put_label.ensures c.loop-place.invariant

pub returns : goal.returns
returns c = all_spelled refl c.requires.table (let end = c.loop-place-test.false in omega (arith, end)) c.loop-place.invariant
