use Rattle.std.proofs.Common.{◌≡◌, Ok, Result, ◌∙◌}
use Rattle.fo_image.specs.declared.types.Label.{Label}
use Rattle.fo_opening.proofs.labels.load_label.Goals as goal

same_ok : {E : Type 0} (a b : Label) → ◌≡◌ {A = Result Label E} (Ok a) (Ok b) → a ≡ b
same_ok a b e = cc

pub returns-in-Ok-clause-loads : goal.returns-in-Ok-clause-loads
returns-in-Ok-clause-loads c = λ e. c.put.ensures.loads e c.args.bytes.now c.in-Ok.ensures.found

pub returns-in-Ok-clause-bad : goal.returns-in-Ok-clause-bad
returns-in-Ok-clause-bad c = λ e l is s. let no = c.put.ensures.other e in no.1 (same_ok c.in-Ok.label l (c.in-Ok.ensures.only l s) ∙ is.other no.0)

pub returns-in-Err-clause-bad : goal.returns-in-Err-clause-bad
returns-in-Err-clause-bad c = λ _ l is s. c.in-Err.ensures.refused.1 l s
