use Rattle.std.proofs.Common.{◌≡◌, ⊎_elim, ap, subst, ◌∙◌, arith}
use Rattle.std.proofs.lemmas.Bool.{cases_eq}
use Rattle.fo_crash.specs.Images.{target}
use Rattle.fo_image.specs.declared.types.Pointer.TheVariants.{Local}
use Rattle.fo_slots.specs.Read.{read}
use Rattle.test_blocks.proofs.silent.leads_nowhere.Goals as goal

pub loop-j-preserved : goal.loop-j-preserved
loop-j-preserved c = λ j x lt e. ⊎_elim
    (λ same. c.in_default.not-Local x (c.target.ensures ∙ ap target c.slot_of.ensures ∙ subst (λ n. target ((read c.args.kind c.args.bytes.now).slot n) ≡ Local x) same e))
    (λ ne. c.loop-j.invariant j x (omega (arith, lt, ne)) e)
    (cases_eq j c.loop-j.j)
