use Rattle.std.proofs.Common.{◌∙◌, sym, subst}
use Rattle.std.proofs.lemmas.Bool.Decides.{Decides-eqb}
use Rattle.std.proofs.lemmas.Slice.Eq.{slice_eq-Decides}
use Rattle.fo_image.specs.Field.{Spells}
use Rattle.fo_vacput.specs.Top.{VacTopHolds, vac_top_fields}
use Rattle.fo_vacput.proofs.top.is_top_at.Goals as goal

pub returns : goal.returns
returns c =
    let same = slice_eq-Decides Decides-eqb c.args.block.now c.as_slice.result.now c.eq.result c.eq.ensures in
    let w = c.write_vac_top.ensures in (
      λ h. subst (λ b. Spells 8192 vac_top_fields VacTopHolds c.args.top.now b) (sym (same.0 h ∙ c.as_slice.ensures)) w,
      λ s. same.1 (s.bytes_are ∙ sym w.bytes_are ∙ sym c.as_slice.ensures),
    )
