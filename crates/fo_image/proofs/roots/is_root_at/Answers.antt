use Rattle.std.proofs.Common.{◌∙◌, sym, subst}
use Rattle.std.proofs.lemmas.Bool.Decides.{Decides-eqb}
use Rattle.std.proofs.lemmas.Slice.Eq.{slice_eq-Decides}
use Rattle.fo_image.specs.Field.{Spells}
use Rattle.fo_image.specs.Record.{RootHolds, root_fields}
use Rattle.fo_image.proofs.roots.is_root_at.Goals as goal

pub returns : goal.returns
returns c =
    let same = slice_eq-Decides Decides-eqb c.args.block.now c.as_slice.result.now c.eq.result c.eq.ensures in
    let w = c.write_root.ensures in (
      λ h. subst (λ b. Spells 8192 root_fields RootHolds c.args.root.now b) (sym (same.0 h ∙ c.as_slice.ensures)) w,
      λ s. same.1 (s.bytes_are ∙ sym w.bytes_are ∙ sym c.as_slice.ensures),
    )
