use Rattle.std.proofs.Common.{◌≡◌, ◌%◌, ⊎_elim, ap, ◌∙◌, arith}
use Rattle.fo_tree_look.specs.of_tree_read.Tree.{kind_at}
use Rattle.fo_tree_look.proofs.of_tree_read.Walk.{inner_kind}
use Rattle.fo_tree_look.specs.Source.{IsPlainTree}
use Rattle.fo_tree_own.proofs.kept.fill_kept.Goals as goal

pub fill_with-requires-clause-bare : goal.fill_with-requires-clause-bare
fill_with-requires-clause-bare g c =
    let t = c.args.tree.now in (
      kind_at t.dir c.args.level,
      c.requires.bare,
      λ zero. ap (λ l. kind_at t.dir l) zero ∙ ⊎_elim (λ plain. plain.0) (λ high. absurd (omega (arith, high, zero))) c.requires.plain,
      λ high. inner_kind t.dir c.args.level high,
    )

pub fill_with-requires-clause-formed : goal.fill_with-requires-clause-formed
fill_with-requires-clause-formed g c =
    λ zero told p stands.
    let t = c.args.tree.now in
    let plain : IsPlainTree t = ⊎_elim (λ is. is) (λ high. absurd (omega (arith, high, zero))) c.requires.plain in
    let rank = c.requires.place told p stands in
    (c.requires.kind told p stands ∙ ap (λ l. kind_at t.dir l) zero ∙ plain.0, λ h. plain.1 (ap (λ r. r % 32) (let same : t.rank ≡ p.rank = omega (arith, rank, zero) in same) ∙ h))
