use Rattle.std.proofs.Common.{◌≡◌, ⊎_elim, sym, ap, ◌∙◌}
use Rattle.fo_image.specs.declared.types.Kind.TheVariants.{Data, Dir}
use Rattle.fo_files_record.proofs.take.second_cleared.Goals as goal

pub returns-clause-dirty : goal.returns-clause-dirty
returns-clause-dirty g c = λ dirty.
    let s = g.B.Blocks.state c.args.on.now in
    ⊎_elim
    (λ was. was)
    (λ e. let no : Data 0 ≡ Dir 0 = sym c.requires.leaf.owned.leaf_kind ∙ ap (λ b. (s.label b).kind) e ∙ c.requires.entries.leaf_kind in absurd cc)
    (c.clear_second.ensures.dirty c.args.leaf dirty)
