use Rattle.std.proofs.Common.{sym, ap, ◌∙◌, Err, subst}
use Rattle.fo_files_views.specs.Aside.{IsOwn, refused_at, unchanged}
use Rattle.fo_files_views.proofs.Beside.{change_refused, own_unchanged}
use Rattle.fo_files_views.proofs.aside.no_change.Goals as goal

pub returns-clause-why : goal.returns-clause-why
returns-clause-why c = λ largest what who now same w none.
    change_refused w c.args.at.now largest what who now none c.requires.aside
    ∙ ap (λ l. Err (refused_at c.args.at.now (unchanged l))) same
    ∙ ap (λ e. Err (refused_at c.args.at.now e)) (sym c.unchanged.ensures)
    ∙ ap Err (sym c.refused_at.ensures)

pub returns-clause-own : goal.returns-clause-own
returns-clause-own c = subst IsOwn (sym c.refused_at.ensures) (subst (λ e. IsOwn (refused_at c.args.at.now e)) (sym c.unchanged.ensures) (own_unchanged c.args.at.now c.args.length))
