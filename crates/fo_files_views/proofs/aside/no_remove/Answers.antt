use Rattle.std.proofs.Common.{sym, ap, ◌∙◌, Err}
use Rattle.fo_files_views.proofs.Beside.{remove_refused}
use Rattle.fo_files_views.proofs.aside.no_remove.Goals as goal

pub returns-clause-why : goal.returns-clause-why
returns-clause-why c = λ who now w none. remove_refused w c.args.at.now who now none c.requires.aside ∙ ap Err (sym c.refused_at.ensures)
