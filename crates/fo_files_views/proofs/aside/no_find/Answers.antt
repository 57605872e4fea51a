use Rattle.std.proofs.Common.{sym, ap, ◌∙◌, Err}
use Rattle.fo_files_views.proofs.Beside.{find_refused}
use Rattle.fo_files_views.proofs.aside.no_find.Goals as goal

pub returns-clause-why : goal.returns-clause-why
returns-clause-why c = λ w none. find_refused w c.args.at.now c.args.name.now none c.requires.aside ∙ ap Err (sym c.refused_at.ensures)
