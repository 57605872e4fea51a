use Rattle.std.proofs.Common.{sym, ap, ◌∙◌, Err}
use Rattle.fo_files_views.proofs.Beside.{read_refused}
use Rattle.fo_files_views.proofs.aside.no_read.Goals as goal

pub returns-clause-why : goal.returns-clause-why
returns-clause-why c = λ offset count w none. read_refused w c.args.at.now offset count none c.requires.aside ∙ ap Err (sym c.refused_at.ensures)
