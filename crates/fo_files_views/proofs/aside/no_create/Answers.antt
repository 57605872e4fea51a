use Rattle.std.proofs.Common.{sym, ap, ◌∙◌, Err}
use Rattle.fo_files_views.proofs.Beside.{create_refused}
use Rattle.fo_files_views.proofs.aside.no_create.Goals as goal

pub returns-clause-why : goal.returns-clause-why
returns-clause-why c = λ name mode who uid gid now w none. create_refused w c.args.at.now name mode who uid gid now none c.requires.aside ∙ ap Err (sym c.refused_at.ensures)
