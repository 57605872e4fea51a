use Rattle.std.proofs.Common.{sym, ap, ◌∙◌, Err}
use Rattle.fo_files_views.proofs.Beside.{write_refused}
use Rattle.fo_files_views.proofs.aside.no_write.Goals as goal

pub returns-clause-why : goal.returns-clause-why
returns-clause-why c = λ largest offset bytes who now w none. write_refused w c.args.at.now largest offset bytes who now none c.requires.aside ∙ ap Err (sym c.refused_at.ensures)
