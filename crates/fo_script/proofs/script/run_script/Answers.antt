use Rattle.fo_script.proofs.Going.{ends_of}
use Rattle.fo_script.proofs.script.run_script.Goals as goal

pub returns-clause-script : goal.returns-clause-script
returns-clause-script g c = ends_of _ _ _ _ _ _ _ _ _ c.answer_lines-end.ensures.stops c.let_everyone_go.ensures.gone
