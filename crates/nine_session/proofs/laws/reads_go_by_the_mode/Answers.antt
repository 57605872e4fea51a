use Rattle.nine_session.proofs.Telling.{read_goes}
use Rattle.nine_session.proofs.laws.reads_go_by_the_mode.Goals as goal

pub returns : goal.returns
returns c = read_goes
