use Rattle.fo_cells_calls.proofs.Looking.{looks}
use Rattle.fo_cells_calls.proofs.laws.looks.Goals as goal

pub returns : goal.returns
returns g c = record { get = λ high doubts safe l. looks (g.C.Cells.rest c.args._old.now) (g.C.Cells.rest c.args._new.now) safe l }
