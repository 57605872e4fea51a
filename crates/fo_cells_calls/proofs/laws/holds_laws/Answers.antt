use Rattle.fo_cells_calls.proofs.Reading.{laws_hold}
use Rattle.fo_cells_calls.proofs.laws.holds_laws.Goals as goal

pub returns : goal.returns
returns g c = record { laws = λ doubts h. laws_hold (g.C.Cells.known c.args._cells.now) (g.C.Cells.rest c.args._cells.now) doubts h }
