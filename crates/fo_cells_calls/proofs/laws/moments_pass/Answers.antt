use Rattle.fo_cells_calls.proofs.Leaving.{moments}
use Rattle.fo_cells_calls.proofs.laws.moments_pass.Goals as goal

pub returns : goal.returns
returns g c = moments (g.C.Cells.known c.args._old.now) (g.C.Cells.known c.args._new.now) (g.C.Cells.rest c.args._old.now) (g.C.Cells.rest c.args._new.now)
