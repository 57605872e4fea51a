use Rattle.fo_cells_out.proofs.Dividing.{closed_divided}
use Rattle.fo_cells_out.proofs.laws.closing_is_safe.Goals as goal

pub returns : goal.returns
returns g c = record { closed = λ b after bs rs l old new r set d. closed_divided (g.D.Divided.tree c.args._divided.now) r set d }
