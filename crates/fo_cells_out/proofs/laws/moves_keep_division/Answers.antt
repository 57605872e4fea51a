use Rattle.std.proofs.Common.{inl}
use Rattle.fo_cells_out.proofs.Dividing.{filled_divided}
use Rattle.fo_cells_out.proofs.Shapes.{same_divided}
use Rattle.fo_cells_out.proofs.laws.moves_keep_division.Goals as goal

pub returns : goal.returns
returns g c = record {
  same = λ at i s old new before queue k d. same_divided k before queue d;
  filled = λ at i s old new before queue k made leads d. filled_divided (g.D.Divided.tree c.args._divided.now) before queue k made (λ b e. inl (leads b e)) d;
}
