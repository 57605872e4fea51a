use Rattle.fo_cells_out.proofs.Shapes.{once_divided, gain_divided, lose_divided}
use Rattle.fo_cells_out.proofs.laws.puts_keep_division.Goals as goal

pub returns : goal.returns
returns g c = record {
  copied = λ at i s old new x y before queue k d. once_divided k d.tree before queue d;
  gained = λ at i s old new x y before queue k d. gain_divided k d.tree before queue d;
  lost = λ at i s old new x b before queue k d. lose_divided k d.tree before queue d;
}
