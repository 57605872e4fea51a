use Rattle.fo_cells_out.proofs.Dividing.{still_divided, given_divided}
use Rattle.fo_cells_out.proofs.laws.steps_keep_division.Goals as goal

pub returns : goal.returns
returns g c = record {
  still = λ old new before queue k d. still_divided (g.D.Divided.tree c.args._divided.now) before queue k d;
  given = λ at content p old new before queue k outside unmade uncovered young inside d. given_divided (g.D.Divided.tree c.args._divided.now) before queue k outside unmade uncovered young inside d;
}
