use Rattle.fo_cells_between.proofs.Giving.{given_between}
use Rattle.fo_cells_between.proofs.Still.{tried_between}
use Rattle.fo_cells_between.proofs.laws.snapshot_begins.Goals as goal

pub returns : goal.returns
returns c = record {
  given = λ root next content first k f x unsure before o b all. given_between o b all;
  tried = λ s root next first k d f unsure later before holds after t h. tried_between t h;
}
