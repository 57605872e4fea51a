use Rattle.fo_cells_fresh.proofs.Opened.{alone_opens}
use Rattle.fo_cells_fresh.proofs.Some.{alone_whole}
use Rattle.fo_cells_fresh.proofs.laws.alone_is_whole.Goals as goal

pub returns : goal.returns
returns c = record {
  opens = λ r image labels root epoch unsure h. alone_opens unsure h;
  whole = λ r image labels root epoch unsure h. alone_whole unsure h;
}
