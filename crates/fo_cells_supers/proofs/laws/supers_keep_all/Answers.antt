use Rattle.fo_cells_supers.proofs.Supers.{tried_made}
use Rattle.fo_cells_supers.proofs.Counting.{counted_made, overruled_made, raised_made}
use Rattle.fo_cells_supers.proofs.laws.supers_keep_all.Goals as goal

pub returns : goal.returns
returns g c = record {
  tried = λ s k d f unsure later holds after t all. tried_made t all;
  counts = λ s k d f unsure holds t all. counted_made t all;
  overruled = λ k f unsure holds quiet all. overruled_made quiet all;
  low = λ low kept k f unsure holds up x all. raised_made up x all;
}
