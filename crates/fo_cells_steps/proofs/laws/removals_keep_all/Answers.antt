use Rattle.fo_cells_steps.proofs.Clearings.{removed_made, fired_made}
use Rattle.fo_cells_steps.proofs.laws.removals_keep_all.Goals as goal

pub returns : goal.returns
returns g c = record {
  at_once = λ at i rs k d f x unsure holds p leaves step b all. removed_made leaves step b all p;
  cleared = λ at i leaf rs k d f x unsure holds r waits leaves step b all. fired_made leaves step b all r waits;
}
