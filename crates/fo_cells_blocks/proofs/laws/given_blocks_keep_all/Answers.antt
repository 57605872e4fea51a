use Rattle.fo_cells_blocks.proofs.Giving.{empty_made, copied_made}
use Rattle.fo_cells_blocks.proofs.laws.given_blocks_keep_all.Goals as goal

pub returns : goal.returns
returns g c = record {
  empty = λ at content p k d f x unsure holds o none b all. empty_made all b o none;
  copied = λ at source p k d f x unsure holds o copies b all. copied_made all b o copies;
}
