use Rattle.fo_cells_blocks.proofs.Aside.{aside_made}
use Rattle.fo_cells_blocks.proofs.Indexing.{indexed_made}
use Rattle.fo_cells_blocks.proofs.laws.made_blocks_keep_all.Goals as goal

pub returns : goal.returns
returns g c = record {
  indexed = λ at q k d f x unsure holds o b all. indexed_made all b o;
  aside = λ z after k d f x unsure holds o b all. aside_made all b o;
}
