use Rattle.fo_cells_gaps.proofs.of_cells_blocks.Giving.{empty_made, copied_made}
use Rattle.fo_cells_gaps.proofs.of_cells_blocks.Indexing.{indexed_made}
use Rattle.fo_cells_gaps.proofs.of_cells_blocks.Aside.{aside_made}
use Rattle.fo_cells_whole.proofs.Rest.{slots_rest, whole_by}
use Rattle.fo_cells_whole.proofs.Blocks.{given_rest, given_more, index_slots, index_more, aside_slots, aside_more}
use Rattle.fo_cells_whole.proofs.laws.blocks_keep_whole.Goals as goal

pub returns : goal.returns
returns g c = record {
  empty = λ at content p k d f x unsure holds o none b all. whole_by (given_rest all.made o) (given_more b o) (empty_made all.made b o none).1 all;
  copied = λ at source p k d f x unsure holds o copies b all. whole_by (given_rest all.made o) (given_more b o) (copied_made all.made b o copies).1 all;
  indexed = λ at q k d f x unsure holds o b all. whole_by (slots_rest holds holds (index_slots holds o)) (index_more b o) (indexed_made all.made b o).1 all;
  aside = λ z after k d f x unsure holds o b all. whole_by (slots_rest holds holds (aside_slots all.made o)) (aside_more b o) (aside_made all.made b o).1 all;
}
