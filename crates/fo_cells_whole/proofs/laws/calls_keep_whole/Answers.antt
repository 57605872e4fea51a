use Rattle.fo_cells_steps.proofs.Still.{bytes_made, more_made, await_made, end_made}
use Rattle.fo_cells_steps.proofs.Clearings.{removed_made, fired_made}
use Rattle.fo_cells_whole.proofs.Rest.{slots_rest, whole_by}
use Rattle.fo_cells_whole.proofs.Calls.{bytes_slots, more_slots, await_slots, end_slots, removed_rest, fired_rest, bytes_more, more_more, await_more, end_more, removed_more, fired_more}
use Rattle.fo_cells_whole.proofs.laws.calls_keep_whole.Goals as goal

pub returns : goal.returns
returns g c = record {
  bytes = λ at bytes k d f x unsure holds u other epoch r b all. whole_by (slots_rest holds holds (bytes_slots holds r u)) (bytes_more b r u) (bytes_made r b all.made u other epoch).1 all;
  waits = λ k d f x unsure holds w more pairs r b all. whole_by (slots_rest holds holds (more_slots holds r w)) (more_more b r w pairs) (more_made r b all.made w more).1 all;
  later = λ at i leaf k d f x unsure holds w may r b all. whole_by (slots_rest holds holds (await_slots holds r w)) (await_more b r w) (await_made r b all.made w may).1 all;
  end = λ k d f x unsure holds w no_wait pairs r b all. whole_by (slots_rest holds holds (end_slots holds r w)) (end_more b r w no_wait pairs) (end_made r b all.made w no_wait).1 all;
  at_once = λ at i rs k d f x unsure holds p leaves step b all. whole_by (removed_rest all.made leaves step p) (removed_more b step p) (removed_made leaves step b all.made p).2 all;
  cleared = λ at i leaf rs k d f x unsure holds r waits none leaves step b all. whole_by (fired_rest all.made leaves step r) (fired_more b step r waits none) (fired_made leaves step b all.made r waits).2 all;
}
