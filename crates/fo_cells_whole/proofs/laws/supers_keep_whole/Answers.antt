use Rattle.std.proofs.Common.{refl}
use Rattle.fo_cells_supers.proofs.Supers.{tried_made}
use Rattle.fo_cells_supers.proofs.Counting.{counted_made, overruled_made}
use Rattle.fo_cells_whole.proofs.Rest.{slots_rest, whole_by}
use Rattle.fo_cells_whole.proofs.Supers.{tries_slots, tries_more, counts_slots, counts_more, raised_whole}
use Rattle.fo_cells_whole.proofs.laws.supers_keep_whole.Goals as goal

pub returns : goal.returns
returns g c = record {
  tried = λ s k d f unsure later holds after t flagged all. whole_by (slots_rest holds after (tries_slots holds after t)) (tries_more t flagged) (tried_made t all.made).1 all;
  counts = λ s k d f unsure holds t all. whole_by (slots_rest holds holds (counts_slots holds t)) (counts_more t) (counted_made t all.made).1 all;
  overruled = λ k f unsure holds quiet all. record { made = overruled_made quiet all.made; closed = all.closed; shared = all.shared; certain = λ now. refl; awaited = all.awaited };
  low = λ low kept k f unsure holds up x all. raised_whole up x all;
}
