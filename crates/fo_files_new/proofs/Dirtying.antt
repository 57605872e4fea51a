-- What a new file leaves to be written.
use Rattle.std.proofs.Common.{ℕ, [], ◌∷◌}
use Rattle.std.proofs.lemmas.List.Elements.{Contains-append_right}
use Rattle.fo_ports.specs.State.{State}
use Rattle.fo_ports.specs.Sources.{AddsDirty, DirtiesIn}
use Rattle.fo_dirties.proofs.Putting.{first_among}
use Rattle.fo_dirties.proofs.Adding.{adds_two, cons_of, dirties_then, none_of}
use Rattle.fo_files_new.specs.declared.pair.Leaves.{Leaves}
use Rattle.fo_files_new.specs.New.{AddsLeaves}

-- one leaf was made ready after the other
pub both_added : {s m u : State} {at entries records : ℕ} → AddsDirty 20 (at ∷ []) entries s m → AddsDirty 28 (at ∷ []) records m u → AddsLeaves 48 at (record { entries = entries; records = records }) s u
both_added p q = let two = adds_two p q in record { more = two.more; few = two.few; within = two.within; entries = two.first; records = two.second }

-- and then no other block was put into
pub leaves_then : {s m u : State} {n at : ℕ} {leaves : Leaves} → AddsLeaves n at leaves s m → DirtiesIn (leaves.records ∷ leaves.entries ∷ []) m u → AddsDirty n (at ∷ []) at s u
leaves_then {at = at} l q = record {
  more = l.more;
  few = l.few;
  within = dirties_then l.within q (cons_of (record { is = l.records }) (cons_of (record { is = l.entries }) none_of));
  here = Contains-append_right l.more (at ∷ []) at (first_among at []);
}
