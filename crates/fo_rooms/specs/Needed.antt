-- How much room the calls of one request need.
use Rattle.std.specs.Prelude.{◌≡◌, ◌+◌, ◌*◌, ℕ, List, count_by}
use Rattle.fo_facts.specs.declared.fact.Fact.{Fact}
use Rattle.fo_facts.specs.Counts.{owes, is_made}
use Rattle.fo_rooms.specs.declared.rooms.Rooms.{Rooms}
use Rattle.fo_rooms.specs.declared.rooms.Wants.{Wants}

-- A block that is made takes a buffer, turns for itself and for the block of its label, a removal and a place among the linked ones; one
-- that is pinned a buffer and a turn. Each removal or wait, and each slot that waits, takes a turn and a removal. So much is kept beside
-- for those that owe a turn, and for those that were made and are not linked yet.
pub record Sums (owed made waiting : ℕ) (w : Wants) (r : Rooms) : Type 0 where
  pub held : r.held ≡ w.blocks + w.pins
  pub turns : r.turns ≡ owed + (2 * w.blocks + w.pins + (w.removals + waiting))
  pub removals : r.removals ≡ made + (w.blocks + (w.removals + waiting))
  pub linked : r.linked ≡ made + w.blocks

abbrev pub IsEnough : List Fact → ℕ → Wants → Rooms → Type 0
IsEnough facts waiting w r = Sums (count_by owes facts) (count_by is_made facts) waiting w r
