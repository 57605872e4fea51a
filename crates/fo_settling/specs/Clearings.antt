-- Which slots that waited a settling clears, what is queued with them, and what stays beside that.
use Rattle.std.specs.Prelude.{◌≡◌, ◌⊎◌, ◌≤◌, ◌<◌, ℕ, true, List, [], ◌∷◌, length, None}
use Rattle.std.specs.Option.{option_map}
use Rattle.fo_cache.specs.of_buffers.Held.{block_in, held_at}
use Rattle.fo_facts.specs.Known.{fact_at}
use Rattle.fo_cache.specs.of_waits.Listed.{Clears, ClearsAfter}
use Rattle.fo_cache.specs.of_mind.Due.{ClearedDue, IsDueSlot, is_over}
use Rattle.fo_cache.specs.of_mind.Parts.{Parts, bytes_at}

-- What stays while no slot is cleared and no block is closed: labels, the epoch, the queue, the slots that wait, and who is in the tree.
-- What is held has its bytes, or is held no more; and what memory has of data blocks stays, as far as the device tells. What is settled, and
-- has no turn, stays so.
pub record Lasts (p q : Parts) : Type 0 where
  pub region : q.region ≡ p.region
  pub high : q.one.high ≡ p.one.high
  pub removals : q.removals ≡ p.removals
  pub clears : q.clears ≡ p.clears
  pub over : (b : ℕ) → is_over p.turns b ≡ true → is_over q.turns b ≡ true
  pub linked : (b : ℕ) → (fact_at q.facts b).linked ≡ (fact_at p.facts b).linked
  pub held : (b : ℕ) → (option_map block_in (held_at q.held b) ≡ option_map block_in (held_at p.held b)) ⊎ (held_at q.held b ≡ None)
  pub count : length q.disk ≡ length p.disk
  pub bytes : (b : ℕ) → p.region.first ≤ b → b < length p.disk → bytes_at q.held q.disk b ≡ bytes_at p.held p.disk b

-- one slot that is cleared, and what memory was before and after that
pub record Due : Type 0 where
  pub at : ℕ
  pub slot : ℕ
  pub before : Parts
  pub after : Parts

-- It waited for a leaf that is settled, and is cleared, while no walk was under way; what left with it is queued, as the walk over memory
-- gives it, and no more.
pub record IsDue (d : Due) : Type 0 where
  pub rests : length d.before.walk.pairs ≡ 0
  pub due : IsDueSlot d.before.turns d.before.clears d.at d.slot
  pub clears : ClearedDue d.at d.slot d.before d.after

-- These slots are cleared, one after the other.
abbrev pub ClearsBy : List Due → Parts → Parts → Type 0
ClearsBy [] p q = Lasts p q
ClearsBy (d ∷ ds) p q = Lasts p d.before × IsDue d × ClearsBy ds d.after q

-- of this block a slot that waited was cleared
abbrev pub IsCleared : Parts → Parts → ℕ → Type 0
IsCleared p q b = (k : ℕ) × Clears p.clears b k × (Clears q.clears b k → ⊥)

-- It waited for a leaf that is settled and has no turn at the end; but that leaf may have a turn again where a slot of its own was cleared.
abbrev pub WasDue : Parts → Parts → ℕ → ℕ → Type 0
WasDue p q b j = (leaf : ℕ) × ClearsAfter p.clears b j leaf × ((is_over q.turns leaf ≡ true) ⊎ IsCleared p q leaf)

-- Each slot that waited waits still, or was due.
abbrev pub AfterLeaves : Parts → Parts → Type 0
AfterLeaves p q = (b j : ℕ) → Clears p.clears b j → Clears q.clears b j ⊎ WasDue p q b j

-- Slots that waited for settled leaves are cleared, each with what is queued with it; beside that labels, the queue and memory's bytes stay.
-- Whatever the states in between, the leaves are settled at the end.
pub record Clearings (p q : Parts) : Type 0 where
  pub dues : List Due
  pub clears : ClearsBy dues p q
  pub after : AfterLeaves p q
