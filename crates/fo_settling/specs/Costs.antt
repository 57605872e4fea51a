-- How often a settling calls the device, and writes each block.
use Rattle.std.specs.Prelude.{◌≡◌, ◌⊎◌, ◌+◌, ◌*◌, ◌≤◌, ℕ, true, false, cond, nat_eq, List, [], ◌∷◌, length}
use Rattle.std.specs.List.{Contains}
use Rattle.fo_disk.specs.Disk.{DiskState}
use Rattle.fo_order.specs.Turns.{flag_at}
use Rattle.fo_cache.specs.of_waits.declared.listed.Clearing.{Clearing}
use Rattle.fo_cache.specs.of_waits.Listed.{Clears, ClearsAfter}
use Rattle.fo_cache.specs.of_mind.Due.{is_over}
use Rattle.fo_cache.specs.of_mind.Parts.{Parts}
use Rattle.fo_cache.specs.Called.{Call, Called, at_only, turns_of, writes_of}
use Rattle.fo_cache.specs.Work.{in_doubt, work}

-- Slots wait only for leaves of which no slot waits.
abbrev pub AreUnchained : List Clearing → Type 0
AreUnchained clears = (b j leaf i : ℕ) → ClearsAfter clears b j leaf → Clears clears leaf i → ⊥

-- one, where a slot of this block waits
abbrev pub waits_of : List Clearing → ℕ → ℕ
waits_of [] b = 0
waits_of (c ∷ cs) b = cond (nat_eq c.at b) 1 (waits_of cs b)

-- each block of which a slot waits is one of these
abbrev pub WaitIn : List Clearing → List ℕ → Type 0
WaitIn clears blocks = (b j : ℕ) → Clears clears b j → Contains blocks b

-- These are all blocks that have a turn, and all of which a slot waits.
pub record AreAll (p : Parts) (blocks : List ℕ) : Type 0 where
  pub turns : (b : ℕ) → (flag_at p.turns b).dirty ≡ true → Contains blocks b
  pub waits : WaitIn p.clears blocks

-- Writes and syncs were made, and no other calls. Where slots wait only for leaves of which no slot waits, these are at most four for each
-- block that had a turn or of which a slot waited, and four more; and each such block was written at most twice: once where it had a
-- turn, and once where a slot of it waited. No other block was written, but block 1 once where it was in doubt.
pub record Costs (s t : DiskState) (before now : ℕ) (p : Parts) : Type 0 where
  pub calls : List Call
  pub called : Called calls s t
  pub all : now ≤ before + length calls
  pub few : AreUnchained p.clears → (blocks : List ℕ) → AreAll p blocks → length calls ≤ 4 * length blocks + 4
  pub twice : AreUnchained p.clears → (b : ℕ) → writes_of calls b ≤ at_only 1 (in_doubt p.doubt) b + (turns_of p.turns b + waits_of p.clears b)

-- ---- what rounds of turns and clearings leave

-- No slot waits for a leaf that is settled.
abbrev pub NoneDue : Parts → Type 0
NoneDue p = (b j leaf : ℕ) → ClearsAfter p.clears b j leaf → is_over p.turns leaf ≡ false

-- Slots were cleared: only their blocks have turns that had none, and who waits waits for the same leaves.
pub record Touches (p q : Parts) : Type 0 where
  pub flags : (b : ℕ) → (flag_at q.turns b ≡ flag_at p.turns b) ⊎ ((j : ℕ) × Clears p.clears b j)
  pub waits : (b j : ℕ) → Clears q.clears b j → Clears p.clears b j
  pub leaves : (b j leaf : ℕ) → ClearsAfter q.clears b j leaf → ClearsAfter p.clears b j leaf

-- Nobody begins to wait.
pub record Fewer (p q : Parts) : Type 0 where
  pub waits : (b j : ℕ) → Clears q.clears b j → Clears p.clears b j
  pub unchained : AreUnchained p.clears → AreUnchained q.clears

-- what may be called and written once all has its turn, where a slot of these blocks waits
abbrev pub after_turns : List Clearing → List ℕ → ℕ
after_turns [] blocks = 0
after_turns (c ∷ cs) blocks = 2 * length blocks + 1

abbrev pub most_calls : Parts → List ℕ → ℕ
most_calls p blocks = work p.turns + after_turns p.clears blocks

abbrev pub most_writes : Parts → ℕ → ℕ
most_writes p b = turns_of p.turns b + waits_of p.clears b

abbrev pub none_left : List ℕ → ℕ
none_left blocks = 0

-- So many calls and writes were made that with those that may come there are at most as many as may be.
pub record Spends (s t : DiskState) (before now : ℕ) (p : Parts) (left : List ℕ → ℕ) (rest : ℕ → ℕ) : Type 0 where
  pub calls : List Call
  pub called : Called calls s t
  pub all : now ≤ before + length calls
  pub few : AreUnchained p.clears → (blocks : List ℕ) → WaitIn p.clears blocks → length calls + left blocks ≤ most_calls p blocks
  pub often : AreUnchained p.clears → (b : ℕ) → writes_of calls b + rest b ≤ most_writes p b
