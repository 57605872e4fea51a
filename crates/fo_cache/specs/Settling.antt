-- What turns leave of memory and of the device, whatever is written.
use Rattle.std.specs.Prelude.{◌≡◌, ◌⊎◌, ◌≤◌, ℕ, true, false, length}
use Rattle.std.specs.Option.{option_map}
use Rattle.fo_disk.specs.Disk.{DiskState, Versions, newest, versions_of}
use Rattle.fo_buffers.specs.Held.{held_at, settled}
use Rattle.fo_order.specs.Turns.{flag_at}
use Rattle.fo_facts.specs.declared.fact.Fact.{Fact}
use Rattle.fo_facts.specs.Known.{fact_at}
use Rattle.fo_mind.specs.Due.{is_over}
use Rattle.fo_mind.specs.Parts.{Parts, bytes_at}
use Rattle.fo_mind.specs.Turning.{is_changed}

-- what is known of an address, but whether it was written since it was given out, and whether room is kept for its turn
abbrev pub lasting : Fact → Fact
lasting f = record f { fresh = false; owes = false }

-- a device has the versions that it had, or the last of them
abbrev pub Rested : Versions → Versions → Type 0
Rested old new = (new ≡ old) ⊎ (new ≡ newest old)

-- What is held stays so with its bytes and pins, and what is clean; a block that wasn't changed isn't, and one that had no turn has none;
-- the bytes that memory has of data blocks stay, and so do the marks, but that a block may not be fresh any more. Blocks that had no turn
-- are not written, and what was settled of them is so still. All else stays.
pub record Settles (s t : DiskState) (p q : Parts) : Type 0 where
  pub held : (b : ℕ) → option_map settled (held_at q.held b) ≡ option_map settled (held_at p.held b)
  pub changed : (b : ℕ) → is_changed (held_at q.held b) ≡ true → is_changed (held_at p.held b) ≡ true
  pub clean : q.held.clean ≡ p.held.clean
  pub buffer_room : q.held.room ≡ p.held.room
  pub lasts : (b : ℕ) → lasting (fact_at q.facts b) ≡ lasting (fact_at p.facts b)
  pub fresh : (b : ℕ) → (fact_at q.facts b).fresh ≡ true → (fact_at p.facts b).fresh ≡ true
  pub turn : (b : ℕ) → (flag_at q.turns b).dirty ≡ true → (flag_at p.turns b).dirty ≡ true
  pub over : (b : ℕ) → is_over p.turns b ≡ true → is_over q.turns b ≡ true
  pub rank : (b : ℕ) → (flag_at q.turns b).rank ≡ (flag_at p.turns b).rank
  pub turn_room : p.turns.room ≤ q.turns.room
  pub bytes : (b : ℕ) → p.region.first ≤ b → bytes_at q.held t.holds b ≡ bytes_at p.held s.holds b
  pub count : length t.holds ≡ length s.holds
  pub others : (b : ℕ) → (flag_at p.turns b).dirty ≡ false → Rested (versions_of s.holds b) (versions_of t.holds b)
  pub rest : q ≡ record p { held = q.held; turns = q.turns; facts = q.facts }
