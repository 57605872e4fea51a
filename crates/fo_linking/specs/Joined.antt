-- Who comes into the tree of memory with a slot.
use Rattle.std.specs.Prelude.{◌≡◌, ◌⊎◌, ◌+◌, ◌<◌, ◌≤◌, ℕ, Bool, true, false, List, length, count_by, Some}
use Rattle.std.specs.Option.{option_map_or}
use Rattle.fo_image.specs.declared.types.Pointer.{Pointer}
use Rattle.fo_image.specs.declared.types.Pointer.TheVariants.{Local}
use Rattle.fo_buffers.specs.declared.block.Buffer.{Buffer}
use Rattle.fo_buffers.specs.Held.{Held, held_at, is_dirty}
use Rattle.fo_order.specs.Keeps.{Turns}
use Rattle.fo_order.specs.Turns.{flag_at}
use Rattle.fo_labels.specs.Region.{IsDataBlock, Region, label_of}
use Rattle.fo_buffers.specs.of_crash.declared.slot.Slot.{Slot}
use Rattle.fo_buffers.specs.of_crash.Images.{target}
use Rattle.fo_buffers.specs.of_ports.Blocks.{ReadsSlots}
use Rattle.fo_buffers.specs.of_slots.Read.{read}
use Rattle.fo_facts.specs.declared.fact.Fact.{Fact}
use Rattle.fo_facts.specs.Counts.{owes, is_made}
use Rattle.fo_facts.specs.Known.{fact_at, linked_as}

-- ---- what is asked

-- A held block is a data block, with bytes that spell the slots of its label's kind.
pub record IsHeldGood (region : Region) (b : ℕ) (x : Buffer) : Type 0 where
  pub block : IsDataBlock region b
  pub long : length x.block ≡ 8192
  pub slots : ReadsSlots (label_of region b).kind (read (label_of region b).kind x.block) x.block

pub record AreGood (region : Region) (held : Held) : Type 0 where
  pub each : (b : ℕ) (x : Buffer) → held_at held b ≡ Some x → IsHeldGood region b x

-- Each address has its flags; whoever was made owes a turn; there is room for those turns, and in the list for whoever was made.
pub record IsReady (facts : List Fact) (turns : Turns) (room : ℕ) : Type 0 where
  pub same : length turns.flags ≡ length facts
  pub owing : (b : ℕ) → (fact_at facts b).linked ≡ false → (fact_at facts b).owes ≡ true
  pub turns_left : count_by owes facts ≤ turns.room
  pub places : count_by is_made facts ≤ room

-- ---- what is so afterwards

-- memory has this block changed
abbrev pub is_changed : Held → ℕ → Bool
is_changed held b = option_map_or is_dirty (held_at held b) false

-- b was made, and is linked now
abbrev pub IsLinked : List Fact → List Fact → ℕ → Type 0
IsLinked old new b = ((fact_at old b).linked ≡ false) × ((fact_at new b).linked ≡ true)

-- slot j of a held block
abbrev pub slot_in : Region → ℕ → Buffer → ℕ → Slot
slot_in region b x j = (read (label_of region b).kind x.block).slot j

-- All that the slots of b lead to is linked, where b is held.
abbrev pub LeadsToLinked : Held → Region → List Fact → ℕ → Type 0
LeadsToLinked held region facts b = (x : Buffer) → held_at held b ≡ Some x → (j c : ℕ) → target (slot_in region b x j) ≡ Local c → (fact_at facts c).linked ≡ true

-- A pointer leads to it, by held blocks that were made and are not linked.
pub data IsReached (held : Held) (region : Region) (facts : List Fact) (to : Pointer) : ℕ → Type 0 where
  top : (b : ℕ) → to ≡ Local b → IsReached held region facts to b
  below : (a : ℕ) (x : Buffer) (j b : ℕ) → IsReached held region facts to a → (fact_at facts a).linked ≡ false → held_at held a ≡ Some x → target (slot_in region a x j) ≡ Local b → IsReached held region facts to b

-- Some blocks that were made are linked now: each has its rank still, and with it a turn, where memory has it changed. Of all others all
-- stays. Of the turns that were kept none is lost. What became of the last write of a block stays known.
pub record Joins (held : Held) (old new : List Fact) (t u : Turns) : Type 0 where
  pub as_long : length new ≡ length old
  pub flag_count : length u.flags ≡ length t.flags
  pub facts : (b : ℕ) → (fact_at new b ≡ fact_at old b) ⊎ (IsLinked old new b × (b < length old) × (fact_at new b ≡ linked_as (is_changed held b) (fact_at old b)))
  pub turn : (b : ℕ) → IsLinked old new b → is_changed held b ≡ true → ((flag_at u b).dirty ≡ true) × ((flag_at u b).rank ≡ (fact_at old b).rank)
  pub flags : (b : ℕ) → (flag_at u b ≡ flag_at t b) ⊎ (IsLinked old new b × (is_changed held b ≡ true))
  pub tried : (b : ℕ) → (flag_at u b).tried ≡ (flag_at t b).tried
  pub made : count_by is_made new ≤ count_by is_made old
  pub owed : count_by owes new + t.room ≤ count_by owes old + u.room

-- Just what hangs from this pointer by blocks that were made is linked: what it leads to, and what those lead to that were made.
pub record JoinsBelow (held : Held) (region : Region) (to : Pointer) (old new : List Fact) (t u : Turns) : Type 0 where
  pub joins : Joins held old new t u
  pub linked : (b : ℕ) → to ≡ Local b → (fact_at new b).linked ≡ true
  pub below : (b : ℕ) → IsLinked old new b → LeadsToLinked held region new b
  pub only : (b : ℕ) → IsLinked old new b → IsReached held region old to b
