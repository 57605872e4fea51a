-- What holds of the fields of a cache.
use Rattle.std.specs.Prelude.{◌≡◌, ◌||◌, ◌+◌, ◌-◌, ◌*◌, ◌^◌, ◌<◌, ◌≤◌, ℕ, true, false, List, length, count_by, Some}
use Rattle.std.specs.Option.{option_map_or}
use Rattle.fo_image.specs.declared.types.Kind.TheVariants.{Dir}
use Rattle.fo_image.specs.declared.types.Label.{Label}
use Rattle.fo_image.specs.declared.types.State.TheVariants.{Live}
use Rattle.fo_image.specs.declared.types.Super.{Super}
use Rattle.fo_image.specs.Format.{IsEpoch, LabelHolds}
use Rattle.fo_image.specs.Place.{first_data}
use Rattle.fo_image.specs.Usable.{is_usable}
use Rattle.fo_buffers.specs.declared.block.Buffer.{Buffer}
use Rattle.fo_buffers.specs.Held.{Held, held_at}
use Rattle.fo_order.specs.Keeps.{Turns}
use Rattle.fo_order.specs.Turns.{flag_at}
use Rattle.fo_labels.specs.Region.{Region, label_of, usable_count}
use Rattle.fo_slots.specs.Read.{read}
use Rattle.fo_facts.specs.declared.fact.Fact.{Fact}
use Rattle.fo_facts.specs.Counts.{is_made, owes}
use Rattle.fo_facts.specs.Known.{fact_at}
use Rattle.fo_waits.specs.declared.listed.Wait.{Wait}
use Rattle.fo_waits.specs.declared.listed.Clearing.{Clearing}
use Rattle.fo_bring.specs.Blocks.{IsData, Good}
use Rattle.fo_waits.specs.Listed.{Clears, Listed, is_active}
use Rattle.fo_ports.specs.Blocks.{slot_count}
use Rattle.fo_mind.specs.Parts.{IsHeld, count_of, label_at}

-- Data blocks come after block 1, each address has its flags and facts, and addresses can be spelled.
pub record Placed (region : Region) (turns : Turns) (facts : List Fact) (first count : ℕ) : Type 0 where
  pub is_first : region.first ≡ first
  pub is_count : count_of region ≡ count
  pub is_place : first ≡ first_data count
  pub begins : 1 < first
  pub small : count < 2 ^ 32 - 1
  pub flag_count : length turns.flags ≡ count
  pub fact_count : length facts ≡ count

-- The root is a data block, and the epochs are ones.
pub record Rooted (first count : ℕ) (one : Super) : Type 0 where
  pub root : IsData first count one.active
  pub high : IsEpoch one.high
  pub low : one.low ≤ one.high

-- Each label is one.
pub record Labelled (region : Region) : Type 0 where
  pub each : (b : ℕ) → IsData region.first (count_of region) b → LabelHolds (label_of region b)

-- What is held is a data block that may not be given out, with bytes that are good for the kind of its label.
pub record Holding (low first count : ℕ) (region : Region) (held : Held) : Type 0 where
  pub block : (b : ℕ) (x : Buffer) → held_at held b ≡ Some x → IsData first count b
  pub good : (b : ℕ) (x : Buffer) → held_at held b ≡ Some x → Good first count (label_at region b).kind x.block
  pub kept : (b : ℕ) (x : Buffer) → held_at held b ≡ Some x → is_usable low (label_at region b) ≡ false

-- A label is live, and of the high epoch: only a data block with such a label may be written.
pub record IsCurrent (high : ℕ) (l : Label) : Type 0 where
  pub live : l.state ≡ Live
  pub epoch : l.epoch ≡ high

-- What is held of the high epoch is live, and only what is of the high epoch is changed.
pub record Changing (high : ℕ) (region : Region) (held : Held) : Type 0 where
  pub live : (b : ℕ) (x : Buffer) → held_at held b ≡ Some x → (label_at region b).epoch ≡ high → (label_at region b).state ≡ Live
  pub changed : (b : ℕ) (x : Buffer) → held_at held b ≡ Some x → x.dirty ≡ true → (label_at region b).epoch ≡ high

-- What is waited for is an entry of a leaf of entries that is held, and in use.
pub record Waiting (region : Region) (held : Held) (waits : List Wait) : Type 0 where
  pub used : (a on k : ℕ) → Listed waits a on k → option_map_or (λ x. is_active ((read (label_at region on).kind x.block).slot (2 * k))) (held_at held on) false ≡ true
  pub within : (a on k : ℕ) → Listed waits a on k → (label_at region on).kind ≡ Dir 0

-- Only slots of leaves of entries of the current epoch wait to be cleared, and none of a block that may be given out.
pub record Clearable (region : Region) (low high : ℕ) (clears : List Clearing) : Type 0 where
  pub each : (b j : ℕ) → Clears clears b j → ((label_at region b).kind ≡ Dir 0) × ((label_at region b).epoch ≡ high)
  pub kept : (b j : ℕ) → Clears clears b j → is_usable low (label_at region b) ≡ false
  pub within : (b j : ℕ) → Clears clears b j → j < slot_count (Dir 0)

-- A block in which a slot waits to be cleared is held, and so is one that was given out and is not in the tree of memory.
pub record Standing (held : Held) (facts : List Fact) (clears : List Clearing) : Type 0 where
  pub still : (b j : ℕ) → Clears clears b j → IsHeld held b
  pub newborn : (b : ℕ) → (fact_at facts b).linked ≡ false → IsHeld held b

-- The root is in the tree of memory: it was not given out, and can't be.
pub record RootIn (low : ℕ) (region : Region) (facts : List Fact) (root : ℕ) : Type 0 where
  pub linked : (fact_at facts root).linked ≡ true
  pub kept : is_usable low (label_at region root) ≡ false

-- For each pinned block there is a unit of room in the order of writing, or it is dirty there.
pub record Owing (held : Held) (turns : Turns) (facts : List Fact) : Type 0 where
  pub each : (b : ℕ) (x : Buffer) → held_at held b ≡ Some x → x.pinned ≡ true → ((fact_at facts b).owes || (flag_at turns b).dirty) ≡ true

-- A block that is made takes a buffer, and turns for itself and for the block of its label; one that is pinned a buffer and a turn. So
-- many turns more are kept: one for each removal or wait that is left, and for each slot that waits to be cleared.
pub record Roomy (held : Held) (turns : Turns) (region : Region) (facts : List Fact) (low spare pins more : ℕ) : Type 0 where
  pub buffer_room : spare + pins ≤ held.room
  pub turn_room : count_by owes facts + (2 * spare + pins + more) ≤ turns.room
  pub usable : spare ≤ usable_count low region

-- Whoever was made has a unit of room in the order of writing, and a place in the list of those that are linked and one among the removals;
-- so has whoever may be made. So many removals more are kept.
pub record Making (facts : List Fact) (spare more links removals : ℕ) : Type 0 where
  pub owing : (b : ℕ) → (fact_at facts b).linked ≡ false → (fact_at facts b).owes ≡ true
  pub places : count_by is_made facts + spare ≤ links
  pub left : count_by is_made facts + (spare + more) ≤ removals
