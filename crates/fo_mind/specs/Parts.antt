-- What a cache keeps, as plain values, and what the calls on blocks see of it.
use Rattle.std.specs.Prelude.{◌≡◌, ◌⊎◌, ◌+◌, ◌≤◌, ℕ, Bool, true, false, cond, nat_eq, nat_lt, List, length, min, Option, Some, None, is_some}
use Rattle.std.specs.Option.{option_map_or}
use Rattle.std.specs.List.{Contains}
use Rattle.std.specs.Map.{lookup}
use Rattle.fo_disk.specs.Disk.{versions_of, latest_of}
use Rattle.fo_disk.specs.Disk.{Content as Holds}
use Rattle.fo_image.specs.declared.types.Label.{Label}
use Rattle.fo_image.specs.declared.types.Super.{Super}
use Rattle.fo_image.specs.declared.types.Pointer.TheVariants.{Nil}
use Rattle.fo_image.specs.Field.{Four, number_at}
use Rattle.fo_image.specs.Place.{label_block}
use Rattle.fo_image.specs.Usable.{free_label}
use Rattle.fo_crash.specs.declared.slot.Slot.{Slot}
use Rattle.fo_crash.specs.declared.slot.Slot.TheVariants.{Pointer as To}
use Rattle.fo_crash.specs.Images.{Content, Image, SameContent, to_block}
use Rattle.fo_buffers.specs.declared.block.Buffer.{Buffer}
use Rattle.fo_buffers.specs.Held.{Held, held_at, is_dirty, is_pinned}
use Rattle.fo_order.specs.declared.marks.Tried.TheVariants.{Settled}
use Rattle.fo_order.specs.Keeps.{Turns}
use Rattle.fo_order.specs.Turns.{flag_at}
use Rattle.fo_labels.specs.Region.{Region, label_of, usable_count}
use Rattle.fo_slots.specs.Read.{read}
use Rattle.fo_rooms.specs.of_takeout.Walking.{Walking}
use Rattle.fo_unlink.specs.declared.removal.Removal.{Removal}
use Rattle.fo_ports.specs.State.{State}
use Rattle.fo_facts.specs.declared.fact.Fact.{Fact}
use Rattle.fo_facts.specs.Known.{fact_at}
use Rattle.fo_waits.specs.declared.listed.Wait.{Wait}
use Rattle.fo_waits.specs.declared.listed.Clearing.{Clearing}
use Rattle.fo_waits.specs.Listed.{Awaits, Clears}
use Rattle.fo_bring.specs.Blocks.{IsData}

pub record Parts : Type 0 where
  -- buffers, flags and labels
  pub held : Held
  pub turns : Turns
  pub region : Region
  -- what is known of each address beside these
  pub facts : List Fact
  pub waits : List Wait
  pub clears : List Clearing
  -- the super block of memory with its bytes, and the bytes of the one that was last tried, while that is in doubt
  pub one : Super
  pub one_bytes : List ℕ
  pub doubt : Option (List ℕ)
  -- the next file number, and whether it was granted
  pub next : ℕ
  pub granted : Bool
  -- how many blocks may be made, how many pinned, and how many removals and waits are left
  pub spare : ℕ
  pub pins : ℕ
  pub room : ℕ
  -- the removals that are queued, the walk that finds those of a put, and for how many blocks there is room that are linked with one
  pub removals : List Removal
  pub walk : Walking
  pub links : ℕ
  -- what the device holds, and how many faults it had
  pub disk : Holds
  pub faults : ℕ

abbrev pub count_of : Region → ℕ
count_of r = r.first + length r.labels

abbrev pub IsBlock : Parts → ℕ → Type 0
IsBlock p b = IsData p.region.first (count_of p.region) b

-- the label of an address: blocks before the data blocks have none
abbrev pub label_at : Region → ℕ → Label
label_at r b = cond (nat_lt b r.first) free_label (label_of r b)

-- ---- memory

-- what is held of a block, else what is clean, else the last version that the device tells
abbrev pub bytes_of : Option Buffer → Option (List ℕ) → List ℕ → List ℕ
bytes_of (Some x) clean last = x.block
bytes_of None (Some bytes) last = bytes
bytes_of None None last = last

abbrev pub bytes_at : Held → Holds → ℕ → List ℕ
bytes_at held disk b = bytes_of (held_at held b) (lookup (nat_eq b) held.clean) (latest_of (versions_of disk b))

abbrev pub one_slot : Super → ℕ → Slot
one_slot s i = cond (nat_eq i 0) (to_block s.active) (To Nil)

abbrev pub one_content : Super → List ℕ → Content
one_content s bytes = record { bytes = bytes; slot = one_slot s }

abbrev pub content_at : Region → Held → Holds → ℕ → Content
content_at region held disk b = read (label_at region b).kind (bytes_at held disk b)

abbrev pub memory : Parts → Image
memory p b = cond (nat_eq b 1) (one_content p.one p.one_bytes) (content_at p.region p.held p.disk b)

-- ---- marks

abbrev pub IsApart : List Fact → ℕ → Type 0
IsApart facts b = (fact_at facts b).apart ≡ true

abbrev pub Instead : List Fact → ℕ → ℕ → Type 0
Instead facts y x = ((fact_at facts y).apart ≡ true) × ((fact_at facts y).origin ≡ Some x)

-- It was given out, and is not in the tree of memory, as far as calls say.
abbrev pub IsNewborn : List Fact → ℕ → Type 0
IsNewborn facts b = (fact_at facts b).linked ≡ false

abbrev pub IsPinned : Held → ℕ → Type 0
IsPinned held b = option_map_or is_pinned (held_at held b) false ≡ true

abbrev pub IsHeld : Held → ℕ → Type 0
IsHeld held b = is_some (held_at held b) ≡ true

-- Memory changed it since the device had it for certain; a block that was made and is not linked yet has no turn, but is dirty.
abbrev pub IsDirty : Turns → Held → ℕ → Type 0
IsDirty turns held b = ((flag_at turns b).dirty ≡ true) ⊎ (option_map_or is_dirty (held_at held b) false ≡ true)

-- A removal of this block is queued, to be closed at this epoch, with what hangs below it or alone.
abbrev pub Removes : List Removal → ℕ → ℕ → Bool → Type 0
Removes removals b e whole = (r : Removal) × Contains removals r × (r.at ≡ b) × (r.epoch ≡ e) × (r.whole ≡ whole)

-- One version, no change, and no slot that waits; block 1, which has no turn, isn't in doubt.
abbrev pub IsSure : Parts → ℕ → Type 0
IsSure p b = ((flag_at p.turns b).tried ≡ Settled) × (IsDirty p.turns p.held b → ⊥) × ((j : ℕ) → Clears p.clears b j → ⊥) × (b ≡ 1 → p.doubt ≡ None)

abbrev pub IsDoubt : Super → Option (List ℕ) → Content → Type 0
IsDoubt s None c = ⊥
IsDoubt s (Some bytes) c = SameContent c (one_content s bytes)

-- The least limit of file numbers that a super block says which the device may have: that of memory, or the one in doubt.
abbrev pub least_limit : Super → Option (List ℕ) → ℕ
least_limit s None = s.numbers
least_limit s (Some bytes) = min s.numbers (number_at Four 22 bytes)

-- ---- what the calls on blocks see

-- Nothing is told, so no image is left, nothing stands, and nothing is to be closed.
abbrev pub state_of : Parts → State
state_of p = record {
  now = memory p;
  label = label_at p.region;
  stands = λ b q. ⊥;
  apart = IsApart p.facts;
  instead = Instead p.facts;
  newborn = IsNewborn p.facts;
  high = p.one.high;
  low = p.one.low;
  root = p.one.active;
  tops = λ t. t ≡ 1;
  is_block = IsBlock p;
  held = λ score kind. None;
  next = p.next;
  grants = p.granted ≡ true;
  limit = λ c. number_at Four 22 c.bytes;
  tells = ⊥;
  may_leave = λ image. ⊥;
  moments = 0;
  left = λ k image. ⊥;
  doubt = IsDoubt p.one p.doubt;
  sure = IsSure p;
  fresh = λ b. (fact_at p.facts b).fresh ≡ true;
  sealed = λ b. (fact_at p.facts b).sealed ≡ true;
  spare = p.spare;
  pins_left = p.pins;
  room = p.room;
  pinned = IsPinned p.held;
  usable = usable_count p.one.low p.region;
  label_block = label_block;
  dirty = IsDirty p.turns p.held;
  queued = length p.removals;
  removes = Removes p.removals;
  waits = Awaits p.waits;
  clearing = Clears p.clears;
  covered = λ b. ⊥;
  holds = p.disk;
  faults = p.faults;
  arena_faults = 0;
}

-- What every call keeps.
pub record CacheKeeps (old new : Parts) : Type 0 where
  pub first : new.region.first ≡ old.region.first
  pub count : length new.region.labels ≡ length old.region.labels
  pub high : new.one.high ≡ old.one.high
  pub low : new.one.low ≡ old.one.low
  pub root : new.one.active ≡ old.one.active
  pub faults : old.faults ≤ new.faults
