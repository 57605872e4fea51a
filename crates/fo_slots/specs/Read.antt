-- What the bytes of a block mean, by its kind.
use Rattle.std.specs.Prelude.{◌≡◌, ◌==◌, ◌||◌, ◌≢◌, ◌^◌, ◌<◌, ℕ, zero, suc, cond, nat_lt, List, take, drop, slice_index_or, ◌++◌, ◌-◌}
use Rattle.std.specs.List.{list_all}
use Rattle.fo_image.specs.declared.types.Kind.{Kind}
use Rattle.fo_image.specs.declared.types.Kind.TheVariants.{Data, Dir, Root}
use Rattle.fo_image.specs.declared.types.Pointer.{Pointer}
use Rattle.fo_image.specs.declared.types.Pointer.TheVariants.{Nil, Local, Score as Held}
use Rattle.fo_image.specs.declared.types.Entry.{Entry}
use Rattle.fo_image.specs.Format.{PointerHolds, EntryHolds}
use Rattle.fo_image.specs.Field.{Four, Eight, number_at, zeros}
use Rattle.fo_ports.specs.of_crash.declared.slot.Slot.{Slot}
use Rattle.fo_ports.specs.of_crash.declared.slot.Slot.TheVariants.{Pointer as To, Entry as Head, Prev}
use Rattle.fo_ports.specs.of_crash.Images.{Content}
use Rattle.fo_ports.specs.Blocks.{slot_count, slot_start, slots_from, slots_to, SlotFits, SpellsSlot, IsFormed, ReadsSlots}

-- sixteen zeros and then 0 are nil, or 1 + an address; all else is a score
abbrev pub local_from : ℕ → Pointer
local_from zero = Nil
local_from (suc at) = Local at

abbrev pub pointer_from : List ℕ → Pointer
pointer_from bytes = cond (list_all (λ b. b == 0) (take 16 bytes)) (local_from (number_at Four 16 bytes)) (Held (record { 0 = bytes }))

-- flag 1 is active, flag 2 directory
abbrev pub entry_from : List ℕ → Entry
entry_from bytes = record {
  generation = number_at Four 0 bytes;
  active = slice_index_or bytes 4 0 == 1 || slice_index_or bytes 4 0 == 3;
  dir = slice_index_or bytes 4 0 == 2 || slice_index_or bytes 4 0 == 3;
  depth = slice_index_or bytes 5 0;
  tag = number_at Four 8 bytes;
  size = number_at Eight 12 bytes;
  top = pointer_from (take 20 (drop 20 bytes));
}

abbrev pub prev_from : List ℕ → Slot
prev_from bytes = Prev (number_at Four 0 bytes) (number_at Four 4 bytes)

-- the slot of a block of this kind that such bytes mean at its place
abbrev pub slot_from : Kind → ℕ → List ℕ → Slot
slot_from (Data level) i bytes = To (pointer_from bytes)
slot_from (Dir zero) i bytes = Head (entry_from bytes)
slot_from (Dir (suc level)) i bytes = To (pointer_from bytes)
slot_from Root zero bytes = Head (entry_from bytes)
slot_from Root (suc zero) bytes = Head (entry_from bytes)
slot_from Root (suc (suc i)) bytes = prev_from bytes

-- how many bytes slot i of a block of this kind takes
abbrev pub width : Kind → ℕ → ℕ
width (Data level) i = 20
width (Dir zero) i = 40
width (Dir (suc level)) i = 20
width Root zero = 40
width Root (suc zero) = 40
width Root (suc (suc i)) = 8

-- the bytes of slot i
abbrev pub slot_bytes : Kind → ℕ → List ℕ → List ℕ
slot_bytes kind i bytes = take (width kind i) (drop (slot_start kind i) bytes)

-- slot i, and no pointer past the last slot
abbrev pub slot_at : Kind → List ℕ → ℕ → Slot
slot_at kind bytes i = cond (nat_lt i (slot_count kind)) (slot_from kind i (slot_bytes kind i bytes)) (To Nil)

-- the bytes of a block, with zeros where slots are spelled
abbrev pub blanked : Kind → List ℕ → List ℕ
blanked kind bytes = take (slots_from kind) bytes ++ (zeros (slots_to kind - slots_from kind) ++ drop (slots_to kind) bytes)

-- The content that the bytes of a block of this kind mean. Where they spell no slot, a slot means nothing.
abbrev pub read : Kind → List ℕ → Content
read kind bytes = record { bytes = blanked kind bytes; slot = slot_at kind bytes }

-- the numbers of a slot are of 32 bits, where no format says so
abbrev pub IsInRange : Slot → Type 0
IsInRange (Prev epoch at) = (epoch < 2 ^ 32) × (at < 2 ^ 32)
IsInRange (To p) = Unit {0}
IsInRange (Head e) = Unit {0}

-- The bytes of slot i spell a slot that a block of this kind can have there: then it is the one that they mean.
pub record IsSlot (kind : Kind) (bytes : List ℕ) (i : ℕ) (s : Slot) : Type 0 where
  pub fits : SlotFits kind i s
  pub spelled : SpellsSlot s (slot_bytes kind i bytes)

-- Bytes stay but for those from one place up to another.
pub record KeepsBeside (from to : ℕ) (old new : List ℕ) : Type 0 where
  pub before : take from new ≡ take from old
  pub behind : drop to new ≡ drop to old

-- A slot was put into the bytes of a block, and nothing else.
pub record PutsInto (kind : Kind) (i : ℕ) (s : Slot) (old new : List ℕ) : Type 0 where
  pub here : (read kind new).slot i ≡ s
  pub others : (j : ℕ) → j ≢ i → (read kind new).slot j ≡ (read kind old).slot j
  pub bytes : (read kind new).bytes ≡ (read kind old).bytes
  pub beside : KeepsBeside (slots_from kind) (slots_to kind) old new
  pub slots : ReadsSlots kind (read kind old) old → ReadsSlots kind (read kind new) new
  pub formed : (rank : ℕ) → IsFormed kind rank old → IsFormed kind rank new

-- A slot that has a spelling.
abbrev pub HasSpelling : Slot → Type 0
HasSpelling (To p) = PointerHolds p
HasSpelling (Head e) = EntryHolds e
HasSpelling (Prev epoch at) = Unit {0}

-- a content whose slots have numbers of 32 bits
pub record HasNumbers (kind : Kind) (c : Content) : Type 0 where
  pub each : (i : ℕ) → i < slot_count kind → IsInRange (c.slot i)

-- Bytes that spell the slots of a content mean those slots, and no others.
pub record IsMeant (kind : Kind) (c : Content) (bytes : List ℕ) : Type 0 where
  pub same : (i : ℕ) → i < slot_count kind → (read kind bytes).slot i ≡ c.slot i
  pub reads : ReadsSlots kind (read kind bytes) bytes
