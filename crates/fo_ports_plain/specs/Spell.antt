-- Slots as they are spelled into the bytes of a block.
use Rattle.std.specs.Prelude.{◌≡◌, ℕ, List, take, drop}
use Rattle.fo_image.specs.Format.{PointerHolds, EntryHolds}
use Rattle.fo_crash.specs.declared.slot.Slot.{Slot}
use Rattle.fo_crash.specs.declared.slot.Slot.TheVariants.{Pointer as To, Entry as Head, Prev}

-- The slot has a spelling.
abbrev pub HasSpelling : Slot → Type 0
HasSpelling (To p) = PointerHolds p
HasSpelling (Head e) = EntryHolds e
HasSpelling (Prev epoch at) = Unit {0}

-- Bytes stay but for those from one place up to another.
pub record KeepsBeside (from to : ℕ) (old new : List ℕ) : Type 0 where
  pub before : take from new ≡ take from old
  pub behind : drop to new ≡ drop to old
