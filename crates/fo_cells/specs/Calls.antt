-- What calls in memory do to what a cache knows, beside the steps of its device.
use Rattle.std.specs.Prelude.{◌≡◌, ◌≢◌, ◌⊎◌, ◌<◌, ℕ, true, false, List, length}
use Rattle.std.specs.List.{Contains}
use Rattle.fo_image.specs.declared.types.Pointer.TheVariants.{Local}
use Rattle.fo_image.specs.Usable.{is_usable}
use Rattle.fo_crash.specs.declared.slot.Slot.{Slot}
use Rattle.fo_crash.specs.declared.place.Place.{Place}
use Rattle.fo_crash.specs.Images.{Content, SameContent, target}
use Rattle.fo_crash.specs.Places.{place_below}
use Rattle.fo_crash.specs.Steps.{PutsBytes}
use Rattle.fo_cells.specs.Known.{Known, Top, MaySlot, HasBytes, IsWait, IsClear, IsSince, MayName, Stands, seen}
use Rattle.fo_cells.specs.Writes.{SameMind, SameDevice, KeepsSome}

-- Bytes that spell no slot are put in memory.
pub record PutsInto (at : ℕ) (bytes : List ℕ) (old new : Known) : Type 0 where
  pub memory : PutsBytes at bytes old.memory new.memory
  pub device : SameDevice old new
  pub tops : new.tops ≡ old.tops
  pub label : new.label ≡ old.label
  pub low : new.low ≡ old.low
  pub waits : new.waits ≡ old.waits
  pub clears : new.clears ≡ old.clears
  -- a newborn leaf waits for nothing
  pub free : old.newborn at ≡ true → (on j : ℕ) → IsWait old.waits at on j → ⊥

-- Slot i of `at` begins to wait for a leaf: it may be cleared. What was written of the leaf since is what memory has of it.
pub record Awaits (at i leaf : ℕ) (old new : Known) : Type 0 where
  pub same : SameMind old new
  pub device : SameDevice old new
  pub waits : new.waits ≡ old.waits
  pub none : (l : ℕ) → IsClear old.clears at i l → ⊥
  pub clears : (b j l : ℕ) → IsClear new.clears b j l → IsClear old.clears b j l ⊎ ((b ≡ at) × (j ≡ i) × (l ≡ leaf))
  pub since : (b j l : ℕ) (bytes : List ℕ) → IsClear old.clears b j l → IsSince new.clears b j l bytes → IsSince old.clears b j l bytes
  pub begins : (bytes : List ℕ) → IsSince new.clears at i leaf bytes → bytes ≡ (old.memory leaf).bytes

-- Leaves wait for more.
pub record WaitsMore (old new : Known) : Type 0 where
  pub same : SameMind old new
  pub device : SameDevice old new
  pub clears : new.clears ≡ old.clears
  pub waits : (leaf on j : ℕ) → IsWait old.waits leaf on j → IsWait new.waits leaf on j

-- All that stands for the leaf has the bytes that memory has.
pub record IsSetLeaf (k : Known) (leaf : ℕ) : Type 0 where
  pub each : (bytes : List ℕ) → HasBytes (seen k leaf) bytes → bytes ≡ (k.memory leaf).bytes

-- All but block 1 stays, which is settled, waits for nothing, and is waited for by nothing.
pub record SameButSuper (old new : Known) : Type 0 where
  pub some : KeepsSome old new
  pub memory : (b : ℕ) → b ≢ 1 → new.memory b ≡ old.memory b
  pub versions : (b : ℕ) (c : Content) → b ≢ 1 → Contains (new.versions b) c → Contains (old.versions b) c
  pub newborn : new.newborn ≡ old.newborn
  pub late : new.late ≡ old.late
  pub labels : new.labels ≡ old.labels
  pub tops : new.tops ≡ old.tops
  pub label : new.label ≡ old.label
  pub low : new.low ≡ old.low
  pub waits : new.waits ≡ old.waits
  pub clears : new.clears ≡ old.clears
  pub settled : old.newborn 1 ≡ false
  pub wait : (leaf on j : ℕ) → IsWait old.waits leaf on j → (leaf ≢ 1) × (on ≢ 1)
  pub clear : (b j leaf : ℕ) → IsClear old.clears b j leaf → (b ≢ 1) × (leaf ≢ 1)

-- A super block is written, or tried, where block 1 was settled with what memory has.
pub record TriesSuper (d : Content) (old new : Known) : Type 0 where
  pub same : SameButSuper old new
  pub here : new.memory 1 ≡ old.memory 1
  pub versions : (c : Content) → Contains (new.versions 1) c → Contains (old.versions 1) c ⊎ (c ≡ d)
  pub quiet : (c : Content) → Contains (old.versions 1) c → c ≡ old.memory 1
  -- what it leads to stands at the place below, and may be named
  pub fits : (p : Place) (i b : ℕ) → Stands old 1 p → target (d.slot i) ≡ Local b → Stands old b (place_below p i (d.slot i)) × ((place_below p i (d.slot i)).rank < p.rank) × (b ≢ 1) × MayName old b

-- A super block that was tried counts, as it alone is on the device.
pub record CountsSuper (d : Content) (old new : Known) : Type 0 where
  pub same : SameButSuper old new
  pub here : new.memory 1 ≡ d
  pub versions : (c : Content) → Contains (new.versions 1) c → Contains (old.versions 1) c
  pub some : Contains (old.versions 1) d
  pub quiet : (c : Content) → Contains (old.versions 1) c → c ≡ d

-- Block 1 holds on the device what memory has, or the doubt: the super block that was last tried.
pub record HasSupers (k : Known) (doubt : Content → Type 0) : Type 0 where
  pub versions : (c : Content) → Contains (k.versions 1) c → SameContent c (k.memory 1) ⊎ doubt c

-- Block 1 has no other content than before, or what memory had.
pub record SuperStays (old new : Known) : Type 0 where
  pub memory : SameContent (new.memory 1) (old.memory 1)
  pub versions : (c : Content) → Contains (new.versions 1) c → Contains (old.versions 1) c ⊎ SameContent c (old.memory 1)

-- A block of the device that was made gets the place at which it is put, before it is: no slot leads to it, and none of its own leads on.
pub record Indexes (at : ℕ) (q : Place) (old new : Known) : Type 0 where
  pub of_device : (0 < length (old.versions at)) × (0 < length (old.labels at))
  pub memory : new.memory ≡ old.memory
  pub device : SameDevice old new
  pub label : new.label ≡ old.label
  pub low : new.low ≡ old.low
  pub waits : new.waits ≡ old.waits
  pub clears : new.clears ≡ old.clears
  pub tops : (t : Top) → Contains new.tops t → (Contains old.tops t × (t.at ≢ at)) ⊎ ((t.at ≡ at) × (t.place ≡ q))
  pub unled : (a i : ℕ) (s : Slot) (p : Place) → Stands old a p → MaySlot old a i s → target s ≡ Local at → ⊥
  pub empty : (i b : ℕ) (s : Slot) → MaySlot old at i s → target s ≡ Local b → ⊥
  pub fits : ((old.label at).kind ≡ q.kind) × ((old.label at).tag ≡ q.tag) × (is_usable old.low (old.label at) ≡ false)
