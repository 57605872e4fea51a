-- THE INVARIANT with epochs, waits and the super block, in one record.
use Rattle.std.specs.Prelude.{◌≡◌, ◌≢◌, ◌⊎◌, ◌<◌, ◌≤◌, ℕ, false, length}
use Rattle.std.specs.List.{Contains}
use Rattle.fo_image.specs.declared.types.Kind.TheVariants.{Dir}
use Rattle.fo_image.specs.declared.types.Label.{Label}
use Rattle.fo_image.specs.declared.types.Pointer.TheVariants.{Local}
use Rattle.fo_image.specs.declared.types.State.TheVariants.{Live}
use Rattle.fo_crash.specs.declared.slot.Slot.{Slot}
use Rattle.fo_crash.specs.declared.place.Place.{Place}
use Rattle.fo_crash.specs.Images.{Content, SameContent, Reaches, target, to_block}
use Rattle.fo_crash.specs.Places.{super_place}
use Rattle.fo_cells.specs.Known.{Known, Top, IsWait, IsClear, IsKept, MaySlot, Stands}
use Rattle.fo_cells.specs.Writes.{KeepsSome}
use Rattle.fo_cells.specs.Calls.{HasSupers, SuperStays}

-- All that may be on the device of a block is what memory has, and no slot of it waits.
pub record IsSet (k : Known) (b : ℕ) : Type 0 where
  pub newborn : k.newborn b ≡ false
  pub versions : (c : Content) → Contains (k.versions b) c → SameContent c (k.memory b)
  pub clears : (i leaf : ℕ) → IsClear k.clears b i leaf → ⊥

-- the label of a block of the active tree
abbrev pub IsLive : ℕ → Label → Type 0
IsLive high l = (l.state ≡ Live) × (l.epoch ≤ high)

-- A leaf of the device waits for an entry of a leaf of lower rank, and was settled before; neither is block 1.
abbrev pub MayWait : Known → ℕ → ℕ → Type 0
MayWait k leaf on = (k.newborn leaf ≡ false) × (leaf ≢ 1) × (on ≢ 1) × (0 < length (k.versions leaf)) × ((p q : Place) → Stands k leaf p → Stands k on q → q.rank < p.rank)

-- A slot waits in a current leaf of entries, which was settled before.
abbrev pub MayClear : Known → ℕ → ℕ → ℕ → Type 0
MayClear k high at leaf = (k.newborn at ≡ false) × (at ≢ 1) × (leaf ≢ 1) × ((k.label at).kind ≡ Dir 0) × ((k.label at).epoch ≡ high)

-- block 1, at its place
abbrev pub super_top : Top
super_top = record { at = 1; place = super_place }

-- All that stands somewhere is a block of the device: it has a version there, and, but for block 1, a label.
pub record IsOfDevice (k : Known) : Type 0 where
  pub blocks : (b : ℕ) (p : Place) → Stands k b p → 0 < length (k.versions b)
  pub labels : (b : ℕ) (p : Place) → b ≢ 1 → Stands k b p → 0 < length (k.labels b)

pub record IsSafe (k : Known) (high : ℕ) (doubt : Content → Type 0) : Type 0 where
  pub kept : IsKept k
  pub of_device : IsOfDevice k
  -- block 1 is a top, so that what is said of what stands is said of what hangs from it
  pub top : Contains k.tops super_top
  -- an older block that stands somewhere is set
  pub old : (b : ℕ) (p : Place) → b ≢ 1 → Stands k b p → (k.label b).epoch < high → IsSet k b
  -- along each slot that may be there epochs don't rise
  pub epochs : (a i b : ℕ) (s : Slot) (p : Place) → a ≢ 1 → Stands k a p → MaySlot k a i s → target s ≡ Local b → (k.label b).epoch ≤ (k.label a).epoch
  -- the tree of memory is live
  pub live : (b : ℕ) → b ≢ 1 → Reaches k.memory (to_block 1) b → IsLive high (k.label b)
  -- the super block is memory's or the doubt
  pub settled : k.newborn 1 ≡ false
  pub supers : HasSupers k doubt
  pub waits : (leaf on j : ℕ) → IsWait k.waits leaf on j → MayWait k leaf on
  pub clears : (at i leaf : ℕ) → IsClear k.clears at i leaf → MayClear k high at leaf

-- A step after which nothing stands anew.
pub record KeepsSafe (old new : Known) (high : ℕ) : Type 0 where
  pub kept : IsKept old → IsKept new
  pub some : KeepsSome old new
  pub top : Contains old.tops super_top → Contains new.tops super_top
  pub stands : (b : ℕ) (q : Place) → Stands new b q → Stands old b q
  -- labels of what stands keep kind and epoch
  pub label : (b : ℕ) (q : Place) → Stands old b q → ((new.label b).epoch ≡ (old.label b).epoch)
  pub set : (b : ℕ) (q : Place) → b ≢ 1 → Stands old b q → (old.label b).epoch < high → IsSet old b → IsSet new b
  pub may : (a i b : ℕ) (s : Slot) (p : Place) → a ≢ 1 → Stands old a p → MaySlot new a i s → target s ≡ Local b → MaySlot old a i s ⊎ ((new.label b).epoch ≤ (new.label a).epoch)
  pub live : (b : ℕ) → b ≢ 1 → Reaches new.memory (to_block 1) b → (Reaches old.memory (to_block 1) b × (new.label b ≡ old.label b)) ⊎ IsLive high (new.label b)
  pub newborn : (b : ℕ) → old.newborn b ≡ false → new.newborn b ≡ false
  pub supers : SuperStays old new
  pub waits : (leaf on j : ℕ) → IsWait new.waits leaf on j → IsWait old.waits leaf on j ⊎ MayWait old leaf on
  pub clears : (at i leaf : ℕ) → IsClear new.clears at i leaf → (IsClear old.clears at i leaf ⊎ MayClear old high at leaf) × (new.label at ≡ old.label at)

-- a block that may be written: not an older one that stands somewhere, and block 1 with what memory has
pub record IsCurrent (k : Known) (high at : ℕ) : Type 0 where
  pub young : (p : Place) → at ≢ 1 → Stands k at p → (k.label at).epoch < high → ⊥
