-- What is asked of leaves that are put into, and what stays.
use Rattle.std.specs.Prelude.{◌≡◌, ◌≢◌, ◌⊎◌, ◌↔◌, ◌+◌, ◌*◌, ◌<◌, ℕ, List, length}
use Rattle.fo_image.specs.declared.types.Entry.{Entry}
use Rattle.fo_image.specs.declared.types.Kind.TheVariants.{Data, Dir}
use Rattle.fo_image.specs.declared.types.Pointer.TheVariants.{Nil}
use Rattle.fo_crash.specs.declared.place.Place.{Place}
use Rattle.fo_crash.specs.declared.slot.Slot.TheVariants.{Entry as Head}
use Rattle.fo_crash.specs.Images.{Image, Reaches, to_block}
use Rattle.fo_crash.specs.Names.{IsInUse}
use Rattle.fo_ports.specs.Blocks.{SlotFits}
use Rattle.fo_ports.specs.State.{State, AddsNoWait, IsRooted, IsDoomed, KeepsOrder, KeepsNumbers, MayClearLater, none}

-- A leaf of entries that is owned, and linked where the device tells.
pub record IsOwnedEntries (s : State) (at : ℕ) : Type 0 where
  pub is_pinned : s.pinned at
  pub current : (s.label at).epoch ≡ s.high
  pub leaf_kind : (s.label at).kind ≡ Dir 0
  pub linked : s.tells → Reaches s.now (to_block 1) at
  pub uncovered : s.covered at → ⊥

-- A leaf of entries that is pinned.
pub record IsHeldEntries (s : State) (at : ℕ) : Type 0 where
  pub is_pinned : s.pinned at
  pub leaf_kind : (s.label at).kind ≡ Dir 0
  pub uncovered : s.covered at → ⊥

-- Nobody uses entry j, it waits for no clearing, and nobody waits for it.
pub record IsUnused (s : State) (at j : ℕ) : Type 0 where
  pub free : (generation : ℕ) → IsInUse ((s.now at).slot j) generation → ⊥
  pub settled : s.clearing at j → ⊥
  pub alone : (a : ℕ) → s.waits a at j → ⊥

-- An entry is in use, or waits to be cleared.
abbrev pub IsTakenEntry : State → ℕ → ℕ → Type 0
IsTakenEntry s at j = ((generation : ℕ) × IsInUse ((s.now at).slot j) generation) ⊎ s.clearing at j

-- An entry that can be spelled, and leads nowhere yet.
pub record IsNewEntry (e : Entry) : Type 0 where
  pub fits : SlotFits (Dir 0) 0 (Head e)
  pub empty : e.top ≡ Nil

-- Labels and pins stay, what hangs in memory hung there before and keeps its place, the same slots wait to be cleared, the same blocks are
-- to be closed, a settling takes out no other, and no device call is made.
pub record StaysCalm (old new : State) : Type 0 where
  pub labels : (b : ℕ) → new.label b ≡ old.label b
  pub marks : (b : ℕ) → (old.pinned b → new.pinned b) × (old.sealed b → new.sealed b)
  pub places : old.tells → (b : ℕ) (p : Place) → (old.covered b → ⊥) → IsRooted new b → old.stands b p → new.stands b p
  pub rooted : old.tells → (b : ℕ) → IsRooted new b ↔ IsRooted old b
  pub order : KeepsOrder none old new
  pub uncovered : (b : ℕ) → (old.covered b → ⊥) → new.covered b → ⊥
  pub covered : (b : ℕ) → old.covered b → new.covered b
  pub spared : (b : ℕ) → (IsDoomed old b → ⊥) → IsDoomed new b → ⊥
  pub linked : old.tells → (b : ℕ) → Reaches old.now (to_block 1) b → Reaches new.now (to_block 1) b
  pub apart : (b : ℕ) → old.apart b → new.apart b
  pub instead : (b x : ℕ) → new.instead b x → old.instead b x
  pub left : (new.spare ≡ old.spare) × (new.pins_left ≡ old.pins_left) × (new.usable ≡ old.usable)
  pub passes : (new.moments ≡ old.moments) × ((k : ℕ) (image : Image) → new.left k image → old.left k image)
  pub numbers : KeepsNumbers old new

-- No removal is queued, no leaf begins to wait, and no block becomes newborn.
pub record QueuesNone (old new : State) : Type 0 where
  pub queued : new.queued ≡ old.queued
  pub no_wait : AddsNoWait none old new
  pub newborn : (b : ℕ) → new.newborn b → old.newborn b

-- In memory these two entries are put, and all else stays.
pub record PutsPair (at p : ℕ) (first second : Entry) (old new : State) : Type 0 where
  pub bytes : (b : ℕ) → (new.now b).bytes ≡ (old.now b).bytes
  pub first_is : (new.now at).slot (2 * p) ≡ Head first
  pub second_is : (new.now at).slot (2 * p + 1) ≡ Head second
  pub others : (b j : ℕ) → (b ≢ at) ⊎ ((j ≢ 2 * p) × (j ≢ 2 * p + 1)) → (new.now b).slot j ≡ (old.now b).slot j

-- A leaf of records that is owned. It is no super block, so where it stands is a place of its label's kind.
pub record IsOwnedRecords (s : State) (at : ℕ) : Type 0 where
  pub is_pinned : s.pinned at
  pub current : (s.label at).epoch ≡ s.high
  pub leaf_kind : (s.label at).kind ≡ Data 0
  pub whole : length ((s.now at).bytes) ≡ 8192
  pub uncovered : s.covered at → ⊥
  pub other : s.tells → at ≢ 1

-- The leaf of records and the leaf of entries hung from block 1 when all was last settled, and do so in memory, and the second stands below
-- the first in rank.
pub record IsInPlace (s : State) (leaf entries : ℕ) : Type 0 where
  pub is_sealed : s.sealed leaf
  pub entries_sealed : s.sealed entries
  pub leaf_linked : Reaches s.now (to_block 1) leaf
  pub entries_linked : Reaches s.now (to_block 1) entries
  pub upper : Place
  pub lower : Place
  pub upper_stands : s.stands leaf upper
  pub lower_stands : s.stands entries lower
  pub falls : lower.rank < upper.rank

-- In memory these two entries and the bytes of this leaf are put, and all else stays.
pub record PutsName (leaf at p : ℕ) (first second : Entry) (bytes : List ℕ) (old new : State) : Type 0 where
  pub here : (new.now leaf).bytes ≡ bytes
  pub first_is : (new.now at).slot (2 * p) ≡ Head first
  pub second_is : (new.now at).slot (2 * p + 1) ≡ Head second
  pub other_bytes : (b : ℕ) → b ≢ leaf → (new.now b).bytes ≡ (old.now b).bytes
  pub other_slots : (b j : ℕ) → (b ≢ at) ⊎ ((j ≢ 2 * p) × (j ≢ 2 * p + 1)) → (new.now b).slot j ≡ (old.now b).slot j

-- An entry of a leaf that hung from block 1 when all was last settled may be cleared: it is in use and the first of its pair, or the first
-- waits; nothing is still to come in the place of another block, and no slot below the entry waits to be cleared.
pub record MayClear (s : State) (at j : ℕ) : Type 0 where
  pub is_sealed : s.sealed at
  pub waits : MayClearLater s at j
  pub none_comes : (y x : ℕ) → s.instead y x → ⊥
  pub quiet : (b i : ℕ) → s.clearing b i → Reaches s.now ((s.now at).slot j) b → ⊥

-- An entry of a leaf was cleared or waits for it, and all else in memory stays. Labels and pins stay, what hangs in memory hung there before
-- and keeps its place, nothing begins to wait for a leaf, no device call is made, and what didn't hang below the entry hangs where it did.
pub record ClearsAlone (at j : ℕ) (old new : State) : Type 0 where
  pub bytes : (b : ℕ) → (new.now b).bytes ≡ (old.now b).bytes
  pub slots : (b i : ℕ) → (b ≢ at) ⊎ (i ≢ j) → (new.now b).slot i ≡ (old.now b).slot i
  pub labels : (b : ℕ) → new.label b ≡ old.label b
  pub marks : (b : ℕ) → (old.pinned b → new.pinned b) × (old.sealed b → new.sealed b)
  pub places : old.tells → (b : ℕ) (p : Place) → (new.covered b → ⊥) → IsRooted new b → old.stands b p → new.stands b p
  pub rooted : old.tells → (b : ℕ) → IsRooted new b → IsRooted old b
  pub hangs : old.tells → (b : ℕ) → (Reaches old.now ((old.now at).slot j) b → ⊥) → IsRooted old b → IsRooted new b
  pub linked : old.tells → (b : ℕ) → (Reaches old.now ((old.now at).slot j) b → ⊥) → Reaches old.now (to_block 1) b → Reaches new.now (to_block 1) b
  pub apart : (b : ℕ) → old.apart b → new.apart b
  pub instead : (b x : ℕ) → new.instead b x → old.instead b x
  pub no_wait : AddsNoWait none old new
  pub left : (new.spare ≡ old.spare) × (new.pins_left ≡ old.pins_left) × (new.usable ≡ old.usable)
  pub passes : (new.moments ≡ old.moments) × ((k : ℕ) (image : Image) → new.left k image → old.left k image)
  pub numbers : KeepsNumbers old new
