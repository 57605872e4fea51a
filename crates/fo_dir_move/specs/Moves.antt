-- What a move of a record asks of the settling in between, and what it leaves.
use Rattle.std.specs.Prelude.{◌≡◌, ◌≢◌, ◌⊎◌, ◌+◌, ◌*◌, ◌/◌, ◌%◌, ◌≤◌, ℕ, List}
use Rattle.std.specs.List.{Contains}
use Rattle.fo_image.specs.declared.record.Record.{Record}
use Rattle.fo_image.specs.declared.types.State.TheVariants.{Live}
use Rattle.fo_dir_put.specs.of_good.Reading.{leaf_records}
use Rattle.fo_crash.specs.declared.place.Place.{Place}
use Rattle.fo_crash.specs.Images.{Image, Reaches, to_block}
use Rattle.fo_crash.specs.Steps.{Through}
use Rattle.fo_crash.specs.Spots.{Spot, FoundAt}
use Rattle.fo_crash.specs.Names.{IsInUse}
use Rattle.fo_ports.specs.State.{State, IsDoomed, IsRooted, IsPointers, KeepsSlot, WasCleared, KeepsNumbers}
use Rattle.fo_dir_put.specs.Names.{ListsIn, AreKept, Clash}
use Rattle.fo_dir_put.specs.Paired.{HasBoth, StoodAs, AllStood}
use Rattle.fo_dir_put.specs.of_shown.Shown.{active, IsOfRecords}
use Rattle.fo_dir_put.specs.Once.{IsSameDir}
use Rattle.fo_dir_put.specs.Puts.{IsHeldEntries, IsOwnedRecords, IsInPlace}

-- Nothing comes in the place of what a settling takes out, and it takes out none of these three blocks, which hang in memory.
pub record MaySettle (s : State) (from to entries : ℕ) : Type 0 where
  pub apart : (y x : ℕ) → s.instead y x → IsDoomed s x → ⊥
  pub stay : (b : ℕ) → (b ≡ from) ⊎ ((b ≡ to) ⊎ (b ≡ entries)) → (IsDoomed s b → ⊥) × IsRooted s b

-- Two leaves of records that are owned, in place, and above a leaf of entries.
pub record AreReady (s : State) (from to entries : ℕ) : Type 0 where
  pub from_owned : IsOwnedRecords s from
  pub to_owned : IsOwnedRecords s to
  pub held : IsHeldEntries s entries
  pub from_place : s.tells → IsInPlace s from entries
  pub to_place : s.tells → IsInPlace s to entries

-- The leaf of entries keeps each slot that waits for no clearing, and that waits for none then.
pub record KeepsEntries (entries : ℕ) (old new : State) : Type 0 where
  pub each : (j : ℕ) → (old.clearing entries j → ⊥) → ((new.now entries).slot j ≡ (old.now entries).slot j) × (new.clearing entries j → ⊥)

-- What memory has of the two leaves.
pub record HasLeaves (from to : ℕ) (from_bytes to_bytes : List ℕ) (s : State) : Type 0 where
  pub from_is : (s.now from).bytes ≡ from_bytes
  pub to_is : (s.now to).bytes ≡ to_bytes

-- Each record of these bytes is one of those, or its entry is in use in memory and waits for no clearing.
pub record Backs (n entries : ℕ) (bytes others : List ℕ) (s : State) : Type 0 where
  pub each : (j generation : ℕ) → ListsIn n bytes j generation → ListsIn n others j generation ⊎ (IsInUse ((s.now entries).slot j) generation × (s.clearing entries j → ⊥))

-- What is left in the leaf was there; what is put into the other, and what is put back, was there or has its entry in use.
pub record MayMove (n from to entries : ℕ) (without with : List ℕ) (s : State) : Type 0 where
  pub kept : AreKept n without ((s.now from).bytes)
  pub put : Backs n entries with ((s.now to).bytes) s
  pub back : Backs n entries ((s.now from).bytes) without s

-- A record of these bytes has this one's name, number and pair.
pub record HasKeys (bytes : List ℕ) (r : Record) : Type 0 where
  pub keyed : Record
  pub is_one : Contains (leaf_records bytes) keyed
  pub same : (r.name ≡ keyed.name) × (r.number ≡ keyed.number) × (r.slot ≡ keyed.slot)

-- What is left in the leaf was there. What is put into the other was there, or was in the first and clashes with nothing left in it.
pub record MovesKeys (from_bytes to_bytes without with : List ℕ) : Type 0 where
  pub kept : (r : Record) → Contains (leaf_records without) r → HasKeys from_bytes r
  pub moved : (r : Record) → Contains (leaf_records with) r → HasKeys to_bytes r ⊎ (HasKeys from_bytes r × ((q : Record) → Contains (leaf_records without) q → Clash r q → ⊥))

-- Memory finds both leaves from block 1, at spots of records of one directory.
pub record AreOfOneDir (from to : ℕ) (s : State) : Type 0 where
  pub from_spot : Spot
  pub to_spot : Spot
  pub from_found : FoundAt active s.now from from_spot
  pub to_found : FoundAt active s.now to to_spot
  pub of_records : IsOfRecords from_spot × IsOfRecords to_spot
  pub same : IsSameDir from_spot to_spot

-- Memory keeps a block, but for the bytes of the two leaves; each slot stays, and waits on where it waited, or it waited and was cleared.
pub record StaysBut (from to b : ℕ) (old new : State) : Type 0 where
  pub bytes : b ≢ from → b ≢ to → (new.now b).bytes ≡ (old.now b).bytes
  pub slots : (j : ℕ) → KeepsSlot old new b j

-- The same of a block that is not doomed; it is not to be closed, and keeps its place where it hung in memory and hangs there still.
pub record StaysSpared (from to b : ℕ) (old new : State) : Type 0 where
  pub content : StaysBut from to b old new
  pub uncovered : new.covered b → ⊥
  pub places : IsRooted old b → IsRooted new b → (p : Place) → old.stands b p → new.stands b p

-- A move leaves all but the bytes of its two leaves: blocks that are pinned, and where the device tells all that no removal and no
-- slot that waits takes out of the tree. Slots that waited may be cleared; what was to be closed, or hung from such a slot through blocks
-- of pointers and hangs from block 1 no more, is to be closed, until it is. Each image is one of before but for these bytes.
pub record MovesAlone (from to : ℕ) (old new : State) : Type 0 where
  pub labels : (b : ℕ) → new.label b ≡ old.label b
  pub marks : (b : ℕ) → (old.pinned b → new.pinned b) × (old.sealed b → new.sealed b)
  pub known : (b : ℕ) → old.pinned b → StaysBut from to b old new
  pub blocks : old.tells → (b : ℕ) → (IsDoomed old b → ⊥) → StaysSpared from to b old new
  pub linked : old.tells → (b : ℕ) → (IsDoomed old b → ⊥) → Reaches old.now (to_block 1) b → Reaches new.now (to_block 1) b
  pub order : (b j : ℕ) → new.clearing b j → old.clearing b j
  pub apart : (b : ℕ) → old.apart b → new.apart b
  pub instead : (b x : ℕ) → new.instead b x → old.instead b x
  pub closes : old.tells → (b : ℕ) → old.covered b → new.covered b ⊎ ((new.label b).state ≢ Live)
  pub leaves : old.tells → (at j b : ℕ) → WasCleared old new at j → Through (IsPointers old) old.now ((old.now at).slot j) b → Reaches old.now (to_block 1) b → (Reaches new.now (to_block 1) b → ⊥) → new.covered b ⊎ ((new.label b).state ≢ Live)
  pub left : (new.spare ≡ old.spare) × (new.pins_left ≡ old.pins_left) × (old.usable ≤ new.usable)
  pub numbers : KeepsNumbers old new
  pub images : (image : Image) → new.may_leave image → (other : Image) × old.may_leave other × ((b : ℕ) → b ≢ from → b ≢ to → (image b).bytes ≡ (other b).bytes) × ((b j : ℕ) → (image b).slot j ≡ (other b).slot j)

-- All is settled but the bytes of one leaf: every image has the rest as memory has it, no slot waits, and all blocks of the tree are in place.
pub record IsSettledBut (leaf : ℕ) (s : State) : Type 0 where
  pub bytes : (image : Image) → s.may_leave image → (b : ℕ) → b ≢ leaf → (image b).bytes ≡ (s.now b).bytes
  pub slots : (image : Image) → s.may_leave image → (b j : ℕ) → (image b).slot j ≡ (s.now b).slot j
  pub none : (b j : ℕ) → s.clearing b j → ⊥
  pub sealed : s.tells → (b : ℕ) → Reaches s.now (to_block 1) b → s.sealed b

-- Each record of these bytes stood in those, or has its pair in memory, in the leaf of entries that is waited for, where neither entry waits
-- to be cleared.
pub record BacksBoth (n e entries : ℕ) (bytes others : List ℕ) (s : State) : Type 0 where
  pub each : (r : Record) → Contains (leaf_records bytes) r → r.slot / 102 ≡ n → StoodAs others r ⊎ ((e ≡ entries) × HasBoth entries s.now r × (s.clearing entries (2 * (r.slot % 102)) → ⊥) × (s.clearing entries (2 * (r.slot % 102) + 1) → ⊥))

-- What is left in the first leaf stood there; what is put into the other, and what is put back, stood there or has its pair. The settling
-- leaves the leaf of entries, but for slots that wait to be cleared.
pub record MovesPaired (n a from to e entries : ℕ) (without with : List ℕ) (s : State) : Type 0 where
  pub kept : a ≡ from → AllStood n without ((s.now from).bytes)
  pub put : a ≡ to → BacksBoth n e entries with ((s.now to).bytes) s
  pub back : a ≡ from → BacksBoth n e entries ((s.now from).bytes) without s
  pub stays : s.pinned e ⊎ (IsDoomed s e → ⊥)
