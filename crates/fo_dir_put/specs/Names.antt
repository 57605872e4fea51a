-- Which entries the records of a leaf name.
use Rattle.std.specs.Prelude.{◌≡◌, ◌≢◌, ◌⊎◌, ◌*◌, ◌/◌, ◌%◌, ℕ, List}
use Rattle.std.specs.List.{Contains}
use Rattle.fo_image.specs.declared.record.Record.{Record}
use Rattle.fo_good.specs.Reading.{leaf_records}
use Rattle.fo_crash.specs.Images.{Image}
use Rattle.fo_crash.specs.Names.{IsInUse, NamesFit, InAll}
use Rattle.fo_ports.specs.State.{State}

-- A record of the leaf with these bytes names entry j of leaf n of the entries, with this generation.
pub record ListsIn (n : ℕ) (bytes : List ℕ) (j generation : ℕ) : Type 0 where
  pub named : Record
  pub is_one : Contains (leaf_records bytes) named
  pub leaf : named.slot / 102 ≡ n
  pub entry : j ≡ 2 * (named.slot % 102)
  pub same : named.generation ≡ generation

-- In all these images each record of the leaf that names an entry of leaf n of the entries, which is this block, has it in use.
pub record AllFit (n leaf entries : ℕ) (images : Image → Type 0) : Type 0 where
  pub are : InAll (NamesFit (ListsIn n) leaf entries) images

-- Each record of these bytes stood in the leaf, or its entry is in use in memory and waits for no clearing.
pub record AreBacked (n leaf entries : ℕ) (bytes : List ℕ) (s : State) : Type 0 where
  pub each : (j generation : ℕ) → ListsIn n bytes j generation → ListsIn n ((s.now leaf).bytes) j generation ⊎ (IsInUse ((s.now entries).slot j) generation × (s.clearing entries j → ⊥))

-- Each record of the new bytes stood there before, with its pair and generation.
pub record AreKept (n : ℕ) (new old : List ℕ) : Type 0 where
  pub each : (j generation : ℕ) → ListsIn n new j generation → ListsIn n old j generation

-- Each record of the new bytes stood there before, or is one that names the first entry of pair p with this generation.
pub record AddsOne (n p generation : ℕ) (new old : List ℕ) : Type 0 where
  pub each : (j g : ℕ) → ListsIn n new j g → ListsIn n old j g ⊎ ((j ≡ 2 * p) × (g ≡ generation))

-- No record of these bytes names this entry.
pub record Lacks (n j : ℕ) (bytes : List ℕ) : Type 0 where
  pub each : (generation : ℕ) → ListsIn n bytes j generation → ⊥

-- Two records have one name, one number, or one pair.
abbrev pub Clash : Record → Record → Type 0
Clash r q = (r.name ≡ q.name) ⊎ ((r.number ≡ q.number) ⊎ (r.slot ≡ q.slot))

-- No name, number or pair stands in one of the leaves in one of these images, and in the other leaf in the same image or another.
pub record AllApart (a b : ℕ) (images : Image → Type 0) : Type 0 where
  pub each : (image other : Image) → images image → images other → (r q : Record) → Contains (leaf_records ((image a).bytes)) r → Contains (leaf_records ((other b).bytes)) q → Clash r q → ⊥

-- Each record of the new bytes has the name, number and pair of one that stood there before, or none of its own stands in another
-- leaf in any of these images.
pub record MayStand (other : ℕ) (new old : List ℕ) (images : Image → Type 0) : Type 0 where
  pub each : (r : Record) → Contains (leaf_records new) r → ((p : Record) × Contains (leaf_records old) p × (r.name ≡ p.name) × (r.number ≡ p.number) × (r.slot ≡ p.slot)) ⊎ ((image : Image) → images image → (q : Record) → Contains (leaf_records ((image other).bytes)) q → Clash r q → ⊥)

-- Each new image has the bytes of one of before, in every block.
pub record ShowsBytes (old new : Image → Type 0) : Type 0 where
  pub each : (image : Image) → new image → (other : Image) × old other × ((b : ℕ) → (image b).bytes ≡ (other b).bytes)

-- Each new image has the bytes of one of before, in every block but this one.
pub record ShowsBut (leaf : ℕ) (old new : Image → Type 0) : Type 0 where
  pub each : (image : Image) → new image → (other : Image) × old other × ((b : ℕ) → b ≢ leaf → (image b).bytes ≡ (other b).bytes)

-- Each new image is one of before, but for the bytes of this block.
pub record LeavesRest (leaf : ℕ) (old new : Image → Type 0) : Type 0 where
  pub each : (image : Image) → new image → (other : Image) × old other × ((b : ℕ) → b ≢ leaf → (image b).bytes ≡ (other b).bytes) × ((b j : ℕ) → (image b).slot j ≡ (other b).slot j)
