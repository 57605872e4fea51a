-- A directory's names and its entries, in every image.
use Rattle.std.specs.Prelude.{◌≡◌, ℕ, List, true}
use Rattle.fo_crash.specs.declared.slot.Slot.{Slot}
use Rattle.fo_crash.specs.declared.slot.Slot.TheVariants.{Pointer as To, Entry as Head, Prev}
use Rattle.fo_crash.specs.Images.{Image}

-- the entry is in use, in this generation
abbrev pub IsInUse : Slot → ℕ → Type 0
IsInUse (Head e) generation = (e.active ≡ true) × (e.generation ≡ generation)
IsInUse (To p) generation = ⊥
IsInUse (Prev epoch at) generation = ⊥

-- Two entries are in the same use: all but size, depth and top are equal. Other slots are equal.
abbrev pub SameUse : Slot → Slot → Type 0
SameUse (Head e) (Head f) = (e.generation ≡ f.generation) × (e.active ≡ f.active) × (e.dir ≡ f.dir) × (e.tag ≡ f.tag)
SameUse s t = s ≡ t

-- Each record that a leaf holds has its entry in use with its generation, in this image. `Lists bytes i generation`: a record of
-- the leaf with these bytes names entry i of the entry leaf with this generation.
pub record NamesFit (Lists : List ℕ → ℕ → ℕ → Type 0) (leaf entries : ℕ) (image : Image) : Type 0 where
  pub each : (i generation : ℕ) → Lists ((image leaf).bytes) i generation → IsInUse ((image entries).slot i) generation

-- No name stands in two of these leaves. `HasName bytes name`: the leaf with these bytes has that name.
pub record NamesDiffer (HasName : List ℕ → List ℕ → Type 0) (leaves : ℕ → Type 0) (image : Image) : Type 0 where
  pub each : (name : List ℕ) (a b : ℕ) → leaves a → leaves b → HasName ((image a).bytes) name → HasName ((image b).bytes) name → a ≡ b

-- Every image has P.
pub record InAll (P : Image → Type 0) (images : Image → Type 0) : Type 0 where
  pub each : (image : Image) → images image → P image
