-- What it means to own the block below a slot.
use Rattle.std.specs.Prelude.{◌≡◌, ◌≢◌, ◌⊎◌, ℕ, List, [], ◌∷◌}
use Rattle.fo_image.specs.declared.types.Pointer.TheVariants.{Local}
use Rattle.fo_crash.specs.declared.slot.Slot.{Slot}
use Rattle.fo_crash.specs.declared.slot.Slot.TheVariants.{Pointer as To, Entry as Head, Prev}
use Rattle.fo_crash.specs.Images.{Image, Arena, IsArena, from_block, target, goes}
use Rattle.fo_crash.specs.Shows.{Avoids, Keeps}

-- the slot with another target
abbrev pub led : Slot → ℕ → Slot
led (To p) to = To (Local to)
led (Head e) to = Head (record e { top = Local to })
led (Prev epoch at) to = Prev epoch at

-- A block has one way to it: paths that make no use of slot i of block `at` don't lead to it.
pub record HasOneWay (at i block : ℕ) (images : Image → Type 0) : Type 0 where
  pub each : (image : Image) → images image → (arena : Arena) → IsArena arena → (path : List ℕ) → Avoids arena image (from_block 1) at i path → target ((goes arena image (from_block 1) path).slot) ≢ Local block

-- All slots of a new image, but this one and those of the new block, are those of one image of before.
pub record MovesOne (at i block : ℕ) (old new : Image → Type 0) : Type 0 where
  pub each : (image : Image) → new image → (other : Image) × old other × ((b j : ℕ) → b ≢ block → (b ≢ at) ⊎ (j ≢ i) → (image b).slot j ≡ (other b).slot j)

-- the paths to the leaves but leaf k of the source of one level of pointers that is the first of the active root block
abbrev pub IsOtherLeaf : ℕ → List ℕ → Type 0
IsOtherLeaf k path = (j : ℕ) × (j ≢ k) × (path ≡ 0 ∷ 0 ∷ j ∷ [])

-- Each image keeps what an image of before showed at these paths, whatever the arena holds.
pub record KeepsAll (paths : List ℕ → Type 0) (old new : Image → Type 0) : Type 0 where
  pub each : (arena : Arena) → IsArena arena → Keeps arena (from_block 1) paths old new
