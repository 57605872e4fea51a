-- What images show at paths, and what is kept of it.
use Rattle.std.specs.Prelude.{◌≡◌, ◌≢◌, ◌⊎◌, ℕ, List, [], ◌∷◌}
use Rattle.fo_image.specs.declared.types.Kind.{Kind}
use Rattle.fo_image.specs.declared.types.Score.{Score}
use Rattle.fo_image.specs.declared.types.Pointer.{Pointer}
use Rattle.fo_image.specs.declared.types.Pointer.TheVariants.{Nil, Local, Score as Held}
use Rattle.fo_crash.specs.declared.slot.Slot.{Slot}
use Rattle.fo_crash.specs.Images.{Content, Image, Arena, Link, target, note, goes, step, bytes_at, Same}

-- Each new image shows at these paths what some image of before shows.
pub record Keeps (arena : Arena) (top : Link) (paths : List ℕ → Type 0) (old new : Image → Type 0) : Type 0 where
  pub from : (image : Image) → new image → (other : Image) × old other × ((path : List ℕ) → paths path → Same arena image top other top path)

-- what each path shall find: a slot but for its address, and bytes
abbrev pub Plain : Type 0
Plain = List ℕ → Slot × List ℕ

-- Every image shows this at these paths.
pub record AllShow (arena : Arena) (top : Link) (paths : List ℕ → Type 0) (plain : Plain) (images : Image → Type 0) : Type 0 where
  pub each : (image : Image) → images image → (path : List ℕ) → paths path → (note ((goes arena image top path).slot) ≡ (plain path).0) × (bytes_at arena image top path ≡ (plain path).1)

-- Every image has this at these paths: a fact of the path, the slot but for its address, and the bytes.
pub record AllHold (arena : Arena) (top : Link) (paths : List ℕ → Type 0) (fact : List ℕ → Slot → List ℕ → Type 0) (images : Image → Type 0) : Type 0 where
  pub each : (image : Image) → images image → (path : List ℕ) → paths path → fact path (note ((goes arena image top path).slot)) (bytes_at arena image top path)

-- every path
abbrev pub Everywhere : List ℕ → Type 0
Everywhere path = Unit {0}

-- the paths from block 1 that begin with its way to the active root
abbrev pub FromRoot : List ℕ → Type 0
FromRoot [] = ⊥
FromRoot (i ∷ path) = i ≡ 0

-- the paths from block 1 into the tree below the active root block: not that block's own bytes, nor its slot of the root before
abbrev pub BelowRoot : List ℕ → Type 0
BelowRoot [] = ⊥
BelowRoot (i ∷ []) = ⊥
BelowRoot (i ∷ j ∷ path) = (i ≡ 0) × (j ≢ 2)

-- A path makes no use of slot i of block `at`.
abbrev pub Avoids : Arena → Image → Link → ℕ → ℕ → List ℕ → Type 0
Avoids arena image w at i [] = Unit {0}
Avoids arena image w at i (j ∷ path) = ((target w.slot ≢ Local at) ⊎ (j ≢ i)) × Avoids arena image (step arena image w j) at i path

-- related addresses, and equal scores
abbrev pub SameTarget : (ℕ → ℕ → Type 0) → Pointer → Pointer → Type 0
SameTarget B Nil Nil = Unit {0}
SameTarget B (Local a) (Local b) = B a b
SameTarget B (Held x) (Held y) = x ≡ y
SameTarget B _ _ = ⊥

pub record SameSlot (B : ℕ → ℕ → Type 0) (s t : Slot) : Type 0 where
  pub notes : note s ≡ note t
  pub targets : SameTarget B (target s) (target t)

pub record SameBlock (B : ℕ → ℕ → Type 0) (c d : Content) : Type 0 where
  pub bytes : c.bytes ≡ d.bytes
  pub slots : (i : ℕ) → SameSlot B (c.slot i) (d.slot i)

-- Related addresses have contents whose bytes are equal and whose slots are related.
pub record Matches (B : ℕ → ℕ → Type 0) (arena : Arena) (image other : Image) : Type 0 where
  pub blocks : (a b : ℕ) → B a b → SameBlock B (image a) (other b)
  pub held : (kind : Kind) (score : Score) → SameBlock B (arena kind score) (arena kind score)
