-- One step down a way: the block below a slot of a current block is made current.
use Rattle.std.specs.Prelude.{◌≡◌, ◌≢◌, ◌⊎◌, ◌↔◌, ◌+◌, ◌*◌, ◌<◌, ℕ, suc, List, length, take, drop, Some}
use Rattle.fo_image.specs.declared.types.Kind.{Kind}
use Rattle.fo_image.specs.declared.types.State.TheVariants.{Live}
use Rattle.fo_image.specs.declared.types.Pointer.{Pointer}
use Rattle.fo_image.specs.declared.types.Pointer.TheVariants.{Nil, Local, Score as Held}
use Rattle.fo_image.specs.Format.{kind_code}
use Rattle.fo_crash.specs.declared.place.Place.{Place}
use Rattle.fo_crash.specs.Images.{Image, SameContent, Reaches, target, to_block}
use Rattle.fo_crash.specs.Places.{place}
use Rattle.fo_tree_look.specs.of_ports.Blocks.{blank}
use Rattle.fo_tree_look.specs.of_ports.State.{State, IsRooted, none, KeepsOrder, AddsNoWait, Uses, KeepsNumbers}
use Rattle.fo_tree_look.specs.of_ports.Sources.{IsHung, Made, Changes}
use Rattle.fo_tree_look.specs.of_tree_read.declared.tree.Tree.{Tree}
use Rattle.fo_tree_look.specs.of_tree_read.Tree.{kind_at, score_of}
use Rattle.fo_tree_look.specs.declared.ways.Kept.{Kept}
use Rattle.fo_tree_look.specs.Source.{IsTold, IsPlainTree, IsPrepared, IsKept, find_kept}
use Rattle.fo_shown.specs.Shown.{ShowsNoMore}
use Rattle.fo_shown.specs.Alike.{StaysAlike}

-- What a device that tells has of a current block of a source, so many levels above its leaves. Only the source's top may come in its
-- place.
pub record OwnTold (s : State) (t : Tree) (level k at : ℕ) : Type 0 where
  pub stands : s.stands at (place (kind_at t.dir level) t.tag k (t.rank + level))
  pub uncovered : s.covered at → ⊥
  pub hung : IsHung s at
  pub alone : (y : ℕ) → s.instead y at → t.top ≡ Local y

-- An image is one of before, but for this block.
pub record IsBeside (at : ℕ) (s : State) (image : Image) : Type 0 where
  pub other : Image
  pub was : s.may_leave other
  pub same : (b : ℕ) → b ≢ at → SameContent (image b) (other b)

-- A block of this kind was given out, leads to no block, and is put nowhere.
pub record IsBare (s : State) (kind : Kind) (at : ℕ) : Type 0 where
  pub is_pinned : s.pinned at
  pub has_kind : (s.label at).kind ≡ kind
  pub current : (s.label at).epoch ≡ s.high
  pub long : length ((s.now at).bytes) ≡ 8192
  pub is_apart : s.apart at
  pub uncovered : s.covered at → ⊥
  pub unwaited : (a j : ℕ) → s.waits a at j → ⊥
  pub still : (j : ℕ) → s.clearing at j → ⊥
  pub bare : (j b : ℕ) → target ((s.now at).slot j) ≢ Local b

-- A block has what was kept under a score: a leaf these bytes, and a block of pointers the scores that they spell.
pub record HasKept (s : State) (level at : ℕ) (bytes : List ℕ) : Type 0 where
  pub leaf : level ≡ 0 → (s.now at).bytes ≡ bytes
  pub slots : 0 < level → (j : ℕ) → j < 409 → target ((s.now at).slot j) ≡ score_of (take 20 (drop (20 * j) bytes))

-- A block that was given out and put nowhere was filled with what leads to no block; all else stays.
pub record Filled (at : ℕ) (old new : State) : Type 0 where
  pub others : (b : ℕ) → b ≢ at → SameContent (new.now b) (old.now b)
  pub images : (image : Image) → new.may_leave image → IsBeside at old image
  pub labels : (b : ℕ) → new.label b ≡ old.label b
  pub marks : (b : ℕ) → (old.pinned b → new.pinned b) × (old.sealed b → new.sealed b) × (old.fresh b → new.fresh b)
  pub places : old.tells → (b : ℕ) (p : Place) → (new.covered b → ⊥) → IsRooted new b → old.stands b p → new.stands b p
  pub rooted : old.tells → (b : ℕ) → IsRooted new b → IsRooted old b
  pub newborn : (b : ℕ) → new.newborn b → old.newborn b
  pub apart : (b : ℕ) → new.apart b ↔ old.apart b
  pub instead : (b x : ℕ) → new.instead b x ↔ old.instead b x
  pub waits : (a on j : ℕ) → on ≢ at → old.waits a on j → new.waits a on j
  pub order : KeepsOrder none old new
  pub still : (b : ℕ) → old.covered b → new.covered b
  pub only : (b : ℕ) → (old.covered b → ⊥) → new.covered b → ⊥
  pub no_wait : AddsNoWait none old new
  pub dirty : (b : ℕ) → new.dirty b → old.dirty b ⊎ (b ≡ at)
  pub uses : Uses 0 0 old new
  pub numbers : KeepsNumbers old new

-- Block k of a source at this level is current: it may be changed.
pub record IsOwn (s : State) (t : Tree) (level k at : ℕ) : Type 0 where
  pub is_pinned : s.pinned at
  pub live : (s.label at).state ≡ Live
  pub has_kind : (s.label at).kind ≡ kind_at t.dir level
  pub tagged : (s.label at).tag ≡ t.tag
  pub current : (s.label at).epoch ≡ s.high
  pub long : length ((s.now at).bytes) ≡ 8192
  pub told : s.tells → OwnTold s t level k at

-- An image is one of before, but for a block that was given out, and for one slot, which is that of the image of before, or is what memory
-- has now. No path from a top led to the block.
pub record IsBehind (at i result : ℕ) (old new : State) (image : Image) : Type 0 where
  pub other : Image
  pub was : old.may_leave other
  pub bytes : (b : ℕ) → b ≢ result → (image b).bytes ≡ (other b).bytes
  pub slots : (b j : ℕ) → b ≢ result → (b ≢ at) ⊎ (j ≢ i) → (image b).slot j ≡ (other b).slot j
  pub here : ((image at).slot i ≡ (other at).slot i) ⊎ ((image at).slot i ≡ (new.now at).slot i)
  pub apart : (t : ℕ) → old.tops t → Reaches other (to_block t) result → ⊥

-- No block but the one to which this pointer led is to be closed that was not.
pub record OnlyCovers (was : Pointer) (old new : State) : Type 0 where
  pub still : (b : ℕ) → old.covered b → new.covered b
  pub only : (b : ℕ) → (old.covered b → ⊥) → (was ≡ Local b → ⊥) → new.covered b → ⊥

-- The block below slot i of a current block, to which this pointer led, was given out anew, and the slot leads to it. No image shows more
-- leaves of records, and what an entry would lead to from its slot shows no more than memory's entry, where it didn't before.
pub record Links (t : Tree) (level k at i : ℕ) (was : Pointer) (result : ℕ) (old new : State) : Type 0 where
  pub made : Made old new result
  pub own : IsOwn new t level (409 * k + i) result
  pub above : IsOwn new t (suc level) k at
  pub leads : target ((new.now at).slot i) ≡ Local result
  pub slots : (b j : ℕ) → b ≢ result → (b ≢ at) ⊎ (j ≢ i) → (new.now b).slot j ≡ (old.now b).slot j
  pub bytes : (b : ℕ) → b ≢ result → (new.now b).bytes ≡ (old.now b).bytes
  pub labels : (b : ℕ) → b ≢ result → new.label b ≡ old.label b
  pub images : (image : Image) → new.may_leave image → IsBehind at i result old new image
  pub shown : ShowsNoMore old.may_leave new.may_leave
  pub alike : StaysAlike old new
  pub apart : (b : ℕ) → b ≢ result → new.apart b ↔ old.apart b
  pub instead : (b x : ℕ) → new.instead b x → old.instead b x
  pub still : (b x : ℕ) → b ≢ result → old.instead b x → new.instead b x
  pub below : old.tells → (w b : ℕ) (p : Place) → old.stands w p → (was ≡ Local b → ⊥) → Reaches old.now (to_block w) b → Reaches new.now (to_block w) b
  pub reached : old.tells → (b : ℕ) → (was ≡ Local b → ⊥) → Reaches old.now (to_block 1) b → Reaches new.now (to_block 1) b
  pub in_tree : old.tells → (b : ℕ) → was ≡ Local b → Reaches old.now (to_block 1) b
  pub hung : old.tells → (b : ℕ) → (was ≡ Local b → ⊥) → IsHung old b → IsHung new b
  pub places : old.tells → (b : ℕ) (p : Place) → b ≢ result → (new.covered b → ⊥) → IsRooted new b → old.stands b p → new.stands b p
  pub rooted : old.tells → (b : ℕ) → b ≢ result → IsRooted new b → IsRooted old b
  pub older : (b : ℕ) → was ≡ Local b → (old.label b).epoch < old.high
  pub covers : OnlyCovers was old new
  pub waits : (a on j : ℕ) → on ≢ result → a ≢ result → old.waits a on j → new.waits a on j
  pub goes_on : (b j : ℕ) → b ≢ result → old.clearing b j → new.clearing b j
  pub spare : new.spare + 1 ≡ old.spare
  pub usable : new.usable + 1 ≡ old.usable
  pub room : new.room ≡ old.room
  pub changes : Changes t.tag (λ b. (b ≡ at) ⊎ (was ≡ Local b)) (λ b. b ≡ at) old new

-- What a slot leads to can be made current: it is prepared, and where the device tells a block of the source.
abbrev pub CanOwn : State → Tree → List Kept → ℕ → Pointer → Type 0
CanOwn s t kept level Nil = Unit {0}
CanOwn s t kept level (Local at) = IsPrepared s (kind_at t.dir level) t.tag at × (s.tells → IsTold s t.top at)
CanOwn s t kept level (Held score) = IsKept kept score (kind_code (kind_at t.dir level)) × (IsPlainTree t ⊎ (0 < level))

-- A block has what was there: what the block had to which this pointer led, what was kept under its score, or zeros.
abbrev pub Becomes : (old new : State) → Tree → List Kept → ℕ → Pointer → ℕ → Type 0
Becomes old new t kept level Nil at = SameContent (new.now at) (blank (kind_at t.dir level))
Becomes old new t kept level (Local b) at = SameContent (new.now at) (old.now b)
Becomes old new t kept level (Held score) at = (bytes : List ℕ) → find_kept kept score (kind_code (kind_at t.dir level)) ≡ Some bytes → HasKept new level at bytes
