-- Levels are put above the top of a source, one after another.
use Rattle.std.specs.Prelude.{◌≡◌, ◌⊎◌, ◌↔◌, ◌+◌, ◌^◌, ◌<◌, ℕ, List}
use Rattle.fo_image.specs.declared.types.Pointer.{Pointer}
use Rattle.fo_image.specs.declared.types.Pointer.TheVariants.{Local}
use Rattle.fo_crash.specs.declared.place.Place.{Place}
use Rattle.fo_crash.specs.Images.{Image, SameContent, Reaches, to_block}
use Rattle.fo_ports.specs.State.{State, IsRooted, none, AddsNoWait, KeepsNumbers}
use Rattle.fo_ports.specs.Sources.{IsHung, Made, IsMade, Stead}
use Rattle.fo_tree_read.specs.declared.tree.Tree.{Tree}
use Rattle.fo_tree_look.specs.declared.ways.Kept.{Kept}
use Rattle.fo_tree_look.specs.Source.{WayReady}
use Rattle.fo_tree_down.specs.Way.{OnWay}

-- An image is one of before, but for blocks that were given out, to which no path from a top leads.
pub record IsAmong (s u : State) (image : Image) : Type 0 where
  pub other : Image
  pub was : s.may_leave other
  pub same : (b : ℕ) → (Made s u b → ⊥) → SameContent (image b) (other b)
  pub apart : (top b : ℕ) → s.tops top → Made s u b → Reaches other (to_block top) b → ⊥

-- Only blocks differ that were given out. What comes in the place of another comes in that of these blocks (`mine`), or of what they came
-- in the place of; and these alone may hang somewhere now that hung nowhere.
pub record Adds (tag : ℕ) (mine : ℕ → Type 0) (s u : State) : Type 0 where
  pub same : (b : ℕ) → (Made s u b → ⊥) → SameContent (u.now b) (s.now b)
  pub images : (image : Image) → u.may_leave image → IsAmong s u image
  pub made : (b : ℕ) → Made s u b → IsMade tag s u b
  pub uncovered : (b : ℕ) → Made s u b → u.covered b → ⊥
  pub labels : (b : ℕ) → (Made s u b → ⊥) → u.label b ≡ s.label b
  pub marks : (b : ℕ) → (Made s u b → ⊥) → (s.pinned b → u.pinned b) × (s.sealed b → u.sealed b) × (s.fresh b → u.fresh b)
  pub apart : (b : ℕ) → (Made s u b → ⊥) → (u.apart b → s.apart b) × (s.apart b → u.apart b ⊎ mine b)
  pub places : s.tells → (b : ℕ) (p : Place) → (Made s u b → ⊥) → (u.covered b → ⊥) → IsRooted u b → s.stands b p → u.stands b p
  pub rooted : s.tells → (b : ℕ) → (Made s u b → ⊥) → IsRooted u b → IsRooted s b
  pub instead : (b x : ℕ) → u.instead b x → ((Made s u b → ⊥) × s.instead b x) ⊎ (Made s u b × Stead s mine x)
  pub still : (b : ℕ) → s.covered b → u.covered b
  pub only : (b : ℕ) → (s.covered b → ⊥) → u.covered b → ⊥
  pub reached : s.tells → (b : ℕ) → Reaches s.now (to_block 1) b ↔ Reaches u.now (to_block 1) b
  pub hung : s.tells → (b : ℕ) → IsHung s b → IsHung u b
  pub waits : (a on j : ℕ) → (Made s u a → ⊥) → (Made s u on → ⊥) → s.waits a on j → u.waits a on j
  pub no_wait : AddsNoWait none s u
  pub clearing : (b j : ℕ) → u.clearing b j → (Made s u b → ⊥) × s.clearing b j
  pub goes_on : (b j : ℕ) → (Made s u b → ⊥) → s.clearing b j → u.clearing b j
  pub dirty : (b : ℕ) → u.dirty b → s.dirty b ⊎ (Made s u b ⊎ ((x : ℕ) × Made s u x × (b ≡ u.label_block x)))
  pub moments : u.moments ≡ s.moments
  pub left : (k : ℕ) (image : Image) → u.left k image → s.left k image
  pub pins : u.pins_left ≡ s.pins_left
  pub usable : s.usable + u.spare ≡ u.usable + s.spare
  pub room : u.room ≡ s.room
  pub numbers : KeepsNumbers s u

-- the tree below this pointer, with so many levels more
abbrev pub grown : Tree → ℕ → Pointer → Tree
grown t levels top = record t { depth = t.depth + levels; top = top }

-- So many levels were put above the top: it is the last block that was given out, and put nowhere yet.
pub record IsTopAfter (s u : State) (t : Tree) (levels : ℕ) (top : Pointer) : Type 0 where
  pub same : levels ≡ 0 → (top ≡ t.top) × ((b : ℕ) → s.apart b → u.apart b)
  pub new : 0 < levels → (b : ℕ) × (top ≡ Local b) × Made s u b × u.apart b

-- What a new top comes in the place of: the source's top, where that was put into a slot, or what that came in the place of.
abbrev pub InStead : State → Tree → ℕ → Type 0
InStead s t x = (c : ℕ) × (t.top ≡ Local c) × (((c ≡ x) × (s.apart c → ⊥)) ⊎ s.instead c x)

-- The ways to leaves of a source with more levels: one that was prepared is so, and leads to the blocks of before below those that were
-- given out; behind the room that there was there are no other blocks than these.
pub record KeepsWays (s u : State) (t : Tree) (kept : List Kept) (levels : ℕ) (top : Pointer) : Type 0 where
  pub ready : (j : ℕ) → j < 409 ^ (t.depth + levels) → (j < 409 ^ t.depth → WayReady s t kept t.depth j) → WayReady u (grown t levels top) kept (t.depth + levels) j
  pub ways : (j b : ℕ) → j < 409 ^ (t.depth + levels) → (j < 409 ^ t.depth → WayReady s t kept t.depth j) → OnWay u (grown t levels top) (t.depth + levels) j b → ((j < 409 ^ t.depth) × OnWay s t t.depth j b) ⊎ Made s u b
