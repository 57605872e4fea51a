-- What calls on a source change, one after another.
use Rattle.std.specs.Prelude.{◌≡◌, ◌⊎◌, ◌↔◌, ◌+◌, ◌<◌, ℕ, List}
use Rattle.fo_image.specs.declared.types.Pointer.TheVariants.{Local}
use Rattle.fo_ports.specs.of_crash.declared.place.Place.{Place}
use Rattle.fo_ports.specs.of_crash.Images.{Image, SameContent, Reaches, to_block}
use Rattle.fo_ports.specs.State.{State, IsRooted, KeepsAll, KeepsNumbers, AddsNoWait, none}
use Rattle.fo_ports.specs.Sources.{Made, Touched, IsMade, StaysMarked}
use Rattle.fo_tree_leaf.specs.of_tree_read.declared.tree.Tree.{Tree}
use Rattle.fo_tree_leaf.specs.of_tree_look.declared.ways.Kept.{Kept}
use Rattle.fo_tree_leaf.specs.of_tree_look.Source.{HasBlock, WayReady}
use Rattle.fo_tree_leaf.specs.of_tree_down.Way.{OnWay, IsLed, WayCurrent, with_top}

-- As `Undone` of the trait of sources, and a slot that isn't the one of before was led to a block that was given out.
pub record Behind (touched : ℕ → Type 0) (old new : State) (image : Image) : Type 0 where
  pub other : Image
  pub was : old.may_leave other
  pub same : (b : ℕ) → (touched b → ⊥) → SameContent (image b) (other b)
  pub slots : (b j : ℕ) → (Made old new b → ⊥) → ((image b).slot j ≡ (other b).slot j) ⊎ (IsLed old new b j × ((image b).slot j ≡ (new.now b).slot j))
  pub apart : (t b : ℕ) → old.tops t → Made old new b → Reaches other (to_block t) b → ⊥

-- As `Changes` of the trait of sources, and more: a slot is put once, and what is current stays where it is.
pub record Steps (tag : ℕ) (mine inner : ℕ → Type 0) (old new : State) : Type 0 where
  pub memory : (b : ℕ) → (Touched old new tag inner b → ⊥) → SameContent (new.now b) (old.now b)
  pub slots : (b j : ℕ) → (Made old new b → ⊥) → ((new.now b).slot j ≡ (old.now b).slot j) ⊎ IsLed old new b j
  pub images : (image : Image) → new.may_leave image → Behind (Touched old new tag inner) old new image
  pub made : (b : ℕ) → Made old new b → IsMade tag old new b
  pub free : old.tells → (b : ℕ) → Made old new b → new.covered b → ⊥
  pub others : (b : ℕ) → (Made old new b → ⊥) → StaysMarked old new b
  pub apart : (b : ℕ) → (Made old new b → ⊥) → new.apart b ↔ old.apart b
  pub places : old.tells → (b : ℕ) (p : Place) → (Made old new b → ⊥) → (mine b → ⊥) → (new.covered b → ⊥) → IsRooted new b → old.stands b p → new.stands b p
  pub rooted : old.tells → (b : ℕ) → (Made old new b → ⊥) → IsRooted new b → IsRooted old b
  pub instead : (b x : ℕ) → new.instead b x → old.instead b x ⊎ (Made old new b × mine x × ((old.label x).epoch < old.high))
  pub still : (b : ℕ) → old.covered b → new.covered b
  pub only : (b : ℕ) → (old.covered b → ⊥) → (mine b → ⊥) → new.covered b → ⊥
  pub aged : (b : ℕ) → (old.covered b → ⊥) → new.covered b → (old.label b).epoch < old.high
  pub leaves : old.tells → (b : ℕ) → Reaches old.now (to_block 1) b → (Reaches new.now (to_block 1) b → ⊥) → new.covered b
  pub in_tree : old.tells → (b : ℕ) → (mine b → ⊥) → Reaches old.now (to_block 1) b → Reaches new.now (to_block 1) b
  pub current : old.tells → (b : ℕ) → (old.label b).epoch ≡ old.high → Reaches old.now (to_block 1) b → Reaches new.now (to_block 1) b
  pub waits : (a on j : ℕ) → (Made old new a → ⊥) → (Made old new on → ⊥) → old.waits a on j → new.waits a on j
  pub no_wait : AddsNoWait none old new
  pub clearing : (b j : ℕ) → new.clearing b j → (Made old new b → ⊥) × old.clearing b j
  pub goes_on : (b j : ℕ) → (Made old new b → ⊥) → old.clearing b j → new.clearing b j
  pub dirty : (b : ℕ) → new.dirty b → old.dirty b ⊎ (Touched old new tag mine b ⊎ ((x : ℕ) × Made old new x × (b ≡ new.label_block x)))
  pub moments : new.moments ≡ old.moments
  pub left : (k : ℕ) (image : Image) → new.left k image → old.left k image
  pub pins : new.pins_left ≡ old.pins_left
  pub usable : old.usable + new.spare ≡ new.usable + old.spare
  pub room : new.room ≡ old.room
  pub numbers : KeepsNumbers old new
  pub all : KeepsAll old new

-- What the step that put bytes into leaf k of a source says to one that follows: it was by the way to that leaf, which is current now.
pub record IsStep (s u : State) (t : Tree) (kept : List Kept) (k top : ℕ) : Type 0 where
  pub steps : Steps t.tag (OnWay s t t.depth k) (OnWay s t t.depth k) s u
  pub ways : (j b : ℕ) → WayReady s t kept t.depth j → OnWay u (with_top t top) t.depth j b → OnWay s t t.depth j b ⊎ Made s u b
  pub stays : s.tells → (b : ℕ) → HasBlock s t b → (s.label b).epoch ≡ s.high → HasBlock u (with_top t top) b
  pub way : WayCurrent u (with_top t top) t.depth k
  pub stead : (x : ℕ) → Made s u top → u.instead top x → t.top ≡ Local x
