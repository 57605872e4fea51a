-- What calls on a source change by which its end is cleared and levels are put above its top.
use Rattle.std.specs.Prelude.{◌≡◌, ◌⊎◌, ◌+◌, ◌<◌, ℕ}
use Rattle.fo_crash.specs.declared.place.Place.{Place}
use Rattle.fo_crash.specs.Images.{Image, SameContent, Reaches, to_block}
use Rattle.fo_ports.specs.State.{State, IsRooted, KeepsAll, KeepsNumbers, AddsNoWait, none}
use Rattle.fo_ports.specs.Sources.{Made, Touched, IsMade, StaysMarked, Stead}
use Rattle.fo_tree_clear.specs.of_tree_down.Way.{IsLed}
use Rattle.fo_tree_clear.specs.Steps.{Behind}

-- As `Steps`, but one of these blocks may be put below what was given out, and that comes in the place of these, or of what they came in
-- the place of.
pub record Rises (tag : ℕ) (mine inner : ℕ → Type 0) (old new : State) : Type 0 where
  pub memory : (b : ℕ) → (Touched old new tag inner b → ⊥) → SameContent (new.now b) (old.now b)
  pub slots : (b j : ℕ) → (Made old new b → ⊥) → ((new.now b).slot j ≡ (old.now b).slot j) ⊎ IsLed old new b j
  pub images : (image : Image) → new.may_leave image → Behind (Touched old new tag inner) old new image
  pub made : (b : ℕ) → Made old new b → IsMade tag old new b
  pub free : old.tells → (b : ℕ) → Made old new b → new.covered b → ⊥
  pub others : (b : ℕ) → (Made old new b → ⊥) → StaysMarked old new b
  pub apart : (b : ℕ) → (Made old new b → ⊥) → (new.apart b → old.apart b) × (old.apart b → new.apart b ⊎ mine b)
  pub places : old.tells → (b : ℕ) (p : Place) → (Made old new b → ⊥) → (mine b → ⊥) → (new.covered b → ⊥) → IsRooted new b → old.stands b p → new.stands b p
  pub rooted : old.tells → (b : ℕ) → (Made old new b → ⊥) → IsRooted new b → IsRooted old b
  pub instead : (b x : ℕ) → new.instead b x → old.instead b x ⊎ (Made old new b × Stead old mine x)
  pub still : (b : ℕ) → old.covered b → new.covered b
  pub only : (b : ℕ) → (old.covered b → ⊥) → (mine b → ⊥) → new.covered b → ⊥
  pub aged : (b : ℕ) → (old.covered b → ⊥) → new.covered b → (old.label b).epoch < old.high
  pub leaves : old.tells → (b : ℕ) → Reaches old.now (to_block 1) b → (Reaches new.now (to_block 1) b → ⊥) → new.covered b
  pub in_tree : old.tells → (b : ℕ) → (mine b → ⊥) → Reaches old.now (to_block 1) b → Reaches new.now (to_block 1) b
  pub current : old.tells → (b : ℕ) → (old.label b).epoch ≡ old.high → Reaches old.now (to_block 1) b → Reaches new.now (to_block 1) b
  pub waits : (a on j : ℕ) → (Made old new a → ⊥) → (Made old new on → ⊥) → old.waits a on j → new.waits a on j
  pub no_wait : AddsNoWait none old new
  pub clearing : (b j : ℕ) → new.clearing b j → (Made old new b → ⊥) × old.clearing b j
  pub goes_on : (b j : ℕ) → (Made old new b → ⊥) → old.clearing b j → new.clearing b j
  pub dirty : (b : ℕ) → new.dirty b → old.dirty b ⊎ (Touched old new tag mine b ⊎ ((x : ℕ) × Made old new x × (b ≡ new.label_block x)))
  pub moments : new.moments ≡ old.moments
  pub left : (k : ℕ) (image : Image) → new.left k image → old.left k image
  pub pins : new.pins_left ≡ old.pins_left
  pub usable : old.usable + new.spare ≡ new.usable + old.spare
  pub room : new.room ≡ old.room
  pub numbers : KeepsNumbers old new
  pub all : KeepsAll old new
