-- Slots behind a way are cleared.
use Rattle.std.specs.Prelude.{◌≡◌, ◌⊎◌, ◌↔◌, ◌+◌, ◌-◌, ◌*◌, ◌/◌, ◌%◌, ◌<◌, ◌≤◌, ℕ, suc}
use Rattle.fo_image.specs.declared.types.Pointer.TheVariants.{Nil, Local}
use Rattle.fo_crash.specs.declared.place.Place.{Place}
use Rattle.fo_crash.specs.declared.slot.Slot.TheVariants.{Pointer as To}
use Rattle.fo_crash.specs.Images.{Image, Reaches, target, to_block}
use Rattle.fo_crash.specs.Steps.{PutsSlot, AddsSlot, Covers, Through}
use Rattle.fo_ports.specs.State.{State, IsRooted, none, Frame, Hangs, AddsNoWait, KeepsNumbers, IsPointers}
use Rattle.fo_tree_read.specs.declared.tree.Tree.{Tree}
use Rattle.fo_tree_read.specs.Tree.{block_at}
use Rattle.fo_tree_look.specs.Source.{HasBlock}
use Rattle.fo_tree_down.specs.Way.{IsWayIndex}
use Rattle.fo_tree_trim.specs.Behind.{HangsPast}

-- One slot of a block of pointers was cleared.
pub record CutsOne (at i : ℕ) (s u : State) : Type 0 where
  pub puts : PutsSlot at i (To Nil) s.now u.now
  pub images : AddsSlot s.now at i (To Nil) (λ image. Unit {0}) s.may_leave u.may_leave
  pub frame : Frame (λ b. b ≡ at) (λ b. b ≡ at) 1 s u
  pub hangs : Hangs at i (To Nil) s u
  pub order : (b j : ℕ) → u.clearing b j ↔ s.clearing b j
  pub no_wait : AddsNoWait none s u
  pub queues : (s.queued ≤ u.queued) × ((c : ℕ) → target ((s.now at).slot i) ≡ Local c → 0 < u.queued)
  pub covers : s.tells → Covers (IsPointers s) ((s.now at).slot i) s.now u.now s.covered u.covered

-- Slot j of this block is one behind the way to a leaf, among the first so many, counted from the lowest level up.
pub record CutSlot (s : State) (t : Tree) (last x b j : ℕ) : Type 0 where
  pub down : ℕ
  pub way : ℕ
  pub is_way : IsWayIndex t.depth last (suc down) way
  pub within : suc down ≤ t.depth
  pub is : block_at s t down (way / 409) ≡ Local b
  pub behind : way % 409 < j
  pub few : j < 409
  pub done : 409 * (t.depth - suc down) + j < x

-- An image is one of before, but for these slots, which are as memory has them now.
pub record IsCut (cut : ℕ → ℕ → Type 0) (s u : State) (image : Image) : Type 0 where
  pub other : Image
  pub was : s.may_leave other
  pub bytes : (b : ℕ) → (image b).bytes ≡ (other b).bytes
  pub slots : (b j : ℕ) → ((image b).slot j ≡ (other b).slot j) ⊎ (cut b j × ((image b).slot j ≡ To Nil) × ((u.now b).slot j ≡ To Nil))

-- A block hangs from one of these slots; and it does through blocks of pointers alone.
abbrev pub HangsFrom : (ℕ → ℕ → Type 0) → State → ℕ → Type 0
HangsFrom cut s b = (a : ℕ) × (i : ℕ) × cut a i × Reaches s.now ((s.now a).slot i) b

abbrev pub HangsThrough : (ℕ → ℕ → Type 0) → State → ℕ → Type 0
HangsThrough cut s b = (a : ℕ) × (i : ℕ) × cut a i × Through (IsPointers s) s.now ((s.now a).slot i) b

-- These slots of blocks of pointers lead nowhere now; all else stays. What hung from them through blocks of pointers, and hung from block 1
-- and does no more, is to be closed, and no block is that didn't hang from them. (A removal follows no entry: what an entry of a leaf that
-- leaves leads to is lost with it.) All that hangs from block 1, and not from them, hangs there still.
pub record Cuts (cut : ℕ → ℕ → Type 0) (s u : State) : Type 0 where
  pub bytes : (b : ℕ) → (u.now b).bytes ≡ (s.now b).bytes
  pub slots : (b j : ℕ) → ((u.now b).slot j ≡ (s.now b).slot j) ⊎ (cut b j × ((u.now b).slot j ≡ To Nil))
  pub empty : (b j : ℕ) → cut b j → target ((u.now b).slot j) ≡ Nil
  pub images : (image : Image) → u.may_leave image → IsCut cut s u image
  pub labels : (b : ℕ) → u.label b ≡ s.label b
  pub marks : (b : ℕ) → (s.pinned b → u.pinned b) × (s.sealed b → u.sealed b) × (s.fresh b → u.fresh b)
  pub places : s.tells → (b : ℕ) (p : Place) → (u.covered b → ⊥) → IsRooted u b → s.stands b p → u.stands b p
  pub rooted : s.tells → (b : ℕ) → IsRooted u b → IsRooted s b
  pub apart : (b : ℕ) → u.apart b ↔ s.apart b
  pub instead : (b x : ℕ) → u.instead b x ↔ s.instead b x
  pub still : (b : ℕ) → s.covered b → u.covered b
  pub only : s.tells → (b : ℕ) → (s.covered b → ⊥) → (HangsFrom cut s b → ⊥) → u.covered b → ⊥
  pub leaves : s.tells → (b : ℕ) → HangsThrough cut s b → Reaches s.now (to_block 1) b → (Reaches u.now (to_block 1) b → ⊥) → u.covered b
  pub reached : s.tells → (w b : ℕ) → (HangsFrom cut s b → ⊥) → Reaches s.now (to_block w) b → Reaches u.now (to_block w) b
  pub queues : (s.queued ≤ u.queued) × ((b j c : ℕ) → cut b j → target ((s.now b).slot j) ≡ Local c → 0 < u.queued)
  pub waits : (a on j : ℕ) → s.waits a on j → u.waits a on j
  pub no_wait : AddsNoWait none s u
  pub order : (b j : ℕ) → u.clearing b j ↔ s.clearing b j
  pub dirty : (b : ℕ) → u.dirty b → s.dirty b ⊎ ((j : ℕ) × cut b j)
  pub moments : u.moments ≡ s.moments
  pub left : (k : ℕ) (image : Image) → u.left k image → s.left k image
  pub pins : u.pins_left ≡ s.pins_left
  pub spare : u.spare ≡ s.spare
  pub usable : u.usable ≡ s.usable
  pub numbers : KeepsNumbers s u

-- What stands behind the way to a leaf may be cleared, where the device tells: all of the source hangs from block 1, nothing is to come in
-- the place of what hangs there, and no slot of it waits to be cleared.
pub record MayCut (s : State) (t : Tree) (last : ℕ) : Type 0 where
  pub linked : (b : ℕ) → HasBlock s t b → Reaches s.now (to_block 1) b
  pub alone : (y b : ℕ) → HangsPast s t last b → s.instead y b → ⊥
  pub still : (b j : ℕ) → HangsPast s t last b → s.clearing b j → ⊥
