-- A new top is raised over the top of a source.
use Rattle.std.specs.Prelude.{◌≡◌, ◌≢◌, ◌⊎◌, ◌↔◌, ◌+◌, ◌^◌, ◌<◌, ◌≤◌, ℕ, suc, List, true}
use Rattle.fo_image.specs.declared.types.State.TheVariants.{Live}
use Rattle.fo_image.specs.declared.types.Pointer.TheVariants.{Nil, Local}
use Rattle.fo_image.specs.Format.{PointerHolds}
use Rattle.fo_image.specs.Usable.{is_usable}
use Rattle.fo_crash.specs.declared.place.Place.{Place}
use Rattle.fo_crash.specs.Images.{Image, SameContent, Reaches, target, to_block}
use Rattle.fo_crash.specs.Steps.{Brings}
use Rattle.fo_crash.specs.Places.{place}
use Rattle.fo_ports.specs.State.{State, IsRooted, none, AddsNoWait, KeepsNumbers}
use Rattle.fo_ports.specs.Sources.{IsHung, Made}
use Rattle.fo_tree_read.specs.declared.tree.Tree.{Tree}
use Rattle.fo_tree_read.specs.Tree.{kind_at, block_at, Hangs}
use Rattle.fo_tree_look.specs.declared.ways.Kept.{Kept}
use Rattle.fo_tree_look.specs.Source.{HasBlock, IsTold, IsPlainTree, NoneHeld, AllHeld}
use Rattle.fo_tree_down.specs.of_tree_own.Step.{IsOwn, IsBeside}

-- the tree below this block, with one level more
abbrev pub raised : Tree → ℕ → Tree
raised t top = record t { depth = t.depth + 1; top = Local top }

-- What a device that tells has of a block over which a new top may be raised: it is put into no slot yet, or hangs from block 1; all that
-- hangs from it is live and not to be closed; and it stands at the place of the source's top.
pub record UnderTold (s : State) (t : Tree) (b : ℕ) : Type 0 where
  pub free : s.apart b ⊎ Reaches s.now (to_block 1) b
  pub brings : Brings s.now (to_block b) (λ x. ((s.label x).state ≡ Live) × ((s.label x).epoch ≤ s.high) × (s.covered x → ⊥))
  pub stands : s.stands b (place (kind_at t.dir t.depth) t.tag 0 (t.rank + t.depth))

-- A new top may be raised over this block: it is a current one.
pub record IsUnder (s : State) (t : Tree) (b : ℕ) : Type 0 where
  pub is_one : s.is_block b
  pub live : (s.label b).state ≡ Live
  pub current : (s.label b).epoch ≡ s.high
  pub told : s.tells → UnderTold s t b

-- A new top may be raised over the source's: a current block, or what is under a score.
pub record CanRaise (s : State) (t : Tree) : Type 0 where
  pub holds : PointerHolds t.top
  pub under : (b : ℕ) → t.top ≡ Local b → IsUnder s t b

-- An image is one of before, but for the block that was given out, to which no path from a top leads.
pub record IsWithout (top : ℕ) (s : State) (image : Image) : Type 0 where
  pub beside : IsBeside top s image
  pub apart : (t : ℕ) → s.tops t → Reaches beside.other (to_block t) top → ⊥

-- A block was given out one level above the source's top, and its first slot leads where the top was. It is put nowhere yet, and what it
-- leads to hangs there now. It comes in the place of what that block was, if it was in the tree, or came in the place of; all else stays.
pub record Raises (t : Tree) (top : ℕ) (s u : State) : Type 0 where
  pub made : Made s u top
  pub free : is_usable s.low (s.label top) ≡ true
  pub was : (top ≢ 1) × (s.tells → (s.tops top → ⊥) × ((p : Place) → s.stands top p → ⊥))
  pub own : IsOwn u t (suc t.depth) 0 top
  pub leads : target ((u.now top).slot 0) ≡ t.top
  pub bare : (j : ℕ) → j ≢ 0 → target ((u.now top).slot j) ≡ Nil
  pub is : u.is_block top × u.fresh top × u.apart top
  pub same : (b : ℕ) → b ≢ top → SameContent (u.now b) (s.now b)
  pub images : (image : Image) → u.may_leave image → IsWithout top s image
  pub labels : (b : ℕ) → b ≢ top → u.label b ≡ s.label b
  pub marks : (b : ℕ) → b ≢ top → (s.pinned b → u.pinned b) × (s.sealed b → u.sealed b) × (s.fresh b → u.fresh b)
  pub put : (b : ℕ) → t.top ≡ Local b → (u.apart b → ⊥) × ((x : ℕ) → u.instead b x → ⊥)
  pub apart : (b : ℕ) → b ≢ top → (t.top ≡ Local b → ⊥) → u.apart b ↔ s.apart b
  pub instead : (b x : ℕ) → b ≢ top → u.instead b x → s.instead b x
  pub alone : s.tells → (y : ℕ) → u.instead y top → ⊥
  pub raises : (x : ℕ) → u.instead top x → (b : ℕ) × (t.top ≡ Local b) × (((b ≡ x) × (s.apart b → ⊥)) ⊎ s.instead b x)
  pub comes : (b x : ℕ) → t.top ≡ Local b → s.instead b x ⊎ ((b ≡ x) × (s.apart b → ⊥)) → u.instead top x
  pub places : s.tells → (b : ℕ) (p : Place) → b ≢ top → (u.covered b → ⊥) → IsRooted u b → s.stands b p → u.stands b p
  pub rooted : s.tells → (b : ℕ) → b ≢ top → IsRooted u b → IsRooted s b
  pub still : (b : ℕ) → s.covered b → u.covered b
  pub only : (b : ℕ) → (s.covered b → ⊥) → u.covered b → ⊥
  pub reached : s.tells → (b : ℕ) → Reaches s.now (to_block 1) b ↔ Reaches u.now (to_block 1) b
  pub hung : s.tells → (b : ℕ) → IsHung s b → IsHung u b
  pub waits : (a on j : ℕ) → a ≢ top → on ≢ top → s.waits a on j → u.waits a on j
  pub no_wait : AddsNoWait none s u
  pub clearing : (b j : ℕ) → u.clearing b j → (b ≢ top) × s.clearing b j
  pub goes_on : (b j : ℕ) → b ≢ top → s.clearing b j → u.clearing b j
  pub dirty : (b : ℕ) → u.dirty b → s.dirty b ⊎ ((b ≡ top) ⊎ (b ≡ u.label_block top))
  pub moments : u.moments ≡ s.moments
  pub left : (k : ℕ) (image : Image) → u.left k image → s.left k image
  pub pins : u.pins_left ≡ s.pins_left
  pub room : u.room ≡ s.room
  pub spare : u.spare + 1 ≡ s.spare
  pub usable : u.usable + 1 ≡ s.usable
  pub numbers : KeepsNumbers s u

-- A source stands over these blocks, with as many levels as its size asks for, or more.
pub record Bears (s : State) (t : Tree) (kept : List Kept) : Type 0 where
  pub hangs : Hangs s t
  pub empty : t.size ≡ 0 → t.top ≡ Nil
  pub holds : PointerHolds t.top
  pub free : s.tells → (b : ℕ) → t.top ≡ Local b → s.apart b ⊎ Reaches s.now (to_block 1) b
  pub told : s.tells → (at : ℕ) → HasBlock s t at → IsTold s t.top at
  pub unheld : s.tells → (IsPlainTree t → ⊥) → NoneHeld s t
  pub held : AllHeld s kept

-- Each block of the source stands one level further down below the new top, and no other block does.
pub record SameBelow (s u : State) (t : Tree) (top : ℕ) : Type 0 where
  pub each : (n k : ℕ) → n ≤ t.depth → k < 409 ^ n → block_at u (raised t top) (suc n) k ≡ block_at s t n k
  pub none : (n k : ℕ) → 409 ^ n ≤ k → k < 409 ^ suc n → block_at u (raised t top) (suc n) k ≡ Nil
  pub back : (b : ℕ) → HasBlock u (raised t top) b → HasBlock s t b ⊎ (b ≡ top)
  pub on : (b : ℕ) → HasBlock s t b → HasBlock u (raised t top) b
