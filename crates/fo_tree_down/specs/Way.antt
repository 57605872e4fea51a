-- A whole way is made current, from the top down.
use Rattle.std.specs.Prelude.{◌≡◌, ◌≢◌, ◌⊎◌, ◌↔◌, ◌+◌, ◌^◌, ◌≤◌, ◌-◌, ◌/◌, ◌%◌, ◌<◌, ℕ, zero, suc, List, ◌++◌, length}
use Rattle.std.specs.List.{Contains}
use Rattle.fo_image.specs.declared.types.Kind.{Kind}
use Rattle.fo_image.specs.declared.types.Pointer.{Pointer}
use Rattle.fo_image.specs.declared.types.Pointer.TheVariants.{Local}
use Rattle.fo_image.specs.declared.types.State.TheVariants.{Live}
use Rattle.fo_tree_own.specs.of_crash.declared.place.Place.{Place}
use Rattle.fo_tree_own.specs.of_crash.Images.{Image, Reaches, target, to_block}
use Rattle.fo_tree_look.specs.of_ports.State.{State, IsRooted, none, AddsNoWait, KeepsNumbers}
use Rattle.fo_tree_look.specs.of_ports.Sources.{IsHung, ComesFor, Made, DirtiesIn, Touched, IsMade, StaysMarked}
use Rattle.fo_tree_look.specs.of_tree_read.declared.tree.Tree.{Tree}
use Rattle.fo_tree_look.specs.of_tree_read.Tree.{kind_at, kind_down, below, block_at}
use Rattle.fo_tree_look.specs.declared.ways.Kept.{Kept}
use Rattle.fo_tree_look.specs.Source.{seen}
use Rattle.fo_tree_own.specs.Step.{IsOwn, Becomes}

-- A block stands on the way to block k, n steps below the top, or is that block.
abbrev pub OnWay : State → Tree → ℕ → ℕ → ℕ → Type 0
OnWay s t zero k b = block_at s t zero k ≡ Local b
OnWay s t (suc n) k b = OnWay s t n (k / 409) b ⊎ (block_at s t (suc n) k ≡ Local b)

-- A kind is one of blocks above this level.
pub record IsHigher (t : Tree) (level : ℕ) (kind : Kind) : Type 0 where
  pub at : ℕ
  pub above : level < at
  pub is : kind ≡ kind_at t.dir at

-- A current block of the way above this level, into which a slot may have been put.
pub record IsPutInto (s : State) (t : Tree) (mine : ℕ → Type 0) (level b : ℕ) : Type 0 where
  pub is_mine : mine b
  pub current : (s.label b).epoch ≡ s.high
  pub tagged : (s.label b).tag ≡ t.tag
  pub higher : IsHigher t level (s.label b).kind

-- A slot was led to a block that was given out; it led to no current block before.
pub record IsLed (s u : State) (b j : ℕ) : Type 0 where
  pub to : ℕ
  pub leads : target ((u.now b).slot j) ≡ Local to
  pub made : Made s u to
  pub older : (x : ℕ) → target ((s.now b).slot j) ≡ Local x → (s.label x).epoch < s.high

-- An image is one of before, but for blocks that were given out, and slots of current blocks of the way that are as memory has them now.
pub record IsBefore (s u : State) (t : Tree) (mine : ℕ → Type 0) (level : ℕ) (image : Image) : Type 0 where
  pub other : Image
  pub was : s.may_leave other
  pub bytes : (b : ℕ) → (Made s u b → ⊥) → (image b).bytes ≡ (other b).bytes
  pub slots : (b j : ℕ) → (Made s u b → ⊥) → ((image b).slot j ≡ (other b).slot j) ⊎ (IsPutInto s t mine level b × ((image b).slot j ≡ (u.now b).slot j))
  pub led : (b j : ℕ) → (Made s u b → ⊥) → ((image b).slot j ≡ (other b).slot j) ⊎ IsLed s u b j
  pub apart : (top b : ℕ) → s.tops top → Made s u b → Reaches other (to_block top) b → ⊥

-- The blocks of a way (`mine`) were made current down to this level: what was given out is of the source, slots were put into blocks above
-- this level alone, and all else stays. Only blocks of the way are to be closed, and all are that leave the tree. A slot was put once, and
-- what is current stays where it is.
pub record Descends (t : Tree) (mine : ℕ → Type 0) (level : ℕ) (s u : State) : Type 0 where
  pub bytes : (b : ℕ) → (Made s u b → ⊥) → (u.now b).bytes ≡ (s.now b).bytes
  pub slots : (b j : ℕ) → (Made s u b → ⊥) → ((u.now b).slot j ≡ (s.now b).slot j) ⊎ IsPutInto s t mine level b
  pub led : (b j : ℕ) → (Made s u b → ⊥) → ((u.now b).slot j ≡ (s.now b).slot j) ⊎ IsLed s u b j
  pub images : (image : Image) → u.may_leave image → IsBefore s u t mine level image
  pub made : (b : ℕ) → Made s u b → IsMade t.tag s u b
  pub others : (b : ℕ) → (Made s u b → ⊥) → StaysMarked s u b
  pub apart : (b : ℕ) → (Made s u b → ⊥) → u.apart b ↔ s.apart b
  pub places : s.tells → (b : ℕ) (p : Place) → (Made s u b → ⊥) → (mine b → ⊥) → (u.covered b → ⊥) → IsRooted u b → s.stands b p → u.stands b p
  pub rooted : s.tells → (b : ℕ) → (Made s u b → ⊥) → IsRooted u b → IsRooted s b
  pub instead : (b x : ℕ) → u.instead b x → s.instead b x ⊎ (Made s u b × mine x)
  pub older : (b x : ℕ) → u.instead b x → s.instead b x ⊎ ((s.label x).epoch < s.high)
  pub still : (b : ℕ) → s.covered b → u.covered b
  pub aged : (b : ℕ) → (s.covered b → ⊥) → u.covered b → (s.label b).epoch < s.high
  pub only : (b : ℕ) → (s.covered b → ⊥) → (mine b → ⊥) → u.covered b → ⊥
  pub leaves : s.tells → (b : ℕ) → Reaches s.now (to_block 1) b → (Reaches u.now (to_block 1) b → ⊥) → u.covered b
  pub in_tree : s.tells → (b : ℕ) → (mine b → ⊥) → Reaches s.now (to_block 1) b → Reaches u.now (to_block 1) b
  pub current : s.tells → (b : ℕ) → (s.label b).epoch ≡ s.high → Reaches s.now (to_block 1) b → Reaches u.now (to_block 1) b
  pub hung : s.tells → (b : ℕ) → (mine b → ⊥) → IsHung s b → IsHung u b
  pub waits : (a on j : ℕ) → (Made s u a → ⊥) → (Made s u on → ⊥) → s.waits a on j → u.waits a on j
  pub no_wait : AddsNoWait none s u
  pub clearing : (b j : ℕ) → u.clearing b j → (Made s u b → ⊥) × s.clearing b j
  pub goes_on : (b j : ℕ) → (Made s u b → ⊥) → s.clearing b j → u.clearing b j
  pub dirty : (b : ℕ) → u.dirty b → s.dirty b ⊎ (Touched s u t.tag mine b ⊎ ((x : ℕ) × Made s u x × (b ≡ u.label_block x)))
  pub moments : u.moments ≡ s.moments
  pub left : (k : ℕ) (image : Image) → u.left k image → s.left k image
  pub pins : u.pins_left ≡ s.pins_left
  pub usable : s.usable + u.spare ≡ u.usable + s.spare
  pub room : u.room ≡ s.room
  pub numbers : KeepsNumbers s u

-- A block of the way was made current, and has what was there: it was given out, or is the block that was there.
pub record Comes (s u : State) (t : Tree) (kept : List Kept) (n k at : ℕ) : Type 0 where
  pub own : IsOwn u t (t.depth - n) k at
  pub descends : Descends t (OnWay s t n k) (t.depth - n) s u
  pub from : Made s u at ⊎ ((block_at s t n k ≡ Local at) × (Made s u at → ⊥))
  pub content : Becomes s u t kept (t.depth - n) (block_at (seen s kept) t n k) at

-- A block came where block k of those n steps below the top was: one that was given out, or the block itself, as it is where that was
-- current. It is current now, and at its place.
pub record Replaces (s u : State) (t : Tree) (n k at : ℕ) : Type 0 where
  pub own : IsOwn u t (t.depth - n) k at
  pub from : Made s u at ⊎ (block_at s t n k ≡ Local at)
  pub kept : (b : ℕ) → block_at s t n k ≡ Local b → (s.label b).epoch ≡ s.high → at ≡ b

-- Beside slot i a block leads where the one did that was there.
abbrev pub LeadsBeside : (old new : State) → Tree → List Kept → ℕ → ℕ → ℕ → ℕ → Type 0
LeadsBeside s u t kept n k at i = (j : ℕ) → j < 409 → j ≢ i → target ((u.now at).slot j) ≡ below (seen s kept) (kind_down t n) (block_at (seen s kept) t n k) j

-- From this top memory leads to this block, by blocks that came where those of the way were, and beside the way to where it led before.
abbrev pub Leads : (old new : State) → Tree → List Kept → ℕ → ℕ → ℕ → ℕ → Type 0
Leads s u t kept top zero k at = (at ≡ top) × Replaces s u t zero k at
Leads s u t kept top (suc n) k at = ((above : ℕ) × Leads s u t kept top n (k / 409) above × (target ((u.now above).slot (k % 409)) ≡ Local at) × LeadsBeside s u t kept n (k / 409) above (k % 409)) × Replaces s u t (suc n) k at

-- Block j of those m steps below the top stands on the way to block k of those n steps below.
abbrev pub IsWayIndex : ℕ → ℕ → ℕ → ℕ → Type 0
IsWayIndex zero k m j = (m ≡ 0) × (j ≡ k)
IsWayIndex (suc n) k m j = ((m ≡ suc n) × (j ≡ k)) ⊎ IsWayIndex n (k / 409) m j

-- Where the way was made current, and its top put into the tree, the other blocks are those that were there.
pub record StaysBeside (s u : State) (t new : Tree) (n k : ℕ) : Type 0 where
  pub each : (m j : ℕ) → m ≤ t.depth → j < 409 ^ m → (IsWayIndex n k m j → ⊥) → block_at u new m j ≡ block_at s t m j

-- the tree with another top
abbrev pub with_top : Tree → ℕ → Tree
with_top t top = record t { top = Local top }

-- The top of a source once it was made current: one that was given out, which is put nowhere yet, or the one that was there. Where the
-- device tells, it comes in the place of what the source's top came in the place of, and is the only block that comes so now and didn't.
pub record IsTopOf (s u : State) (t : Tree) (top : ℕ) : Type 0 where
  pub from : Made s u top ⊎ (t.top ≡ Local top)
  pub apart : Made s u top → u.apart top
  pub comes : s.tells → (from : Pointer) → ComesFor s t.top from → ComesFor u (Local top) from
  pub only : s.tells → (y x : ℕ) → u.instead y x → (y ≡ top) ⊎ (s.instead y x × (t.top ≡ Local y → ⊥))
  pub live : (u.label top).state ≡ Live
  pub current : (u.label top).epoch ≡ u.high

-- All on the way to block k of those n steps below the top is of the current epoch, and so is that block.
abbrev pub IsCurrentAt : State → Pointer → Type 0
IsCurrentAt s p = (b : ℕ) × (p ≡ Local b) × ((s.label b).epoch ≡ s.high)

abbrev pub WayCurrent : State → Tree → ℕ → ℕ → Type 0
WayCurrent s t zero k = IsCurrentAt s t.top
WayCurrent s t (suc n) k = WayCurrent s t n (k / 409) × IsCurrentAt s (block_at s t (suc n) k)

-- The way to block k of those n steps below the top is current but for its last blocks, which are so many.
abbrev pub CurrentBut : State → Tree → (c n k : ℕ) → Type 0
CurrentBut s t zero n k = WayCurrent s t n k
CurrentBut s t (suc c) zero k = Unit {0}
CurrentBut s t (suc c) (suc n) k = CurrentBut s t c n (k / 409)

-- A list has all on the way to block k of those n steps below the top, and that block.
abbrev pub HasWay : List ℕ → State → Tree → ℕ → ℕ → Type 0
HasWay blocks s t n k = (b : ℕ) → OnWay s t n k b → Contains blocks b

-- Beside these blocks so many more at most are left dirty, with all on the way to a block, and that block.
pub record AddsWay (most : ℕ) (blocks : List ℕ) (s u : State) (t : Tree) (n k : ℕ) : Type 0 where
  pub more : List ℕ
  pub few : length more ≤ most
  pub within : DirtiesIn (more ++ blocks) s u
  pub way : HasWay (more ++ blocks) u t n k
