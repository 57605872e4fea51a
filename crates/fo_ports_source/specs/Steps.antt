-- What the calls of a plain source do to the blocks.
use Rattle.std.specs.Prelude.{◌≡◌, ◌≢◌, ◌⊎◌, ◌↔◌, ◌+◌, ◌*◌, ◌/◌, ◌<◌, ℕ, List, length, Option, Some, None, MatchOption}
use Rattle.fo_image.specs.declared.types.Kind.{Kind}
use Rattle.fo_crash.specs.declared.place.Place.{Place}
use Rattle.fo_crash.specs.Images.{Image, SameContent, Reaches, to_block}
use Rattle.fo_ports.specs.State.{State, KeepsAll, KeepsNumbers, AddsNoWait, IsRooted, none}
use Rattle.fo_ports.specs.Blocks.{put_at}
use Rattle.fo_ports.specs.Sources.{Form, IsHung, Made, Touched, IsMade, StaysMarked, EndsWithin, IsCut, Dirties}
use Rattle.fo_ports_source.specs.Source.{leaf_of, HasLeaf, Prepared, Spent}

-- As `Undone` of the trait, and the slots stay but for those of blocks that were given out.
pub record Behind (touched : ℕ → Type 0) (old new : State) (image : Image) : Type 0 where
  pub other : Image
  pub was : old.may_leave other
  pub same : (b : ℕ) → (touched b → ⊥) → SameContent (image b) (other b)
  pub same_slots : (b j : ℕ) → (Made old new b → ⊥) → (image b).slot j ≡ (other b).slot j
  pub apart : (t b : ℕ) → old.tops t → Made old new b → Reaches other (to_block t) b → ⊥

-- As `Changes` of the trait, and more: what hangs keeps its place but for blocks that were given out, what block 1 reaches it still
-- reaches, what may be put into still may be, the same blocks are to be closed, and only an older block of the source's own is one in whose place another is to come.
pub record Steps (tag : ℕ) (mine inner : ℕ → Type 0) (old new : State) : Type 0 where
  pub memory : (b : ℕ) → (Touched old new tag inner b → ⊥) → SameContent (new.now b) (old.now b)
  pub images : (image : Image) → new.may_leave image → Behind (Touched old new tag inner) old new image
  pub made : (b : ℕ) → Made old new b → IsMade tag old new b
  pub others : (b : ℕ) → (Made old new b → ⊥) → StaysMarked old new b
  pub apart : (b : ℕ) → (Made old new b → ⊥) → new.apart b ↔ old.apart b
  pub places : old.tells → (b : ℕ) (p : Place) → (Made old new b → ⊥) → (new.covered b → ⊥) → IsRooted new b → old.stands b p → new.stands b p
  pub rooted : old.tells → (b : ℕ) → (Made old new b → ⊥) → IsRooted new b → IsRooted old b
  pub hung : old.tells → (b : ℕ) → IsHung old b → IsHung new b
  pub instead : (b x : ℕ) → new.instead b x → old.instead b x ⊎ (Made old new b × mine x × ((old.label x).epoch < old.high))
  pub covered : (b : ℕ) → new.covered b ↔ old.covered b
  pub uncovered : (b : ℕ) → Made old new b → old.covered b → ⊥
  pub reaches : old.tells → (b : ℕ) → Reaches old.now (to_block 1) b → Reaches new.now (to_block 1) b
  pub waits : (a on j : ℕ) → (Made old new a → ⊥) → (Made old new on → ⊥) → old.waits a on j → new.waits a on j
  pub no_wait : AddsNoWait none old new
  pub clearing : (b j : ℕ) → new.clearing b j → (Made old new b → ⊥) × old.clearing b j
  pub goes_on : (b j : ℕ) → (Made old new b → ⊥) → old.clearing b j → new.clearing b j
  pub dirty : (b : ℕ) → new.dirty b → old.dirty b ⊎ (Touched old new tag mine b ⊎ ((x : ℕ) × Made old new x × (b ≡ new.label_block x)))
  pub moments : new.moments ≡ old.moments
  pub left : (k : ℕ) (image : Image) → new.left k image → old.left k image
  pub pins : new.pins_left ≡ old.pins_left
  pub room : new.room ≡ old.room
  pub usable : old.usable + new.spare ≡ new.usable + old.spare
  pub numbers : KeepsNumbers old new
  pub all : KeepsAll old new

-- A call on a source: its leaves are those of before or were given out, all that was given out and all that was current is a leaf,
-- and what was prepared stays so.
pub record Grew (kind : Kind) (tag size : ℕ) (leaves new_leaves : List (Option ℕ)) (old new : State) : Type 0 where
  pub as_long : length new_leaves ≡ length leaves
  pub owned : (b : ℕ) → HasLeaf new_leaves b → HasLeaf leaves b ⊎ Made old new b
  pub owns : (b : ℕ) → Made old new b → HasLeaf new_leaves b
  pub kept : (b : ℕ) → HasLeaf leaves b → (old.label b).epoch ≡ old.high → HasLeaf new_leaves b
  pub still : (o n : ℕ) → Prepared old kind tag size leaves o n → Prepared new kind tag size new_leaves o n
  pub steps : Steps tag (HasLeaf leaves) (HasLeaf leaves) old new

-- A leaf was owned, and has this piece in the place of its bytes from there on.
pub record PutsOwn (old new : State) (was at from : ℕ) (piece : List ℕ) : Type 0 where
  pub bytes : (new.now at).bytes ≡ put_at from piece ((old.now was).bytes)
  pub slots : (k : ℕ) → (new.now at).slot k ≡ (old.now was).slot k
  pub copied : (was ≡ at) ⊎ (((old.label was).epoch < old.high) × Made old new at)

-- The leaf of a source's end stays, or is a copy; it has what it had, with zeros behind the end of data.
pub record Cuts (form : Form) (size : ℕ) (new_leaf : Option ℕ) (was : ℕ) (old new : State) : Type 0 where
  pub block : ℕ
  pub is : new_leaf ≡ Some block
  pub bytes : IsCut form size (size / 8192) ((new.now block).bytes) ((old.now was).bytes)
  pub slots : (k : ℕ) → (new.now block).slot k ≡ (old.now was).slot k
  pub copied : (was ≡ block) ⊎ (((old.label was).epoch < old.high) × Made old new block)

-- A source grows: its leaves stay, but for that of its end.
pub record Longer (form : Form) (size : ℕ) (leaves new_leaves : List (Option ℕ)) (old new : State) : Type 0 where
  pub others : (j : ℕ) → j ≢ size / 8192 → leaf_of new_leaves j ≡ leaf_of leaves j
  pub last : MatchOption (leaf_of leaves (size / 8192)) (leaf_of new_leaves (size / 8192) ≡ None) (λ was. Cuts form size (leaf_of new_leaves (size / 8192)) was old new)

-- the leaf within which a plain source ends
abbrev pub IsEnd : Form → ℕ → List (Option ℕ) → ℕ → Type 0
IsEnd form size leaves b = EndsWithin form size (size / 8192) × (leaf_of leaves (size / 8192) ≡ Some b)

-- A walk over these bytes has put into so many leaves, and left two blocks at most for each to be written: the leaf, and that of its label.
pub record DirtiesFor (len offset done : ℕ) (old new : State) : Type 0 where
  pub leaves : ℕ
  pub spent : Spent len offset done leaves 0
  pub is : Dirties (2 * leaves) none old new
