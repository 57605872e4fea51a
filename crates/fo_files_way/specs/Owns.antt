-- What owning leaves and linking their sources leaves.
use Rattle.std.specs.Prelude.{◌≡◌, ◌≢◌, ◌⊎◌, ◌+◌, ◌<◌, ◌≤◌, ℕ, List, [], ◌∷◌, length, slice_index, Some}
use Rattle.fo_image.specs.declared.types.Label.{Label}
use Rattle.fo_crash.specs.Images.{Image, SameContent}
use Rattle.fo_ports.specs.State.{State, KeepsNumbers, AddsNoWait, none}
use Rattle.fo_ports.specs.Sources.{Made, StaysMarked}
use Rattle.fo_files_at.specs.of_tree.declared.source.Source.{Source}
use Rattle.fo_tree_read.specs.Tree.{kind_at}
use Rattle.fo_tree_look.specs.Source.{address_here, form_of}
use Rattle.fo_tree_shorten.specs.Shorten.{EntryAt}
use Rattle.fo_files_way.specs.declared.plan.Level.{Level}
use Rattle.fo_files_way.specs.Plan.{IsHeld, IsLeafReady}

-- A block that may have been put into: one of these, or one of the current epoch with such a label.
abbrev pub MayPutInto : (here : ℕ → Type 0) (labels : Label → Type 0) → State → ℕ → Type 0
MayPutInto here labels s b = here b ⊎ (((s.label b).epoch ≡ s.high) × labels (s.label b))

-- a label of a source that is none of its leaves'
abbrev pub IsAboveOf : Source → Label → Type 0
IsAboveOf x l = (x.ways.tree.tag ≡ l.tag) × (l.kind ≢ kind_at x.ways.tree.dir 0)

-- so of a source of these levels
abbrev pub IsAboveLeaves : List Level → Label → Type 0
IsAboveLeaves [] l = ⊥
IsAboveLeaves (x ∷ rest) l = IsAboveOf x.source l ⊎ IsAboveLeaves rest l

-- one of a list of blocks
abbrev pub IsIn : List ℕ → ℕ → Type 0
IsIn at b = (i : ℕ) × (i < length at) × (slice_index at i ≡ b)

-- Blocks of sources of these tags were given out and put, and these blocks and current ones with such labels were put into: all else stays. No
-- device call is made, and no removal or wait is taken.
pub record Owns (here : ℕ → Type 0) (labels : Label → Type 0) (tags : ℕ → Type 0) (s u : State) : Type 0 where
  pub memory : (b : ℕ) → (Made s u b → ⊥) → (MayPutInto here labels s b → ⊥) → SameContent (u.now b) (s.now b)
  pub made : (b : ℕ) → Made s u b → (b ≢ 1) × ((u.label b).epoch ≡ s.high) × tags (u.label b).tag × u.is_block b × u.pinned b × u.fresh b
  pub others : (b : ℕ) → (Made s u b → ⊥) → StaysMarked s u b
  pub apart : (b : ℕ) → (Made s u b → ⊥) → u.apart b → s.apart b
  pub waits : (a on j : ℕ) → (Made s u a → ⊥) → (Made s u on → ⊥) → s.waits a on j → u.waits a on j
  pub no_wait : AddsNoWait none s u
  pub clearing : (b j : ℕ) → u.clearing b j → (Made s u b → ⊥) × s.clearing b j
  pub goes_on : (b j : ℕ) → (Made s u b → ⊥) → s.clearing b j → u.clearing b j
  pub dirty : (b : ℕ) → u.dirty b → s.dirty b ⊎ (Made s u b ⊎ (MayPutInto here (λ l. tags l.tag) s b ⊎ ((x : ℕ) × Made s u x × (b ≡ s.label_block x))))
  pub moments : u.moments ≡ s.moments
  pub left : (k : ℕ) (image : Image) → u.left k image → s.left k image
  pub pins : u.pins_left ≡ s.pins_left
  pub room : u.room ≡ s.room
  pub usable : s.usable + u.spare ≡ u.usable + s.spare
  pub numbers : KeepsNumbers s u

-- A block has what another had: its kind, its tag, its bytes, and no slot waits that didn't.
pub record Carries (s u : State) (b c : ℕ) : Type 0 where
  pub kind : (u.label c).kind ≡ (s.label b).kind
  pub tag : (u.label c).tag ≡ (s.label b).tag
  pub bytes : (u.now c).bytes ≡ (s.now b).bytes
  pub clearing : (j : ℕ) → u.clearing c j → s.clearing b j

-- A leaf of a source was owned, and the source linked in slot j of block `at`: the leaf has what was in this block before, and all else of
-- the block `at` stays.
pub record OwnsOne (s u : State) (x y : Source) (i at j leaf : ℕ) : Type 0 where
  pub owns : Owns (λ b. b ≡ at) (IsAboveOf x) (λ tag. x.ways.tree.tag ≡ tag) s u
  pub held : IsHeld u x.ways.tree.tag leaf
  pub current : (u.label leaf).epoch ≡ u.high
  pub copied : (b : ℕ) → address_here s x.ways.tree i ≡ Some b → (leaf ≡ b) ⊎ Made s u leaf
  pub carries : (b : ℕ) → address_here s x.ways.tree i ≡ Some b → Carries s u b leaf × ((k : ℕ) → (u.now leaf).slot k ≡ (s.now b).slot k)
  pub slots : (k : ℕ) → k ≢ j → (u.now at).slot k ≡ (s.now at).slot k
  pub bytes : (u.now at).bytes ≡ (s.now at).bytes
  pub entry : EntryAt u y.ways.tree y.ways.generation at j
  pub form : form_of y.ways.tree y.ways.generation y.ways.limit ≡ form_of x.ways.tree x.ways.generation x.ways.limit
  pub ready : IsLeafReady u y i leaf

-- the tag of a block of a plan that is not the root block
abbrev pub IsTag : List ℕ → ℕ → Type 0
IsTag tags tag = (i : ℕ) × (0 < i) × (i < length tags) × (slice_index tags i ≡ tag)

-- no entry of these levels stands in slot j of block i
abbrev pub IsFreeOf : List Level → ℕ → ℕ → Type 0
IsFreeOf [] i j = Unit {0}
IsFreeOf (l ∷ rest) i j = ((l.above ≡ i) × (l.slot ≡ j) → ⊥) × IsFreeOf rest i j

-- Blocks of levels have what the blocks had that stood there, but for the entries that were linked; the root block stays.
pub record AreCarried (s u : State) (levels : List Level) (old new : List ℕ) : Type 0 where
  pub count : length new ≡ length old
  pub root : slice_index new 0 ≡ slice_index old 0
  pub carries : (i : ℕ) → i < length old → Carries s u (slice_index old i) (slice_index new i)
  pub slots : (i j : ℕ) → i < length old → IsFreeOf levels i j → (u.now (slice_index new i)).slot j ≡ (s.now (slice_index old i)).slot j

-- Level k hangs from the block above it: memory has there the entry of its source, of which the leaf stands in block k + 1.
pub record IsLinked (s : State) (at : List ℕ) (k : ℕ) (l : Level) : Type 0 where
  pub source : Source
  pub form : form_of source.ways.tree source.ways.generation source.ways.limit ≡ form_of l.source.ways.tree l.source.ways.generation l.source.ways.limit
  pub above : l.above ≤ k
  pub entry : EntryAt s source.ways.tree source.ways.generation (slice_index at l.above) l.slot
  pub ready : IsLeafReady s source l.leaf (slice_index at (k + 1))

-- so does each of these, the first of which is level k
abbrev pub AreLinked : State → (at : List ℕ) → ℕ → List Level → Type 0
AreLinked s at k [] = Unit {0}
AreLinked s at k (l ∷ rest) = IsLinked s at k l × AreLinked s at (k + 1) rest

-- Each block of a plan is held, and of the current epoch.
pub record AreCurrent (u : State) (tags at : List ℕ) : Type 0 where
  pub held : (i : ℕ) → i < length at → IsHeld u (slice_index tags i) (slice_index at i)
  pub current : (i : ℕ) → i < length at → (u.label (slice_index at i)).epoch ≡ u.high

-- One address in a list of blocks came for another.
pub record SetsAt (old new : List ℕ) (n at : ℕ) : Type 0 where
  pub count : length new ≡ length old
  pub here : slice_index new n ≡ at
  pub others : (i : ℕ) → i ≢ n → slice_index new i ≡ slice_index old i

-- A level was owned, and its leaf's address put into the list of blocks.
pub record IsOwned (s u : State) (l : Level) (k : ℕ) (old new : List ℕ) : Type 0 where
  pub source : Source
  pub leaf : ℕ
  pub one : OwnsOne s u l.source source l.leaf (slice_index old l.above) l.slot leaf
  pub sets : SetsAt old new (k + 1) leaf
