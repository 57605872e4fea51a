-- Bytes are put into a leaf of a source.
use Rattle.std.specs.Prelude.{◌≡◌, ◌≢◌, ◌⊎◌, ◌+◌, ◌/◌, ◌%◌, ◌<◌, ◌≤◌, ℕ, List, length, slice_index, Option, Some, None, MatchOption}
use Rattle.fo_image.specs.declared.types.State.TheVariants.{Live}
use Rattle.fo_image.specs.declared.types.Pointer.TheVariants.{Nil, Local}
use Rattle.fo_ports.specs.Blocks.{zero_bytes, put_at}
use Rattle.fo_ports.specs.State.{State}
use Rattle.fo_ports.specs.Sources.{Form, Leaves, Made, byte_at}
use Rattle.fo_tree_leaf.specs.of_tree_read.declared.tree.Tree.{Tree}
use Rattle.fo_tree_leaf.specs.of_tree_read.Tree.{kind_at, block_at}
use Rattle.fo_tree_leaf.specs.of_tree_look.declared.ways.Kept.{Kept}
use Rattle.fo_tree_leaf.specs.of_tree_look.Source.{HasBlock, IsPlainTree, seen, address_here, held_here}
use Rattle.fo_tree_leaf.specs.of_tree_down.declared.way.Current.{Current}
use Rattle.fo_tree_leaf.specs.of_tree_down.Way.{with_top}

-- byte k of a source; also of what stands behind its end in its last leaf
abbrev pub byte_here : State → Tree → List Kept → ℕ → ℕ
byte_here s t kept k = byte_at s.now (address_here s t (k / 8192)) (held_here s t kept (k / 8192)) (k % 8192)

-- These bytes stand in the place of those from an offset on.
pub record Puts (old new : ℕ → ℕ) (offset : ℕ) (bytes : List ℕ) : Type 0 where
  pub within : (i : ℕ) → i < length bytes → new (offset + i) ≡ slice_index bytes i
  pub before : (k : ℕ) → k < offset → new k ≡ old k
  pub behind : (k : ℕ) → offset + length bytes ≤ k → new k ≡ old k

-- A block of the source that is no leaf, or the one that was leaf i.
abbrev pub IsInnerOr : State → Tree → ℕ → ℕ → Type 0
IsInnerOr s t i b = (HasBlock s t b × ((s.label b).kind ≢ kind_at t.dir 0)) ⊎ (block_at s t t.depth i ≡ Local b)

-- Leaf i is owned: at this address, of the current epoch, pinned and whole. It is what was there, or was given out; and it has this piece
-- in the place of its bytes from there on. The other leaves stay.
pub record LeafPut (form : Form) (i at from : ℕ) (piece : List ℕ) (old_on new_on : State) (old new : Leaves) : Type 0 where
  pub is : new.at i ≡ Some at
  pub others : old_on.tells → (j : ℕ) → j ≢ i → (new.at j ≡ old.at j) × (new.held j ≡ old.held j)
  pub content : MatchOption (old.at i) (MatchOption (old.held i) ((new_on.now at).bytes ≡ put_at from piece zero_bytes) (λ bytes. (new_on.now at).bytes ≡ put_at from piece bytes)) (λ b. ((new_on.now at).bytes ≡ put_at from piece ((old_on.now b).bytes)) × ((k : ℕ) → (new_on.now at).slot k ≡ (old_on.now b).slot k))
  pub copied : MatchOption (old.at i) (Made old_on new_on at) (λ b. ((b ≡ at) × ((old_on.label b).epoch ≡ old_on.high)) ⊎ (((old_on.label b).epoch < old_on.high) × Made old_on new_on at))
  pub label : ((new_on.label at).state ≡ Live) × ((new_on.label at).kind ≡ form.kind) × ((new_on.label at).tag ≡ form.tag) × ((new_on.label at).epoch ≡ new_on.high)
  pub ready : new.owns at × new_on.pinned at × (length ((new_on.now at).bytes) ≡ 8192)

-- A plain source ends within a leaf that there is.
pub record EndsHere (s : State) (t : Tree) (kept : List Kept) : Type 0 where
  pub plain : IsPlainTree t
  pub within : 0 < t.size % 8192
  pub leaf : block_at (seen s kept) t t.depth (t.size / 8192) ≢ Nil

-- the tree, where its top may have been made current
abbrev pub top_after : Tree → Option Current → Tree
top_after t None = t
top_after t (Some c) = with_top t c.top

-- A block of the source that is no leaf, or the leaf within which a plain source ends.
abbrev pub IsInnerOrEnd : State → Tree → ℕ → Type 0
IsInnerOrEnd s t b = (HasBlock s t b × ((s.label b).kind ≢ kind_at t.dir 0)) ⊎ (IsPlainTree t × (0 < t.size % 8192) × (address_here s t (t.size / 8192) ≡ Some b))
