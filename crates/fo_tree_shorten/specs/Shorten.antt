-- A source is shortened, and trimmed.
use Rattle.std.specs.Prelude.{◌≡◌, ◌≢◌, ◌⊎◌, ◌-◌, ◌*◌, ℕ, cond, nat_eq, List}
use Rattle.fo_image.specs.declared.types.State.TheVariants.{Live}
use Rattle.fo_image.specs.declared.types.Kind.TheVariants.{Dir}
use Rattle.fo_image.specs.declared.types.Pointer.TheVariants.{Nil, Local}
use Rattle.fo_crash.specs.declared.slot.Slot.TheVariants.{Entry as Head}
use Rattle.fo_crash.specs.Images.{Reaches, to_block}
use Rattle.fo_crash.specs.Steps.{PutsSlot, AddsSlot, Covers}
use Rattle.fo_ports.specs.Blocks.{cost}
use Rattle.fo_ports.specs.State.{State, none, Frame, Hangs, KeepsOrder, AddsNoWait, IsPointers}
use Rattle.fo_ports.specs.Sources.{Changes, StaysInPlace, StaysReady, depth_for}
use Rattle.fo_tree_read.specs.declared.tree.Tree.{Tree}
use Rattle.fo_tree_read.specs.Tree.{kind_at, block_at}
use Rattle.fo_tree_look.specs.declared.ways.Kept.{Kept}
use Rattle.fo_tree_look.specs.Source.{HasBlock, seen}
use Rattle.fo_tree_link.specs.of_tree_down.Clear.{last_leaf}
use Rattle.fo_tree_link.specs.of_tree_down.Way.{IsTopOf, with_top}
use Rattle.fo_tree_link.specs.of_tree_open.Open.{HasEntry}
use Rattle.fo_tree_link.specs.Link.{entry_of}
use Rattle.fo_tree_trim.specs.Cut.{CutSlot, Cuts}

-- A source's entry stands in slot i of this block, over any device: the block is pinned, live, of the current epoch and of another tag; it is
-- a leaf of entries, or root block; and the slot doesn't wait to be cleared.
pub record EntryAt (s : State) (t : Tree) (generation at i : ℕ) : Type 0 where
  pub is : (s.now at).slot i ≡ Head (entry_of t generation)
  pub is_pinned : s.pinned at
  pub live : (s.label at).state ≡ Live
  pub current : (s.label at).epoch ≡ s.high
  pub apart : (s.label at).tag ≢ t.tag
  pub leaf : HasEntry (s.label at).kind i
  pub settled : s.clearing at i → ⊥

-- the tree of a source with an end within it, and the least depth for that end; an empty one has no top
abbrev pub shorter : State → Tree → List Kept → ℕ → Tree
shorter s t kept end = record t { depth = depth_for end; size = end; top = cond (nat_eq end 0) Nil (block_at (seen s kept) t (t.depth - depth_for end) 0) }

-- A source's entry was put where its old one stood, in memory and in images; all else stays. Where the device tells, what hung from the old
-- one through blocks of pointers, and hangs from block 1 no more, is to be closed, and no other block is.
pub record Links (s u : State) (t : Tree) (generation at i : ℕ) : Type 0 where
  pub now : PutsSlot at i (Head (entry_of t generation)) s.now u.now
  pub images : AddsSlot s.now at i (Head (entry_of t generation)) (λ image. Unit {0}) s.may_leave u.may_leave
  pub instead : (y x : ℕ) → u.instead y x → s.instead y x × (t.top ≡ Local y → ⊥)
  pub in_tree : s.tells → (b : ℕ) → (Reaches s.now ((s.now at).slot i) b → ⊥) → Reaches s.now (to_block 1) b → Reaches u.now (to_block 1) b
  pub in_place : s.tells → (b : ℕ) → (b ≢ at) ⊎ ((s.label b).kind ≡ Dir 0) → Reaches u.now (to_block 1) b → StaysInPlace s u b
  pub ready : (b : ℕ) → (b ≢ at) ⊎ ((s.label b).kind ≡ Dir 0) → s.pinned b → StaysReady s u b
  pub bytes : (b : ℕ) → (u.now b).bytes ≡ (s.now b).bytes
  pub frame : Frame (λ b. b ≡ at) (λ b. (b ≡ at) ⊎ (t.top ≡ Local b)) (cost ((s.now at).slot i) (Head (entry_of t generation))) s u
  pub hangs : Hangs at i (Head (entry_of t generation)) s u
  pub order : KeepsOrder none s u
  pub no_wait : AddsNoWait none s u
  pub covers : s.tells → Covers (IsPointers s) ((s.now at).slot i) s.now u.now s.covered u.covered

-- The blocks above the last leaf were made current, and the source was linked.
pub record Readies (s m u : State) (t : Tree) (generation at i top : ℕ) : Type 0 where
  pub made : Changes t.tag (HasBlock s t) (λ b. HasBlock s t b × ((s.label b).kind ≢ kind_at t.dir 0)) s m
  pub top_is : IsTopOf s m t top
  pub linked : Links m u (with_top t top) generation at i

-- And what stood behind its end was cleared.
pub record Trims (s m u v : State) (t : Tree) (generation at i top : ℕ) : Type 0 where
  pub ready : Readies s m u t generation at i top
  pub cut : Cuts (CutSlot u (with_top t top) (last_leaf t.size) (409 * t.depth)) u v
