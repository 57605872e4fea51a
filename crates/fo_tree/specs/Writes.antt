-- A piece was put into a source.
use Rattle.std.specs.Prelude.{◌≡◌, ◌⊎◌, ◌+◌, ◌*◌, ◌/◌, ◌≤◌, ℕ, List, length, max, Some}
use Rattle.fo_sparse.specs.Written.{written}
use Rattle.fo_image.specs.declared.types.Pointer.{Pointer}
use Rattle.fo_image.specs.declared.types.Pointer.TheVariants.{Local}
use Rattle.fo_crash.specs.Images.{Image, SameContent}
use Rattle.fo_ports.specs.State.{State}
use Rattle.fo_ports.specs.Sources.{Changes, Grows, ComesFor, most_for}
use Rattle.fo_tree_read.specs.declared.tree.Tree.{Tree}
use Rattle.fo_tree_look.specs.declared.ways.Kept.{Kept}
use Rattle.fo_tree_look.specs.Source.{HasBlock, Over, address_here, leaves_of}
use Rattle.fo_tree_link.specs.of_tree_down.Clear.{EndsClear}
use Rattle.fo_tree_append.specs.Append.{OnPiece}

-- The same source, below another top and of another size.
pub record SameTree (t new : Tree) : Type 0 where
  pub dir : new.dir ≡ t.dir
  pub tag : new.tag ≡ t.tag
  pub rank : new.rank ≡ t.rank

-- A piece of so many bytes from an offset on leaves leaf j of a source of this size: all of it is put before the leaf or behind it, and the
-- source doesn't end further on then, or it had all of the leaf.
pub record IsBeside (size offset n j : ℕ) : Type 0 where
  pub beside : (8192 * (j + 1) ≤ offset) ⊎ (offset + n ≤ 8192 * j)
  pub whole : (offset + n ≤ size) ⊎ (8192 * (j + 1) ≤ size)

-- A piece was put into a source, and the leaves beside it stay: memory has them as before, and each image as one of before.
pub record LeavesBeside (s u : State) (t : Tree) (offset n : ℕ) : Type 0 where
  pub now : s.tells → (j b : ℕ) → address_here s t j ≡ Some b → IsBeside t.size offset n j → SameContent (u.now b) (s.now b)
  pub images : s.tells → (image : Image) → u.may_leave image → (other : Image) × s.may_leave other × ((j b : ℕ) → address_here s t j ≡ Some b → IsBeside t.size offset n j → SameContent (image b) (other b))

-- A piece of some bytes was put into a source, whose tree this is now: what the trait of sources asks of it.
pub record Writes (s u : State) (t new : Tree) (kept : List Kept) (limit offset : ℕ) (piece : List ℕ) : Type 0 where
  pub same : SameTree t new
  pub size : new.size ≡ max t.size (offset + length piece)
  pub bytes : s.tells → (leaves_of u new kept limit).bytes ≡ written (leaves_of s t kept limit).bytes offset piece
  pub over : Over u new kept limit
  pub grows : Grows s u (leaves_of s t kept limit) (leaves_of u new kept limit)
  pub spare : s.spare ≤ u.spare + most_for (max t.size (offset + length piece)) (length piece)
  pub room : u.room ≡ s.room
  pub clear : s.tells ⊎ ((t.size ≤ 8192 * (offset / 8192 + 1)) × (offset + length piece ≤ 8192 * (offset / 8192 + 1))) → EndsClear s t kept → EndsClear u new kept
  pub comes : s.tells → (from : Pointer) → ComesFor s t.top from → ComesFor u new.top from
  pub only : s.tells → (y x : ℕ) → u.instead y x → (new.top ≡ Local y) ⊎ (s.instead y x × (t.top ≡ Local y → ⊥))
  pub changes : Changes t.tag (HasBlock s t) (HasBlock s t) s u
  pub only_ways : Changes t.tag (HasBlock s t) (λ b. OnPiece s t offset (length piece) b) s u
  pub shows : LeavesBeside s u t offset (length piece)
