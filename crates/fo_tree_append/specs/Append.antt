-- A piece is put past the end of a source.
use Rattle.std.specs.Prelude.{◌≡◌, ◌⊎◌, ◌+◌, ◌-◌, ◌*◌, ◌/◌, ◌%◌, ◌<◌, ◌≤◌, ℕ, zero, suc, List, length, max}
use Rattle.fo_image.specs.declared.types.Pointer.{Pointer}
use Rattle.fo_image.specs.declared.types.Pointer.TheVariants.{Local}
use Rattle.fo_ports.specs.State.{State}
use Rattle.fo_sparse.specs.Written.{written}
use Rattle.fo_ports.specs.Sources.{Changes, Grows, ComesFor, depth_for, most_for}
use Rattle.fo_tree_read.specs.declared.tree.Tree.{Tree}
use Rattle.fo_tree_read.specs.Reading.{passed}
use Rattle.fo_tree_look.specs.declared.ways.Kept.{Kept}
use Rattle.fo_tree_look.specs.Source.{HasBlock, Over, leaves_of}
use Rattle.fo_tree_clear.specs.of_tree_down.Way.{OnWay, WayCurrent, CurrentBut}
use Rattle.fo_tree_clear.specs.of_tree_down.Clear.{EndsClear}
use Rattle.fo_tree_write.specs.Write.{OnWays}

-- the tree of a source of this size, with the least levels, below this top
abbrev pub ended : Tree → ℕ → Pointer → Tree
ended t z top = record t { depth = depth_for z; size = z; top = top }

-- A block of the way to one of these leaves.
pub record OnLeaves (s : State) (t : Tree) (first last b : ℕ) : Type 0 where
  pub leaf : ℕ
  pub from : first ≤ leaf
  pub to : leaf ≤ last
  pub on : OnWay s t t.depth leaf b

-- A block of the way to the leaf within which the source ends.
pub record OnEnd (s : State) (t : Tree) (b : ℕ) : Type 0 where
  pub within : 0 < t.size % 8192
  pub on : OnWay s t t.depth (t.size / 8192) b

-- A block that may change where so many bytes are put from an offset on: one of the way to a leaf of the piece, or where the source ends
-- with the piece then, to the leaf within which it ended before.
abbrev pub OnPiece : State → Tree → ℕ → ℕ → ℕ → Type 0
OnPiece s t offset n b = OnWays s t offset n b ⊎ ((t.size < offset + n) × OnEnd s t b)

-- So many blocks were spent where all but so many of the way to the first leaf are current: none yet; or the way to the leaf that was
-- written last is current, and each block of the ways to it and those before took one at most.
pub record SpendsBut (c : ℕ) (now : State) (t : Tree) (before offset done : ℕ) : Type 0 where
  pub is : ((done ≡ 0) × (before ≤ now.spare) × CurrentBut now t c t.depth (offset / 8192)) ⊎ ((0 < done) × WayCurrent now t t.depth ((offset + done - 1) / 8192) × (before + passed t.depth (offset / 8192) ≤ now.spare + c + passed t.depth ((offset + done - 1) / 8192)))

-- where a source ends once so many bytes were put from an offset on; none change nothing
abbrev pub piece_end : ℕ → ℕ → ℕ → ℕ
piece_end size offset zero = size
piece_end size offset (suc n) = max size (offset + suc n)

-- the tree of a source into which so many bytes were put, below this top
abbrev pub with_piece : Tree → ℕ → ℕ → Pointer → Tree
with_piece t offset n top = ended t (piece_end t.size offset n) top

-- A piece was put into a source, and this is its tree now: what `write` of the trait of sources promises.
pub record PutsPiece (s u : State) (t new : Tree) (kept : List Kept) (offset : ℕ) (piece : List ℕ) : Type 0 where
  pub over : (limit : ℕ) → offset + length piece ≤ limit → Over s t kept limit → Over u new kept limit
  pub bytes : s.tells → (limit : ℕ) → (leaves_of u new kept limit).bytes ≡ written ((leaves_of s t kept limit).bytes) offset piece
  pub grows : (limit : ℕ) → Grows s u (leaves_of s t kept limit) (leaves_of u new kept limit)
  pub comes : s.tells → (from : Pointer) → ComesFor s t.top from → ComesFor u new.top from
  pub only : s.tells → (y x : ℕ) → u.instead y x → (new.top ≡ Local y) ⊎ (s.instead y x × (t.top ≡ Local y → ⊥))
  pub clear : s.tells ⊎ ((t.size ≤ 8192 * (offset / 8192 + 1)) × (offset + length piece ≤ 8192 * (offset / 8192 + 1))) → EndsClear s t kept → EndsClear u new kept
  pub changes : Changes t.tag (HasBlock s t) (HasBlock s t) s u
  pub only_ways : Changes t.tag (HasBlock s t) (λ b. OnPiece s t offset (length piece) b) s u
  pub spent : s.spare ≤ u.spare + most_for (max t.size (offset + length piece)) (length piece)
  pub room : u.room ≡ s.room
