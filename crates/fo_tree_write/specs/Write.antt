-- A piece is put into a source, leaf by leaf.
use Rattle.std.specs.Prelude.{◌≡◌, ◌⊎◌, ◌+◌, ◌-◌, ◌*◌, ◌/◌, ◌^◌, ◌<◌, ◌≤◌, ℕ, List, length, take}
use Rattle.fo_image.specs.declared.types.Pointer.{Pointer}
use Rattle.fo_image.specs.declared.types.Pointer.TheVariants.{Local}
use Rattle.fo_ports.specs.State.{State}
use Rattle.fo_ports.specs.Sources.{DirtiesIn, Made, ComesFor}
use Rattle.fo_tree_read.specs.declared.tree.Tree.{Tree}
use Rattle.fo_tree_read.specs.Reading.{passed}
use Rattle.fo_tree_clear.specs.of_tree_look.declared.ways.Kept.{Kept}
use Rattle.fo_tree_clear.specs.of_tree_look.Source.{HasBlock, Over, Prepared, WayReady}
use Rattle.fo_tree_clear.specs.of_tree_down.Way.{OnWay, HasWay, WayCurrent}
use Rattle.fo_tree_clear.specs.of_tree_down.Clear.{EndsClear}
use Rattle.fo_tree_clear.specs.Put.{byte_here, Puts}
use Rattle.fo_tree_clear.specs.Steps.{Steps}

-- the tree with this top
abbrev pub at_top : Tree → Pointer → Tree
at_top t top = record t { top = top }

-- A block of the way to a leaf that has some of so many bytes from an offset on.
pub record OnWays (s : State) (t : Tree) (offset n b : ℕ) : Type 0 where
  pub leaf : ℕ
  pub from : offset / 8192 ≤ leaf
  pub to : 8192 * leaf < offset + n
  pub few : leaf < 409 ^ t.depth
  pub on : OnWay s t t.depth leaf b

-- So many blocks were spent: none yet; or the way to the leaf that was written last is current, and each block of the ways to it and those
-- before took one at most.
pub record Spent (now : State) (t : Tree) (before offset done : ℕ) : Type 0 where
  pub is : ((done ≡ 0) × (before ≤ now.spare)) ⊎ ((0 < done) × WayCurrent now t t.depth ((offset + done - 1) / 8192) × (before + passed t.depth (offset / 8192) ≤ now.spare + (t.depth + 1) + passed t.depth ((offset + done - 1) / 8192)))

-- So many blocks were left to be written: none yet; or all on the way to the leaf that was written last, which is current, are among them,
-- and there are two at most for each block of the ways to it and those before.
pub record Counted (old now : State) (t : Tree) (offset done : ℕ) : Type 0 where
  pub blocks : List ℕ
  pub within : DirtiesIn blocks old now
  pub is : ((done ≡ 0) × (length blocks ≡ 0)) ⊎ ((0 < done) × WayCurrent now t t.depth ((offset + done - 1) / 8192) × HasWay blocks now t t.depth ((offset + done - 1) / 8192) × (length blocks + 2 * passed t.depth (offset / 8192) ≤ 2 * (t.depth + 1) + 2 * passed t.depth ((offset + done - 1) / 8192)))

-- The first bytes of a piece were put, and the source has this top now.
pub record Wrote (s u : State) (t : Tree) (top : Pointer) (kept : List Kept) (offset done : ℕ) (piece : List ℕ) : Type 0 where
  pub over : (limit : ℕ) → Over s t kept limit → Over u (at_top t top) kept limit
  pub bytes : s.tells → Puts (byte_here s t kept) (byte_here u (at_top t top) kept) offset (take done piece)
  pub still : (limit o n : ℕ) → Prepared s t kept limit o n → Prepared u (at_top t top) kept limit o n
  pub owns : s.tells → (b : ℕ) → (HasBlock u (at_top t top) b → HasBlock s t b ⊎ Made s u b) × (Made s u b → HasBlock u (at_top t top) b)
  pub ways : (j b : ℕ) → 8192 * j < t.size → WayReady s t kept t.depth j → OnWay u (at_top t top) t.depth j b → OnWay s t t.depth j b ⊎ Made s u b
  pub comes : s.tells → (from : Pointer) → ComesFor s t.top from → ComesFor u top from
  pub only : s.tells → (y x : ℕ) → u.instead y x → (top ≡ Local y) ⊎ (s.instead y x × (t.top ≡ Local y → ⊥))
  pub clear : s.tells ⊎ (t.size ≤ 8192 * (offset / 8192 + 1)) → EndsClear s t kept → EndsClear u (at_top t top) kept
  pub steps : Steps t.tag (HasBlock s t) (OnWays s t offset (length piece)) s u
  pub spent : Spent u (at_top t top) s.spare offset done
