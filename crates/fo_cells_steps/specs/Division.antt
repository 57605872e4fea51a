-- The division of the blocks, read off what a cache keeps; and when two divisions are one.
use Rattle.std.specs.Prelude.{◌≡◌, ◌≢◌, ◌⊎◌, ◌<◌, ℕ, List, Bool, ◌++◌}
use Rattle.std.specs.List.{Contains}
use Rattle.fo_disk.specs.Disk.{Content as Holds}
use Rattle.fo_image.specs.declared.types.Kind.{Kind}
use Rattle.fo_image.specs.declared.types.Kind.TheVariants.{Data, Dir, Root}
use Rattle.fo_image.specs.declared.types.State.TheVariants.{Live}
use Rattle.fo_crash.specs.Images.{Reaches, to_block}
use Rattle.fo_cells.specs.Known.{Top}
use Rattle.fo_cells.specs.Device.{known}
use Rattle.fo_cells_out.specs.Parents.{Tree, blocks_of, view}
use Rattle.fo_cells_out.specs.Origins.{Origins, HasOrigins}
use Rattle.fo_cells_all.specs.of_cells_queue.Queue.{past_blocks}
use Rattle.fo_cells_all.specs.All.{Kept, Format, HoldsAll}

-- a kind of blocks of a level above the leaves of their source
abbrev pub IsOfPointers : Kind → Type 0
IsOfPointers (Data level) = 0 < level
IsOfPointers (Dir level) = 0 < level
IsOfPointers Root = ⊥

-- THE DIVISION: the tree is what block 1 reaches in memory; `Made` is what was made and not linked yet; what removals have left is covered.
abbrev pub division : Kept → (ℕ → Type 0) → Tree
division c Made = record {
  Within = λ b. Reaches c.mind.memory (to_block 1) b;
  Made = Made;
  Covered = λ b. Contains (past_blocks c.past ++ blocks_of c.queue) b;
  Older = λ b. (b ≢ 1) × ((c.mind.label b).state ≡ Live) × ((c.mind.label b).epoch < c.high);
  Pointers = λ b. IsOfPointers (c.mind.label b).kind;
}

-- THE WHOLE, with what was made: what holds of all that a cache keeps, and what made blocks are copies of. The tops of the active trees are
-- block 1 and made blocks, and what was put into no slot yet is among them.
pub record HoldsMade (c : Kept) (f : Format) (Made : ℕ → Type 0) (h : Origins) (unsure : List Bool) (holds : Holds) : Type 0 where
  pub all : HoldsAll c f (division c Made) unsure holds
  pub origins : HasOrigins (view (known c.mind holds) c.active) (division c Made) h
  pub tops : (y : Top) → Contains c.active y → (y.at ≡ 1) ⊎ Made y.at
  pub apart : (b : ℕ) → h.Apart b → (y : Top) × Contains c.active y × (y.at ≡ b)

-- Two divisions have the same blocks in the tree, made, and covered; of these the same are older and of pointers.
pub record SameTree (t u : Tree) : Type 0 where
  pub within : (b : ℕ) → t.Within b → u.Within b
  pub within_back : (b : ℕ) → u.Within b → t.Within b
  pub made : (b : ℕ) → t.Made b → u.Made b
  pub made_back : (b : ℕ) → u.Made b → t.Made b
  pub covered : (b : ℕ) → t.Covered b → u.Covered b
  pub covered_back : (b : ℕ) → u.Covered b → t.Covered b
  pub older : (b : ℕ) → t.Within b ⊎ t.Made b → t.Older b → u.Older b
  pub older_back : (b : ℕ) → t.Within b ⊎ t.Made b → u.Older b → t.Older b
  pub pointers : (b : ℕ) → t.Within b ⊎ t.Made b → t.Pointers b → u.Pointers b
  pub pointers_back : (b : ℕ) → t.Within b ⊎ t.Made b → u.Pointers b → t.Pointers b
