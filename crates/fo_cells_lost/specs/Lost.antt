-- Blocks that are lost: nobody has them, nothing closes them, and they may not be given out.
use Rattle.std.specs.Prelude.{◌≡◌, ◌≢◌, ◌⊎◌, ◌<◌, ◌≤◌, ℕ, suc, false, List}
use Rattle.std.specs.List.{Contains}
use Rattle.fo_image.specs.Usable.{is_usable}
use Rattle.fo_crash.specs.declared.place.Place.{Place}
use Rattle.fo_cells.specs.Known.{Known, Stands}
use Rattle.fo_cells_out.specs.Removals.{Pending, IsCovered}
use Rattle.fo_cells_out.specs.Parents.{Tree}
use Rattle.fo_cells_queue.specs.of_cells_epochs.Epochs.{Root, tree_of}
use Rattle.fo_cells_queue.specs.Queue.{Queued, NewLabel, closed_at}

-- LOST: it may not be given out, is in no tree, was not made just now, waits in no removal, and no kept tree has it.
pub record IsLost (k : Known) (t : Tree) (roots : List Root) (b : ℕ) : Type 0 where
  pub taken : is_usable k.low (k.label b) ≡ false
  pub outside : (t.Within b → ⊥) × (t.Made b → ⊥) × (t.Covered b → ⊥)
  pub unkept : (r : Root) (q : Place) → Contains roots r → Stands (tree_of k r) b q → ⊥

-- A call may have lost what `Gap` says, and no other block.
pub record LosesOnly (old new : Known) (t u : Tree) (roots : List Root) (Gap : ℕ → Type 0) : Type 0 where
  pub each : (b : ℕ) → IsLost new u roots b → IsLost old t roots b ⊎ Gap b

-- Slots of blocks in kept trees stay.
pub record KeepsKept (old new : Known) (roots : List Root) : Type 0 where
  pub slots : (a i : ℕ) → ((new.memory a).slot i ≡ (old.memory a).slot i) ⊎ ((r : Root) (p : Place) → Contains roots r → Stands (tree_of old r) a p → ⊥)

-- What was in the tree, made, or covered is so still, or is in the gap; what is, is decided.
pub record MovesOnly (t u : Tree) (Gap : ℕ → Type 0) : Type 0 where
  pub within : (b : ℕ) → t.Within b → u.Within b ⊎ (u.Covered b ⊎ Gap b)
  pub made : (b : ℕ) → t.Made b → u.Within b ⊎ u.Made b
  pub covered : (b : ℕ) → t.Covered b → u.Covered b
  pub decided : (b : ℕ) → Gap b ⊎ (Gap b → ⊥)

-- where a block is, and the epoch at which it leaves or left the active tree
pub data HangsIn (t : Tree) (high : ℕ) (past : List Queued) (queue : List Pending) (b epoch : ℕ) : Type 0 where
  within : t.Within b → epoch ≡ high → HangsIn t high past queue b epoch
  earlier : (r : Queued) → Contains past r → Contains r.pending.blocks b → epoch ≡ r.epoch → HangsIn t high past queue b epoch
  active : IsCovered queue b → epoch ≡ high → HangsIn t high past queue b epoch

-- THE TREE OF THE EPOCH BEFORE has each block that was given out before the epoch at which it leaves, where that tree is kept.
pub record AreShared (k : Known) (t : Tree) (high : ℕ) (roots : List Root) (past : List Queued) (queue : List Pending) : Type 0 where
  pub shared : (b epoch : ℕ) → b ≢ 1 → HangsIn t high past queue b epoch → (k.label b).epoch < epoch → k.low < epoch → (r : Root) × Contains roots r × (suc r.epoch ≡ epoch) × ((q : Place) × Stands (tree_of k r) b q)

-- what is closed, of what waits; and what waits then
pub record ClosesOne (b epoch : ℕ) (old new : Known) (t u : Tree) (high : ℕ) (past : List Queued) (queue : List Pending) : Type 0 where
  pub label : NewLabel b (closed_at (old.label b) epoch) old new
  pub begun : (old.label b).epoch ≤ epoch
  pub other : b ≢ 1
  pub hangs : HangsIn t high past queue b epoch
  pub within : (a : ℕ) → t.Within a → u.Within a
  pub made : (a : ℕ) → t.Made a → u.Made a
  pub covered : (a : ℕ) → t.Covered a → (a ≡ b) ⊎ u.Covered a

-- WHAT KEPT TREES SHARE stays so, where whatever hangs or waits did before, with its label; or is of the high epoch
pub record SharesStill (old new : Known) (t u : Tree) (high : ℕ) (past after : List Queued) (queue rest : List Pending) : Type 0 where
  pub low : new.low ≡ old.low
  pub each : (b epoch : ℕ) → HangsIn u high after rest b epoch → (HangsIn t high past queue b epoch × (new.label b ≡ old.label b)) ⊎ (epoch ≤ (new.label b).epoch)
