-- A snapshot: what it does to the division of blocks, and to removals.
use Rattle.std.specs.Prelude.{◌≡◌, ◌≢◌, ◌⊎◌, ◌≤◌, ℕ, suc, List, [], ◌∷◌}
use Rattle.std.specs.List.{Contains}
use Rattle.fo_image.specs.declared.types.Pointer.TheVariants.{Local}
use Rattle.fo_crash.specs.declared.slot.Slot.{Slot}
use Rattle.fo_crash.specs.declared.place.Place.{Place}
use Rattle.fo_crash.specs.Images.{target, to_block}
use Rattle.fo_cells.specs.Known.{Known, MaySlot, Stands}
use Rattle.fo_cells_out.specs.Removals.{Pending, IsCovered}
use Rattle.fo_cells_out.specs.Parents.{Tree}
use Rattle.fo_cells_queue.specs.Queue.{Queued}

-- From before the new root was given out (`first`) until the super block that names it counts (`new`): nothing but block 1 and the new root
-- changed in memory, and all is settled. The new root leads where the old one leads. Nothing was made else.
pub record BeginsQueue (root next high : ℕ) (first new : Known) (t : Tree) (queue : List Pending) : Type 0 where
  pub memory : (a i : ℕ) → a ≢ 1 → a ≢ next → (new.memory a).slot i ≡ (first.memory a).slot i
  pub slots : (i : ℕ) → target ((new.memory next).slot i) ≡ target ((first.memory root).slot i)
  pub was : (first.memory 1).slot 0 ≡ to_block root
  pub was_only : (i b : ℕ) → target ((first.memory 1).slot i) ≡ Local b → i ≡ 0
  pub now : (new.memory 1).slot 0 ≡ to_block next
  pub now_only : (i b : ℕ) → target ((new.memory 1).slot i) ≡ Local b → i ≡ 0
  pub settled : (a i : ℕ) (s : Slot) (p : Place) → Stands new a p → MaySlot new a i s → s ≡ (new.memory a).slot i
  pub one : t.Within 1
  pub others : (root ≢ 1) × (next ≢ 1)
  -- no slot leads to block 1
  pub unled : (a i : ℕ) → t.Within a → target ((first.memory a).slot i) ≡ Local 1 → ⊥
  pub fresh : (t.Within next → ⊥) × (t.Covered next → ⊥)
  pub unmade : (b : ℕ) → t.Made b → ⊥
  pub label : (b : ℕ) → b ≢ next → new.label b ≡ first.label b
  pub epoch : (new.label next).epoch ≡ suc high
  pub begun : (b : ℕ) → IsCovered queue b → (first.label b).epoch ≤ high

-- the removals of the epoch that ended
abbrev pub ended : ℕ → List Pending → List Queued
ended high [] = []
ended high (r ∷ rs) = record { pending = r; epoch = high } ∷ ended high rs

-- the old root waits, after block 1
abbrev pub old_root : ℕ → List Pending
old_root root = record { blocks = root ∷ []; after = 1 } ∷ []

-- the division then: the new root is in the tree, the old one waits, and all else in the tree is older
abbrev pub begun_tree : Tree → ℕ → ℕ → List ℕ → Tree
begun_tree t root next before = record {
  Within = λ b. (t.Within b × (b ≢ root)) ⊎ (b ≡ next);
  Made = λ b. ⊥;
  Covered = λ b. Contains before b ⊎ IsCovered (old_root root) b;
  Older = λ b. t.Within b × (b ≢ 1) × (b ≢ root);
  Pointers = t.Pointers;
}
