-- A source was changed, whose entry is to be put again.
use Rattle.std.specs.Prelude.{◌≡◌, ◌≢◌, ◌⊎◌, ◌≤◌, ℕ, true}
use Rattle.fo_image.specs.declared.types.Pointer.TheVariants.{Local}
use Rattle.fo_crash.specs.declared.place.Place.{Place}
use Rattle.fo_crash.specs.Images.{Reaches, target, to_block}
use Rattle.fo_ports.specs.State.{State, IsRooted}
use Rattle.fo_ports.specs.Sources.{Made}
use Rattle.fo_tree_read.specs.declared.tree.Tree.{Tree}
use Rattle.fo_tree_read.specs.Tree.{block_at}
use Rattle.fo_tree_look.specs.Source.{HasBlock}
use Rattle.fo_tree_open.specs.Open.{NamesRank}

-- What a device that tells has of a source that is linked: the block with its entry hangs from block 1, at a place from which the leaves
-- have this rank; each block of the source hangs from block 1; and nothing is to come in the place of another block.
pub record HangsInTree (s : State) (t : Tree) (at i : ℕ) : Type 0 where
  pub in_tree : Reaches s.now (to_block 1) at
  pub ranked : (p : Place) → s.stands at p → NamesRank p.kind p.rank i t.dir t.rank
  pub owned : (b : ℕ) → HasBlock s t b → Reaches s.now (to_block 1) b
  pub none : (y x : ℕ) → s.instead y x → ⊥

-- The same source, with no fewer levels.
pub record SameSource (t new : Tree) : Type 0 where
  pub dir : new.dir ≡ t.dir
  pub rank : new.rank ≡ t.rank
  pub more : t.depth ≤ new.depth

-- Each leaf of a source of entries has the slots of a leaf that it had, or leads to no block.
pub record KeepsEntries (s u : State) (t new : Tree) : Type 0 where
  pub each : t.dir ≡ true → (k a : ℕ) → block_at u new new.depth k ≡ Local a → ((m b : ℕ) × (block_at s t t.depth m ≡ Local b) × ((j : ℕ) → (u.now a).slot j ≡ (s.now b).slot j)) ⊎ ((j b : ℕ) → target ((u.now a).slot j) ≢ Local b)

-- What a call on a source leaves of other blocks, as `Changes` of the trait of sources has it: they hang from block 1 and stand where they
-- did, and block 1 is not given out.
pub record KeepsOthers (s u : State) (t : Tree) : Type 0 where
  pub made : (b : ℕ) → Made s u b → b ≢ 1
  pub places : s.tells → (b : ℕ) (p : Place) → (Made s u b → ⊥) → (HasBlock s t b → ⊥) → (u.covered b → ⊥) → IsRooted u b → s.stands b p → u.stands b p
  pub rooted : s.tells → (b : ℕ) → (Made s u b → ⊥) → IsRooted u b → IsRooted s b
  pub in_tree : s.tells → (b : ℕ) → (HasBlock s t b → ⊥) → Reaches s.now (to_block 1) b → Reaches u.now (to_block 1) b
