-- What is asked of a pair that is cleared, and what its entries are then.
use Rattle.std.specs.Prelude.{◌≡◌, ◌⊎◌, ◌+◌, ◌*◌, ℕ, List, find, Some}
use Rattle.fo_image.specs.declared.record.Record.{Record}
use Rattle.fo_ports.specs.of_meta.Leaf.{SpellsLeaf, is_named}
use Rattle.fo_crash.specs.Images.{Image, Reaches}
use Rattle.fo_crash.specs.Steps.{cleared}
use Rattle.fo_ports.specs.State.{State}
use Rattle.fo_dir_change.specs.of_dir_put.Paired.{LacksPair, IsUnnamed}

-- Nothing is still to come in the place of another block, and no slot below entry j waits to be cleared.
pub record IsQuiet (s : State) (at j : ℕ) : Type 0 where
  pub none_comes : (y x : ℕ) → s.instead y x → ⊥
  pub quiet : (b i : ℕ) → s.clearing b i → Reaches s.now ((s.now at).slot j) b → ⊥

-- An entry was cleared, or waits to be cleared and stays until then.
abbrev pub IsGoing : (old new : State) → (at j : ℕ) → Type 0
IsGoing old new at j = (((new.now at).slot j ≡ cleared ((old.now at).slot j)) × (new.clearing at j → ⊥)) ⊎ (((new.now at).slot j ≡ (old.now at).slot j) × new.clearing at j)

-- In none of these images a record of this leaf has the pair.
pub record NoneHas (n k a : ℕ) (images : Image → Type 0) : Type 0 where
  pub each : (image : Image) → images image → LacksPair n k ((image a).bytes)

-- The first record of this name has pair p of leaf m of the entries.
pub record HasPairOf (name leaf : List ℕ) (m p : ℕ) : Type 0 where
  pub each : (rs : List Record) → SpellsLeaf rs leaf → (r : Record) → find (is_named name) rs ≡ Some r → r.slot ≡ 102 * m + p

-- No record has pair k of leaf n of the entries any more: none of this leaf, where the first entry still waits to be cleared, and none of any
-- image, once it was.
pub record IsGone (n k a leaf entries : ℕ) (s : State) : Type 0 where
  pub waiting : s.clearing entries (2 * k) → IsUnnamed n k a leaf s
  pub cleared : (s.clearing entries (2 * k) → ⊥) → NoneHas n k a s.may_leave
