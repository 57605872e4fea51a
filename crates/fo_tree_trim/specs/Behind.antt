-- What stands behind a way.
use Rattle.std.specs.Prelude.{◌≡◌, ◌^◌, ◌<◌, ◌≤◌, ℕ, List}
use Rattle.fo_image.specs.declared.types.Pointer.TheVariants.{Nil, Local}
use Rattle.fo_crash.specs.Images.{Reaches, to_block}
use Rattle.fo_ports.specs.State.{State}
use Rattle.fo_tree_read.specs.declared.tree.Tree.{Tree}
use Rattle.fo_tree_read.specs.Tree.{block_at}
use Rattle.fo_tree_look.specs.declared.ways.Kept.{Kept}
use Rattle.fo_tree_look.specs.Source.{seen}
use Rattle.fo_tree_down.specs.Way.{IsWayIndex}

-- No block stands behind the way to block k of those n steps below the top, as far as its levels go.
abbrev pub IsClearTo : State → Tree → List Kept → ℕ → ℕ → Type 0
IsClearTo s t kept n k = (m a b : ℕ) → IsWayIndex n k m a → a < b → b < 409 ^ m → block_at (seen s kept) t m b ≡ Nil

-- A block of the source stands behind the way to leaf `last`, at its level.
pub record IsPast (s : State) (t : Tree) (last b : ℕ) : Type 0 where
  pub down : ℕ
  pub index : ℕ
  pub way : ℕ
  pub within : down ≤ t.depth
  pub few : index < 409 ^ down
  pub is_way : IsWayIndex t.depth last down way
  pub behind : way < index
  pub is : block_at s t down index ≡ Local b

-- A block stands behind the way to leaf `last`, or hangs from one that does, through entries too.
pub record HangsPast (s : State) (t : Tree) (last b : ℕ) : Type 0 where
  pub from : ℕ
  pub past : IsPast s t last from
  pub reaches : Reaches s.now (to_block from) b
