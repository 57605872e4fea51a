-- A source that grows.
use Rattle.std.specs.Prelude.{◌≡◌, ◌/◌, ◌%◌, ◌≤◌, ℕ, List}
use Rattle.fo_ports.specs.State.{State}
use Rattle.fo_ports.specs.Sources.{byte_at}
use Rattle.fo_tree_raise.specs.of_tree_read.declared.tree.Tree.{Tree}
use Rattle.fo_tree_leaf.specs.of_tree_look.declared.ways.Kept.{Kept}
use Rattle.fo_tree_leaf.specs.of_tree_look.Source.{IsPlainTree, address_here, held_here}

-- the tree of a source of this depth and size, and of this size
abbrev pub shaped : Tree → ℕ → ℕ → Tree
shaped t depth size = record t { depth = depth; size = size }

abbrev pub sized : Tree → ℕ → Tree
sized t size = record t { size = size }

-- Behind the end of a source whose leaves hold neither entries nor records there are zeros, also in its last leaf.
abbrev pub TailClear : State → Tree → List Kept → Type 0
TailClear s t kept = IsPlainTree t → (k : ℕ) → t.size ≤ k → byte_at s.now (address_here s t (k / 8192)) (held_here s t kept (k / 8192)) (k % 8192) ≡ 0
