-- A source and its entry.
use Rattle.std.specs.Prelude.{ℕ, Bool}
use Rattle.fo_image.specs.declared.types.Pointer.TheVariants.{Nil}
use Rattle.fo_tree_read.specs.declared.tree.Tree.{Tree}

-- the tree of a source without bytes
abbrev pub empty_tree : Bool → ℕ → ℕ → Tree
empty_tree dir tag rank = record { dir = dir; tag = tag; rank = rank; depth = 0; size = 0; top = Nil }
