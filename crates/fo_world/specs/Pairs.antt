-- What a pair of references points to.
use Rattle.std.specs.Borrow.{Bor}
use Rattle.std.specs.Prelude.{ℕ, List, Option, Some, None}
use Rattle.fo_world.specs.declared.tree.Node.{Node}

-- the name and the node, where there is one
abbrev pub pair_copied : Option (Bor (List ℕ) × Bor Node) → Option (List ℕ × Node)
pair_copied None = None
pair_copied (Some p) = Some (p.0.now, p.1.now)
