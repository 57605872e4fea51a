-- What is kept of blocks that aren't settled.
use Rattle.std.specs.Prelude.{ℕ, List}
use Rattle.fo_order.specs.declared.marks.Flags.{Flags}
use Rattle.fo_order.specs.declared.marks.Mark.{Mark}

-- The flags of each address; the writes since the last sync, each with the rank of its block; and how many changes need no memory.
pub record Turns : Type 0 where
  pub flags : List Flags
  pub written : List Mark
  pub room : ℕ
