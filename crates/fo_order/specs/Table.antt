-- The flags of blocks as they lie in memory.
use Rattle.std.specs.Prelude.{◌≡◌, ℕ, true, false, List, [], ◌∷◌, length}
use Rattle.fo_order.specs.declared.marks.Flags.{Flags}
use Rattle.fo_order.specs.declared.marks.Tried.TheVariants.{Settled as Sure, Written as Wrote, Failed as Lost}
use Rattle.fo_order.specs.declared.table.Standing.{Standing}
use Rattle.fo_order.specs.declared.table.Standing.TheVariants.{Settled, SettledDirty, Written, WrittenDirty, Failed, FailedDirty}
use Rattle.fo_order.specs.declared.table.FlagTable.TheInside.{Inside}
use Rattle.fo_order.specs.Flags.{flags_of}

-- a standing and a rank as flags
abbrev pub unpacked : Standing → ℕ → Flags
unpacked Settled rank = flags_of false Sure rank
unpacked SettledDirty rank = flags_of true Sure rank
unpacked Written rank = flags_of false Wrote rank
unpacked WrittenDirty rank = flags_of true Wrote rank
unpacked Failed rank = flags_of false Lost rank
unpacked FailedDirty rank = flags_of true Lost rank

abbrev pub table : List Standing → List ℕ → List Flags
table (s ∷ standings) (r ∷ ranks) = unpacked s r ∷ table standings ranks
table (s ∷ standings) [] = []
table [] ranks = []

abbrev pub view_of : Inside → List Flags
view_of a = table a.standings.items a.ranks.items

pub record IsEven (a : Inside) : Type 0 where
  pub even : length a.standings.items ≡ length a.ranks.items
