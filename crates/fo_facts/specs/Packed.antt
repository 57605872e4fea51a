-- The fact that a packed one is.
use Rattle.std.specs.Prelude.{ℕ, ◌+◌, ◌/◌, ◌%◌, ◌==◌, Bool, true, false, cond, Option, Some, None}
use Rattle.fo_facts.specs.declared.fact.Fact.{Fact}
use Rattle.fo_facts.specs.declared.packed.Packed.{Packed}

abbrev pub flag : Bool → ℕ → ℕ
flag is weight = cond is weight 0

abbrev pub has_flag : ℕ → ℕ → Bool
has_flag weight flags = flags / weight % 2 == 1

abbrev pub is_there : Option ℕ → Bool
is_there (Some _) = true
is_there None = false

abbrev pub flags_of : Fact → ℕ
flags_of f = flag f.apart 1 + flag f.linked 2 + flag f.fresh 4 + flag f.sealed 8 + flag f.owes 16 + flag (is_there f.origin) 32

abbrev pub unpacked : Packed → Fact
unpacked p = record {
  apart = has_flag 1 p.flags;
  origin = cond (has_flag 32 p.flags) (Some p.origin) None;
  linked = has_flag 2 p.flags;
  fresh = has_flag 4 p.flags;
  sealed = has_flag 8 p.flags;
  owes = has_flag 16 p.flags;
  rank = p.rank;
}
