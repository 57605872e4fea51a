-- How often one block of a device is read.
use Rattle.std.specs.Prelude.{ℕ, nat_eq, cond}

-- a read of this block, as one of the block that is watched
abbrev pub hits : ℕ → ℕ → ℕ
hits at watched = cond (nat_eq at watched) 1 0
