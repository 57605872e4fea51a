-- How often the device is called until all is settled.
use Rattle.std.specs.Prelude.{ℕ, ◌+◌, ◌*◌, ◌≤◌, List, length, min, count_by, Option, None, Some}
use Rattle.fo_order.specs.Flags.{is_dirty}
use Rattle.fo_order.specs.Keeps.{Turns}
use Rattle.fo_mind.specs.Parts.{Parts}

-- A count rose by at most so many.
abbrev pub AtMost : ℕ → ℕ → ℕ → Type 0
AtMost n before now = now ≤ before + n

-- Each dirty block is a write, after which a sync may be due; and a sync is due where something was written.
abbrev pub work : Turns → ℕ
work t = 2 * count_by is_dirty t.flags + min 1 (length t.written)

-- one, where a super block is in doubt
abbrev pub in_doubt : Option (List ℕ) → ℕ
in_doubt None = 0
in_doubt (Some tried) = 1

-- So many calls settle all, at most: a write and a sync of block 1, where it is in doubt; the turns that blocks have; and three for each slot
-- that waits to be cleared, since its block has a turn then.
abbrev pub calls_left : Parts → ℕ
calls_left p = 2 * in_doubt p.doubt + work p.turns + 3 * length p.clears
