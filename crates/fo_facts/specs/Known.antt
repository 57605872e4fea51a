-- What is known of addresses, and what calls do to it.
use Rattle.std.specs.Prelude.{◌&&◌, ◌||◌, ℕ, Bool, true, false, not, cond, List, slice_index_or, slice_set, Option, Some, None}
use Rattle.fo_facts.specs.declared.fact.Fact.{Fact}

-- of an address of which nothing is known
abbrev pub no_fact : Fact
no_fact = record { apart = false; origin = None; linked = true; fresh = false; sealed = true; owes = false; rank = 0 }

abbrev pub fact_at : List Fact → ℕ → Fact
fact_at facts b = slice_index_or facts b no_fact

-- what is known of one address changes so
abbrev pub noted : List Fact → ℕ → (Fact → Fact) → List Fact
noted facts at f = slice_set facts at (f (fact_at facts at))

-- of a block that was given out: it has a turn once it is linked, for which room is kept
abbrev pub made_fact : Option ℕ → ℕ → Fact
made_fact origin rank = record { apart = true; origin = origin; linked = false; fresh = true; sealed = false; owes = true; rank = rank }

-- a unit of room in the order of writing is kept for the block, with this rank
abbrev pub owing_as : ℕ → Fact → Fact
owing_as rank f = record f { owes = true; rank = rank }

abbrev pub owing_no_more : Fact → Fact
owing_no_more f = record f { owes = false }

-- A block that is linked has a turn where memory has it changed, and then no room is kept for one.
abbrev pub linked_as : Bool → Fact → Fact
linked_as dirty f = record f { linked = true; owes = f.owes && not dirty }

-- The block was written since it was given out. If it is pinned, room is kept for its next turn.
abbrev pub written_as : Bool → Fact → Fact
written_as pinned f = record f { fresh = false; owes = f.owes || pinned }

-- the block is apart no more
abbrev pub come_as : Fact → Fact
come_as f = record f { apart = false }

-- the block comes in the place of this one
abbrev pub instead_of : Option ℕ → Fact → Fact
instead_of origin f = record f { origin = origin }

-- In whose place a new top comes that is raised over block b: in that of b, where b is in a slot; else in whose place b was to come.
abbrev pub origin_over : ℕ → Fact → Option ℕ
origin_over b f = cond f.apart f.origin (Some b)
