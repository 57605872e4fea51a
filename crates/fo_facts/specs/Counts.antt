-- Which facts are counted.
use Rattle.std.specs.Prelude.{Bool, not}
use Rattle.fo_facts.specs.declared.fact.Fact.{Fact}

-- a unit of room in the order of writing is kept for the block
abbrev pub owes : Fact → Bool
owes f = f.owes

-- a block that was made, and is not in the tree of memory yet
abbrev pub is_made : Fact → Bool
is_made f = not f.linked
