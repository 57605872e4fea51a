use Rattle.std.proofs.Common.{◌≡◌, ◌+◌, drop}
use Rattle.fo_world.specs.Places.{place_numbered}
use Rattle.fo_world.proofs.tree.place_numbered.Given as goal

abbrev pub invariant-loop-i : goal.invariant-loop-i
invariant-loop-i l = place_numbered l.number l.entries ≡ l.i + place_numbered l.number (drop l.i l.entries)
