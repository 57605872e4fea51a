use Rattle.std.proofs.Common.{◌≡◌, drop}
use Rattle.fo_world.specs.declared.tree.Body.TheVariants.{Dir}
use Rattle.fo_world.specs.Tree.{child, names_of}
use Rattle.fo_world.proofs.tree.Names.numbered.Given as goal

abbrev pub invariant-loop-entry : goal.invariant-loop-entry
invariant-loop-entry l = child l.number (Dir (names_of (drop l.entry-index l.entry-items))) ≡ child l.number (Dir l.self)
