use Rattle.std.proofs.Common.{List}
use Rattle.fo_image.specs.declared.record.Record.{Record}
use Rattle.fo_meta.specs.Leaf.{SpellsLeaf}
use Rattle.fo_meta.proofs.Leaves.{Walks}
use Rattle.fo_meta.proofs.leaf.place_of.Given as goal

abbrev pub invariant-records : goal.invariant-records
invariant-records l = (rs : List Record) → SpellsLeaf rs l.leaf → Walks l.leaf l.name rs l.counter l.at
