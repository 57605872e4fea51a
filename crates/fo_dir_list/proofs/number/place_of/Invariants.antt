use Rattle.std.proofs.Common.{List}
use Rattle.fo_image.specs.declared.record.Record.{Record}
use Rattle.fo_meta.specs.Leaf.{SpellsLeaf}
use Rattle.fo_dir_list.proofs.Numbers.{Passes}
use Rattle.fo_dir_list.proofs.number.place_of.Given as goal

abbrev pub invariant-records : goal.invariant-records
invariant-records l = (rs : List Record) → SpellsLeaf rs l.leaf → Passes l.leaf l.number rs l.counter l.at
