use Rattle.std.proofs.Common.{◌≡◌, [], List, length}
use Rattle.fo_image.specs.declared.record.Record.{Record}
use Rattle.fo_ports.specs.of_meta.Leaf.{SpellsLeaf}
use Rattle.fo_ports.proofs.of_meta.Leaves.{Walks}
use Rattle.fo_slots.specs.Formed.{RunsTo}
use Rattle.fo_slots.proofs.leaf.records_end.Given as goal

abbrev pub invariant-records : goal.invariant-records
invariant-records l = record {
  runs : RunsTo l.leaf l.counter l.at;
  walks : (rs : List Record) → SpellsLeaf rs l.leaf → length rs ≡ l.count → Walks l.leaf [] rs l.counter l.at;
}
