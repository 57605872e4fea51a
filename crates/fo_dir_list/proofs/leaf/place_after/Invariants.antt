use Rattle.std.proofs.Common.{List, [], take}
use Rattle.fo_image.specs.declared.record.Record.{Record}
use Rattle.fo_meta.specs.Leaf.{SpellsLeaf}
use Rattle.fo_meta.proofs.Leaves.{Walks}
use Rattle.fo_dir_list.specs.Next.{NextStands}
use Rattle.fo_dir_list.proofs.leaf.place_after.Given as goal

abbrev pub invariant-records : goal.invariant-records
invariant-records l = (rs : List Record) → SpellsLeaf rs l.leaf → Walks l.leaf [] rs l.counter l.at × NextStands l.leaf l.after (take l.counter rs) l.best
