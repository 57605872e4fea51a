use Rattle.std.proofs.Common.{sym}
use Rattle.fo_meta.specs.Leaf.{SpellsLeaf}
use Rattle.fo_good.proofs.Leaf.{leaf_is_read}
use Rattle.fo_vac_dir.proofs.Records.{spelled_hold}
use Rattle.fo_vac_dir.proofs.leaf.records_in.Goals as goal

pub returns-in-Ok-Some-clause-read : goal.returns-in-Ok-Some-clause-read
returns-in-Ok-Some-clause-read c =
    let s : SpellsLeaf c.in-Ok-Some.records.items c.args.leaf.now = rw c.in-Ok-Some.field-0-is at c.in-Ok-Some.ensures in
    sym (leaf_is_read c.in-Ok-Some.records.items c.args.leaf.now s)

pub returns-in-Ok-Some-clause-holds : goal.returns-in-Ok-Some-clause-holds
returns-in-Ok-Some-clause-holds c =
    let s : SpellsLeaf c.in-Ok-Some.records.items c.args.leaf.now = rw c.in-Ok-Some.field-0-is at c.in-Ok-Some.ensures in
    spelled_hold c.in-Ok-Some.records.items s.each
