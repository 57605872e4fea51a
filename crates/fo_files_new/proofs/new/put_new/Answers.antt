use Rattle.std.proofs.Common.{length, ap, sym, subst, ◌∙◌}
use Rattle.fo_meta.specs.Leaf.{IsLeaf}
use Rattle.fo_dir_add.proofs.of_dir_put.Leaves.{leaf_long}
use Rattle.fo_files_new.proofs.Putting.{owned_records, owned_entries, leaf_rank, is_put}
use Rattle.fo_files_new.proofs.new.put_new.Goals as goal
use Rattle.fo_dirties.proofs.Adding.{dirties_idle, dirties_after}
use Rattle.fo_dirties.proofs.Putting.{dirties_looks}

pub add_new-requires-clause-owned : goal.add_new-requires-clause-owned
add_new-requires-clause-owned g c = owned_records (g.B.Blocks.state c.args.on.now) (g.B.Blocks.state c.get.new.self) _ c.args.leaves.records (g.met.B.Blocks.keeps_all c.args.on.now c.get.new.self c.get.ensures.keeps) c.get.ensures.looks c.requires.silent (λ b h. g.met.B.Blocks.covers_told c.get.new.self b h) c.requires.own.records_own

pub add_new-requires-clause-entries : goal.add_new-requires-clause-entries
add_new-requires-clause-entries g c = owned_entries (g.B.Blocks.state c.args.on.now) (g.B.Blocks.state c.get.new.self) _ c.args.leaves.entries (g.met.B.Blocks.keeps_all c.args.on.now c.get.new.self c.get.ensures.keeps) c.get.ensures.looks c.requires.silent (λ b h. g.met.B.Blocks.covers_told c.get.new.self b h) c.requires.own.entries_own

pub add_new-requires-clause-bytes : goal.add_new-requires-clause-bytes
add_new-requires-clause-bytes g c =
    (c.in-Ok.ensures.formed.0.1 (leaf_rank c.args.dir.rank c.requires.dir.ranked c.requires.dir.least), c.in-Ok.ensures.bytes.0.behind)

pub returns-in-Added-clause-put : goal.returns-in-Added-clause-put
returns-in-Added-clause-put g c =
    let m = g.B.Blocks.state c.get.new.self in
    let u = g.B.Blocks.state c.add_new.new.on in
    let e = c.add_new.ensures in
    let is = c.in-Added.is in (
      c.get.new.self,
      is_put (g.B.Blocks.state c.args.on.now) m u c.args.dir c.args.pair c.args.leaves c.args.named c.add_new.new.named (g.met.B.Blocks.keeps_all c.args.on.now c.get.new.self c.get.ensures.keeps) (g.met.B.Blocks.keeps_all c.get.new.self c.add_new.new.on e.keeps) c.get.ensures.looks c.requires.dir.pair.is_pinned c.requires.apart.0 c.requires.apart.1 c.requires.own
          (record { added = e.added is; bytes = e.bytes is; slots = e.slots is; calm = e.calm is; whole = ap (λ z. length z) (sym e.hand.1) ∙ leaf_long e.hand.0; waits = e.waits is }) (e.gets is).0 (e.gets is).1 e.holds (subst IsLeaf c.in-Ok.ensures.bytes.0.behind (c.in-Ok.ensures.formed.0.1 (leaf_rank c.args.dir.rank c.requires.dir.ranked c.requires.dir.least))),
    )

pub returns-in-Err-clause-dirties : goal.returns-in-Err-clause-dirties
returns-in-Err-clause-dirties g c = dirties_idle (dirties_looks (g.met.B.Blocks.keeps_all c.args.on.now c.get.new.self c.get.ensures.keeps) c.get.ensures.looks)

pub returns-in-Added-clause-dirties : goal.returns-in-Added-clause-dirties
returns-in-Added-clause-dirties g c = dirties_after (dirties_looks (g.met.B.Blocks.keeps_all c.args.on.now c.get.new.self c.get.ensures.keeps) c.get.ensures.looks) c.add_new.ensures.dirties

pub returns-in-Taken-clause-dirties : goal.returns-in-Taken-clause-dirties
returns-in-Taken-clause-dirties g c = dirties_after (dirties_looks (g.met.B.Blocks.keeps_all c.args.on.now c.get.new.self c.get.ensures.keeps) c.get.ensures.looks) c.add_new.ensures.dirties

pub returns-in-NoRoom-clause-dirties : goal.returns-in-NoRoom-clause-dirties
returns-in-NoRoom-clause-dirties g c = dirties_after (dirties_looks (g.met.B.Blocks.keeps_all c.args.on.now c.get.new.self c.get.ensures.keeps) c.get.ensures.looks) c.add_new.ensures.dirties
