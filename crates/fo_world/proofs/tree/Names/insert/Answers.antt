use Rattle.std.proofs.Common.{sym}
use Rattle.fo_world.proofs.Changes.{put_name-insert}
use Rattle.fo_world.proofs.Ascending.{Ascending-insert}
use Rattle.fo_world.proofs.tree.Names.insert.Goals as goal

pub returns-clause-after : goal.returns-clause-after
returns-clause-after c =
    rw (c.in_ok-insert.ensures.items, c.place_for-i.ensures.place, c.as_slice.ensures.value, c.as_slice-2.ensures, ← c.self.view_is)
    (sym (put_name-insert c.args.name c.args.node c.self.inside.entries.items))

pub invariant_of-self-2 : goal.invariant_of-self-2
invariant_of-self-2 c =
    rw (c.in_ok-insert.ensures.items, c.place_for-i.ensures.place, c.as_slice.ensures.value, c.as_slice-2.ensures)
    (Ascending-insert c.args.name c.args.node c.self.inside.entries.items c.self.invariant)
