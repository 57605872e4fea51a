use Rattle.std.proofs.Common.{sym, arith, ◌<◌, length, is_ok}
use Rattle.fo_world.specs.Tree.{change_along}
use Rattle.fo_world.proofs.Changes.{change_first-item-if, change_first-none, change_along-step-if}
use Rattle.fo_world.proofs.Ascending.{Ascending-item}
use Rattle.fo_world.proofs.tree.+change.Goals as goal

pub Names::change_first-returns-in-Some-clause-after : goal.Names::change_first-returns-in-Some-clause-after
Names::change_first-returns-in-Some-clause-after g t c =
    rw (c.change.ensures.after, ← c.self.view_is)
    (change_first-item-if (is_ok c.change.result) _ (change_along c.args.rest.now (g.C.Alter.after c.args.change)) _ _ _ c.index_mut.ensures.value (rw c.as_slice.ensures.value at c.in-Some.ensures.0) (rw c.as_slice.ensures.value at c.in-Some.ensures.1))

pub Names::change_first-returns-in-None-clause-after : goal.Names::change_first-returns-in-None-clause-after
Names::change_first-returns-in-None-clause-after g t c =
    rw (← c.self.view_is) (sym (change_first-none _ (change_along c.args.rest.now (g.C.Alter.after c.args.change)) _ (rw c.as_slice.ensures.value at c.in-None.ensures)))

pub Node::change-returns-else-trail-eq0-clause-after : goal.Node::change-returns-else-trail-eq0-clause-after
Node::change-returns-else-trail-eq0-clause-after g t c =
    let h : 0 < length c.args.trail.now = omega arith in
    rw c.change_child.ensures.after (change_along-step-if (is_ok c.change_child.result) c.args.trail.now (g.C.Alter.after c.args.change) c.args.self.now h)

pub Names::change_first-invariant_of-self : goal.Names::change_first-invariant_of-self
Names::change_first-invariant_of-self g t c = Ascending-item c.self.inside.entries.items c.in-Some.i c.index_mut.result.now c.change.new.self c.index_mut.ensures.value c.self.invariant
