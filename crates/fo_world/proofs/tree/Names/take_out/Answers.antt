use Rattle.std.proofs.Common.{sym}
use Rattle.fo_world.proofs.Changes.{without-remove, without-none}
use Rattle.fo_world.proofs.Ascending.{Ascending-remove}
use Rattle.fo_world.proofs.tree.Names.take_out.Goals as goal

pub returns-in-Some : goal.returns-in-Some
returns-in-Some c =
    rw (c.remove.ensures.items, ← c.self.view_is)
    (sym (without-remove c.args.name.now _ _ (rw c.as_slice.ensures.value at c.in-Some.ensures.0) (rw c.as_slice.ensures.value at c.in-Some.ensures.1)))

pub returns-in-None : goal.returns-in-None
returns-in-None c = rw (← c.self.view_is) (sym (without-none c.args.name.now _ (rw c.as_slice.ensures.value at c.in-None.ensures)))

pub invariant_of-self : goal.invariant_of-self
invariant_of-self c = rw c.remove.ensures.items (Ascending-remove c.self.inside.entries.items c.in-Some.i c.self.invariant)
