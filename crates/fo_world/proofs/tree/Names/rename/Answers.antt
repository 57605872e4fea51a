use Rattle.std.proofs.Common.{sym, is_ok, []}
use Rattle.fo_world.specs.Dated.{dated_node}
use Rattle.fo_world.specs.Step.{with_fields}
use Rattle.fo_world.proofs.Changes.{rename-at-if, rename-none}
use Rattle.fo_world.proofs.Ascending.{Ascending-renamed-if}
use Rattle.fo_world.proofs.tree.Names.rename.Goals as goal

pub returns-in-Some-clause-after : goal.returns-in-Some-clause-after
returns-in-Some-clause-after c =
    rw (c.rename_at.ensures.after ([], dated_node 0 0), ← c.self.view_is)
    (rename-at-if (is_ok c.rename_at.result) c.args.old.now c.args.name (with_fields c.args.fields.what c.args.fields.who c.args.fields.now) _ _ _ (rw c.as_slice.ensures.value at c.in-Some.ensures.0) (rw c.as_slice.ensures.value at c.in-Some.ensures.1))

pub returns-in-None-clause-after : goal.returns-in-None-clause-after
returns-in-None-clause-after c = rw (← c.self.view_is) (sym (rename-none c.args.old.now c.args.name (with_fields c.args.fields.what c.args.fields.who c.args.fields.now) _ (rw c.as_slice.ensures.value at c.in-None.ensures)))

pub invariant_of-self : goal.invariant_of-self
invariant_of-self c =
    rw (c.rename_at.ensures.after ([], dated_node 0 0))
    (Ascending-renamed-if (is_ok c.rename_at.result) c.self.inside.entries.items c.in-Some.i c.args.name (with_fields c.args.fields.what c.args.fields.who c.args.fields.now) ([], dated_node 0 0) c.self.invariant)
