use Rattle.std.proofs.Common.{sym, ap, ◌∙◌, Some}
use Rattle.fo_world.proofs.Changes.{named-item, named-none}
use Rattle.fo_world.proofs.tree.Names.named.Goals as goal

pub returns-in-Some-clause-pair : goal.returns-in-Some-clause-pair
returns-in-Some-clause-pair c =
    rw (← c.self.view_is)
    (ap Some c.index-entry.ensures ∙ sym (named-item c.args.name.now c.self.inside.entries.items c.index-entry.result.now c.in-Some.i (rw c.as_slice.ensures.value at c.in-Some.ensures.0) (rw c.as_slice.ensures.value at c.in-Some.ensures.1)))

pub returns-in-Some-clause-found : goal.returns-in-Some-clause-found
returns-in-Some-clause-found c =
    rw (← c.self.view_is)
    (named-item c.args.name.now c.self.inside.entries.items c.index-entry.result.now c.in-Some.i (rw c.as_slice.ensures.value at c.in-Some.ensures.0) (rw c.as_slice.ensures.value at c.in-Some.ensures.1) ∙ ap Some (sym c.index-entry.ensures))

pub returns-in-None-clause-pair : goal.returns-in-None-clause-pair
returns-in-None-clause-pair c = rw (← c.self.view_is) (sym (named-none c.args.name.now _ (rw c.as_slice.ensures.value at c.in-None.ensures)))

pub returns-in-None-clause-found : goal.returns-in-None-clause-found
returns-in-None-clause-found c = rw (← c.self.view_is) (named-none c.args.name.now _ (rw c.as_slice.ensures.value at c.in-None.ensures))
