use Rattle.std.proofs.Common.{◌≡◌, false, sym, subst, rules}
use Rattle.fo_crash.specs.declared.slot.Slot.TheVariants.{Entry as Head}
use Rattle.fo_tree_open.specs.Open.{CanOpen}
use Rattle.test_tree.proofs.Linking.{can_open, linked_of}
use Rattle.test_tree.proofs.linked.opened.Goals as goal

pub open-requires-clause-told : goal.open-requires-clause-told
open-requires-clause-told g c = λ told.
    let u = g.B.Blocks.state c.pinned_root.new.on in
    let e = c.in-Some.entry in
    let plain : e.dir ≡ false = search rules in
    subst (λ b. CanOpen u b 0 e 2112) (sym c.in_ok-root.ensures.root.0) (can_open (c.ground.ensures told) (c.pinned_root.ensures.none c.requires.none) e plain)

pub returns-clause-linked : goal.returns-clause-linked
returns-clause-linked g c =
    let u = g.B.Blocks.state c.pinned_root.new.on in
    let e = c.in-Some.entry in
    let at_root = c.in_ok-root.ensures.root.0 in
    let plain : e.dir ≡ false = search rules in
    linked_of (c.ground.ensures (c.requires.memory c.pinned_root.new.on).told) (c.pinned_root.ensures.none c.requires.none) e c.open.result (subst (λ b. u.pinned b) at_root c.in_ok-root.ensures.root.1) (subst (λ b. (u.now b).slot 0 ≡ Head e) at_root c.in-Some.ensures) plain c.open.ensures.fits c.open.ensures.is c.open.ensures.over
