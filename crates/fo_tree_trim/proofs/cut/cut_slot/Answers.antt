use Rattle.std.proofs.Common.{◌<◌, inl, inr, ⊎_elim, refl, sym, subst}
use Rattle.fo_tree_trim.proofs.One.{inner_pointer, inner_count, removed}
use Rattle.fo_tree_trim.proofs.cut.cut_slot.Goals as goal

pub returns-then-not-is_nil-clause-cut : goal.returns-then-not-is_nil-clause-cut
returns-then-not-is_nil-clause-cut g c =
    let on = c.args.on.now in
    let s = g.B.Blocks.state on in
    let at = c.args.at in
    let i = c.args.i in
    let kind = (s.label at).kind in
    let p = c.remove_slot.ensures in
    let few = subst (λ n. i < n) (sym (inner_count kind c.requires.inner)) c.requires.slot in
    inl (removed {at = at} {i = i} {s = s} {u = g.B.Blocks.state c.remove_slot.new.self}
    (inner_pointer kind i ((s.now at).slot i) c.requires.inner (g.met.B.Blocks.spelled on at i c.requires.pinned few))
    (⊎_elim (λ h. inl (h.0, h.1)) (λ h. inr h.2) p.now)
    refl p.images p.frame p.hangs p.order p.no_wait p.queues p.covers)
