use Rattle.std.proofs.Common.{inl, inr, ⊎_elim, subst, sym, ap, ◌∙◌, ◌≡◌}
use Rattle.fo_image.specs.declared.types.Pointer.{Pointer}
use Rattle.fo_tree_look.specs.Source.{Ready}
use Rattle.fo_tree_down.proofs.Topping.{top_local, top_held, top_epoch, ready_local, ready_kept, nil_local, held_local, local_eq}
use Rattle.fo_tree_down.proofs.top.own_top.Goals as goal

pub own_local-requires-clause-ready : goal.own_local-requires-clause-ready
own_local-requires-clause-ready g c =
    ready_local (g.B.Blocks.state c.args.on.now) c.args.tree.now c.args.kept.now c.in-Local.at c.in-Local.is c.requires.ready

pub own_local-requires-clause-told : goal.own_local-requires-clause-told
own_local-requires-clause-told g c =
    λ told. c.requires.told told c.in-Local.at c.in-Local.is

pub own_local-requires-clause-spare : goal.own_local-requires-clause-spare
own_local-requires-clause-spare g c =
    ⊎_elim (λ top. inl (top_epoch c.in-Local.is top)) (λ some. inr some) c.requires.spare

pub new_top-requires-clause-spare : goal.new_top-requires-clause-spare
new_top-requires-clause-spare g c =
    ⊎_elim (λ top. absurd (top_local c.in-Nil.is top)) (λ some. some) c.requires.spare

pub kept_top-requires-clause-kept : goal.kept_top-requires-clause-kept
kept_top-requires-clause-kept g c =
    ready_kept (g.B.Blocks.state c.args.on.now) c.args.tree.now c.args.kept.now c.in-Score.score c.in-Score.is c.requires.ready

pub kept_top-requires-clause-plain : goal.kept_top-requires-clause-plain
kept_top-requires-clause-plain g c =
    (subst (λ (p : Pointer). Ready (g.B.Blocks.state c.args.on.now) c.args.tree.now c.args.kept.now 0 p) c.in-Score.is c.requires.ready).1

pub kept_top-requires-clause-spare : goal.kept_top-requires-clause-spare
kept_top-requires-clause-spare g c =
    ⊎_elim (λ top. absurd (top_held c.in-Score.is top)) (λ some. some) c.requires.spare

pub returns-in-Nil-clause-less : goal.returns-in-Nil-clause-less
returns-in-Nil-clause-less g c = λ top. absurd (top_local c.in-Nil.is top)

pub returns-in-Local-clause-less : goal.returns-in-Local-clause-less
returns-in-Local-clause-less g c = λ top. c.own_local.ensures.less (top_epoch c.in-Local.is top)

pub returns-in-Score-clause-less : goal.returns-in-Score-clause-less
returns-in-Score-clause-less g c = λ top. absurd (top_held c.in-Score.is top)

pub returns-in-Nil-clause-same : goal.returns-in-Nil-clause-same
returns-in-Nil-clause-same g c = λ b is current. absurd (nil_local b (sym c.in-Nil.is ∙ is))

pub returns-in-Local-clause-same : goal.returns-in-Local-clause-same
returns-in-Local-clause-same g c = λ b is current.
    let same : c.in-Local.at ≡ b = local_eq (sym c.in-Local.is ∙ is) in
    c.own_local.ensures.same (ap (λ y. ((g.B.Blocks.state c.args.on.now).label y).epoch) same ∙ current) ∙ same

pub returns-in-Score-clause-same : goal.returns-in-Score-clause-same
returns-in-Score-clause-same g c = λ b is current. absurd (held_local c.in-Score.score b (sym c.in-Score.is ∙ is))

pub returns-in-Nil-clause-dirties_less : goal.returns-in-Nil-clause-dirties_less
returns-in-Nil-clause-dirties_less g c = λ top. absurd (top_local c.in-Nil.is top)

pub returns-in-Local-clause-dirties_less : goal.returns-in-Local-clause-dirties_less
returns-in-Local-clause-dirties_less g c = λ top. c.own_local.ensures.dirties_less (top_epoch c.in-Local.is top)

pub returns-in-Score-clause-dirties_less : goal.returns-in-Score-clause-dirties_less
returns-in-Score-clause-dirties_less g c = λ top. absurd (top_held c.in-Score.is top)
