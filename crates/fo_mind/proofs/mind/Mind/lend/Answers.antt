use Rattle.std.proofs.Common.{refl, sym, ap, ◌∙◌}
use Rattle.fo_image.specs.declared.types.Label.{Label}
use Rattle.fo_buffers.specs.Held.{held_at}
use Rattle.fo_mind.specs.MindParts.{parts}
use Rattle.fo_bring.proofs.Copying.{if_some}
use Rattle.fo_mind.proofs.Getting.{got_held, good_held, lent_good, lent_some, not_first}
use Rattle.fo_mind.proofs.Results.{any_some}
use Rattle.fo_mind.proofs.mind.Mind.lend.Goals as goal

pub lend_held-requires : goal.lend_held-requires
lend_held-requires c = lent_good c.args.at c.args.kind c.args.self.now.holding (ap (λ (l : Label). l.kind) (sym c.label.ensures) ∙ c.is_kind.ensures.0 c.if-is_kind.true)

pub returns-then-is_kind-clause-got : goal.returns-then-is_kind-clause-got
returns-then-is_kind-clause-got c =
    let self = c.args.self.now in
    let is_kind = ap (λ (l : Label). l.kind) (sym c.label.ensures) ∙ c.is_kind.ensures.0 c.if-is_kind.true in
    if_some c.lend_held.result
    (λ b gets disk faults.
    let some = lent_some c.args.kind c.args.rank (held_at self.buffers c.args.at) b.now gets in
    got_held (parts self disk faults) self.first self.count c.args.at c.args.kind is_kind (not_first c.args.at self.placed.begins self.holding some)
    c.args.rank b.now (held_at self.buffers c.args.at) refl (good_held c.args.at c.args.kind self.holding is_kind some) gets)
    c.lend_held.ensures.lent

pub returns-then-is_kind-clause-kind : goal.returns-then-is_kind-clause-kind
returns-then-is_kind-clause-kind c = any_some c.lend_held.result (ap (λ (l : Label). l.kind) (sym c.label.ensures) ∙ c.is_kind.ensures.0 c.if-is_kind.true)
