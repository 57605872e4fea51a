use Rattle.std.proofs.Common.{◌≡◌, ℕ, refl, sym, ◌∙◌, ap}
use Rattle.fo_image.specs.declared.types.Entry.{Entry}
use Rattle.fo_image.specs.declared.types.Label.{Label}
use Rattle.fo_image.specs.declared.types.Pointer.TheVariants.{Nil, Local}
use Rattle.test_tree_set.proofs.steps.begun.Goals as goal

nil_local : (b : ℕ) → Nil ≡ Local b → ⊥
nil_local b e = cc

pub put_slot-requires-clause-current : goal.put_slot-requires-clause-current
put_slot-requires-clause-current g c =
    let all = g.met.B.Blocks.keeps_all c.args.on.now c.new_block-at.new.self c.new_block-at.ensures.keeps in
    ap (λ (l : Label). l.epoch) c.new_block-at.ensures.gives.label ∙ sym all.same_high

pub put_slot-requires-clause-same_use : goal.put_slot-requires-clause-same_use
put_slot-requires-clause-same_use g c = λ a w. absurd (c.new_block-at.ensures.gives.is.5 a 0 w)

pub put_slot-requires-clause-settled : goal.put_slot-requires-clause-settled
put_slot-requires-clause-settled g c = λ h. (c.new_block-at.ensures.gives.order.clearing c.new_block-at.result 0 h).0 refl

pub put_slot-requires-clause-leads : goal.put_slot-requires-clause-leads
put_slot-requires-clause-leads g c = λ b e. absurd (nil_local b (sym (ap (λ (x : Entry). x.top) c.blank_data-entry.ensures) ∙ e))

pub put_slot-requires-clause-may : goal.put_slot-requires-clause-may
put_slot-requires-clause-may g c = λ told. absurd (c.requires.untold c.new_block-at.new.self told)
