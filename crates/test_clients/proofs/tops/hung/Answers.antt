use Rattle.std.proofs.Common.{◌≡◌, ◌≢◌, ◌-◌, ◌^◌, ◌<◌, ◌≤◌, ℕ, refl, sym, ◌∙◌, ap, subst, arith}
use Rattle.fo_image.specs.declared.types.Entry.{Entry}
use Rattle.fo_image.specs.declared.types.Label.{Label}
use Rattle.fo_image.specs.declared.types.Pointer.TheVariants.{Local}
use Rattle.fo_crash.specs.declared.slot.Slot.{Slot}
use Rattle.fo_crash.specs.declared.slot.Slot.TheVariants.{Entry as Head}
use Rattle.fo_ports.specs.Blocks.{IsEntry, SlotFits, slot_count, cost, dropped, no_entry}
use Rattle.test_clients.specs.Found.{short}
use Rattle.test_clients.proofs.tops.hung.Goals as goal

local_eq : {a b : ℕ} → Local a ≡ Local b → a ≡ b
local_eq e = cc

short_fits : (leaf : ℕ) → leaf < 2 ^ 32 - 1 → IsEntry (Head (short leaf))
short_fits leaf lt = (record { active_holds = (record { room = omega arith; least = λ n less. absurd (omega (arith, less)) }, lt) }, omega arith)

pub put_slot-requires-clause-pinned : goal.put_slot-requires-clause-pinned
put_slot-requires-clause-pinned g c =
    let first = c.new_block-at.ensures.gives in
    let second = c.new_block-leaf.ensures.gives in
    let mid = c.new_block-at.new.self in
    let s = g.B.Blocks.state mid in
    let at = c.new_block-at.result in
    let leaf = c.new_block-leaf.result in
    let ne : at ≢ leaf = λ e. second.was.0 (ap (λ x. (s.label x).state) (sym e) ∙ ap (λ (l : Label). l.state) first.label) in
    (second.stays.marks at ne).0 first.is.1

pub put_slot-requires-clause-current : goal.put_slot-requires-clause-current
put_slot-requires-clause-current g c =
    let first = c.new_block-at.ensures.gives in
    let second = c.new_block-leaf.ensures.gives in
    let on = c.args.on.now in
    let mid = c.new_block-at.new.self in
    let last = c.new_block-leaf.new.self in
    let s = g.B.Blocks.state mid in
    let at = c.new_block-at.result in
    let leaf = c.new_block-leaf.result in
    let k = g.met.B.Blocks.keeps_all mid last c.new_block-leaf.ensures.keeps in
    let j = g.met.B.Blocks.keeps_all on mid c.new_block-at.ensures.keeps in
    let ne : at ≢ leaf = λ e. second.was.0 (ap (λ x. (s.label x).state) (sym e) ∙ ap (λ (l : Label). l.state) first.label) in
    let label = second.stays.labels at ne in
    ap (λ (l : Label). l.epoch) label ∙ ap (λ (l : Label). l.epoch) first.label ∙ sym (k.same_high ∙ j.same_high)

pub put_slot-requires-clause-spelled : goal.put_slot-requires-clause-spelled
put_slot-requires-clause-spelled g c =
    let first = c.new_block-at.ensures.gives in
    let second = c.new_block-leaf.ensures.gives in
    let mid = c.new_block-at.new.self in
    let last = c.new_block-leaf.new.self in
    let s = g.B.Blocks.state mid in
    let at = c.new_block-at.result in
    let leaf = c.new_block-leaf.result in
    let ne : at ≢ leaf = λ e. second.was.0 (ap (λ x. (s.label x).state) (sym e) ∙ ap (λ (l : Label). l.state) first.label) in
    let label = second.stays.labels at ne in
    let kind = ap (λ (l : Label). l.kind) label ∙ ap (λ (l : Label). l.kind) first.label in
    let wanted : c.short.result ≡ short leaf = c.short.ensures in
    (subst (λ x. 0 < slot_count x) (sym kind) (omega arith), subst (λ x. SlotFits x 0 (Head c.short.result)) (sym kind) (subst (λ (e : Entry). IsEntry (Head e)) (sym wanted) (short_fits leaf (g.met.B.Blocks.small last leaf second.is.0))))

pub put_slot-requires-clause-settled : goal.put_slot-requires-clause-settled
put_slot-requires-clause-settled g c =
    let first = c.new_block-at.ensures.gives in
    let second = c.new_block-leaf.ensures.gives in
    let at = c.new_block-at.result in
    λ h. (first.order.clearing at 0 (second.order.clearing at 0 h).1).0 refl

pub put_slot-requires-clause-same_use : goal.put_slot-requires-clause-same_use
put_slot-requires-clause-same_use g c =
    let first = c.new_block-at.ensures.gives in
    let second = c.new_block-leaf.ensures.gives in
    let at = c.new_block-at.result in
    λ a w. absurd (first.is.5 a 0 (second.no_wait.each a at 0 (λ n. n) w))

pub put_slot-requires-clause-leads : goal.put_slot-requires-clause-leads
put_slot-requires-clause-leads g c =
    let first = c.new_block-at.ensures.gives in
    let second = c.new_block-leaf.ensures.gives in
    let mid = c.new_block-at.new.self in
    let last = c.new_block-leaf.new.self in
    let s = g.B.Blocks.state mid in
    let t = g.B.Blocks.state last in
    let at = c.new_block-at.result in
    let leaf = c.new_block-leaf.result in
    let ne : at ≢ leaf = λ e. second.was.0 (ap (λ x. (s.label x).state) (sym e) ∙ ap (λ (l : Label). l.state) first.label) in
    let wanted : c.short.result ≡ short leaf = c.short.ensures in
    λ b e. let is : leaf ≡ b = local_eq (sym (ap (λ (x : Entry). x.top) wanted) ∙ e) in (subst (λ x. t.is_block x) is second.is.0, λ same. ne (sym (is ∙ same)))

pub put_slot-requires-clause-may : goal.put_slot-requires-clause-may
put_slot-requires-clause-may g c =
    let last = c.new_block-leaf.new.self in
    λ told. absurd (c.requires.untold last told)

pub put_slot-requires-clause-room : goal.put_slot-requires-clause-room
put_slot-requires-clause-room g c =
    let first = c.new_block-at.ensures.gives in
    let second = c.new_block-leaf.ensures.gives in
    let mid = c.new_block-at.new.self in
    let last = c.new_block-leaf.new.self in
    let s = g.B.Blocks.state mid in
    let t = g.B.Blocks.state last in
    let at = c.new_block-at.result in
    let leaf = c.new_block-leaf.result in
    let ne : at ≢ leaf = λ e. second.was.0 (ap (λ x. (s.label x).state) (sym e) ∙ ap (λ (l : Label). l.state) first.label) in
    let slot_is : (t.now at).slot 0 ≡ Head no_entry = (second.memory.others at ne).slots 0 ∙ first.memory.here.slots 0 in
    let wanted : c.short.result ≡ short leaf = c.short.ensures in
    subst (λ (x : Slot). cost x (Head c.short.result) ≤ t.room) (sym slot_is) (subst (λ (e : Entry). cost (Head no_entry) (Head e) ≤ t.room) (sym wanted) (omega arith))

pub put_slot-requires-clause-tops : goal.put_slot-requires-clause-tops
put_slot-requires-clause-tops g c =
    let first = c.new_block-at.ensures.gives in
    let second = c.new_block-leaf.ensures.gives in
    let mid = c.new_block-at.new.self in
    let last = c.new_block-leaf.new.self in
    let s = g.B.Blocks.state mid in
    let t = g.B.Blocks.state last in
    let at = c.new_block-at.result in
    let leaf = c.new_block-leaf.result in
    let ne : at ≢ leaf = λ e. second.was.0 (ap (λ x. (s.label x).state) (sym e) ∙ ap (λ (l : Label). l.state) first.label) in
    let slot_is : (t.now at).slot 0 ≡ Head no_entry = (second.memory.others at ne).slots 0 ∙ first.memory.here.slots 0 in
    let wanted : c.short.result ≡ short leaf = c.short.ensures in
    λ n x lt e. let none : n < dropped (Head no_entry) (Head (short leaf)) = subst (λ (y : Entry). n < dropped (Head no_entry) (Head y)) wanted (subst (λ (y : Slot). n < dropped y (Head c.short.result)) slot_is lt) in absurd (omega (arith, none))

pub returns-clause-source : goal.returns-clause-source
returns-clause-source g c =
    let first = c.new_block-at.ensures.gives in
    let second = c.new_block-leaf.ensures.gives in
    let on = c.args.on.now in
    let mid = c.new_block-at.new.self in
    let last = c.new_block-leaf.new.self in
    let s = g.B.Blocks.state mid in
    let at = c.new_block-at.result in
    let leaf = c.new_block-leaf.result in
    let k = g.met.B.Blocks.keeps_all mid last c.new_block-leaf.ensures.keeps in
    let j = g.met.B.Blocks.keeps_all on mid c.new_block-at.ensures.keeps in
    let ne : at ≢ leaf = λ e. second.was.0 (ap (λ x. (s.label x).state) (sym e) ∙ ap (λ (l : Label). l.state) first.label) in
    let label = second.stays.labels at ne in
    let wanted : c.short.result ≡ short leaf = c.short.ensures in
    let put = c.put_slot.ensures in
    let p = g.met.B.Blocks.keeps_all last c.put_slot.new.self put.keeps in
    let at_label = put.frame.stays.labels at (λ n. n) ∙ label ∙ first.label in
    let leaf_label = put.frame.stays.labels leaf (λ n. n) ∙ second.label in
    record {
      at_pinned = (put.frame.stays.marks at (λ n. n)).0 ((second.stays.marks at ne).0 first.is.1);
      at_live = ap (λ (l : Label). l.state) at_label;
      at_kind = ap (λ (l : Label). l.kind) at_label;
      at_epoch = ap (λ (l : Label). l.epoch) at_label ∙ sym (p.same_high ∙ k.same_high ∙ j.same_high);
      at_settled = λ h. (first.order.clearing at 0 (second.order.clearing at 0 (put.order.clearing at 0 h).1).1).0 refl;
      entry = put.now.here ∙ ap (λ (e : Entry). Head e) wanted;
      leaf_live = ap (λ (l : Label). l.state) leaf_label;
      leaf_epoch = ap (λ (l : Label). l.epoch) leaf_label ∙ sym (p.same_high ∙ k.same_high);
    }

pub returns-clause-spare : goal.returns-clause-spare
returns-clause-spare g c =
    let one = c.new_block-at.ensures.gives.uses.spare in
    let two = c.new_block-leaf.ensures.gives.uses.spare in
    let three = c.put_slot.ensures.frame.uses.spare in
    let room = c.requires.spare in
    omega (arith, one, two, three, room)
