use Rattle.std.proofs.Common.{◌≡◌, ◌<◌, [], sym, ap, ◌∙◌, subst, arith}
use Rattle.fo_crash.specs.declared.slot.Slot.{Slot}
use Rattle.fo_crash.specs.Images.{target}
use Rattle.fo_crash.specs.Steps.{cleared}
use Rattle.fo_mind.specs.of_ports.Blocks.{SlotFits, slot_count}
use Rattle.fo_mind.specs.of_waits.Listed.{Clears}
use Rattle.fo_mind.specs.MindParts.{parts}
use Rattle.fo_mind.specs.Parts.{Parts, IsPinned, label_at, memory}
use Rattle.fo_mind.specs.Slotted.{Slotted}
use Rattle.fo_mind.proofs.Cleared.{cleared_nowhere, ends_one}
use Rattle.fo_put.proofs.Removing.{cleared_spelled}
use Rattle.fo_put.proofs.removes.clear_slot.Goals as goal

pub change_slot-requires-clause-pinned : goal.change_slot-requires-clause-pinned
change_slot-requires-clause-pinned c = subst (λ (p : Parts). IsPinned p.held c.args.at) (sym (c.end_waits.ensures [] 0).rest) c.requires.pinned

pub change_slot-requires-clause-current : goal.change_slot-requires-clause-current
change_slot-requires-clause-current c = subst (λ (p : Parts). (label_at p.region c.args.at).epoch ≡ p.one.high) (sym (c.end_waits.ensures [] 0).rest) c.requires.current

pub change_slot-requires-clause-spelled : goal.change_slot-requires-clause-spelled
change_slot-requires-clause-spelled c =
    let mind = c.args.mind.now in
    let slot = c.cleared-slot.result in
    let is = c.cleared-slot.ensures ∙ ap cleared (c.slot-old.ensures [] 0) in
    subst (λ (p : Parts). (c.args.i < slot_count (label_at p.region c.args.at).kind) × SlotFits (label_at p.region c.args.at).kind c.args.i slot) (sym (c.end_waits.ensures [] 0).rest)
    (c.requires.slots, cleared_spelled (parts mind [] 0) mind.first mind.count c.args.at c.args.i slot mind.placed mind.holding c.requires.pinned c.requires.slots is)

pub change_slot-requires-clause-used : goal.change_slot-requires-clause-used
change_slot-requires-clause-used c = λ a k w is. absurd ((c.end_waits.ensures [] 0).ends.over a k is w)

pub change_slot-requires-clause-leads : goal.change_slot-requires-clause-leads
change_slot-requires-clause-leads c = λ b to. absurd (cleared_nowhere c.slot-old.result b (ap target (sym c.cleared-slot.ensures) ∙ to))

pub change_slot-requires-clause-ends : goal.change_slot-requires-clause-ends
change_slot-requires-clause-ends c = ends_one ((memory (parts c.end_waits.new.self [] 0) c.args.at).slot c.args.i) c.cleared-slot.result

pub change_slot-requires-clause-room : goal.change_slot-requires-clause-room
change_slot-requires-clause-room c =
    let r = c.requires.room in
    let e = ap (λ (p : Parts). p.room) (c.end_waits.ensures [] 0).rest in
    omega (arith, r, e)

pub returns : goal.returns
returns c = λ disk faults.
    record {
      between = parts c.end_waits.new.self disk faults;
      ended = c.end_waits.ensures disk faults;
      slotted = subst (λ (s : Slot). Slotted c.args.at c.args.i 1 s (parts c.end_waits.new.self disk faults) (parts c.change_slot.new.self disk faults)) (c.cleared-slot.ensures ∙ ap cleared (c.slot-old.ensures disk faults)) (c.change_slot.ensures disk faults);
    }

pub change_slot-requires-clause-settled : goal.change_slot-requires-clause-settled
change_slot-requires-clause-settled c = subst (λ (p : Parts). Clears p.clears c.args.at c.args.i → ⊥) (sym (c.end_waits.ensures [] 0).rest) c.requires.settled
