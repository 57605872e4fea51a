use Rattle.std.proofs.Common.{◌≡◌, ◌<◌, ◌+◌, [], refl, sym, ap, ◌∙◌, subst}
use Rattle.fo_image.specs.declared.types.Kind.{Kind}
use Rattle.fo_crash.specs.declared.slot.Slot.{Slot}
use Rattle.fo_crash.specs.Images.{target}
use Rattle.fo_crash.specs.Steps.{cleared}
use Rattle.fo_ports.specs.Blocks.{SlotFits, slot_count}
use Rattle.fo_waits.specs.Listed.{Clears, Listed}
use Rattle.fo_mind.specs.MindParts.{parts}
use Rattle.fo_mind.specs.Parts.{IsHeld, Parts, label_at, memory}
use Rattle.fo_mind.specs.Slotted.{Slotted}
use Rattle.fo_mind.proofs.Cleared.{cleared_fits, cleared_nowhere, ends_one}
use Rattle.fo_mind.proofs.Slotting.{fits_old}
use Rattle.fo_mind.proofs.mind.Mind.clear_due.Goals as goal

pub slot_held-requires-clause-held : goal.slot_held-requires-clause-held
slot_held-requires-clause-held c = c.args.self.now.standing.still c.args.at c.args.i c.requires.waits

pub slot_held-requires-clause-slots : goal.slot_held-requires-clause-slots
slot_held-requires-clause-slots c =
    let self = c.args.self.now in
    subst (λ (k : Kind). c.args.i < slot_count k) (sym (self.clearable.each c.args.at c.args.i c.requires.waits).0) (self.clearable.within c.args.at c.args.i c.requires.waits)

pub recall-requires : goal.recall-requires
recall-requires c = record { waits = subst (λ (p : Parts). Clears p.clears c.args.at c.args.i) (sym (c.end_waits.ensures [] 0).rest) c.requires.waits }

pub change_held-requires-clause-held : goal.change_held-requires-clause-held
change_held-requires-clause-held c =
    let some = c.args.self.now.standing.still c.args.at c.args.i c.requires.waits in
    subst (λ (p : Parts). IsHeld p.held c.args.at) (sym (c.recall.ensures.recalled [] 0).rest) (subst (λ (p : Parts). IsHeld p.held c.args.at) (sym (c.end_waits.ensures [] 0).rest) some)

pub change_held-requires-clause-owed : goal.change_held-requires-clause-owed
change_held-requires-clause-owed c = c.recall.ensures.owed

pub change_held-requires-clause-spelled : goal.change_held-requires-clause-spelled
change_held-requires-clause-spelled c =
    let self = c.args.self.now in
    let some = self.standing.still c.args.at c.args.i c.requires.waits in
    let kind = (label_at self.labels c.args.at).kind in
    let lt = subst (λ (k : Kind). c.args.i < slot_count k) (sym (self.clearable.each c.args.at c.args.i c.requires.waits).0) (self.clearable.within c.args.at c.args.i c.requires.waits) in
    let p = parts self [] 0 in
    let fits = cleared_fits kind c.args.i c.slot_held.result (fits_old p self.first self.count c.args.at c.args.i kind c.slot_held.result self.placed self.holding some refl (c.slot_held.ensures [] 0) lt) in
    let here = subst (λ (s : Slot). SlotFits kind c.args.i s) (sym c.cleared-slot.ensures) fits in
    subst (λ (q : Parts). (c.args.i < slot_count (label_at q.region c.args.at).kind) × SlotFits (label_at q.region c.args.at).kind c.args.i c.cleared-slot.result) (sym (c.recall.ensures.recalled [] 0).rest)
    (subst (λ (q : Parts). (c.args.i < slot_count (label_at q.region c.args.at).kind) × SlotFits (label_at q.region c.args.at).kind c.args.i c.cleared-slot.result) (sym (c.end_waits.ensures [] 0).rest) (lt, here))

pub change_held-requires-clause-used : goal.change_held-requires-clause-used
change_held-requires-clause-used c = λ a k w is. absurd ((c.end_waits.ensures [] 0).ends.over a k is (subst (λ (p : Parts). Listed p.waits a c.args.at k) (c.recall.ensures.recalled [] 0).rest w))

pub change_held-requires-clause-leads : goal.change_held-requires-clause-leads
change_held-requires-clause-leads c = λ b to. absurd (cleared_nowhere c.slot_held.result b (ap target (sym c.cleared-slot.ensures) ∙ to))

pub change_held-requires-clause-ends : goal.change_held-requires-clause-ends
change_held-requires-clause-ends c = ends_one ((memory (parts c.recall.new.self [] 0) c.args.at).slot c.args.i) c.cleared-slot.result

pub change_held-requires-clause-making : goal.change_held-requires-clause-making
change_held-requires-clause-making c = c.recall.ensures.making

pub returns : goal.returns
returns c = λ disk faults.
    record {
      unwaited = parts c.end_waits.new.self disk faults;
      recalled = record (parts c.recall.new.self disk faults) { room = c.recall.new.self.room + 1 };
      ended = c.end_waits.ensures disk faults;
      recalls = c.recall.ensures.recalled disk faults;
      slotted = subst (λ (s : Slot). Slotted c.args.at c.args.i 1 s (record (parts c.recall.new.self disk faults) { room = c.recall.new.self.room + 1 }) (parts c.change_held.new.self disk faults)) (c.cleared-slot.ensures ∙ ap cleared (c.slot_held.ensures disk faults)) (c.change_held.ensures disk faults);
    }

pub change_held-requires-clause-current : goal.change_held-requires-clause-current
change_held-requires-clause-current c =
    let current = (c.args.self.now.clearable.each c.args.at c.args.i c.requires.waits).1 in
    subst (λ (q : Parts). (label_at q.region c.args.at).epoch ≡ q.one.high) (sym (c.recall.ensures.recalled [] 0).rest)
    (subst (λ (q : Parts). (label_at q.region c.args.at).epoch ≡ q.one.high) (sym (c.end_waits.ensures [] 0).rest) current)
