use Rattle.std.proofs.Common.{◌-◌, List, [], ◌∷◌, length, ap, ◌∙◌, arith}
use Rattle.std.proofs.lemmas.List.{length-append}
use Rattle.fo_waits.specs.declared.listed.Clearing.{Clearing}
use Rattle.fo_mind.specs.MindParts.{parts}
use Rattle.fo_mind.proofs.Ending.{clearable_more}
use Rattle.fo_mind.proofs.Keeping.{roomy_fewer}
use Rattle.fo_mind.proofs.Making.{making_fewer}
use Rattle.fo_mind.specs.Laws.{held_pinned}
use Rattle.fo_mind.proofs.Standing.{standing_more}
use Rattle.fo_mind.proofs.mind.Mind.clear_later.Goals as goal

pub invariant_of-self-clause-clearable : goal.invariant_of-self-clause-clearable
invariant_of-self-clause-clearable c =
    let self = c.args.self.now in
    clearable_more self.clears.items c.push_reserved.new.self.items c.args.at c.args.i c.args.after c.push_reserved.ensures.items self.holding c.requires.pinned c.requires.entries c.requires.current c.requires.slots self.clearable

pub invariant_of-self-clause-roomy : goal.invariant_of-self-clause-roomy
invariant_of-self-clause-roomy c =
    let self = c.args.self.now in
    let one : Clearing = record { at = c.args.at; slot = c.args.i; after = c.args.after } in
    let n = ap length c.push_reserved.ensures.items ∙ length-append self.clears.items (one ∷ []) in
    let r = c.requires.room in
    roomy_fewer (omega (arith, n, r)) self.roomy

pub invariant_of-self-clause-making : goal.invariant_of-self-clause-making
invariant_of-self-clause-making c =
    let self = c.args.self.now in
    let one : Clearing = record { at = c.args.at; slot = c.args.i; after = c.args.after } in
    let n = ap length c.push_reserved.ensures.items ∙ length-append self.clears.items (one ∷ []) in
    let r = c.requires.room in
    making_fewer (omega (arith, n, r)) self.making

pub returns : goal.returns
returns c = λ disk faults.
    let p = parts c.args.self.now disk faults in
    let r = c.requires.room in
    record {
      room = omega (arith, r);
      rest = ap (λ (cs : List Clearing). record p { room = p.room - 1; clears = cs }) c.push_reserved.ensures.items;
    }

pub invariant_of-self-clause-standing : goal.invariant_of-self-clause-standing
invariant_of-self-clause-standing c =
    let self = c.args.self.now in
    standing_more self.clears.items c.push_reserved.new.self.items c.args.at c.args.i c.args.after c.push_reserved.ensures.items (held_pinned self.buffers c.args.at c.requires.pinned) self.standing

pub invariant_of-self-clause-awaits : goal.invariant_of-self-clause-awaits
invariant_of-self-clause-awaits c =
    let self = c.args.self.now in
    let one : Clearing = record { at = c.args.at; slot = c.args.i; after = c.args.after } in
    let n = ap length c.push_reserved.ensures.items ∙ length-append self.clears.items (one ∷ []) in
    let r = c.requires.room in
    let a = self.awaits in
    omega (arith, a, n, r)
