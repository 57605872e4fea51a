use Rattle.std.proofs.Common.{◌≡◌, inl, inr, ℕ, [], List, Some, None, length, sym, ap, ◌∙◌, subst, arith}
use Rattle.fo_mind.specs.of_waits.declared.listed.Clearing.{Clearing}
use Rattle.fo_mind.specs.of_waits.Listed.{Clears}
use Rattle.fo_mind.specs.Laws.{held_pinned}
use Rattle.fo_mind.specs.MindParts.{parts}
use Rattle.fo_mind.specs.Parts.{Parts, memory}
use Rattle.fo_put.proofs.Removing.{delay_result, ends_cleared, remove_result}
use Rattle.fo_put.proofs.removes.remove_slot.Goals as goal

some_none : {A : Type 0} {x : ℕ} → Some x ≡ None → A
some_none e = absurd (cc)

pub returns-in-None-clause-now : goal.returns-in-None-clause-now
returns-in-None-clause-now c = λ disk faults.
    let mind = c.args.mind.now in
    let r = (remove_result {p = parts mind disk faults} {s = parts c.clear_slot.new.mind disk faults} mind.placed mind.holding mind.waiting (held_pinned mind.buffers c.args.at c.requires.pinned) (c.clear_slot.ensures disk faults)) in
    inl (r.now, λ h. c.requires.settled (subst (λ (cs : List Clearing). Clears cs c.args.at c.args.i) r.clears h))

pub returns-in-None-clause-frame : goal.returns-in-None-clause-frame
returns-in-None-clause-frame c = λ disk faults.
    let mind = c.args.mind.now in
    (remove_result {p = parts mind disk faults} {s = parts c.clear_slot.new.mind disk faults} mind.placed mind.holding mind.waiting (held_pinned mind.buffers c.args.at c.requires.pinned) (c.clear_slot.ensures disk faults)).frame

pub returns-in-None-clause-hangs : goal.returns-in-None-clause-hangs
returns-in-None-clause-hangs c = λ disk faults.
    let mind = c.args.mind.now in
    (remove_result {p = parts mind disk faults} {s = parts c.clear_slot.new.mind disk faults} mind.placed mind.holding mind.waiting (held_pinned mind.buffers c.args.at c.requires.pinned) (c.clear_slot.ensures disk faults)).hangs

pub returns-in-None-clause-no_wait : goal.returns-in-None-clause-no_wait
returns-in-None-clause-no_wait c = λ disk faults.
    let mind = c.args.mind.now in
    (remove_result {p = parts mind disk faults} {s = parts c.clear_slot.new.mind disk faults} mind.placed mind.holding mind.waiting (held_pinned mind.buffers c.args.at c.requires.pinned) (c.clear_slot.ensures disk faults)).no_wait

pub returns-in-None-clause-removals : goal.returns-in-None-clause-removals
returns-in-None-clause-removals c = λ disk faults.
    let mind = c.args.mind.now in
    (remove_result {p = parts mind disk faults} {s = parts c.clear_slot.new.mind disk faults} mind.placed mind.holding mind.waiting (held_pinned mind.buffers c.args.at c.requires.pinned) (c.clear_slot.ensures disk faults)).removes

pub returns-in-None-clause-keeps : goal.returns-in-None-clause-keeps
returns-in-None-clause-keeps c = λ disk faults.
    let mind = c.args.mind.now in
    (remove_result {p = parts mind disk faults} {s = parts c.clear_slot.new.mind disk faults} mind.placed mind.holding mind.waiting (held_pinned mind.buffers c.args.at c.requires.pinned) (c.clear_slot.ensures disk faults)).keeps

pub returns-in-None-clause-queues : goal.returns-in-None-clause-queues
returns-in-None-clause-queues c = λ disk faults.
    let mind = c.args.mind.now in
    let r = (remove_result {p = parts mind disk faults} {s = parts c.clear_slot.new.mind disk faults} mind.placed mind.holding mind.waiting (held_pinned mind.buffers c.args.at c.requires.pinned) (c.clear_slot.ensures disk faults)) in
    (r.queues.more, λ b to. inr (inl (r.queues.some (ends_cleared ((memory (parts mind disk faults) c.args.at).slot c.args.i) b to))))

pub returns-in-None-clause-is : goal.returns-in-None-clause-is
returns-in-None-clause-is c = λ disk faults. inl (c.clear_slot.ensures disk faults, c.in-None.ensures)

pub returns-in-None-clause-order : goal.returns-in-None-clause-order
returns-in-None-clause-order c = λ b j.
    let mind = c.args.mind.now in
    let r = (remove_result {p = parts mind [] 0} {s = parts c.clear_slot.new.mind [] 0} mind.placed mind.holding mind.waiting (held_pinned mind.buffers c.args.at c.requires.pinned) (c.clear_slot.ensures [] 0)) in
    (λ h. inl (subst (λ (cs : List Clearing). Clears cs b j) r.clears h), λ h. subst (λ (cs : List Clearing). Clears cs b j) (sym r.clears) h)

pub returns-in-Some-clause-now : goal.returns-in-Some-clause-now
returns-in-Some-clause-now c = λ disk faults.
    let mind = c.args.mind.now in
    let d = (delay_result {p = parts mind disk faults} {s = parts c.clear_later.new.self disk faults} (c.clear_later.ensures disk faults)) in
    inr (d.now, d.clearing, λ e. some_none (sym c.in-Some.ensures.0 ∙ e))

pub returns-in-Some-clause-frame : goal.returns-in-Some-clause-frame
returns-in-Some-clause-frame c = λ disk faults.
    let mind = c.args.mind.now in
    (delay_result {p = parts mind disk faults} {s = parts c.clear_later.new.self disk faults} (c.clear_later.ensures disk faults)).frame

pub returns-in-Some-clause-hangs : goal.returns-in-Some-clause-hangs
returns-in-Some-clause-hangs c = λ disk faults.
    let mind = c.args.mind.now in
    (delay_result {p = parts mind disk faults} {s = parts c.clear_later.new.self disk faults} (c.clear_later.ensures disk faults)).hangs

pub returns-in-Some-clause-no_wait : goal.returns-in-Some-clause-no_wait
returns-in-Some-clause-no_wait c = λ disk faults.
    let mind = c.args.mind.now in
    (delay_result {p = parts mind disk faults} {s = parts c.clear_later.new.self disk faults} (c.clear_later.ensures disk faults)).no_wait

pub returns-in-Some-clause-removals : goal.returns-in-Some-clause-removals
returns-in-Some-clause-removals c = λ disk faults.
    let mind = c.args.mind.now in
    (delay_result {p = parts mind disk faults} {s = parts c.clear_later.new.self disk faults} (c.clear_later.ensures disk faults)).removes

pub returns-in-Some-clause-keeps : goal.returns-in-Some-clause-keeps
returns-in-Some-clause-keeps c = λ disk faults.
    let mind = c.args.mind.now in
    (delay_result {p = parts mind disk faults} {s = parts c.clear_later.new.self disk faults} (c.clear_later.ensures disk faults)).keeps

pub returns-in-Some-clause-order : goal.returns-in-Some-clause-order
returns-in-Some-clause-order c = λ b j.
    let mind = c.args.mind.now in
    (delay_result {p = parts mind [] 0} {s = parts c.clear_later.new.self [] 0} (c.clear_later.ensures [] 0)).order b j

pub returns-in-Some-clause-queues : goal.returns-in-Some-clause-queues
returns-in-Some-clause-queues c = λ disk faults.
    let mind = c.args.mind.now in
    let d = (delay_result {p = parts mind disk faults} {s = parts c.clear_later.new.self disk faults} (c.clear_later.ensures disk faults)) in
    let k = ap (λ (z : Parts). length z.removals) (c.clear_later.ensures disk faults).rest in
    (omega (arith, k), λ b to. inl d.clearing)

pub returns-in-Some-clause-is : goal.returns-in-Some-clause-is
returns-in-Some-clause-is c = λ disk faults. inr (c.in-Some.leaf, c.clear_later.ensures disk faults, c.in-Some.ensures.0, c.in-Some.ensures.1)
