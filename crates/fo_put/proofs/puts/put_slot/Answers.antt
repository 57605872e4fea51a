use Rattle.std.proofs.Common.{◌≡◌, ◌≤◌, [], sym, ap, subst, ◌∙◌}
use Rattle.fo_crash.specs.declared.slot.Slot.{Slot}
use Rattle.fo_crash.specs.Images.{target}
use Rattle.fo_mind.specs.of_ports.Blocks.{cost, ends}
use Rattle.fo_mind.specs.MindParts.{parts}
use Rattle.fo_mind.specs.Laws.{held_pinned}
use Rattle.fo_put.proofs.Linking.{links_below}
use Rattle.fo_put.proofs.Placing.{slot_seen}
use Rattle.fo_put.proofs.Using.{data_is, used_same}
use Rattle.fo_put.proofs.puts.put_slot.Goals as goal

pub change_slot-requires-clause-used : goal.change_slot-requires-clause-used
change_slot-requires-clause-used c =
    let mind = c.args.mind.now in
    used_same (parts mind [] 0) mind.first mind.count c.args.at c.args.i c.args.slot mind.placed mind.holding mind.waiting c.requires.pinned c.requires.same_use

pub change_slot-requires-clause-leads : goal.change_slot-requires-clause-leads
change_slot-requires-clause-leads c = λ b to. let l = c.requires.leads b to in (data_is (parts c.args.mind.now [] 0) c.args.mind.now.placed l.0, l.1)

pub change_slot-requires-clause-ends : goal.change_slot-requires-clause-ends
change_slot-requires-clause-ends c = subst (λ (s : Slot). ends (target s) (target c.args.slot) ≤ c.cost-price.result) (c.slot-old.ensures [] 0) c.cost-price.ensures.ends

pub change_slot-requires-clause-room : goal.change_slot-requires-clause-room
change_slot-requires-clause-room c =
    let price : c.cost-price.result ≡ cost c.slot-old.result c.args.slot = c.cost-price.ensures.is in
    subst (λ n. n ≤ c.args.mind.now.room) (sym (price ∙ ap (λ (s : Slot). cost s c.args.slot) (c.slot-old.ensures [] 0))) c.requires.room

pub returns-clause-now : goal.returns-clause-now
returns-clause-now c = λ disk faults.
    let mind = c.args.mind.now in
    (slot_seen {p = parts mind disk faults} {s = parts c.change_slot.new.self disk faults} mind.placed mind.holding c.requires.pinned (λ b to. (c.requires.leads b to).1) c.cost-price.ensures.is (c.slot-old.ensures disk faults) (c.change_slot.ensures disk faults)).seen.now

pub returns-clause-frame : goal.returns-clause-frame
returns-clause-frame c = λ disk faults.
    let mind = c.args.mind.now in
    (slot_seen {p = parts mind disk faults} {s = parts c.change_slot.new.self disk faults} mind.placed mind.holding c.requires.pinned (λ b to. (c.requires.leads b to).1) c.cost-price.ensures.is (c.slot-old.ensures disk faults) (c.change_slot.ensures disk faults)).seen.frame

pub returns-clause-hangs : goal.returns-clause-hangs
returns-clause-hangs c = λ disk faults.
    let mind = c.args.mind.now in
    (slot_seen {p = parts mind disk faults} {s = parts c.change_slot.new.self disk faults} mind.placed mind.holding c.requires.pinned (λ b to. (c.requires.leads b to).1) c.cost-price.ensures.is (c.slot-old.ensures disk faults) (c.change_slot.ensures disk faults)).seen.hangs

pub returns-clause-order : goal.returns-clause-order
returns-clause-order c = λ disk faults.
    let mind = c.args.mind.now in
    (slot_seen {p = parts mind disk faults} {s = parts c.change_slot.new.self disk faults} mind.placed mind.holding c.requires.pinned (λ b to. (c.requires.leads b to).1) c.cost-price.ensures.is (c.slot-old.ensures disk faults) (c.change_slot.ensures disk faults)).seen.order

pub returns-clause-no_wait : goal.returns-clause-no_wait
returns-clause-no_wait c = λ disk faults.
    let mind = c.args.mind.now in
    (slot_seen {p = parts mind disk faults} {s = parts c.change_slot.new.self disk faults} mind.placed mind.holding c.requires.pinned (λ b to. (c.requires.leads b to).1) c.cost-price.ensures.is (c.slot-old.ensures disk faults) (c.change_slot.ensures disk faults)).seen.no_wait

pub returns-clause-queues : goal.returns-clause-queues
returns-clause-queues c = λ disk faults.
    let mind = c.args.mind.now in
    (slot_seen {p = parts mind disk faults} {s = parts c.change_slot.new.self disk faults} mind.placed mind.holding c.requires.pinned (λ b to. (c.requires.leads b to).1) c.cost-price.ensures.is (c.slot-old.ensures disk faults) (c.change_slot.ensures disk faults)).seen.queues

pub returns-clause-removals : goal.returns-clause-removals
returns-clause-removals c = λ disk faults.
    let mind = c.args.mind.now in
    (slot_seen {p = parts mind disk faults} {s = parts c.change_slot.new.self disk faults} mind.placed mind.holding c.requires.pinned (λ b to. (c.requires.leads b to).1) c.cost-price.ensures.is (c.slot-old.ensures disk faults) (c.change_slot.ensures disk faults)).seen.removes

pub returns-clause-keeps : goal.returns-clause-keeps
returns-clause-keeps c = λ disk faults.
    let mind = c.args.mind.now in
    (slot_seen {p = parts mind disk faults} {s = parts c.change_slot.new.self disk faults} mind.placed mind.holding c.requires.pinned (λ b to. (c.requires.leads b to).1) c.cost-price.ensures.is (c.slot-old.ensures disk faults) (c.change_slot.ensures disk faults)).seen.keeps

pub returns-clause-slotted : goal.returns-clause-slotted
returns-clause-slotted c = λ disk faults.
    let mind = c.args.mind.now in
    (slot_seen {p = parts mind disk faults} {s = parts c.change_slot.new.self disk faults} mind.placed mind.holding c.requires.pinned (λ b to. (c.requires.leads b to).1) c.cost-price.ensures.is (c.slot-old.ensures disk faults) (c.change_slot.ensures disk faults)).slotted

pub returns-clause-links : goal.returns-clause-links
returns-clause-links c = λ disk faults tree b through newborn.
    let mind = c.args.mind.now in
    let p = parts mind disk faults in
    links_below p (parts c.change_slot.new.self disk faults) mind.first mind.count c.args.at c.args.i c.cost-price.result c.args.slot mind.placed mind.holding mind.standing (held_pinned mind.buffers c.args.at c.requires.pinned) (c.change_slot.ensures disk faults) tree b through newborn
