use Rattle.std.proofs.Common.{◌≡◌, ◌+◌, subst, arith}
use Rattle.fo_buffers.specs.Held.{held_at}
use Rattle.fo_mind.specs.MindParts.{parts}
use Rattle.fo_mind.specs.Slotted.{Slotted}
use Rattle.fo_mind.proofs.Making.{making_fewer}
use Rattle.fo_mind.proofs.Getting.{is_held}
use Rattle.fo_mind.proofs.Refilling.{owed_pinned}
use Rattle.fo_mind.proofs.mind.Mind.change_slot.Goals as goal

pub change_held-requires-clause-held : goal.change_held-requires-clause-held
change_held-requires-clause-held c = is_held (held_at c.args.self.now.buffers c.args.at) c.requires.pinned

pub change_held-requires-clause-owed : goal.change_held-requires-clause-owed
change_held-requires-clause-owed c = let self = c.args.self.now in owed_pinned self.facts c.args.at c.requires.pinned self.owing

pub change_held-requires-clause-making : goal.change_held-requires-clause-making
change_held-requires-clause-making c = let self = c.args.self.now in making_fewer (omega arith) self.making

pub returns : goal.returns
returns c = λ disk faults.
    let self = c.args.self.now in
    let p = parts self disk faults in
    let q = parts c.change_held.new.self disk faults in
    let price : c.args.price + 0 ≡ c.args.price = omega arith in
    let room : self.room + 0 ≡ self.room = omega arith in
    subst (λ n. Slotted c.args.at c.args.i n c.args.slot p q) price
    (subst (λ n. Slotted c.args.at c.args.i (c.args.price + 0) c.args.slot (record p { room = n }) q) room (c.change_held.ensures disk faults))

pub change_held-requires-clause-current : goal.change_held-requires-clause-current
change_held-requires-clause-current c = c.requires.current
