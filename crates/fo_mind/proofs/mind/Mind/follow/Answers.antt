use Rattle.std.proofs.Common.{◌≡◌, ◌+◌, ◌-◌, length, sym, ap, List, count_by, subst, true, arith}
use Rattle.fo_image.specs.declared.types.Pointer.{Pointer}
use Rattle.fo_facts.specs.Counts.{is_made}
use Rattle.fo_facts.specs.Known.{fact_at}
use Rattle.fo_rooms.specs.of_linking.Joined.{JoinsBelow}
use Rattle.fo_rooms.specs.of_takeout.declared.pair.Pair.{Pair}
use Rattle.fo_mind.specs.MindParts.{parts}
use Rattle.fo_mind.specs.Parts.{memory}
use Rattle.fo_mind.specs.Sound.{Making}
use Rattle.fo_mind.proofs.Joining.{held_good, held_taken, making_joins, no_pairs, owing_joins, placed_joins, ready, roomy_joins, shows_memory, turning_joins}
use Rattle.fo_mind.proofs.Standing.{root_joins, standing_joins}
use Rattle.fo_mind.proofs.mind.Mind.follow.Goals as goal

pub link_put-requires-clause-good : goal.link_put-requires-clause-good
link_put-requires-clause-good c = let self = c.args.self.now in held_good self.placed self.holding

pub link_put-requires-clause-ready : goal.link_put-requires-clause-ready
link_put-requires-clause-ready c = let self = c.args.self.now in ready self.placed self.roomy self.making

pub budget-most-requires-clause-fewer : goal.budget-most-requires-clause-fewer
budget-most-requires-clause-fewer c =
    let m = c.link_put.ensures.joins.made in
    let a = c.made-before.ensures.is in
    let b = c.made-after.ensures.is in
    omega (arith, m, a, b)

pub budget-most-requires-clause-room : goal.budget-most-requires-clause-room
budget-most-requires-clause-room c =
    let m = c.requires.making.left in
    let a = c.made-before.ensures.is in
    let b = c.made-after.ensures.is in
    let r = c.requires.room in
    let q = c.room.ensures in
    omega (arith, m, a, b, r, q)

pub take_put-requires-clause-good : goal.take_put-requires-clause-good
take_put-requires-clause-good c = let self = c.args.self.now in held_taken self.placed self.holding

pub take_put-requires-clause-over : goal.take_put-requires-clause-over
take_put-requires-clause-over c = no_pairs c.args.self.now.walk.pairs c.args.self.now.rests

pub take_put-requires-clause-some : goal.take_put-requires-clause-some
take_put-requires-clause-some c =
    let e = c.requires.ends in
    let b = c.budget-most.ensures in
    omega (arith, e, b)

pub take_put-requires-clause-room : goal.take_put-requires-clause-room
take_put-requires-clause-room c =
    let m = c.requires.making.left in
    let a = c.made-before.ensures.is in
    let b = c.made-after.ensures.is in
    let r = c.requires.room in
    let e = c.budget-most.ensures in
    omega (arith, m, a, b, r, e)

pub invariant_of-self-clause-placed : goal.invariant_of-self-clause-placed
invariant_of-self-clause-placed c = placed_joins c.link_put.ensures.joins c.args.self.now.placed

pub invariant_of-self-clause-owing : goal.invariant_of-self-clause-owing
invariant_of-self-clause-owing c = owing_joins c.link_put.ensures.joins c.args.self.now.making c.args.self.now.owing

pub invariant_of-self-clause-roomy : goal.invariant_of-self-clause-roomy
invariant_of-self-clause-roomy c = roomy_joins c.link_put.ensures.joins (omega arith) c.args.self.now.roomy

pub invariant_of-self-clause-making : goal.invariant_of-self-clause-making
invariant_of-self-clause-making c =
    let self = c.args.self.now in
    let a = c.made-before.ensures.is in
    let b = c.made-after.ensures.is in
    let e = c.budget-most.ensures in
    let r = c.requires.room in
    let pushed = c.take_put.ensures.pushed in
    let is : c.budget-most.result ≡ c.args.paid + c.args.kept + (count_by is_made self.facts - count_by is_made c.link_put.new.facts) = omega (arith, a, b, e) in
    subst (λ k. Making c.link_put.new.facts self.spare (self.room - c.args.paid + length self.clears.items) k c.take_put.new.queue.room) (sym c.link_put.ensures.same)
    (making_joins c.link_put.ensures.joins (c.args.paid + c.args.kept) (omega (arith, r)) is pushed.1 pushed.2 c.requires.making)

pub invariant_of-self-clause-turning : goal.invariant_of-self-clause-turning
invariant_of-self-clause-turning c = let self = c.args.self.now in turning_joins c.link_put.ensures.joins self.placed.begins self.holding self.turning

pub invariant_of-self-clause-rests : goal.invariant_of-self-clause-rests
invariant_of-self-clause-rests c = ap (λ (ps : List Pair). length ps) c.take_put.ensures.over

pub returns : goal.returns
returns c = λ disk faults.
    let self = c.args.self.now in
    let p = record (parts self disk faults) { room = self.room + c.args.kept } in
    let a = c.made-before.ensures.is in
    let b = c.made-after.ensures.is in
    let e = c.budget-most.ensures in
    let r = c.requires.room in
    record {
      joins = c.link_put.ensures.joins;
      linked = subst (λ (to : Pointer). (fact_at self.facts c.args.put.now.at).linked ≡ true → JoinsBelow self.buffers self.labels to self.facts c.link_put.new.facts self.order c.link_put.new.order) c.target-to.ensures c.link_put.ensures.linked;
      stays = c.link_put.ensures.stays;
      budget = c.budget-most.result;
      budget_is = omega (arith, a, b, e);
      takes = c.take_put.ensures.takes (memory p) (shows_memory p self.first self.count self.placed self.holding);
      room = omega (arith, r);
      rest = ap (λ k. record p { turns = c.link_put.new.order; facts = c.link_put.new.facts; room = self.room - c.args.paid; removals = c.take_put.new.queue.removals; walk = c.take_put.new.walk; links = k }) c.link_put.ensures.same;
    }

pub invariant_of-self-clause-root_in : goal.invariant_of-self-clause-root_in
invariant_of-self-clause-root_in c = root_joins c.link_put.ensures.joins c.args.self.now.root_in

pub invariant_of-self-clause-standing : goal.invariant_of-self-clause-standing
invariant_of-self-clause-standing c = standing_joins c.link_put.ensures.joins c.args.self.now.standing
