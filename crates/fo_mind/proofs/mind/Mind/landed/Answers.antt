use Rattle.std.proofs.Common.{Bool, true, List, cond, refl, sym, ap, ◌∙◌, ◌+◌, length}
use Rattle.fo_buffers.specs.Held.{settled, updated}
use Rattle.fo_order.specs.Keeps.{Turns}
use Rattle.fo_facts.specs.declared.fact.Fact.{Fact}
use Rattle.fo_facts.specs.Known.{fact_at, written_as}
use Rattle.fo_mind.specs.Sound.{Placed, Owing, Roomy}
use Rattle.fo_mind.specs.Turning.{Turning}
use Rattle.fo_mind.proofs.Landing.{facts_landed, holding_settles, owing_landed, placed_wrote, roomy_landed, settles_landed, waiting_settles, within_count}
use Rattle.fo_mind.proofs.Results.{both}
use Rattle.fo_mind.proofs.Turning.{turning_landed}
use Rattle.fo_mind.proofs.Making.{making_noted, or_left}
use Rattle.fo_mind.proofs.Standing.{links_set, root_set, standing_settles}
use Rattle.fo_mind.proofs.Changing.{changing_settles}
use Rattle.fo_mind.proofs.mind.Mind.landed.Goals as goal

pub write-requires : goal.write-requires
write-requires c = (within_count c.args.at c.args.self.now.placed c.requires.turn).0

pub invariant_of-self-clause-placed : goal.invariant_of-self-clause-placed
invariant_of-self-clause-placed c =
    let self = c.args.self.now in
    both (λ (t : Turns) (fs : List Fact). Placed self.labels t fs self.first self.count) c.wrote.ensures.is c.write.ensures
    (placed_wrote self.facts c.args.at (written_as c.is_pinned-pinned.result (fact_at self.facts c.args.at)) true self.placed)

pub invariant_of-self-clause-holding : goal.invariant_of-self-clause-holding
invariant_of-self-clause-holding c =
    let self = c.args.self.now in
    holding_settles (settles_landed self.facts c.args.at self.buffers c.settle_linked.new.buffers (ap (λ (f : Fact). f.linked) c.get-fact.ensures) c.settle_linked.ensures) self.holding

pub invariant_of-self-clause-waiting : goal.invariant_of-self-clause-waiting
invariant_of-self-clause-waiting c =
    let self = c.args.self.now in
    waiting_settles (settles_landed self.facts c.args.at self.buffers c.settle_linked.new.buffers (ap (λ (f : Fact). f.linked) c.get-fact.ensures) c.settle_linked.ensures) self.waiting

pub invariant_of-self-clause-owing : goal.invariant_of-self-clause-owing
invariant_of-self-clause-owing c =
    let self = c.args.self.now in
    let w = within_count c.args.at self.placed c.requires.turn in
    let s = settles_landed self.facts c.args.at self.buffers c.settle_linked.new.buffers (ap (λ (f : Fact). f.linked) c.get-fact.ensures) c.settle_linked.ensures in
    both (λ (t : Turns) (fs : List Fact). Owing c.settle_linked.new.buffers t fs) c.wrote.ensures.is (facts_landed self.facts c.args.at self.buffers c.write.new.self c.is_pinned-pinned.ensures c.write.ensures)
    (owing_landed s self.facts w.0 w.1 self.owing)

pub invariant_of-self-clause-roomy : goal.invariant_of-self-clause-roomy
invariant_of-self-clause-roomy c =
    let self = c.args.self.now in
    let w = within_count c.args.at self.placed c.requires.turn in
    let s = settles_landed self.facts c.args.at self.buffers c.settle_linked.new.buffers (ap (λ (f : Fact). f.linked) c.get-fact.ensures) c.settle_linked.ensures in
    both (λ (t : Turns) (fs : List Fact). Roomy c.settle_linked.new.buffers t self.labels fs self.one.low self.spare self.pins (self.room + length self.clears.items)) c.wrote.ensures.is c.write.ensures
    (roomy_landed self.facts c.args.at c.is_pinned-pinned.result w.0 s.room (λ p. c.requires.room (sym c.is_pinned-pinned.ensures ∙ p)) self.roomy)

pub invariant_of-self-clause-turning : goal.invariant_of-self-clause-turning
invariant_of-self-clause-turning c =
    let self = c.args.self.now in
    let w = within_count c.args.at self.placed c.requires.turn in
    let s = settles_landed self.facts c.args.at self.buffers c.settle_linked.new.buffers (ap (λ (f : Fact). f.linked) c.get-fact.ensures) c.settle_linked.ensures in
    both (λ (t : Turns) (fs : List Fact). Turning self.first c.settle_linked.new.buffers t fs) c.wrote.ensures.is c.write.ensures
    (turning_landed self.facts self.order c.args.at c.is_pinned-pinned.result w.0 w.1 c.requires.turn s self.turning)

pub returns : goal.returns
returns c = λ disk faults.
    let self = c.args.self.now in
    record {
      turns = c.wrote.ensures.is;
      held = c.settle_linked.ensures ∙ ap (λ (b : Bool). cond b (updated self.buffers c.args.at settled) self.buffers) (ap (λ (f : Fact). f.linked) c.get-fact.ensures);
      facts = facts_landed self.facts c.args.at self.buffers c.write.new.self c.is_pinned-pinned.ensures c.write.ensures;
      rest = refl;
    }

pub invariant_of-self-clause-making : goal.invariant_of-self-clause-making
invariant_of-self-clause-making c =
    let self = c.args.self.now in
    let w = within_count c.args.at self.placed c.requires.turn in
    making_noted self.facts c.write.new.self c.args.at (written_as c.is_pinned-pinned.result (fact_at self.facts c.args.at)) w.0 c.write.ensures refl (λ _ owes. or_left (fact_at self.facts c.args.at).owes c.is_pinned-pinned.result owes) self.making

pub invariant_of-self-clause-standing : goal.invariant_of-self-clause-standing
invariant_of-self-clause-standing c =
    let self = c.args.self.now in
    let w = within_count c.args.at self.placed c.requires.turn in
    standing_settles (settles_landed self.facts c.args.at self.buffers c.settle_linked.new.buffers (ap (λ (f : Fact). f.linked) c.get-fact.ensures) c.settle_linked.ensures)
    (links_set self.facts c.write.new.self c.args.at (written_as c.is_pinned-pinned.result (fact_at self.facts c.args.at)) w.0 c.write.ensures refl) self.standing

pub invariant_of-self-clause-root_in : goal.invariant_of-self-clause-root_in
invariant_of-self-clause-root_in c =
    let self = c.args.self.now in
    let w = within_count c.args.at self.placed c.requires.turn in
    root_set self.facts c.write.new.self c.args.at (written_as c.is_pinned-pinned.result (fact_at self.facts c.args.at)) w.0 c.write.ensures refl self.root_in

pub invariant_of-self-clause-changing : goal.invariant_of-self-clause-changing
invariant_of-self-clause-changing c =
    let self = c.args.self.now in
    changing_settles (settles_landed self.facts c.args.at self.buffers c.settle_linked.new.buffers (ap (λ (f : Fact). f.linked) c.get-fact.ensures) c.settle_linked.ensures) self.changing
