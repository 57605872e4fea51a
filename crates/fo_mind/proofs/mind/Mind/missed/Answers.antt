use Rattle.std.proofs.Common.{false, List, refl, ◌+◌, length}
use Rattle.fo_order.specs.Keeps.{Turns}
use Rattle.fo_facts.specs.declared.fact.Fact.{Fact}
use Rattle.fo_facts.specs.Known.{fact_at, written_as}
use Rattle.fo_mind.specs.Sound.{Placed, Owing, Roomy}
use Rattle.fo_mind.specs.Turning.{Turning}
use Rattle.fo_mind.proofs.Landing.{owing_missed, placed_wrote, roomy_missed, within_count}
use Rattle.fo_mind.proofs.Results.{both}
use Rattle.fo_mind.proofs.Turning.{turning_missed}
use Rattle.fo_mind.proofs.Making.{making_noted, or_left}
use Rattle.fo_mind.proofs.Standing.{links_set, root_set, standing_like}
use Rattle.fo_mind.proofs.mind.Mind.missed.Goals as goal

pub write-requires : goal.write-requires
write-requires c = (within_count c.args.at c.args.self.now.placed c.requires.turn).0

pub invariant_of-self-clause-placed : goal.invariant_of-self-clause-placed
invariant_of-self-clause-placed c =
    let self = c.args.self.now in
    both (λ (t : Turns) (fs : List Fact). Placed self.labels t fs self.first self.count) c.wrote.ensures.is c.write.ensures
    (placed_wrote self.facts c.args.at (written_as false (fact_at self.facts c.args.at)) false self.placed)

pub invariant_of-self-clause-owing : goal.invariant_of-self-clause-owing
invariant_of-self-clause-owing c =
    let self = c.args.self.now in
    let w = within_count c.args.at self.placed c.requires.turn in
    both (λ (t : Turns) (fs : List Fact). Owing self.buffers t fs) c.wrote.ensures.is c.write.ensures (owing_missed self.facts w.0 w.1 self.owing)

pub invariant_of-self-clause-roomy : goal.invariant_of-self-clause-roomy
invariant_of-self-clause-roomy c =
    let self = c.args.self.now in
    let w = within_count c.args.at self.placed c.requires.turn in
    both (λ (t : Turns) (fs : List Fact). Roomy self.buffers t self.labels fs self.one.low self.spare self.pins (self.room + length self.clears.items)) c.wrote.ensures.is c.write.ensures (roomy_missed self.facts c.args.at w.0 self.roomy)

pub invariant_of-self-clause-turning : goal.invariant_of-self-clause-turning
invariant_of-self-clause-turning c =
    let self = c.args.self.now in
    let w = within_count c.args.at self.placed c.requires.turn in
    both (λ (t : Turns) (fs : List Fact). Turning self.first self.buffers t fs) c.wrote.ensures.is c.write.ensures (turning_missed self.facts self.order c.args.at w.0 w.1 c.requires.turn self.turning)

pub returns : goal.returns
returns c = λ disk faults. record { turns = c.wrote.ensures.is; facts = c.write.ensures; rest = refl }

pub invariant_of-self-clause-making : goal.invariant_of-self-clause-making
invariant_of-self-clause-making c =
    let self = c.args.self.now in
    let w = within_count c.args.at self.placed c.requires.turn in
    making_noted self.facts c.write.new.self c.args.at (written_as false (fact_at self.facts c.args.at)) w.0 c.write.ensures refl (λ _ owes. or_left (fact_at self.facts c.args.at).owes false owes) self.making

pub invariant_of-self-clause-root_in : goal.invariant_of-self-clause-root_in
invariant_of-self-clause-root_in c =
    let self = c.args.self.now in
    let w = within_count c.args.at self.placed c.requires.turn in
    root_set self.facts c.write.new.self c.args.at (written_as false (fact_at self.facts c.args.at)) w.0 c.write.ensures refl self.root_in

pub invariant_of-self-clause-standing : goal.invariant_of-self-clause-standing
invariant_of-self-clause-standing c =
    let self = c.args.self.now in
    let w = within_count c.args.at self.placed c.requires.turn in
    standing_like (λ b h. h) (links_set self.facts c.write.new.self c.args.at (written_as false (fact_at self.facts c.args.at)) w.0 c.write.ensures refl) self.standing
