use Rattle.std.proofs.Common.{refl}
use Rattle.fo_mind.proofs.Joining.{making_hung, owing_hung, placed_hung, roomy_hung, turning_hung}
use Rattle.fo_mind.proofs.Standing.{root_like, standing_like}
use Rattle.fo_mind.proofs.mind.Mind.seal_pinned.Goals as goal

pub invariant_of-self-clause-placed : goal.invariant_of-self-clause-placed
invariant_of-self-clause-placed c = placed_hung c.seal_each.ensures.seals.counts c.args.self.now.placed

pub invariant_of-self-clause-owing : goal.invariant_of-self-clause-owing
invariant_of-self-clause-owing c = owing_hung c.seal_each.ensures.seals.counts c.args.self.now.owing

pub invariant_of-self-clause-roomy : goal.invariant_of-self-clause-roomy
invariant_of-self-clause-roomy c = roomy_hung c.seal_each.ensures.seals.counts c.args.self.now.roomy

pub invariant_of-self-clause-making : goal.invariant_of-self-clause-making
invariant_of-self-clause-making c = making_hung c.seal_each.ensures.seals.counts c.args.self.now.making

pub invariant_of-self-clause-turning : goal.invariant_of-self-clause-turning
invariant_of-self-clause-turning c = turning_hung c.seal_each.ensures.seals.counts c.args.self.now.turning

pub invariant_of-self-clause-standing : goal.invariant_of-self-clause-standing
invariant_of-self-clause-standing c = standing_like (λ b h. h) (λ b. (c.seal_each.ensures.seals.counts.each b).1) c.args.self.now.standing

pub invariant_of-self-clause-root_in : goal.invariant_of-self-clause-root_in
invariant_of-self-clause-root_in c = root_like (λ b. (c.seal_each.ensures.seals.counts.each b).1) c.args.self.now.root_in

pub returns : goal.returns
returns c = λ disk faults. record {
  seals = c.seal_each.ensures.seals;
  pinned = λ b is. c.seal_each.ensures.each b (c.pins.ensures b (record { is = is }));
  rest = refl;
}
