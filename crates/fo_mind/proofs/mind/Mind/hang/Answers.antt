use Rattle.std.proofs.Common.{refl, arith}
use Rattle.fo_mind.proofs.Joining.{making_hung, owing_hung, placed_hung, roomy_hung, turning_hung}
use Rattle.fo_mind.proofs.Standing.{root_like, standing_like}
use Rattle.fo_mind.proofs.mind.Mind.hang.Goals as goal

pub note_put-requires-clause-at : goal.note_put-requires-clause-at
note_put-requires-clause-at c =
    let n = c.args.self.now.placed.fact_count in
    let b = c.requires.at.1 in
    omega (arith, b, n)

pub note_put-requires-clause-to : goal.note_put-requires-clause-to
note_put-requires-clause-to c = λ b e.
    let n = c.args.self.now.placed.fact_count in
    let k = (c.requires.to b e).0.1 in
    (omega (arith, k, n), (c.requires.to b e).1)

pub invariant_of-self-clause-placed : goal.invariant_of-self-clause-placed
invariant_of-self-clause-placed c = placed_hung c.note_put.ensures.counts c.args.self.now.placed

pub invariant_of-self-clause-owing : goal.invariant_of-self-clause-owing
invariant_of-self-clause-owing c = owing_hung c.note_put.ensures.counts c.args.self.now.owing

pub invariant_of-self-clause-roomy : goal.invariant_of-self-clause-roomy
invariant_of-self-clause-roomy c = roomy_hung c.note_put.ensures.counts c.args.self.now.roomy

pub invariant_of-self-clause-making : goal.invariant_of-self-clause-making
invariant_of-self-clause-making c = making_hung c.note_put.ensures.counts c.args.self.now.making

pub invariant_of-self-clause-turning : goal.invariant_of-self-clause-turning
invariant_of-self-clause-turning c = turning_hung c.note_put.ensures.counts c.args.self.now.turning

pub returns-clause-is : goal.returns-clause-is
returns-clause-is c = λ disk faults. record { marked = c.note_put.ensures.marked; counts = c.note_put.ensures.counts; rest = refl }

pub invariant_of-self-clause-root_in : goal.invariant_of-self-clause-root_in
invariant_of-self-clause-root_in c = root_like (λ b. (c.note_put.ensures.counts.each b).1) c.args.self.now.root_in

pub invariant_of-self-clause-standing : goal.invariant_of-self-clause-standing
invariant_of-self-clause-standing c = standing_like (λ b h. h) (λ b. (c.note_put.ensures.counts.each b).1) c.args.self.now.standing
