use Rattle.std.proofs.Common.{length, ap, ◌∙◌}
use Rattle.fo_rooms.specs.of_takeout.Walking.{Walking}
use Rattle.fo_unlink.specs.Pending.{Pending}
use Rattle.fo_mind.specs.MindParts.{parts}
use Rattle.fo_mind.proofs.Growing.{holding_grown, making_grown, owing_grown, placed_grown, roomy_grown, standing_grown, turning_grown, waiting_grown}
use Rattle.fo_mind.proofs.Changing.{changing_grown}
use Rattle.fo_mind.proofs.mind.Mind.make_parts.Goals as goal

pub invariant_of-self-clause-placed : goal.invariant_of-self-clause-placed
invariant_of-self-clause-placed c = placed_grown c.grow.ensures.order c.args.self.now.placed

pub invariant_of-self-clause-holding : goal.invariant_of-self-clause-holding
invariant_of-self-clause-holding c = holding_grown c.grow.ensures.buffers c.args.self.now.holding

pub invariant_of-self-clause-waiting : goal.invariant_of-self-clause-waiting
invariant_of-self-clause-waiting c = waiting_grown c.grow.ensures.buffers c.args.self.now.waiting

pub invariant_of-self-clause-owing : goal.invariant_of-self-clause-owing
invariant_of-self-clause-owing c = owing_grown c.grow.ensures.buffers c.grow.ensures.order c.args.self.now.owing

pub invariant_of-self-clause-roomy : goal.invariant_of-self-clause-roomy
invariant_of-self-clause-roomy c = roomy_grown c.grow.ensures.buffers c.grow.ensures.order c.args.self.now.roomy

pub invariant_of-self-clause-making : goal.invariant_of-self-clause-making
invariant_of-self-clause-making c = making_grown c.grow.ensures.links c.grow.ensures.queue c.args.self.now.making

pub invariant_of-self-clause-turning : goal.invariant_of-self-clause-turning
invariant_of-self-clause-turning c = turning_grown c.grow.ensures.buffers c.grow.ensures.order c.args.self.now.turning

pub invariant_of-self-clause-rests : goal.invariant_of-self-clause-rests
invariant_of-self-clause-rests c = ap (λ (w : Walking). length w.pairs) c.grow.ensures.walk.same ∙ c.args.self.now.rests

pub returns-clause-grown : goal.returns-clause-grown
returns-clause-grown c = λ disk faults.
    let p = parts c.args.self.now disk faults in
    record {
      held = c.grow.ensures.buffers;
      turns = c.grow.ensures.order;
      walk = c.grow.ensures.walk;
      links = c.grow.ensures.links;
      rest = ap (λ rs. record p { held = c.grow.new.buffers; turns = c.grow.new.order; walk = c.grow.new.walk; links = c.grow.new.links; removals = rs }) (ap (λ (q : Pending). q.removals) c.grow.ensures.queue.same);
    }

pub invariant_of-self-clause-standing : goal.invariant_of-self-clause-standing
invariant_of-self-clause-standing c = standing_grown c.grow.ensures.buffers c.args.self.now.standing

pub invariant_of-self-clause-changing : goal.invariant_of-self-clause-changing
invariant_of-self-clause-changing c = changing_grown c.grow.ensures.buffers c.args.self.now.changing
