use Rattle.std.proofs.Common.{refl}
use Rattle.fo_mind.proofs.Changing.{changing_same}
use Rattle.fo_mind.proofs.Keeping.{holding_same, owing_same, roomy_same, waiting_same}
use Rattle.fo_mind.proofs.Standing.{standing_same}
use Rattle.fo_mind.proofs.Turning.{same_held}
use Rattle.fo_turning.proofs.close.forget_clean.Goals as goal

pub invariant_of-mind-clause-holding : goal.invariant_of-mind-clause-holding
invariant_of-mind-clause-holding c = holding_same c.forget_all.ensures.held c.args.mind.now.holding

pub invariant_of-mind-clause-waiting : goal.invariant_of-mind-clause-waiting
invariant_of-mind-clause-waiting c = waiting_same c.forget_all.ensures.held c.args.mind.now.waiting

pub invariant_of-mind-clause-owing : goal.invariant_of-mind-clause-owing
invariant_of-mind-clause-owing c = owing_same c.forget_all.ensures.held c.args.mind.now.owing

pub invariant_of-mind-clause-roomy : goal.invariant_of-mind-clause-roomy
invariant_of-mind-clause-roomy c = roomy_same c.forget_all.ensures.room c.args.mind.now.roomy

pub invariant_of-mind-clause-turning : goal.invariant_of-mind-clause-turning
invariant_of-mind-clause-turning c = same_held c.forget_all.ensures.held c.args.mind.now.turning

pub invariant_of-mind-clause-standing : goal.invariant_of-mind-clause-standing
invariant_of-mind-clause-standing c = standing_same c.forget_all.ensures.held c.args.mind.now.standing

pub returns-clause-forgets : goal.returns-clause-forgets
returns-clause-forgets c = record { held = c.forget_all.ensures.held; clean = c.forget_all.ensures.clean; gone = c.forget_all.ensures.gone; room = c.forget_all.ensures.room; rest = refl }

pub invariant_of-mind-clause-changing : goal.invariant_of-mind-clause-changing
invariant_of-mind-clause-changing c = changing_same c.forget_all.ensures.held c.args.mind.now.changing
