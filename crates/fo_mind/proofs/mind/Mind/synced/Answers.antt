use Rattle.std.proofs.Common.{refl}
use Rattle.fo_mind.proofs.Landing.{owing_synced, placed_synced, roomy_synced}
use Rattle.fo_mind.proofs.Turning.{turning_synced}
use Rattle.fo_mind.proofs.mind.Mind.synced.Goals as goal

pub invariant_of-self-clause-placed : goal.invariant_of-self-clause-placed
invariant_of-self-clause-placed c = placed_synced c.synced.ensures c.args.self.now.placed

pub invariant_of-self-clause-owing : goal.invariant_of-self-clause-owing
invariant_of-self-clause-owing c = owing_synced c.synced.ensures c.args.self.now.owing

pub invariant_of-self-clause-roomy : goal.invariant_of-self-clause-roomy
invariant_of-self-clause-roomy c = roomy_synced c.synced.ensures c.args.self.now.roomy

pub invariant_of-self-clause-turning : goal.invariant_of-self-clause-turning
invariant_of-self-clause-turning c = turning_synced c.synced.ensures c.args.self.now.turning

pub returns : goal.returns
returns c = λ disk faults. record { turns = c.synced.ensures; rest = refl }
