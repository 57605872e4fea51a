use Rattle.fo_taking.proofs.taking.step_pair.Goals as goal

pub returns-in-Apart : goal.returns-in-Apart
returns-in-Apart c = c.step_apart.ensures c.args.labels.now c.args.buffers.now
