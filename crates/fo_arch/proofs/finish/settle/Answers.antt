use Rattle.fo_arch.proofs.finish.settle.Goals as goal

pub returns-in-Ok-clause-keeps : goal.returns-in-Ok-clause-keeps
returns-in-Ok-clause-keeps g c stored synced k = c.in-Ok.ensures.keeps stored synced k
