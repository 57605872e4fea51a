use Rattle.std.proofs.Common.{refl}
use Rattle.fo_files.proofs.Quiet.{rests_quiet}
use Rattle.fo_files.proofs.files.FilesFileOps.sync.Goals as goal

pub returns-in-Ok-clause-keeps : goal.returns-in-Ok-clause-keeps
returns-in-Ok-clause-keeps g c =
    let e = c.settle.ensures in
    record { keeps = e.keeps; usable = e.rests.usable; settled = e.rests.settled; dirties = rests_quiet (g.met.B.Blocks.keeps_all _ _ e.keeps) e.rests; same_halted = refl }

pub returns-in-Err-clause-keeps : goal.returns-in-Err-clause-keeps
returns-in-Err-clause-keeps g c =
    let e = c.settle.ensures in
    record { keeps = e.keeps; usable = e.rests.usable; settled = e.rests.settled; dirties = rests_quiet (g.met.B.Blocks.keeps_all _ _ e.keeps) e.rests; same_halted = refl }

pub returns-in-Ok-clause-settles : goal.returns-in-Ok-clause-settles
returns-in-Ok-clause-settles g c = c.settle.ensures.settles

pub returns-in-Err-clause-settles : goal.returns-in-Err-clause-settles
returns-in-Err-clause-settles g c = c.settle.ensures.settles
