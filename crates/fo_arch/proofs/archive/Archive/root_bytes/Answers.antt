use Rattle.fo_arch.proofs.Finishing.{prev_holds}
use Rattle.fo_arch.proofs.archive.Archive.root_bytes.Goals as goal

pub write_vac_root-requires-clause-spelled : goal.write_vac_root-requires-clause-spelled
write_vac_root-requires-clause-spelled c =
    let a = c.args.self.now in
    record { epoch_is = (a.begun, a.few); time_fits = a.timed; top_is = c.top.ensures.score; prev_is = prev_holds a.prev a.before }
