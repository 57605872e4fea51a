use Rattle.fo_vac_files.proofs.Saying.{told_fits}
use Rattle.fo_vac_files.proofs.looks.told.Goals as goal

pub returns-clause-fits : goal.returns-clause-fits
returns-clause-fits c =
    let t = told_fits c.args.place c.args.file c.requires.holds in
    record { name = t.name; uid = t.uid; gid = t.gid; muid = t.muid }
