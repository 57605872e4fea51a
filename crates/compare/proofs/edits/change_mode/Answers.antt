use Rattle.compare.proofs.Keeping.{changes}
use Rattle.compare.proofs.edits.change_mode.Goals as goal

pub change-requires-clause-change : goal.change-requires-clause-change
change-requires-clause-change g c =
    let met = g.met.F.FileOps in
    let k = c.info.ensures.keeps in
    changes _ _ _ _ _ _ c.args.what _ _ c.in-Ok.told c.with_mode-what.ensures c.requires.name c.requires.gid c.requires.root (met.keeps_whole _ _ k) (λ h. c.in-Ok.ensures.answer (met.keeps_silent _ _ k h)) c.mode_like.ensures
