use Rattle.std.proofs.Common.{sym, subst}
use Rattle.fo_world.specs.Step.{reached}
use Rattle.std.specs.Prelude.{false}
use Rattle.fo_vac_files.specs.Vac.{world_of}
use Rattle.fo_vac_files.specs.Told.{HasKind}
use Rattle.fo_vac_files.proofs.Saying.{kind_is}
use Rattle.fo_vac_files.proofs.looks.kind_at.Goals as goal

pub returns-clause-held : goal.returns-clause-held
returns-clause-held g c = λ h k.
    let o = c.args.opened.now in
    let where_to = reached false (world_of h o) c.args.at.now in
    subst (HasKind where_to) (sym c.is_dir.ensures) (kind_is h o where_to c.in_ok-file.file (c.in_ok-file.ensures.held h k))
