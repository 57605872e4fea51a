use Rattle.std.proofs.Common.{sym, subst}
use Rattle.fo_vac_files.specs.Causes.{IsSaid}
use Rattle.fo_vacread.specs.Refused.{HasRefusal}
use Rattle.fo_vac_files.specs.Vac.{world_of}
use Rattle.fo_vacread.proofs.Refusing.{write_refused, refused_cause}
use Rattle.fo_vacread.proofs.refuse.no_write.Goals as goal

pub returns-clause-held : goal.returns-clause-held
returns-clause-held g c = λ h largest offset bytes who now k.
    let o = c.args.opened.now in
    subst (IsSaid h o _) (sym c.refused_by.ensures) (write_refused h o o.found.root.epoch largest (world_of h o) c.args.at.now offset bytes who now c.kind_at-kind.result c.requires (c.kind_at-kind.ensures.held h k))

pub returns-clause-cause : goal.returns-clause-cause
returns-clause-cause g c = subst (HasRefusal _ _) (sym c.refused_by.ensures) (refused_cause _ _ _ _ c.kind_at-kind.result tt tt c.kind_at-kind.ensures.cause)
