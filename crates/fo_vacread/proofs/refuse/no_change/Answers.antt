use Rattle.std.proofs.Common.{◌∙◌, sym, ap, subst}
use Rattle.fo_world.specs.declared.error.FileError.TheVariants.{ReadOnly}
use Rattle.fo_vac_files.specs.Causes.{IsSaid, LookBlames}
use Rattle.fo_vacread.specs.Refused.{HasRefusal, refused_by, refusal_of_dir}
use Rattle.fo_vac_files.specs.Vac.{world_of}
use Rattle.fo_vacread.proofs.Refusing.{change_refused, refused_cause, length_blames}
use Rattle.fo_vacread.proofs.refuse.no_change.Goals as goal

pub returns-clause-held : goal.returns-clause-held
returns-clause-held g c = λ h largest what who now k is.
    let o = c.args.opened.now in
    let same = c.refused_by.ensures ∙ ap (λ e. refused_by e ReadOnly c.kind_at-kind.result) (c.of_dir.ensures ∙ ap refusal_of_dir (sym is)) in
    subst (IsSaid h o _) (sym same) (change_refused h o o.found.root.epoch largest (world_of h o) c.args.at.now what who now c.kind_at-kind.result c.requires (c.kind_at-kind.ensures.held h k))

pub returns-clause-cause : goal.returns-clause-cause
returns-clause-cause g c = subst (HasRefusal _ _) (sym c.refused_by.ensures) (refused_cause _ _ _ _ c.kind_at-kind.result (subst (LookBlames _ _) (sym c.of_dir.ensures) (length_blames _ _ c.args.len)) tt c.kind_at-kind.ensures.cause)
