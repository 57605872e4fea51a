use Rattle.std.proofs.Common.{◌∙◌, sym, ap, subst, Ok}
use Rattle.std.proofs.lemmas.Result.{err_from_is_err_and}
use Rattle.fo_world.specs.declared.place.Place.{Place}
use Rattle.fo_world.specs.declared.place.View.{View}
use Rattle.fo_world.specs.declared.place.Info.{Info}
use Rattle.fo_world.specs.Step.{HasEpoch}
use Rattle.fo_vac_files.specs.Vac.{world_of}
use Rattle.fo_vac_files.specs.Told.{told_of}
use Rattle.fo_vac_files.proofs.Saying.{said_on, info_told}
use Rattle.fo_vac_files.proofs.looks.info_at.Goals as goal

pub told-requires-clause-epoch : goal.told-requires-clause-epoch
told-requires-clause-epoch g c = subst (λ (v : View). HasEpoch v) (sym (ap (λ (p : Place). p.view) c.in_ok-place.ensures ∙ c.requires)) c.args.opened.now.epoch_fits

pub returns-in_err-file-clause-held : goal.returns-in_err-file-clause-held
returns-in_err-file-clause-held g c = λ h k.
    let p = err_from_is_err_and c.from_residual.result c.from_residual.ensures.1 in
    rw (p.1, p.2) (said_on h c.args.opened.now _ _ c.in_err-file.field-0.0 (c.in_err-file.ensures.held h k))

pub returns-clause-held : goal.returns-clause-held
returns-clause-held g c = λ h k.
    let w = world_of h c.args.opened.now in
    info_told h c.args.opened.now w c.args.at.now c.in_ok-file.file (c.in_ok-file.ensures.held h k)
    ∙ ap (λ (p : Place). Ok (told_of p c.in_ok-file.file, w)) (sym c.in_ok-place.ensures)
    ∙ ap (λ (i : Info). Ok (i, w)) (sym c.told.ensures.told)
