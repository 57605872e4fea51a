use Rattle.std.proofs.Common.{◌∙◌, inr, sym, ap, subst, Ok, Option}
use Rattle.std.proofs.lemmas.Result.{err_from_is_err_and}
use Rattle.fo_world.specs.declared.place.View.{View}
use Rattle.fo_world.specs.declared.place.Info.{Info}
use Rattle.fo_world.specs.Step.{HasEpoch}
use Rattle.fo_vac_dir.specs.Choice.{test_of}
use Rattle.fo_vac_dir.specs.Dir.{names_of}
use Rattle.fo_vac_files.specs.Vac.{world_of}
use Rattle.fo_vac_walk.proofs.Blocks.{still_told}
use Rattle.fo_vac_files.proofs.Entered.{as_folder, names_at}
use Rattle.fo_vac_files.proofs.Saying.{said_on, not_dir_said, next_is}
use Rattle.fo_vac_files.proofs.looks.pick_at.Goals as goal

pub told_below-requires-clause-epoch : goal.told_below-requires-clause-epoch
told_below-requires-clause-epoch g c = subst (λ (v : View). HasEpoch v) (sym c.requires) c.args.opened.now.epoch_fits

pub returns-in_err-file-clause-held : goal.returns-in_err-file-clause-held
returns-in_err-file-clause-held g c = λ h k.
    let p = err_from_is_err_and c.from_residual.result c.from_residual.ensures.1 in
    rw (p.1, p.2) (said_on h c.args.opened.now _ _ c.in_err-file.field-0.0 (c.in_err-file.ensures.held h k))

pub returns-in_err-folder-clause-held : goal.returns-in_err-folder-clause-held
returns-in_err-folder-clause-held g c = λ h k.
    let p = err_from_is_err_and c.from_residual-in_err-folder.result c.from_residual-in_err-folder.ensures.1 in
    rw (p.1, p.2) (not_dir_said h c.args.opened.now (test_of c.args.wanted.now) (world_of h c.args.opened.now) c.args.at.now c.in_ok-file.file c.in_err-folder.field-0.0 (c.in_ok-file.ensures.held h k) c.in_err-folder.ensures.0 c.in_err-folder.ensures.1)

pub returns-in_err-found-clause-held : goal.returns-in_err-found-clause-held
returns-in_err-found-clause-held g c = λ h k.
    let p = err_from_is_err_and c.from_residual-in_err-found.result c.from_residual-in_err-found.ensures.1 in
    let o = c.args.opened.now in
    let l = c.in_ok-file.ensures.held h k in
    let d = as_folder h o c.in_ok-file.file l.node c.in_ok-folder.folder l.stands c.in_ok-folder.ensures in
    rw (p.1, p.2) (inr (c.in_err-found.ensures.held h o d.entries d.meta (still_told h _ _ _ _ c.in_ok-file.ensures.shelf c.in_ok-file.ensures.kept k) d.is))

pub returns-clause-held : goal.returns-clause-held
returns-clause-held g c = λ h k.
    let o = c.args.opened.now in
    let w = world_of h c.args.opened.now in
    let l = c.in_ok-file.ensures.held h k in
    let d = as_folder h o c.in_ok-file.file l.node c.in_ok-folder.folder l.stands c.in_ok-folder.ensures in
    let names = names_of h c.in_ok-folder.folder.levels d.entries d.meta in
    let p = c.in_ok-found.ensures.held h o d.entries d.meta (still_told h _ _ _ _ c.in_ok-file.ensures.shelf c.in_ok-file.ensures.kept k) d.is in
    next_is h o (test_of c.args.wanted.now) w c.args.at.now c.in_ok-file.file names c.in_ok-found.found l (names_at h o c.in_ok-file.file l.node c.in_ok-folder.folder l.stands c.in_ok-folder.ensures) p
    ∙ ap (λ (told : Option Info). Ok (told, w)) (sym c.in_ok-told.ensures.told)
