use Rattle.std.proofs.Common.{refl}
use Rattle.std.proofs.lemmas.Result.{err_from_is_err_and}
use Rattle.fo_world.specs.Step as step
use Rattle.fo_world.specs.World.{World}
use Rattle.nine_fids.specs.Told.{Files}
use Rattle.nine_files.specs.Parts.{write_start}
use Rattle.nine_files.proofs.Making.{changes_as, changes_err, changes_ok, gives}
use Rattle.nine_files.proofs.Touching.{unit_given}
use Rattle.nine_files.proofs.reading.write_bytes.Goals as goal

pub returns-in_err-write-clause-changes : goal.returns-in_err-write-clause-changes
returns-in_err-write-clause-changes g c =
    let p = err_from_is_err_and c.from_residual.result c.from_residual.ensures.1 in
    let writes = λ (e : Files) (w : World). step.write e.whole e.largest w c.args.fid.now.place (write_start c.args.info.now c.args.offset) c.args.bytes.now c.args.fid.now.user c.args.now in
    let need = λ (e : Files) (w : World). step.write_need c.args.fid.now.place c.args.bytes.now in
    let answer = rw c.write_start-offset.ensures at c.in_err-write.ensures.answer in
    let touches = rw c.write_start-offset.ensures at c.in_err-write.ensures.touches in
    rw (p.1, p.2) (changes_as _ _ _ (gives tt writes) _ need _ _ _ _ (λ h. unit_given (writes _ _)) (λ h. refl) refl
    (changes_err _ _ _ writes need _ tt c.in_err-write.field-0.0 answer (λ h. touches) c.in_err-write.ensures.cause (_, touches)))

pub returns-clause-changes : goal.returns-clause-changes
returns-clause-changes g c =
    let writes = λ (e : Files) (w : World). step.write e.whole e.largest w c.args.fid.now.place (write_start c.args.info.now c.args.offset) c.args.bytes.now c.args.fid.now.user c.args.now in
    let need = λ (e : Files) (w : World). step.write_need c.args.fid.now.place c.args.bytes.now in
    let answer = rw c.write_start-offset.ensures at c.in_ok-write.ensures.answer in
    let touches = rw c.write_start-offset.ensures at c.in_ok-write.ensures.touches in
    (changes_as _ _ _ (gives tt writes) _ need _ _ _ _ (λ h. unit_given (writes _ _)) (λ h. refl) refl
    (changes_ok _ _ _ writes need _ tt _ answer (λ h. c.in_ok-write.ensures.room) (λ h. touches) (_, touches)))
