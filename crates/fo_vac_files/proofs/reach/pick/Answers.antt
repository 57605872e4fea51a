use Rattle.std.proofs.Common.{sym, subst}
use Rattle.std.proofs.lemmas.Result.{err_from_is_err_and}
use Rattle.fo_vac_dir.specs.Choice.{test_of}
use Rattle.fo_vac_dir.specs.Dir.{Finds}
use Rattle.fo_vac_files.specs.Causes.{IsLoss}
use Rattle.fo_vac_walk.proofs.Blocks.{still_told}
use Rattle.fo_vac_files.proofs.Clean.{record_loss}
use Rattle.fo_vac_files.proofs.Entered.{picked, none_picked}
use Rattle.fo_vac_files.proofs.reach.pick.Goals as goal

pub returns-in_err-file-in-Ok-Some-clause-held : goal.returns-in_err-file-in-Ok-Some-clause-held
returns-in_err-file-in-Ok-Some-clause-held g c = λ h o entries meta k d.
    let p = err_from_is_err_and c.from_residual.result c.from_residual.ensures.1 in
    let finds = subst (Finds h (test_of c.args.wanted.now) c.args.folder.levels entries meta) c.in-Ok-Some.field-0-is (c.in-Ok-Some.ensures.held h entries meta k d.meta_is.is) in
    rw (p.1, p.2) (c.in_err-file-in-Ok-Some.ensures.held h o entries meta (still_told h _ _ _ _ c.in-Ok-Some.ensures.shelf c.in-Ok-Some.ensures.kept k) d finds.one)

pub returns-in_ok-file-in-Ok-Some-clause-held : goal.returns-in_ok-file-in-Ok-Some-clause-held
returns-in_ok-file-in-Ok-Some-clause-held g c = λ h o entries meta k d.
    let finds = subst (Finds h (test_of c.args.wanted.now) c.args.folder.levels entries meta) c.in-Ok-Some.field-0-is (c.in-Ok-Some.ensures.held h entries meta k d.meta_is.is) in
    let stands = c.in_ok-file-in-Ok-Some.ensures.held h o entries meta (still_told h _ _ _ _ c.in-Ok-Some.ensures.shelf c.in-Ok-Some.ensures.kept k) d finds.one in
    picked h o (test_of c.args.wanted.now) c.args.folder entries meta c.in-Ok-Some.named c.in_ok-file-in-Ok-Some.file finds stands

pub returns-in-Ok-None-clause-held : goal.returns-in-Ok-None-clause-held
returns-in-Ok-None-clause-held g c = λ h o entries meta k d.
    none_picked h o (test_of c.args.wanted.now) c.args.folder entries meta
    (subst (Finds h (test_of c.args.wanted.now) c.args.folder.levels entries meta) c.in-Ok-None.field-0-is (c.in-Ok-None.ensures.held h entries meta k d.meta_is.is))

pub returns-in-Err-clause-held : goal.returns-in-Err-clause-held
returns-in-Err-clause-held g c = λ h o entries meta k d.
    subst (IsLoss h o) (sym c.refusal.ensures) (record_loss h o c.args.folder entries meta c.in-Err.why d (c.in-Err.ensures.held h entries meta k d.meta_is.is))
