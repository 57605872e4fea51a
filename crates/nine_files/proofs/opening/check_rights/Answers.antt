use Rattle.std.proofs.Common.{sym, ◌∙◌, refl}
use Rattle.std.proofs.lemmas.Bool.{not-true, not-false}
use Rattle.nine_fids.specs.Rights.{may_write_above_by}
use Rattle.nine_fids.proofs.Seeing.{looks_as, looks_denied, looks_ok}
use Rattle.nine_files.proofs.Chains.{opening_above, opening_denied, opening_plain}
use Rattle.nine_files.proofs.opening.check_rights.Goals as goal

pub returns-then-not-may_open-clause-looks : goal.returns-then-not-may_open-clause-looks
returns-then-not-may_open-clause-looks g c =
    looks_denied _ _ _ _ (λ h. opening_denied c.args.users.now _ _ c.args.fid.now c.args.info.now c.args.mode (sym c.may_open.ensures ∙ c.if-not-may_open.true)) (λ h. refl) tt

pub returns-then-not-mode-clause-looks : goal.returns-then-not-mode-clause-looks
returns-then-not-mode-clause-looks g c =
    looks_ok _ _ _ _ (λ h. opening_plain c.args.users.now _ _ c.args.fid.now c.args.info.now c.args.mode (sym c.may_open.ensures ∙ c.if-not-may_open.false) (not-true c.args.mode.remove c.if-not-mode.true)) (λ h. refl)

pub returns-clause-looks : goal.returns-clause-looks
returns-clause-looks g c =
    looks_as _ _ _ (λ e w. may_write_above_by c.args.users.now e w c.args.fid.now) _
    (λ h. sym (opening_above c.args.users.now _ _ c.args.fid.now c.args.info.now c.args.mode (sym c.may_open.ensures ∙ c.if-not-may_open.false) (not-false c.args.mode.remove c.if-not-mode.false))) c.may_write_above.ensures.looks
