use Rattle.std.proofs.Common.{not, sym, ap, ◌∙◌, refl}
use Rattle.nine_fids.specs.Rights.{may_write_above_by}
use Rattle.nine_fids.proofs.Seeing.{looks_as, looks_denied, looks_ok}
use Rattle.nine_files.proofs.Chains.{changing_above, changing_denied, changing_plain}
use Rattle.nine_files.proofs.stating.check_rights.Goals as goal

pub returns-then-not-may_change-clause-looks : goal.returns-then-not-may_change-clause-looks
returns-then-not-may_change-clause-looks g c =
    looks_denied _ _ _ _ (λ h. changing_denied c.args.users.now _ _ c.args.fid.now c.args.info.now c.args.what.now (sym c.may_change.ensures ∙ c.if-not-may_change.true)) (λ h. refl) tt

pub returns-then-is_none-clause-looks : goal.returns-then-is_none-clause-looks
returns-then-is_none-clause-looks g c =
    looks_ok _ _ _ _ (λ h. changing_plain c.args.users.now _ _ c.args.fid.now c.args.info.now c.args.what.now (sym c.may_change.ensures ∙ c.if-not-may_change.false) (c.is_none.ensures ∙ ap not c.if-is_none.true)) (λ h. refl)

pub returns-clause-looks : goal.returns-clause-looks
returns-clause-looks g c =
    looks_as _ _ _ (λ e w. may_write_above_by c.args.users.now e w c.args.fid.now) _
    (λ h. sym (changing_above c.args.users.now _ _ c.args.fid.now c.args.info.now c.args.what.now (sym c.may_change.ensures ∙ c.if-not-may_change.false) (c.is_none.ensures ∙ ap not c.if-is_none.false))) c.may_write_above.ensures.looks
