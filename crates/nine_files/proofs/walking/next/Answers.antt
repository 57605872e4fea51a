use Rattle.std.proofs.Common.{sym, ◌∙◌, refl}
use Rattle.nine_fids.specs.Told.{named_at, parent_at}
use Rattle.nine_fids.proofs.Seeing.{looks_as, looks_denied}
use Rattle.nine_files.proofs.Chains.{next_absent, next_denied, next_named, next_no_dir, next_up}
use Rattle.nine_files.proofs.walking.next.Goals as goal

pub returns-then-not-is_dir-clause-looks : goal.returns-then-not-is_dir-clause-looks
returns-then-not-is_dir-clause-looks g c =
    looks_denied _ _ _ _ (λ h. next_no_dir c.args.users.now _ _ c.args.user.now c.args.from.now c.args.name.now (sym c.is_dir.ensures ∙ c.if-not-is_dir.true)) (λ h. refl) tt

pub returns-then-not-may-clause-looks : goal.returns-then-not-may-clause-looks
returns-then-not-may-clause-looks g c =
    looks_denied _ _ _ _ (λ h. next_denied c.args.users.now _ _ c.args.user.now c.args.from.now c.args.name.now (sym c.is_dir.ensures ∙ c.if-not-is_dir.false) (sym c.may.ensures ∙ c.if-not-may.true)) (λ h. refl) tt

pub returns-then-is_up-clause-looks : goal.returns-then-is_up-clause-looks
returns-then-is_up-clause-looks g c =
    looks_as _ _ _ (λ e w. parent_at e w c.args.from.now.place) _
    (λ h. sym (next_up c.args.users.now _ _ c.args.user.now c.args.from.now c.args.name.now (sym c.is_dir.ensures ∙ c.if-not-is_dir.false) (sym c.may.ensures ∙ c.if-not-may.false) (sym c.is_up.ensures ∙ c.if-is_up.true))) c.parent_at.ensures.looks

pub returns-then-stands_for_none-clause-looks : goal.returns-then-stands_for_none-clause-looks
returns-then-stands_for_none-clause-looks g c =
    looks_denied _ _ _ _
    (λ h. next_absent c.args.users.now _ _ c.args.user.now c.args.from.now c.args.name.now (sym c.is_dir.ensures ∙ c.if-not-is_dir.false) (sym c.may.ensures ∙ c.if-not-may.false) (sym c.is_up.ensures ∙ c.if-is_up.false) (sym c.stands_for_none.ensures ∙ c.if-stands_for_none.true)) (λ h. refl) tt

pub returns-clause-looks : goal.returns-clause-looks
returns-clause-looks g c =
    looks_as _ _ _ (λ e w. named_at e w c.args.from.now.place c.args.name.now) _
    (λ h. sym (next_named c.args.users.now _ _ c.args.user.now c.args.from.now c.args.name.now (sym c.is_dir.ensures ∙ c.if-not-is_dir.false) (sym c.may.ensures ∙ c.if-not-may.false) (sym c.is_up.ensures ∙ c.if-is_up.false) (sym c.stands_for_none.ensures ∙ c.if-stands_for_none.false))) c.named_at.ensures.looks
