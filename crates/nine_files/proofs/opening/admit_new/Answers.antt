use Rattle.std.proofs.Common.{◌≡◌, Bool, true, false, not, Ok, refl, sym, ap, ◌∙◌}
use Rattle.std.proofs.lemmas.Result.{err_from_is_err_and}
use Rattle.fo_users.specs.Rights.{may}
use Rattle.fo_users.specs.declared.right.Right.TheVariants.{Write}
use Rattle.nine_fids.specs.declared.refusal.Refusal.TheVariants as refusal
use Rattle.fo_world.specs.World.{World}
use Rattle.fo_world.specs.Chain.{refuse_if}
use Rattle.nine_fids.specs.Fids.{is_open}
use Rattle.nine_fids.specs.Told.{Files, served, info_at}
use Rattle.nine_fids.specs.Rights.{table_of}
use Rattle.nine_fids.proofs.Missing.{ok_same}
use Rattle.nine_fids.proofs.Seeing.{failed_after, follows, looks_denied, looks_ok, looks_refused, told_at}
use Rattle.nine_files.proofs.Links.{looks_plain, plain_at}
use Rattle.nine_files.proofs.Opens.{new_no_info, new_no_mode, new_open, new_plain, new_there}
use Rattle.nine_files.proofs.opening.admit_new.Goals as goal

pub returns-then-is_some-clause-looks : goal.returns-then-is_some-clause-looks
returns-then-is_some-clause-looks g c =
    looks_denied _ _ _ _ (λ h. new_open _ _ c.args.from.now c.args.name.now c.args.perm c.args.mode (sym c.is_some.ensures ∙ c.if-is_some.true)) (λ h. refl) tt

pub returns-in_err-above-clause-looks : goal.returns-in_err-above-clause-looks
returns-in_err-above-clause-looks g c =
    let p = err_from_is_err_and c.from_residual.result c.from_residual.ensures.1 in
    let shut : is_open c.args.from.now ≡ false = sym c.is_some.ensures ∙ c.if-is_some.false in
    rw (p.1, p.2) (looks_refused _ _ (λ e w. info_at e w c.args.from.now.place) _ c.in_err-above.field-0.0 (λ h. new_no_info _ _ c.args.from.now c.args.name.now c.args.perm c.args.mode c.in_err-above.field-0.0 shut) c.in_err-above.ensures.looks)

pub returns-in_err-mode-clause-looks : goal.returns-in_err-mode-clause-looks
returns-in_err-mode-clause-looks g c =
    let p = err_from_is_err_and c.from_residual-in_err-mode.result c.from_residual-in_err-mode.ensures.1 in
    let shut : is_open c.args.from.now ≡ false = sym c.is_some.ensures ∙ c.if-is_some.false in
    let denied = sym c.allowed_new.ensures ∙ c.in_err-mode.was in
    rw (p.1, p.2) (looks_plain _ _ _ c.in_err-mode.field-0.0 (λ h. new_no_mode _ _ c.args.from.now c.args.name.now c.args.perm c.args.mode c.in_ok-above.above c.in_err-mode.field-0.0 shut (c.in_ok-above.ensures.looks.answer h) denied)
    c.info_at.ensures.looks.world (plain_at _ _ (new_plain c.args.from.now c.in_ok-above.above c.args.name.now c.args.perm c.args.mode) denied))

pub returns-in_err-may_add-clause-looks : goal.returns-in_err-may_add-clause-looks
returns-in_err-may_add-clause-looks g c =
    let met = g.met.F.FileOps in
    let k = c.info_at.ensures.keeps in
    let p = err_from_is_err_and c.from_residual-in_err-may_add.result c.from_residual-in_err-may_add.ensures.1 in
    rw (p.1, p.2) (failed_after _ _ _ (λ e w. may (table_of e w) c.args.from.now.user c.in_ok-above.above Write) _ c.in_err-may_add.field-0.0 (follows _ _ (met.keeps_whole _ _ k) (met.keeps_largest _ _ k) (met.keeps_faults _ _ k) (met.keeps_honest _ _ k)) c.info_at.ensures.looks.world c.in_err-may_add.ensures.looks)

pub returns-then-not-may_add-clause-looks : goal.returns-then-not-may_add-clause-looks
returns-then-not-may_add-clause-looks g c =
    let f = c.args.files.now in
    let e = served (g.F.FileOps.whole f) (g.F.FileOps.largest f) in
    let w = g.F.FileOps.world f in
    let met = g.met.F.FileOps in
    let k = c.info_at.ensures.keeps in
    let shut : is_open c.args.from.now ≡ false = sym c.is_some.ensures ∙ c.if-is_some.false in
    let rights : Files → World → Bool = λ e w. may (table_of e w) c.args.from.now.user c.in_ok-above.above Write in
    looks_denied _ _ _ _ (λ h.
    let right : rights e w ≡ false = ok_same _ _ (told_at _ _ (λ e w. Ok (rights e w)) _ _ _ _ (met.keeps_whole _ _ k) (met.keeps_largest _ _ k) (c.info_at.ensures.looks.world h) c.in_ok-may_add.ensures.looks (met.keeps_honest _ _ k h)) ∙ c.if-not-may_add.true in
    new_there e w c.args.from.now c.args.name.now c.args.perm c.args.mode c.in_ok-above.above c.in_ok-mode.mode shut (c.in_ok-above.ensures.looks.answer h) (sym c.allowed_new.ensures ∙ c.in_ok-mode.was)
    ∙ ap (λ b. refuse_if (not b) refusal.PermissionDenied (Ok (c.in_ok-above.above, c.in_ok-mode.mode))) right)
    (λ h. c.in_ok-may_add.ensures.looks.world (met.keeps_honest _ _ k h) ∙ c.info_at.ensures.looks.world h) tt

pub returns-clause-looks : goal.returns-clause-looks
returns-clause-looks g c =
    let f = c.args.files.now in
    let e = served (g.F.FileOps.whole f) (g.F.FileOps.largest f) in
    let w = g.F.FileOps.world f in
    let met = g.met.F.FileOps in
    let k = c.info_at.ensures.keeps in
    let shut : is_open c.args.from.now ≡ false = sym c.is_some.ensures ∙ c.if-is_some.false in
    let rights : Files → World → Bool = λ e w. may (table_of e w) c.args.from.now.user c.in_ok-above.above Write in
    looks_ok _ _ _ _ (λ h.
    let right : rights e w ≡ true = ok_same _ _ (told_at _ _ (λ e w. Ok (rights e w)) _ _ _ _ (met.keeps_whole _ _ k) (met.keeps_largest _ _ k) (c.info_at.ensures.looks.world h) c.in_ok-may_add.ensures.looks (met.keeps_honest _ _ k h)) ∙ c.if-not-may_add.false in
    new_there e w c.args.from.now c.args.name.now c.args.perm c.args.mode c.in_ok-above.above c.in_ok-mode.mode shut (c.in_ok-above.ensures.looks.answer h) (sym c.allowed_new.ensures ∙ c.in_ok-mode.was)
    ∙ ap (λ b. refuse_if (not b) refusal.PermissionDenied (Ok (c.in_ok-above.above, c.in_ok-mode.mode))) right)
    (λ h. c.in_ok-may_add.ensures.looks.world (met.keeps_honest _ _ k h) ∙ c.info_at.ensures.looks.world h)

pub returns-clause-allowed : goal.returns-clause-allowed
returns-clause-allowed g c =
    sym c.allowed_new.ensures ∙ c.in_ok-mode.was
