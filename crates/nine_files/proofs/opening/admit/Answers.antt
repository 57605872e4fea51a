use Rattle.std.proofs.Common.{◌≡◌, true, false, Ok, refl, sym, ap, ◌∙◌}
use Rattle.std.proofs.lemmas.Result.{err_from_is_err_and}
use Rattle.nine_fids.specs.declared.refusal.Refusal.TheVariants as refusal
use Rattle.fo_world.specs.Chain.{refuse_if}
use Rattle.nine_fids.specs.Fids.{is_open}
use Rattle.nine_fids.specs.Told.{served, info_at}
use Rattle.nine_fids.proofs.Seeing.{follows, looks_denied, looks_ok, looks_refused, refused_after, told_at}
use Rattle.nine_files.specs.Granting.{is_held}
use Rattle.nine_files.specs.Opening.{opening_rights}
use Rattle.nine_files.proofs.Links.{looks_plain, plain_at}
use Rattle.nine_files.proofs.Opens.{admitted_no_info, admitted_no_mode, admitted_no_right, admitted_open, admitted_there, mode_plain}
use Rattle.nine_files.proofs.opening.admit.Goals as goal

pub returns-then-is_some-clause-looks : goal.returns-then-is_some-clause-looks
returns-then-is_some-clause-looks g c =
    looks_denied _ _ _ _ (λ h. admitted_open _ _ c.args.from.now c.args.exclusive.now c.args.mode (sym c.is_some.ensures ∙ c.if-is_some.true)) (λ h. refl) tt

pub returns-in_err-info-clause-looks : goal.returns-in_err-info-clause-looks
returns-in_err-info-clause-looks g c =
    let p = err_from_is_err_and c.from_residual.result c.from_residual.ensures.1 in
    let shut : is_open c.args.from.now ≡ false = sym c.is_some.ensures ∙ c.if-is_some.false in
    rw (p.1, p.2) (looks_refused _ _ (λ e w. info_at e w c.args.from.now.place) _ c.in_err-info.field-0.0 (λ h. admitted_no_info _ _ c.args.from.now c.args.exclusive.now c.args.mode c.in_err-info.field-0.0 shut) c.in_err-info.ensures.looks)

pub returns-in_err-mode-clause-looks : goal.returns-in_err-mode-clause-looks
returns-in_err-mode-clause-looks g c =
    let p = err_from_is_err_and c.from_residual-in_err-mode.result c.from_residual-in_err-mode.ensures.1 in
    let shut : is_open c.args.from.now ≡ false = sym c.is_some.ensures ∙ c.if-is_some.false in
    let denied = sym c.allowed_mode.ensures ∙ c.in_err-mode.was in
    rw (p.1, p.2) (looks_plain _ _ _ c.in_err-mode.field-0.0 (λ h. admitted_no_mode _ _ c.args.from.now c.args.exclusive.now c.args.mode c.in_ok-info.info c.in_err-mode.field-0.0 shut (c.in_ok-info.ensures.looks.answer h) denied)
    c.info_at.ensures.looks.world (plain_at _ _ (mode_plain c.args.from.now c.in_ok-info.info c.args.mode) denied))

pub returns-in_err-check_opening-clause-looks : goal.returns-in_err-check_opening-clause-looks
returns-in_err-check_opening-clause-looks g c =
    let f = c.args.files.now in
    let e = served (g.F.FileOps.whole f) (g.F.FileOps.largest f) in
    let w = g.F.FileOps.world f in
    let met = g.met.F.FileOps in
    let k = c.info_at.ensures.keeps in
    let p = err_from_is_err_and c.from_residual-in_err-check_opening.result c.from_residual-in_err-check_opening.ensures.1 in
    let shut : is_open c.args.from.now ≡ false = sym c.is_some.ensures ∙ c.if-is_some.false in
    let i = c.in_ok-info.info in
    let m = c.in_ok-mode.mode in
    rw (p.1, p.2) (refused_after _ _ _ (λ e w. opening_rights e w c.args.from.now i m) _ c.in_err-check_opening.field-0.0 (follows _ _ (met.keeps_whole _ _ k) (met.keeps_largest _ _ k) (met.keeps_faults _ _ k) (met.keeps_honest _ _ k))
    c.info_at.ensures.looks.world
    (λ h. admitted_no_right e w c.args.from.now c.args.exclusive.now c.args.mode i m c.in_err-check_opening.field-0.0 shut (c.in_ok-info.ensures.looks.answer h) (sym c.allowed_mode.ensures ∙ c.in_ok-mode.was))
    c.in_err-check_opening.ensures.looks)

pub returns-then-is_held-clause-looks : goal.returns-then-is_held-clause-looks
returns-then-is_held-clause-looks g c =
    let f = c.args.files.now in
    let e = served (g.F.FileOps.whole f) (g.F.FileOps.largest f) in
    let w = g.F.FileOps.world f in
    let met = g.met.F.FileOps in
    let k = c.info_at.ensures.keeps in
    let shut : is_open c.args.from.now ≡ false = sym c.is_some.ensures ∙ c.if-is_some.false in
    let i = c.in_ok-info.info in
    let m = c.in_ok-mode.mode in
    looks_denied _ _ _ _ (λ h.
    let granted : opening_rights e w c.args.from.now i m ≡ Ok tt =
    told_at _ _ (λ e w. opening_rights e w c.args.from.now i m) _ _ _ _ (met.keeps_whole _ _ k) (met.keeps_largest _ _ k) (c.info_at.ensures.looks.world h) c.in_ok-check_opening.ensures.looks (met.keeps_honest _ _ k h) in
    let held : is_held c.args.from.now i c.args.exclusive.now ≡ true = sym c.is_held.ensures ∙ c.if-is_held.true in
    admitted_there e w c.args.from.now c.args.exclusive.now c.args.mode i m shut (c.in_ok-info.ensures.looks.answer h) (sym c.allowed_mode.ensures ∙ c.in_ok-mode.was) granted
    ∙ ap (λ b. refuse_if b refusal.ExclusivelyOpen (Ok (i, m))) held)
    (λ h. c.check_opening.ensures.looks.world (met.keeps_honest _ _ k h) ∙ c.info_at.ensures.looks.world h) tt

pub returns-clause-looks : goal.returns-clause-looks
returns-clause-looks g c =
    let f = c.args.files.now in
    let e = served (g.F.FileOps.whole f) (g.F.FileOps.largest f) in
    let w = g.F.FileOps.world f in
    let met = g.met.F.FileOps in
    let k = c.info_at.ensures.keeps in
    let shut : is_open c.args.from.now ≡ false = sym c.is_some.ensures ∙ c.if-is_some.false in
    let i = c.in_ok-info.info in
    let m = c.in_ok-mode.mode in
    looks_ok _ _ _ _ (λ h.
    let granted : opening_rights e w c.args.from.now i m ≡ Ok tt =
    told_at _ _ (λ e w. opening_rights e w c.args.from.now i m) _ _ _ _ (met.keeps_whole _ _ k) (met.keeps_largest _ _ k) (c.info_at.ensures.looks.world h) c.in_ok-check_opening.ensures.looks (met.keeps_honest _ _ k h) in
    let held : is_held c.args.from.now i c.args.exclusive.now ≡ false = sym c.is_held.ensures ∙ c.if-is_held.false in
    admitted_there e w c.args.from.now c.args.exclusive.now c.args.mode i m shut (c.in_ok-info.ensures.looks.answer h) (sym c.allowed_mode.ensures ∙ c.in_ok-mode.was) granted
    ∙ ap (λ b. refuse_if b refusal.ExclusivelyOpen (Ok (i, m))) held)
    (λ h. c.check_opening.ensures.looks.world (met.keeps_honest _ _ k h) ∙ c.info_at.ensures.looks.world h)

pub returns-clause-allowed : goal.returns-clause-allowed
returns-clause-allowed g c =
    sym c.allowed_mode.ensures ∙ c.in_ok-mode.was
