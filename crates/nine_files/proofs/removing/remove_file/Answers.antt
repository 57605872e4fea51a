use Rattle.std.proofs.Common.{◌≡◌, true, false, sym, ap, ◌∙◌, refl, ◌==◌, length, Ok, Err, arith}
use Rattle.std.proofs.lemmas.Result.{err_from_is_err_and}
use Rattle.fo_world.specs.Step as step
use Rattle.fo_world.specs.World.{World}
use Rattle.nine_fids.specs.Told.{Files, served}
use Rattle.nine_fids.specs.Rights.{may_write_above_by, table_of}
use Rattle.nine_fids.proofs.Missing.{ok_same}
use Rattle.nine_fids.proofs.Seeing.{follows, looks_after, told_at}
use Rattle.nine_files.specs.Removing.{remove_need}
use Rattle.nine_files.proofs.Making.{leads_after, leads_as, leads_denied, leads_err, leads_looked, leads_ok, led, state_of}
use Rattle.nine_files.proofs.Removals.{removed_above, removed_root, removed_told, removed_view}
use Rattle.nine_files.proofs.removing.remove_file.Goals as goal

pub returns-then-not-is_active-clause-changes : goal.returns-then-not-is_active-clause-changes
returns-then-not-is_active-clause-changes g c =
    let f = c.args.files.now in
    let e = served (g.F.FileOps.whole f) (g.F.FileOps.largest f) in
    let w = g.F.FileOps.world f in
    let met = g.met.F.FileOps in
    leads_denied _ _ _ _ _ _ _ (λ h. removed_view e w c.args.fid.now c.args.now (sym c.is_active.ensures ∙ c.if-not-is_active.true)) (λ h. refl) tt (λ w n. met.touches_more _ _ w 0 n (omega arith) (met.keeps_touches _ _ w (met.keeps_at_once _)))

pub returns-then-is_empty-clause-changes : goal.returns-then-is_empty-clause-changes
returns-then-is_empty-clause-changes g c =
    let f = c.args.files.now in
    let e = served (g.F.FileOps.whole f) (g.F.FileOps.largest f) in
    let w = g.F.FileOps.world f in
    let met = g.met.F.FileOps in
    let root : (length c.args.fid.now.place.trail == 0) ≡ true = rw (← c.as_slice.ensures) (sym c.is_empty.ensures ∙ c.if-is_empty.true) in
    let active = sym c.is_active.ensures ∙ c.if-not-is_active.false in
    leads_denied _ _ _ _ _ _ _ (λ h. removed_root e w c.args.fid.now c.args.now active root) (λ h. refl) tt (λ w n. met.touches_more _ _ w 0 n (omega arith) (met.keeps_touches _ _ w (met.keeps_at_once _)))

pub returns-in_err-users-clause-changes : goal.returns-in_err-users-clause-changes
returns-in_err-users-clause-changes g c =
    let met = g.met.F.FileOps in
    let p = err_from_is_err_and c.from_residual.result c.from_residual.ensures.1 in
    rw (p.1, p.2) (leads_looked _ _ _ (λ e w. Ok (table_of e w)) _ _ _ c.in_err-users.field-0.0 (λ h e. absurd cc) (λ w n. met.touches_more _ _ w 0 n (omega arith) (met.keeps_touches _ _ w c.table_of.ensures.keeps)) c.in_err-users.ensures.looks)

pub returns-in_err-may_write_above-clause-changes : goal.returns-in_err-may_write_above-clause-changes
returns-in_err-may_write_above-clause-changes g c =
    let f = c.args.files.now in
    let e = served (g.F.FileOps.whole f) (g.F.FileOps.largest f) in
    let w = g.F.FileOps.world f in
    let met = g.met.F.FileOps in
    let p = err_from_is_err_and c.from_residual-in_err-may_write_above.result c.from_residual-in_err-may_write_above.ensures.1 in
    let k = c.in_ok-users.ensures.keeps in
    let j = met.keeps_joins _ _ _ k c.may_write_above.ensures.keeps in
    let root : (length c.args.fid.now.place.trail == 0) ≡ false = rw (← c.as_slice.ensures) (sym c.is_empty.ensures ∙ c.if-is_empty.false) in
    let active = sym c.is_active.ensures ∙ c.if-not-is_active.false in
    let r = c.in_err-may_write_above.field-0.0 in
    rw (p.1, p.2) (leads_looked _ _ _ (λ e w. may_write_above_by c.in_ok-users.users.now e w c.args.fid.now) _ _ _ r
    (λ h denied.
    let table : table_of e w ≡ c.in_ok-users.users.now = ok_same _ _ (c.in_ok-users.ensures.looks.answer h) in
    removed_above e w c.args.fid.now c.args.now r active root (ap (λ t. may_write_above_by t e w c.args.fid.now) table ∙ denied))
    (λ w n. met.touches_more _ _ w 0 n (omega arith) (met.keeps_touches _ _ w j))
    (looks_after _ _ _ _ (λ e w. may_write_above_by c.in_ok-users.users.now e w c.args.fid.now) (Err r) (follows _ _ (met.keeps_whole _ _ k) (met.keeps_largest _ _ k) (met.keeps_faults _ _ k) (met.keeps_honest _ _ k)) c.table_of.ensures.looks.world (λ h. refl) c.in_err-may_write_above.ensures.looks))

pub returns-in_err-remove-clause-changes : goal.returns-in_err-remove-clause-changes
returns-in_err-remove-clause-changes g c =
    let p = err_from_is_err_and c.from_residual-in_err-remove.result c.from_residual-in_err-remove.ensures.1 in
    let f = c.args.files.now in
    let e = served (g.F.FileOps.whole f) (g.F.FileOps.largest f) in
    let w = g.F.FileOps.world f in
    let met = g.met.F.FileOps in
    let k = c.in_ok-users.ensures.keeps in
    let j = met.keeps_joins _ _ _ k c.may_write_above.ensures.keeps in
    let mid = c.may_write_above.new.files in
    let b = state_of (g.F.FileOps.whole mid) (g.F.FileOps.largest mid) (g.F.FileOps.world mid) (g.F.FileOps.faults mid) (g.F.FileOps.honest mid) (g.F.FileOps.has_room mid) in
    let root : (length c.args.fid.now.place.trail == 0) ≡ false = rw (← c.as_slice.ensures) (sym c.is_empty.ensures ∙ c.if-is_empty.false) in
    let active = sym c.is_active.ensures ∙ c.if-not-is_active.false in
    let removes = λ (e : Files) (w : World). step.remove e.whole w c.args.fid.now.place c.args.fid.now.user c.args.now in
    let need = λ (e : Files) (w : World). remove_need c.args.fid.now in
    rw (p.1, p.2)
    (leads_as _ _ _ (led removes) _ need _ _ _ _
    (λ h.
    let table : table_of e w ≡ c.in_ok-users.users.now = ok_same _ _ (c.in_ok-users.ensures.looks.answer h) in
    let above = ap (λ t. may_write_above_by t e w c.args.fid.now) table
    ∙ told_at _ _ (λ e w. may_write_above_by c.in_ok-users.users.now e w c.args.fid.now) _ _ _ _ (met.keeps_whole _ _ k) (met.keeps_largest _ _ k) (c.table_of.ensures.looks.world h) c.in_ok-may_write_above.ensures.looks (met.keeps_honest _ _ k h) in
    sym (removed_told e w c.args.fid.now c.args.now active root above))
    (λ h. refl) refl
    (leads_after _ b _ _ (λ w n. g.F.FileOps.touches mid w n c.remove.new.self) (led removes) need _ _ (follows _ _ (met.keeps_whole _ _ j) (met.keeps_largest _ _ j) (met.keeps_faults _ _ j) (met.keeps_honest _ _ j))
    (λ h. c.may_write_above.ensures.looks.world (met.keeps_honest _ _ k h) ∙ c.table_of.ensures.looks.world h) (λ n. met.keeps_room _ _ n j) (λ w n. met.keeps_then _ _ _ w n j)
    (leads_err b _ _ removes need _ c.in_err-remove.field-0.0 (λ h. c.in_err-remove.ensures.answer h) (λ h. c.in_err-remove.ensures.touches) c.in_err-remove.ensures.cause (_, c.in_err-remove.ensures.touches))))

pub returns-clause-changes : goal.returns-clause-changes
returns-clause-changes g c =
    let f = c.args.files.now in
    let e = served (g.F.FileOps.whole f) (g.F.FileOps.largest f) in
    let w = g.F.FileOps.world f in
    let met = g.met.F.FileOps in
    let k = c.in_ok-users.ensures.keeps in
    let j = met.keeps_joins _ _ _ k c.may_write_above.ensures.keeps in
    let mid = c.may_write_above.new.files in
    let b = state_of (g.F.FileOps.whole mid) (g.F.FileOps.largest mid) (g.F.FileOps.world mid) (g.F.FileOps.faults mid) (g.F.FileOps.honest mid) (g.F.FileOps.has_room mid) in
    let root : (length c.args.fid.now.place.trail == 0) ≡ false = rw (← c.as_slice.ensures) (sym c.is_empty.ensures ∙ c.if-is_empty.false) in
    let active = sym c.is_active.ensures ∙ c.if-not-is_active.false in
    let removes = λ (e : Files) (w : World). step.remove e.whole w c.args.fid.now.place c.args.fid.now.user c.args.now in
    let need = λ (e : Files) (w : World). remove_need c.args.fid.now in
    (leads_as _ _ _ (led removes) _ need _ _ _ _
    (λ h.
    let table : table_of e w ≡ c.in_ok-users.users.now = ok_same _ _ (c.in_ok-users.ensures.looks.answer h) in
    let above = ap (λ t. may_write_above_by t e w c.args.fid.now) table
    ∙ told_at _ _ (λ e w. may_write_above_by c.in_ok-users.users.now e w c.args.fid.now) _ _ _ _ (met.keeps_whole _ _ k) (met.keeps_largest _ _ k) (c.table_of.ensures.looks.world h) c.in_ok-may_write_above.ensures.looks (met.keeps_honest _ _ k h) in
    sym (removed_told e w c.args.fid.now c.args.now active root above))
    (λ h. refl) refl
    (leads_after _ b _ _ (λ w n. g.F.FileOps.touches mid w n c.remove.new.self) (led removes) need _ _ (follows _ _ (met.keeps_whole _ _ j) (met.keeps_largest _ _ j) (met.keeps_faults _ _ j) (met.keeps_honest _ _ j))
    (λ h. c.may_write_above.ensures.looks.world (met.keeps_honest _ _ k h) ∙ c.table_of.ensures.looks.world h) (λ n. met.keeps_room _ _ n j) (λ w n. met.keeps_then _ _ _ w n j)
    (leads_ok b _ _ removes need _ _ (λ h. c.in_ok-remove.ensures.answer h) (λ h. c.in_ok-remove.ensures.room) (λ h. c.in_ok-remove.ensures.touches) (_, c.in_ok-remove.ensures.touches))))

pub returns-clause-room : goal.returns-clause-room
returns-clause-room g c =
    let met = g.met.F.FileOps in
    let j = met.keeps_joins _ _ _ c.in_ok-users.ensures.keeps c.may_write_above.ensures.keeps in
    λ n has. c.in_ok-remove.ensures.room n (met.keeps_room _ _ n j has)
