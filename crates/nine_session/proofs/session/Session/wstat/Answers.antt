use Rattle.std.proofs.Common.{◌≡◌, true, false, not, [], Ok, sym, ap, ◌∙◌, subst, refl, inl, inr, arith}
use Rattle.std.specs.Prelude.{◌||◌}
use Rattle.std.proofs.lemmas.Bool.{true≢false}
use Rattle.std.proofs.lemmas.Result.{err_from_is_err_and}
use Rattle.fo_world.specs.World.{World}
use Rattle.fo_world.specs.Step as step
use Rattle.nine_wire.specs.declared.message.Reply.TheVariants as reply
use Rattle.nine_fids.specs.Fids.{Fids, AreUsers, known, in_world}
use Rattle.nine_fids.specs.Told.{Files, served, info_at}
use Rattle.nine_fids.proofs.Seeing.{failed_after, follows}
use Rattle.nine_files.specs.Granting.{changed_by}
use Rattle.nine_files.specs.Stating.{change_of, changes_fixed, touches, touches_fixed}
use Rattle.nine_files.proofs.Making.{leads_after}
use Rattle.nine_session.specs.Attempting.{state}
use Rattle.nine_session.specs.Stating.{wstat}
use Rattle.nine_session.proofs.Attempted.{attempted_as, attempted_denied, attempted_looked, attempted_no_memory, attempted_still, led_granted, led_refused}
use Rattle.nine_session.proofs.Ends.{fid_plain, version_plain}
use Rattle.nine_session.proofs.Kept.{need_there, user_there}
use Rattle.nine_session.proofs.Restates.{asks_same, idle_need, wstat_changes, wstat_no_fid, wstat_no_info, wstat_no_version, wstat_settles}
use Rattle.nine_session.proofs.session.Session.wstat.Goals as goal

pub returns-in_err-version-clause-attempted : goal.returns-in_err-version-clause-attempted
returns-in_err-version-clause-attempted g c = λ x s rec.
    let w = g.F.FileOps.world c.args.files.now in
    let met = g.met.F.FileOps in
    let z = state c.args.self.now x w in
    let r = c.in_err-version.field-0.0 in
    let p = err_from_is_err_and c.from_residual.result c.from_residual.ensures.1 in
    let v = sym (c.version.ensures x w) ∙ c.in_err-version.was in
    rw (p.1, p.2) (attempted_denied _ _ _ _ _ _ _ _ _ r (λ h. wstat_no_version _ z c.args.now c.args.fid s r v) (λ h. refl) (version_plain z r v)
    refl refl (λ w n. met.touches_more _ _ w 0 n (omega arith) (met.keeps_touches _ _ w (met.keeps_at_once _))))

pub returns-in_err-from-clause-attempted : goal.returns-in_err-from-clause-attempted
returns-in_err-from-clause-attempted g c = λ x s rec.
    let w = g.F.FileOps.world c.args.files.now in
    let met = g.met.F.FileOps in
    let z = state c.args.self.now x w in
    let r = c.in_err-from.field-0.0 in
    let p = err_from_is_err_and c.from_residual-in_err-from.result c.from_residual-in_err-from.ensures.1 in
    let v = sym (c.version.ensures x w) ∙ c.in_ok-version.was in
    rw (p.1, p.2) (attempted_denied _ _ _ _ _ _ _ _ _ r (λ h. wstat_no_fid _ z c.args.now c.args.fid s c.in_ok-version.field-0 r v (c.in_err-from.ensures x w)) (λ h. refl) (fid_plain z c.args.fid r (c.in_err-from.ensures x w))
    refl refl (λ w n. met.touches_more _ _ w 0 n (omega arith) (met.keeps_touches _ _ w (met.keeps_at_once _))))

pub returns-in_err-info-clause-attempted : goal.returns-in_err-info-clause-attempted
returns-in_err-info-clause-attempted g c = λ x s rec.
    let w = g.F.FileOps.world c.args.files.now in
    let met = g.met.F.FileOps in
    let z = state c.args.self.now x w in
    let r = c.in_err-info.field-0.0 in
    let p = err_from_is_err_and c.from_residual-in_err-info.result c.from_residual-in_err-info.ensures.1 in
    let v = sym (c.version.ensures x w) ∙ c.in_ok-version.was in
    rw (p.1, p.2) (attempted_looked _ _ _ _ _ _ _ _ _ (λ e w. info_at e w c.in_ok-from.from.now.place) r
    (λ h. wstat_no_info _ z c.args.now c.args.fid s c.in_ok-version.field-0 c.in_ok-from.from.now r v (c.in_ok-from.ensures x w)) c.in_err-info.ensures.looks
    refl refl (λ w n. met.touches_more _ _ w 0 n (omega arith) (met.keeps_touches _ _ w c.info_at.ensures.keeps)))

pub returns-in_err-stat-clause-attempted : goal.returns-in_err-stat-clause-attempted
returns-in_err-stat-clause-attempted g c = λ x s rec.
    let met = g.met.F.FileOps in
    let p = err_from_is_err_and c.from_residual-in_err-stat.result c.from_residual-in_err-stat.ensures.1 in
    rw (p.1, p.2) (attempted_no_memory _ _ _ _ _ _ _ _ _ c.in_err-stat.field-0.0 (c.in_err-stat.ensures.only s rec) c.info_at.ensures.looks.world
    refl refl (λ w n. met.touches_more _ _ w 0 n (omega arith) (met.keeps_touches _ _ w c.info_at.ensures.keeps)))

pub returns-in_err-settle-clause-attempted : goal.returns-in_err-settle-clause-attempted
returns-in_err-settle-clause-attempted g c = λ x s rec.
    let met = g.met.F.FileOps in
    let k = c.info_at.ensures.keeps in
    let j = met.keeps_joins _ _ _ k c.settle.ensures.keeps in
    let r = c.in_err-settle.field-0.0 in
    let p = err_from_is_err_and c.from_residual-in_err-settle.result c.from_residual-in_err-settle.ensures.1 in
    rw (p.1, p.2) (attempted_looked _ _ _ _ _ _ _ _ _ (λ e w. wstat e (state c.args.self.now x w) c.args.now c.args.fid s) r (λ h t. t)
    (failed_after _ _ _ (λ e w. tt) _ r (follows _ _ (met.keeps_whole _ _ k) (met.keeps_largest _ _ k) (met.keeps_faults _ _ k) (met.keeps_honest _ _ k)) c.info_at.ensures.looks.world c.in_err-settle.ensures.looks)
    refl refl (λ w n. met.touches_more _ _ w 0 n (omega arith) (met.keeps_touches _ _ w j)))

pub returns-then-is_idle-clause-attempted : goal.returns-then-is_idle-clause-attempted
returns-then-is_idle-clause-attempted g c = λ x s rec.
    let f = c.args.files.now in
    let e = served (g.F.FileOps.whole f) (g.F.FileOps.largest f) in
    let w = g.F.FileOps.world f in
    let z = state c.args.self.now x w in
    let met = g.met.F.FileOps in
    let k = c.info_at.ensures.keeps in
    let j = met.keeps_joins _ _ _ k c.settle.ensures.keeps in
    let from = c.in_ok-from.from.now in
    let same : c.in_ok-stat.stat ≡ s = c.in_ok-stat.ensures.only s rec in
    let fixed : c.touches_fixed-fixed.result ≡ touches_fixed s = c.touches_fixed-fixed.ensures ∙ ap touches_fixed same in
    let what : c.change_of-what.result ≡ change_of s = c.change_of-what.ensures ∙ ap change_of same in
    let idle : (touches_fixed s || touches (change_of s)) ≡ false = asks_same c.touches_fixed-fixed.result (touches_fixed s) c.change_of-what.result (change_of s) false fixed what (c.is_idle.ensures ∙ ap not c.if-is_idle.true) in
    attempted_still _ _ _ _ _ _ _ _ _ _
    (λ h. wstat_settles e z c.args.now c.args.fid s c.in_ok-version.field-0 from c.in_ok-info.info (sym (c.version.ensures x w) ∙ c.in_ok-version.was) (c.in_ok-from.ensures x w) (c.in_ok-info.ensures.looks.answer h) idle
    ∙ ap (λ v. Ok (reply.Wstat, state c.args.self.now x v)) (sym (c.settle.ensures.looks.world (met.keeps_honest _ _ k h) ∙ c.info_at.ensures.looks.world h)))
    (λ h. need_there (known c.args.fid c.args.self.now.fids) from (λ f. step.change_need e.whole w f.place (change_of s)) (c.in_ok-from.ensures x w) ∙ idle_need e.whole w from.place (touches_fixed s) (change_of s) idle)
    (λ w n. met.touches_more _ _ w 0 n (omega arith) (met.keeps_touches _ _ w j))

pub restate-requires-clause-user : goal.restate-requires-clause-user
restate-requires-clause-user g c =
    let w = g.F.FileOps.world c.args.files.now in
    let P : Fids → Type 0 = λ s. AreUsers s.fids in
    user_there (state c.args.self.now [] w) c.args.fid c.in_ok-from.from.now (subst P c.self.view_is c.self.invariant) (c.in_ok-from.ensures [] w)

pub restate-requires-clause-info : goal.restate-requires-clause-info
restate-requires-clause-info g c = λ told.
    let met = g.met.F.FileOps in
    let k = c.info_at.ensures.keeps in
    let h = met.keeps_silent _ _ k told in
    rw (met.keeps_whole _ _ k, met.keeps_largest _ _ k, c.info_at.ensures.looks.world h) (c.in_ok-info.ensures.looks.answer h)

pub returns-in_err-restate-clause-attempted : goal.returns-in_err-restate-clause-attempted
returns-in_err-restate-clause-attempted g c = λ x s rec.
    let f = c.args.files.now in
    let e = served (g.F.FileOps.whole f) (g.F.FileOps.largest f) in
    let w = g.F.FileOps.world f in
    let z = state c.args.self.now x w in
    let met = g.met.F.FileOps in
    let k = c.info_at.ensures.keeps in
    let from = c.in_ok-from.from.now in
    let info = c.in_ok-info.info in
    let same : c.in_ok-stat.stat ≡ s = c.in_ok-stat.ensures.only s rec in
    let fixed : c.touches_fixed-fixed.result ≡ touches_fixed s = c.touches_fixed-fixed.ensures ∙ ap touches_fixed same in
    let what : c.change_of-what.result ≡ change_of s = c.change_of-what.ensures ∙ ap change_of same in
    let bad : c.changes_fixed-is_bad.result ≡ changes_fixed s info = c.changes_fixed-is_bad.ensures ∙ ap (λ t. changes_fixed t info) same in
    let busy : (touches_fixed s || touches (change_of s)) ≡ true = asks_same c.touches_fixed-fixed.result (touches_fixed s) c.change_of-what.result (change_of s) true fixed what (c.is_idle.ensures ∙ ap not c.if-is_idle.false) in
    let there = c.in_ok-from.ensures x w in
    let fids = known c.args.fid c.args.self.now.fids in
    let leads = rw (bad, what) at c.in_err-restate.ensures in
    let part = λ (e : Files) (w : World). changed_by e w c.args.now from (changes_fixed s info) (change_of s) info in
    let need = λ (e : Files) (w : World). step.change_need e.whole w from.place (change_of s) in
    let p = err_from_is_err_and c.from_residual-in_err-restate.result c.from_residual-in_err-restate.ensures.1 in
    rw (p.1, p.2) (attempted_as _ _ _ _ _ (λ e z. wstat e z c.args.now c.args.fid s) _ (λ e z. need e z.world) _ (step.most_need from.place) _ (λ z. z) _ _ (λ h. refl)
    (λ h. sym (need_there fids from (λ f. step.change_need e.whole w f.place (change_of s)) there)) (sym (need_there fids from (λ f. step.most_need f.place) there)) refl
    (led_refused _ _ _ _ _ _ _ _ _ part need (λ v. (reply.Wstat, in_world z v))
    (λ h. wstat_changes e z c.args.now c.args.fid s c.in_ok-version.field-0 from info (sym (c.version.ensures x w) ∙ c.in_ok-version.was) there (c.in_ok-info.ensures.looks.answer h) busy) (λ v. refl) (λ h. refl) c.in_err-restate.field-0.0
    (leads_after _ _ _ _ _ part need _ _ (follows _ _ (met.keeps_whole _ _ k) (met.keeps_largest _ _ k) (met.keeps_faults _ _ k) (met.keeps_honest _ _ k)) c.info_at.ensures.looks.world (λ n. met.keeps_room _ _ n k) (λ w n. met.keeps_then _ _ _ w n k) leads)
    refl refl))

pub returns-clause-attempted : goal.returns-clause-attempted
returns-clause-attempted g c = λ x s rec.
    let f = c.args.files.now in
    let e = served (g.F.FileOps.whole f) (g.F.FileOps.largest f) in
    let w = g.F.FileOps.world f in
    let z = state c.args.self.now x w in
    let met = g.met.F.FileOps in
    let k = c.info_at.ensures.keeps in
    let from = c.in_ok-from.from.now in
    let info = c.in_ok-info.info in
    let same : c.in_ok-stat.stat ≡ s = c.in_ok-stat.ensures.only s rec in
    let fixed : c.touches_fixed-fixed.result ≡ touches_fixed s = c.touches_fixed-fixed.ensures ∙ ap touches_fixed same in
    let what : c.change_of-what.result ≡ change_of s = c.change_of-what.ensures ∙ ap change_of same in
    let bad : c.changes_fixed-is_bad.result ≡ changes_fixed s info = c.changes_fixed-is_bad.ensures ∙ ap (λ t. changes_fixed t info) same in
    let busy : (touches_fixed s || touches (change_of s)) ≡ true = asks_same c.touches_fixed-fixed.result (touches_fixed s) c.change_of-what.result (change_of s) true fixed what (c.is_idle.ensures ∙ ap not c.if-is_idle.false) in
    let there = c.in_ok-from.ensures x w in
    let fids = known c.args.fid c.args.self.now.fids in
    let leads = rw (bad, what) at c.in_ok-restate.ensures in
    let part = λ (e : Files) (w : World). changed_by e w c.args.now from (changes_fixed s info) (change_of s) info in
    let need = λ (e : Files) (w : World). step.change_need e.whole w from.place (change_of s) in
    (attempted_as _ _ _ _ _ (λ e z. wstat e z c.args.now c.args.fid s) _ (λ e z. need e z.world) _ (step.most_need from.place) _ (λ z. z) _ _ (λ h. refl)
    (λ h. sym (need_there fids from (λ f. step.change_need e.whole w f.place (change_of s)) there)) (sym (need_there fids from (λ f. step.most_need f.place) there)) refl
    (led_granted _ _ _ _ _ _ _ _ _ part need (λ v. (reply.Wstat, in_world z v))
    (λ h. wstat_changes e z c.args.now c.args.fid s c.in_ok-version.field-0 from info (sym (c.version.ensures x w) ∙ c.in_ok-version.was) there (c.in_ok-info.ensures.looks.answer h) busy) (λ v. refl) (λ h. refl) reply.Wstat
    (leads_after _ _ _ _ _ part need _ _ (follows _ _ (met.keeps_whole _ _ k) (met.keeps_largest _ _ k) (met.keeps_faults _ _ k) (met.keeps_honest _ _ k)) c.info_at.ensures.looks.world (λ n. met.keeps_room _ _ n k) (λ w n. met.keeps_then _ _ _ w n k) leads)
    (λ h. refl)))

pub returns-clause-settled : goal.returns-clause-settled
returns-clause-settled g c = λ s rec idle.
    let same : c.in_ok-stat.stat ≡ s = c.in_ok-stat.ensures.only s rec in
    let fixed : c.touches_fixed-fixed.result ≡ touches_fixed s = c.touches_fixed-fixed.ensures ∙ ap touches_fixed same in
    let what : c.change_of-what.result ≡ change_of s = c.change_of-what.ensures ∙ ap change_of same in
    let busy : (touches_fixed s || touches (change_of s)) ≡ true = asks_same c.touches_fixed-fixed.result (touches_fixed s) c.change_of-what.result (change_of s) true fixed what (c.is_idle.ensures ∙ ap not c.if-is_idle.false) in
    absurd (true≢false (sym (rw busy at idle)))

pub returns-in_err-version-clause-settles : goal.returns-in_err-version-clause-settles
returns-in_err-version-clause-settles g c = λ s rec idle. inl (g.met.F.FileOps.looks_at_once c.args.files.now)

pub returns-in_err-from-clause-settles : goal.returns-in_err-from-clause-settles
returns-in_err-from-clause-settles g c = λ s rec idle. inl (g.met.F.FileOps.looks_at_once c.args.files.now)

pub returns-in_err-info-clause-settles : goal.returns-in_err-info-clause-settles
returns-in_err-info-clause-settles g c = λ s rec idle. inl c.info_at.ensures.only

pub returns-in_err-stat-clause-settles : goal.returns-in_err-stat-clause-settles
returns-in_err-stat-clause-settles g c = λ s rec idle. inl c.info_at.ensures.only

pub returns-in_err-settle-clause-settles : goal.returns-in_err-settle-clause-settles
returns-in_err-settle-clause-settles g c = λ s rec idle. inr (c.info_at.new.files, c.info_at.ensures.only, c.settle.ensures.settles)

pub returns-then-is_idle-clause-settles : goal.returns-then-is_idle-clause-settles
returns-then-is_idle-clause-settles g c = λ s rec idle. inr (c.info_at.new.files, c.info_at.ensures.only, c.settle.ensures.settles)

pub returns-in_err-restate-clause-settles : goal.returns-in_err-restate-clause-settles
returns-in_err-restate-clause-settles g c = λ s rec idle.
    let same : c.in_ok-stat.stat ≡ s = c.in_ok-stat.ensures.only s rec in
    let fixed : c.touches_fixed-fixed.result ≡ touches_fixed s = c.touches_fixed-fixed.ensures ∙ ap touches_fixed same in
    let what : c.change_of-what.result ≡ change_of s = c.change_of-what.ensures ∙ ap change_of same in
    let busy : (touches_fixed s || touches (change_of s)) ≡ true = asks_same c.touches_fixed-fixed.result (touches_fixed s) c.change_of-what.result (change_of s) true fixed what (c.is_idle.ensures ∙ ap not c.if-is_idle.false) in
    absurd (true≢false (sym (rw busy at idle)))

pub returns-clause-settles : goal.returns-clause-settles
returns-clause-settles g c = λ s rec idle.
    let same : c.in_ok-stat.stat ≡ s = c.in_ok-stat.ensures.only s rec in
    let fixed : c.touches_fixed-fixed.result ≡ touches_fixed s = c.touches_fixed-fixed.ensures ∙ ap touches_fixed same in
    let what : c.change_of-what.result ≡ change_of s = c.change_of-what.ensures ∙ ap change_of same in
    let busy : (touches_fixed s || touches (change_of s)) ≡ true = asks_same c.touches_fixed-fixed.result (touches_fixed s) c.change_of-what.result (change_of s) true fixed what (c.is_idle.ensures ∙ ap not c.if-is_idle.false) in
    absurd (true≢false (sym (rw busy at idle)))
