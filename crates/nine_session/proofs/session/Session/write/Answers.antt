use Rattle.std.proofs.Common.{◌≡◌, ◌==◌, ℕ, List, [], length, true, false, refl, sym, ap, ◌∙◌, arith}
use Rattle.std.proofs.lemmas.Result.{err_from_is_err_and}
use Rattle.fo_world.specs.Step as step
use Rattle.fo_world.specs.World.{World}
use Rattle.nine_fids.specs.Fids.{known, in_world}
use Rattle.nine_fids.specs.Modes.{writes}
use Rattle.nine_fids.specs.Refusing.{changed}
use Rattle.nine_fids.specs.Told.{Files, served, info_at}
use Rattle.nine_fids.proofs.Seeing.{follows}
use Rattle.nine_wire.specs.declared.message.Reply.TheVariants as reply
use Rattle.nine_files.specs.Parts.{write_start}
use Rattle.nine_session.specs.Attempting.{state}
use Rattle.nine_session.specs.Reading.{write}
use Rattle.nine_session.proofs.Attempted.{attempted_as, attempted_denied, attempted_looked, attempted_still, changed_done, changed_refused, changes_after}
use Rattle.nine_session.proofs.Ends.{version_plain, fid_plain}
use Rattle.nine_session.proofs.Kept.{need_there, told_same, user_there, users_seen}
use Rattle.nine_session.proofs.Transfers.{no_bytes, no_fid, none_needed, opened_plain, not_opened, opened_there, no_version, write_begins, write_missed, write_there, writes_none, writes_not, writes_some, writes_to}
use Rattle.nine_session.proofs.session.Session.write.Goals as goal

pub returns-in_err-version-clause-attempted : goal.returns-in_err-version-clause-attempted
returns-in_err-version-clause-attempted g c =
    let met = g.met.F.FileOps in
    let files = c.args.files.now in
    let w = g.F.FileOps.world files in
    let e = served (g.F.FileOps.whole files) (g.F.FileOps.largest files) in
    let bytes = c.args.bytes.now in
    let r = c.in_err-version.field-0.0 in
    let p = err_from_is_err_and c.from_residual.result c.from_residual.ensures.1 in
    rw (p.1, p.2) (λ x.
    let z = state c.args.self.now x w in
    let v = sym (c.in_err-version.ensures x w) in
    attempted_denied _ _ _ _ _ _ _ _ _ r (λ h. write_begins e z c.args.now c.args.fid c.args.offset bytes ∙ no_version z c.args.fid (writes_to e z c.args.now c.args.offset bytes) r v) (λ h. refl) (version_plain z r v)
    refl refl (λ w n. met.touches_more _ _ w 0 n (omega arith) (met.keeps_touches _ _ w (met.keeps_at_once _))))

pub returns-in_err-from-clause-attempted : goal.returns-in_err-from-clause-attempted
returns-in_err-from-clause-attempted g c =
    let met = g.met.F.FileOps in
    let files = c.args.files.now in
    let w = g.F.FileOps.world files in
    let e = served (g.F.FileOps.whole files) (g.F.FileOps.largest files) in
    let bytes = c.args.bytes.now in
    let r = c.in_err-from.field-0.0 in
    let p = err_from_is_err_and c.from_residual-in_err-from.result c.from_residual-in_err-from.ensures.1 in
    rw (p.1, p.2) (λ x.
    let z = state c.args.self.now x w in
    attempted_denied _ _ _ _ _ _ _ _ _ r (λ h. write_begins e z c.args.now c.args.fid c.args.offset bytes ∙ no_fid z c.args.fid (writes_to e z c.args.now c.args.offset bytes) c.in_ok-version.field-0 r (sym (c.in_ok-version.ensures x w)) (c.in_err-from.ensures x w)) (λ h. refl) (fid_plain z c.args.fid r (c.in_err-from.ensures x w))
    refl refl (λ w n. met.touches_more _ _ w 0 n (omega arith) (met.keeps_touches _ _ w (met.keeps_at_once _))))

pub returns-in_err-opened-clause-attempted : goal.returns-in_err-opened-clause-attempted
returns-in_err-opened-clause-attempted g c =
    let met = g.met.F.FileOps in
    let files = c.args.files.now in
    let w = g.F.FileOps.world files in
    let e = served (g.F.FileOps.whole files) (g.F.FileOps.largest files) in
    let bytes = c.args.bytes.now in
    let r = c.in_err-opened.field-0.0 in
    let p = err_from_is_err_and c.from_residual-in_err-opened.result c.from_residual-in_err-opened.ensures.1 in
    rw (p.1, p.2) (λ x.
    let z = state c.args.self.now x w in
    attempted_denied _ _ _ _ _ _ _ _ _ r (λ h. write_begins e z c.args.now c.args.fid c.args.offset bytes ∙ not_opened z c.args.fid (writes_to e z c.args.now c.args.offset bytes) c.in_ok-version.field-0 c.in_ok-from.from.now r (sym (c.in_ok-version.ensures x w)) (c.in_ok-from.ensures x w) c.in_err-opened.ensures) (λ h. refl) (opened_plain c.in_ok-from.from.now r c.in_err-opened.ensures)
    refl refl (λ w n. met.touches_more _ _ w 0 n (omega arith) (met.keeps_touches _ _ w (met.keeps_at_once _))))

pub returns-then-not-writes-clause-attempted : goal.returns-then-not-writes-clause-attempted
returns-then-not-writes-clause-attempted g c =
    let met = g.met.F.FileOps in
    let files = c.args.files.now in
    let w = g.F.FileOps.world files in
    let e = served (g.F.FileOps.whole files) (g.F.FileOps.largest files) in
    let bytes = c.args.bytes.now in
    let f = c.in_ok-from.from.now in
    let o = c.in_ok-opened.opened.now in
    λ x.
    let z = state c.args.self.now x w in
    attempted_denied _ _ _ _ _ _ _ _ _ _
    (λ h. write_begins e z c.args.now c.args.fid c.args.offset bytes
    ∙ opened_there z c.args.fid (writes_to e z c.args.now c.args.offset bytes) c.in_ok-version.field-0 f o (sym (c.in_ok-version.ensures x w)) (c.in_ok-from.ensures x w) c.in_ok-opened.ensures
    ∙ writes_not e z c.args.now c.args.offset c.in_ok-version.field-0 bytes f o (sym c.writes.ensures ∙ c.if-not-writes.true)) (λ h. refl) refl
    refl refl (λ w n. met.touches_more _ _ w 0 n (omega arith) (met.keeps_touches _ _ w (met.keeps_at_once _)))

pub returns-in_err-info-clause-attempted : goal.returns-in_err-info-clause-attempted
returns-in_err-info-clause-attempted g c =
    let met = g.met.F.FileOps in
    let files = c.args.files.now in
    let w = g.F.FileOps.world files in
    let e = served (g.F.FileOps.whole files) (g.F.FileOps.largest files) in
    let bytes = c.args.bytes.now in
    let f = c.in_ok-from.from.now in
    let o = c.in_ok-opened.opened.now in
    let r = c.in_err-info.field-0.0 in
    let may : writes o.access ≡ true = sym c.writes.ensures ∙ c.if-not-writes.false in
    let p = err_from_is_err_and c.from_residual-in_err-info.result c.from_residual-in_err-info.ensures.1 in
    rw (p.1, p.2) (λ x.
    let z = state c.args.self.now x w in
    attempted_looked _ _ _ _ _ _ _ _ _ (λ e w. info_at e w f.place) r
    (λ h. write_missed e z c.args.now c.args.fid c.args.offset c.in_ok-version.field-0 bytes f o r (sym (c.in_ok-version.ensures x w)) (c.in_ok-from.ensures x w) c.in_ok-opened.ensures may) c.in_err-info.ensures.looks
    refl refl (λ w n. met.touches_more _ _ w 0 n (omega arith) (met.keeps_touches _ _ w c.info_at.ensures.keeps)))

pub returns-then-is_empty-clause-attempted : goal.returns-then-is_empty-clause-attempted
returns-then-is_empty-clause-attempted g c =
    let met = g.met.F.FileOps in
    let files = c.args.files.now in
    let w = g.F.FileOps.world files in
    let e = served (g.F.FileOps.whole files) (g.F.FileOps.largest files) in
    let bytes = c.args.bytes.now in
    let f = c.in_ok-from.from.now in
    let o = c.in_ok-opened.opened.now in
    let i = c.in_ok-info.info in
    let may : writes o.access ≡ true = sym c.writes.ensures ∙ c.if-not-writes.false in
    let none : (length bytes == 0) ≡ true = ap (λ (bs : List ℕ). length bs == 0) (sym c.as_slice-bytes.ensures) ∙ sym c.is_empty.ensures ∙ c.if-is_empty.true in
    λ x.
    let z = state c.args.self.now x w in
    attempted_still _ _ _ _ _ _ _ _ _ _
    (λ h. write_there e z c.args.now c.args.fid c.args.offset c.in_ok-version.field-0 bytes f o i (sym (c.in_ok-version.ensures x w)) (c.in_ok-from.ensures x w) c.in_ok-opened.ensures may (c.in_ok-info.ensures.looks.answer h)
    ∙ writes_none e z c.args.now c.args.offset bytes f i none
    ∙ told_same (reply.Write 0) z _ (ap (state c.args.self.now x) (c.info_at.ensures.looks.world h)))
    (λ h. need_there (known c.args.fid c.args.self.now.fids) f (λ f. step.write_need f.place bytes) (c.in_ok-from.ensures x w) ∙ none_needed f.place bytes none)
    (λ w n. met.touches_more _ _ w 0 n (omega arith) (met.keeps_touches _ _ w c.info_at.ensures.keeps))

pub write_bytes-requires-clause-user : goal.write_bytes-requires-clause-user
write_bytes-requires-clause-user g c =
    let w = g.F.FileOps.world c.args.files.now in
    user_there (state c.args.self.now [] w) c.args.fid c.in_ok-from.from.now (users_seen _ _ c.self.view_is c.self.invariant) (c.in_ok-from.ensures [] w)

pub returns-in_err-write_bytes-clause-attempted : goal.returns-in_err-write_bytes-clause-attempted
returns-in_err-write_bytes-clause-attempted g c =
    let met = g.met.F.FileOps in
    let files = c.args.files.now in
    let w = g.F.FileOps.world files in
    let e = served (g.F.FileOps.whole files) (g.F.FileOps.largest files) in
    let bytes = c.args.bytes.now in
    let k = c.info_at.ensures.keeps in
    let f = c.in_ok-from.from.now in
    let o = c.in_ok-opened.opened.now in
    let i = c.in_ok-info.info in
    let may : writes o.access ≡ true = sym c.writes.ensures ∙ c.if-not-writes.false in
    let r = c.in_err-write_bytes.field-0.0 in
    let some : (length bytes == 0) ≡ false = ap (λ (bs : List ℕ). length bs == 0) (sym c.as_slice-bytes.ensures) ∙ sym c.is_empty.ensures ∙ c.if-is_empty.false in
    let changes = rw c.as_slice-bytes.ensures at c.in_err-write_bytes.ensures.changes in
    let part = λ (e : Files) (w : World). changed (step.write e.whole e.largest w f.place (write_start i c.args.offset) bytes f.user c.args.now) in
    let need = λ (e : Files) (w : World). step.write_need f.place bytes in
    let p = err_from_is_err_and c.from_residual-in_err-write_bytes.result c.from_residual-in_err-write_bytes.ensures.1 in
    rw (p.1, p.2) (λ x.
    let z = state c.args.self.now x w in
    let enough = need_there (known c.args.fid c.args.self.now.fids) f (λ f. step.write_need f.place bytes) (c.in_ok-from.ensures x w) in
    attempted_as _ _ _ _ _ (λ e z. write e z c.args.now c.args.fid c.args.offset bytes) _ (λ e z. step.write_need f.place bytes) _ (step.write_need f.place bytes) _ (λ z. z) _ _ (λ h. refl) (λ h. sym enough) (sym enough) refl
    (changed_refused _ _ _ _ _ _ _ _ _ part need (λ p. (reply.Write (length bytes), in_world z p.1))
    (λ h. write_there e z c.args.now c.args.fid c.args.offset c.in_ok-version.field-0 bytes f o i (sym (c.in_ok-version.ensures x w)) (c.in_ok-from.ensures x w) c.in_ok-opened.ensures may (c.in_ok-info.ensures.looks.answer h)
    ∙ writes_some e z c.args.now c.args.offset bytes f i some) (λ p. refl) (λ h. refl) r
    (changes_after _ _ _ _ _ part need _ _ (follows _ _ (met.keeps_whole _ _ k) (met.keeps_largest _ _ k) (met.keeps_faults _ _ k) (met.keeps_honest _ _ k)) c.info_at.ensures.looks.world (λ n. met.keeps_room _ _ n k) (λ w n. met.keeps_then _ _ _ w n k) changes)
    refl refl))

pub returns-clause-attempted : goal.returns-clause-attempted
returns-clause-attempted g c =
    let met = g.met.F.FileOps in
    let files = c.args.files.now in
    let w = g.F.FileOps.world files in
    let then = g.F.FileOps.world c.write_bytes.new.files in
    let e = served (g.F.FileOps.whole files) (g.F.FileOps.largest files) in
    let bytes = c.args.bytes.now in
    let k = c.info_at.ensures.keeps in
    let f = c.in_ok-from.from.now in
    let o = c.in_ok-opened.opened.now in
    let i = c.in_ok-info.info in
    let may : writes o.access ≡ true = sym c.writes.ensures ∙ c.if-not-writes.false in
    let some : (length bytes == 0) ≡ false = ap (λ (bs : List ℕ). length bs == 0) (sym c.as_slice-bytes.ensures) ∙ sym c.is_empty.ensures ∙ c.if-is_empty.false in
    let changes = rw c.as_slice-bytes.ensures at c.in_ok-write_bytes.ensures.changes in
    let part = λ (e : Files) (w : World). changed (step.write e.whole e.largest w f.place (write_start i c.args.offset) bytes f.user c.args.now) in
    let need = λ (e : Files) (w : World). step.write_need f.place bytes in
    λ x.
    let z = state c.args.self.now x w in
    let enough = need_there (known c.args.fid c.args.self.now.fids) f (λ f. step.write_need f.place bytes) (c.in_ok-from.ensures x w) in
    attempted_as _ _ _ _ _ (λ e z. write e z c.args.now c.args.fid c.args.offset bytes) _ (λ e z. step.write_need f.place bytes) _ (step.write_need f.place bytes) _ (λ z. z) _ _ (λ h. refl) (λ h. sym enough) (sym enough) refl
    (changed_done _ _ _ _ _ _ _ _ _ part need (λ p. (reply.Write (length bytes), in_world z p.1))
    (λ h. write_there e z c.args.now c.args.fid c.args.offset c.in_ok-version.field-0 bytes f o i (sym (c.in_ok-version.ensures x w)) (c.in_ok-from.ensures x w) c.in_ok-opened.ensures may (c.in_ok-info.ensures.looks.answer h)
    ∙ writes_some e z c.args.now c.args.offset bytes f i some) (λ p. refl) (λ h. refl) _ tt
    (changes_after _ _ _ _ _ part need _ _ (follows _ _ (met.keeps_whole _ _ k) (met.keeps_largest _ _ k) (met.keeps_faults _ _ k) (met.keeps_honest _ _ k)) c.info_at.ensures.looks.world (λ n. met.keeps_room _ _ n k) (λ w n. met.keeps_then _ _ _ w n k) changes)
    (λ h. ap (λ (bs : List ℕ). (reply.Write (length bs), state c.args.self.now x then)) (sym c.as_slice-bytes.ensures)))

pub returns-then-is_empty-clause-part : goal.returns-then-is_empty-clause-part
returns-then-is_empty-clause-part g c =
    let none : (length c.args.bytes.now == 0) ≡ true = ap (λ (bs : List ℕ). length bs == 0) (sym c.as_slice-bytes.ensures) ∙ sym c.is_empty.ensures ∙ c.if-is_empty.true in
    ap reply.Write (no_bytes c.args.bytes.now none)

pub returns-then-is_empty-clause-room : goal.returns-then-is_empty-clause-room
returns-then-is_empty-clause-room g c =
    let bytes = c.args.bytes.now in
    let f = c.in_ok-from.from.now in
    let none : (length bytes == 0) ≡ true = ap (λ (bs : List ℕ). length bs == 0) (sym c.as_slice-bytes.ensures) ∙ sym c.is_empty.ensures ∙ c.if-is_empty.true in
    let enough = need_there (known c.args.fid c.args.self.now.fids) f (λ f. step.write_need f.place bytes) (c.in_ok-from.ensures [] (g.F.FileOps.world c.args.files.now)) ∙ none_needed f.place bytes none in
    λ n has. rw enough (omega arith)

pub returns-clause-room : goal.returns-clause-room
returns-clause-room g c =
    let bytes = c.args.bytes.now in
    let f = c.in_ok-from.from.now in
    let enough = need_there (known c.args.fid c.args.self.now.fids) f (λ f. step.write_need f.place bytes) (c.in_ok-from.ensures [] (g.F.FileOps.world c.args.files.now)) in
    let room = rw c.as_slice-bytes.ensures at c.in_ok-write_bytes.ensures.room in
    λ n has. rw enough (room n (g.met.F.FileOps.keeps_room _ _ n c.info_at.ensures.keeps has))
