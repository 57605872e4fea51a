use Rattle.std.proofs.Common.{◌≡◌, ℕ, List, length, ◌++◌, sym, ap, ◌∙◌, subst, refl}
use Rattle.std.proofs.lemmas.Result.{err_from_is_err_and}
use Rattle.nine_wire.specs.declared.message.Reply.TheVariants as reply
use Rattle.nine_wire.specs.Message.{ReplyFits}
use Rattle.nine_fids.specs.Told.{served, info_at, record_of}
use Rattle.nine_session.specs.Attempting.{state}
use Rattle.nine_session.proofs.Looked.{denied, fid_plain, granted, missed, version_plain}
use Rattle.nine_session.proofs.Records.{stat_sends}
use Rattle.nine_session.proofs.Restates.{stat_done, stat_no_fid, stat_no_info, stat_no_version, stat_too_long}
use Rattle.nine_session.proofs.session.Session.stat.Goals as goal

pub returns-in_err-msize-clause-looked : goal.returns-in_err-msize-clause-looked
returns-in_err-msize-clause-looked g c = λ x.
    let w = g.F.FileOps.world c.args.files.now in
    let z = state c.args.self.now x w in
    let p = err_from_is_err_and c.from_residual.result c.from_residual.ensures.1 in
    let none = sym (c.version.ensures x w) ∙ c.in_err-msize.was in
    rw (p.1, p.2) (denied _ _ _ _ c.in_err-msize.field-0.0 (λ h. refl) (λ h. stat_no_version _ z c.args.fid c.in_err-msize.field-0.0 none) (version_plain z c.in_err-msize.field-0.0 none))

pub returns-in_err-from-clause-looked : goal.returns-in_err-from-clause-looked
returns-in_err-from-clause-looked g c = λ x.
    let w = g.F.FileOps.world c.args.files.now in
    let z = state c.args.self.now x w in
    let p = err_from_is_err_and c.from_residual-in_err-from.result c.from_residual-in_err-from.ensures.1 in
    rw (p.1, p.2) (denied _ _ _ _ c.in_err-from.field-0.0 (λ h. refl) (λ h. stat_no_fid _ z c.args.fid c.in_ok-msize.msize c.in_err-from.field-0.0 (sym (c.version.ensures x w) ∙ c.in_ok-msize.was) (c.in_err-from.ensures x w))
    (fid_plain z c.args.fid c.in_err-from.field-0.0 (c.in_err-from.ensures x w)))

pub returns-in_err-info-clause-looked : goal.returns-in_err-info-clause-looked
returns-in_err-info-clause-looked g c = λ x.
    let w = g.F.FileOps.world c.args.files.now in
    let z = state c.args.self.now x w in
    let f = c.in_ok-from.from.now in
    let p = err_from_is_err_and c.from_residual-in_err-info.result c.from_residual-in_err-info.ensures.1 in
    rw (p.1, p.2) (missed _ _ _ (λ e w. info_at e w f.place) _ c.in_err-info.field-0.0 (λ h. stat_no_info _ z c.args.fid c.in_ok-msize.msize f c.in_err-info.field-0.0 (sym (c.version.ensures x w) ∙ c.in_ok-msize.was) (c.in_ok-from.ensures x w)) c.in_err-info.ensures.looks)

pub returns-then-len-msize-clause-looked : goal.returns-then-len-msize-clause-looked
returns-then-len-msize-clause-looked g c = λ x.
    let w = g.F.FileOps.world c.args.files.now in
    let z = state c.args.self.now x w in
    let put : c.put_record.new.out.items ≡ record_of c.in_ok-info.info = c.in_ok-put_record.ensures.put ∙ ap (λ (l : List ℕ). l ++ record_of c.in_ok-info.info) c.new-record.ensures.items in
    let len : c.len.result ≡ length (record_of c.in_ok-info.info) = c.len.ensures ∙ c.put_record.new.out.ok.0 ∙ ap length put in
    denied _ _ _ _ _ c.info_at.ensures.looks.world
    (λ h. stat_too_long _ z c.args.fid c.in_ok-msize.msize c.in_ok-from.from.now c.in_ok-info.info c.len.result (sym (c.version.ensures x w) ∙ c.in_ok-msize.was) (c.in_ok-from.ensures x w) (c.in_ok-info.ensures.looks.answer h) len c.if-len-msize.true) refl

pub returns-clause-looked : goal.returns-clause-looked
returns-clause-looked g c = λ x.
    let f = c.args.files.now in
    let e = served (g.F.FileOps.whole f) (g.F.FileOps.largest f) in
    let w = g.F.FileOps.world f in
    let z = state c.args.self.now x w in
    let put : c.put_record.new.out.items ≡ record_of c.in_ok-info.info = c.in_ok-put_record.ensures.put ∙ ap (λ (l : List ℕ). l ++ record_of c.in_ok-info.info) c.new-record.ensures.items in
    let len : c.len.result ≡ length (record_of c.in_ok-info.info) = c.len.ensures ∙ c.put_record.new.out.ok.0 ∙ ap length put in
    granted _ _ _ _ _ _ (λ h.
    stat_done e z c.args.fid c.in_ok-msize.msize c.in_ok-from.from.now c.in_ok-info.info c.len.result (sym (c.version.ensures x w) ∙ c.in_ok-msize.was) (c.in_ok-from.ensures x w) (c.in_ok-info.ensures.looks.answer h) len c.if-len-msize.false
    ∙ rw (c.new.ensures, put, c.info_at.ensures.looks.world h) refl)

pub returns-clause-sends : goal.returns-clause-sends
returns-clause-sends g c =
    let put : c.put_record.new.out.items ≡ record_of c.in_ok-info.info = c.in_ok-put_record.ensures.put ∙ ap (λ (l : List ℕ). l ++ record_of c.in_ok-info.info) c.new-record.ensures.items in
    let P : List ℕ → Type 0 = λ l. ReplyFits (reply.Stat l) in
    (subst P (sym (c.new.ensures ∙ put)) (stat_sends c.in_ok-info.info c.in_ok-info.ensures.fits c.in_ok-put_record.ensures.fits), tt)
