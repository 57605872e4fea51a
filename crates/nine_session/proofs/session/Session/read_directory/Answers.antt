use Rattle.std.proofs.Common.{◌≡◌, ◌+◌, ◌%◌, ◌^◌, [], length, refl, sym, ◌∙◌, arith}
use Rattle.std.proofs.lemmas.Result.{err_from_is_err_and}
use Rattle.nine_fids.specs.Told.{served}
use Rattle.nine_files.specs.Parts.{Gives, listed}
use Rattle.nine_files.specs.Reading.{read_to, start_of}
use Rattle.nine_session.specs.Attempting.{state}
use Rattle.nine_session.proofs.Kept.{put_state, replied_same, user_there, users_seen, users_with}
use Rattle.nine_session.proofs.Listing.{directory_bad, directory_given, directory_no_fid, directory_not_open, directory_refused}
use Rattle.nine_session.proofs.Looked.{denied, fid_plain, granted, opened_plain, refused}
use Rattle.nine_session.proofs.session.Session.read_directory.Goals as goal

pub returns-in_err-from-clause-looked : goal.returns-in_err-from-clause-looked
returns-in_err-from-clause-looked g c = λ x.
    let w = g.F.FileOps.world c.args.files.now in
    let z = state c.args.self.now x w in
    let p = err_from_is_err_and c.from_residual.result c.from_residual.ensures.1 in
    rw (p.1, p.2) (denied _ _ _ _ c.in_err-from.field-0.0 (λ h. refl) (λ h. directory_no_fid _ z c.args.fid c.args.offset c.args.count c.in_err-from.field-0.0 (c.in_err-from.ensures x w))
    (fid_plain z c.args.fid c.in_err-from.field-0.0 (c.in_err-from.ensures x w)))

pub returns-in_err-opened-clause-looked : goal.returns-in_err-opened-clause-looked
returns-in_err-opened-clause-looked g c = λ x.
    let w = g.F.FileOps.world c.args.files.now in
    let z = state c.args.self.now x w in
    let p = err_from_is_err_and c.from_residual-in_err-opened.result c.from_residual-in_err-opened.ensures.1 in
    rw (p.1, p.2) (denied _ _ _ _ c.in_err-opened.field-0.0 (λ h. refl) (λ h. directory_not_open _ z c.args.fid c.args.offset c.args.count c.in_ok-from.from.now c.in_err-opened.field-0.0 (c.in_ok-from.ensures x w) c.in_err-opened.ensures)
    (opened_plain c.in_ok-from.from.now c.in_err-opened.field-0.0 c.in_err-opened.ensures))

pub returns-then-is_bad_offset-clause-looked : goal.returns-then-is_bad_offset-clause-looked
returns-then-is_bad_offset-clause-looked g c = λ x.
    let w = g.F.FileOps.world c.args.files.now in
    let z = state c.args.self.now x w in
    denied _ _ _ _ _ (λ h. refl) (λ h. directory_bad _ z c.args.fid c.args.offset c.args.count c.in_ok-from.from.now c.in_ok-opened.opened.now (c.in_ok-from.ensures x w) c.in_ok-opened.ensures (sym c.is_bad_offset.ensures ∙ c.if-is_bad_offset.true)) refl

pub returns-in_err-given-clause-looked : goal.returns-in_err-given-clause-looked
returns-in_err-given-clause-looked g c = λ x.
    let files = c.args.files.now in
    let w = g.F.FileOps.world files in
    let e = served (g.F.FileOps.whole files) (g.F.FileOps.largest files) in
    let z = state c.args.self.now x w in
    let p = err_from_is_err_and c.from_residual-in_err-given.result c.from_residual-in_err-given.ensures.1 in
    let good = sym c.is_bad_offset.ensures ∙ c.if-is_bad_offset.false in
    rw (p.1, p.2) (refused _ _ _ _ c.in_err-given.field-0.0
    (λ h. directory_refused e z c.args.fid c.args.offset c.args.count c.in_ok-from.from.now c.in_ok-opened.opened.now _ c.in_err-given.field-0.0 (c.in_ok-from.ensures x w) c.in_ok-opened.ensures good (rw (← c.in_ok-start.ensures) (c.in_err-given.ensures.lists h)))
    c.list_records.ensures.world c.in_err-given.ensures.cause)

pub invariant_of-self : goal.invariant_of-self
invariant_of-self g c =
    let w = g.F.FileOps.world c.args.files.now in
    let user = user_there (state c.args.self.now [] w) c.args.fid c.in_ok-from.from.now (users_seen _ _ c.self.view_is c.self.invariant) (c.in_ok-from.ensures [] w) in
    rw c.put_fid.ensures (users_with _ _ (rw c.in_ok-moved.ensures user) c.self.invariant)

pub returns-clause-looked : goal.returns-clause-looked
returns-clause-looked g c =
    let files = c.args.files.now in
    let w = g.F.FileOps.world files in
    let honest = g.F.FileOps.honest files in
    let e = served (g.F.FileOps.whole files) (g.F.FileOps.largest files) in
    let f = c.in_ok-from.from.now in
    let o = c.in_ok-opened.opened.now in
    let bytes = c.in_ok-given.given.bytes.items in
    let last = c.in_ok-given.given.last in
    let len : c.len.result ≡ length bytes = grind (arith, c.len.ensures) in
    let good = sym c.is_bad_offset.ensures ∙ c.if-is_bad_offset.false in
    let gives : Gives honest (listed e w f.place (start_of o c.args.offset) c.args.count) (start_of o c.args.offset) c.args.count bytes last = rw (← c.in_ok-start.ensures) c.in_ok-given.ensures.lists in
    let moved : c.in_ok-moved.moved ≡ read_to f o ((c.args.offset + length bytes) % 2 ^ 64) last = rw (← len) c.in_ok-moved.ensures in
    λ x. granted _ _ _ _ _ _ (λ h.
    directory_given honest e (state c.args.self.now x w) c.args.fid c.args.offset c.args.count f o bytes last (c.in_ok-from.ensures x w) c.in_ok-opened.ensures good gives h
    ∙ replied_same bytes c.new.result _ _ c.new.ensures (put_state _ c.args.self.now x w _ _ _ _ c.self.view_is (c.list_records.ensures.world h) c.put_fid.ensures moved))
