use Rattle.std.proofs.Common.{◌≡◌, refl, ap, ◌∙◌, Some}
use Rattle.nine_fids.specs.Fids.{State, fid_of}
use Rattle.nine_session.specs.Attempting.{kept, state}
use Rattle.nine_session.specs.Session.{kept_of}
use Rattle.nine_session.proofs.Answered.{gone_fid, least_found, lets_go}
use Rattle.nine_session.proofs.session.Session.drop_one.Goals as goal

pub returns-in_default : goal.returns-in_default
returns-in_default g c =
    let f = c.args.files.now in
    let met = g.met.F.FileOps in
    rw c.in_default.ensures (record { drops = (refl, refl, ap kept_of (c.restart.ensures (g.F.FileOps.world f)), met.keeps_touches f f _ (met.keeps_at_once f), refl) })

pub returns : goal.returns
returns g c =
    let f = c.args.files.now in
    let f' = c.clunk_fid-clunked.new.files in
    let w = g.F.FileOps.world f in
    let z : State = state c.args.self.now c.args.exclusive.now.items w in
    let same = c.take_users-known_users.ensures in
    let attempted = rw same at c.clunk_fid-clunked.ensures.attempted in
    let gone = rw same at c.clunk_fid-clunked.ensures.gone in
    let p = c.in-Some.ensures in
    let fid = p.0 in
    let found : fid_of c.in-Some.number z.session.fids ≡ Some fid = rw p.2 (least_found z.session.fids fid p.1) in
    rw (p.1, c.error_of.ensures, c.put_users.ensures)
    (record {
      drops = (
        refl,
        lets_go _ _ (λ w n. g.F.FileOps.touches f w n f') (kept c.args.self.now c.args.exclusive.now.items) _ c.args.now fid c.clunk_fid-clunked.result
            (ap kept_of (gone w ∙ gone_fid z c.in-Some.number fid found)) (attempted fid found),
      );
    })
