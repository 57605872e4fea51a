use Rattle.std.proofs.Common.{refl}
use Rattle.fo_world.specs.Step as step
use Rattle.nine_wire.specs.declared.message.Request.TheVariants as request
use Rattle.nine_fids.specs.Fids.{known}
use Rattle.nine_fids.specs.Looking.{FilesState}
use Rattle.nine_files.specs.Stating.{change_of}
use Rattle.nine_files.proofs.Making.{state_of}
use Rattle.nine_session.specs.Attaching as attaching
use Rattle.nine_session.specs.Reading as reading
use Rattle.nine_session.specs.Stating as stating
use Rattle.nine_session.specs.Walking as walking
use Rattle.nine_session.specs.Attempting.{kept}
use Rattle.nine_session.specs.Session.{need_at}
use Rattle.nine_session.proofs.Records.{record_there}
use Rattle.nine_session.proofs.Trying.{auth_over, changes_over, flush_over, had_any, looks_over, version_over, wrote}
use Rattle.nine_session.proofs.session.Session.attempt.Goals as goal

pub returns-in-Version-clause-tried : goal.returns-in-Version-clause-tried
returns-in-Version-clause-tried g c =
    let f = c.args.files.now in
    let a : FilesState = state_of (g.F.FileOps.whole f) (g.F.FileOps.largest f) (g.F.FileOps.world f) (g.F.FileOps.faults f) (g.F.FileOps.honest f) (g.F.FileOps.has_room f) in
    rw c.in-Version.is (version_over a (λ w n. g.F.FileOps.touches f w n f) (kept c.args.self.now c.args.exclusive.now.items) c.args.now _ c.in-Version.msize c.in-Version.version c.agree.result
    (λ w. g.met.F.FileOps.keeps_touches f f w (g.met.F.FileOps.keeps_at_once f)) (c.agree.ensures.attempts (g.F.FileOps.world f)))

pub returns-in-Auth-clause-tried : goal.returns-in-Auth-clause-tried
returns-in-Auth-clause-tried g c =
    let f = c.args.files.now in
    let a : FilesState = state_of (g.F.FileOps.whole f) (g.F.FileOps.largest f) (g.F.FileOps.world f) (g.F.FileOps.faults f) (g.F.FileOps.honest f) (g.F.FileOps.has_room f) in
    rw c.in-Auth.is (auth_over a (λ w n. g.F.FileOps.touches f w n f) (kept c.args.self.now c.args.exclusive.now.items) c.args.now _ _ _ c.auth.result
    (λ w. g.met.F.FileOps.keeps_touches f f w (g.met.F.FileOps.keeps_at_once f)) (c.auth.ensures.replies c.args.exclusive.now.items (g.F.FileOps.world f)))

pub returns-in-Flush-clause-tried : goal.returns-in-Flush-clause-tried
returns-in-Flush-clause-tried g c =
    let f = c.args.files.now in
    let a : FilesState = state_of (g.F.FileOps.whole f) (g.F.FileOps.largest f) (g.F.FileOps.world f) (g.F.FileOps.faults f) (g.F.FileOps.honest f) (g.F.FileOps.has_room f) in
    rw c.in-Flush.is (flush_over a (λ w n. g.F.FileOps.touches f w n f) (kept c.args.self.now c.args.exclusive.now.items) c.args.now _ c.flush.result
    (λ w. g.met.F.FileOps.keeps_touches f f w (g.met.F.FileOps.keeps_at_once f)) (c.flush.ensures.replies c.args.exclusive.now.items (g.F.FileOps.world f)))

pub returns-in-Attach-clause-tried : goal.returns-in-Attach-clause-tried
returns-in-Attach-clause-tried g c =
    let f = c.args.files.now in
    let f' = c.attach.new.files in
    let x = c.args.exclusive.now.items in
    rw c.in-Attach.is (looks_over _ _ (λ w n. g.F.FileOps.touches f w n f') (kept c.args.self.now x) (kept c.attach.new.self x) c.args.now (request.Attach c.in-Attach.fid c.in-Attach.afid c.in-Attach.uname c.in-Attach.aname)
    (λ e z. attaching.attach e z c.in-Attach.fid c.in-Attach.afid c.in-Attach.uname c.in-Attach.aname) c.attach.result refl refl refl refl refl
    (λ w. g.met.F.FileOps.keeps_touches f f' w c.attach.ensures.keeps) c.attach.ensures.part (c.attach.ensures.looked x))

pub returns-in-Walk-clause-tried : goal.returns-in-Walk-clause-tried
returns-in-Walk-clause-tried g c =
    let f = c.args.files.now in
    let f' = c.walk.new.files in
    let x = c.args.exclusive.now.items in
    rw c.in-Walk.is (looks_over _ _ (λ w n. g.F.FileOps.touches f w n f') (kept c.args.self.now x) (kept c.walk.new.self x) c.args.now (request.Walk c.in-Walk.fid c.in-Walk.newfid c.in-Walk.names)
    (λ e z. walking.walk e z c.in-Walk.fid c.in-Walk.newfid c.in-Walk.names) c.walk.result refl refl refl refl refl
    (λ w. g.met.F.FileOps.keeps_touches f f' w c.walk.ensures.keeps) c.walk.ensures.part (c.walk.ensures.looked x))

pub returns-in-Read-clause-tried : goal.returns-in-Read-clause-tried
returns-in-Read-clause-tried g c =
    let f = c.args.files.now in
    let f' = c.read.new.files in
    let x = c.args.exclusive.now.items in
    rw c.in-Read.is (looks_over _ _ (λ w n. g.F.FileOps.touches f w n f') (kept c.args.self.now x) (kept c.read.new.self x) c.args.now (request.Read c.in-Read.fid c.in-Read.offset c.in-Read.count)
    (λ e z. reading.read e z c.in-Read.fid c.in-Read.offset c.in-Read.count) c.read.result refl refl refl refl refl
    (λ w. g.met.F.FileOps.keeps_touches f f' w c.read.ensures.keeps) c.read.ensures.part (c.read.ensures.looked x))

pub returns-in-Stat-clause-tried : goal.returns-in-Stat-clause-tried
returns-in-Stat-clause-tried g c =
    let f = c.args.files.now in
    let f' = c.stat.new.files in
    let x = c.args.exclusive.now.items in
    rw c.in-Stat.is (looks_over _ _ (λ w n. g.F.FileOps.touches f w n f') (kept c.args.self.now x) (kept c.args.self.now x) c.args.now (request.Stat c.in-Stat.fid)
    (λ e z. stating.stat e z c.in-Stat.fid) c.stat.result refl refl refl refl refl
    (λ w. g.met.F.FileOps.keeps_touches f f' w c.stat.ensures.keeps) c.stat.ensures.part (c.stat.ensures.looked x))

pub returns-in-Write-clause-tried : goal.returns-in-Write-clause-tried
returns-in-Write-clause-tried g c =
    let f = c.args.files.now in
    let f' = c.write.new.files in
    let x = c.args.exclusive.now.items in
    rw c.in-Write.is (changes_over _ _ (λ w n. g.F.FileOps.touches f w n f') (kept c.args.self.now x) (kept c.args.self.now x) c.args.now (request.Write c.in-Write.fid c.in-Write.offset c.in-Write.bytes)
    (λ e z. reading.write e z c.args.now c.in-Write.fid c.in-Write.offset c.in-Write.bytes)
    (λ e z. need_at (known c.in-Write.fid z.session.fids) (λ at. step.write_need at.place c.in-Write.bytes)) c.write.result refl refl
    (wrote c.in-Write.fid c.in-Write.offset c.in-Write.bytes c.write.result c.write.ensures.part) c.write.ensures.room (c.write.ensures.attempted x))

pub returns-clause-tried : goal.returns-clause-tried
returns-clause-tried g c =
    let f = c.args.files.now in
    let f' = c.wstat.new.files in
    let x = c.args.exclusive.now.items in
    let fits = rw c.in-Wstat.is at c.requires.request in
    let s = record_there c.in-Wstat.stat fits.1 in
    rw c.in-Wstat.is (changes_over _ _ (λ w n. g.F.FileOps.touches f w n f') (kept c.args.self.now x) (kept c.args.self.now x) c.args.now (request.Wstat c.in-Wstat.fid c.in-Wstat.stat)
    (λ e z. stating.wstat e z c.args.now c.in-Wstat.fid s.0)
    (λ e z. need_at (known c.in-Wstat.fid z.session.fids) (λ at. step.change_need e.whole z.world at.place (change_of s.0))) c.wstat.result (s.0, s.1, refl) (s.0, s.1, refl)
    c.wstat.ensures.part (had_any (g.F.FileOps.has_room f) 0 c.wstat.result refl) (c.wstat.ensures.attempted x s.0 s.1))
