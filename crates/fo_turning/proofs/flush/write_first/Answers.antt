use Rattle.std.proofs.Common.{[], refl, ap, arith}
use Rattle.fo_cache.proofs.Easing.{eases_on}
use Rattle.fo_mind.specs.MindParts.{parts}
use Rattle.fo_turning.proofs.Releasing.{moved_overruled, releases_moved}
use Rattle.fo_turning.proofs.flush.write_first.Goals as goal

pub returns-clause-does : goal.returns-clause-does
returns-clause-does g c =
    let cache = c.args.cache.now in
    let mid = c.settle_first.new.cache in
    let new = c.release_written.new.cache in
    let m = parts mid.mind [] 0 in
    let q = parts new.mind [] 0 in
    let d = c.release_written.ensures.device in (
      refl,
      record {
        settled = m;
        overruled = moved_overruled g.D.Disk.state cache.main mid.main new.main (parts cache.mind [] 0) m d c.in_ok-settle_first.ensures.overruled;
        releases = releases_moved (λ x. (g.D.Disk.state x).holds) mid.main new.main m q d c.in_ok-marks.ensures.marks c.release_written.ensures.releases;
      },
    )

pub returns-clause-eases : goal.returns-clause-eases
returns-clause-eases g c = eases_on c.settle_first.ensures.eases c.release_written.ensures.eases

pub returns-clause-calls : goal.returns-clause-calls
returns-clause-calls g c =
    let e = c.settle_first.ensures.calls in
    let same = ap g.D.Disk.calls c.release_written.ensures.device in
    omega (arith, e, same)
