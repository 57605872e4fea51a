use Rattle.std.proofs.Common.{[], refl, ap, arith}
use Rattle.fo_cache.proofs.Easing.{eases_on}
use Rattle.fo_mind.specs.MindParts.{parts}
use Rattle.fo_turning.proofs.Releasing.{releases_moved, syncs_moved}
use Rattle.fo_turning.proofs.flush.sync_written.Goals as goal

pub returns-clause-does : goal.returns-clause-does
returns-clause-does g c =
    let cache = c.args.cache.now in
    let mid = c.sync_next.new.cache in
    let new = c.release_written.new.cache in
    let m = parts mid.mind [] 0 in
    let q = parts new.mind [] 0 in
    let d = c.release_written.ensures.device in
    let e = c.in_ok-sync_next.ensures in (
      refl,
      syncs_moved g.D.Disk.state cache.main mid.main new.main (parts cache.mind [] 0) m q d c.requires.due e.state e.synced e.each
          (releases_moved (λ x. (g.D.Disk.state x).holds) mid.main new.main m q d c.in_ok-marks.ensures.marks c.release_written.ensures.releases),
    )

pub returns-clause-eases : goal.returns-clause-eases
returns-clause-eases g c = eases_on c.sync_next.ensures.eases c.release_written.ensures.eases

pub returns-clause-calls : goal.returns-clause-calls
returns-clause-calls g c =
    let e = c.sync_next.ensures.calls in
    let same = ap g.D.Disk.calls c.release_written.ensures.device in
    omega (arith, e, same)
