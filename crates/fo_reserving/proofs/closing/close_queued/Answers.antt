use Rattle.std.proofs.Common.{◌<◌, [], length, refl, sym, subst}
use Rattle.fo_disk.specs.Disk.{DiskState, IsSettled}
use Rattle.fo_closing.specs.of_mind.MindParts.{parts}
use Rattle.fo_settling.proofs.of_cache.Outcomes.{quiet_is_memory}
use Rattle.fo_reserving.proofs.Joining.{closes_row}
use Rattle.fo_reserving.proofs.Shutting.{first_same, fits_closed, labels_closed, one_closed, reserves_closed, shutting_closings}
use Rattle.fo_reserving.proofs.closing.close_queued.Goals as goal

pub invariant_of-cache-clause-fits : goal.invariant_of-cache-clause-fits
invariant_of-cache-clause-fits g c =
    let old = c.args.cache.now in
    let new = c.close_until.new in
    let e = c.close_until.ensures in
    let p = parts old.mind [] 0 in
    let q = parts new.mind [] 0 in
    fits_closed p q (g.D.Disk.state old.main) (g.D.Disk.state new.main) e.state (g.D.Disk.faults old.main) (g.D.Disk.faults new.main) e.leaves c.requires.quiet e.rest (first_same p q old.mind.placed new.mind.placed e.count) c.requires.held new.mind.standing old.fits

pub invariant_of-cache-clause-spelled : goal.invariant_of-cache-clause-spelled
invariant_of-cache-clause-spelled g c =
    let old = c.args.cache.now in
    let new = c.close_until.new in
    let e = c.close_until.ensures in
    let p = parts old.mind [] 0 in
    let q = parts new.mind [] 0 in
    labels_closed p q (g.D.Disk.state old.main) (g.D.Disk.state new.main) e.state (g.D.Disk.faults old.main) (g.D.Disk.faults new.main) e.leaves c.requires.quiet e.rest (first_same p q old.mind.placed new.mind.placed e.count)
    (shutting_closings p q (g.D.Disk.state old.main).holds (g.D.Disk.state new.main).holds (g.D.Disk.faults old.main) (g.D.Disk.faults new.main) old.mind.queue new.mind.queue e.closes) old.spelled

pub invariant_of-cache-clause-first : goal.invariant_of-cache-clause-first
invariant_of-cache-clause-first g c =
    let old = c.args.cache.now in
    let new = c.close_until.new in
    let e = c.close_until.ensures in
    let p = parts old.mind [] 0 in
    let q = parts new.mind [] 0 in
    one_closed p q (g.D.Disk.state old.main) (g.D.Disk.state new.main) e.state (g.D.Disk.faults old.main) (g.D.Disk.faults new.main) e.leaves c.requires.quiet e.rest (first_same p q old.mind.placed new.mind.placed e.count) old.first

pub invariant_of-cache-clause-header : goal.invariant_of-cache-clause-header
invariant_of-cache-clause-header g c =
    subst (λ (x : DiskState). 0 < length x.holds → IsSettled x.holds 0) (sym c.close_until.ensures.state) c.args.cache.now.header

pub returns-clause-leaves : goal.returns-clause-leaves
returns-clause-leaves g c =
    let old = c.args.cache.now in
    let new = c.close_until.new in
    let e = c.close_until.ensures in
    let p = parts old.mind [] 0 in
    let q = parts new.mind [] 0 in
    reserves_closed p q (g.D.Disk.state old.main) (g.D.Disk.state new.main) e.state (g.D.Disk.faults old.main) (g.D.Disk.faults new.main) e.leaves c.requires.quiet e.rest (first_same p q old.mind.placed new.mind.placed e.count)
    (shutting_closings p q (g.D.Disk.state old.main).holds (g.D.Disk.state new.main).holds (g.D.Disk.faults old.main) (g.D.Disk.faults new.main) old.mind.queue new.mind.queue e.closes) c.requires.some c.requires.rest.none e.count
    (closes_row
    (record { before = parts old.mind (g.D.Disk.state old.main).holds (g.D.Disk.faults old.main); after = parts new.mind (g.D.Disk.state new.main).holds (g.D.Disk.faults new.main); queue = old.mind.queue; left = new.mind.queue })
    (record { quiet = c.requires.quiet; rest = record { clean = c.requires.rest.clean; settled = c.requires.rest.settled; free = c.requires.rest.free; none = c.requires.rest.none; sure = c.requires.rest.sure }; held = c.requires.held; memory = quiet_is_memory {p = parts old.mind (g.D.Disk.state old.main).holds (g.D.Disk.faults old.main)} {unsure = (g.D.Disk.state old.main).unsure} old.mind.turning (record { each = old.fits.each }) c.requires.quiet; queue = refl; left = refl; closes = e.closes; rested = record { clean = e.rest.clean; settled = e.rest.settled; free = e.rest.free; none = e.rest.none; sure = e.rest.sure } }))
