use Rattle.std.proofs.Common.{[], ap, subst}
use Rattle.fo_disk.specs.Disk.{DiskState}
use Rattle.fo_closing.specs.of_mind.MindParts.{parts}
use Rattle.fo_settling.specs.of_cache.Fits.{Fits}
use Rattle.fo_reserving.proofs.Joining.{reserves_still}
use Rattle.fo_reserving.proofs.Letting.{reserves_let}
use Rattle.fo_reserving.proofs.pins.unpin_all.Goals as goal

pub returns-clause-leaves : goal.returns-clause-leaves
returns-clause-leaves g c =
    let old = c.args.cache.now in
    let p = parts old.mind [] 0 in
    let q = parts c.unpin_each.new.cache.mind [] 0 in
    let e = c.unpin_each.ensures in
    let new = c.unpin_each.new.cache in
    let now = subst (λ (s : DiskState). Fits (record q { disk = s.holds }) s.unsure) (ap g.D.Disk.state e.device) new.fits in
    reserves_still p q (ap (λ m. (g.D.Disk.state m).holds) e.device) (ap (λ m. g.D.Disk.faults m) e.device)
    (reserves_let p q (g.D.Disk.state old.main).holds (g.D.Disk.faults old.main) old.mind.placed old.mind.turning old.mind.standing e.lets (g.D.Disk.state old.main).unsure old.fits now)
