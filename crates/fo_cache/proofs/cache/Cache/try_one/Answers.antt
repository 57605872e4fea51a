use Rattle.std.proofs.Common.{[], Some}
use Rattle.fo_mind.specs.MindParts.{parts}
use Rattle.fo_cache.proofs.Trials.{fits_alike, labels_alike, sized_alike}
use Rattle.std.proofs.Common.{subst as back, sym as mirrored}
use Rattle.fo_mind.specs.Parts.{Parts as All}
use Rattle.fo_cache.specs.Fits.{FitsOne}
use Rattle.fo_cache.proofs.Firsts.{one_tried}
use Rattle.fo_cache.proofs.cache.Cache.try_one.Goals as goal

pub invariant_of-self-clause-fits : goal.invariant_of-self-clause-fits
invariant_of-self-clause-fits g c =
    let self = c.args.self.now in
    let s = g.D.Disk.state self.main in
    let p = parts self.mind [] 0 in
    fits_alike p (parts c.try_one.new.self [] 0) p.one p.one_bytes (Some c.args.block) (c.try_one.ensures [] 0) s.holds s.unsure self.fits

pub invariant_of-self-clause-spelled : goal.invariant_of-self-clause-spelled
invariant_of-self-clause-spelled g c =
    let self = c.args.self.now in
    let s = g.D.Disk.state self.main in
    let p = parts self.mind [] 0 in
    labels_alike p (parts c.try_one.new.self [] 0) p.one p.one_bytes (Some c.args.block) (c.try_one.ensures [] 0) s.holds s.unsure self.spelled

pub invariant_of-self-clause-sized : goal.invariant_of-self-clause-sized
invariant_of-self-clause-sized g c =
    let self = c.args.self.now in
    let s = g.D.Disk.state self.main in
    let p = parts self.mind [] 0 in
    sized_alike p (parts c.try_one.new.self [] 0) p.one p.one_bytes (Some c.args.block) (c.try_one.ensures [] 0) s.holds s.unsure (g.D.Disk.size self.main) self.sized

pub returns-clause-tried : goal.returns-clause-tried
returns-clause-tried g c = c.try_one.ensures [] 0

pub invariant_of-self-clause-first : goal.invariant_of-self-clause-first
invariant_of-self-clause-first g c =
    let self = c.args.self.now in
    let s = g.D.Disk.state self.main in
    let p = parts self.mind [] 0 in
    back (λ (z : All). FitsOne z.one_bytes z.doubt s.holds) (mirrored (c.try_one.ensures [] 0)) (one_tried p.one_bytes c.args.block p.doubt s.holds c.requires.none self.first)
