use Rattle.std.proofs.Common.{[], None}
use Rattle.fo_mind.specs.MindParts.{parts}
use Rattle.fo_cache.proofs.Trials.{fits_alike, labels_alike, sized_alike}
use Rattle.std.proofs.Common.{subst as back, sym as mirrored}
use Rattle.fo_mind.specs.Parts.{Parts as All}
use Rattle.fo_cache.specs.Fits.{FitsOne}
use Rattle.fo_cache.proofs.Firsts.{one_alone}
use Rattle.fo_cache.proofs.cache.Cache.overrule.Goals as goal

pub invariant_of-self-clause-fits : goal.invariant_of-self-clause-fits
invariant_of-self-clause-fits g c =
    let self = c.args.self.now in
    let s = g.D.Disk.state self.main in
    let p = parts self.mind [] 0 in
    fits_alike p (parts c.overrule.new.self [] 0) p.one p.one_bytes None (c.overrule.ensures.settled [] 0) s.holds s.unsure self.fits

pub invariant_of-self-clause-spelled : goal.invariant_of-self-clause-spelled
invariant_of-self-clause-spelled g c =
    let self = c.args.self.now in
    let s = g.D.Disk.state self.main in
    let p = parts self.mind [] 0 in
    labels_alike p (parts c.overrule.new.self [] 0) p.one p.one_bytes None (c.overrule.ensures.settled [] 0) s.holds s.unsure self.spelled

pub invariant_of-self-clause-sized : goal.invariant_of-self-clause-sized
invariant_of-self-clause-sized g c =
    let self = c.args.self.now in
    let s = g.D.Disk.state self.main in
    let p = parts self.mind [] 0 in
    sized_alike p (parts c.overrule.new.self [] 0) p.one p.one_bytes None (c.overrule.ensures.settled [] 0) s.holds s.unsure (g.D.Disk.size self.main) self.sized

pub returns-clause-settled : goal.returns-clause-settled
returns-clause-settled g c = c.overrule.ensures.settled [] 0

pub invariant_of-self-clause-first : goal.invariant_of-self-clause-first
invariant_of-self-clause-first g c =
    let self = c.args.self.now in
    let s = g.D.Disk.state self.main in
    let p = parts self.mind [] 0 in
    back (λ (z : All). FitsOne z.one_bytes z.doubt s.holds) (mirrored (c.overrule.ensures.settled [] 0)) (one_alone p.one_bytes None s.holds c.requires)
