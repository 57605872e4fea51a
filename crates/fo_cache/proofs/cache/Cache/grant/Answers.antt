use Rattle.std.proofs.Common.{[]}
use Rattle.fo_mind.specs.MindParts.{parts}
use Rattle.fo_cache.proofs.Numbering.{fits_granted, labels_granted, sized_granted}
use Rattle.fo_cache.proofs.Firsts.{one_like}
use Rattle.std.proofs.Common.{ap as along}
use Rattle.fo_mind.specs.Parts.{Parts as All}
use Rattle.fo_cache.proofs.cache.Cache.grant.Goals as goal

pub invariant_of-self-clause-fits : goal.invariant_of-self-clause-fits
invariant_of-self-clause-fits g c =
    let self = c.args.self.now in
    let s = g.D.Disk.state self.main in
    fits_granted (parts self.mind [] 0) (parts c.grant.new.self [] 0) (c.grant.ensures [] 0) s.holds s.unsure self.fits

pub invariant_of-self-clause-spelled : goal.invariant_of-self-clause-spelled
invariant_of-self-clause-spelled g c =
    let self = c.args.self.now in
    let s = g.D.Disk.state self.main in
    labels_granted (parts self.mind [] 0) (parts c.grant.new.self [] 0) (c.grant.ensures [] 0) s.holds s.unsure self.spelled

pub invariant_of-self-clause-sized : goal.invariant_of-self-clause-sized
invariant_of-self-clause-sized g c =
    let self = c.args.self.now in
    let s = g.D.Disk.state self.main in
    sized_granted (parts self.mind [] 0) (parts c.grant.new.self [] 0) (c.grant.ensures [] 0) s.holds s.unsure (g.D.Disk.size self.main) self.sized

pub returns-clause-granted : goal.returns-clause-granted
returns-clause-granted g c = c.grant.ensures [] 0

pub invariant_of-self-clause-first : goal.invariant_of-self-clause-first
invariant_of-self-clause-first g c =
    let self = c.args.self.now in
    let s = g.D.Disk.state self.main in
    one_like (parts self.mind [] 0) (parts c.grant.new.self [] 0) s.holds (along (λ (z : All). z.one_bytes) (c.grant.ensures [] 0)) (along (λ (z : All). z.doubt) (c.grant.ensures [] 0)) self.first
