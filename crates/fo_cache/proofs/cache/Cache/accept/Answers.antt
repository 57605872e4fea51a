use Rattle.std.proofs.Common.{[]}
use Rattle.fo_mind.specs.MindParts.{parts}
use Rattle.fo_cache.proofs.Trials.{accepted, fits_alike, labels_alike, sized_alike}
use Rattle.fo_cache.proofs.Firsts.{one_accepted}
use Rattle.fo_cache.proofs.cache.Cache.accept.Goals as goal

pub invariant_of-self-clause-fits : goal.invariant_of-self-clause-fits
invariant_of-self-clause-fits g c =
    let self = c.args.self.now in
    let s = g.D.Disk.state self.main in
    let p = parts self.mind [] 0 in
    let q = parts c.accept.new.self [] 0 in
    fits_alike p q q.one q.one_bytes q.doubt (accepted p q c.args.one p.doubt _ _ (c.accept.ensures [] 0)) s.holds s.unsure self.fits

pub invariant_of-self-clause-spelled : goal.invariant_of-self-clause-spelled
invariant_of-self-clause-spelled g c =
    let self = c.args.self.now in
    let s = g.D.Disk.state self.main in
    let p = parts self.mind [] 0 in
    let q = parts c.accept.new.self [] 0 in
    labels_alike p q q.one q.one_bytes q.doubt (accepted p q c.args.one p.doubt _ _ (c.accept.ensures [] 0)) s.holds s.unsure self.spelled

pub invariant_of-self-clause-sized : goal.invariant_of-self-clause-sized
invariant_of-self-clause-sized g c =
    let self = c.args.self.now in
    let s = g.D.Disk.state self.main in
    let p = parts self.mind [] 0 in
    let q = parts c.accept.new.self [] 0 in
    sized_alike p q q.one q.one_bytes q.doubt (accepted p q c.args.one p.doubt _ _ (c.accept.ensures [] 0)) s.holds s.unsure (g.D.Disk.size self.main) self.sized

pub returns-clause-counts : goal.returns-clause-counts
returns-clause-counts g c = c.accept.ensures [] 0

pub invariant_of-self-clause-first : goal.invariant_of-self-clause-first
invariant_of-self-clause-first g c =
    let self = c.args.self.now in
    let s = g.D.Disk.state self.main in
    let p = parts self.mind [] 0 in
    one_accepted p (parts c.accept.new.self [] 0) c.args.one _ _ s.holds p.doubt (λ i. p.doubt) (c.accept.ensures [] 0) c.requires.alone self.first
