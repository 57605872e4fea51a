use Rattle.std.proofs.Common.{◌≤◌, [], sym, ap, subst}
use Rattle.fo_labels.specs.Region.{Region}
use Rattle.fo_order.specs.Keeps.{Turns}
use Rattle.fo_order.specs.Turns.{flag_at}
use Rattle.fo_mind.specs.MindParts.{parts}
use Rattle.fo_mind.specs.Parts.{count_of}
use Rattle.fo_cache.proofs.Calling.{fits_unpinned, region_unpinned, turns_unpinned}
use Rattle.fo_cache.proofs.Labelling.{labels_kept}
use Rattle.fo_cache.proofs.Firsts.{one_unpinned}
use Rattle.fo_cache.proofs.cache.Cache.unpin.Goals as goal

pub invariant_of-self-clause-fits : goal.invariant_of-self-clause-fits
invariant_of-self-clause-fits g c =
    let self = c.args.self.now in
    let s = g.D.Disk.state self.main in
    fits_unpinned (parts self.mind [] 0) (parts c.unpin.new.self [] 0) _ s.holds s.unsure c.unpin.result (c.unpin.ensures [] 0) self.fits

pub invariant_of-self-clause-spelled : goal.invariant_of-self-clause-spelled
invariant_of-self-clause-spelled g c =
    let self = c.args.self.now in
    let s = g.D.Disk.state self.main in
    let p = parts self.mind [] 0 in
    let q = parts c.unpin.new.self [] 0 in
    labels_kept p q s.holds s.unsure (region_unpinned p q _ c.unpin.result (c.unpin.ensures [] 0))
    (λ k lt. ap (λ (t : Turns). flag_at t k) (turns_unpinned p q _ c.unpin.result (c.unpin.ensures [] 0))) self.spelled

pub invariant_of-self-clause-sized : goal.invariant_of-self-clause-sized
invariant_of-self-clause-sized g c =
    let self = c.args.self.now in
    subst (λ (x : Region). count_of x ≤ g.D.Disk.size self.main) (sym (region_unpinned (parts self.mind [] 0) (parts c.unpin.new.self [] 0) _ c.unpin.result (c.unpin.ensures [] 0))) self.sized

pub returns-clause-unpinned : goal.returns-clause-unpinned
returns-clause-unpinned g c = c.unpin.ensures [] 0

pub invariant_of-self-clause-first : goal.invariant_of-self-clause-first
invariant_of-self-clause-first g c =
    let self = c.args.self.now in
    let s = g.D.Disk.state self.main in
    one_unpinned (parts self.mind [] 0) (parts c.unpin.new.self [] 0) _ s.holds c.unpin.result (c.unpin.ensures [] 0) self.first
