use Rattle.std.proofs.Common.{◌≤◌, [], sym, ap, subst}
use Rattle.fo_labels.specs.Region.{Region}
use Rattle.fo_order.specs.Keeps.{Turns}
use Rattle.fo_order.specs.Turns.{flag_at}
use Rattle.fo_mind.specs.MindParts.{parts}
use Rattle.fo_mind.specs.Parts.{count_of}
use Rattle.fo_cache.proofs.Labelling.{labels_kept}
use Rattle.fo_cache.proofs.Releasing.{bytes_given_up, fits_given_up, region_stays, turns_stay}
use Rattle.fo_cache.proofs.Firsts.{one_released}
use Rattle.fo_cache.proofs.cache.Cache.release.Goals as goal

pub invariant_of-self-clause-fits : goal.invariant_of-self-clause-fits
invariant_of-self-clause-fits g c =
    let self = c.args.self.now in
    let s = g.D.Disk.state self.main in
    let e = c.release.ensures in
    fits_given_up (parts self.mind [] 0) (parts c.release.new.self [] 0) c.args.at (λ is. e.gone is [] 0) (λ is. e.kept is [] 0) s.holds s.unsure self.fits

pub invariant_of-self-clause-spelled : goal.invariant_of-self-clause-spelled
invariant_of-self-clause-spelled g c =
    let self = c.args.self.now in
    let s = g.D.Disk.state self.main in
    let e = c.release.ensures in
    let p = parts self.mind [] 0 in
    let q = parts c.release.new.self [] 0 in
    labels_kept p q s.holds s.unsure (region_stays p q c.args.at (λ is. e.gone is [] 0) (λ is. e.kept is [] 0))
    (λ k lt. ap (λ (t : Turns). flag_at t k) (turns_stay p q c.args.at (λ is. e.gone is [] 0) (λ is. e.kept is [] 0))) self.spelled

pub invariant_of-self-clause-sized : goal.invariant_of-self-clause-sized
invariant_of-self-clause-sized g c =
    let self = c.args.self.now in
    let e = c.release.ensures in
    subst (λ (x : Region). count_of x ≤ g.D.Disk.size self.main) (sym (region_stays (parts self.mind [] 0) (parts c.release.new.self [] 0) c.args.at (λ is. e.gone is [] 0) (λ is. e.kept is [] 0))) self.sized

pub returns-clause-gone : goal.returns-clause-gone
returns-clause-gone g c = λ is. c.release.ensures.gone is [] 0

pub returns-clause-kept : goal.returns-clause-kept
returns-clause-kept g c = λ is. c.release.ensures.kept is [] 0

pub returns-clause-bytes : goal.returns-clause-bytes
returns-clause-bytes g c =
    let self = c.args.self.now in
    let s = g.D.Disk.state self.main in
    let e = c.release.ensures in
    bytes_given_up (parts self.mind [] 0) (parts c.release.new.self [] 0) c.args.at (λ is. e.gone is [] 0) (λ is. e.kept is [] 0) s.holds s.unsure self.fits

pub invariant_of-self-clause-first : goal.invariant_of-self-clause-first
invariant_of-self-clause-first g c =
    let self = c.args.self.now in
    let s = g.D.Disk.state self.main in
    one_released (parts self.mind [] 0) (parts c.release.new.self [] 0) c.args.at s.holds (λ is. c.release.ensures.gone is [] 0) (λ is. c.release.ensures.kept is [] 0) self.first
