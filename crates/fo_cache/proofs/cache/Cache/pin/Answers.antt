use Rattle.std.proofs.Common.{◌<◌, ◌≤◌, [], sym, ap, subst}
use Rattle.fo_disk.specs.Disk.{DiskState}
use Rattle.fo_labels.specs.Region.{Region}
use Rattle.fo_mind.specs.MindParts.{parts}
use Rattle.fo_mind.specs.Parts.{Parts, count_of}
use Rattle.fo_mind.specs.Turning.{Turning}
use Rattle.fo_cache.specs.Fits.{Fits}
use Rattle.fo_cache.proofs.Calling.{fits_got}
use Rattle.fo_cache.specs.Fits.{FitsLabels}
use Rattle.fo_order.specs.Keeps.{Turns}
use Rattle.fo_order.specs.Turns.{flag_at}
use Rattle.fo_cache.proofs.Labelling.{labels_kept}
use Rattle.fo_cache.proofs.Firsts.{one_like}
use Rattle.std.proofs.Common.{ap as along}
use Rattle.fo_mind.specs.Parts.{Parts as All}
use Rattle.fo_cache.specs.Fits.{FitsOne}
use Rattle.fo_cache.proofs.cache.Cache.pin.Goals as goal

pub pin-requires-clause-block : goal.pin-requires-clause-block
pin-requires-clause-block g c =
    let self = c.args.self.now in
    (subst (λ n. n ≤ c.args.at) self.mind.placed.is_first c.requires.block.0, subst (λ n. c.args.at < n) self.mind.placed.is_count c.requires.block.1)

pub pin-requires-clause-within : goal.pin-requires-clause-within
pin-requires-clause-within g c = let self = c.args.self.now in subst (λ n. n ≤ g.D.Disk.size self.main) self.mind.placed.is_count self.sized

pub invariant_of-self-clause-fits : goal.invariant_of-self-clause-fits
invariant_of-self-clause-fits g c =
    let self = c.args.self.now in
    let s = g.D.Disk.state self.main in
    let p = parts self.mind [] 0 in
    let q = parts c.pin.new.self [] 0 in
    let b = c.pin.ensures.brings in
    let turning = subst (λ n. Turning n p.held p.turns p.facts) (sym self.mind.placed.is_first) self.mind.turning in
    subst (λ (t : DiskState). Fits (record q { disk = t.holds }) t.unsure) (sym c.pin.ensures.state)
    (fits_got p q c.args.at s.holds s.unsure (ap (λ (x : Parts). x.turns) b.rest) (ap (λ (x : Parts). x.region) b.rest) turning b.others b.bytes c.pin.ensures.comes self.fits)

pub invariant_of-self-clause-sized : goal.invariant_of-self-clause-sized
invariant_of-self-clause-sized g c =
    let self = c.args.self.now in
    let b = c.pin.ensures.brings in
    subst (λ n. count_of (parts c.pin.new.self [] 0).region ≤ n) (sym c.pin.ensures.size)
    (subst (λ (x : Region). count_of x ≤ g.D.Disk.size self.main) (sym (ap (λ (x : Parts). x.region) b.rest)) self.sized)

pub invariant_of-self-clause-spelled : goal.invariant_of-self-clause-spelled
invariant_of-self-clause-spelled g c =
    let self = c.args.self.now in
    let s = g.D.Disk.state self.main in
    let q = parts c.pin.new.self [] 0 in
    let b = c.pin.ensures.brings in
    subst (λ (t : DiskState). FitsLabels (record q { disk = t.holds }) t.unsure) (sym c.pin.ensures.state)
    (labels_kept (parts self.mind [] 0) q s.holds s.unsure (ap (λ (x : Parts). x.region) b.rest) (λ k lt. ap (λ (t : Turns). flag_at t k) (ap (λ (x : Parts). x.turns) b.rest)) self.spelled)

pub invariant_of-self-clause-first : goal.invariant_of-self-clause-first
invariant_of-self-clause-first g c =
    let self = c.args.self.now in
    let s = g.D.Disk.state self.main in
    subst (λ (t : DiskState). FitsOne (parts c.pin.new.self [] 0).one_bytes (parts c.pin.new.self [] 0).doubt t.holds) (sym c.pin.ensures.state)
    (one_like (parts self.mind [] 0) (parts c.pin.new.self [] 0) s.holds (along (λ (z : All). z.one_bytes) c.pin.ensures.brings.rest) (along (λ (z : All). z.doubt) c.pin.ensures.brings.rest) self.first)
