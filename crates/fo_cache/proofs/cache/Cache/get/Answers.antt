use Rattle.std.proofs.Common.{◌<◌, ◌≤◌, [], Result, Ok, Err, sym, ap, subst}
use Rattle.std.specs.Result.{OnOk}
use Rattle.fo_disk.specs.Disk.{DiskState}
use Rattle.fo_labels.specs.Region.{Region}
use Rattle.fo_mind.specs.MindParts.{parts}
use Rattle.fo_mind.specs.Parts.{Parts, count_of}
use Rattle.fo_mind.specs.Turning.{Turning}
use Rattle.fo_mind.proofs.Results.{on_ok}
use Rattle.fo_cache.specs.Fits.{Fits}
use Rattle.fo_cache.proofs.Calling.{fits_got}
use Rattle.fo_cache.specs.Fits.{FitsLabels}
use Rattle.fo_order.specs.Keeps.{Turns}
use Rattle.fo_order.specs.Turns.{flag_at}
use Rattle.fo_cache.proofs.Labelling.{labels_kept}
use Rattle.fo_cache.proofs.Firsts.{one_like}
use Rattle.std.proofs.Common.{ap as along}
use Rattle.fo_mind.specs.Parts.{Parts as All}
use Rattle.fo_cache.specs.Fits.{FitsOne}
use Rattle.fo_cache.proofs.cache.Cache.get.Goals as goal

and_ok : {T E : Type 0} (P Q : Type 0) (r : Result T E) → OnOk r P → OnOk r Q → OnOk r (P × Q)
and_ok P Q (Ok x) p q = (p, q)
and_ok P Q (Err e) p q = tt

pub get-requires-clause-block : goal.get-requires-clause-block
get-requires-clause-block g c =
    let self = c.args.self.now in
    (subst (λ n. n ≤ c.args.at) self.mind.placed.is_first c.requires.block.0, subst (λ n. c.args.at < n) self.mind.placed.is_count c.requires.block.1)

pub get-requires-clause-within : goal.get-requires-clause-within
get-requires-clause-within g c = let self = c.args.self.now in subst (λ n. n ≤ g.D.Disk.size self.main) self.mind.placed.is_count self.sized

pub invariant_of-self-clause-fits : goal.invariant_of-self-clause-fits
invariant_of-self-clause-fits g c =
    let self = c.args.self.now in
    let s = g.D.Disk.state self.main in
    let p = parts self.mind [] 0 in
    let q = parts c.get.new.self [] 0 in
    let b = c.get.ensures.brings in
    let turning = subst (λ n. Turning n p.held p.turns p.facts) (sym self.mind.placed.is_first) self.mind.turning in
    subst (λ (t : DiskState). Fits (record q { disk = t.holds }) t.unsure) (sym c.get.ensures.state)
    (fits_got p q c.args.at s.holds s.unsure (ap (λ (x : Parts). x.turns) b.rest) (ap (λ (x : Parts). x.region) b.rest) turning b.others b.bytes c.get.ensures.comes self.fits)

pub invariant_of-self-clause-sized : goal.invariant_of-self-clause-sized
invariant_of-self-clause-sized g c =
    let self = c.args.self.now in
    let b = c.get.ensures.brings in
    subst (λ n. count_of (parts c.get.new.self [] 0).region ≤ n) (sym c.get.ensures.size)
    (subst (λ (x : Region). count_of x ≤ g.D.Disk.size self.main) (sym (ap (λ (x : Parts). x.region) b.rest)) self.sized)

pub returns-clause-bytes : goal.returns-clause-bytes
returns-clause-bytes g c = on_ok c.get.result (λ got. (got.reads, got.slots)) c.get.ensures.got

pub returns-clause-formed : goal.returns-clause-formed
returns-clause-formed g c = and_ok _ _ c.get.result (on_ok c.get.result (λ got. got.formed) c.get.ensures.got) c.get.ensures.kind

pub returns-clause-names : goal.returns-clause-names
returns-clause-names g c =
    let new = c.get.new.self in
    on_ok c.get.result (λ got i below e. let b = got.names i below e in (subst (λ n. n ≤ below) (sym new.placed.is_first) b.0, subst (λ n. below < n) (sym new.placed.is_count) b.1)) c.get.ensures.got

pub invariant_of-self-clause-spelled : goal.invariant_of-self-clause-spelled
invariant_of-self-clause-spelled g c =
    let self = c.args.self.now in
    let s = g.D.Disk.state self.main in
    let q = parts c.get.new.self [] 0 in
    let b = c.get.ensures.brings in
    subst (λ (t : DiskState). FitsLabels (record q { disk = t.holds }) t.unsure) (sym c.get.ensures.state)
    (labels_kept (parts self.mind [] 0) q s.holds s.unsure (ap (λ (x : Parts). x.region) b.rest) (λ k lt. ap (λ (t : Turns). flag_at t k) (ap (λ (x : Parts). x.turns) b.rest)) self.spelled)

pub invariant_of-self-clause-first : goal.invariant_of-self-clause-first
invariant_of-self-clause-first g c =
    let self = c.args.self.now in
    let s = g.D.Disk.state self.main in
    subst (λ (t : DiskState). FitsOne (parts c.get.new.self [] 0).one_bytes (parts c.get.new.self [] 0).doubt t.holds) (sym c.get.ensures.state)
    (one_like (parts self.mind [] 0) (parts c.get.new.self [] 0) s.holds (along (λ (z : All). z.one_bytes) c.get.ensures.brings.rest) (along (λ (z : All). z.doubt) c.get.ensures.brings.rest) self.first)
