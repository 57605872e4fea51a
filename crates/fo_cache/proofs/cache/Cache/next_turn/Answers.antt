use Rattle.std.proofs.Common.{◌≤◌, [], sym, subst}
use Rattle.fo_mind.specs.Parts.{Parts, count_of}
use Rattle.fo_cache.specs.Fits.{Fits, FitsLabels}
use Rattle.fo_mind.specs.MindParts.{parts}
use Rattle.fo_cache.proofs.Firsts.{one_like}
use Rattle.std.proofs.Common.{ap as along}
use Rattle.fo_mind.specs.Parts.{Parts as All}
use Rattle.fo_cache.proofs.cache.Cache.next_turn.Goals as goal

pub invariant_of-self-clause-fits : goal.invariant_of-self-clause-fits
invariant_of-self-clause-fits g c =
    let self = c.args.self.now in
    let s = g.D.Disk.state self.main in
    subst (λ (z : Parts). Fits (record z { disk = s.holds }) s.unsure) (sym (c.next_turn.ensures.same [] 0)) self.fits

pub invariant_of-self-clause-spelled : goal.invariant_of-self-clause-spelled
invariant_of-self-clause-spelled g c =
    let self = c.args.self.now in
    let s = g.D.Disk.state self.main in
    subst (λ (z : Parts). FitsLabels (record z { disk = s.holds }) s.unsure) (sym (c.next_turn.ensures.same [] 0)) self.spelled

pub invariant_of-self-clause-sized : goal.invariant_of-self-clause-sized
invariant_of-self-clause-sized g c =
    let self = c.args.self.now in
    subst (λ (z : Parts). count_of z.region ≤ g.D.Disk.size self.main) (sym (c.next_turn.ensures.same [] 0)) self.sized

pub returns-clause-same : goal.returns-clause-same
returns-clause-same g c = c.next_turn.ensures.same [] 0

pub invariant_of-self-clause-first : goal.invariant_of-self-clause-first
invariant_of-self-clause-first g c =
    let self = c.args.self.now in
    let s = g.D.Disk.state self.main in
    one_like (parts self.mind [] 0) (parts c.next_turn.new.self [] 0) s.holds (along (λ (z : All). z.one_bytes) (c.next_turn.ensures.same [] 0)) (along (λ (z : All). z.doubt) (c.next_turn.ensures.same [] 0)) self.first
