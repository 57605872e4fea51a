use Rattle.std.proofs.Common.{◌≤◌, [], sym, subst, arith}
use Rattle.fo_mind.specs.MindParts.{parts}
use Rattle.fo_mind.specs.Parts.{count_of}
use Rattle.fo_cache.proofs.Trials.{fits_one, labels_one, one_within}
use Rattle.fo_cache.proofs.Firsts.{as_memory, one_written}
use Rattle.fo_cache.proofs.Headers.{header_wrote}
use Rattle.fo_cache.proofs.cache.Cache.write_one.Goals as goal

pub write-requires-clause-block : goal.write-requires-clause-block
write-requires-clause-block g c = let self = c.args.self.now in one_within (parts self.mind [] 0) (g.D.Disk.size self.main) self.mind.placed self.sized

pub invariant_of-self-clause-fits : goal.invariant_of-self-clause-fits
invariant_of-self-clause-fits g c =
    let self = c.args.self.now in
    fits_one (g.D.Disk.state self.main) (g.D.Disk.state c.write.new.self) (parts self.mind [] 0) self.mind.placed c.write.result c.write.ensures.state self.fits

pub invariant_of-self-clause-spelled : goal.invariant_of-self-clause-spelled
invariant_of-self-clause-spelled g c =
    let self = c.args.self.now in
    labels_one (g.D.Disk.state self.main) (g.D.Disk.state c.write.new.self) (parts self.mind [] 0) self.mind.placed c.write.result c.write.ensures.state self.spelled

pub invariant_of-self-clause-sized : goal.invariant_of-self-clause-sized
invariant_of-self-clause-sized g c = let self = c.args.self.now in subst (λ n. count_of (parts self.mind [] 0).region ≤ n) (sym c.write.ensures.size) self.sized

pub invariant_of-self-clause-first : goal.invariant_of-self-clause-first
invariant_of-self-clause-first g c =
    let self = c.args.self.now in
    let s = g.D.Disk.state self.main in
    let p = parts self.mind [] 0 in
    one_written p.one_bytes p.doubt c.one_bytes.result.now s (g.D.Disk.state c.write.new.self) self.first (as_memory p.one_bytes p.doubt c.one_bytes.result.now c.one_bytes.ensures.value) c.write.result c.write.ensures.state

pub invariant_of-self-clause-header : goal.invariant_of-self-clause-header
invariant_of-self-clause-header g c =
    let self = c.args.self.now in
    header_wrote (g.D.Disk.state self.main) (g.D.Disk.state c.write.new.self) 1 (omega arith) c.write.result c.write.ensures.state self.header

pub returns-clause-calls : goal.returns-clause-calls
returns-clause-calls g c = let e = c.write.ensures.calls in omega (arith, e)
