use Rattle.std.proofs.Common.{◌∙◌, refl, subst, arith}
use Rattle.fo_disk.specs.Disk.{DiskState}
use Rattle.fo_mind.specs.MindParts.{parts}
use Rattle.fo_closing.specs.Closings.{Closings}
use Rattle.fo_closing.proofs.Leaving.{leaves_closings}
use Rattle.fo_closing.proofs.Taking.{closings_join}
use Rattle.fo_closing.proofs.until.close_until.Goals as goal

pub returns-in_err-close_more-clause-closes : goal.returns-in_err-close_more-clause-closes
returns-in_err-close_more-clause-closes g c =
    let p = parts c.loop.mind (g.D.Disk.state c.loop.main).holds (g.D.Disk.faults c.loop.main) in
    let q = parts c.close_more.new.mind (g.D.Disk.state c.close_more.new.main).holds (g.D.Disk.faults c.close_more.new.main) in
    closings_join c.loop.invariant.closes (subst (λ (s : DiskState). Closings s.holds p q c.loop.mind.queue c.close_more.new.mind.queue) c.loop.invariant.state c.close_more.ensures.closes)

pub returns-clause-closes : goal.returns-clause-closes
returns-clause-closes g c =
    let p = parts c.loop.mind (g.D.Disk.state c.loop.main).holds (g.D.Disk.faults c.loop.main) in
    let q = parts c.close_more.new.mind (g.D.Disk.state c.close_more.new.main).holds (g.D.Disk.faults c.close_more.new.main) in
    closings_join c.loop.invariant.closes (subst (λ (s : DiskState). Closings s.holds p q c.loop.mind.queue c.close_more.new.mind.queue) c.loop.invariant.state c.close_more.ensures.closes)

pub loop-preserved : goal.loop-preserved
loop-preserved g c =
    let was = c.loop.invariant in
    let now = c.close_more.ensures in
    let p = parts c.loop.mind (g.D.Disk.state c.loop.main).holds (g.D.Disk.faults c.loop.main) in
    let q = parts c.close_more.new.mind (g.D.Disk.state c.close_more.new.main).holds (g.D.Disk.faults c.close_more.new.main) in
    record {
      count = now.count ∙ was.count;
      rest = now.rest;
      closes = closings_join was.closes (subst (λ (s : DiskState). Closings s.holds p q c.loop.mind.queue c.close_more.new.mind.queue) was.state now.closes);
      size = now.size ∙ was.size;
      state = now.state ∙ was.state;
      later = let x = was.later in let y = now.later in omega (arith, x, y);
    }

pub close_more-requires-clause-within : goal.close_more-requires-clause-within
close_more-requires-clause-within g c =
    let k = c.loop.invariant.count in
    let s = c.loop.invariant.size in
    let w = c.requires.within in
    omega (arith, k, s, w)

pub returns-in_err-close_more-clause-leaves : goal.returns-in_err-close_more-clause-leaves
returns-in_err-close_more-clause-leaves g c = leaves_closings _ _ c.args.mind.now.queue _ refl (returns-in_err-close_more-clause-closes g c)

pub returns-clause-leaves : goal.returns-clause-leaves
returns-clause-leaves g c = leaves_closings _ _ c.args.mind.now.queue _ refl (returns-clause-closes g c)
