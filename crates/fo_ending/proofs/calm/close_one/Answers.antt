use Rattle.std.proofs.Common.{inl, inr, ⊎_elim, [], refl, ◌∙◌, subst, arith, rules}
use Rattle.fo_disk.specs.Disk.{DiskState}
use Rattle.fo_labels.specs.Region.{Region}
use Rattle.fo_mind.specs.MindParts.{parts}
use Rattle.fo_closing.specs.Closings.{Closings}
use Rattle.fo_closing.proofs.Leaving.{leaves_closings}
use Rattle.fo_closing.proofs.Taking.{closings_join}
use Rattle.fo_ending.specs.Steps.{ShutsOne}
use Rattle.fo_ending.proofs.calm.close_one.Goals as goal

pub close_calm-requires-clause-within : goal.close_calm-requires-clause-within
close_calm-requires-clause-within g c =
    let k = c.loop.invariant.count in
    let s = c.loop.invariant.size in
    let w = c.requires.within in
    omega (arith, k, s, w)

pub returns-in_err-close_calm-clause-closes : goal.returns-in_err-close_calm-clause-closes
returns-in_err-close_calm-clause-closes g c =
    let p = parts c.loop.mind (g.D.Disk.state c.loop.main).holds (g.D.Disk.faults c.loop.main) in
    let q = parts c.close_calm.new.mind (g.D.Disk.state c.close_calm.new.main).holds (g.D.Disk.faults c.close_calm.new.main) in
    closings_join c.loop.invariant.closes (subst (λ (s : DiskState). Closings s.holds p q c.loop.mind.queue c.close_calm.new.mind.queue) c.loop.invariant.state c.close_calm.ensures.closes)

pub returns-clause-closes : goal.returns-clause-closes
returns-clause-closes g c =
    let p = parts c.loop.mind (g.D.Disk.state c.loop.main).holds (g.D.Disk.faults c.loop.main) in
    let q = parts c.close_calm.new.mind (g.D.Disk.state c.close_calm.new.main).holds (g.D.Disk.faults c.close_calm.new.main) in
    closings_join c.loop.invariant.closes (subst (λ (s : DiskState). Closings s.holds p q c.loop.mind.queue c.close_calm.new.mind.queue) c.loop.invariant.state c.close_calm.ensures.closes)

pub loop-preserved : goal.loop-preserved
loop-preserved g c =
    let was = c.loop.invariant in
    let now = c.close_calm.ensures in
    let p = parts c.loop.mind (g.D.Disk.state c.loop.main).holds (g.D.Disk.faults c.loop.main) in
    let q = parts c.close_calm.new.mind (g.D.Disk.state c.close_calm.new.main).holds (g.D.Disk.faults c.close_calm.new.main) in
    record {
      count = now.count ∙ was.count;
      quiet = c.in_ok-close_calm.ensures.calm (search rules);
      same = c.in_ok-close_calm.ensures.same (search rules) ∙ was.same;
      rest = now.rest;
      closes = closings_join was.closes (subst (λ (s : DiskState). Closings s.holds p q c.loop.mind.queue c.close_calm.new.mind.queue) was.state now.closes);
      size = now.size ∙ was.size;
      state = now.state ∙ was.state;
      later = let x = was.later in let y = now.later in omega (arith, x, y);
    }

pub returns-in_err-close_calm-clause-leaves : goal.returns-in_err-close_calm-clause-leaves
returns-in_err-close_calm-clause-leaves g c = leaves_closings _ _ c.args.mind.now.queue _ refl (returns-in_err-close_calm-clause-closes g c)

pub returns-clause-leaves : goal.returns-clause-leaves
returns-clause-leaves g c = leaves_closings _ _ c.args.mind.now.queue _ refl (returns-clause-closes g c)

pub returns-clause-over : goal.returns-clause-over
returns-clause-over g c = ⊎_elim
    (λ none. inl none)
    (λ one. inr (subst (λ (r : Region). ShutsOne r (parts c.close_calm.new.mind [] 0).region) c.loop.invariant.same one))
    (c.in_ok-close_calm.ensures.over (search rules))
