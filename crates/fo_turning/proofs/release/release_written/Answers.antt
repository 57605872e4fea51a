use Rattle.std.proofs.Common.{◌≡◌, inl, inr, rules, ⊎_elim, [], refl, sym, ap, ◌∙◌, subst}
use Rattle.fo_mind.specs.MindParts.{parts}
use Rattle.fo_mind.specs.Turning.{may_release}
use Rattle.fo_cache.proofs.Easing.{eases_none, eases_on}
use Rattle.fo_turning.specs.Flushes.{IsMarked}
use Rattle.fo_turning.proofs.Releasing.{lets_more, lets_moved, lets_none, lets_on, marked_last, marked_left, marked_more, none_marked, still_not}
use Rattle.fo_turning.proofs.release.release_written.Goals as goal

pub loop-mark-init : goal.loop-mark-init
loop-mark-init g c =
    let old = c.args.cache.now in
    record {
      lets = lets_none (IsMarked c.args.marks.items) (g.D.Disk.state old.main).holds (parts old.mind [] 0) (parts old.mind [] 0) refl;
      gone = λ b m. inl m;
      within = λ b m. m;
      eases = eases_none (parts old.mind (g.D.Disk.state old.main).holds (g.D.Disk.faults old.main));
      device = refl;
    }

pub loop-mark-preserved : goal.loop-mark-preserved
loop-mark-preserved g c =
    let fn = c.args.cache.now in
    let l = c.loop-mark.cache in
    let i = c.loop-mark.invariant in
    let e = c.release_one.ensures in
    let q = parts c.release_one.new.cache.mind [] 0 in
    let is = c.in-Some.ensures.items in
    let all = c.loop-mark.left.items in
    let left = c.pop.new.self.items in
    let step = lets_moved (λ m. (g.D.Disk.state m).holds) fn.main l.main (λ b. b ≡ c.in-Some.mark.at) (parts l.mind [] 0) q i.device e.lets in
    record {
      lets = lets_on i.lets (lets_more (λ b h. i.within b (subst (IsMarked all) (sym h) (marked_last all left c.in-Some.mark is))) step);
      gone = λ b m. ⊎_elim
          (λ here. ⊎_elim
          (λ before. inl before)
          (λ last. inr (ap (may_release q) last ∙ e.gone))
          (marked_left all left c.in-Some.mark b is here))
          (λ may_not. inr (still_not step b may_not))
          (i.gone b m);
      within = λ b m. i.within b (marked_more all left c.in-Some.mark b is m);
      eases = eases_on i.eases e.eases;
      device = e.device ∙ i.device;
    }

pub returns-clause-releases : goal.returns-clause-releases
returns-clause-releases g c =
    let i = c.loop-mark.invariant in
    record {
      lets = i.lets;
      gone = λ b m. ⊎_elim
          (λ here. absurd (none_marked c.loop-mark.left.items b (search rules) here))
          (λ may_not. may_not)
          (i.gone b m);
    }
