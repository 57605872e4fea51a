use Rattle.std.proofs.Common.{◌≡◌, ◌+◌, ◌<◌, ◌∙◌, suc, drop, length, refl, subst, arith}
use Rattle.std.proofs.lemmas.List.{drop_all}
use Rattle.std.proofs.lemmas.Result.{err_from_is_err_and}
use Rattle.fo_world.specs.Tree.{along}
use Rattle.fo_vac_files.specs.Stands.{Along}
use Rattle.fo_vac_walk.proofs.Blocks.{still_told}
use Rattle.fo_vac_files.proofs.Going.{at_start, comes_along, fails_along, comes_at_end}
use Rattle.fo_vac_files.proofs.reach.follow.Goals as goal

pub steps-init : goal.steps-init
steps-init g c = record {
  shelf = refl;
  kept = refl;
  later = omega arith;
  holds = c.requires;
  along = λ h o n k s. at_start h o c.args.trail.now n c.args.from s;
}

pub returns-in_err-next-clause-held : goal.returns-in_err-next-clause-held
returns-in_err-next-clause-held g c = λ h o n k s.
    let p = err_from_is_err_and c.from_residual.result c.from_residual.ensures.1 in
    let i = c.steps.invariant in
    let test = c.steps-test.true in
    let trail = c.args.trail.now in
    let lt : c.steps.k < length trail = omega (arith, test) in
    let a = i.along h o n k s in
    rw (p.1, p.2) (fails_along h o (along trail n) trail c.steps.k c.steps.here c.in_err-next.field-0.0 a lt (c.in_err-next.ensures.held h o a.node (still_told h _ _ _ _ i.shelf i.kept k) a.stands))

pub steps-preserved : goal.steps-preserved
steps-preserved g c =
    let i = c.steps.invariant in
    let e = c.in_ok-next.ensures in
    let before = i.later in
    let more = e.cause.later in
    let test = c.steps-test.true in
    let trail = c.args.trail.now in
    let lt : c.steps.k < length trail = omega (arith, test) in
    let next : suc c.steps.k ≡ c.steps.k + 1 = omega arith in
    record {
      shelf = e.shelf ∙ i.shelf;
      kept = e.kept ∙ i.kept;
      later = omega (arith, before, more);
      holds = e.holds;
      along = λ h o n k s.
          let a = i.along h o n k s in
          subst (λ j. Along h o (along trail n) (drop j trail) c.in_ok-next.next) next
          (comes_along h o (along trail n) trail c.steps.k c.steps.here c.in_ok-next.next a lt (e.held h o a.node (still_told h _ _ _ _ i.shelf i.kept k) a.stands));
    }

pub returns-clause-held : goal.returns-clause-held
returns-clause-held g c = λ h o n k s.
    let test = c.steps-test.false in
    let trail = c.args.trail.now in
    comes_at_end h o (along trail n) (drop c.steps.k trail) c.steps.here (drop_all c.steps.k trail (omega (arith, test))) (c.steps.invariant.along h o n k s)
