use Rattle.std.proofs.Common.{◌≡◌, ◌≤◌, ◌+◌, drop, length, length-append, refl, sym, ap, ◌∙◌, arith}
use Rattle.std.proofs.lemmas.List.{drop_all}
use Rattle.std.proofs.lemmas.Result.{err_from_is_err_and}
use Rattle.fo_world.specs.World.{World}
use Rattle.fo_world.specs.declared.error.FileError.TheVariants as error
use Rattle.nine_fids.specs.Told.{Files, served}
use Rattle.nine_fids.proofs.Seeing.{cause_since, follows, looks_after}
use Rattle.nine_files.specs.Walking.{next_by}
use Rattle.nine_files.proofs.Links.{miss_if_failure, told_if_plain}
use Rattle.nine_files.proofs.Making.{state_of}
use Rattle.nine_files.proofs.Walks.{name_here, next_plain, walk_done, walk_on, walk_stops}
use Rattle.nine_files.proofs.walking.follow.Goals as goal

pub returns-in_err-push-in-Ok-clause-comes : goal.returns-in_err-push-in-Ok-clause-comes
returns-in_err-push-in-Ok-clause-comes g c =
    let p = err_from_is_err_and c.from_residual.result c.from_residual.ensures.1 in
    rw (p.1, p.2) (λ h. (error.Memory, refl, tt))

pub returns-in_err-push-in-Ok-clause-cause : goal.returns-in_err-push-in-Ok-clause-cause
returns-in_err-push-in-Ok-clause-cause g c =
    let p = err_from_is_err_and c.from_residual.result c.from_residual.ensures.1 in
    rw (p.1, p.2) tt

pub returns-then-is_failure-clause-comes : goal.returns-then-is_failure-clause-comes
returns-then-is_failure-clause-comes g c =
    let f = c.args.files.now in
    let e = served (g.F.FileOps.whole f) (g.F.FileOps.largest f) in
    let w = g.F.FileOps.world f in
    let met = g.met.F.FileOps in
    let k = c.loop-name.invariant.keeps in
    let a = state_of (g.F.FileOps.whole f) (g.F.FileOps.largest f) (g.F.FileOps.world f) (g.F.FileOps.faults f) (g.F.FileOps.honest f) (g.F.FileOps.has_room f) in
    let later = c.loop-name.files in
    let b = state_of (g.F.FileOps.whole later) (g.F.FileOps.largest later) (g.F.FileOps.world later) (g.F.FileOps.faults later) (g.F.FileOps.honest later) (g.F.FileOps.has_room later) in
    let told = λ (e : Files) (w : World). next_by c.args.users.now e w c.args.user.now c.loop-name.last c.as_slice.result.now in
    λ h. miss_if_failure (told e w) (g.F.FileOps.faults f) (g.F.FileOps.faults c.next.new.files) (g.F.FileOps.honest f) c.in-Err.refusal
    (next_plain c.args.users.now e w c.args.user.now c.loop-name.last c.as_slice.result.now) (sym c.is_failure.ensures ∙ c.if-is_failure.true)
    ((looks_after a b _ told told _ (follows _ _ (met.keeps_whole _ _ k) (met.keeps_largest _ _ k) (met.keeps_faults _ _ k) (met.keeps_honest _ _ k)) c.loop-name.invariant.world (λ h. refl) c.in-Err.ensures.looks).answer h)

pub returns-then-is_failure-clause-cause : goal.returns-then-is_failure-clause-cause
returns-then-is_failure-clause-cause g c =
    let f = c.args.files.now in
    let met = g.met.F.FileOps in
    let k = c.loop-name.invariant.keeps in
    let a = state_of (g.F.FileOps.whole f) (g.F.FileOps.largest f) (g.F.FileOps.world f) (g.F.FileOps.faults f) (g.F.FileOps.honest f) (g.F.FileOps.has_room f) in
    let later = c.loop-name.files in
    let b = state_of (g.F.FileOps.whole later) (g.F.FileOps.largest later) (g.F.FileOps.world later) (g.F.FileOps.faults later) (g.F.FileOps.honest later) (g.F.FileOps.has_room later) in
    let end = c.next.new.files in
    cause_since a b (state_of (g.F.FileOps.whole end) (g.F.FileOps.largest end) (g.F.FileOps.world end) (g.F.FileOps.faults end) (g.F.FileOps.honest end) (g.F.FileOps.has_room end)) 0 c.in-Err.refusal (follows _ _ (met.keeps_whole _ _ k) (met.keeps_largest _ _ k) (met.keeps_faults _ _ k) (met.keeps_honest _ _ k)) c.in-Err.ensures.looks.cause

pub returns-then-is_failure-clause-world : goal.returns-then-is_failure-clause-world
returns-then-is_failure-clause-world g c =
    let met = g.met.F.FileOps in
    λ h. c.in-Err.ensures.looks.world (met.keeps_honest _ _ c.loop-name.invariant.keeps h) ∙ c.loop-name.invariant.world h

pub returns-then-is_failure-clause-keeps : goal.returns-then-is_failure-clause-keeps
returns-then-is_failure-clause-keeps g c =
    g.met.F.FileOps.keeps_joins _ _ _ c.loop-name.invariant.keeps c.next.ensures.keeps

pub returns-in-Err-clause-comes : goal.returns-in-Err-clause-comes
returns-in-Err-clause-comes g c =
    let f = c.args.files.now in
    let e = served (g.F.FileOps.whole f) (g.F.FileOps.largest f) in
    let w = g.F.FileOps.world f in
    let met = g.met.F.FileOps in
    let k = c.loop-name.invariant.keeps in
    let a = state_of (g.F.FileOps.whole f) (g.F.FileOps.largest f) (g.F.FileOps.world f) (g.F.FileOps.faults f) (g.F.FileOps.honest f) (g.F.FileOps.has_room f) in
    let later = c.loop-name.files in
    let b = state_of (g.F.FileOps.whole later) (g.F.FileOps.largest later) (g.F.FileOps.world later) (g.F.FileOps.faults later) (g.F.FileOps.honest later) (g.F.FileOps.has_room later) in
    let told = λ (e : Files) (w : World). next_by c.args.users.now e w c.args.user.now c.loop-name.last c.name-item.result in
    let front = name_here c.args.names.now c.loop-name.name-index c.name-item.result c.loop-name-test.true c.name-item.is in
    let looks = rw c.as_slice.ensures at c.in-Err.ensures.looks in
    rw c.new.ensures (λ h.
    let stops = told_if_plain (told e w) (g.F.FileOps.faults f) (g.F.FileOps.faults c.next.new.files) (g.F.FileOps.honest f) c.in-Err.refusal (sym c.is_failure.ensures ∙ c.if-is_failure.false)
    ((looks_after a b _ told told _ (follows _ _ (met.keeps_whole _ _ k) (met.keeps_largest _ _ k) (met.keeps_faults _ _ k) (met.keeps_honest _ _ k)) c.loop-name.invariant.world (λ h. refl) looks).answer h) in
    sym (c.loop-name.invariant.comes h ∙ walk_stops c.args.users.now e w c.args.user.now (drop c.loop-name.name-index c.args.names.now) (drop (c.loop-name.name-index + 1) c.args.names.now) c.name-item.result c.loop-name.qids.items c.loop-name.last c.in-Err.refusal front stops))

pub returns-in-Err-clause-part : goal.returns-in-Err-clause-part
returns-in-Err-clause-part g c =
    let long : length c.loop-name.qids.items ≡ c.loop-name.name-index = c.loop-name.invariant.passed in
    rw c.new.ensures (record { within = omega (arith, long, c.loop-name-test.true); whole = λ e. absurd cc; plain = sym c.is_failure.ensures ∙ c.if-is_failure.false })

pub returns-in-Err-clause-world : goal.returns-in-Err-clause-world
returns-in-Err-clause-world g c =
    let met = g.met.F.FileOps in
    λ h. c.in-Err.ensures.looks.world (met.keeps_honest _ _ c.loop-name.invariant.keeps h) ∙ c.loop-name.invariant.world h

pub returns-in-Err-clause-keeps : goal.returns-in-Err-clause-keeps
returns-in-Err-clause-keeps g c =
    g.met.F.FileOps.keeps_joins _ _ _ c.loop-name.invariant.keeps c.next.ensures.keeps

pub loop-name-preserved : goal.loop-name-preserved
loop-name-preserved g c =
    let f = c.args.files.now in
    let e = served (g.F.FileOps.whole f) (g.F.FileOps.largest f) in
    let w = g.F.FileOps.world f in
    let met = g.met.F.FileOps in
    let k = c.loop-name.invariant.keeps in
    let a = state_of (g.F.FileOps.whole f) (g.F.FileOps.largest f) (g.F.FileOps.world f) (g.F.FileOps.faults f) (g.F.FileOps.honest f) (g.F.FileOps.has_room f) in
    let later = c.loop-name.files in
    let b = state_of (g.F.FileOps.whole later) (g.F.FileOps.largest later) (g.F.FileOps.world later) (g.F.FileOps.faults later) (g.F.FileOps.honest later) (g.F.FileOps.has_room later) in
    let told = λ (e : Files) (w : World). next_by c.args.users.now e w c.args.user.now c.loop-name.last c.name-item.result in
    let front = name_here c.args.names.now c.loop-name.name-index c.name-item.result c.loop-name-test.true c.name-item.is in
    let looks = rw c.as_slice.ensures at c.in-Ok.ensures.looks in
    let long : length c.loop-name.qids.items ≡ c.loop-name.name-index = c.loop-name.invariant.passed in
    record {
      comes = rw (c.in_ok-push-in-Ok.ensures.items, c.qid_of.ensures) (λ h. c.loop-name.invariant.comes h ∙ walk_on c.args.users.now e w c.args.user.now (drop c.loop-name.name-index c.args.names.now) (drop (c.loop-name.name-index + 1) c.args.names.now) c.name-item.result c.loop-name.qids.items c.loop-name.last c.in-Ok.found front
          ((looks_after a b _ told told _ (follows _ _ (met.keeps_whole _ _ k) (met.keeps_largest _ _ k) (met.keeps_faults _ _ k) (met.keeps_honest _ _ k)) c.loop-name.invariant.world (λ h. refl) looks).answer h));
      passed = rw (c.in_ok-push-in-Ok.ensures.items) (length-append c.loop-name.qids.items _ ∙ ap (λ n. n + 1) long);
      within = omega (arith, c.loop-name-test.true);
      world = λ h. c.in-Ok.ensures.looks.world (met.keeps_honest _ _ k h) ∙ c.loop-name.invariant.world h;
      keeps = met.keeps_joins _ _ _ k c.next.ensures.keeps;
    }

pub returns-clause-comes : goal.returns-clause-comes
returns-clause-comes g c =
    let f = c.args.files.now in
    let e = served (g.F.FileOps.whole f) (g.F.FileOps.largest f) in
    let w = g.F.FileOps.world f in
    rw c.new-2.ensures (λ h. sym (c.loop-name.invariant.comes h ∙ walk_done c.args.users.now e w c.args.user.now (drop c.loop-name.name-index c.args.names.now) c.loop-name.qids.items c.loop-name.last (drop_all c.loop-name.name-index c.args.names.now c.loop-name-test.false)))

pub returns-clause-part : goal.returns-clause-part
returns-clause-part g c =
    let long : length c.loop-name.qids.items ≡ c.loop-name.name-index = c.loop-name.invariant.passed in
    let within : c.loop-name.name-index ≤ length c.args.names.now = c.loop-name.invariant.within in
    rw c.new-2.ensures (record { within = omega (arith, long, within); whole = λ e. omega (arith, long, within, c.loop-name-test.false); plain = tt })
