use Rattle.std.proofs.Common.{refl, arith, sym}
use Rattle.std.proofs.lemmas.Result.{err_from_is_err_and}
use Rattle.fo_check.proofs.Stages.{shown_on, rest-blames, at_arena, at_active, at_rest, at_end}
use Rattle.fo_check.proofs.checker.open_images.Goals as goal

pub returns-in_err-open_arena-clause-answer : goal.returns-in_err-open_arena-clause-answer
returns-in_err-open_arena-clause-answer g c image vault shows shows_vault =
    let p = err_from_is_err_and c.from_residual-in_err-open_arena.result c.from_residual-in_err-open_arena.ensures.1 in
    let counts = (c.in_ok-blocks.ensures.answer image vault shows shows_vault).found in
    let super_block = c.in_ok-s.ensures.answer image counts.1 (shown_on c.in_ok-blocks.ensures.main shows) in
    let arena = c.in_err-open_arena.ensures.answer vault counts.2 (shown_on c.in_ok-blocks.ensures.arena shows_vault) in
    rw (p.1, p.2) (at_arena image vault counts.0 c.in_ok-s.s super_block.found _ arena.found (arena.only tt))

pub returns-in_err-root-clause-answer : goal.returns-in_err-root-clause-answer
returns-in_err-root-clause-answer g c image vault shows shows_vault =
    let p = err_from_is_err_and c.from_residual-in_err-root.result c.from_residual-in_err-root.ensures.1 in
    let counts = (c.in_ok-blocks.ensures.answer image vault shows shows_vault).found in
    let started = shown_on c.in_ok-blocks.ensures.main shows in
    let super_block = c.in_ok-s.ensures.answer image counts.1 started in
    let arena = c.in_ok-open_arena.ensures.answer vault counts.2 (shown_on c.in_ok-blocks.ensures.arena shows_vault) in
    let active = c.in_err-root.ensures.answer image counts.1 (shown_on c.in_ok-s.ensures.main started) in
    rw (p.1, p.2) (at_active image vault counts.0 c.in_ok-s.s super_block.found super_block.only arena.found _ active.found active.only)

pub returns-in_err-judge-clause-answer : goal.returns-in_err-judge-clause-answer
returns-in_err-judge-clause-answer g c image vault shows shows_vault =
    let p = err_from_is_err_and c.from_residual-in_err-judge.result c.from_residual-in_err-judge.ensures.1 in
    let counts = (c.in_ok-blocks.ensures.answer image vault shows shows_vault).found in
    let started = shown_on c.in_ok-blocks.ensures.main shows in
    let super_block = c.in_ok-s.ensures.answer image counts.1 started in
    let arena = c.in_ok-open_arena.ensures.answer vault counts.2 (shown_on c.in_ok-blocks.ensures.arena shows_vault) in
    let active = c.in_ok-root.ensures.answer image counts.1 (shown_on c.in_ok-s.ensures.main started) in
    rw (p.1, p.2) (at_rest image vault counts.0 c.in_ok-s.s super_block.found super_block.only arena.found c.in_ok-root.root active.found active.only _ c.in_err-judge.ensures.answer)

pub returns-in_err-judge-clause-causes : goal.returns-in_err-judge-clause-causes
returns-in_err-judge-clause-causes g c =
    let p = err_from_is_err_and c.from_residual-in_err-judge.result c.from_residual-in_err-judge.ensures.1 in
    rw (p.1, p.2) (record {
      main_later = omega (arith, c.in_ok-blocks.ensures.causes.main_later, c.in_ok-s.ensures.causes.main_later, c.in_ok-root.ensures.causes.main_later);
      arena_later = omega (arith, c.in_ok-blocks.ensures.causes.arena_later, c.in_ok-open_arena.ensures.causes.arena_later);
      failed = rest-blames c.in_ok-s.s c.in_ok-root.root _ _ _ _ _ c.in_err-judge.ensures.answer;
    })

pub returns-clause-answer : goal.returns-clause-answer
returns-clause-answer g c image vault shows shows_vault =
    let counts = (c.in_ok-blocks.ensures.answer image vault shows shows_vault).found in
    let started = shown_on c.in_ok-blocks.ensures.main shows in
    let super_block = c.in_ok-s.ensures.answer image counts.1 started in
    let arena = c.in_ok-open_arena.ensures.answer vault counts.2 (shown_on c.in_ok-blocks.ensures.arena shows_vault) in
    let active = c.in_ok-root.ensures.answer image counts.1 (shown_on c.in_ok-s.ensures.main started) in
    at_end image vault counts.0 c.in_ok-s.s super_block.found super_block.only arena.found c.in_ok-root.root active.found active.only _ (sym counts.1) refl refl c.in_ok-judge.ensures.answer.0 c.in_ok-judge.ensures.answer.1
