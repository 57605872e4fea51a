use Rattle.std.proofs.Common.{◌≡◌, ◌+◌, ◌-◌, length, subst, arith, ⊎_elim, sym, ◌∙◌}
use Rattle.fo_files_plan.proofs.of_files_at.Ways.{file_stays, way_stays}
use Rattle.fo_files_plan.proofs.Trails.{steps_count}
use Rattle.fo_files_along.specs.Along.{IsStepOf, IsFileOf, IsAboveOf}
use Rattle.fo_files_along.proofs.Pairs.{entries_at, above_stands, numbers_differ}
use Rattle.fo_files_along.proofs.Ways.{file_holds}
use Rattle.fo_files_along.proofs.along.own_along.Goals as goal
use Rattle.fo_files_plan.proofs.of_dirties.Adding.{dirties_fewer}
use Rattle.fo_files_along.proofs.Standing.{step_in, above_in}
use Rattle.fo_files_plan.specs.of_files_way.Owns.{IsIn}

pub step_at-dir-requires-clause-way : goal.step_at-dir-requires-clause-way
step_at-dir-requires-clause-way g c =
    let w = c.requires.way in
    (w.0, (w.1.0, way_stays (g.B.Blocks.state c.args.on.now) (g.B.Blocks.state c.own_blocks.new.on) w.0 w.1.0 c.args.way.now (g.met.B.Blocks.keeps_all c.args.on.now c.own_blocks.new.on c.own_blocks.ensures.keeps) w.1.1))

pub above_at-above-requires-clause-way : goal.above_at-above-requires-clause-way
above_at-above-requires-clause-way g c =
    let w = c.requires.way in
    (w.0, (w.1.0, way_stays (g.B.Blocks.state c.args.on.now) (g.B.Blocks.state c.own_blocks.new.on) w.0 w.1.0 c.args.way.now (g.met.B.Blocks.keeps_all c.args.on.now c.own_blocks.new.on c.own_blocks.ensures.keeps) w.1.1))

pub file_at-file-requires-clause-holds : goal.file_at-file-requires-clause-holds
file_at-file-requires-clause-holds g c =
    let w = c.requires.way in
    file_stays (g.B.Blocks.state c.args.on.now) (g.B.Blocks.state c.own_blocks.new.on) c.args.way.now.file (g.met.B.Blocks.keeps_all c.args.on.now c.own_blocks.new.on c.own_blocks.ensures.keeps) (file_holds (g.B.Blocks.state c.args.on.now) w.0 w.1.0 c.args.way.now w.1.1)

pub returns-clause-entries : goal.returns-clause-entries
returns-clause-entries g c =
    let some = c.requires.some in
    let end = c.len-last.ensures in
    let count = c.in-Ok.ensures.blocks.1 in
    entries_at (g.B.Blocks.state c.own_blocks.new.on) c.in-Ok.blocks.items _ c.file_at-file.result.at c.in-Ok.ensures.blocks.0 (omega (arith, some, end)) (omega (arith, count, some, end)) c.file_at-file.ensures.is.0

pub returns-clause-above : goal.returns-clause-above
returns-clause-above g c =
    let w = c.requires.way in
    let some = c.requires.some in
    let end = c.len-last.ensures in
    let at = c.in-Ok.blocks.items in
    let steps = c.args.way.now.steps.items in
    let differ = (c.in-Ok.ensures.owned.1 w.0 w.1.0 w.1.1).1.differ in
    let own = c.step_at-dir.ensures.is in
    above_stands (g.B.Blocks.state c.own_blocks.new.on) at steps (c.len-last.result - 1) c.step_at-dir.result.at c.step_at-dir.result.number c.above_at-above.result c.in-Ok.ensures.blocks.0 c.in-Ok.ensures.blocks.1 (omega (arith, some, end)) own.pair.block_is c.above_at-above.ensures.holds c.above_at-above.ensures.is (λ a later above. numbers_differ at steps (c.len-last.result - 1) a c.step_at-dir.result differ later above own)

pub returns-clause-owned : goal.returns-clause-owned
returns-clause-owned g c =
    let w = c.in-Ok.ensures.owned in (
      w.0,
      λ root trail way.
          let o = w.1 root trail way in
          let s = g.B.Blocks.state c.args.on.now in
          let steps = c.args.way.now.steps.items in
          let at = c.in-Ok.blocks.items in
          let long = steps_count s 2120 steps c.args.way.now.file trail way.follows in
          let some = c.requires.some in
          let end = c.len-last.ensures in
          let is = c.file_at-file.ensures.is in
          let last : c.len-last.result - 1 ≡ length trail - 1 = omega (arith, long, some, end) in
          let whole : c.len-last.result - 1 + 1 ≡ length trail = omega (arith, long, some, end) in (
            o.0,
            record {
              at = at;
              owns = o.1;
              file_is = subst (λ k. IsFileOf at k c.args.way.now.file c.file_at-file.result) whole (record { block_is = is.0; slot_is = is.1; number_is = is.2; rank_is = is.3 });
              dir_is = subst (λ k. IsStepOf at steps k c.step_at-dir.result) last c.step_at-dir.ensures.is;
              above_is = subst (λ k. IsAboveOf at steps k c.above_at-above.result) last c.above_at-above.ensures.is;
            },
          ),
    )

pub returns-clause-dirties : goal.returns-clause-dirties
returns-clause-dirties g c =
    let at = c.in-Ok.blocks.items in
    let steps = c.args.way.now.steps.items in
    let count = c.in-Ok.ensures.blocks.1 in
    let some = c.requires.some in
    let end = c.len-last.ensures in
    dirties_fewer (omega arith) (λ b h. ⊎_elim
    (λ file. (c.len-last.result - 1 + 1, omega (arith, count, some, end), sym (file ∙ c.file_at-file.ensures.is.0)))
    (λ pair. ⊎_elim
    (λ own. subst (λ x. IsIn at x) (sym own) (step_in at steps (c.len-last.result - 1) c.step_at-dir.result count c.step_at-dir.ensures.is))
    (λ up. above_in at steps (c.len-last.result - 1) c.above_at-above.result b count c.above_at-above.ensures.is up)
    pair)
    h) c.in-Ok.ensures.dirties
