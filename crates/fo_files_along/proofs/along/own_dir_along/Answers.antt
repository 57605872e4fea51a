use Rattle.std.proofs.Common.{◌≡◌, length, inl, subst, arith, ⊎_elim, sym, ◌∙◌}
use Rattle.fo_files_plan.proofs.of_files_at.Ways.{file_stays, way_stays, end_rank}
use Rattle.fo_files_plan.proofs.Trails.{steps_count}
use Rattle.fo_files_along.specs.Along.{IsDirOf, IsAboveOf}
use Rattle.fo_files_along.proofs.Pairs.{above_stands, end_differs}
use Rattle.fo_files_along.proofs.Ways.{file_holds}
use Rattle.fo_files_along.proofs.along.own_dir_along.Goals as goal
use Rattle.fo_files_plan.proofs.of_dirties.Adding.{dirties_fewer}
use Rattle.fo_files_along.proofs.Standing.{above_in}

pub above_at-above-requires-clause-way : goal.above_at-above-requires-clause-way
above_at-above-requires-clause-way g c =
    let w = c.requires.way in
    (w.0, (w.1.0, way_stays (g.B.Blocks.state c.args.on.now) (g.B.Blocks.state c.own_blocks.new.on) w.0 w.1.0 c.args.way.now (g.met.B.Blocks.keeps_all c.args.on.now c.own_blocks.new.on c.own_blocks.ensures.keeps) w.1.1))

pub dir_at-dir-requires-clause-holds : goal.dir_at-dir-requires-clause-holds
dir_at-dir-requires-clause-holds g c =
    let w = c.requires.way in
    file_stays (g.B.Blocks.state c.args.on.now) (g.B.Blocks.state c.own_blocks.new.on) c.args.way.now.file (g.met.B.Blocks.keeps_all c.args.on.now c.own_blocks.new.on c.own_blocks.ensures.keeps) (file_holds (g.B.Blocks.state c.args.on.now) w.0 w.1.0 c.args.way.now w.1.1)

pub dir_at-dir-requires-clause-high : goal.dir_at-dir-requires-clause-high
dir_at-dir-requires-clause-high g c =
    let w = c.requires.way in
    let s = g.B.Blocks.state c.args.on.now in
    let ranked = end_rank s 2120 c.args.way.now.steps.items c.args.way.now.file w.1.0 w.1.1.follows in
    let long = steps_count s 2120 c.args.way.now.steps.items c.args.way.now.file w.1.0 w.1.1.follows in
    let short = c.requires.short in omega (arith, ranked, long, short)

pub returns-clause-above : goal.returns-clause-above
returns-clause-above g c =
    let at = c.in-Ok.blocks.items in
    let end = c.len-depth.ensures in
    let is = c.dir_at-dir.ensures.is in
    above_stands (g.B.Blocks.state c.own_blocks.new.on) at c.args.way.now.steps.items c.len-depth.result c.dir_at-dir.result.at c.dir_at-dir.result.number c.above_at-above.result c.in-Ok.ensures.blocks.0 c.in-Ok.ensures.blocks.1 (omega (arith, end)) is.0 c.above_at-above.ensures.holds c.above_at-above.ensures.is (λ a later above. end_differs at c.args.way.now c.len-depth.result c.dir_at-dir.result.number a (c.is_looped.ensures c.if-is_looped.false) (omega (arith, end)) later above is.2)

pub returns-clause-owned : goal.returns-clause-owned
returns-clause-owned g c =
    let w = c.in-Ok.ensures.owned in (
      w.0,
      λ root trail way.
          let o = w.1 root trail way in
          let s = g.B.Blocks.state c.args.on.now in
          let steps = c.args.way.now.steps.items in
          let at = c.in-Ok.blocks.items in
          let long = steps_count s 2120 steps c.args.way.now.file trail way.follows in
          let end = c.len-depth.ensures in
          let is = c.dir_at-dir.ensures.is in
          let whole : c.len-depth.result ≡ length trail = omega (arith, long, end) in (
            o.0,
            record {
              at = at;
              owns = o.1;
              dir_is = subst (λ k. IsDirOf at k c.args.way.now.file c.dir_at-dir.result) whole (record { block_is = is.0; slot_is = is.1; number_is = is.2; rank_is = is.3 });
              above_is = subst (λ k. IsAboveOf at steps k c.above_at-above.result) whole c.above_at-above.ensures.is;
            },
          ),
    )

pub returns-then-is_looped-clause-cause : goal.returns-then-is_looped-clause-cause
returns-then-is_looped-clause-cause g c =
    let w = c.requires.way in
    inl (file_holds (g.B.Blocks.state c.args.on.now) w.0 w.1.0 c.args.way.now w.1.1).stands

pub returns-clause-dirties : goal.returns-clause-dirties
returns-clause-dirties g c =
    let at = c.in-Ok.blocks.items in
    let steps = c.args.way.now.steps.items in
    let count = c.in-Ok.ensures.blocks.1 in
    let end = c.len-depth.ensures in
    dirties_fewer (omega arith) (λ b h. ⊎_elim
    (λ own. (c.len-depth.result, omega (arith, count, end), sym (own ∙ c.dir_at-dir.ensures.is.0)))
    (λ up. above_in at steps c.len-depth.result c.above_at-above.result b count c.above_at-above.ensures.is up)
    h) c.in-Ok.ensures.dirties
