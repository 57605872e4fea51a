use Rattle.std.proofs.Common.{List, subst, sym, ◌∙◌, ◌≡◌, length, arith}
use Rattle.fo_files_way.specs.declared.plan.Level.{Level}
use Rattle.fo_files_way.proofs.Going.{Going, going_none, going_next}
use Rattle.fo_files_plan.proofs.own.own_way.Goals as goal
use Rattle.fo_files_plan.proofs.Counting.{Counted, counted_none, counted_next, counted_all}

pub loop-level-init : goal.loop-level-init
loop-level-init g c =
    let s = g.B.Blocks.state c.args.on.now in
    let p = c.args.plan in
    let keeps = g.met.B.Blocks.keeps_at_once c.args.on.now in (
      going_none s p.levels.items p.at.items p.tags.items (g.met.B.Blocks.keeps_all c.args.on.now c.args.on.now keeps) c.requires.plan.may c.requires.spare,
      c.requires.plan.blocks,
      keeps,
      counted_none s p.levels.items p.at.items,
    )

pub loop-level-preserved : goal.loop-level-preserved
loop-level-preserved g c =
    let s = g.B.Blocks.state c.args.on.now in
    let m = g.B.Blocks.state c.loop-level.on in
    let p = c.args.plan in
    let going = subst (λ (xs : List Level). Going s m c.loop-level.k p.levels.items xs p.at.items c.loop-level.at.items p.tags.items) c.in-Some.ensures.items c.loop-level.invariant.0 in (
      going_next s m (g.B.Blocks.state c.own_level.new.on) c.loop-level.k p.levels.items c.in-Some.level c.pop_front.new.self.items p.at.items c.loop-level.at.items c.own_level.new.at.items p.tags.items c.requires.silent going
          (g.met.B.Blocks.keeps_all c.loop-level.on c.own_level.new.on c.own_level.ensures.keeps) c.own_level.ensures.owned c.own_level.ensures.spare,
      c.own_level.ensures.blocks,
      g.met.B.Blocks.keeps_joins c.args.on.now c.loop-level.on c.own_level.new.on c.loop-level.invariant.2 c.own_level.ensures.keeps,
      counted_next s m (g.B.Blocks.state c.own_level.new.on) p.levels.items c.in-Some.level c.pop_front.new.self.items c.loop-level.k _ c.loop-level.at.items c.own_level.new.at.items going.may.each.0.above c.own_level.ensures.owned.sets
          (subst (λ (xs : List Level). Counted p.levels.items xs c.loop-level.k c.loop-level.at.items s m) c.in-Some.ensures.items c.loop-level.invariant.3) c.own_level.ensures.dirties,
    )

pub returns-clause-dirties : goal.returns-clause-dirties
returns-clause-dirties g c =
    let s = g.B.Blocks.state c.args.on.now in
    let m = g.B.Blocks.state c.loop-level.on in
    let count = c.loop-level.invariant.0.may.count in
    let none : length c.loop-level.levels.items ≡ 0 = sym c.loop-level.levels.ok.0 ∙ c.in_default.ensures.cases.0 in
    counted_all s m c.args.plan.levels.items c.loop-level.levels.items c.loop-level.k c.loop-level.at.items (omega (arith, count, none)) c.loop-level.invariant.3
