use Rattle.std.proofs.Common.{List, subst}
use Rattle.fo_files_way.specs.declared.plan.Level.{Level}
use Rattle.fo_files_way.proofs.Going.{Going, going_next}
use Rattle.fo_files_way.proofs.plan.Plan.own.Goals as goal

pub loop-level-preserved : goal.loop-level-preserved
loop-level-preserved g c =
    let s = g.B.Blocks.state c.args.on.now in
    let m = g.B.Blocks.state c.loop-level.on in
    let p = c.args.self in
    let going = subst (λ (xs : List Level). Going s m c.loop-level.k p.levels.items xs p.at.items c.loop-level.at.items p.tags.items) c.in-Some.ensures.items c.loop-level.invariant.0 in (
      going_next s m (g.B.Blocks.state c.own_level.new.on) c.loop-level.k p.levels.items c.in-Some.level c.pop_front.new.self.items p.at.items c.loop-level.at.items c.own_level.new.at.items p.tags.items c.requires.silent going
          (g.met.B.Blocks.keeps_all c.loop-level.on c.own_level.new.on c.own_level.ensures.keeps) c.own_level.ensures.owned c.own_level.ensures.spare,
      g.met.B.Blocks.keeps_joins c.args.on.now c.loop-level.on c.own_level.new.on c.loop-level.invariant.1 c.own_level.ensures.keeps,
    )
