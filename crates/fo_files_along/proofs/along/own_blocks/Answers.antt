use Rattle.std.proofs.Common.{◌∙◌, arith}
use Rattle.fo_files_plan.proofs.of_files_at.Ways.{way_stays}
use Rattle.fo_files_along.proofs.Apart.{apart}
use Rattle.fo_files_along.proofs.along.own_blocks.Goals as goal
use Rattle.fo_files_plan.proofs.of_dirties.Adding.{dirties_first, dirties_fewer}
use Rattle.fo_files_plan.proofs.of_dirties.Putting.{dirties_looks}

pub own_way-requires-clause-silent : goal.own_way-requires-clause-silent
own_way-requires-clause-silent g c = λ h. c.requires.silent ((g.met.B.Blocks.keeps_all c.args.on.now c.plan_along.new.on c.plan_along.ensures.looks.1).still_tells.0 h)

pub own_way-requires-clause-spare : goal.own_way-requires-clause-spare
own_way-requires-clause-spare g c = let most = c.in-Ok.ensures.along.most in let same = c.plan_along.ensures.looks.0.room.0 in let enough = c.requires.spare in omega (arith, most, same, enough)

pub returns-clause-blocks : goal.returns-clause-blocks
returns-clause-blocks g c = (c.own_way.ensures.owned, c.own_way.ensures.carried.count ∙ c.in-Ok.ensures.along.count)

pub returns-clause-owned : goal.returns-clause-owned
returns-clause-owned g c = (
  c.plan_along.new.on,
  λ root trail way.
      let s = g.B.Blocks.state c.args.on.now in
      let m = g.B.Blocks.state c.plan_along.new.on in (
        c.plan_along.ensures.looks.0,
        record {
          found = way_stays s m root trail c.args.way.now (g.met.B.Blocks.keeps_all c.args.on.now c.plan_along.new.on c.plan_along.ensures.looks.1) way;
          levels = c.in-Ok.plan.levels.items;
          leaves = c.in-Ok.ensures.along.leaves;
          tags = c.in-Ok.plan.tags.items;
          old = c.in-Ok.plan.at.items;
          owned = c.own_way.ensures.owns;
          root_is = c.own_way.ensures.carried.root ∙ (c.in-Ok.ensures.trail root trail way).1;
          linked = c.own_way.ensures.linked;
          differ = apart m c.args.way.now.steps.items c.args.way.now.file c.in-Ok.plan c.in-Ok.ensures.along;
        },
      ),
)

pub returns-clause-keeps : goal.returns-clause-keeps
returns-clause-keeps g c = g.met.B.Blocks.keeps_joins c.args.on.now c.plan_along.new.on c.own_way.new.on c.plan_along.ensures.looks.1 c.own_way.ensures.keeps

pub returns-clause-dirties : goal.returns-clause-dirties
returns-clause-dirties g c =
    let most = c.in-Ok.ensures.along.most in
    dirties_first (dirties_looks (g.met.B.Blocks.keeps_all c.args.on.now c.plan_along.new.on c.plan_along.ensures.looks.1) c.plan_along.ensures.looks.0) (dirties_fewer (omega (arith, most)) (λ b h. h) c.own_way.ensures.dirties)
