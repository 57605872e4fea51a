use Rattle.std.proofs.Common.{◌≡◌, ◌∙◌, sym}
use Rattle.fo_takeout.specs.Walking.{Walking}
use Rattle.fo_takeout.specs.Kept.{view_of}
use Rattle.fo_takeout.proofs.Lowering.{step_less}
use Rattle.fo_takeout.proofs.walk.Walk.step.Goals as goal

pub returns-clause-lowers : goal.returns-clause-lowers
returns-clause-lowers c =
    let w : Walking = view_of c.self.inside in
    λ going. rw (c.add.ensures, c.pass.ensures, ← c.self.view_is) (step_less w c.in-Some.pair c.item-found.result (sym (rw (← c.self.view_is) at c.in-Some.ensures)) c.self.invariant.left)
