use Rattle.std.proofs.Common.{refl, ◌∙◌}
use Rattle.fo_turning.proofs.close.forget_all.Goals as goal

pub loop-init : goal.loop-init
loop-init c = record { held = λ b. refl; clean = λ b bytes k. k; room = refl }

pub loop-preserved : goal.loop-preserved
loop-preserved c = record {
  held = λ b. c.forget_more.ensures.held b ∙ c.loop.invariant.held b;
  clean = λ b bytes k. c.loop.invariant.clean b bytes (c.forget_more.ensures.clean b bytes k);
  room = c.forget_more.ensures.room ∙ c.loop.invariant.room;
}

pub forget_more-requires : goal.forget_more-requires
forget_more-requires c = c.loop.invariant.held c.args.at ∙ c.requires

pub returns-clause-held : goal.returns-clause-held
returns-clause-held c = λ b. c.forget_more.ensures.held b ∙ c.loop.invariant.held b

pub returns-clause-clean : goal.returns-clause-clean
returns-clause-clean c = λ b bytes k. c.loop.invariant.clean b bytes (c.forget_more.ensures.clean b bytes k)

pub returns-clause-gone : goal.returns-clause-gone
returns-clause-gone c = c.forget_more.ensures.gone c.loop-test.false
