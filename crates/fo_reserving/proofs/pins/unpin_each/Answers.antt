use Rattle.std.proofs.Common.{◌∙◌, [], inl, refl, rules}
use Rattle.fo_closing.specs.of_mind.MindParts.{parts}
use Rattle.fo_reserving.proofs.Ending.{kept_gone}
use Rattle.fo_reserving.proofs.Letting.{lets_none, lets_on}
use Rattle.fo_reserving.proofs.pins.unpin_each.Goals as goal

pub loop-init : goal.loop-init
loop-init g c = record { lets = lets_none (parts c.args.cache.now.mind [] 0); kept = λ b h. inl h; device = refl }

pub loop-preserved : goal.loop-preserved
loop-preserved g c = record { lets = lets_on c.loop.invariant.lets c.unpin_next.ensures.lets; kept = λ b h. c.unpin_next.ensures.kept b (c.loop.invariant.kept b h); device = c.unpin_next.ensures.device ∙ c.loop.invariant.device }

pub returns-clause-lets : goal.returns-clause-lets
returns-clause-lets g c = lets_on c.loop.invariant.lets c.unpin_next.ensures.lets

pub returns-clause-gone : goal.returns-clause-gone
returns-clause-gone g c = λ b h.
    let e = c.unpin_next.ensures in
    kept_gone (parts c.unpin_next.new.cache.mind [] 0) b (e.none (search rules) b) (e.kept b (c.loop.invariant.kept b h))
