use Rattle.std.proofs.Common.{[], sym, ◌∙◌}
use Rattle.fo_closing.specs.of_mind.MindParts.{parts}
use Rattle.fo_reserving.proofs.Ending.{gone_may, none_may, others_may}
use Rattle.fo_reserving.proofs.Letting.{lets_none, lets_released}
use Rattle.fo_reserving.proofs.pins.release_one.Goals as goal

pub returns-then-not-is_held-clause-gone : goal.returns-then-not-is_held-clause-gone
returns-then-not-is_held-clause-gone g c = none_may (parts c.args.cache.now.mind [] 0) c.args.at (sym c.is_held.ensures ∙ c.if-not-is_held.true)

pub returns-then-not-is_held-clause-lets : goal.returns-then-not-is_held-clause-lets
returns-then-not-is_held-clause-lets g c = lets_none (parts c.args.cache.now.mind [] 0)

pub returns-clause-gone : goal.returns-clause-gone
returns-clause-gone g c = gone_may (parts c.args.cache.now.mind [] 0) (parts c.release.new.self.mind [] 0) c.args.at c.release.ensures.gone c.release.ensures.kept

pub returns-clause-others : goal.returns-clause-others
returns-clause-others g c = others_may (parts c.args.cache.now.mind [] 0) (parts c.release.new.self.mind [] 0) c.args.at c.release.ensures.gone c.release.ensures.kept

pub returns-clause-lets : goal.returns-clause-lets
returns-clause-lets g c = lets_released (parts c.args.cache.now.mind [] 0) (parts c.release.new.self.mind [] 0) c.args.at c.release.ensures.gone c.release.ensures.kept
