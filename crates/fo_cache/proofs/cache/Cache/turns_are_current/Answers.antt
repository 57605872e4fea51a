use Rattle.std.proofs.Common.{◌≤◌, subst}
use Rattle.fo_mind.proofs.Changing.{turn_current}
use Rattle.fo_cache.proofs.cache.Cache.turns_are_current.Goals as goal

pub returns : goal.returns
returns g c = λ b le dirty. let mind = c.args.self.now.mind in turn_current mind.facts mind.changing mind.turning (subst (λ n. n ≤ b) mind.placed.is_first le) dirty
