use Rattle.std.proofs.Common.{refl}
use Rattle.fo_settling.proofs.Waiting.{none_waits}
use Rattle.fo_turning.proofs.unlink.is_clear.Goals as goal

pub returns-in-None : goal.returns-in-None
returns-in-None g c = let mind = c.args.cache.now.mind in (λ _. none_waits mind.order mind.clears.items c.requires c.in-None.ensures, λ _. refl)
