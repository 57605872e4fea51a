use Rattle.fo_world.proofs.Changes.{place_above-none}
use Rattle.fo_world.proofs.tree.place_above.Goals as goal

pub returns-in-None-clause-place : goal.returns-in-None-clause-place
returns-in-None-clause-place c = rw c.in-None.is (place_above-none c.args.entries.now)
