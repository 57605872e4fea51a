use Rattle.compare.proofs.kept.Goals as goal

pub invariant_of-game-clause-placed : goal.invariant_of-game-clause-placed
invariant_of-game-clause-placed c = c.args.game.files.on.cache.mind.placed
