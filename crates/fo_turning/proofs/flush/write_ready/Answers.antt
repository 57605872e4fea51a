use Rattle.std.proofs.Common.{[]}
use Rattle.fo_mind.specs.MindParts.{parts}
use Rattle.fo_cache.proofs.Settling.{wrote_settles}
use Rattle.fo_turning.proofs.flush.write_ready.Goals as goal

pub returns-in-Ok-clause-settles : goal.returns-in-Ok-clause-settles
returns-in-Ok-clause-settles g c =
    let cache = c.args.cache.now in
    let new = c.write_turn.new.self in
    wrote_settles (g.D.Disk.state cache.main) (g.D.Disk.state new.main) (parts cache.mind [] 0) (parts new.mind [] 0) c.args.at cache.mind.placed cache.mind.turning c.requires.turn c.write_turn.result c.write_turn.ensures.wrote

pub returns-in-Err-clause-settles : goal.returns-in-Err-clause-settles
returns-in-Err-clause-settles g c =
    let cache = c.args.cache.now in
    let new = c.write_turn.new.self in
    wrote_settles (g.D.Disk.state cache.main) (g.D.Disk.state new.main) (parts cache.mind [] 0) (parts new.mind [] 0) c.args.at cache.mind.placed cache.mind.turning c.requires.turn c.write_turn.result c.write_turn.ensures.wrote
