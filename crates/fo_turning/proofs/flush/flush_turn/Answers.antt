use Rattle.std.proofs.Common.{[]}
use Rattle.fo_mind.specs.MindParts.{parts}
use Rattle.fo_turning.proofs.Flushing.{idle_did}
use Rattle.fo_turning.proofs.flush.flush_turn.Goals as goal

pub returns-clause-idle : goal.returns-clause-idle
returns-clause-idle g c =
    let cache = c.args.cache.now in
    let new = c.take_turn.new.cache in (
      λ is. (idle_did (g.D.Disk.state cache.main) (g.D.Disk.state new.main) (parts cache.mind [] 0) (parts new.mind [] 0) c.take_turn.result c.take_turn.ensures.does is).1,
      λ at. c.take_turn.ensures.idle at,
    )

pub returns-clause-still : goal.returns-clause-still
returns-clause-still g c = λ at.
    let cache = c.args.cache.now in
    let new = c.take_turn.new.cache in
    (idle_did (g.D.Disk.state cache.main) (g.D.Disk.state new.main) (parts cache.mind [] 0) (parts new.mind [] 0) c.take_turn.result c.take_turn.ensures.does (c.take_turn.ensures.idle at)).0
