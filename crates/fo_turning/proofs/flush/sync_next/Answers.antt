use Rattle.std.proofs.Common.{[]}
use Rattle.fo_mind.specs.MindParts.{parts}
use Rattle.fo_cache.proofs.Settling.{sync_settles}
use Rattle.fo_settling.proofs.Waiting.{eases_turns}
use Rattle.fo_turning.proofs.flush.sync_next.Goals as goal

pub returns-in-Ok-clause-eases : goal.returns-in-Ok-clause-eases
returns-in-Ok-clause-eases g c =
    let cache = c.args.cache.now in
    let new = c.sync_turn.new.self in
    let e = c.sync_turn.ensures in
    let s = g.D.Disk.state cache.main in
    let t = g.D.Disk.state new.main in
    let p = parts cache.mind [] 0 in
    let q = parts new.mind [] 0 in
    eases_turns s t p q (g.D.Disk.faults cache.main) (g.D.Disk.faults new.main) (sync_settles s t p q c.sync_turn.result e.state e.synced e.nothing cache.fits) e.cause.later

pub returns-in-Err-clause-eases : goal.returns-in-Err-clause-eases
returns-in-Err-clause-eases g c =
    let cache = c.args.cache.now in
    let new = c.sync_turn.new.self in
    let e = c.sync_turn.ensures in
    let s = g.D.Disk.state cache.main in
    let t = g.D.Disk.state new.main in
    let p = parts cache.mind [] 0 in
    let q = parts new.mind [] 0 in
    eases_turns s t p q (g.D.Disk.faults cache.main) (g.D.Disk.faults new.main) (sync_settles s t p q c.sync_turn.result e.state e.synced e.nothing cache.fits) e.cause.later
