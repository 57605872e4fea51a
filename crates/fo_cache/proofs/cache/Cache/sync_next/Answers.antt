use Rattle.std.proofs.Common.{[], arith}
use Rattle.fo_mind.specs.MindParts.{parts}
use Rattle.fo_cache.proofs.Called.{makes_end, makes_synced, makes_unsynced}
use Rattle.fo_cache.proofs.Settling.{sync_settles}
use Rattle.fo_cache.proofs.Lessening.{due_work, synced_less}
use Rattle.fo_cache.proofs.cache.Cache.sync_next.Goals as goal

pub returns-clause-settles : goal.returns-clause-settles
returns-clause-settles g c =
    let self = c.args.self.now in
    let new = c.sync_turn.new.self in
    let e = c.sync_turn.ensures in
    sync_settles (g.D.Disk.state self.main) (g.D.Disk.state new.main) (parts self.mind [] 0) (parts new.mind [] 0) c.sync_turn.result e.state e.synced e.nothing self.fits

pub returns-in_default-clause-calls : goal.returns-in_default-clause-calls
returns-in_default-clause-calls g c =
    let e = c.sync_turn.ensures.calls in
    let some = due_work (parts c.args.self.now.mind [] 0) c.requires.due in
    omega (arith, e, some)

pub returns-clause-calls : goal.returns-clause-calls
returns-clause-calls g c =
    let e = c.sync_turn.ensures.calls in
    let some = due_work (parts c.args.self.now.mind [] 0) c.requires.due in
    omega (arith, e, some)

pub returns-clause-spent : goal.returns-clause-spent
returns-clause-spent g c =
    let e = c.sync_turn.ensures.calls in
    let less = synced_less (parts c.args.self.now.mind [] 0) (parts c.sync_turn.new.self.mind [] 0) c.requires.due c.in-Ok.ensures.synced in
    omega (arith, e, less)

pub returns-in_default-clause-made : goal.returns-in_default-clause-made
returns-in_default-clause-made g c =
    let self = c.args.self.now in
    let new = c.sync_turn.new.self in
    makes_unsynced (g.D.Disk.state self.main) (g.D.Disk.state new.main) (g.D.Disk.calls self.main) (g.D.Disk.calls new.main) (parts self.mind [] 0) c.sync_turn.result c.requires.due c.sync_turn.ensures.state c.sync_turn.ensures.calls

pub returns-clause-makes : goal.returns-clause-makes
returns-clause-makes g c =
    let self = c.args.self.now in
    let new = c.sync_turn.new.self in
    makes_synced (g.D.Disk.state self.main) (g.D.Disk.state new.main) (g.D.Disk.calls self.main) (g.D.Disk.calls new.main) (parts self.mind [] 0) (parts new.mind [] 0) c.sync_turn.result c.requires.due c.in-Ok.ensures.synced c.sync_turn.ensures.state c.sync_turn.ensures.calls

pub returns-clause-made : goal.returns-clause-made
returns-clause-made g c = makes_end (returns-clause-makes g c)
