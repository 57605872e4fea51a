use Rattle.fo_ending.specs.of_mind.MindParts.{parts}
use Rattle.fo_starting.specs.of_devices.Seen.{seen}
use Rattle.nine_fids.specs.Fids.{least}
use Rattle.fo_sessions.specs.Sessions.{kept_at, session_at}
use Rattle.fo_core.specs.Moment.{Moment, files, within}
use Rattle.fo_core.proofs.Fewer as drops
use Rattle.fo_core.proofs.Happening.{later_dropped, leaves_dropped}
use Rattle.fo_core.proofs.turns.StateTurner.drop_one.Goals as goal

pub returns-clause-fewer : goal.returns-clause-fewer
returns-clause-fewer g c =
    let was = c.args.self.now.files in
    let is = c.drop_one.new.files in
    let old : Moment = record {
      sessions = c.args.self.now.sessions;
      seen = seen (parts was.on.cache.mind (g.D.Disk.state was.on.cache.main).holds (g.D.Disk.faults was.on.cache.main)) (g.D.Disk.size was.on.cache.main) was.on.arena.shelf (g.A.Disk.state was.on.arena.device) (g.A.Disk.faults was.on.arena.device);
      main = g.D.Disk.state was.on.cache.main;
      calls = g.D.Disk.calls was.on.cache.main;
      halted = was.halted;
    } in
    let new : Moment = record {
      sessions = c.drop_one.new.self;
      seen = seen (parts is.on.cache.mind (g.D.Disk.state is.on.cache.main).holds (g.D.Disk.faults is.on.cache.main)) (g.D.Disk.size is.on.cache.main) is.on.arena.shelf (g.A.Disk.state is.on.arena.device) (g.A.Disk.faults is.on.arena.device);
      main = g.D.Disk.state is.on.cache.main;
      calls = g.D.Disk.calls is.on.cache.main;
      halted = is.halted;
    } in
    drops.fewer (files old) (files new) (within old new) (kept_at c.args.session c.args.self.now.sessions) (kept_at c.args.session c.drop_one.new.self) c.args.now c.drop_one.result.0 c.drop_one.result.1 c.drop_one.ensures.drops

pub returns-clause-goes : goal.returns-clause-goes
returns-clause-goes g c =
    let was = c.args.self.now.files in
    let is = c.drop_one.new.files in
    let old : Moment = record {
      sessions = c.args.self.now.sessions;
      seen = seen (parts was.on.cache.mind (g.D.Disk.state was.on.cache.main).holds (g.D.Disk.faults was.on.cache.main)) (g.D.Disk.size was.on.cache.main) was.on.arena.shelf (g.A.Disk.state was.on.arena.device) (g.A.Disk.faults was.on.arena.device);
      main = g.D.Disk.state was.on.cache.main;
      calls = g.D.Disk.calls was.on.cache.main;
      halted = was.halted;
    } in
    let new : Moment = record {
      sessions = c.drop_one.new.self;
      seen = seen (parts is.on.cache.mind (g.D.Disk.state is.on.cache.main).holds (g.D.Disk.faults is.on.cache.main)) (g.D.Disk.size is.on.cache.main) is.on.arena.shelf (g.A.Disk.state is.on.arena.device) (g.A.Disk.faults is.on.arena.device);
      main = g.D.Disk.state is.on.cache.main;
      calls = g.D.Disk.calls is.on.cache.main;
      halted = is.halted;
    } in
    let d = c.drop_one.ensures.drops in
    let best = least (session_at c.args.session c.args.self.now.sessions).fids in
    record {
      drops = d;
      others = c.drop_one.ensures.others;
      dirty = leaves_dropped old new (kept_at c.args.session c.args.self.now.sessions) (kept_at c.args.session c.drop_one.new.self) c.args.now best c.drop_one.result.0 c.drop_one.result.1 d;
      later = later_dropped old new (kept_at c.args.session c.args.self.now.sessions) (kept_at c.args.session c.drop_one.new.self) c.args.now best c.drop_one.result.0 c.drop_one.result.1 d;
    }
