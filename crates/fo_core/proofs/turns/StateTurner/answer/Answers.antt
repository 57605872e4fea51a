use Rattle.fo_ending.specs.of_mind.MindParts.{parts}
use Rattle.fo_starting.specs.of_devices.Seen.{seen}
use Rattle.fo_core.specs.Moment.{Moment}
use Rattle.fo_core.proofs.Happening.{later, leaves, settled_once}
use Rattle.fo_core.proofs.turns.StateTurner.answer.Goals as goal

pub returns-clause-goes : goal.returns-clause-goes
returns-clause-goes g c =
    let was = c.args.self.now.files in
    let is = c.answer.new.files in
    let old : Moment = record {
      sessions = c.args.self.now.sessions;
      seen = seen (parts was.on.cache.mind (g.D.Disk.state was.on.cache.main).holds (g.D.Disk.faults was.on.cache.main)) (g.D.Disk.size was.on.cache.main) was.on.arena.shelf (g.A.Disk.state was.on.arena.device) (g.A.Disk.faults was.on.arena.device);
      main = g.D.Disk.state was.on.cache.main;
      calls = g.D.Disk.calls was.on.cache.main;
      halted = was.halted;
    } in
    let new : Moment = record {
      sessions = c.answer.new.self;
      seen = seen (parts is.on.cache.mind (g.D.Disk.state is.on.cache.main).holds (g.D.Disk.faults is.on.cache.main)) (g.D.Disk.size is.on.cache.main) is.on.arena.shelf (g.A.Disk.state is.on.arena.device) (g.A.Disk.faults is.on.arena.device);
      main = g.D.Disk.state is.on.cache.main;
      calls = g.D.Disk.calls is.on.cache.main;
      halted = is.halted;
    } in
    let e = c.answer.ensures in
    let taken = e.serves.taken in
    record {
      serves = e.serves;
      others = e.others;
      fits = e.fits;
      small = e.size;
      settled = e.settled;
      settles = λ asks. settled_once was
          (λ files. record {
            sessions = c.args.self.now.sessions;
            seen = seen (parts files.on.cache.mind (g.D.Disk.state files.on.cache.main).holds (g.D.Disk.faults files.on.cache.main)) (g.D.Disk.size files.on.cache.main) files.on.arena.shelf (g.A.Disk.state files.on.arena.device) (g.A.Disk.faults files.on.arena.device);
            main = g.D.Disk.state files.on.cache.main;
            calls = g.D.Disk.calls files.on.cache.main;
            halted = files.halted;
          })
          new (e.settles asks);
      dirty = leaves old new taken.0 _ taken.1;
      later = later old new taken.0 _ taken.1;
    }
