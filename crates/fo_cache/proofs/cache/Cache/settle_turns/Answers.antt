use Rattle.std.proofs.Common.{[]}
use Rattle.fo_mind.specs.MindParts.{parts}
use Rattle.fo_cache.proofs.Resting.{blocks, keeps, known, rests, room_stays}
use Rattle.fo_cache.proofs.cache.Cache.settle_turns.Goals as goal

pub returns-clause-rests : goal.returns-clause-rests
returns-clause-rests g c =
    let self = c.args.self.now in
    let new = c.take_turns.new.self in
    rests (g.D.Disk.state self.main) (g.D.Disk.state new.main) (parts self.mind [] 0) (parts new.mind [] 0) (g.D.Disk.faults self.main) (g.D.Disk.faults new.main) c.take_turns.ensures.settles

pub returns-clause-known : goal.returns-clause-known
returns-clause-known g c =
    let self = c.args.self.now in
    let new = c.take_turns.new.self in
    known (g.D.Disk.state self.main) (g.D.Disk.state new.main) (parts self.mind [] 0) (parts new.mind [] 0) (g.D.Disk.faults self.main) (g.D.Disk.faults new.main) c.take_turns.ensures.settles

pub returns-clause-blocks : goal.returns-clause-blocks
returns-clause-blocks g c =
    let self = c.args.self.now in
    let new = c.take_turns.new.self in
    blocks (g.D.Disk.state self.main) (g.D.Disk.state new.main) (parts self.mind [] 0) (parts new.mind [] 0) 0 0 c.take_turns.ensures.settles

pub returns-clause-room : goal.returns-clause-room
returns-clause-room g c =
    let self = c.args.self.now in
    let new = c.take_turns.new.self in
    room_stays (g.D.Disk.state self.main) (g.D.Disk.state new.main) (parts self.mind [] 0) (parts new.mind [] 0) 0 0 c.take_turns.ensures.settles

pub returns-clause-keeps : goal.returns-clause-keeps
returns-clause-keeps g c =
    let self = c.args.self.now in
    let new = c.take_turns.new.self in
    keeps (g.D.Disk.state self.main) (g.D.Disk.state new.main) (parts self.mind [] 0) (parts new.mind [] 0) (g.D.Disk.faults self.main) (g.D.Disk.faults new.main) c.take_turns.ensures.settles c.take_turns.ensures.later
