use Rattle.std.proofs.Common.{[]}
use Rattle.fo_mind.specs.MindParts.{parts}
use Rattle.fo_cache.proofs.Numbering.{keeps, numbers, other_blocks, same_way}
use Rattle.fo_cache.proofs.cache.Cache.number.Goals as goal

pub returns-clause-now : goal.returns-clause-now
returns-clause-now g c =
    let self = c.args.self.now in
    let new = c.next_number.new.self in
    other_blocks (g.D.Disk.state self.main) (g.D.Disk.state new.main) (parts self.mind [] 0) (parts new.mind [] 0) (g.D.Disk.faults self.main) (g.D.Disk.faults new.main) c.next_number.ensures.renumbers

pub returns-clause-way : goal.returns-clause-way
returns-clause-way g c =
    let self = c.args.self.now in
    let new = c.next_number.new.self in
    same_way (g.D.Disk.state self.main) (g.D.Disk.state new.main) (parts self.mind [] 0) (parts new.mind [] 0) (g.D.Disk.faults self.main) (g.D.Disk.faults new.main) c.next_number.ensures.renumbers

pub returns-clause-stays : goal.returns-clause-stays
returns-clause-stays g c =
    let self = c.args.self.now in
    let new = c.next_number.new.self in
    numbers (g.D.Disk.state self.main) (g.D.Disk.state new.main) (parts self.mind [] 0) (parts new.mind [] 0) (g.D.Disk.faults self.main) (g.D.Disk.faults new.main) c.next_number.ensures.renumbers

pub returns-clause-keeps : goal.returns-clause-keeps
returns-clause-keeps g c =
    let self = c.args.self.now in
    let new = c.next_number.new.self in
    keeps (g.D.Disk.state self.main) (g.D.Disk.state new.main) (parts self.mind [] 0) (parts new.mind [] 0) (g.D.Disk.faults self.main) (g.D.Disk.faults new.main) c.next_number.ensures.renumbers c.next_number.ensures.later
