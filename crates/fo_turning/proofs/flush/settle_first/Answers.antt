use Rattle.std.proofs.Common.{[]}
use Rattle.fo_mind.specs.MindParts.{parts}
use Rattle.fo_cache.proofs.Easing.{eases_doubt}
use Rattle.fo_turning.proofs.flush.settle_first.Goals as goal

pub returns-in_err-settle_one-clause-eases : goal.returns-in_err-settle_one-clause-eases
returns-in_err-settle_one-clause-eases g c =
    let self = c.args.cache.now in
    let n = c.settle_one.new.self in
    let e = c.settle_one.ensures in
    eases_doubt (g.D.Disk.state self.main) (g.D.Disk.state n.main) (parts self.mind [] 0) (parts n.mind [] 0) (g.D.Disk.faults self.main) (g.D.Disk.faults n.main) c.settle_one.result e.others e.overruled e.nothing e.later

pub returns-clause-eases : goal.returns-clause-eases
returns-clause-eases g c =
    let self = c.args.cache.now in
    let n = c.settle_one.new.self in
    let e = c.settle_one.ensures in
    eases_doubt (g.D.Disk.state self.main) (g.D.Disk.state n.main) (parts self.mind [] 0) (parts n.mind [] 0) (g.D.Disk.faults self.main) (g.D.Disk.faults n.main) c.settle_one.result e.others e.overruled e.nothing e.later
