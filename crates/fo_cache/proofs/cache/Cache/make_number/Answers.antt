use Rattle.std.proofs.Common.{[]}
use Rattle.fo_mind.specs.MindParts.{parts}
use Rattle.fo_cache.proofs.Numbering.{then}
use Rattle.fo_cache.proofs.cache.Cache.make_number.Goals as goal

pub returns-clause-renumbers : goal.returns-clause-renumbers
returns-clause-renumbers g c =
    let self = c.args.self.now in
    let m = c.settle_doubt.new.self in
    let n = c.raise_numbers.new.self in
    then (g.D.Disk.state self.main) (g.D.Disk.state m.main) (g.D.Disk.state n.main) (parts self.mind [] 0) (parts m.mind [] 0) (parts n.mind [] 0) c.settle_doubt.ensures.renumbers c.raise_numbers.ensures.renumbers
