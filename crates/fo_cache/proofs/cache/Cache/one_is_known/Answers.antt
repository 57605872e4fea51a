use Rattle.std.proofs.Common.{suc}
use Rattle.fo_cache.proofs.Firsts.{limited}
use Rattle.fo_cache.proofs.cache.Cache.one_is_known.Goals as goal

pub returns-clause-known : goal.returns-clause-known
returns-clause-known g c = c.args.self.now.first.each

pub returns-clause-limited : goal.returns-clause-limited
returns-clause-limited g c = λ bytes lt has.
    let self = c.args.self.now in
    limited self.mind.one self.mind.one_bytes self.mind.doubt bytes self.mind.next self.mind.spelled self.mind.numbered (self.first.each bytes lt has)

pub returns-clause-granted : goal.returns-clause-granted
returns-clause-granted g c = λ granted bytes lt has.
    let self = c.args.self.now in
    limited self.mind.one self.mind.one_bytes self.mind.doubt bytes (suc self.mind.next) self.mind.spelled (self.mind.granting granted) (self.first.each bytes lt has)
