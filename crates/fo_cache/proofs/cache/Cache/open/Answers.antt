use Rattle.std.proofs.Common.{[]}
use Rattle.fo_mind.specs.MindParts.{parts}
use Rattle.fo_cache.proofs.Opening.{fits_opened, labels_opened}
use Rattle.fo_cache.proofs.Firsts.{one_opened}
use Rattle.fo_cache.proofs.cache.Cache.open.Goals as goal

pub invariant_of-result-clause-fits : goal.invariant_of-result-clause-fits
invariant_of-result-clause-fits g c = let s = g.D.Disk.state c.args.main in fits_opened (parts c.args.mind [] 0) s.holds s.unsure c.requires.empty c.requires.settled

pub invariant_of-result-clause-spelled : goal.invariant_of-result-clause-spelled
invariant_of-result-clause-spelled g c = let s = g.D.Disk.state c.args.main in labels_opened (parts c.args.mind [] 0) s.holds s.unsure c.requires.empty c.requires.settled c.requires.labels

pub invariant_of-result-clause-first : goal.invariant_of-result-clause-first
invariant_of-result-clause-first g c = one_opened (parts c.args.mind [] 0) (g.D.Disk.state c.args.main).holds c.requires.settled c.requires.one
