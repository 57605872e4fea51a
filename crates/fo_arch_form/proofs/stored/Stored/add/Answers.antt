use Rattle.fo_arch_form.proofs.Map.{real_either, adds}
use Rattle.fo_arch_form.proofs.stored.Stored.add.Goals as goal

pub invariant_of-self : goal.invariant_of-self
invariant_of-self c = record { real = real_either c.args.self.now.scores c.insert.new.self (c.args.at, c.args.kind) c.args.score c.insert.result c.args.self.now.real c.requires c.insert.ensures.updates c.insert.ensures.err }

pub returns-clause-adds : goal.returns-clause-adds
returns-clause-adds c = adds c.args.self.now _ c.args.at c.args.kind c.args.score c.in_ok-insert.ensures.updates
