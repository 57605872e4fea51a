use Rattle.std.proofs.Common.{inl, []}
use Rattle.fo_closing.specs.of_mind.MindParts.{parts}
use Rattle.fo_closing.proofs.of_mind.Results.{on_ok}
use Rattle.fo_reserving.proofs.Calming.{few_order, rest_few}
use Rattle.fo_reserving.proofs.Joining.{reserves_none}
use Rattle.fo_reserving.proofs.needs.settle_many.Goals as goal

pub returns-then-not-are_many-clause-leaves : goal.returns-then-not-are_many-clause-leaves
returns-then-not-are_many-clause-leaves g c = reserves_none (parts c.args.cache.now.mind (g.D.Disk.state c.args.cache.now.main).holds (g.D.Disk.faults c.args.cache.now.main))

pub returns-then-not-are_many-clause-few : goal.returns-then-not-are_many-clause-few
returns-then-not-are_many-clause-few g c = inl (few_order c.args.cache.now.mind.order c.are_many.result c.are_many.ensures c.if-not-are_many.true)

pub returns-clause-few : goal.returns-clause-few
returns-clause-few g c = on_ok c.come_to_rest.result (rest_few (parts c.come_to_rest.new.cache.mind [] 0)) c.come_to_rest.ensures.rest
