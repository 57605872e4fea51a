use Rattle.fo_buffers.specs.Held.{settled}
use Rattle.fo_buffers.proofs.Keeping.{view_updated}
use Rattle.fo_buffers.proofs.buffers.Buffers.settle.Goals as goal

pub returns : goal.returns
returns c = rw (← c.self.view_is) (view_updated c.self.inside.held c.settle_held.new.held c.args.at c.self.inside.clean.entries c.self.inside.room settled c.settle_held.ensures.changes)
