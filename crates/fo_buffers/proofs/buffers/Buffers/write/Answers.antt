use Rattle.fo_buffers.specs.Held.{with_bytes}
use Rattle.fo_buffers.proofs.Keeping.{view_updated}
use Rattle.fo_buffers.proofs.buffers.Buffers.write.Goals as goal

pub returns : goal.returns
returns c = rw (← c.self.view_is) (view_updated c.self.inside.held c.write_held.new.held c.args.at c.self.inside.clean.entries c.self.inside.room (with_bytes c.args.from c.args.bytes.now) c.write_held.ensures.changes)
