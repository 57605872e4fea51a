use Rattle.std.proofs.Common.{ap, ◌∙◌}
use Rattle.fo_buffers.proofs.Tables.{same_table}
use Rattle.fo_buffers.proofs.Keeping.{same_changed, view3}
use Rattle.fo_buffers.proofs.buffers.Buffers.learn.Goals as goal

pub returns : goal.returns
returns c =
    ap (λ t. view3 t c.self.inside.clean.entries c.self.inside.room)
    (same_table c.self.inside.held.entries c.learn_held.new.held.entries (same_changed c.self.inside.held c.learn_held.new.held c.args.at c.learn_held.ensures.changes))
    ∙ c.self.view_is
