use Rattle.std.proofs.Common.{is_some, ap, ◌∙◌}
use Rattle.fo_buffers.proofs.Keeping.{held_is}
use Rattle.fo_buffers.proofs.buffers.Buffers.is_held.Goals as goal

pub returns : goal.returns
returns c = c.contains_key.ensures ∙ ap is_some (held_is c.self.inside.held _ _ _ c.self.view_is c.args.at)
