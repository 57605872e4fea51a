use Rattle.std.proofs.Common.{false, ap, ◌∙◌}
use Rattle.std.specs.Option.{option_map_or}
use Rattle.fo_buffers.specs.Held.{is_pinned}
use Rattle.fo_buffers.proofs.Keeping.{held_is}
use Rattle.fo_buffers.proofs.buffers.Buffers.is_pinned.Goals as goal

pub returns : goal.returns
returns c = c.is_pinned_in.ensures ∙ ap (λ o. option_map_or is_pinned o false) (held_is c.self.inside.held _ _ _ c.self.view_is c.args.at)
