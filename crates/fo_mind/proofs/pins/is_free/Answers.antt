use Rattle.std.proofs.Common.{not, sym, ap, ◌∙◌}
use Rattle.fo_buffers.specs.Held.{held_at}
use Rattle.fo_mind.proofs.Releasing.{else_free, then_free}
use Rattle.fo_mind.proofs.pins.is_free.Goals as goal

pub returns-then-is_held : goal.returns-then-is_held
returns-then-is_held c = ap not c.is_pinned.ensures ∙ then_free (held_at c.args.buffers.now c.args.at) (sym c.is_held.ensures ∙ c.if-is_held.true)

pub returns-else-is_held : goal.returns-else-is_held
returns-else-is_held c = c.if-is_held.false ∙ else_free (held_at c.args.buffers.now c.args.at) (sym c.is_held.ensures ∙ c.if-is_held.false)
