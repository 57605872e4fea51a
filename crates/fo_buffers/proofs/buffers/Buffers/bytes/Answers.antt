use Rattle.std.proofs.Common.{Some, sym, ap, ◌∙◌}
use Rattle.std.specs.Option.{option_copied, option_map}
use Rattle.fo_buffers.specs.Held.{block_in}
use Rattle.fo_buffers.proofs.Keeping.{held_is}
use Rattle.fo_buffers.proofs.buffers.Buffers.bytes.Goals as goal

pub returns-in-Some-clause-value : goal.returns-in-Some-clause-value
returns-in-Some-clause-value c =
    ap Some c.bytes.ensures.value ∙ ap (λ r. option_map block_in (option_copied r)) (sym c.in-Some.is) ∙ ap (option_map block_in) (c.get.ensures.value ∙ held_is c.self.inside.held _ _ _ c.self.view_is c.args.at)

pub returns-in-None-clause-value : goal.returns-in-None-clause-value
returns-in-None-clause-value c =
    ap (λ r. option_map block_in (option_copied r)) (sym c.in-None.is) ∙ ap (option_map block_in) (c.get.ensures.value ∙ held_is c.self.inside.held _ _ _ c.self.view_is c.args.at)
