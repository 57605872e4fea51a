use Rattle.std.proofs.Common.{sym, ap, ◌∙◌}
use Rattle.std.specs.Option.{option_copied, option_map}
use Rattle.fo_buffers.specs.Held.{block_in}
use Rattle.fo_buffers.proofs.Keeping.{held_is}
use Rattle.fo_buffers.proofs.buffers.Buffers.block.Goals as goal

pub returns-in-Some : goal.returns-in-Some
returns-in-Some c = record {
  value = ap (λ r. option_map block_in (option_copied r)) (sym c.in-Some.is) ∙ ap (option_map block_in) (c.get.ensures.value ∙ held_is c.self.inside.held _ _ _ c.self.view_is c.args.at);
}

pub returns-in-None : goal.returns-in-None
returns-in-None c = record {
  value = ap (λ r. option_map block_in (option_copied r)) (sym c.in-None.is) ∙ ap (option_map block_in) (c.get.ensures.value ∙ held_is c.self.inside.held _ _ _ c.self.view_is c.args.at);
}
