use Rattle.std.proofs.Common.{false, sym, ap, ◌∙◌}
use Rattle.std.specs.Option.{option_copied, option_map_or}
use Rattle.fo_buffers.specs.Held.{is_dirty}
use Rattle.fo_buffers.proofs.Keeping.{held_is}
use Rattle.fo_buffers.proofs.buffers.Buffers.is_dirty.Goals as goal

pub returns-in-Some : goal.returns-in-Some
returns-in-Some c =
    ap (λ r. option_map_or is_dirty (option_copied r) false) (sym c.in-Some.is) ∙ ap (λ o. option_map_or is_dirty o false) (c.get.ensures.value ∙ held_is c.self.inside.held _ _ _ c.self.view_is c.args.at)

pub returns-in-None : goal.returns-in-None
returns-in-None c =
    ap (λ r. option_map_or is_dirty (option_copied r) false) (sym c.in-None.is) ∙ ap (λ o. option_map_or is_dirty o false) (c.get.ensures.value ∙ held_is c.self.inside.held _ _ _ c.self.view_is c.args.at)
