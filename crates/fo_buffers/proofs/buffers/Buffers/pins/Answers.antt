use Rattle.std.proofs.Common.{ℕ, List, sym, ap, ◌∙◌, nat_eq, false, refl, subst}
use Rattle.std.specs.HashMap.{get}
use Rattle.std.specs.List.{Contains}
use Rattle.std.specs.Option.{option_map_or}
use Rattle.fo_buffers.specs.Held.{is_pinned}
use Rattle.fo_buffers.proofs.Keeping.{held_is, pinned_listed}
use Rattle.fo_buffers.proofs.buffers.Buffers.pins.Goals as goal

pub returns : goal.returns
returns c = λ q p.
    let same = held_is c.self.inside.held _ _ _ c.self.view_is q in
    subst (λ (xs : List ℕ). Contains xs q) (sym c.as_slice.ensures.value)
    (pinned_listed c.self.inside.held c.self.inside.pins.items q (get nat_eq c.self.inside.held q) c.self.invariant.listed refl (ap (λ o. option_map_or is_pinned o false) same ∙ p.is))
