use Rattle.std.proofs.Common.{true, false, sym, ap, ◌∙◌, arith}
use Rattle.std.specs.Option.{option_map_or}
use Rattle.fo_buffers.specs.Held.{Held, is_free, pinned_as, used}
use Rattle.fo_buffers.proofs.Keeping.{view_updated, held_is, never}
use Rattle.fo_buffers.proofs.buffers.Buffers.pin.Goals as goal

pub returns-then-is_free_in-clause-free : goal.returns-then-is_free_in-clause-free
returns-then-is_free_in-clause-free c =
    λ _. rw (← c.self.view_is) (ap used (view_updated c.self.inside.held c.set_pinned.new.held c.args.at c.self.inside.clean.entries c.self.inside.room (pinned_as true) c.set_pinned.ensures.changes))

pub returns-then-is_free_in-clause-same : goal.returns-then-is_free_in-clause-same
returns-then-is_free_in-clause-same c =
    λ no. never (sym c.if-is_free_in.true ∙ c.is_free_in.ensures ∙ ap (λ o. option_map_or is_free o false) (held_is c.self.inside.held _ _ _ c.self.view_is c.args.at) ∙ no)

pub returns-else-is_free_in-clause-free : goal.returns-else-is_free_in-clause-free
returns-else-is_free_in-clause-free c =
    λ yes. never (sym yes ∙ sym (ap (λ o. option_map_or is_free o false) (held_is c.self.inside.held _ _ _ c.self.view_is c.args.at)) ∙ sym c.is_free_in.ensures ∙ c.if-is_free_in.false)

pub push_reserved-requires : goal.push_reserved-requires
push_reserved-requires c =
    let free = sym (ap (λ o. option_map_or is_free o false) (held_is c.self.inside.held _ _ _ c.self.view_is c.args.at)) ∙ sym c.is_free_in.ensures ∙ c.if-is_free_in.true in
    let same = ap (λ (h : Held). h.room) c.self.view_is in
    let room = c.requires free in
    omega (arith, same, room, c.self.invariant.pins)

pub overflow_sub-self : goal.overflow_sub-self
overflow_sub-self c =
    let free = sym (ap (λ o. option_map_or is_free o false) (held_is c.self.inside.held _ _ _ c.self.view_is c.args.at)) ∙ sym c.is_free_in.ensures ∙ c.if-is_free_in.true in
    let same = ap (λ (h : Held). h.room) c.self.view_is in
    let room = c.requires free in
    omega (arith, same, room)
