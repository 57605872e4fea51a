use Rattle.std.proofs.Common.{◌≡◌, refl, sym, ap, subst, ◌∙◌}
use Rattle.fo_ports.specs.State.{Hangs}
use Rattle.test_blocks.specs.Silent.{Silent, state_of}
use Rattle.test_blocks.specs.SilentParts.{parts}
use Rattle.test_blocks.proofs.Joining.{hangs}
use Rattle.test_blocks.proofs.silent_calls.CarelessBlocksBlocks.put_slot.Goals as goal

pub returns-clause-hangs : goal.returns-clause-hangs
returns-clause-hangs c =
    let p = parts c.args.self.now in
    let room = c.take_room.new.self.room in
    let all : parts c.take_room.new.self ≡ record p { blocks = c.link.new.self.blocks.items; room = room; queued = c.take_room.new.self.queued } = c.take_room.ensures.rest ∙ ap (λ (z : Silent). record z { room = room; queued = c.take_room.new.self.queued }) c.link.ensures.rest in
    subst (λ (z : Silent). Hangs c.args.at c.args.i c.args.slot (state_of p) (state_of z)) (sym all)
    (hangs p c.link.new.self.blocks.items p.waits room c.take_room.new.self.queued c.args.at c.args.i c.args.slot c.link.ensures.joins (λ a on j _ w. w) (λ e. (c.requires.leads c.args.at e).1 refl))
