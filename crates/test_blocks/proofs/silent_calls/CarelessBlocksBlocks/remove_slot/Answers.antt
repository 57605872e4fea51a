use Rattle.std.proofs.Common.{◌≡◌, inl, ⊎_elim, List, sym, ap, subst, ◌∙◌}
use Rattle.fo_crash.specs.declared.slot.Slot.{Slot}
use Rattle.fo_crash.specs.Images.{target}
use Rattle.fo_crash.specs.Steps.{cleared}
use Rattle.fo_ports.specs.State.{Frame, Hangs}
use Rattle.test_blocks.specs.declared.silent.Block.{Block}
use Rattle.test_blocks.specs.Silent.{Silent, Joins, memory, state_of}
use Rattle.test_blocks.specs.SilentParts.{parts}
use Rattle.test_blocks.proofs.Joining.{frame, hangs, still_waits, cleared_nowhere}
use Rattle.fo_ports_plain.proofs.Memory.{if_some}
use Rattle.test_blocks.proofs.silent_calls.CarelessBlocksBlocks.remove_slot.Goals as goal

pub returns-clause-frame : goal.returns-clause-frame
returns-clause-frame c =
    let self = c.args.self.now in
    let p = parts self in
    let first = ap (λ (z : Silent). z.blocks) c.end_waits.ensures.rest in
    let ws = c.end_waits.new.self.waits.items in
    let bs = c.link.new.self.blocks.items in
    let room = c.take_room.new.self.room in
    let rest = c.link.ensures.rest ∙ ap (λ (z : Silent). record z { blocks = bs }) c.end_waits.ensures.rest in
    let all : parts c.take_room.new.self ≡ record p { blocks = bs; waits = ws; room = room; queued = c.take_room.new.self.queued } = c.take_room.ensures.rest ∙ ap (λ (z : Silent). record z { room = room; queued = c.take_room.new.self.queued }) rest in
    let joined = subst (λ (b : List Block). Joins c.args.at c.args.i c.cleared-slot.result b bs) first c.link.ensures.joins in
    let used = c.take_room.ensures.room ∙ ap (λ (z : Silent). z.room) rest in
    let still = still_waits self.blocks.items self.waits.items ws c.args.at c.args.i self.waiting c.end_waits.ensures.still in
    subst (λ (z : Silent). Frame (λ b. b ≡ c.args.at) (λ b. b ≡ c.args.at) 1 (state_of p) (state_of z)) (sym all)
    (frame p bs ws room c.take_room.new.self.queued 1 c.args.at c.args.i c.cleared-slot.result joined used (λ a on j ne w. still a on j (inl ne) w) (λ b. b ≡ c.args.at) (λ b h. ⊎_elim (λ e. e) (λ e. absurd (cleared_nowhere c.slot_in.result b (ap target (sym c.cleared-slot.ensures) ∙ e))) h))

pub returns-clause-hangs : goal.returns-clause-hangs
returns-clause-hangs c =
    let self = c.args.self.now in
    let p = parts self in
    let first = ap (λ (z : Silent). z.blocks) c.end_waits.ensures.rest in
    let ws = c.end_waits.new.self.waits.items in
    let bs = c.link.new.self.blocks.items in
    let room = c.take_room.new.self.room in
    let rest = c.link.ensures.rest ∙ ap (λ (z : Silent). record z { blocks = bs }) c.end_waits.ensures.rest in
    let all : parts c.take_room.new.self ≡ record p { blocks = bs; waits = ws; room = room; queued = c.take_room.new.self.queued } = c.take_room.ensures.rest ∙ ap (λ (z : Silent). record z { room = room; queued = c.take_room.new.self.queued }) rest in
    let slot = c.cleared-slot.ensures ∙ ap cleared c.slot_in.ensures in
    let s = cleared ((memory self.blocks.items c.args.at).slot c.args.i) in
    let joined = subst (λ (t : Slot). Joins c.args.at c.args.i t self.blocks.items bs) slot (subst (λ (b : List Block). Joins c.args.at c.args.i c.cleared-slot.result b bs) first c.link.ensures.joins) in
    let still = still_waits self.blocks.items self.waits.items ws c.args.at c.args.i self.waiting c.end_waits.ensures.still in
    subst (λ (z : Silent). Hangs c.args.at c.args.i s (state_of p) (state_of z)) (sym all)
    (hangs p bs ws room c.take_room.new.self.queued c.args.at c.args.i s joined still (λ e. cleared_nowhere ((memory self.blocks.items c.args.at).slot c.args.i) c.args.at e))

-- nothing is dirty
pub returns-clause-later : goal.returns-clause-later
returns-clause-later c = if_some c.args.after (λ leaf. ⊥ → (⊥ → ⊥) → ⊥) (λ leaf d _. absurd d)
