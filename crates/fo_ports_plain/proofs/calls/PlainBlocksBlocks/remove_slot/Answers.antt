use Rattle.std.proofs.Common.{◌≡◌, inl, inr, ◌+◌, ◌-◌, ◌<◌, ◌≤◌, set, sym, ◌∙◌, ap, subst, arith}
use Rattle.fo_crash.specs.declared.place.Place.{Place}
use Rattle.fo_crash.specs.Images.{SameImage, target}
use Rattle.fo_crash.specs.Steps.{cleared, HasBytes}
use Rattle.fo_ports.specs.Blocks.{slot_count, SlotFits}
use Rattle.fo_ports.specs.State.{Frame, Hangs, AddsNoWait, none}
use Rattle.fo_ports_plain.specs.Plain.{block_at, slot_of, memory, label_at, Updates}
use Rattle.fo_crash.proofs.Reach.{lost}
use Rattle.fo_ports_plain.specs.declared.block.PlainBlock.{PlainBlock}
use Rattle.fo_ports_plain.specs.Laws.{label_kind}
use Rattle.fo_ports_plain.proofs.Memory.{if_some, slot_added}
use Rattle.fo_ports_plain.specs.Moves.{Takes, EndsWaits, CountsOne}
use Rattle.fo_ports_plain.specs.Meaning.{Plain, state_of}
use Rattle.fo_ports_plain.specs.Parts.{parts}
use Rattle.fo_ports_plain.proofs.Comes.{few_slots}
use Rattle.fo_ports_plain.proofs.Puts.{all_slot}
use Rattle.fo_ports_plain.proofs.Removes.{cleared_nowhere, ended_use, waits_kept, waits_fewer, waits_still, cleared_fits}
use Rattle.fo_ports_plain.proofs.Frames.{put_frame, put_hangs, put_covers}
use Rattle.fo_ports_plain.proofs.calls.PlainBlocksBlocks.remove_slot.Goals as goal

pub end_waits-requires : goal.end_waits-requires
end_waits-requires c =
    let few : c.args.i < slot_count (label_at c.args.self.now.blocks.items c.args.self.now.made c.args.at).kind = c.requires.slots in
    let most = few_slots (label_at c.args.self.now.blocks.items c.args.self.now.made c.args.at).kind in
    omega (arith, few, most)

pub set_slot-requires-clause-used : goal.set_slot-requires-clause-used
set_slot-requires-clause-used c = ended_use c.cleared-slot.result c.end_waits.ensures.waits

pub returns-clause-frame : goal.returns-clause-frame
returns-clause-frame c =
    let self = c.args.self.now in
    let p = parts self in
    let old = slot_of (block_at p.blocks c.args.at) c.args.i in
    let is : c.cleared-slot.result ≡ cleared (slot_of (block_at p.blocks c.args.at) c.args.i) = c.cleared-slot.ensures ∙ ap cleared c.slot.ensures in
    let takes = subst (λ x. Takes (slot_of (block_at p.blocks c.args.at) c.args.i) x p.blocks c.take_out.new.self.blocks.items) is c.take_out.ensures.takes in
    let mid_is : c.end_waits.new.self.blocks.items ≡ c.take_out.new.self.blocks.items = ap (λ (z : Plain). z.blocks) c.end_waits.ensures.rest in
    let new = c.set_slot.new.self.blocks.items in
    let up = subst (λ x. Updates c.args.at (record (block_at c.take_out.new.self.blocks.items c.args.at) { slots = set ((block_at c.take_out.new.self.blocks.items c.args.at).slots) c.args.i x }) c.take_out.new.self.blocks.items new) is (subst (λ m. Updates c.args.at (record (block_at m c.args.at) { slots = set ((block_at m c.args.at).slots) c.args.i c.cleared-slot.result }) m new) mid_is c.set_slot.ensures.updates) in
    let put = all_slot takes (cleared_nowhere (slot_of (block_at p.blocks c.args.at) c.args.i)) up (c.set_slot.ensures.here ∙ is) in
    let waits = c.end_waits.new.self.waits.items in
    let ends : EndsWaits c.args.at c.args.i p.waits waits = subst (λ ws. EndsWaits c.args.at c.args.i ws waits) (ap (λ (z : Plain). z.waits) c.take_out.ensures.rest) c.end_waits.ensures.waits in
    let room = self.room - 1 in
    let q_is : parts c.set_slot.new.self ≡ record p { blocks = new; waits = waits; room = room; queued = c.take_out.new.self.queued } = c.set_slot.ensures.rest ∙ ap (λ (z : Plain). record z { blocks = new }) (c.end_waits.ensures.rest ∙ ap (λ (z : Plain). record z { waits = waits }) c.take_out.ensures.rest) in
    let some : 0 < self.room = c.requires.room in
    let spent : self.room - 1 + 1 ≡ self.room = omega (arith, some) in
    subst (λ z. Frame (λ b. b ≡ c.args.at) (λ b. b ≡ c.args.at) 1 (state_of p) (state_of z)) (sym q_is)
    (put_frame p new waits room c.take_out.new.self.queued put (λ b. b ≡ c.args.at) 1 (λ b e. absurd (cleared_nowhere (slot_of (block_at p.blocks c.args.at) c.args.i) b e)) (λ b h. (h, cleared_nowhere (slot_of (block_at p.blocks c.args.at) c.args.i) b)) spent (λ a on j ne w. waits_kept ends a on j (inl ne) w))

pub returns-clause-hangs : goal.returns-clause-hangs
returns-clause-hangs c =
    let self = c.args.self.now in
    let p = parts self in
    let old = slot_of (block_at p.blocks c.args.at) c.args.i in
    let is : c.cleared-slot.result ≡ cleared (slot_of (block_at p.blocks c.args.at) c.args.i) = c.cleared-slot.ensures ∙ ap cleared c.slot.ensures in
    let takes = subst (λ x. Takes (slot_of (block_at p.blocks c.args.at) c.args.i) x p.blocks c.take_out.new.self.blocks.items) is c.take_out.ensures.takes in
    let mid_is : c.end_waits.new.self.blocks.items ≡ c.take_out.new.self.blocks.items = ap (λ (z : Plain). z.blocks) c.end_waits.ensures.rest in
    let new = c.set_slot.new.self.blocks.items in
    let up = subst (λ x. Updates c.args.at (record (block_at c.take_out.new.self.blocks.items c.args.at) { slots = set ((block_at c.take_out.new.self.blocks.items c.args.at).slots) c.args.i x }) c.take_out.new.self.blocks.items new) is (subst (λ m. Updates c.args.at (record (block_at m c.args.at) { slots = set ((block_at m c.args.at).slots) c.args.i c.cleared-slot.result }) m new) mid_is c.set_slot.ensures.updates) in
    let put = all_slot takes (cleared_nowhere (slot_of (block_at p.blocks c.args.at) c.args.i)) up (c.set_slot.ensures.here ∙ is) in
    let waits = c.end_waits.new.self.waits.items in
    let ends : EndsWaits c.args.at c.args.i p.waits waits = subst (λ ws. EndsWaits c.args.at c.args.i ws waits) (ap (λ (z : Plain). z.waits) c.take_out.ensures.rest) c.end_waits.ensures.waits in
    let room = self.room - 1 in
    let q_is : parts c.set_slot.new.self ≡ record p { blocks = new; waits = waits; room = room; queued = c.take_out.new.self.queued } = c.set_slot.ensures.rest ∙ ap (λ (z : Plain). record z { blocks = new }) (c.end_waits.ensures.rest ∙ ap (λ (z : Plain). record z { waits = waits }) c.take_out.ensures.rest) in
    subst (λ z. Hangs c.args.at c.args.i (cleared (slot_of (block_at p.blocks c.args.at) c.args.i)) (state_of p) (state_of z)) (sym q_is)
    (put_hangs p new waits room c.take_out.new.self.queued put (λ b e. absurd (cleared_nowhere (slot_of (block_at p.blocks c.args.at) c.args.i) b e)) (waits_still self.waiting ends))

pub returns-clause-no_wait : goal.returns-clause-no_wait
returns-clause-no_wait c =
    let self = c.args.self.now in
    let p = parts self in
    let old = slot_of (block_at p.blocks c.args.at) c.args.i in
    let is : c.cleared-slot.result ≡ cleared (slot_of (block_at p.blocks c.args.at) c.args.i) = c.cleared-slot.ensures ∙ ap cleared c.slot.ensures in
    let takes = subst (λ x. Takes (slot_of (block_at p.blocks c.args.at) c.args.i) x p.blocks c.take_out.new.self.blocks.items) is c.take_out.ensures.takes in
    let mid_is : c.end_waits.new.self.blocks.items ≡ c.take_out.new.self.blocks.items = ap (λ (z : Plain). z.blocks) c.end_waits.ensures.rest in
    let new = c.set_slot.new.self.blocks.items in
    let up = subst (λ x. Updates c.args.at (record (block_at c.take_out.new.self.blocks.items c.args.at) { slots = set ((block_at c.take_out.new.self.blocks.items c.args.at).slots) c.args.i x }) c.take_out.new.self.blocks.items new) is (subst (λ m. Updates c.args.at (record (block_at m c.args.at) { slots = set ((block_at m c.args.at).slots) c.args.i c.cleared-slot.result }) m new) mid_is c.set_slot.ensures.updates) in
    let put = all_slot takes (cleared_nowhere (slot_of (block_at p.blocks c.args.at) c.args.i)) up (c.set_slot.ensures.here ∙ is) in
    let waits = c.end_waits.new.self.waits.items in
    let ends : EndsWaits c.args.at c.args.i p.waits waits = subst (λ ws. EndsWaits c.args.at c.args.i ws waits) (ap (λ (z : Plain). z.waits) c.take_out.ensures.rest) c.end_waits.ensures.waits in
    let room = self.room - 1 in
    let q_is : parts c.set_slot.new.self ≡ record p { blocks = new; waits = waits; room = room; queued = c.take_out.new.self.queued } = c.set_slot.ensures.rest ∙ ap (λ (z : Plain). record z { blocks = new }) (c.end_waits.ensures.rest ∙ ap (λ (z : Plain). record z { waits = waits }) c.take_out.ensures.rest) in
    subst (λ z. AddsNoWait none (state_of p) (state_of z)) (sym q_is) (record { each = λ a on j _ w. waits_fewer ends a on j w })

pub returns-clause-covers : goal.returns-clause-covers
returns-clause-covers c = λ t.
    let self = c.args.self.now in
    let p = parts self in
    let old = slot_of (block_at p.blocks c.args.at) c.args.i in
    let is : c.cleared-slot.result ≡ cleared (slot_of (block_at p.blocks c.args.at) c.args.i) = c.cleared-slot.ensures ∙ ap cleared c.slot.ensures in
    let takes = subst (λ x. Takes (slot_of (block_at p.blocks c.args.at) c.args.i) x p.blocks c.take_out.new.self.blocks.items) is c.take_out.ensures.takes in
    let mid_is : c.end_waits.new.self.blocks.items ≡ c.take_out.new.self.blocks.items = ap (λ (z : Plain). z.blocks) c.end_waits.ensures.rest in
    let new = c.set_slot.new.self.blocks.items in
    let up = subst (λ x. Updates c.args.at (record (block_at c.take_out.new.self.blocks.items c.args.at) { slots = set ((block_at c.take_out.new.self.blocks.items c.args.at).slots) c.args.i x }) c.take_out.new.self.blocks.items new) is (subst (λ m. Updates c.args.at (record (block_at m c.args.at) { slots = set ((block_at m c.args.at).slots) c.args.i c.cleared-slot.result }) m new) mid_is c.set_slot.ensures.updates) in
    let put = all_slot takes (cleared_nowhere (slot_of (block_at p.blocks c.args.at) c.args.i)) up (c.set_slot.ensures.here ∙ is) in
    let waits = c.end_waits.new.self.waits.items in
    let ends : EndsWaits c.args.at c.args.i p.waits waits = subst (λ ws. EndsWaits c.args.at c.args.i ws waits) (ap (λ (z : Plain). z.waits) c.take_out.ensures.rest) c.end_waits.ensures.waits in
    let room = self.room - 1 in
    let q_is : parts c.set_slot.new.self ≡ record p { blocks = new; waits = waits; room = room; queued = c.take_out.new.self.queued } = c.set_slot.ensures.rest ∙ ap (λ (z : Plain). record z { blocks = new }) (c.end_waits.ensures.rest ∙ ap (λ (z : Plain). record z { waits = waits }) c.take_out.ensures.rest) in
    put_covers p new p.waits p.room p.queued put self.sound c.requires.pinned (c.requires.may tt).0.uncovered (λ b r h. lost (memory p.blocks) r.path (cleared (slot_of (block_at p.blocks c.args.at) c.args.i)) (cleared_nowhere (slot_of (block_at p.blocks c.args.at) c.args.i)) b r.leads)

pub returns-clause-keeps : goal.returns-clause-keeps
returns-clause-keeps c =
    let self = c.args.self.now in
    let p = parts self in
    let old = slot_of (block_at p.blocks c.args.at) c.args.i in
    let is : c.cleared-slot.result ≡ cleared (slot_of (block_at p.blocks c.args.at) c.args.i) = c.cleared-slot.ensures ∙ ap cleared c.slot.ensures in
    let takes = subst (λ x. Takes (slot_of (block_at p.blocks c.args.at) c.args.i) x p.blocks c.take_out.new.self.blocks.items) is c.take_out.ensures.takes in
    let mid_is : c.end_waits.new.self.blocks.items ≡ c.take_out.new.self.blocks.items = ap (λ (z : Plain). z.blocks) c.end_waits.ensures.rest in
    let new = c.set_slot.new.self.blocks.items in
    let up = subst (λ x. Updates c.args.at (record (block_at c.take_out.new.self.blocks.items c.args.at) { slots = set ((block_at c.take_out.new.self.blocks.items c.args.at).slots) c.args.i x }) c.take_out.new.self.blocks.items new) is (subst (λ m. Updates c.args.at (record (block_at m c.args.at) { slots = set ((block_at m c.args.at).slots) c.args.i c.cleared-slot.result }) m new) mid_is c.set_slot.ensures.updates) in
    let put = all_slot takes (cleared_nowhere (slot_of (block_at p.blocks c.args.at) c.args.i)) up (c.set_slot.ensures.here ∙ is) in
    let waits = c.end_waits.new.self.waits.items in
    let ends : EndsWaits c.args.at c.args.i p.waits waits = subst (λ ws. EndsWaits c.args.at c.args.i ws waits) (ap (λ (z : Plain). z.waits) c.take_out.ensures.rest) c.end_waits.ensures.waits in
    let room = self.room - 1 in
    let q_is : parts c.set_slot.new.self ≡ record p { blocks = new; waits = waits; room = room; queued = c.take_out.new.self.queued } = c.set_slot.ensures.rest ∙ ap (λ (z : Plain). record z { blocks = new }) (c.end_waits.ensures.rest ∙ ap (λ (z : Plain). record z { waits = waits }) c.take_out.ensures.rest) in
    record {
      as_long = put.as_long;
      held = ap (λ (z : Plain). z.held) q_is;
      high = ap (λ (z : Plain). z.high) q_is;
      root = ap (λ (z : Plain). z.root) q_is;
      tops = λ b. (put.labels b).3;
    }

pub returns-clause-now : goal.returns-clause-now
returns-clause-now c =
    let self = c.args.self.now in
    let p = parts self in
    let old = slot_of (block_at p.blocks c.args.at) c.args.i in
    let is : c.cleared-slot.result ≡ cleared (slot_of (block_at p.blocks c.args.at) c.args.i) = c.cleared-slot.ensures ∙ ap cleared c.slot.ensures in
    let takes = subst (λ x. Takes (slot_of (block_at p.blocks c.args.at) c.args.i) x p.blocks c.take_out.new.self.blocks.items) is c.take_out.ensures.takes in
    let mid_is : c.end_waits.new.self.blocks.items ≡ c.take_out.new.self.blocks.items = ap (λ (z : Plain). z.blocks) c.end_waits.ensures.rest in
    let new = c.set_slot.new.self.blocks.items in
    let up = subst (λ x. Updates c.args.at (record (block_at c.take_out.new.self.blocks.items c.args.at) { slots = set ((block_at c.take_out.new.self.blocks.items c.args.at).slots) c.args.i x }) c.take_out.new.self.blocks.items new) is (subst (λ m. Updates c.args.at (record (block_at m c.args.at) { slots = set ((block_at m c.args.at).slots) c.args.i c.cleared-slot.result }) m new) mid_is c.set_slot.ensures.updates) in
    let put = all_slot takes (cleared_nowhere (slot_of (block_at p.blocks c.args.at) c.args.i)) up (c.set_slot.ensures.here ∙ is) in
    let waits = c.end_waits.new.self.waits.items in
    let ends : EndsWaits c.args.at c.args.i p.waits waits = subst (λ ws. EndsWaits c.args.at c.args.i ws waits) (ap (λ (z : Plain). z.waits) c.take_out.ensures.rest) c.end_waits.ensures.waits in
    let room = self.room - 1 in
    let q_is : parts c.set_slot.new.self ≡ record p { blocks = new; waits = waits; room = room; queued = c.take_out.new.self.queued } = c.set_slot.ensures.rest ∙ ap (λ (z : Plain). record z { blocks = new }) (c.end_waits.ensures.rest ∙ ap (λ (z : Plain). record z { waits = waits }) c.take_out.ensures.rest) in
    inl (put.puts, (λ h. h), if_some c.args.after (λ leaf. HasBytes (memory p.blocks) leaf (λ image. SameImage image (memory new))) (λ leaf. record { each = λ image same. (same.each leaf).bytes ∙ put.puts.bytes leaf }))

pub returns-clause-images : goal.returns-clause-images
returns-clause-images c =
    let self = c.args.self.now in
    let p = parts self in
    let old = slot_of (block_at p.blocks c.args.at) c.args.i in
    let is : c.cleared-slot.result ≡ cleared (slot_of (block_at p.blocks c.args.at) c.args.i) = c.cleared-slot.ensures ∙ ap cleared c.slot.ensures in
    let takes = subst (λ x. Takes (slot_of (block_at p.blocks c.args.at) c.args.i) x p.blocks c.take_out.new.self.blocks.items) is c.take_out.ensures.takes in
    let mid_is : c.end_waits.new.self.blocks.items ≡ c.take_out.new.self.blocks.items = ap (λ (z : Plain). z.blocks) c.end_waits.ensures.rest in
    let new = c.set_slot.new.self.blocks.items in
    let up = subst (λ x. Updates c.args.at (record (block_at c.take_out.new.self.blocks.items c.args.at) { slots = set ((block_at c.take_out.new.self.blocks.items c.args.at).slots) c.args.i x }) c.take_out.new.self.blocks.items new) is (subst (λ m. Updates c.args.at (record (block_at m c.args.at) { slots = set ((block_at m c.args.at).slots) c.args.i c.cleared-slot.result }) m new) mid_is c.set_slot.ensures.updates) in
    let put = all_slot takes (cleared_nowhere (slot_of (block_at p.blocks c.args.at) c.args.i)) up (c.set_slot.ensures.here ∙ is) in
    let waits = c.end_waits.new.self.waits.items in
    let ends : EndsWaits c.args.at c.args.i p.waits waits = subst (λ ws. EndsWaits c.args.at c.args.i ws waits) (ap (λ (z : Plain). z.waits) c.take_out.ensures.rest) c.end_waits.ensures.waits in
    let room = self.room - 1 in
    let q_is : parts c.set_slot.new.self ≡ record p { blocks = new; waits = waits; room = room; queued = c.take_out.new.self.queued } = c.set_slot.ensures.rest ∙ ap (λ (z : Plain). record z { blocks = new }) (c.end_waits.ensures.rest ∙ ap (λ (z : Plain). record z { waits = waits }) c.take_out.ensures.rest) in
    slot_added put.puts (λ image same. if_some c.args.after (λ leaf. (image leaf).bytes ≡ (memory p.blocks leaf).bytes) (λ leaf. (same.each leaf).bytes ∙ put.puts.bytes leaf))

pub set_slot-requires-clause-slot : goal.set_slot-requires-clause-slot
set_slot-requires-clause-slot c =
    let self = c.args.self.now in
    let p = parts self in
    let few : c.args.i < slot_count (label_at p.blocks p.made c.args.at).kind = c.requires.slots in
    let most = few_slots (label_at p.blocks p.made c.args.at).kind in
    let mid_is : c.end_waits.new.self.blocks.items ≡ c.take_out.new.self.blocks.items = ap (λ (z : Plain). z.blocks) c.end_waits.ensures.rest in
    let place : (block_at c.take_out.new.self.blocks.items c.args.at).place ≡ (block_at p.blocks c.args.at).place = ap (λ (z : PlainBlock). z.place) (c.take_out.ensures.takes.same c.args.at) in
    (omega (arith, few, most), subst (λ m. c.args.i < slot_count (block_at m c.args.at).place.kind) (sym mid_is) (subst (λ (z : Place). c.args.i < slot_count z.kind) (sym place) (subst (λ k. c.args.i < slot_count k) (label_kind p.blocks p.made c.args.at).0 few)))

pub set_slot-requires-clause-fits : goal.set_slot-requires-clause-fits
set_slot-requires-clause-fits c =
    let self = c.args.self.now in
    let p = parts self in
    let few : c.args.i < slot_count (label_at p.blocks p.made c.args.at).kind = c.requires.slots in
    let mid_is : c.end_waits.new.self.blocks.items ≡ c.take_out.new.self.blocks.items = ap (λ (z : Plain). z.blocks) c.end_waits.ensures.rest in
    let place : (block_at c.take_out.new.self.blocks.items c.args.at).place ≡ (block_at p.blocks c.args.at).place = ap (λ (z : PlainBlock). z.place) (c.take_out.ensures.takes.same c.args.at) in
    let is : c.cleared-slot.result ≡ cleared (slot_of (block_at p.blocks c.args.at) c.args.i) = c.cleared-slot.ensures ∙ ap cleared c.slot.ensures in
    let was = self.sound.spelled c.args.at c.requires.pinned.0 c.args.i (subst (λ k. c.args.i < slot_count k) (label_kind p.blocks p.made c.args.at).0 few) in
    let fits = cleared_fits (block_at p.blocks c.args.at).place.kind c.args.i (slot_of (block_at p.blocks c.args.at) c.args.i) was in
    subst (λ m. SlotFits (block_at m c.args.at).place.kind c.args.i c.cleared-slot.result) (sym mid_is) (subst (λ (z : Place). SlotFits z.kind c.args.i c.cleared-slot.result) (sym place) (subst (λ x. SlotFits (block_at p.blocks c.args.at).place.kind c.args.i x) (sym is) fits))

pub returns-clause-queues : goal.returns-clause-queues
returns-clause-queues c =
    let p = parts c.args.self.now in
    let is : c.set_slot.new.self.queued ≡ c.take_out.new.self.queued = ap (λ (z : Plain). z.queued) (c.set_slot.ensures.rest ∙ ap (λ (z : Plain). record z { blocks = c.set_slot.new.self.blocks.items }) c.end_waits.ensures.rest) in
    let more : p.queued ≤ c.take_out.new.self.queued = c.take_out.ensures.queued.0 in
    let cleared_is : c.cleared-slot.result ≡ cleared (slot_of (block_at p.blocks c.args.at) c.args.i) = c.cleared-slot.ensures ∙ ap cleared c.slot.ensures in (
      omega (arith, is, more),
      λ x e.
          let one = c.take_out.ensures.queued.1 x e (λ to. cleared_nowhere (slot_of (block_at p.blocks c.args.at) c.args.i) x (ap target (sym cleared_is) ∙ to)) in
          inr (subst (λ n. CountsOne p.queued n) (sym is) one),
    )

-- nothing is dirty
pub returns-clause-later : goal.returns-clause-later
returns-clause-later c = if_some c.args.after (λ leaf. ⊥ → (⊥ → ⊥) → ⊥) (λ leaf d _. absurd d)
