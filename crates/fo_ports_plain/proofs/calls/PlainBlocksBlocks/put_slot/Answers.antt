use Rattle.std.proofs.Common.{◌≡◌, ◌⊎◌, inl, inr, ◌+◌, ◌-◌, ◌<◌, ◌≤◌, refl, sym, ◌∙◌, ap, subst, arith}
use Rattle.fo_image.specs.declared.types.Pointer.TheVariants.{Local}
use Rattle.fo_crash.specs.Images.{target}
use Rattle.fo_crash.specs.declared.place.Place.{Place}
use Rattle.fo_ports.specs.Blocks.{cost, slot_count, SlotFits}
use Rattle.fo_ports_plain.specs.declared.block.PlainBlock.{PlainBlock}
use Rattle.fo_ports.specs.State.{Frame, Hangs}
use Rattle.fo_ports_plain.specs.Plain.{block_at, slot_of, label_at, Instead}
use Rattle.fo_ports_plain.specs.Moves.{MayLink, KeepsUse, CountsOne}
use Rattle.fo_ports_plain.specs.Meaning.{Plain, state_of}
use Rattle.fo_ports_plain.specs.Parts.{parts}
use Rattle.fo_ports_plain.specs.Laws.{label_kind}
use Rattle.fo_ports_plain.proofs.Comes.{may_link, keeps_use, few_slots}
use Rattle.fo_ports_plain.proofs.Puts.{ends_leads, may_after, all_link, all_slot}
use Rattle.fo_ports_plain.proofs.Frames.{put_frame, put_hangs, put_covers}
use Rattle.fo_ports_plain.proofs.Memory.{slot_added}
use Rattle.fo_ports_plain.proofs.Rooted.{comes_rooted}
use Rattle.fo_ports_plain.proofs.calls.PlainBlocksBlocks.put_slot.Goals as goal

pub link-requires-clause-may : goal.link-requires-clause-may
link-requires-clause-may c =
    let self = c.args.self.now in
    let p = parts self in
    let kind = (label_kind p.blocks p.made c.args.at).0 in
    let leads : target c.args.slot ≡ Local c.in-Local.below = sym c.target.ensures ∙ c.in-Local.is in
    let may = may_link p c.args.at c.args.i c.in-Local.below c.args.slot self.sound c.requires.pinned c.requires.current c.requires.spelled.0 c.requires.spelled.1 leads (c.requires.may tt) in
    let after = may_after c.take_out.ensures.takes may in
    subst (λ n. MayLink c.take_out.new.self.blocks.items n c.args.at c.args.i c.in-Local.below c.args.slot) (sym (ap (λ (z : Plain). z.made) c.take_out.ensures.rest)) after

pub link-requires-clause-used : goal.link-requires-clause-used
link-requires-clause-used c =
    let self = c.args.self.now in
    let p = parts self in
    subst (λ ws. KeepsUse ws c.args.at c.args.i c.args.slot) (sym (ap (λ (z : Plain). z.waits) c.take_out.ensures.rest)) (keeps_use p c.args.at c.args.i c.args.slot self.waiting c.requires.same_use)

pub returns-in-Local-clause-images : goal.returns-in-Local-clause-images
returns-in-Local-clause-images c =
    let self = c.args.self.now in
    let p = parts self in
    let kind = (label_kind p.blocks p.made c.args.at).0 in
    let leads : target c.args.slot ≡ Local c.in-Local.below = sym c.target.ensures ∙ c.in-Local.is in
    let may = may_link p c.args.at c.args.i c.in-Local.below c.args.slot self.sound c.requires.pinned c.requires.current c.requires.spelled.0 c.requires.spelled.1 leads (c.requires.may tt) in
    let new = c.link.new.self.blocks.items in
    let put = all_link c.take_out.ensures.takes may c.link.ensures.links in
    slot_added put.puts (λ image same. tt)

pub returns-in-Local-clause-covers : goal.returns-in-Local-clause-covers
returns-in-Local-clause-covers c = λ t.
    let self = c.args.self.now in
    let p = parts self in
    let kind = (label_kind p.blocks p.made c.args.at).0 in
    let leads : target c.args.slot ≡ Local c.in-Local.below = sym c.target.ensures ∙ c.in-Local.is in
    let may = may_link p c.args.at c.args.i c.in-Local.below c.args.slot self.sound c.requires.pinned c.requires.current c.requires.spelled.0 c.requires.spelled.1 leads (c.requires.may tt) in
    let new = c.link.new.self.blocks.items in
    let put = all_link c.take_out.ensures.takes may c.link.ensures.links in
    put_covers p new p.waits p.room p.queued put self.sound c.requires.pinned (c.requires.may tt).uncovered (λ b r h. ((c.requires.may tt).brings.each b r).2 h)

pub returns-in-Local-clause-frame : goal.returns-in-Local-clause-frame
returns-in-Local-clause-frame c =
    let self = c.args.self.now in
    let p = parts self in
    let leads : target c.args.slot ≡ Local c.in-Local.below = sym c.target.ensures ∙ c.in-Local.is in
    let may = may_link p c.args.at c.args.i c.in-Local.below c.args.slot self.sound c.requires.pinned c.requires.current c.requires.spelled.0 c.requires.spelled.1 leads (c.requires.may tt) in
    let new = c.link.new.self.blocks.items in
    let put = all_link c.take_out.ensures.takes may c.link.ensures.links in
    let q_is : parts c.link.new.self ≡ record p { blocks = new; room = self.room - c.cost.result; queued = c.take_out.new.self.queued } = c.link.ensures.rest ∙ ap (λ (z : Plain). record z { blocks = new }) c.take_out.ensures.rest in
    let is = c.cost.ensures in
    let room : cost (slot_of (block_at p.blocks c.args.at) c.args.i) c.args.slot ≤ self.room = c.requires.room in
    let spent : self.room - c.cost.result + cost (slot_of (block_at p.blocks c.args.at) c.args.i) c.args.slot ≡ self.room = omega (arith, is, room) in
    subst (λ z. Frame (λ b. b ≡ c.args.at) (λ b. (b ≡ c.args.at) ⊎ (target c.args.slot ≡ Local b)) (cost (slot_of (block_at p.blocks c.args.at) c.args.i) c.args.slot) (state_of p) (state_of z)) (sym q_is)
    (put_frame p new p.waits (self.room - c.cost.result) c.take_out.new.self.queued put (λ b. (b ≡ c.args.at) ⊎ (target c.args.slot ≡ Local b)) (cost (slot_of (block_at p.blocks c.args.at) c.args.i) c.args.slot) (λ b e. comes_rooted (state_of p) c.args.at c.args.i c.args.slot b (inl refl) (λ y x (k : Instead p.blocks y x). k.apart) (c.requires.may tt).holder ((c.requires.may tt).comes b e)) (λ b h. (λ e. h (inl e), λ e. h (inr e))) spent (λ a on j ne w. w))

pub returns-in-Local-clause-hangs : goal.returns-in-Local-clause-hangs
returns-in-Local-clause-hangs c =
    let self = c.args.self.now in
    let p = parts self in
    let leads : target c.args.slot ≡ Local c.in-Local.below = sym c.target.ensures ∙ c.in-Local.is in
    let may = may_link p c.args.at c.args.i c.in-Local.below c.args.slot self.sound c.requires.pinned c.requires.current c.requires.spelled.0 c.requires.spelled.1 leads (c.requires.may tt) in
    let new = c.link.new.self.blocks.items in
    let put = all_link c.take_out.ensures.takes may c.link.ensures.links in
    let q_is : parts c.link.new.self ≡ record p { blocks = new; room = self.room - c.cost.result; queued = c.take_out.new.self.queued } = c.link.ensures.rest ∙ ap (λ (z : Plain). record z { blocks = new }) c.take_out.ensures.rest in
    subst (λ z. Hangs c.args.at c.args.i c.args.slot (state_of p) (state_of z)) (sym q_is)
    (put_hangs p new p.waits (self.room - c.cost.result) c.take_out.new.self.queued put (λ b e. let below : c.in-Local.below ≡ b = cc in subst (λ x. (0 < x) × (x < p.made)) below (let past = may.below_made.0 in omega (arith, past), may.below_made.1)) (λ a on j h w. w))

pub returns-in-Local-clause-now : goal.returns-in-Local-clause-now
returns-in-Local-clause-now c =
    let self = c.args.self.now in
    let p = parts self in
    let leads : target c.args.slot ≡ Local c.in-Local.below = sym c.target.ensures ∙ c.in-Local.is in
    let may = may_link p c.args.at c.args.i c.in-Local.below c.args.slot self.sound c.requires.pinned c.requires.current c.requires.spelled.0 c.requires.spelled.1 leads (c.requires.may tt) in
    let new = c.link.new.self.blocks.items in
    let put = all_link c.take_out.ensures.takes may c.link.ensures.links in
    put.puts

pub returns-in-Local-clause-keeps : goal.returns-in-Local-clause-keeps
returns-in-Local-clause-keeps c =
    let self = c.args.self.now in
    let p = parts self in
    let leads : target c.args.slot ≡ Local c.in-Local.below = sym c.target.ensures ∙ c.in-Local.is in
    let may = may_link p c.args.at c.args.i c.in-Local.below c.args.slot self.sound c.requires.pinned c.requires.current c.requires.spelled.0 c.requires.spelled.1 leads (c.requires.may tt) in
    let new = c.link.new.self.blocks.items in
    let put = all_link c.take_out.ensures.takes may c.link.ensures.links in
    let q_is : parts c.link.new.self ≡ record p { blocks = new; room = self.room - c.cost.result; queued = c.take_out.new.self.queued } = c.link.ensures.rest ∙ ap (λ (z : Plain). record z { blocks = new }) c.take_out.ensures.rest in
    record {
      as_long = put.as_long;
      held = ap (λ (z : Plain). z.held) q_is;
      high = ap (λ (z : Plain). z.high) q_is;
      root = ap (λ (z : Plain). z.root) q_is;
      tops = λ t. (put.labels t).3;
    }

pub returns-in_default-clause-frame : goal.returns-in_default-clause-frame
returns-in_default-clause-frame c =
    let self = c.args.self.now in
    let p = parts self in
    let new = c.set_slot.new.self.blocks.items in
    let put = all_slot c.take_out.ensures.takes (λ b e. c.in_default.not-Local b (c.target.ensures ∙ e)) c.set_slot.ensures.updates c.set_slot.ensures.here in
    let q_is : parts c.set_slot.new.self ≡ record p { blocks = new; room = self.room - c.cost.result; queued = c.take_out.new.self.queued } = c.set_slot.ensures.rest ∙ ap (λ (z : Plain). record z { blocks = new }) c.take_out.ensures.rest in
    let is = c.cost.ensures in
    let room : cost (slot_of (block_at p.blocks c.args.at) c.args.i) c.args.slot ≤ self.room = c.requires.room in
    let spent : self.room - c.cost.result + cost (slot_of (block_at p.blocks c.args.at) c.args.i) c.args.slot ≡ self.room = omega (arith, is, room) in
    subst (λ z. Frame (λ b. b ≡ c.args.at) (λ b. (b ≡ c.args.at) ⊎ (target c.args.slot ≡ Local b)) (cost (slot_of (block_at p.blocks c.args.at) c.args.i) c.args.slot) (state_of p) (state_of z)) (sym q_is)
    (put_frame p new p.waits (self.room - c.cost.result) c.take_out.new.self.queued put (λ b. (b ≡ c.args.at) ⊎ (target c.args.slot ≡ Local b)) (cost (slot_of (block_at p.blocks c.args.at) c.args.i) c.args.slot) (λ b e. comes_rooted (state_of p) c.args.at c.args.i c.args.slot b (inl refl) (λ y x (k : Instead p.blocks y x). k.apart) (c.requires.may tt).holder ((c.requires.may tt).comes b e)) (λ b h. (λ e. h (inl e), λ e. h (inr e))) spent (λ a on j ne w. w))

pub returns-in_default-clause-hangs : goal.returns-in_default-clause-hangs
returns-in_default-clause-hangs c =
    let self = c.args.self.now in
    let p = parts self in
    let new = c.set_slot.new.self.blocks.items in
    let put = all_slot c.take_out.ensures.takes (λ b e. c.in_default.not-Local b (c.target.ensures ∙ e)) c.set_slot.ensures.updates c.set_slot.ensures.here in
    let q_is : parts c.set_slot.new.self ≡ record p { blocks = new; room = self.room - c.cost.result; queued = c.take_out.new.self.queued } = c.set_slot.ensures.rest ∙ ap (λ (z : Plain). record z { blocks = new }) c.take_out.ensures.rest in
    subst (λ z. Hangs c.args.at c.args.i c.args.slot (state_of p) (state_of z)) (sym q_is)
    (put_hangs p new p.waits (self.room - c.cost.result) c.take_out.new.self.queued put (λ b e. absurd (c.in_default.not-Local b (c.target.ensures ∙ e))) (λ a on j h w. w))

pub returns-in_default-clause-now : goal.returns-in_default-clause-now
returns-in_default-clause-now c =
    let self = c.args.self.now in
    let p = parts self in
    let new = c.set_slot.new.self.blocks.items in
    let put = all_slot c.take_out.ensures.takes (λ b e. c.in_default.not-Local b (c.target.ensures ∙ e)) c.set_slot.ensures.updates c.set_slot.ensures.here in
    put.puts

pub returns-in_default-clause-keeps : goal.returns-in_default-clause-keeps
returns-in_default-clause-keeps c =
    let self = c.args.self.now in
    let p = parts self in
    let new = c.set_slot.new.self.blocks.items in
    let put = all_slot c.take_out.ensures.takes (λ b e. c.in_default.not-Local b (c.target.ensures ∙ e)) c.set_slot.ensures.updates c.set_slot.ensures.here in
    let q_is : parts c.set_slot.new.self ≡ record p { blocks = new; room = self.room - c.cost.result; queued = c.take_out.new.self.queued } = c.set_slot.ensures.rest ∙ ap (λ (z : Plain). record z { blocks = new }) c.take_out.ensures.rest in
    record {
      as_long = put.as_long;
      held = ap (λ (z : Plain). z.held) q_is;
      high = ap (λ (z : Plain). z.high) q_is;
      root = ap (λ (z : Plain). z.root) q_is;
      tops = λ t. (put.labels t).3;
    }

pub returns-in_default-clause-images : goal.returns-in_default-clause-images
returns-in_default-clause-images c =
    let self = c.args.self.now in
    let p = parts self in
    let new = c.set_slot.new.self.blocks.items in
    let put = all_slot c.take_out.ensures.takes (λ b e. c.in_default.not-Local b (c.target.ensures ∙ e)) c.set_slot.ensures.updates c.set_slot.ensures.here in
    slot_added put.puts (λ image same. tt)

pub returns-in_default-clause-covers : goal.returns-in_default-clause-covers
returns-in_default-clause-covers c = λ t.
    let self = c.args.self.now in
    let p = parts self in
    let new = c.set_slot.new.self.blocks.items in
    let put = all_slot c.take_out.ensures.takes (λ b e. c.in_default.not-Local b (c.target.ensures ∙ e)) c.set_slot.ensures.updates c.set_slot.ensures.here in
    put_covers p new p.waits p.room p.queued put self.sound c.requires.pinned (c.requires.may tt).uncovered (λ b r h. ((c.requires.may tt).brings.each b r).2 h)

pub take_out-requires-clause-slots : goal.take_out-requires-clause-slots
take_out-requires-clause-slots c =
    let few : c.args.i < slot_count (label_at c.args.self.now.blocks.items c.args.self.now.made c.args.at).kind = c.requires.spelled.0 in
    let most = few_slots (label_at c.args.self.now.blocks.items c.args.self.now.made c.args.at).kind in
    omega (arith, few, most)

pub returns-in_default-clause-queues : goal.returns-in_default-clause-queues
returns-in_default-clause-queues c =
    let p = parts c.args.self.now in
    let is : c.set_slot.new.self.queued ≡ c.take_out.new.self.queued = ap (λ (z : Plain). z.queued) c.set_slot.ensures.rest in
    let more : p.queued ≤ c.take_out.new.self.queued = c.take_out.ensures.queued.0 in (
      omega (arith, is, more),
      λ e.
          let led = ends_leads (target (slot_of (block_at p.blocks c.args.at) c.args.i)) (target c.args.slot) e in
          let one = c.take_out.ensures.queued.1 led.0 led.1 (λ to. c.in_default.not-Local led.0 (c.target.ensures ∙ to)) in
          subst (λ n. CountsOne p.queued n) (sym is) one,
    )

pub link-requires-clause-slot : goal.link-requires-clause-slot
link-requires-clause-slot c =
    let few : c.args.i < slot_count (label_at c.args.self.now.blocks.items c.args.self.now.made c.args.at).kind = c.requires.spelled.0 in
    let most = few_slots (label_at c.args.self.now.blocks.items c.args.self.now.made c.args.at).kind in
    omega (arith, few, most)

pub set_slot-requires : goal.set_slot-requires
set_slot-requires c =
    let self = c.args.self.now in
    let p = parts self in
    let kind = (label_kind p.blocks p.made c.args.at).0 in
    let mid = c.take_out.new.self.blocks.items in
    let place : (block_at mid c.args.at).place ≡ (block_at p.blocks c.args.at).place = ap (λ (z : PlainBlock). z.place) (c.take_out.ensures.takes.same c.args.at) in
    let few : c.args.i < slot_count (label_at p.blocks p.made c.args.at).kind = c.requires.spelled.0 in
    let most = few_slots (label_at p.blocks p.made c.args.at).kind in
    record {
      block = (c.requires.pinned.0, subst (λ n. c.args.at < n) (sym (ap (λ (z : Plain). z.made) c.take_out.ensures.rest)) c.requires.pinned.1);
      slot = (omega (arith, few, most), subst (λ (z : Place). c.args.i < slot_count z.kind) (sym place) (subst (λ k. c.args.i < slot_count k) kind few));
      nowhere = λ b e. c.in_default.not-Local b (c.target.ensures ∙ e);
      fits = subst (λ (z : Place). SlotFits z.kind c.args.i c.args.slot) (sym place) (subst (λ k. SlotFits k c.args.i c.args.slot) kind c.requires.spelled.1);
      used = subst (λ ws. KeepsUse ws c.args.at c.args.i c.args.slot) (sym (ap (λ (z : Plain). z.waits) c.take_out.ensures.rest)) (keeps_use p c.args.at c.args.i c.args.slot self.waiting c.requires.same_use);
    }
