use Rattle.std.proofs.Common.{◌<◌, ◌≤◌, ◌+◌, [], length, refl, sym, ap, ◌∙◌, subst, arith}
use Rattle.fo_image.specs.declared.types.Label.{Label}
use Rattle.fo_image.specs.declared.types.Pointer.{Pointer}
use Rattle.fo_buffers.specs.Held.{held_at}
use Rattle.fo_crash.specs.declared.slot.Slot.{Slot}
use Rattle.fo_crash.specs.Images.{target}
use Rattle.fo_ports.specs.Blocks.{SlotFits, ends, slot_count}
use Rattle.fo_slots.specs.Read.{PutsInto}
use Rattle.fo_unlink.specs.Pending.{Pending}
use Rattle.fo_bring.proofs.Copying.{good_held as bytes_good}
use Rattle.fo_mind.specs.MindParts.{parts}
use Rattle.fo_mind.specs.Parts.{Parts, label_at}
use Rattle.fo_mind.specs.Slotted.{Hung}
use Rattle.fo_mind.specs.Laws.{some_held}
use Rattle.fo_mind.proofs.Getting.{good_held}
use Rattle.fo_mind.proofs.Gives.{kind_held}
use Rattle.fo_mind.proofs.Joining.{making_hung, no_pairs}
use Rattle.fo_mind.proofs.Making.{making_turned}
use Rattle.fo_mind.proofs.Refilling.{within_facts}
use Rattle.fo_mind.proofs.Slotting.{data_moves, fits_old, good_slot, used_slot}
use Rattle.fo_mind.proofs.mind.Mind.change_held.Goals as goal

pub label-label-requires : goal.label-label-requires
label-label-requires c =
    let self = c.args.self.now in
    let x = some_held (held_at self.buffers c.args.at) c.requires.held in
    self.holding.block c.args.at x.0 x.1

pub copied-block-requires : goal.copied-block-requires
copied-block-requires c = c.requires.held

pub is_raised-raised-requires-clause-slots : goal.is_raised-raised-requires-clause-slots
is_raised-raised-requires-clause-slots c =
    let self = c.args.self.now in
    let some = c.requires.held in
    let kind = ap (λ (z : Label). z.kind) c.label-label.ensures in
    (bytes_good self.first self.count c.label-label.result.kind (held_at self.buffers c.args.at) c.copied-block.result c.copied-block.ensures (good_held c.args.at c.label-label.result.kind self.holding (sym kind) some)).slots

pub put_slot_into-requires-clause-count : goal.put_slot_into-requires-clause-count
put_slot_into-requires-clause-count c = subst (λ (z : Label). c.args.i < slot_count z.kind) (sym c.label-label.ensures) c.requires.spelled.0

pub put_slot_into-requires-clause-fits : goal.put_slot_into-requires-clause-fits
put_slot_into-requires-clause-fits c = subst (λ (z : Label). SlotFits z.kind c.args.i c.args.slot) (sym c.label-label.ensures) c.requires.spelled.1

pub refill-requires-clause-good : goal.refill-requires-clause-good
refill-requires-clause-good c =
    let self = c.args.self.now in
    let kind = (label_at self.labels c.args.at).kind in
    let some = c.requires.held in
    let good = bytes_good self.first self.count kind (held_at self.buffers c.args.at) c.copied-block.result c.copied-block.ensures (good_held c.args.at kind self.holding refl some) in
    let puts = subst (λ (z : Label). PutsInto z.kind c.args.i c.args.slot c.copied-block.result c.put_slot_into.new.bytes) c.label-label.ensures c.put_slot_into.ensures in
    good_slot self.first self.count c.args.i kind c.args.slot c.copied-block.result c.put_slot_into.new.bytes good puts (λ b to. (c.requires.leads b to).0) (omega arith)

pub refill-requires-clause-used : goal.refill-requires-clause-used
refill-requires-clause-used c =
    let self = c.args.self.now in
    let kind = (label_at self.labels c.args.at).kind in
    let puts = subst (λ (z : Label). PutsInto z.kind c.args.i c.args.slot c.copied-block.result c.put_slot_into.new.bytes) c.label-label.ensures c.put_slot_into.ensures in
    used_slot c.args.at c.args.i kind c.args.slot c.copied-block.result c.put_slot_into.new.bytes refl c.copied-block.ensures puts c.requires.used self.waiting

pub hang-requires-clause-at : goal.hang-requires-clause-at
hang-requires-clause-at c =
    let self = c.args.self.now in
    let x = some_held (held_at self.buffers c.args.at) c.requires.held in
    data_moves (parts self [] 0) (parts c.refill.new.self [] 0) self.placed c.refill.new.self.placed (ap (λ (p : Parts). p.region) (c.refill.ensures.is [] 0).rest) (self.holding.block c.args.at x.0 x.1)

pub hang-requires-clause-to : goal.hang-requires-clause-to
hang-requires-clause-to c = λ b e.
    let self = c.args.self.now in
    let l = c.requires.leads b (sym c.target-to.ensures ∙ e) in
    (data_moves (parts self [] 0) (parts c.refill.new.self [] 0) self.placed c.refill.new.self.placed (ap (λ (p : Parts). p.region) (c.refill.ensures.is [] 0).rest) l.0, l.1)

pub follow-requires-clause-kind : goal.follow-requires-clause-kind
follow-requires-clause-kind c =
    let self = c.args.self.now in
    kind_held c.args.at c.label-label.result c.label-label.ensures self.placed self.holding self.labelled c.requires.held

pub follow-requires-clause-old : goal.follow-requires-clause-old
follow-requires-clause-old c =
    let self = c.args.self.now in
    fits_old (parts self [] 0) self.first self.count c.args.at c.args.i c.label-label.result.kind c.slot_held-old.result self.placed self.holding c.requires.held (ap (λ (z : Label). z.kind) c.label-label.ensures) (c.slot_held-old.ensures [] 0) c.requires.spelled.0

pub follow-requires-clause-new : goal.follow-requires-clause-new
follow-requires-clause-new c = subst (λ (z : Label). SlotFits z.kind c.args.i c.args.slot) (sym c.label-label.ensures) c.requires.spelled.1

pub follow-requires-clause-ends : goal.follow-requires-clause-ends
follow-requires-clause-ends c = subst (λ (s : Slot). ends (target s) (target c.args.slot) ≤ c.args.paid + c.args.kept) (sym (c.slot_held-old.ensures [] 0)) c.requires.ends

pub follow-requires-clause-room : goal.follow-requires-clause-room
follow-requires-clause-room c =
    let a = ap (λ (p : Parts). p.room) (c.hang.ensures.is [] 0).rest in
    let b = ap (λ (p : Parts). p.room) (c.refill.ensures.is [] 0).rest in
    let r = c.requires.room in
    omega (arith, a, b, r)

pub follow-requires-clause-making : goal.follow-requires-clause-making
follow-requires-clause-making c =
    let self = c.args.self.now in
    let f = c.refill.ensures.is [] 0 in
    let h = c.hang.ensures.is [] 0 in
    let w = within_facts c.args.at self.placed self.holding c.requires.held in
    let filled = making_turned self.facts c.refill.new.self.facts self.order c.args.at w.0 f.facts c.requires.making in
    let hung = making_hung h.counts filled in
    let a = ap (λ (p : Parts). p.spare) h.rest in
    let b = ap (λ (p : Parts). p.spare) f.rest in
    let d = ap (λ (p : Parts). p.room + length p.clears) h.rest in
    let e = ap (λ (p : Parts). p.room + length p.clears) f.rest in
    let l = ap (λ (p : Parts). p.links) h.rest in
    let m = ap (λ (p : Parts). p.links) f.rest in
    let q = ap (λ (x : Pending). x.room) (c.hang.ensures.queue ∙ c.refill.ensures.queue) in
    record { owing = hung.owing; places = let x = hung.places in omega (arith, x, a, b, l, m); left = let x = hung.left in omega (arith, x, a, b, d, e, q) }

pub returns : goal.returns
returns c = λ disk faults.
    let self = c.args.self.now in
    record {
      was = c.copied-block.result;
      bytes = c.put_slot_into.new.bytes;
      raised = c.is_raised-raised.result;
      kind = c.label-label.result.kind;
      fact = c.get-fact.result;
      led = c.slot_held-old.result;
      filled = record (parts c.refill.new.self disk faults) { room = c.refill.new.self.room + c.args.kept };
      hung = record (parts c.hang.new.self disk faults) { room = c.hang.new.self.room + c.args.kept };
      idle = no_pairs self.walk.pairs self.rests;
      copied = c.copied-block.ensures;
      is_kind = ap (λ (z : Label). z.kind) c.label-label.ensures;
      is_fact = c.get-fact.ensures;
      is_led = c.slot_held-old.ensures disk faults;
      raises = c.is_raised-raised.ensures.is;
      raises_not = c.is_raised-raised.ensures.other;
      puts = c.put_slot_into.ensures;
      long = omega arith;
      refilled = let f = c.refill.ensures.is disk faults in record { held = f.held; turns = f.turns; facts = f.facts; rest = ap (λ (z : Parts). record z { room = z.room + c.args.kept }) f.rest };
      hangs =
          let h = subst (λ (to : Pointer). Hung c.args.at to c.is_raised-raised.result (parts c.refill.new.self disk faults) (parts c.hang.new.self disk faults)) c.target-to.ensures (c.hang.ensures.is disk faults) in
          record { marked = h.marked; counts = h.counts; rest = ap (λ (z : Parts). record z { room = z.room + c.args.kept }) h.rest };
      follows = c.follow.ensures disk faults;
    }

pub refill-requires-clause-current : goal.refill-requires-clause-current
refill-requires-clause-current c = c.requires.current
