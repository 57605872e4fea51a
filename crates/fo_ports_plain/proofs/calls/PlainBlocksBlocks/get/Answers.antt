use Rattle.std.proofs.Common.{rules, ◌≡◌, ℕ, ◌+◌, ◌<◌, ◌≤◌, length, take, drop, refl, sym, ◌∙◌, ap, subst, arith}
use Rattle.fo_crash.specs.declared.slot.Slot.{Slot}
use Rattle.fo_ports.specs.Blocks.{slot_count, slot_size, slot_start, slots_from, slots_to, SlotFits, SpellsSlot, IsFormed}
use Rattle.fo_ports_plain.specs.declared.block.PlainBlock.{PlainBlock}
use Rattle.fo_ports_plain.specs.Plain.{block_at, slot_of, Stands}
use Rattle.fo_ports_plain.specs.Laws.{label_kind, formed_at}
use Rattle.fo_ports_plain.proofs.Lists.{block_is}
use Rattle.fo_ports_plain.proofs.Reading.{formed_read}
use Rattle.fo_ports_plain.proofs.calls.PlainBlocksBlocks.get.Goals as goal

pub spell_slots-requires-clause-fit : goal.spell_slots-requires-clause-fit
spell_slots-requires-clause-fit c =
    let self = c.args.self.now in
    let blocks = self.blocks.items in
    let spared : self.made + self.spare ≤ length blocks = self.spared in
    let lt : c.args.at < self.made = c.if-self-at.false in
    let past : 1 < c.args.at = c.requires.block.0 in
    let is = block_is blocks c.args.at c.index-block.result.now (omega (arith, spared, lt)) c.index-block.ensures in
    let stands : Stands blocks self.made c.args.at (block_at blocks c.args.at).place = record { above = omega (arith, past); was_made = lt; is = refl } in
    let place = c.requires.place tt (block_at blocks c.args.at).place stands in
    let fit : (i : ℕ) → i < slot_count c.args.kind → SlotFits c.args.kind i (slot_of (block_at blocks c.args.at) i) = λ i small. subst (λ k. SlotFits k i (slot_of (block_at blocks c.args.at) i)) place.0 (self.sound.spelled c.args.at past i (subst (λ k. i < slot_count k) (sym place.0) small)) in
    λ i small. subst (λ (y : PlainBlock). SlotFits c.args.kind i (slot_of y i)) (sym is) (fit i small)

pub returns-clause-bytes : goal.returns-clause-bytes
returns-clause-bytes c =
    let self = c.args.self.now in
    let blocks = self.blocks.items in
    let spared : self.made + self.spare ≤ length blocks = self.spared in
    let lt : c.args.at < self.made = c.if-self-at.false in
    let past : 1 < c.args.at = c.requires.block.0 in
    let is = block_is blocks c.args.at c.index-block.result.now (omega (arith, spared, lt)) c.index-block.ensures in
    let stands : Stands blocks self.made c.args.at (block_at blocks c.args.at).place = record { above = omega (arith, past); was_made = lt; is = refl } in
    let place = c.requires.place tt (block_at blocks c.args.at).place stands in
    let fit : (i : ℕ) → i < slot_count c.args.kind → SlotFits c.args.kind i (slot_of (block_at blocks c.args.at) i) = λ i small. subst (λ k. SlotFits k i (slot_of (block_at blocks c.args.at) i)) place.0 (self.sound.spelled c.args.at past i (subst (λ k. i < slot_count k) (sym place.0) small)) in
    let eq : c.copy_from_slice.new.self ≡ (block_at blocks c.args.at).bytes = c.copy_from_slice.ensures.after ∙ ap (λ (y : PlainBlock). y.bytes) is in
    let beside = c.spell_slots.ensures.beside in (
      record { before = beside.before ∙ ap (take (slots_from c.args.kind)) eq; behind = beside.behind ∙ ap (drop (slots_to c.args.kind)) eq },
      record { fit = fit; spelled = λ i small. subst (λ (y : Slot). SpellsSlot y (take (slot_size y) (drop (slot_start c.args.kind i) c.spell_slots.new.into))) (ap (λ (y : PlainBlock). slot_of y i) is) (c.spell_slots.ensures.spelled i small) },
    )

pub returns-clause-formed : goal.returns-clause-formed
returns-clause-formed c =
    let self = c.args.self.now in
    let blocks = self.blocks.items in
    let spared : self.made + self.spare ≤ length blocks = self.spared in
    let lt : c.args.at < self.made = c.if-self-at.false in
    let past : 1 < c.args.at = c.requires.block.0 in
    let is = block_is blocks c.args.at c.index-block.result.now (omega (arith, spared, lt)) c.index-block.ensures in
    let stands : Stands blocks self.made c.args.at (block_at blocks c.args.at).place = record { above = omega (arith, past); was_made = lt; is = refl } in
    let place = c.requires.place tt (block_at blocks c.args.at).place stands in
    let eq : c.copy_from_slice.new.self ≡ (block_at blocks c.args.at).bytes = c.copy_from_slice.ensures.after ∙ ap (λ (y : PlainBlock). y.bytes) is in
    let beside = c.spell_slots.ensures.beside in
    let was = formed_at blocks self.made c.args.at (block_at blocks c.args.at).place self.formed past stands in
    let here : IsFormed c.args.kind c.args.rank (block_at blocks c.args.at).bytes = subst (λ k. IsFormed k c.args.rank (block_at blocks c.args.at).bytes) place.0 (subst (λ r. IsFormed (block_at blocks c.args.at).place.kind r (block_at blocks c.args.at).bytes) place.1 was) in
    let len : length c.spell_slots.new.into ≡ 8192 = search (rules, c.spell_slots.auto.into, c.copy_from_slice.ensures.len, c.requires.length) in
    (formed_read c.args.kind c.args.rank c.copy_from_slice.new.self c.spell_slots.new.into beside len (subst (λ b. IsFormed c.args.kind c.args.rank b) (sym eq) here), (label_kind blocks self.made c.args.at).0 ∙ place.0)

pub returns-clause-names : goal.returns-clause-names
returns-clause-names c = λ i below small e.
    let self = c.args.self.now in
    let spared : self.made + self.spare ≤ length self.blocks.items = self.spared in
    let l = self.sound.links c.args.at i below e in
    let lt = l.was_made in
    (l.past, omega (arith, spared, lt))
