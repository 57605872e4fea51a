use Rattle.std.proofs.Common.{◌+◌, ◌<◌, ℕ, take, drop, slice_index_or, subst, arith}
use Rattle.fo_image.specs.declared.types.Pointer.TheVariants.{Nil}
use Rattle.fo_crash.specs.declared.slot.Slot.{Slot}
use Rattle.fo_crash.specs.declared.slot.Slot.TheVariants.{Pointer as To}
use Rattle.fo_ports.specs.Blocks.{slot_count, slot_size, SpellsSlot}
use Rattle.fo_ports_plain.specs.Spell.{KeepsBeside}
use Rattle.fo_ports_plain.proofs.Spelling.{one_more_spelled}
use Rattle.fo_ports_plain.proofs.spell.spell_slots.Goals as goal

pub loop-i-preserved : goal.loop-i-preserved
loop-i-preserved c =
    let slot : ℕ → Slot = λ j. slice_index_or c.args.slots.now j (To Nil) in
    let s = slot c.loop-i.i in
    let lt : c.loop-i.i < slot_count c.args.kind = omega (arith, c.loop-i-test.true, c.slot_count-i-end.ensures) in
    let new = c.spell_slot.new.into in
    let start = c.slot_start.ensures in
    one_more_spelled slot c.loop-i.i lt c.requires.fit c.loop-i.invariant
    (subst (λ n. SpellsSlot s (take (slot_size s) (drop n new))) start c.spell_slot.ensures.here)
    (subst (λ n. KeepsBeside n (n + slot_size s) c.loop-i.into new) start c.spell_slot.ensures.beside)
