use Rattle.std.proofs.Common.{◌≡◌, length, arith}
use Rattle.fo_slots.proofs.Putting.{puts_into}
use Rattle.fo_slots.proofs.slots.put_slot_into.Goals as goal

pub returns : goal.returns
returns c =
    let len : length c.spell_slot.new.into ≡ 8192 = omega arith in
    let here = rw c.slot_start.ensures at c.spell_slot.ensures.here in
    let beside = rw c.slot_start.ensures at c.spell_slot.ensures.beside in
    puts_into c.args.kind c.args.i c.args.slot.now c.args.bytes.now c.spell_slot.new.into c.requires.count c.requires.fits c.spell_slot.ensures.range here beside len
