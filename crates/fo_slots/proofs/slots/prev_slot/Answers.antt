use Rattle.std.proofs.Common.{arith, refl}
use Rattle.fo_slots.proofs.Meaning.{numbers_spelled}
use Rattle.fo_slots.proofs.slots.prev_slot.Goals as goal

pub returns : goal.returns
returns c =
    let spelled = numbers_spelled c.args.bytes.now c.requires (λ i. omega (arith, c.type_inv.bytes i)) in
    rw (c.u32_at.ensures, c.u32_at-2.ensures) (refl, tt, spelled)
