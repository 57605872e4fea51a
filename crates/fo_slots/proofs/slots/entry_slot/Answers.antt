use Rattle.std.proofs.Common.{sym, ap, arith}
use Rattle.fo_ports.specs.of_crash.declared.slot.Slot.TheVariants.{Entry as Head}
use Rattle.fo_slots.proofs.Meaning.{entry_meant}
use Rattle.fo_slots.proofs.slots.entry_slot.Goals as goal

pub returns : goal.returns
returns c =
    let s = c.in-Ok.ensures.found in
    (ap Head (sym (entry_meant c.in-Ok.entry c.args.bytes.now s)), (s.holds, omega (arith, c.if-entry-gt4.false)), s)
