use Rattle.std.proofs.Common.{sym, ap}
use Rattle.fo_ports.specs.of_crash.declared.slot.Slot.TheVariants.{Pointer as To}
use Rattle.fo_slots.proofs.Meaning.{pointer_meant}
use Rattle.fo_slots.proofs.slots.pointer_slot.Goals as goal

pub returns : goal.returns
returns c = (ap To (sym (pointer_meant c.read_pointer.result c.args.bytes.now c.read_pointer.ensures.found)), c.read_pointer.ensures.found.holds, c.read_pointer.ensures.found)
