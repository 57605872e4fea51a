use Rattle.std.proofs.Common.{slice_index_or}
use Rattle.fo_image.specs.declared.types.Pointer.TheVariants.{Nil}
use Rattle.fo_crash.specs.declared.slot.Slot.TheVariants.{Pointer as To}
use Rattle.fo_ports_plain.proofs.Spelling.{SpellsUpTo}
use Rattle.fo_ports_plain.proofs.spell.spell_slots.Given as goal

abbrev pub invariant-loop-i : goal.invariant-loop-i
invariant-loop-i l = SpellsUpTo l.kind (λ j. slice_index_or l.slots j (To Nil)) l.i l.initial.into l.into
