use Rattle.std.proofs.Common.{◌≡◌, ℕ, cond, nat_lt, length, slice_index_or}
use Rattle.fo_image.specs.declared.types.Pointer.TheVariants.{Nil}
use Rattle.fo_crash.specs.declared.slot.Slot.TheVariants.{Pointer as To, Entry as Head}
use Rattle.fo_ports.specs.Blocks.{no_entry}
use Rattle.fo_ports_plain.proofs.block.entry_slots.Given as goal

abbrev pub invariant-loop-i : goal.invariant-loop-i
invariant-loop-i l = (length l.slots ≡ 409) × ((j : ℕ) → slice_index_or l.slots j (To Nil) ≡ cond (nat_lt j l.i) (Head no_entry) (To Nil))
