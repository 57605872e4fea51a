use Rattle.std.proofs.Common.{◌≢◌, ◌<◌, ℕ, slice_index_or}
use Rattle.fo_crash.specs.Images.{target}
use Rattle.fo_image.specs.declared.types.Pointer.TheVariants.{Nil, Local}
use Rattle.fo_crash.specs.declared.slot.Slot.TheVariants.{Pointer as To}
use Rattle.fo_ports_plain.proofs.block.leads_nowhere.Given as goal

-- the slots so far lead nowhere
abbrev pub invariant-loop-slot : goal.invariant-loop-slot
invariant-loop-slot l = (j x : ℕ) → j < l.slot-index → target (slice_index_or l.slots j (To Nil)) ≢ Local x
