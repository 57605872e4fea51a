use Rattle.std.proofs.Common.{◌≡◌, ◌*◌, ◌<◌, ℕ, false, slice_index_or, length}
use Rattle.fo_image.specs.declared.types.Pointer.TheVariants.{Nil}
use Rattle.fo_crash.specs.declared.slot.Slot.TheVariants.{Pointer as To}
use Rattle.fo_ports_plain.specs.Plain.{is_active}
use Rattle.fo_ports_plain.proofs.wait.used_pairs.Given as goal

-- the pairs so far are marked
abbrev pub invariant-loop-k : goal.invariant-loop-k
invariant-loop-k l = ((k : ℕ) → k < l.k → slice_index_or l.pairs k false ≡ is_active (slice_index_or l.slots (2 * k) (To Nil))) × (length l.pairs ≡ 205)
