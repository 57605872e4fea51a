use Rattle.std.proofs.Common.{◌≡◌, List, drop}
use Rattle.fo_image.specs.declared.types.Pointer.{Pointer}
use Rattle.fo_unlink.specs.Closing.{HoldsPointers, targets}
use Rattle.fo_unlink.proofs.slots.next_target.Given as goal

abbrev pub invariant-loop-slot : goal.invariant-loop-slot
invariant-loop-slot l = record {
  passed : (pointers : List Pointer) → HoldsPointers pointers l.block → targets (drop l.from pointers) ≡ targets (drop l.slot pointers);
}
