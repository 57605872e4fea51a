use Rattle.std.proofs.Common.{refl, ◌∙◌}
use Rattle.fo_image.specs.declared.types.Pointer.TheVariants.{Local}
use Rattle.fo_unlink.proofs.Finding.{slot_is, targets-some}
use Rattle.fo_unlink.proofs.slots.next_target.Goals as goal

pub returns-in-Local : goal.returns-in-Local
returns-in-Local c = record {
  within = (c.loop-slot.auto.slot, c.loop-slot-test.true);
  next = λ pointers holds.
      let s = c.loop-slot.slot in
      let is = slot_is pointers c.args.block.now s (Local c.in-Local.at) holds c.loop-slot-test.true c.in-Local.ensures.only in
      c.loop-slot.invariant.passed pointers holds ∙ targets-some pointers s c.in-Local.at (Local c.in-Local.at) is refl;
}
