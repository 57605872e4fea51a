use Rattle.std.proofs.Common.{◌≡◌, ◌<◌, ap, ◌∙◌, get_or, set, length, length-set, arith}
use Rattle.fo_image.specs.declared.types.Entry.{Entry}
use Rattle.fo_image.specs.declared.types.Pointer.TheVariants.{Nil}
use Rattle.fo_crash.specs.declared.slot.Slot.TheVariants.{Pointer as To, Entry as Head}
use Rattle.fo_ports.specs.Blocks.{no_entry}
use Rattle.fo_ports_plain.proofs.Lists.{one_more}
use Rattle.fo_ports_plain.proofs.block.entry_slots.Goals as goal

pub loop-i-preserved : goal.loop-i-preserved
loop-i-preserved c =
    let test : c.loop-i.i < 204 = c.loop-i-test.true in
    let long : length c.loop-i.slots ≡ 409 = c.loop-i.invariant.0 in (
      length-set c.loop-i.slots c.loop-i.i (Head c.no_entry.result) ∙ long,
      λ j.
          ap (λ (e : Entry). get_or (set c.loop-i.slots c.loop-i.i (Head e)) j (To Nil)) c.no_entry.ensures
          ∙ one_more c.loop-i.slots (Head no_entry) (To Nil) c.loop-i.i (omega (arith, test, long)) c.loop-i.invariant.1 j,
    )
