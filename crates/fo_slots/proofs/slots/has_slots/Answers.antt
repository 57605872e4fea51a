use Rattle.std.proofs.Common.{◌<◌, arith}
use Rattle.fo_ports.specs.Blocks.{slot_count}
use Rattle.fo_slots.specs.Read.{read}
use Rattle.fo_slots.proofs.Putting.{one_more, slot_read}
use Rattle.fo_slots.proofs.slots.has_slots.Goals as goal

pub loop-i-preserved : goal.loop-i-preserved
loop-i-preserved c =
    let found = c.in-Some.ensures in
    record { so_far = one_more c.args.kind c.args.bytes.now c.loop-i.i c.in-Some.field-0 c.loop-i.invariant.so_far found.0 found.1 }

pub returns-in_default : goal.returns-in_default
returns-in_default c = (
  λ h. absurd (cc),
  λ reads.
      let lt : c.loop-i.i < slot_count c.args.kind = omega (arith, c.slot_count-i-end.ensures.is, c.loop-i-test.true) in
      absurd (c.in_default.ensures _ (slot_read c.args.kind (read c.args.kind c.args.bytes.now) c.args.bytes.now c.loop-i.i reads lt)),
)
