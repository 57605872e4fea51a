use Rattle.std.proofs.Common.{◌≡◌, ◌+◌, ◌≤◌, vec_len, vec_capacity}
use Rattle.fo_image.specs.declared.types.Kind.TheVariants.{Dir}
use Rattle.fo_slots.specs.Read.{read}
use Rattle.fo_waits.specs.Waited.{ListsPairs}
use Rattle.fo_waits.proofs.pairs.wait_pairs.Given as goal

abbrev pub invariant-loop-k : goal.invariant-loop-k
invariant-loop-k l = record {
  len : vec_len l.waits ≤ vec_len l.fn.waits + l.k;
  capacity : vec_capacity l.waits ≡ vec_capacity l.fn.waits;
  lists : ListsPairs l.clears.items (read (Dir 0) l.bytes) l.at l.on l.k l.fn.waits.items l.waits.items;
}
