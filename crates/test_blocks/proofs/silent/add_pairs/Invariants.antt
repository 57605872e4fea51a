use Rattle.std.proofs.Common.{◌≡◌, ◌+◌, ◌≤◌}
use Rattle.std.specs.Vec.{vec_len, vec_capacity}
use Rattle.test_blocks.specs.Silent.{AddsPairs}
use Rattle.test_blocks.proofs.silent.add_pairs.Given as goal

abbrev pub invariant-loop-pair : goal.invariant-loop-pair
invariant-loop-pair l = record {
  adds : AddsPairs l.at l.on l.kind l.bytes l.pair l.initial.waits.items l.waits.items;
  room : vec_len l.waits ≤ vec_len l.initial.waits + l.pair;
  capacity : vec_capacity l.waits ≡ vec_capacity l.initial.waits;
}
