-- Bytes that were put at a place of a block.
use Rattle.std.proofs.Common.{ℕ, ◌+◌, ◌≤◌, List, length, arith}
use Rattle.std.proofs.lemmas.Grind.{common_steps}
use Rattle.fo_arch_hash.specs.Form.{Puts, put_at}

pub puts : (from : ℕ) (bytes old : List ℕ) → from + length bytes ≤ length old → Puts from bytes old (put_at from bytes old)
puts from bytes old within = record {
  before = grind (arith, common_steps);
  here = grind (arith, common_steps);
  behind = grind (arith, common_steps);
  length_is = grind (arith, common_steps);
}
