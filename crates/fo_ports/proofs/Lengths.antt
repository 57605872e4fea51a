-- How long the bytes of blocks are.
use Rattle.std.proofs.Common.{◌≡◌, ◌+◌, ◌≤◌, List, ℕ, length, refl, arith}
use Rattle.std.proofs.lemmas.Grind.{common_steps}
use Rattle.fo_ports.specs.Blocks.{zero_bytes, put_at}

pub length_zero_bytes : length zero_bytes ≡ 8192
unfolding zero_bytes
length_zero_bytes = refl

pub length_put_at : (from : ℕ) (bytes old : List ℕ) → from + length bytes ≤ length old → length (put_at from bytes old) ≡ length old
length_put_at from bytes old within = grind (arith, common_steps)
