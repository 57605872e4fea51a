use Rattle.std.proofs.Common.{◌≡◌, ℕ, ◌<◌, ◌≤◌, length}
use Rattle.venti_store.specs.Held.{HasLine}
use Rattle.venti_store.proofs.writes.lines_of_group.Given as goal

abbrev pub invariant-loop-place : goal.invariant-loop-place
invariant-loop-place l = record {
  long : length l.block ≡ 8192;
  lines : (p : ℕ) → l.first ≤ p → p < l.place → HasLine l.lines p l.block;
}
