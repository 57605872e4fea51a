use Rattle.std.proofs.Common.{◌≡◌, ℕ, ◌*◌, ◌^◌, ◌<◌}
use Rattle.fo_image.proofs.entries.least_depth.Given as goal

abbrev pub invariant-loop-depth : goal.invariant-loop-depth
invariant-loop-depth l = (l.held ≡ 409 ^ l.depth) × ((less : ℕ) → less < l.depth → 8192 * 409 ^ less < l.size)
