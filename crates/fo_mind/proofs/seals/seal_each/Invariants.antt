use Rattle.std.proofs.Common.{◌⊎◌, ℕ, drop}
use Rattle.std.specs.List.{Contains}
use Rattle.fo_mind.specs.Sealed.{IsSealedIn, Seals}
use Rattle.fo_mind.proofs.seals.seal_each.Given as goal

abbrev pub invariant-loop-at : goal.invariant-loop-at
invariant-loop-at l = record {
  seals : Seals l.fn.facts l.facts;
  each : (b : ℕ) → Contains l.list b → IsSealedIn l.facts b ⊎ Contains (drop l.at-index l.list) b;
}
