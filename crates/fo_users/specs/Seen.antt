-- Names that were seen, as an ordered set has them.
use Rattle.std.specs.Prelude.{ℕ, List, Bool}
use Rattle.std.specs.Borrow.{Bor}
use Rattle.std.specs.Ordering.{nat_cmp}
use Rattle.std.specs.Cmp.Lexicographic.{slice_cmp}
use Rattle.std.specs.BTreeSet.{BTreeSet, contains_by}

-- the name is among them
abbrev pub was_seen : BTreeSet (Bor (List ℕ)) → List ℕ → Bool
was_seen seen name = contains_by (λ k. slice_cmp nat_cmp name k.now) seen
