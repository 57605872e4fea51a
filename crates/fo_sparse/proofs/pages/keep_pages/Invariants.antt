use Rattle.std.proofs.Common.{◌≡◌, ℕ, ◌<◌, ◌≤◌, IsSome}
use Rattle.std.specs.Ordering.{nat_cmp}
use Rattle.std.specs.BTreeMap.{get}
use Rattle.fo_sparse.specs.Pages.{SameBytes}
use Rattle.fo_sparse.proofs.pages.keep_pages.Given as goal

abbrev pub invariant-loop-number : goal.invariant-loop-number
invariant-loop-number l =
    SameBytes l.initial.pages l.pages × ((q : ℕ) → l.first ≤ q → q < l.number → IsSome (get nat_cmp l.pages q)) × ((q : ℕ) → l.end ≤ q → get nat_cmp l.pages q ≡ get nat_cmp l.initial.pages q)
