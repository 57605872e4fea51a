-- One more write to what a writer holds, where that is known.
use Rattle.std.proofs.Common.{ℕ, ◌+◌, ◌≤◌, List, ◌++◌, length, take, drop, Some, None, ap, ◌∙◌}
use Rattle.std.proofs.lemmas.List.{append_assoc}
use Rattle.std.specs.declared.option.Option.{Option}
use Rattle.std.specs.Io.KnownBytes.{Appends}
use Rattle.fo_links.proofs.Giving.{take_further}

appends_joins : (a b c : Option (List ℕ)) (first second : List ℕ) → Appends a b first → Appends b c second → Appends a c (first ++ second)
appends_joins None b c first second k l = tt
appends_joins (Some xs) None c first second k l = absurd k
appends_joins (Some xs) (Some ys) None first second k l = absurd l
appends_joins (Some xs) (Some ys) (Some zs) first second k l =
    l ∙ ap (λ (t : List ℕ). t ++ second) k ∙ append_assoc xs first second

-- the first `at` bytes of a piece, and then n of the others
pub appends_more : (a b c : Option (List ℕ)) (bytes : List ℕ) (at n : ℕ) → at + n ≤ length bytes
    → Appends a b (take at bytes) → Appends b c (take n (drop at bytes)) → Appends a c (take (at + n) bytes)
appends_more a b c bytes at n le k l =
    rw (take_further bytes at n le) (appends_joins a b c (take at bytes) (take n (drop at bytes)) k l)
