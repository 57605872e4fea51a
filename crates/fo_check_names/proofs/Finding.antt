-- Where the record of a slot pair stands in a list that ascends by slots.
use Rattle.std.proofs.Common.{◌≡◌, ◌≢◌, ⊎_elim, ℕ, ◌<◌, true, false, ltb, List, length, get_or, subst, arith}
use Rattle.std.specs.List.{All}
use Rattle.std.specs.List.Sorted.{IsNonDecreasingBy, IsPartitionPoint}
use Rattle.std.proofs.lemmas.Bool.{cases_eq, cases_lt}
use borrow.Author.Tests.{ltb-true, ltb-false}
use Rattle.fo_check_names.specs.declared.names.Named.{Named}
use Rattle.fo_check_names.specs.Names.{slot_of}

-- Where the place for a pair has another pair, or is the end, no record has it.
pub none_there : (named : List Named) (slot at : ℕ) → IsNonDecreasingBy slot_of named → IsPartitionPoint (λ n. ltb (slot_of n) slot ≡ true) (λ n. ltb (slot_of n) slot ≡ false) named at
    → (at < length named → (d : Named) → slot_of (get_or named at d) ≢ slot) → All (λ n. slot_of n ≢ slot) named
none_there named slot at up point apart k d lt same = ⊎_elim
    (λ before. let less = ltb-true _ _ (point.0 k d (omega arith) before) in omega arith)
    (λ from. ⊎_elim
    (λ here. apart (omega arith) d (subst (λ (n : ℕ). slot_of (get_or named n d) ≡ slot) here same))
    (λ other.
    let low = ltb-false _ _ (point.1 at d (omega arith) (omega arith)) in
    let more = up at k d (omega arith) lt in
    apart (omega arith) d (omega arith))
    (cases_eq k at))
    (cases_lt k at)
