use Rattle.std.proofs.Common.{rules}
use Rattle.std.proofs.lemmas.List.Sorted.{IsNonDecreasingBy-from_sort_by_key}
use Rattle.fo_check_names.specs.Names.{slot_of, leaf_of, IsTwice}
use Rattle.fo_check_names.proofs.Orders.{differ_by_number, none_then}
use Rattle.fo_check_names.proofs.Moved.{answer_before}
use Rattle.fo_check_names.proofs.names.same_pair.Goals as goal

pub returns-clause-sorted : goal.returns-clause-sorted
returns-clause-sorted c = IsNonDecreasingBy-from_sort_by_key slot_of _ c.sort_unstable_by_key.ensures.sorted (λ a r q k. search rules)

pub returns-clause-answer : goal.returns-clause-answer
returns-clause-answer c = answer_before slot_of c.args.named.now _ c.sort_unstable_by_key.ensures.permutation leaf_of c.repeated_pair.result (none_then (IsTwice slot_of leaf_of _) _ _ c.repeated_pair.result (differ_by_number slot_of _ (returns-clause-sorted c)) c.repeated_pair.ensures)
