use Rattle.std.proofs.Common.{rules}
use Rattle.std.proofs.lemmas.List.Sorted.{IsNonDecreasingBy-from_sort_by_key}
use Rattle.fo_check_names.specs.Names.{number_of, holder_of, IsTwice}
use Rattle.fo_check_names.proofs.Orders.{differ_by_number, none_then}
use Rattle.fo_check_names.proofs.Moved.{answer_before}
use Rattle.fo_check_names.proofs.names.same_number.Goals as goal

pub returns-clause-answer : goal.returns-clause-answer
returns-clause-answer c = answer_before number_of c.args.found.now _ c.sort_unstable_by_key.ensures.permutation holder_of c.repeated_number.result (none_then (IsTwice number_of holder_of _) _ _ c.repeated_number.result (differ_by_number number_of _ (IsNonDecreasingBy-from_sort_by_key number_of _ c.sort_unstable_by_key.ensures.sorted (λ a r q k. search rules))) c.repeated_number.ensures)
