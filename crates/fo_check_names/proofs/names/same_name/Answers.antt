use Rattle.std.proofs.Common.{rules}
use Rattle.std.proofs.lemmas.List.Sorted.{answers_always}
use Rattle.fo_check_names.specs.Names.{name_of, leaf_of, IsTwice}
use Rattle.fo_check_names.proofs.Orders.{comes_before, comes_before_order, differ_by_name, none_then}
use Rattle.fo_check_names.proofs.Moved.{answer_before}
use Rattle.fo_check_names.proofs.names.same_name.Goals as goal

pub returns-clause-answer : goal.returns-clause-answer
returns-clause-answer c = answer_before name_of c.args.named.now _ c.sort_unstable_by.ensures.permutation leaf_of c.repeated_name.result (none_then (IsTwice name_of leaf_of _) _ _ c.repeated_name.result (differ_by_name _ (c.sort_unstable_by.ensures.sorted comes_before comes_before_order (answers_always _ _ _ (λ f a r g h. search rules)))) c.repeated_name.ensures)
