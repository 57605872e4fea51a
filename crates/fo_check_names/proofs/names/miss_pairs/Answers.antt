use Rattle.std.proofs.Common.{inl, inr, ℕ, Bool, ltb, ap, ◌∙◌, rules, arith}
use Rattle.std.proofs.lemmas.List.{get_or_default}
use Rattle.std.proofs.lemmas.List.Sorted.{IsPartitionPoint-from_clause, IsPartitionedBy-ltb}
use Rattle.fo_check_names.specs.declared.names.Named.{Named}
use Rattle.fo_check_names.specs.Finds.{row_for}
use Rattle.fo_check_names.proofs.Missing.{missing_all, by_row}
use Rattle.fo_check_names.proofs.names.miss_pairs.Goals as goal

abbrev less : ℕ → ℕ → Named → Bool
less count row n = ltb (row_for count n) row

pub returns-then-row_of-row : goal.returns-then-row_of-row
returns-then-row_of-row c =
    missing_all c.args.row c.args.count c.args.named.now c.loop-at.named c.partition_point-at.result c.loop-at.at c.loop-at.invariant (by_row c.args.count c.requires c.args.named.now)
    (λ up.
    let parted = IsPartitionedBy-ltb (λ (n : Named). row_for c.args.count n) c.args.named.now c.args.row (by_row c.args.count c.requires c.args.named.now up) in
    IsPartitionPoint-from_clause (less c.args.count c.args.row) _ _ c.partition_point-at.ensures.partitioned parted (λ a r q k. search rules))
    (inr (λ d w. c.if-row_of-row.true (c.row_of.ensures ∙ ap (λ (x : Named). row_for c.args.count x) (get_or_default c.loop-at.named c.loop-at.at c.index-named-at.result d c.loop-at-test.true) ∙ w)))

pub returns : goal.returns
returns c =
    missing_all c.args.row c.args.count c.args.named.now c.loop-at.named c.partition_point-at.result c.loop-at.at c.loop-at.invariant (by_row c.args.count c.requires c.args.named.now)
    (λ up.
    let parted = IsPartitionedBy-ltb (λ (n : Named). row_for c.args.count n) c.args.named.now c.args.row (by_row c.args.count c.requires c.args.named.now up) in
    IsPartitionPoint-from_clause (less c.args.count c.args.row) _ _ c.partition_point-at.ensures.partitioned parted (λ a r q k. search rules))
    (inl (omega (arith, c.loop-at-test.false, c.loop-at.invariant.long)))
