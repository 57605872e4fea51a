use Rattle.std.proofs.Common.{rules}
use Rattle.std.proofs.lemmas.List.Sorted.{IsPartitionPoint-from_clause}
use Rattle.fo_world.proofs.Ascending.{not_later, IsPartitionedBy-not_later, place_for-point}
use Rattle.fo_world.proofs.tree.place_for.Goals as goal

pub returns-clause-place : goal.returns-clause-place
returns-clause-place c =
    let parted = IsPartitionedBy-not_later c.args.name.now _ c.requires in
    let point = IsPartitionPoint-from_clause (not_later c.args.name.now) _ _ c.partition_point.ensures.partitioned parted (λ a r q k. search rules) in
    place_for-point c.args.name.now _ _ c.partition_point.ensures.bound point
