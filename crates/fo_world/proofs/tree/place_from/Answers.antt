use Rattle.std.proofs.Common.{rules}
use Rattle.std.proofs.lemmas.List.Sorted.{IsPartitionPoint-from_clause}
use Rattle.fo_world.proofs.Ascending.{earlier, IsPartitionedBy-earlier, place_from-point}
use Rattle.fo_world.proofs.tree.place_from.Goals as goal

pub returns-clause-place : goal.returns-clause-place
returns-clause-place c =
    let parted = IsPartitionedBy-earlier c.args.name.now _ c.requires in
    let point = IsPartitionPoint-from_clause (earlier c.args.name.now) _ _ c.partition_point.ensures.partitioned parted (λ a r q k. search rules) in
    place_from-point c.args.name.now _ _ c.partition_point.ensures.bound point
