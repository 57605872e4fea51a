use Rattle.std.proofs.Common.{rules, arith}
use Rattle.test_over_blocks.proofs.Empty.{empty_over}
use Rattle.test_over_blocks.proofs.sources.owned.Goals as goal

pub trimmed-requires-clause-prepared : goal.trimmed-requires-clause-prepared
trimmed-requires-clause-prepared g c = λ some.
    let size = c.leaf-2.ensures.same.1 in
    let ends = c.own_leaf-at.ensures.size in
    let was = c.prepare.ensures.same.1 in
    let first = c.leaf.ensures.same.1 in
    let none = c.in_ok-source.ensures.no_bytes in
    (8192, 8192, c.leaf-2.ensures.same.2.still 8192 8192 (c.own_leaf-at.ensures.grows.still 8192 8192 (c.in_ok-prepare.ensures.prepared (search rules))), omega arith, omega (arith, size, ends, was, first, none))

pub leaf-requires : goal.leaf-requires
leaf-requires g c = record { over = empty_over _ c.in_ok-source.ensures }
