use Rattle.std.proofs.Common.{inl, inr, refl, arith}
use Rattle.fo_tree_trim.proofs.Above.{deep_size}
use Rattle.fo_tree_trim.proofs.Counting.{adds_none}
use Rattle.fo_tree_trim.proofs.of_tree_own.Showing.{nothing_shows}
use Rattle.fo_tree_set.proofs.trim.trim_settled.Goals as goal

pub cut_end-requires-clause-ready : goal.cut_end-requires-clause-ready
cut_end-requires-clause-ready g c =
    let over = c.requires.over in
    let size = deep_size c.args.ways.now.tree over.least (omega (arith, over.within, over.low)) (c.is_clear.ensures.deep c.if-is_clear.false) in
    c.requires.ready (omega (arith, size))

pub returns-clause-trims : goal.returns-clause-trims
returns-clause-trims g c = inr c.cut_end.ensures.trims

pub returns-then-is_clear-clause-trims : goal.returns-then-is_clear-clause-trims
returns-then-is_clear-clause-trims g c = inl (refl, refl)

pub returns-then-is_clear-clause-dirties : goal.returns-then-is_clear-clause-dirties
returns-then-is_clear-clause-dirties g c = λ before blocks counted here. adds_none counted here

pub returns-then-is_clear-clause-shown : goal.returns-then-is_clear-clause-shown
returns-then-is_clear-clause-shown g c = nothing_shows (record { each = λ image is. is })
