use Rattle.std.proofs.Common.{ℕ, Option, IfSome, subst}
use Rattle.test_names.specs.declared.parts.Part.TheVariants.{Entries}
use Rattle.test_names.specs.Root.{IsLeafOf}
use Rattle.test_names.proofs.Leaves.{leaf_looks}
use Rattle.test_names.proofs.steps.both_at_hand.Goals as goal

pub returns-clause-entries : goal.returns-clause-entries
returns-clause-entries g c =
    let mid = c.at_hand.new.on in
    let end = c.at_hand-2.new.on in
    leaf_looks Entries c.in-Some.entries (c.requires.memory mid).told (g.met.B.Blocks.active mid).0 (g.met.B.Blocks.keeps_all mid end c.at_hand-2.ensures.keeps) c.at_hand-2.ensures.looks
    (subst (λ (o : Option ℕ). IfSome o (IsLeafOf (g.B.Blocks.state mid) Entries)) c.in-Some.is c.in_ok-entries.ensures.leaf)
