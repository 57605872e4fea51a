use Rattle.std.proofs.Common.{ℕ, Option, IfSome, subst}
use Rattle.test_names.specs.declared.parts.Part.TheVariants.{Entries, Records}
use Rattle.test_names.specs.Root.{IsLeafOf}
use Rattle.test_names.proofs.Leaves.{leaf_looks}
use Rattle.test_names.proofs.renames.move_to.Goals as goal

pub transfer-requires-clause-entries : goal.transfer-requires-clause-entries
transfer-requires-clause-entries g c =
    let mid = c.both_at_hand.new.on in
    let end = c.at_hand.new.on in
    leaf_looks Entries c.in-Some.entries (c.requires.memory mid).told (g.met.B.Blocks.active mid).0 (g.met.B.Blocks.keeps_all mid end c.at_hand.ensures.keeps) c.at_hand.ensures.looks
    (subst (λ (o : Option (ℕ × ℕ)). IfSome o (λ two. IsLeafOf (g.B.Blocks.state mid) Entries two.0)) c.in-Some.is c.in_ok-entries.ensures.entries)

pub transfer-requires-clause-from : goal.transfer-requires-clause-from
transfer-requires-clause-from g c =
    let mid = c.both_at_hand.new.on in
    let end = c.at_hand.new.on in
    leaf_looks Records c.in-Some.from (c.requires.memory mid).told (g.met.B.Blocks.active mid).0 (g.met.B.Blocks.keeps_all mid end c.at_hand.ensures.keeps) c.at_hand.ensures.looks
    (subst (λ (o : Option (ℕ × ℕ)). IfSome o (λ two. IsLeafOf (g.B.Blocks.state mid) Records two.1)) c.in-Some.is c.in_ok-entries.ensures.leaf)
