use Rattle.std.proofs.Common.{◌≡◌, ◌+◌, ◌*◌, ◌/◌, ℕ, true, false, sym, ◌∙◌, subst, arith}
use Rattle.fo_dir_change.specs.of_dir_put.Paired.{IsUnnamed}
use Rattle.fo_dir_remove.specs.Removes.{NoneHas}
use Rattle.fo_dir_remove.proofs.entry.clear_second.Goals as goal

half : (p : ℕ) → p ≡ (2 * p + 1) / 2
half p = omega arith

pub returns-then-is_clearing-clause-paired : goal.returns-then-is_clearing-clause-paired
returns-then-is_clearing-clause-paired g c = λ n a e gone all.
    let s = g.B.Blocks.state c.args.on.now in
    c.clear_entry.ensures.paired n a e (λ is. subst (λ k. IsUnnamed n k a c.args.leaf s) (half c.args.p) ((gone is).waiting (c.is_clearing.ensures.0 c.if-is_clearing.true))) all

pub returns-else-is_clearing-clause-paired : goal.returns-else-is_clearing-clause-paired
returns-else-is_clearing-clause-paired g c = λ n a e gone all.
    let s = g.B.Blocks.state c.args.on.now in
    c.clear_unnamed.ensures.paired n a e (λ is. subst (λ k. NoneHas n k a s.may_leave) (half c.args.p) ((gone is).cleared (λ waits. let no : true ≡ false = sym (c.is_clearing.ensures.1 waits) ∙ c.if-is_clearing.false in absurd (cc)))) all
