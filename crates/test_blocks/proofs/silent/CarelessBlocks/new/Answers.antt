use Rattle.std.proofs.Common.{◌∷◌, ◌++◌, [], List, sym, ap, subst, ◌∙◌}
use Rattle.test_blocks.specs.declared.silent.Block.{Block}
use Rattle.test_blocks.specs.declared.silent.Wait.{Wait}
use Rattle.test_blocks.specs.Silent.{Waiting}
use Rattle.test_blocks.proofs.Giving.{sound_three}
use Rattle.test_blocks.proofs.silent.CarelessBlocks.new.Goals as goal

pub invariant_of-result-clause-sound : goal.invariant_of-result-clause-sound
invariant_of-result-clause-sound c =
    let n = c.args.count in
    sound_three n c.push_reserved.new.self.items c.push_reserved-2.new.self.items c.push_reserved-3.new.self.items c.unused.result c.unused-2.result c.root.result
    (c.push_reserved.ensures.items ∙ ap (λ (xs : List Block). xs ++ c.unused.result ∷ []) c.in-Ok.ensures.items) c.push_reserved-2.ensures.items c.push_reserved-3.ensures.items
    (c.unused.ensures.good n) (c.unused-2.ensures.good n) (c.root.ensures.good n)

pub invariant_of-result-clause-waiting : goal.invariant_of-result-clause-waiting
invariant_of-result-clause-waiting c = subst (λ (ws : List Wait). Waiting c.push_reserved-3.new.self.items ws) (sym c.new.ensures.items) (record { used = λ a on k w. absurd w })
