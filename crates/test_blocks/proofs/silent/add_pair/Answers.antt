use Rattle.std.proofs.Common.{inl, inr, ⊎_elim, List, sym, subst}
use Rattle.test_blocks.specs.declared.silent.Wait.{Wait}
use Rattle.test_blocks.specs.Silent.{Listed}
use Rattle.test_blocks.proofs.Listing.{listed_more, listed_last, listed_split}
use Rattle.test_blocks.proofs.silent.add_pair.Goals as goal

pub returns-then-used-clause-still : goal.returns-then-used-clause-still
returns-then-used-clause-still c = λ a o k h. subst (λ (ws : List Wait). Listed ws a o k) (sym c.push_reserved.ensures.items) (listed_more c.args.waits.now.items c.args.wait a o k h)

pub returns-then-used-clause-here : goal.returns-then-used-clause-here
returns-then-used-clause-here c = λ _. subst (λ (ws : List Wait). Listed ws c.args.wait.at c.args.wait.on c.args.wait.pair) (sym c.push_reserved.ensures.items) (listed_last c.args.waits.now.items c.args.wait)

pub returns-then-used-clause-only : goal.returns-then-used-clause-only
returns-then-used-clause-only c = λ a o k h. ⊎_elim
    (λ was. inl was)
    (λ now. inr (now.0, now.1, now.2, c.if-used.true))
    (listed_split c.args.waits.now.items c.args.wait a o k (subst (λ (ws : List Wait). Listed ws a o k) c.push_reserved.ensures.items h))
