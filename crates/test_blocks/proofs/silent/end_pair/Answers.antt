use Rattle.std.proofs.Common.{◌≡◌, ◌⊎◌, List, sym, subst}
use Rattle.test_blocks.specs.declared.silent.Wait.{Wait}
use Rattle.test_blocks.specs.Silent.{Listed, is_other}
use Rattle.test_blocks.proofs.Listing.{still, only, dropped, kept}
use Rattle.test_blocks.proofs.silent.end_pair.Goals as goal

pub returns-clause-still : goal.returns-clause-still
returns-clause-still c = λ a o k h.
    let on = c.args.on in
    let pair = c.args.pair in
    subst (λ (ws : List Wait). ((o ≡ on) × (k ≡ pair)) ⊎ Listed ws a o k) (sym c.drop_pair.ensures.items) (still (is_other on pair) on pair (dropped on pair) c.args.waits.now.items a o k h)

pub returns-clause-only : goal.returns-clause-only
returns-clause-only c = λ a o k h.
    let on = c.args.on in
    let pair = c.args.pair in
    only (is_other on pair) on pair (kept on pair) c.args.waits.now.items a o k (subst (λ (ws : List Wait). Listed ws a o k) c.drop_pair.ensures.items h)
