use Rattle.std.proofs.Common.{◌≡◌, true, false, sym, ◌∙◌}
use Rattle.fo_waits.proofs.Pairing.{lists_calm, lists_on}
use Rattle.fo_waits.proofs.pairs.wait_pair.Goals as goal

clash : false ≡ true → ⊥
clash e = cc

pub returns-then-not-is_used-clause-lists : goal.returns-then-not-is_used-clause-lists
returns-then-not-is_used-clause-lists c = λ old. lists_calm c.args.k (λ active free. clash (sym (sym c.is_used.ensures ∙ c.if-not-is_used.true) ∙ active))

pub returns-then-is_cleared-clause-lists : goal.returns-then-is_cleared-clause-lists
returns-then-is_cleared-clause-lists c = λ old. lists_calm c.args.k (λ active free. free (c.is_cleared.ensures.0 c.if-is_cleared.true))

pub returns-clause-lists : goal.returns-clause-lists
returns-clause-lists c = λ old. lists_on c.args.k c.push_reserved.ensures.items (sym c.is_used.ensures ∙ c.if-not-is_used.false)
