use Rattle.std.proofs.Common.{inl, inr, ⊎_elim, arith}
use Rattle.fo_closing.proofs.of_mind.Results.{on_ok}
use Rattle.fo_reserving.proofs.Joining.{reserves_on}
use Rattle.fo_reserving.proofs.needs.close_more.Goals as goal

pub returns-clause-leaves : goal.returns-clause-leaves
returns-clause-leaves g c = reserves_on c.come_to_rest.ensures.leaves c.close_until_usable.ensures.leaves

pub returns-clause-over : goal.returns-clause-over
returns-clause-over g c = on_ok c.close_until_usable.result (λ over. ⊎_elim (λ enough. inl (let e = c.saturating_add.ensures in let n = c.args.blocks in omega (arith, enough, e))) (λ none. inr none) over) c.close_until_usable.ensures.over
