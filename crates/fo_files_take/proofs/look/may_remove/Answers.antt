use Rattle.fo_files_take.proofs.Refusing.{refused_wider}
use Rattle.fo_files_take.proofs.look.may_remove.Goals as goal

pub returns-in-Err-clause-refused : goal.returns-in-Err-clause-refused
returns-in-Err-clause-refused g c = refused_wider c.args.view c.args.halted ⊥ _ c.in-Err.why (λ no'. absurd no') (c.in-Err.ensures.aside c.args.view c.args.halted)
