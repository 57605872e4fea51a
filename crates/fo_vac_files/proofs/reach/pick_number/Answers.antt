use Rattle.std.proofs.Common.{inl, inr, refl, subst}
use Rattle.std.proofs.lemmas.Result.{err_from_is_err_and}
use Rattle.fo_world.specs.Tree.{first}
use Rattle.fo_vac_dir.specs.declared.choice.Wanted.TheVariants.{Number}
use Rattle.fo_vac_dir.specs.Choice.{test_of}
use Rattle.fo_vac_dir.specs.Dir.{names_of}
use Rattle.fo_vac_files.specs.Stands.{Picks}
use Rattle.fo_vac_files.proofs.Entered.{none_there}
use Rattle.fo_vac_files.proofs.reach.pick_number.Goals as goal

pub returns-in_err-found-clause-held : goal.returns-in_err-found-clause-held
returns-in_err-found-clause-held g c = λ h o entries meta k d.
    let p = err_from_is_err_and c.from_residual.result c.from_residual.ensures.1 in
    rw (p.1, p.2) (inr (c.in_err-found.ensures.held h o entries meta k d))

pub returns-in-Some-clause-held : goal.returns-in-Some-clause-held
returns-in-Some-clause-held g c = λ h o entries meta k d.
    subst (Picks h o (first (test_of (Number c.args.number)) (names_of h c.args.folder.levels entries meta))) c.in-Some.is (c.in_ok-found.ensures.held h o entries meta k d)

pub returns-clause-held : goal.returns-clause-held
returns-clause-held g c = λ h o entries meta k d.
    inl (none_there h o _ (subst (Picks h o (first (test_of (Number c.args.number)) (names_of h c.args.folder.levels entries meta))) c.in-None.is (c.in_ok-found.ensures.held h o entries meta k d)), refl)
