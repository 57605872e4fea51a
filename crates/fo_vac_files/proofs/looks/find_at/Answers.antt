use Rattle.std.proofs.Common.{◌≡◌, subst, Ok}
use Rattle.std.proofs.lemmas.Result.{err_from_is_err_and}
use Rattle.fo_vac_dir.specs.Choice.{test_of}
use Rattle.fo_vac_dir.specs.declared.choice.Wanted.TheVariants.{Name}
use Rattle.fo_vac_files.specs.Vac.{world_of}
use Rattle.fo_vac_files.specs.Causes.{IsSaid}
use Rattle.fo_vac_files.specs.Told.{next_in}
use Rattle.fo_vac_files.proofs.Saying.{find_said, find_some, find_none}
use Rattle.fo_vac_files.proofs.looks.find_at.Goals as goal

pub returns-in_err-told-clause-held : goal.returns-in_err-told-clause-held
returns-in_err-told-clause-held g c = λ h k.
    let p = err_from_is_err_and c.from_residual-in_err-told.result c.from_residual-in_err-told.ensures.1 in
    let w = world_of h c.args.opened.now in
    let said = subst (λ name. IsSaid h c.args.opened.now (next_in (test_of (Name name)) w c.args.at.now) c.in_err-told.field-0.0) c.in_ok-name.ensures (c.in_err-told.ensures.held h k) in
    rw (p.1, p.2) (find_said h c.args.opened.now c.args.opened.now.found.root.epoch w c.args.at.now c.args.name.now c.in_err-told.field-0.0 c.requires said)

pub returns-in-Some-clause-held : goal.returns-in-Some-clause-held
returns-in-Some-clause-held g c = λ h k.
    let w = world_of h c.args.opened.now in
    let told = subst (λ name. next_in (test_of (Name name)) w c.args.at.now ≡ Ok (c.in_ok-told.told, w)) c.in_ok-name.ensures (c.in_ok-told.ensures.held h k) in
    find_some c.args.opened.now.found.root.epoch w c.args.at.now c.args.name.now c.in-Some.told c.requires (subst (λ found. next_in (test_of (Name c.args.name.now)) w c.args.at.now ≡ Ok (found, w)) c.in-Some.is told)

pub returns-clause-held : goal.returns-clause-held
returns-clause-held g c = λ h k.
    let w = world_of h c.args.opened.now in
    let told = subst (λ name. next_in (test_of (Name name)) w c.args.at.now ≡ Ok (c.in_ok-told.told, w)) c.in_ok-name.ensures (c.in_ok-told.ensures.held h k) in
    find_none h c.args.opened.now c.args.opened.now.found.root.epoch w c.args.at.now c.args.name.now c.requires (subst (λ found. next_in (test_of (Name c.args.name.now)) w c.args.at.now ≡ Ok (found, w)) c.in-None.is told)
