use Rattle.std.proofs.Common.{inl, refl, sym, ap, subst}
use Rattle.std.specs.Prelude.{MatchResult}
use Rattle.fo_world.specs.Tree.{child}
use Rattle.fo_vac_files.specs.Stands.{Comes, Fails}
use Rattle.fo_vac_files.proofs.Entered.{as_folder, names_at, no_child}
use Rattle.fo_vac_files.proofs.reach.step.Goals as goal

pub returns-in-Dir-clause-held : goal.returns-in-Dir-clause-held
returns-in-Dir-clause-held g c = λ h o n k s.
    let d = as_folder h o c.args.from n c.in-Dir.folder s c.in-Dir.is in
    subst (λ there. MatchResult c.pick_number.result (Comes h o there) (Fails h o there)) (sym (ap (child c.args.number) (names_at h o c.args.from n c.in-Dir.folder s c.in-Dir.is)))
    (c.pick_number.ensures.held h o d.entries d.meta k d.is)

pub returns-clause-held : goal.returns-clause-held
returns-clause-held g c = λ h o n k s. inl (no_child h o c.args.from n _ c.args.number s c.in-File.is, refl)
