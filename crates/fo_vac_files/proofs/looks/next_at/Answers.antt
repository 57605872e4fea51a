use Rattle.std.proofs.Common.{subst}
use Rattle.fo_vac_dir.specs.Choice.{test_of}
use Rattle.fo_vac_dir.specs.declared.choice.Wanted.TheVariants.{Next}
use Rattle.fo_vac_files.specs.Vac.{world_of}
use Rattle.fo_vac_files.specs.Causes.{Tells}
use Rattle.fo_vac_files.specs.Told.{next_in}
use Rattle.fo_vac_files.proofs.Saying.{next_tells}
use Rattle.fo_vac_files.proofs.looks.next_at.Goals as goal

pub returns-clause-held : goal.returns-clause-held
returns-clause-held g c = λ h k.
    let w = world_of h c.args.opened.now in
    next_tells h c.args.opened.now c.args.opened.now.found.root.epoch w c.args.at.now _ c.pick_at.result c.requires
    (subst (λ after. Tells h c.args.opened.now (next_in (test_of (Next after)) w c.args.at.now) w c.pick_at.result) c.in_ok-after.ensures (c.pick_at.ensures.held h k))
