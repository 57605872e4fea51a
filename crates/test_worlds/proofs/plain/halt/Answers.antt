use Rattle.std.proofs.Common.{◌≡◌, sym, subst}
use Rattle.fo_world.specs.Fits.{WorldFits}
use Rattle.test_worlds.proofs.plain.halt.Goals as goal

-- the files of the world are as before
pub of-requires : goal.of-requires
of-requires c =
    let fits = subst WorldFits (sym c.world.view_is) c.into_world-world.ensures.fits in
    record { active = fits.active; snaps = fits.snaps; archives = fits.archives }
