use Rattle.std.proofs.Common.{ℕ, ◌<◌, sym, subst}
use Rattle.compare.proofs.Quieting.{some_version}
use Rattle.compare.proofs.disks.pick.Goals as goal

pub below-version-requires : goal.below-version-requires
below-version-requires c = subst (λ (n : ℕ). 0 < n) (sym c.versions-versions.ensures) (some_version c.args.main.now c.args.at c.requires.block)
