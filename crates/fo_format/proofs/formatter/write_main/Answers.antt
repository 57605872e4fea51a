use Rattle.std.proofs.Common.{sym, subst}
use Rattle.fo_disk.specs.Disk.{latest}
use Rattle.fo_format.specs.Formatted.{MakesFresh}
use Rattle.fo_format.proofs.Left.{after-sync}
use Rattle.fo_format.proofs.formatter.write_main.Goals as goal

pub returns-clause-made : goal.returns-clause-made
returns-clause-made g c time root_is len =
    after-sync c.sync.result c.sync.ensures.fault (subst (MakesFresh time (latest (g.D.Disk.state c.args.main.now).holds)) (sym c.sync.ensures.latest) (c.in_ok-write_image.ensures.made time root_is len))
