use Rattle.fo_cells_shown.proofs.Passing.{sync_passes}
use Rattle.fo_cells_shown.proofs.moments.settle_shown.Goals as goal

pub returns-clause-shown : goal.returns-clause-shown
returns-clause-shown g c = λ k f tops inside read all are. sync_passes c.sync.result k f (g.M.Makes.made c.args._made.now) (g.M.Makes.origins c.args._made.now) (g.D.Disk.state c.args.disk.now).unsure (g.D.Disk.state c.args.disk.now).holds (g.D.Disk.state c.sync.new.self).holds (g.D.Disk.size c.args.disk.now) (g.D.Disk.state c.args.disk.now).moments (g.D.Disk.state c.sync.new.self).moments tops (g.met.D.Disk.is_newest c.args.disk.now) c.sync.ensures.state.moments c.sync.ensures.state.holds inside read all are
