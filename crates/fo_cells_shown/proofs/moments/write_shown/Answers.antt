use Rattle.fo_cells_shown.proofs.Passing.{write_passes, labels_pass}
use Rattle.fo_cells_shown.proofs.moments.write_shown.Goals as goal

pub returns-clause-block_shown : goal.returns-clause-block_shown
returns-clause-block_shown g c = λ k f is_complete tops within may names current super linked held dirty whole read all are. write_passes c.write.result k f (g.M.Makes.made c.args._made.now) (g.M.Makes.origins c.args._made.now) (g.D.Disk.state c.args.disk.now).unsure c.args.at c.args.bytes.now is_complete (g.D.Disk.state c.args.disk.now).holds (g.D.Disk.state c.write.new.self).holds (g.D.Disk.size c.args.disk.now) (g.D.Disk.state c.args.disk.now).moments (g.D.Disk.state c.write.new.self).moments tops (g.met.D.Disk.is_newest c.args.disk.now) c.write.ensures.state.moments c.write.ensures.state.holds within may names current super linked held dirty whole read all are

pub returns-clause-labels_shown : goal.returns-clause-labels_shown
returns-clause-labels_shown g c = λ k f tops within may blank held dirty read all are. labels_pass c.write.result k f (g.M.Makes.made c.args._made.now) (g.M.Makes.origins c.args._made.now) (g.D.Disk.state c.args.disk.now).unsure c.args.at c.args.bytes.now (g.D.Disk.state c.args.disk.now).holds (g.D.Disk.state c.write.new.self).holds (g.D.Disk.size c.args.disk.now) (g.D.Disk.state c.args.disk.now).moments (g.D.Disk.state c.write.new.self).moments tops (g.met.D.Disk.is_newest c.args.disk.now) c.write.ensures.state.moments c.write.ensures.state.holds within may blank held dirty read all are
