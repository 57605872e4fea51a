use Rattle.std.proofs.Common.{List, Bool, true, sym, subst}
use Rattle.std.specs.Prelude.{not, is_err}
use Rattle.fo_cells_all.specs.All.{HoldsAll, HoldsBeside, kept_write}
use Rattle.fo_disk.specs.Disk.{Writes as DiskWrites}
use Rattle.fo_cells_all.proofs.SuperCalls.{tries_known}
use Rattle.fo_cells_all.proofs.All.{write_all, labels_all, write_beside}
use Rattle.fo_cells_all.proofs.device.write_kept.Goals as goal

pub returns-clause-block_kept : goal.returns-clause-block_kept
returns-clause-block_kept g c = λ k f is_complete within may names current super linked held dirty whole read h. subst (λ (u : List Bool). HoldsAll (kept_write c.args.at (not (is_err c.write.result)) is_complete k) f (g.T.Divided.tree c.args._tree.now) u (g.D.Disk.state c.write.new.self).holds) (sym c.write.ensures.state.unsure) (write_all c.write.result k f (g.T.Divided.tree c.args._tree.now) (g.D.Disk.state c.args.disk.now).unsure c.args.at c.args.bytes.now is_complete (g.D.Disk.state c.args.disk.now).holds (g.D.Disk.state c.write.new.self).holds c.write.ensures.state.holds within may names current super linked held dirty whole read h)

pub returns-clause-labels_kept : goal.returns-clause-labels_kept
returns-clause-labels_kept g c = λ k f within may blank held dirty read h. subst (λ (u : List Bool). HoldsAll (kept_write c.args.at (not (is_err c.write.result)) true k) f (g.T.Divided.tree c.args._tree.now) u (g.D.Disk.state c.write.new.self).holds) (sym c.write.ensures.state.unsure) (labels_all c.write.result k f (g.T.Divided.tree c.args._tree.now) (g.D.Disk.state c.args.disk.now).unsure c.args.at c.args.bytes.now (g.D.Disk.state c.args.disk.now).holds (g.D.Disk.state c.write.new.self).holds c.write.ensures.state.holds within may blank held dirty read h)

pub returns-clause-beside : goal.returns-clause-beside
returns-clause-beside g c = λ k f is_complete within complete spells held dirty whole h. subst (λ (u : List Bool). HoldsBeside (kept_write c.args.at (not (is_err c.write.result)) is_complete k) f u (g.D.Disk.state c.write.new.self).holds) (sym c.write.ensures.state.unsure) (write_beside c.write.result k f (g.D.Disk.state c.args.disk.now).unsure c.args.at c.args.bytes.now is_complete (g.D.Disk.state c.args.disk.now).holds (g.D.Disk.state c.write.new.self).holds c.write.ensures.state.holds within complete spells held dirty whole h)

pub returns-clause-tried : goal.returns-clause-tried
returns-clause-tried g c = λ m d one within may. tries_known c.write.result m d c.args.bytes.now (g.D.Disk.state c.args.disk.now).holds (g.D.Disk.state c.write.new.self).holds (subst (λ n. DiskWrites n c.args.bytes.now c.write.result (g.D.Disk.state c.args.disk.now).holds (g.D.Disk.state c.write.new.self).holds) one c.write.ensures.state.holds) within may
