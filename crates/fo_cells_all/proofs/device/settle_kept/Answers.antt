use Rattle.std.proofs.Common.{List, Bool, sym, subst}
use Rattle.fo_cells_all.specs.All.{HoldsAll, HoldsBeside, kept_sync}
use Rattle.fo_cells_all.proofs.All.{sync_all, sync_beside}
use Rattle.fo_cells_all.proofs.device.settle_kept.Goals as goal

pub returns-clause-kept : goal.returns-clause-kept
returns-clause-kept g c = λ k f inside read h. subst (λ (u : List Bool). HoldsAll (kept_sync c.sync.result k) f (g.T.Divided.tree c.args._tree.now) u (g.D.Disk.state c.sync.new.self).holds) (sym c.sync.ensures.state.unsure) (sync_all c.sync.result k f (g.T.Divided.tree c.args._tree.now) (g.D.Disk.state c.args.disk.now).unsure (g.D.Disk.state c.args.disk.now).holds (g.D.Disk.state c.sync.new.self).holds c.sync.ensures.state.holds inside read h)

pub returns-clause-beside : goal.returns-clause-beside
returns-clause-beside g c = λ k f h. subst (λ (u : List Bool). HoldsBeside (kept_sync c.sync.result k) f u (g.D.Disk.state c.sync.new.self).holds) (sym c.sync.ensures.state.unsure) (sync_beside c.sync.result k f (g.D.Disk.state c.args.disk.now).unsure (g.D.Disk.state c.args.disk.now).holds (g.D.Disk.state c.sync.new.self).holds c.sync.ensures.state.holds h)
