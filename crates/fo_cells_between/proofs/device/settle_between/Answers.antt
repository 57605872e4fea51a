use Rattle.std.proofs.Common.{List, Bool, sym, subst}
use Rattle.fo_crash.specs.Steps.{AddsNothing}
use Rattle.fo_cells_all.specs.All.{kept_sync}
use Rattle.fo_cells_steps.specs.Calls.{images}
use Rattle.fo_cells_between.specs.Between.{HoldsBetween}
use Rattle.fo_cells_between.proofs.Turns.{sync_turn}
use Rattle.fo_cells_between.proofs.device.settle_between.Goals as goal

pub returns-clause-kept : goal.returns-clause-kept
returns-clause-kept g c = λ root next first k f before h. subst (λ (u : List Bool). AddsNothing (images k (g.D.Disk.state c.args.disk.now).holds) (images (kept_sync c.sync.result k) (g.D.Disk.state c.sync.new.self).holds) × HoldsBetween root next first before (kept_sync c.sync.result k) f u (g.D.Disk.state c.sync.new.self).holds) (sym c.sync.ensures.state.unsure) (sync_turn c.sync.result root next first k f (g.D.Disk.state c.args.disk.now).unsure before (g.D.Disk.state c.args.disk.now).holds (g.D.Disk.state c.sync.new.self).holds c.sync.ensures.state.holds h)
