use Rattle.std.proofs.Common.{List, Bool, sym, subst}
use Rattle.fo_crash.specs.Steps.{AddsNothing}
use Rattle.fo_cells_steps.specs.of_cells_all.All.{kept_sync}
use Rattle.fo_cells_steps.specs.Calls.{images}
use Rattle.fo_cells_steps.specs.Division.{HoldsMade}
use Rattle.fo_cells_turns.proofs.Turns.{sync_turn}
use Rattle.fo_cells_turns.proofs.device.settle_made.Goals as goal

pub returns-clause-kept : goal.returns-clause-kept
returns-clause-kept g c = λ k f inside read h. subst (λ (u : List Bool). AddsNothing (images k (g.D.Disk.state c.args.disk.now).holds) (images (kept_sync c.sync.result k) (g.D.Disk.state c.sync.new.self).holds) × HoldsMade (kept_sync c.sync.result k) f (g.M.Makes.made c.args._made.now) (g.M.Makes.origins c.args._made.now) u (g.D.Disk.state c.sync.new.self).holds) (sym c.sync.ensures.state.unsure) (sync_turn c.sync.result k f (g.M.Makes.made c.args._made.now) (g.M.Makes.origins c.args._made.now) (g.D.Disk.state c.args.disk.now).unsure (g.D.Disk.state c.args.disk.now).holds (g.D.Disk.state c.sync.new.self).holds c.sync.ensures.state.holds inside read h)
