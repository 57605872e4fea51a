use Rattle.std.proofs.Common.{List, Bool, true, sym, subst}
use Rattle.std.specs.Prelude.{not, is_err}
use Rattle.fo_crash.specs.Steps.{AddsNothing}
use Rattle.fo_cells_all.specs.All.{kept_write}
use Rattle.fo_cells_steps.specs.Calls.{images}
use Rattle.fo_cells_between.specs.Between.{HoldsBetween}
use Rattle.fo_cells_between.proofs.Turns.{write_turn, labels_turn}
use Rattle.fo_cells_between.proofs.device.write_between.Goals as goal

pub returns-clause-block_kept : goal.returns-clause-block_kept
returns-clause-block_kept g c = λ root next first k f before is_complete within may names current super held dirty whole h. subst (λ (u : List Bool). AddsNothing (images k (g.D.Disk.state c.args.disk.now).holds) (images (kept_write c.args.at (not (is_err c.write.result)) is_complete k) (g.D.Disk.state c.write.new.self).holds) × HoldsBetween root next first before (kept_write c.args.at (not (is_err c.write.result)) is_complete k) f u (g.D.Disk.state c.write.new.self).holds) (sym c.write.ensures.state.unsure) (write_turn c.write.result root next first k f (g.D.Disk.state c.args.disk.now).unsure c.args.at c.args.bytes.now is_complete before (g.D.Disk.state c.args.disk.now).holds (g.D.Disk.state c.write.new.self).holds c.write.ensures.state.holds within may names current super held dirty whole h)

pub returns-clause-labels_kept : goal.returns-clause-labels_kept
returns-clause-labels_kept g c = λ root next first k f before within may blank held dirty h. subst (λ (u : List Bool). AddsNothing (images k (g.D.Disk.state c.args.disk.now).holds) (images (kept_write c.args.at (not (is_err c.write.result)) true k) (g.D.Disk.state c.write.new.self).holds) × HoldsBetween root next first before (kept_write c.args.at (not (is_err c.write.result)) true k) f u (g.D.Disk.state c.write.new.self).holds) (sym c.write.ensures.state.unsure) (labels_turn c.write.result root next first k f (g.D.Disk.state c.args.disk.now).unsure c.args.at c.args.bytes.now before (g.D.Disk.state c.args.disk.now).holds (g.D.Disk.state c.write.new.self).holds c.write.ensures.state.holds within may blank held dirty h)
