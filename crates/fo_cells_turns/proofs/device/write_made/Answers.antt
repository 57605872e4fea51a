use Rattle.std.proofs.Common.{List, Bool, true, sym, subst}
use Rattle.std.specs.Prelude.{not, is_err}
use Rattle.fo_crash.specs.Steps.{AddsNothing}
use Rattle.fo_cells_steps.specs.of_cells_all.All.{kept_write}
use Rattle.fo_cells_steps.specs.Calls.{images}
use Rattle.fo_cells_steps.specs.Division.{HoldsMade}
use Rattle.fo_cells_turns.proofs.Turns.{write_turn, labels_turn}
use Rattle.fo_cells_turns.proofs.device.write_made.Goals as goal

pub returns-clause-block_kept : goal.returns-clause-block_kept
returns-clause-block_kept g c = λ k f is_complete within may names current super linked held dirty whole read h. subst (λ (u : List Bool). AddsNothing (images k (g.D.Disk.state c.args.disk.now).holds) (images (kept_write c.args.at (not (is_err c.write.result)) is_complete k) (g.D.Disk.state c.write.new.self).holds) × HoldsMade (kept_write c.args.at (not (is_err c.write.result)) is_complete k) f (g.M.Makes.made c.args._made.now) (g.M.Makes.origins c.args._made.now) u (g.D.Disk.state c.write.new.self).holds) (sym c.write.ensures.state.unsure) (write_turn c.write.result k f (g.M.Makes.made c.args._made.now) (g.M.Makes.origins c.args._made.now) (g.D.Disk.state c.args.disk.now).unsure c.args.at c.args.bytes.now is_complete (g.D.Disk.state c.args.disk.now).holds (g.D.Disk.state c.write.new.self).holds c.write.ensures.state.holds within may names current super linked held dirty whole read h)

pub returns-clause-labels_kept : goal.returns-clause-labels_kept
returns-clause-labels_kept g c = λ k f within may blank held dirty read h. subst (λ (u : List Bool). AddsNothing (images k (g.D.Disk.state c.args.disk.now).holds) (images (kept_write c.args.at (not (is_err c.write.result)) true k) (g.D.Disk.state c.write.new.self).holds) × HoldsMade (kept_write c.args.at (not (is_err c.write.result)) true k) f (g.M.Makes.made c.args._made.now) (g.M.Makes.origins c.args._made.now) u (g.D.Disk.state c.write.new.self).holds) (sym c.write.ensures.state.unsure) (labels_turn c.write.result k f (g.M.Makes.made c.args._made.now) (g.M.Makes.origins c.args._made.now) (g.D.Disk.state c.args.disk.now).unsure c.args.at c.args.bytes.now (g.D.Disk.state c.args.disk.now).holds (g.D.Disk.state c.write.new.self).holds c.write.ensures.state.holds within may blank held dirty read h)
