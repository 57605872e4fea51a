use Rattle.std.proofs.Common.{List, Bool, sym, subst}
use Rattle.fo_cells.specs.Device.{Stepped, Fits, wrote}
use Rattle.std.specs.Prelude.{not, is_err}
use Rattle.fo_cells.specs.Flags.{FlagsFit, marked}
use Rattle.fo_cells.proofs.Calls.{write_steps, known_write, fits_write}
use Rattle.fo_cells.proofs.LabelCalls.{labels_known}
use Rattle.fo_cells.proofs.Flags.{flags_write}
use Rattle.fo_cells.proofs.Labels.{labels_write}
use Rattle.fo_cells.proofs.device.write_block.Goals as goal

pub returns-clause-step : goal.returns-clause-step
returns-clause-step g c = λ m is_complete within may. subst (λ (u : List Bool). Stepped m (wrote c.args.at (not (is_err c.write.result)) is_complete m) (g.D.Disk.state c.args.disk.now).unsure u (g.D.Disk.state c.args.disk.now).holds (g.D.Disk.state c.write.new.self).holds) (sym c.write.ensures.state.unsure) (write_steps c.write.result m (g.D.Disk.state c.args.disk.now).unsure c.args.at c.args.bytes.now is_complete (g.D.Disk.state c.args.disk.now).holds (g.D.Disk.state c.write.new.self).holds c.write.ensures.state.holds within may)

pub returns-clause-flags : goal.returns-clause-flags
returns-clause-flags g c = λ m f is_complete within complete fits. subst (λ (u : List Bool). FlagsFit (wrote c.args.at (not (is_err c.write.result)) is_complete m) (marked c.args.at (not (is_err c.write.result)) is_complete f) u (g.D.Disk.state c.write.new.self).holds) (sym c.write.ensures.state.unsure) (flags_write c.write.result m f (g.D.Disk.state c.args.disk.now).unsure c.args.at c.args.bytes.now is_complete (g.D.Disk.state c.args.disk.now).holds (g.D.Disk.state c.write.new.self).holds c.write.ensures.state.holds within complete fits)

pub returns-clause-labels : goal.returns-clause-labels
returns-clause-labels g c = λ m f is_complete within spells fits. labels_write c.write.result m f c.args.at c.args.bytes.now is_complete (g.D.Disk.state c.args.disk.now).holds (g.D.Disk.state c.write.new.self).holds c.write.ensures.state.holds within spells fits

pub returns-clause-label_step : goal.returns-clause-label_step
returns-clause-label_step g c = λ m is_complete within some may. labels_known c.write.result m c.args.at c.args.bytes.now is_complete (g.D.Disk.state c.args.disk.now).holds (g.D.Disk.state c.write.new.self).holds c.write.ensures.state.holds within some may

pub returns-clause-known : goal.returns-clause-known
returns-clause-known g c = λ m is_complete within may. known_write c.write.result m c.args.at c.args.bytes.now is_complete (g.D.Disk.state c.args.disk.now).holds (g.D.Disk.state c.write.new.self).holds c.write.ensures.state.holds within may

pub returns-clause-fits : goal.returns-clause-fits
returns-clause-fits g c = λ m is_complete within fits. subst (λ (u : List Bool). Fits (wrote c.args.at (not (is_err c.write.result)) is_complete m) u (g.D.Disk.state c.write.new.self).holds) (sym c.write.ensures.state.unsure) (fits_write c.write.result m (g.D.Disk.state c.args.disk.now).unsure c.args.at c.args.bytes.now is_complete (g.D.Disk.state c.args.disk.now).holds (g.D.Disk.state c.write.new.self).holds c.write.ensures.state.holds within fits)
