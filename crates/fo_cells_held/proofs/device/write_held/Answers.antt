use Rattle.std.specs.Prelude.{not, is_err}
use Rattle.fo_cells_held.proofs.Held.{buffers_write}
use Rattle.fo_cells_held.proofs.Timed.{timed_write, dirty_write}
use Rattle.fo_cells_held.proofs.device.write_held.Goals as goal

pub returns-clause-buffers : goal.returns-clause-buffers
returns-clause-buffers g c = λ m f h is_complete on x. buffers_write (not (is_err c.write_block.result)) is_complete c.args.at m f h on x

pub returns-clause-times : goal.returns-clause-times
returns-clause-times g c = λ m f t is_complete within spells h. timed_write c.write_block.result m f t c.args.at c.args.bytes.now is_complete (g.D.Disk.state c.args.disk.now).holds (g.D.Disk.state c.write_block.new.disk).holds c.write_block.ensures.state.holds within spells h

pub returns-clause-dirty : goal.returns-clause-dirty
returns-clause-dirty g c = λ m f is_data high is_complete on whole h. dirty_write (not (is_err c.write_block.result)) is_complete c.args.at high m f is_data on whole h
