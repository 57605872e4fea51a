use Rattle.fo_cells_held.proofs.Held.{buffers_sync}
use Rattle.fo_cells_held.proofs.Timed.{timed_sync, dirty_sync}
use Rattle.fo_cells_held.proofs.device.settle_held.Goals as goal

pub returns-clause-buffers : goal.returns-clause-buffers
returns-clause-buffers g c = λ m f h x. buffers_sync c.settle.result m f h x

pub returns-clause-times : goal.returns-clause-times
returns-clause-times g c = λ m f t fits h. timed_sync c.settle.result m f t (g.D.Disk.state c.args.disk.now).unsure (g.D.Disk.state c.args.disk.now).holds (g.D.Disk.state c.settle.new.disk).holds c.settle.ensures.state.holds fits h

pub returns-clause-dirty : goal.returns-clause-dirty
returns-clause-dirty g c = λ m f is_data high h. dirty_sync c.settle.result high m f is_data h
