use Rattle.nine_wire.proofs.Framing.{no_size}
use Rattle.nine_wire.proofs.frame.frame_at.Goals as goal

pub returns-in-Err : goal.returns-in-Err
returns-in-Err c = no_size c.args.msize c.args.bytes.now c.in-Err.ensures
