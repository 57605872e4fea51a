use Rattle.std.proofs.Common.{arith}
use Rattle.nine_fids.proofs.Errors.{damaged_is_text}
use Rattle.nine_fids.proofs.refusal.damaged.Goals as goal

pub from_text-requires-clause-text : goal.from_text-requires-clause-text
from_text-requires-clause-text c = rw (c.as_slice.ensures, c.text.ensures) (damaged_is_text c.args.block (omega arith))
