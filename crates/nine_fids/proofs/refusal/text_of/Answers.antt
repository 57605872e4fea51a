use Rattle.nine_fids.proofs.Errors.{error_is_text}
use Rattle.nine_fids.proofs.refusal.text_of.Goals as goal

pub from_text-requires-clause-text : goal.from_text-requires-clause-text
from_text-requires-clause-text c = rw (c.as_slice.ensures, c.text.ensures) (error_is_text c.args.e c.in_default.not-Damaged)
