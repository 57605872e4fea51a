use Rattle.nine_wire.proofs.Texts.{text_is}
use Rattle.nine_wire.proofs.ename.Ename.new.Goals as goal

pub from_text-requires-clause-text : goal.from_text-requires-clause-text
from_text-requires-clause-text c = text_is c.as_bytes.result.now (rw c.as_bytes.ensures.value c.requires.no_zero) c.as_bytes.ensures.utf8
