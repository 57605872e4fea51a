use Rattle.nine_wire.proofs.Texts.{brief_is}
use Rattle.nine_wire.proofs.reply_fields.ename_at.Goals as goal

pub from_text-requires-clause-short : goal.from_text-requires-clause-short
from_text-requires-clause-short c = (brief_is c.args.bytes.now c.in_ok-text.text.now c.in_ok-text.rest.now c.in_ok-text.ensures).short

pub from_text-requires-clause-text : goal.from_text-requires-clause-text
from_text-requires-clause-text c = (brief_is c.args.bytes.now c.in_ok-text.text.now c.in_ok-text.rest.now c.in_ok-text.ensures).is
