-- What is put out for an answer.
use Rattle.std.specs.Prelude.{ℕ, List, [], codes}
use Rattle.nine_wire.specs.Message.{ReplyFits, reply_message, spelling}
use Rattle.fo_lines.specs.Answers.{line, reply_line, drops_line, flushed_line, unlinked_line, flushed_all_line}
use Rattle.fo_script_line.specs.declared.answer.Answer.{Answer}
use Rattle.fo_script_line.specs.declared.answer.Answer.TheVariants.{Silent, Replied, Dropped, Flushed, Unlinked, FlushedAll, NotBuilt}

abbrev pub said : Answer → List ℕ
said Silent = []
said (Replied session tag reply) = reply_line session (spelling tag (reply_message reply))
said (Dropped session) = drops_line session
said (Flushed turn) = flushed_line turn
said (Unlinked turn) = unlinked_line turn
said (FlushedAll fault) = flushed_all_line fault
said NotBuilt = line (codes "not built yet")

-- a reply has a spelling
abbrev pub MaySay : Answer → Type 0
MaySay (Replied session tag reply) = ReplyFits reply
MaySay _ = Unit {0}
