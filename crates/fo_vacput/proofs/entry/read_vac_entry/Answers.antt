use Rattle.std.proofs.Common.{refl}
use Rattle.fo_vacput.proofs.Entries.{entry_len}
use Rattle.fo_vacput.proofs.entry.read_vac_entry.Goals as goal

pub returns-then-bytes-ne40 : goal.returns-then-bytes-ne40
returns-then-bytes-ne40 c =
    record { found = tt; only = λ v s. absurd (c.if-bytes-ne40.true (entry_len c.args.bytes.now v s)); refused = (refl, λ v s. c.if-bytes-ne40.true (entry_len c.args.bytes.now v s)) }
