use Rattle.nine_stat.proofs.Records.{record_spellable}
use Rattle.test_messages.proofs.stat.written.Goals as goal

pub write_stat-requires : goal.write_stat-requires
write_stat-requires c = record_spellable _ c.in_ok-read.read c.in_ok-read.ensures.found
