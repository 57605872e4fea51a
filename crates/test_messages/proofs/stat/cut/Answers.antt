use Rattle.nine_stat.proofs.Records.{record_spellable}
use Rattle.test_messages.proofs.stat.cut.Goals as goal

pub cut_dir-requires : goal.cut_dir-requires
cut_dir-requires g c = (record_spellable _ c.in_ok-read.read c.in_ok-read.ensures.found, tt)
