use Rattle.fo_files_change.proofs.Records.{records_rank}
use Rattle.fo_files_ready.proofs.place.with_room.Goals as goal

pub read-requires-clause-rank : goal.read-requires-clause-rank
read-requires-clause-rank g c =
    records_rank c.args.dir.rank c.requires.dir.ranked c.requires.dir.least
