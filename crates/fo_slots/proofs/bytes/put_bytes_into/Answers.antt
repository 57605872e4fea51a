use Rattle.fo_slots.proofs.Putting.{bytes_put, reads_put}
use Rattle.fo_slots.proofs.bytes.put_bytes_into.Goals as goal

pub returns-clause-same : goal.returns-clause-same
returns-clause-same c = bytes_put c.args.kind _ _ c.args.into.now c.put_beside.new.into c.requires.place c.put_beside.ensures.beside

pub returns-clause-slots : goal.returns-clause-slots
returns-clause-slots c = reads_put c.args.kind _ _ c.args.into.now c.put_beside.new.into c.requires.place c.put_beside.ensures.beside
