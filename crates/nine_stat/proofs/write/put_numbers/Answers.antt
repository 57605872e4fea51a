use Rattle.nine_fields.specs.Field.{Two, Four, Eight, number, qid_bytes}
use Rattle.nine_stat.proofs.Records.{seven_put}
use Rattle.nine_stat.proofs.write.put_numbers.Goals as goal

pub returns-clause-written : goal.returns-clause-written
returns-clause-written c =
    let s = c.args.stat.now in
    seven_put c.args.out.now.items c.put_u16.new.out.items c.put_u32.new.out.items c.put_qid.new.out.items c.put_u32-2.new.out.items c.put_u32-3.new.out.items c.put_u32-4.new.out.items c.put_u64.new.out.items
    (number Two s.kind) (number Four s.dev) (qid_bytes s.qid) (number Four s.mode) (number Four s.atime) (number Four s.mtime) (number Eight s.length)
    c.in_ok-put_u16.ensures.ok c.in_ok-put_u32.ensures.ok c.in_ok-put_qid.ensures.ok c.in_ok-put_u32-2.ensures.ok c.in_ok-put_u32-3.ensures.ok c.in_ok-put_u32-4.ensures.ok c.in_ok-put_u64.ensures.ok
