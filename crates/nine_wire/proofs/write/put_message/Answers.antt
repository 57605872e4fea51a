use Rattle.nine_wire.proofs.Sizes.{put_whole}
use Rattle.std.proofs.Common.{arith}
use Rattle.nine_wire.proofs.write.put_message.Goals as goal

pub returns-in-Ok-clause-ok : goal.returns-in-Ok-clause-ok
returns-in-Ok-clause-ok c = put_whole c.args.out.now.items c.put_header.new.out.items c.put_both.new.out.items c.args.first.now c.args.second.now _ c.args.kind c.args.tag c.in_ok-put_header.ensures.ok c.in-Ok.ensures.ok (omega arith)
