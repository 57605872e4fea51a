use Rattle.std.proofs.Common.{◌≡◌, ◌++◌, ◌+◌, ◌<◌, ◌^◌, length, arith, ap}
use Rattle.nine_wire.specs.Message.{reply_message, body}
use Rattle.nine_wire.proofs.Sizes.{reply_size, body_whole, spelled_whole}
use Rattle.nine_wire.proofs.write.write_msg.Goals as goal

pub put_message-requires : goal.put_message-requires
put_message-requires c =
    let whole = body_whole (reply_message c.args.reply.now) c.as_slice.result.now c.put_reply.new.head.items c.in_ok-head.head.items c.in_ok-tail.tail.now c.as_slice.ensures.value c.in_ok-head.ensures.items c.in_ok-tail.ensures.written in
    omega (arith, ap length whole, reply_size c.args.reply.now c.requires c.in_ok-tail.ensures.fits)

pub returns-clause-ok : goal.returns-clause-ok
returns-clause-ok c =
    let whole = body_whole (reply_message c.args.reply.now) c.as_slice.result.now c.put_reply.new.head.items c.in_ok-head.head.items c.in_ok-tail.tail.now c.as_slice.ensures.value c.in_ok-head.ensures.items c.in_ok-tail.ensures.written in
    spelled_whole (reply_message c.args.reply.now) c.args.out.now.items c.put_message.new.out.items (c.as_slice.result.now ++ c.in_ok-tail.tail.now) c.reply_kind.result c.args.tag whole c.reply_kind.ensures c.in_ok-put_message.ensures.ok

pub returns-clause-fits : goal.returns-clause-fits
returns-clause-fits c = record {
  tag_fits = omega (arith, c.ranges.tag.fits);
  kind_fits = omega (arith, c.reply_kind.ensures, c.reply_kind.type_inv);
  fields_fit = c.in_ok-tail.ensures.fits;
  size_fits = reply_size c.args.reply.now c.requires c.in_ok-tail.ensures.fits;
}
