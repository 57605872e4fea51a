use Rattle.nine_wire.specs.Message.{reply_message, reply_shapes}
use Rattle.nine_wire.specs.Stands.{Part, BadSize, BadBody, Whole}
use Rattle.nine_wire.proofs.Tables.{replies}
use Rattle.nine_wire.proofs.Laws.{frame_stands, frame_bad, front_once}
use Rattle.nine_wire.proofs.read.read_reply.Goals as goal

pub returns-in-More-clause-only : goal.returns-in-More-clause-only
returns-in-More-clause-only c = λ front is. front_once reply_message reply_shapes replies c.args.msize c.args.bytes.now Part front c.in-More.ensures is

pub returns-in-BadSize-clause-only : goal.returns-in-BadSize-clause-only
returns-in-BadSize-clause-only c = λ front is. front_once reply_message reply_shapes replies c.args.msize c.args.bytes.now BadSize front c.in-BadSize.ensures is

pub returns-in-Ok-clause-found : goal.returns-in-Ok-clause-found
returns-in-Ok-clause-found c = frame_stands reply_shapes c.args.msize c.args.bytes.now c.in-Whole.kind c.in-Whole.tag c.in-Whole.inside.now c.in-Whole.size (reply_message c.in-Ok.reply) c.in-Whole.ensures c.in-Ok.ensures

pub returns-in-Ok-clause-only : goal.returns-in-Ok-clause-only
returns-in-Ok-clause-only c =
    let found = frame_stands reply_shapes c.args.msize c.args.bytes.now c.in-Whole.kind c.in-Whole.tag c.in-Whole.inside.now c.in-Whole.size (reply_message c.in-Ok.reply) c.in-Whole.ensures c.in-Ok.ensures in
    λ front is. front_once reply_message reply_shapes replies c.args.msize c.args.bytes.now (Whole c.in-Whole.tag c.in-Ok.reply c.in-Whole.size) front found is

pub returns-in-Err-Malformed-clause-found : goal.returns-in-Err-Malformed-clause-found
returns-in-Err-Malformed-clause-found c =
    let none = rw c.in-Err-Malformed.field-0-is at c.in-Err-Malformed.ensures in
    frame_bad reply_message reply_shapes replies c.args.msize c.args.bytes.now c.in-Whole.kind c.in-Whole.tag c.in-Whole.inside.now c.in-Whole.size c.in-Whole.ensures none

pub returns-in-Err-Malformed-clause-only : goal.returns-in-Err-Malformed-clause-only
returns-in-Err-Malformed-clause-only c =
    let none = rw c.in-Err-Malformed.field-0-is at c.in-Err-Malformed.ensures in
    let bad = frame_bad reply_message reply_shapes replies c.args.msize c.args.bytes.now c.in-Whole.kind c.in-Whole.tag c.in-Whole.inside.now c.in-Whole.size c.in-Whole.ensures none in
    λ front is. front_once reply_message reply_shapes replies c.args.msize c.args.bytes.now BadBody front bad is
