use Rattle.std.proofs.Common.{◌+◌, ◌<◌, ◌≤◌, length, arith}
use Rattle.fo_ports_plain.specs.Parts.{parts}
use Rattle.test_over_blocks.proofs.Retiring.{old_root}
use Rattle.test_over_blocks.proofs.queues.begun.Goals as goal

pub returns : goal.returns
returns c =
    let last = c.forget_root.new.self in
    let three : 2 < last.made = last.three in
    let spared : last.made + last.spare ≤ length last.blocks.items = last.spared in
    old_root (parts c.in_ok-on.on) (parts c.reserve.new.self) (parts c.begin_epoch.new.self) (parts last) c.in_ok-on.ensures c.reserve.ensures.rests c.reserve.ensures.keeps c.in_ok-reserve.ensures.room.2 c.begin_epoch.ensures c.forget_root.ensures (omega (arith, three, spared)) last.queue
