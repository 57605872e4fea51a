use Rattle.std.proofs.Common.{◌≡◌, ◌+◌, ◌-◌, ◌*◌, ◌≤◌, ap, ◌∙◌, arith}
use Rattle.fo_crash.specs.Images.{depth_of, target}
use Rattle.fo_ports.specs.Blocks.{ends, dropped}
use Rattle.fo_ports_plain.specs.declared.block.PlainBlock.{PlainBlock}
use Rattle.fo_ports_plain.specs.Plain.{block_at, slot_of}
use Rattle.fo_ports_plain.proofs.Lists.{block_is}
use Rattle.fo_ports_plain.proofs.plain.PlainBlocks.cost.Goals as goal

pub overflow_mul-result : goal.overflow_mul-result
overflow_mul-result c =
    let self = c.args.self.now in
    let blocks = self.blocks.items in
    let old = slot_of (block_at blocks c.args.at) c.args.i in
    let is = block_is blocks c.args.at c.index.result.now c.requires.block c.index.ensures in
    let depth : c.depth.result ≡ depth_of (slot_of (block_at blocks c.args.at) c.args.i) = c.depth.ensures ∙ ap (λ (y : PlainBlock). depth_of (slot_of y c.args.i)) is in
    let other = c.depth-2.ensures in
    let levels = c.saturating_sub-levels.ensures in
    let drop : c.saturating_sub-levels.result ≡ dropped (slot_of (block_at blocks c.args.at) c.args.i) c.args.slot.now = levels ∙ ap (λ n. n - c.depth-2.result) depth ∙ ap (λ n. depth_of (slot_of (block_at blocks c.args.at) c.args.i) - n) other in
    let room : 409 * dropped (slot_of (block_at blocks c.args.at) c.args.i) c.args.slot.now + ends (target (slot_of (block_at blocks c.args.at) c.args.i)) (target c.args.slot.now) ≤ c.args.room = c.requires.room in
    let small = c.ranges.room.fits in
    omega (arith, drop, room, small)

pub overflow_add-result : goal.overflow_add-result
overflow_add-result c =
    let self = c.args.self.now in
    let blocks = self.blocks.items in
    let old = slot_of (block_at blocks c.args.at) c.args.i in
    let is = block_is blocks c.args.at c.index.result.now c.requires.block c.index.ensures in
    let depth : c.depth.result ≡ depth_of (slot_of (block_at blocks c.args.at) c.args.i) = c.depth.ensures ∙ ap (λ (y : PlainBlock). depth_of (slot_of y c.args.i)) is in
    let other = c.depth-2.ensures in
    let levels = c.saturating_sub-levels.ensures in
    let drop : c.saturating_sub-levels.result ≡ dropped (slot_of (block_at blocks c.args.at) c.args.i) c.args.slot.now = levels ∙ ap (λ n. n - c.depth-2.result) depth ∙ ap (λ n. depth_of (slot_of (block_at blocks c.args.at) c.args.i) - n) other in
    let room : 409 * dropped (slot_of (block_at blocks c.args.at) c.args.i) c.args.slot.now + ends (target (slot_of (block_at blocks c.args.at) c.args.i)) (target c.args.slot.now) ≤ c.args.room = c.requires.room in
    let end : c.ends.result ≡ ends (target (slot_of (block_at blocks c.args.at) c.args.i)) (target c.args.slot.now) = c.ends.ensures ∙ ap (λ z. ends z c.target-2.result) (c.target.ensures ∙ ap (λ (y : PlainBlock). target (slot_of y c.args.i)) is) ∙ ap (λ z. ends (target (slot_of (block_at blocks c.args.at) c.args.i)) z) c.target-2.ensures in
    let small = c.ranges.room.fits in
    omega (arith, drop, room, end, small)
