use Rattle.std.proofs.Common.{◌*◌, ap, ◌∙◌}
use Rattle.fo_image.specs.declared.types.Label.{Label}
use Rattle.fo_slots.specs.Read.{read}
use Rattle.test_blocks.specs.Silent.{block_at, is_active}
use Rattle.test_blocks.proofs.Updating.{slot_used, slot_put}
use Rattle.test_blocks.proofs.Joining.{joins, puts_then}
use Rattle.test_blocks.proofs.silent.CarelessBlocks.link.Goals as goal

pub set-requires-clause-used : goal.set-requires-clause-used
set-requires-clause-used c = λ a k w.
    let self = c.args.self.now in
    let x = block_at self.blocks.items c.args.at in
    let y = c.linked-block.ensures in
    ap (λ (l : Label). is_active ((read l.kind c.linked-block.result.bytes).slot (2 * k))) y.same.0
    ∙ slot_used x.label.kind c.args.i c.args.slot.now x.bytes c.linked-block.result.bytes y.puts k (self.waiting.used a c.args.at k w) (c.requires.used a k w)

pub returns-clause-joins : goal.returns-clause-joins
returns-clause-joins c =
    let y = c.linked-block.ensures in
    let below = c.unmark_below.ensures in
    joins c.set.ensures.updates c.set.ensures.size y.same.0 y.same.1 y.rises c.requires.other below.under below.others below.same

pub returns-clause-puts : goal.returns-clause-puts
returns-clause-puts c =
    let y = c.linked-block.ensures in
    puts_then c.args.self.now.blocks.items c.set.new.self.blocks.items c.unmark_below.new.self.blocks.items (slot_put c.args.i c.args.slot.now c.set.ensures.updates y.same.0 y.puts) c.unmark_below.ensures.same
