use Rattle.std.proofs.Common.{◌<◌, sym, ◌∙◌, subst}
use Rattle.fo_tree_read.proofs.Slots.{slot_pointer, slots_inner}
use Rattle.fo_tree_read.proofs.below.lent_below.Goals as goal

pub returns-in-Some-clause-found : goal.returns-in-Some-clause-found
returns-in-Some-clause-found g c = slot_pointer c.args.kind c.requires.inner ((g.B.Blocks.state c.args.on.now).now c.args.at) c.in-Some.block.now c.args.i c.requires.slot c.in-Some.ensures.bytes.2 c.pointer_in.result c.pointer_in.ensures

pub returns-in-Some-clause-block : goal.returns-in-Some-clause-block
returns-in-Some-clause-block g c = λ b e.
    c.in-Some.ensures.names c.args.i b (subst (λ n. c.args.i < n) (sym (slots_inner c.args.kind c.requires.inner)) c.requires.slot)
    (sym (slot_pointer c.args.kind c.requires.inner ((g.B.Blocks.state c.args.on.now).now c.args.at) c.in-Some.block.now c.args.i c.requires.slot c.in-Some.ensures.bytes.2 c.pointer_in.result c.pointer_in.ensures) ∙ e)
