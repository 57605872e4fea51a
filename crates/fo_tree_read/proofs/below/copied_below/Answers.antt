use Rattle.std.proofs.Common.{◌<◌, sym, ◌∙◌, subst}
use Rattle.fo_tree_read.proofs.Slots.{slot_pointer, slots_inner, only_place}
use Rattle.fo_tree_read.proofs.below.copied_below.Goals as goal

pub get-requires-clause-place : goal.get-requires-clause-place
get-requires-clause-place g c = λ told p stands. only_place (g.met.B.Blocks.one_place c.args.on.now) (c.requires.told told) p stands

pub returns-clause-found : goal.returns-clause-found
returns-clause-found g c = slot_pointer c.args.kind c.requires.inner ((g.B.Blocks.state c.get.new.self).now c.args.at) c.get.new.into c.args.i c.requires.slot c.in_ok-get.ensures.bytes.1 c.pointer_in.result c.pointer_in.ensures

pub returns-clause-block : goal.returns-clause-block
returns-clause-block g c = λ b e.
    c.in_ok-get.ensures.names c.args.i b (subst (λ n. c.args.i < n) (sym (slots_inner c.args.kind c.requires.inner)) c.requires.slot)
    (sym (slot_pointer c.args.kind c.requires.inner ((g.B.Blocks.state c.get.new.self).now c.args.at) c.get.new.into c.args.i c.requires.slot c.in_ok-get.ensures.bytes.1 c.pointer_in.result c.pointer_in.ensures) ∙ e)
