use Rattle.std.proofs.Common.{rules, ◌∙◌, ap}
use Rattle.fo_crash.specs.declared.slot.Slot.{Slot}
use Rattle.fo_crash.specs.Images.{target}
use Rattle.fo_tree_read.proofs.Slots.{only_place}
use Rattle.fo_arch_walk.proofs.Leaf.{LeafRead, leaf_entries, formed_entries, missing_top}
use Rattle.fo_arch_walk.proofs.entries.look_entries.Goals as goal

pub get-requires-clause-place : goal.get-requires-clause-place
get-requires-clause-place g c = λ told p stands. only_place (g.met.B.Blocks.one_place c.args.on.now) (c.requires.told told) p stands

pub form_entries-requires-clause-spelled : goal.form_entries-requires-clause-spelled
form_entries-requires-clause-spelled g c = leaf_entries ((g.B.Blocks.state c.get.new.self).now c.args.at) c.get.new.into c.in_ok-get.ensures.bytes.1

pub returns-in-Ok-clause-form : goal.returns-in-Ok-clause-form
returns-in-Ok-clause-form g c =
    let read : LeafRead ((g.B.Blocks.state c.get.new.self).now c.args.at) c.get.new.into = record { reads = c.in_ok-get.ensures.bytes.0; slots = c.in_ok-get.ensures.bytes.1; long = search rules } in
    formed_entries read c.args.done.now c.form_entries.new.block c.in-Ok.ensures

pub returns-in-Err-clause-form : goal.returns-in-Err-clause-form
returns-in-Err-clause-form g c =
    let read : LeafRead ((g.B.Blocks.state c.get.new.self).now c.args.at) c.get.new.into = record { reads = c.in_ok-get.ensures.bytes.0; slots = c.in_ok-get.ensures.bytes.1; long = search rules } in
    missing_top read c.args.done.now c.in-Err.missing c.in-Err.ensures

pub returns-in-Err-clause-block : goal.returns-in-Err-clause-block
returns-in-Err-clause-block g c = λ b e.
    let read : LeafRead ((g.B.Blocks.state c.get.new.self).now c.args.at) c.get.new.into = record { reads = c.in_ok-get.ensures.bytes.0; slots = c.in_ok-get.ensures.bytes.1; long = search rules } in
    let m = missing_top read c.args.done.now c.in-Err.missing c.in-Err.ensures in
    c.in_ok-get.ensures.names c.in-Err.missing.i b m.within (ap (λ (s : Slot). target s) m.slot_is ∙ e)
