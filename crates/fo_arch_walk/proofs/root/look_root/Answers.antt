use Rattle.std.proofs.Common.{◌∙◌, ap}
use Rattle.fo_crash.specs.declared.slot.Slot.{Slot}
use Rattle.fo_crash.specs.Images.{target}
use Rattle.fo_tree_read.proofs.Slots.{only_place}
use Rattle.fo_arch_walk.proofs.Tops.{RootRead, first_from, second_from, formed_top, missing_head, root_within}
use Rattle.fo_arch_walk.proofs.root.look_root.Goals as goal

pub get-requires-clause-place : goal.get-requires-clause-place
get-requires-clause-place g c = λ told p stands. only_place (g.met.B.Blocks.one_place c.args.on.now) (c.requires.told told) p stands

pub form_root-requires-clause-entries : goal.form_root-requires-clause-entries
form_root-requires-clause-entries g c =
    let read : RootRead ((g.B.Blocks.state c.get.new.self).now c.args.at) c.get.new.into = record { reads = c.in_ok-get.ensures.bytes.0; slots = c.in_ok-get.ensures.bytes.1 } in
    first_from read

pub form_root-requires-clause-meta : goal.form_root-requires-clause-meta
form_root-requires-clause-meta g c =
    let read : RootRead ((g.B.Blocks.state c.get.new.self).now c.args.at) c.get.new.into = record { reads = c.in_ok-get.ensures.bytes.0; slots = c.in_ok-get.ensures.bytes.1 } in
    second_from read

pub returns-in-Ok-clause-form : goal.returns-in-Ok-clause-form
returns-in-Ok-clause-form g c =
    let read : RootRead ((g.B.Blocks.state c.get.new.self).now c.args.at) c.get.new.into = record { reads = c.in_ok-get.ensures.bytes.0; slots = c.in_ok-get.ensures.bytes.1 } in
    formed_top read c.args.done.now c.form_root.new.into c.in-Ok.ensures

pub returns-in-Err-clause-form : goal.returns-in-Err-clause-form
returns-in-Err-clause-form g c =
    let read : RootRead ((g.B.Blocks.state c.get.new.self).now c.args.at) c.get.new.into = record { reads = c.in_ok-get.ensures.bytes.0; slots = c.in_ok-get.ensures.bytes.1 } in
    missing_head read c.args.done.now c.in-Err.missing c.in-Err.ensures

pub returns-in-Err-clause-block : goal.returns-in-Err-clause-block
returns-in-Err-clause-block g c = λ b e.
    let read : RootRead ((g.B.Blocks.state c.get.new.self).now c.args.at) c.get.new.into = record { reads = c.in_ok-get.ensures.bytes.0; slots = c.in_ok-get.ensures.bytes.1 } in
    let m = missing_head read c.args.done.now c.in-Err.missing c.in-Err.ensures in
    c.in_ok-get.ensures.names c.in-Err.missing.i b (root_within c.args.done.now c.get.new.into c.in-Err.missing c.in-Err.ensures) (ap (λ (s : Slot). target s) m.slot_is ∙ e)
