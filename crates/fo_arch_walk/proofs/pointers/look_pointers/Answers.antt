use Rattle.std.proofs.Common.{rules, ◌<◌, ℕ, sym, subst}
use Rattle.fo_tree_read.proofs.Slots.{only_place, slots_inner}
use Rattle.fo_arch_walk.proofs.Reading.{WasRead, formed, missing}
use Rattle.fo_arch_walk.proofs.pointers.look_pointers.Goals as goal

pub get-requires-clause-place : goal.get-requires-clause-place
get-requires-clause-place g c = λ told p stands. only_place (g.met.B.Blocks.one_place c.args.on.now) (c.requires.told told) p stands

pub returns-in-Ok-clause-form : goal.returns-in-Ok-clause-form
returns-in-Ok-clause-form g c =
    let read : WasRead c.args.kind ((g.B.Blocks.state c.get.new.self).now c.args.at) c.get.new.into = record { inner = c.requires.inner; reads = c.in_ok-get.ensures.bytes.0; slots = c.in_ok-get.ensures.bytes.1; long = search rules } in
    formed read c.args.done.now c.code_below.result c.form_pointers.new.block c.code_below.ensures c.in-Ok.ensures

pub returns-in-Err-clause-form : goal.returns-in-Err-clause-form
returns-in-Err-clause-form g c =
    let read : WasRead c.args.kind ((g.B.Blocks.state c.get.new.self).now c.args.at) c.get.new.into = record { inner = c.requires.inner; reads = c.in_ok-get.ensures.bytes.0; slots = c.in_ok-get.ensures.bytes.1; long = search rules } in
    missing read c.args.done.now c.code_below.result c.in-Err.below c.code_below.ensures c.in-Err.ensures

pub returns-in-Err-clause-block : goal.returns-in-Err-clause-block
returns-in-Err-clause-block g c =
    let read : WasRead c.args.kind ((g.B.Blocks.state c.get.new.self).now c.args.at) c.get.new.into = record { inner = c.requires.inner; reads = c.in_ok-get.ensures.bytes.0; slots = c.in_ok-get.ensures.bytes.1; long = search rules } in
    let m = missing read c.args.done.now c.code_below.result c.in-Err.below c.code_below.ensures c.in-Err.ensures in
    c.in_ok-get.ensures.names m.i c.in-Err.below (subst (λ (n : ℕ). m.i < n) (sym (slots_inner c.args.kind c.requires.inner)) m.within) m.leads
