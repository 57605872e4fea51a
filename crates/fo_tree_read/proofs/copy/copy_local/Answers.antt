use Rattle.fo_looks.proofs.Looks.{looks_joins}
use Rattle.fo_tree_read.proofs.Exits.{looks_none}
use Rattle.fo_tree_read.proofs.Looks.{any_failed_later}
use Rattle.fo_tree_read.proofs.Pinned.{pins_joined, again_joined}
use Rattle.fo_tree_read.proofs.Slots.{only_place}
use Rattle.fo_tree_read.proofs.copy.copy_local.Goals as goal

pub pin-requires-clause-place : goal.pin-requires-clause-place
pin-requires-clause-place g c = λ told p stands.
    let on = c.args.on.now in
    only_place (g.met.B.Blocks.one_place on) (c.requires.told on (g.met.B.Blocks.keeps_at_once on) (looks_none (g.B.Blocks.state on)) told) p stands

pub returns-clause-looks : goal.returns-clause-looks
returns-clause-looks g c = looks_joins (g.met.B.Blocks.keeps_all c.args.on.now c.pin.new.self c.pin.ensures.keeps) c.pin.ensures.looks c.copy_whole.ensures.looks

pub returns-clause-cause : goal.returns-clause-cause
returns-clause-cause g c = any_failed_later (g.B.Blocks.state c.args.on.now) (g.B.Blocks.state c.pin.new.self) (g.B.Blocks.state c.copy_whole.new.on) (g.met.B.Blocks.keeps_all c.args.on.now c.pin.new.self c.pin.ensures.keeps) c.copy_whole.result c.copy_whole.ensures.cause

pub returns-clause-pins : goal.returns-clause-pins
returns-clause-pins g c = pins_joined (g.B.Blocks.state c.args.on.now) (g.B.Blocks.state c.pin.new.self) c.args.kind c.args.at c.pin.ensures.looks c.in_ok-pin.ensures.kind c.in_ok-pin.ensures.pinned (g.B.Blocks.state c.copy_whole.new.on) c.pin.ensures.pins c.copy_whole.ensures.again

pub returns-clause-again : goal.returns-clause-again
returns-clause-again g c = again_joined (g.B.Blocks.state c.args.on.now) (g.B.Blocks.state c.pin.new.self) c.args.kind c.args.at c.pin.ensures.looks c.in_ok-pin.ensures.kind c.in_ok-pin.ensures.pinned (g.B.Blocks.state c.copy_whole.new.on) c.pin.ensures.no_pin c.copy_whole.ensures.again
