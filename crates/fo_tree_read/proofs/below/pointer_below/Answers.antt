use Rattle.fo_looks.proofs.Looks.{looks_joins}
use Rattle.fo_tree_read.proofs.Exits.{looks_none}
use Rattle.fo_tree_read.proofs.Looks.{any_failed_later}
use Rattle.fo_tree_read.proofs.Pinned.{pins_joined, again_joined}
use Rattle.fo_tree_read.proofs.Slots.{only_place}
use Rattle.fo_tree_read.proofs.below.pointer_below.Goals as goal

pub pin-requires-clause-place : goal.pin-requires-clause-place
pin-requires-clause-place g c = λ told p stands.
    let on = c.args.on.now in
    only_place (g.met.B.Blocks.one_place on) (c.requires.told on (g.met.B.Blocks.keeps_at_once on) (looks_none (g.B.Blocks.state on)) told) p stands

pub returns-in-None-clause-looks : goal.returns-in-None-clause-looks
returns-in-None-clause-looks g c = looks_joins (g.met.B.Blocks.keeps_all c.args.on.now c.pin.new.self c.pin.ensures.keeps) c.pin.ensures.looks c.copied_below.ensures.looks

pub returns-in-None-clause-cause : goal.returns-in-None-clause-cause
returns-in-None-clause-cause g c = any_failed_later (g.B.Blocks.state c.args.on.now) (g.B.Blocks.state c.pin.new.self) (g.B.Blocks.state c.copied_below.new.on) (g.met.B.Blocks.keeps_all c.args.on.now c.pin.new.self c.pin.ensures.keeps) c.copied_below.result c.copied_below.ensures.cause

pub returns-in-None-clause-pins : goal.returns-in-None-clause-pins
returns-in-None-clause-pins g c = pins_joined (g.B.Blocks.state c.args.on.now) (g.B.Blocks.state c.pin.new.self) c.args.kind c.args.at c.pin.ensures.looks c.in_ok-pin.ensures.kind c.in_ok-pin.ensures.pinned (g.B.Blocks.state c.copied_below.new.on) c.pin.ensures.pins c.copied_below.ensures.again

pub returns-in-None-clause-again : goal.returns-in-None-clause-again
returns-in-None-clause-again g c = again_joined (g.B.Blocks.state c.args.on.now) (g.B.Blocks.state c.pin.new.self) c.args.kind c.args.at c.pin.ensures.looks c.in_ok-pin.ensures.kind c.in_ok-pin.ensures.pinned (g.B.Blocks.state c.copied_below.new.on) c.pin.ensures.no_pin c.copied_below.ensures.again
