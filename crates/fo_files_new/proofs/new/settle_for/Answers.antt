use Rattle.fo_files_new.proofs.Dirs.{own_on, settled_alters, placed_after}
use Rattle.fo_files_new.proofs.new.settle_for.Goals as goal
use Rattle.fo_dirties.proofs.Dirtied.{dirties_rests}

pub returns-in-Ok-clause-alters : goal.returns-in-Ok-clause-alters
returns-in-Ok-clause-alters g c =
    let e = c.settle.ensures in
    settled_alters (g.B.Blocks.state c.args.on.now) (g.B.Blocks.state c.settle.new.self) c.args.dir c.requires.dir.pair.is_pinned e.rests e.known e.blocks e.room.0

pub returns-in-Err-clause-alters : goal.returns-in-Err-clause-alters
returns-in-Err-clause-alters g c =
    let e = c.settle.ensures in
    settled_alters (g.B.Blocks.state c.args.on.now) (g.B.Blocks.state c.settle.new.self) c.args.dir c.requires.dir.pair.is_pinned e.rests e.known e.blocks e.room.0

pub returns-in-Ok-clause-own : goal.returns-in-Ok-clause-own
returns-in-Ok-clause-own g c =
    let s = g.B.Blocks.state c.args.on.now in
    let u = g.B.Blocks.state c.settle.new.self in
    let e = c.settle.ensures in
    own_on s u c.args.dir c.args.leaves (g.met.B.Blocks.keeps_all c.args.on.now c.settle.new.self e.keeps) (settled_alters s u c.args.dir c.requires.dir.pair.is_pinned e.rests e.known e.blocks e.room.0) c.requires.apart.0 c.requires.apart.1 c.requires.own

pub returns-in-Err-clause-own : goal.returns-in-Err-clause-own
returns-in-Err-clause-own g c =
    let s = g.B.Blocks.state c.args.on.now in
    let u = g.B.Blocks.state c.settle.new.self in
    let e = c.settle.ensures in
    own_on s u c.args.dir c.args.leaves (g.met.B.Blocks.keeps_all c.args.on.now c.settle.new.self e.keeps) (settled_alters s u c.args.dir c.requires.dir.pair.is_pinned e.rests e.known e.blocks e.room.0) c.requires.apart.0 c.requires.apart.1 c.requires.own

pub returns-in-Ok-clause-in_place : goal.returns-in-Ok-clause-in_place
returns-in-Ok-clause-in_place g c =
    let s = g.B.Blocks.state c.args.on.now in
    let u = g.B.Blocks.state c.settle.new.self in
    let e = c.settle.ensures in
    placed_after u c.args.dir c.args.leaves (c.in-Ok.ensures.pinned c.requires.silent) (own_on s u c.args.dir c.args.leaves (g.met.B.Blocks.keeps_all c.args.on.now c.settle.new.self e.keeps) (settled_alters s u c.args.dir c.requires.dir.pair.is_pinned e.rests e.known e.blocks e.room.0) c.requires.apart.0 c.requires.apart.1 c.requires.own)

pub returns-in-Ok-clause-dirties : goal.returns-in-Ok-clause-dirties
returns-in-Ok-clause-dirties g c = dirties_rests (g.B.Blocks.state c.args.on.now) (g.B.Blocks.state c.settle.new.self) (g.met.B.Blocks.keeps_all c.args.on.now c.settle.new.self c.settle.ensures.keeps) c.settle.ensures.rests

pub returns-in-Err-clause-dirties : goal.returns-in-Err-clause-dirties
returns-in-Err-clause-dirties g c = dirties_rests (g.B.Blocks.state c.args.on.now) (g.B.Blocks.state c.settle.new.self) (g.met.B.Blocks.keeps_all c.args.on.now c.settle.new.self c.settle.ensures.keeps) c.settle.ensures.rests
