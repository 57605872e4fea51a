use Rattle.std.proofs.Common.{arith}
use Rattle.fo_tree_read.specs.of_crash.Places.{place}
use Rattle.fo_tree_read.specs.Tree.{kind_at}
use Rattle.fo_tree_look.proofs.Places.{is_here, here_owned, none_here, leaf_there, leaves_apart, leaf_at_place, block_tag}
use Rattle.fo_tree_look.proofs.Shown.{address_past, held_past}
use Rattle.fo_tree_look.proofs.laws.holds.Goals as goal

pub returns-clause-none_held : goal.returns-clause-none_held
returns-clause-none_held g c = λ i told other. none_here (g.B.Blocks.state c.args.on.now) c.args.source.now.tree c.args.source.now.kept.items c.requires.over.held told (c.requires.over.unheld told other) i

pub returns-clause-none_behind : goal.returns-clause-none_behind
returns-clause-none_behind g c = λ i past.
    let s = g.B.Blocks.state c.args.on.now in
    let t = c.args.source.now.tree in
    (address_past s t i past, held_past s t c.args.source.now.kept.items i past)

pub returns-clause-apart : goal.returns-clause-apart
returns-clause-apart g c = λ i j at told e f.
    let s = g.B.Blocks.state c.args.on.now in
    leaves_apart s c.args.source.now.tree (g.met.B.Blocks.placed c.args.on.now s.now (g.met.B.Blocks.present c.args.on.now told)) (g.met.B.Blocks.one_place c.args.on.now) c.requires.over.hangs told i j at e f

pub returns-clause-leaf_owned : goal.returns-clause-leaf_owned
returns-clause-leaf_owned g c = λ i at e. here_owned (is_here (g.B.Blocks.state c.args.on.now) c.args.source.now.tree i at e)

pub returns-clause-leaf_stands : goal.returns-clause-leaf_stands
returns-clause-leaf_stands g c = λ i at told e.
    let s = g.B.Blocks.state c.args.on.now in
    let t = c.args.source.now.tree in
    (place (kind_at t.dir 0) t.tag i t.rank, leaf_there s t (g.met.B.Blocks.placed c.args.on.now s.now (g.met.B.Blocks.present c.args.on.now told)) c.requires.over.hangs told i at (is_here s t i at e))

pub returns-clause-leaf_place : goal.returns-clause-leaf_place
returns-clause-leaf_place g c = λ i at p told e stands.
    let s = g.B.Blocks.state c.args.on.now in
    leaf_at_place s c.args.source.now.tree (g.met.B.Blocks.placed c.args.on.now s.now (g.met.B.Blocks.present c.args.on.now told)) (g.met.B.Blocks.one_place c.args.on.now) c.requires.over.hangs told i at p e stands

pub returns-clause-owned : goal.returns-clause-owned
returns-clause-owned g c = λ at p told has stands.
    let s = g.B.Blocks.state c.args.on.now in
    block_tag s c.args.source.now.tree (g.met.B.Blocks.placed c.args.on.now s.now (g.met.B.Blocks.present c.args.on.now told)) (g.met.B.Blocks.one_place c.args.on.now) c.requires.over.hangs told at p has stands

pub returns-clause-live : goal.returns-clause-live
returns-clause-live g c = λ at told has. let is = c.requires.over.told told at has in (is.live, is.up_to, is.uncovered)

pub returns-clause-top_owned : goal.returns-clause-top_owned
returns-clause-top_owned g c = λ at e. record { down = 0; index = 0; within = omega arith; is = e }
