use Rattle.std.proofs.Common.{rules, ◌/◌, IfErr}
use Rattle.fo_tree_read.specs.Tree.{Refused, Names}
use Rattle.fo_tree_read.proofs.of_looks.Looks.{looks_joins}
use Rattle.fo_tree_read.proofs.Looks.{any_refused_later}
use Rattle.fo_tree_read.proofs.Walk.{names_looks}
use Rattle.fo_tree_look.proofs.Shown.{over_looks, extends_none}
use Rattle.fo_tree_look.proofs.Down.{leaf_way_got, leaf_pins, leaf_near}
use Rattle.fo_tree_look.proofs.pins.prepare_leaf.Goals as goal

pub copy_part-requires-clause-hangs : goal.copy_part-requires-clause-hangs
copy_part-requires-clause-hangs g c = c.requires.over.1.hangs

pub returns-in_err-copy_part-clause-more : goal.returns-in_err-copy_part-clause-more
returns-in_err-copy_part-clause-more g c = extends_none (g.met.B.Blocks.keeps_all c.args.on.now c.copy_part.new.on c.copy_part.ensures.keeps) c.args.kept.now.items c.requires.over.1.held

pub look_down-requires-clause-over : goal.look_down-requires-clause-over
look_down-requires-clause-over g c = (c.requires.over.0, over_looks (g.met.B.Blocks.keeps_all c.args.on.now c.copy_part.new.on c.copy_part.ensures.keeps) c.copy_part.ensures.looks c.requires.over.1)

pub returns-in_err-look_down-clause-pins : goal.returns-in_err-look_down-clause-pins
returns-in_err-look_down-clause-pins g c =
    let a = g.B.Blocks.state c.args.on.now in
    let b = g.B.Blocks.state c.copy_part.new.on in
    let d = g.B.Blocks.state c.look_down.new.on in
    let t = c.args.tree.now in
    let i = c.args.place / 8192 in
    leaf_pins a b d t i c.copy_part.ensures.pins c.copy_part.ensures.near c.in_ok-copy_part.ensures.way c.look_down.ensures.pins

pub returns-in_err-look_down-clause-near : goal.returns-in_err-look_down-clause-near
returns-in_err-look_down-clause-near g c =
    let a = g.B.Blocks.state c.args.on.now in
    let b = g.B.Blocks.state c.copy_part.new.on in
    let d = g.B.Blocks.state c.look_down.new.on in
    let t = c.args.tree.now in
    let i = c.args.place / 8192 in
    leaf_near a b d t i c.copy_part.ensures.pins c.copy_part.ensures.near c.in_ok-copy_part.ensures.way c.look_down.ensures.pins

pub returns-in_err-look_down-clause-looks : goal.returns-in_err-look_down-clause-looks
returns-in_err-look_down-clause-looks g c = looks_joins (g.met.B.Blocks.keeps_all c.args.on.now c.copy_part.new.on c.copy_part.ensures.keeps) c.copy_part.ensures.looks c.look_down.ensures.looks

pub returns-in_err-look_down-clause-keeps : goal.returns-in_err-look_down-clause-keeps
returns-in_err-look_down-clause-keeps g c = g.met.B.Blocks.keeps_joins c.args.on.now c.copy_part.new.on c.look_down.new.on c.copy_part.ensures.keeps c.look_down.ensures.keeps

pub returns-clause-pins : goal.returns-clause-pins
returns-clause-pins g c =
    let a = g.B.Blocks.state c.args.on.now in
    let b = g.B.Blocks.state c.copy_part.new.on in
    let d = g.B.Blocks.state c.look_down.new.on in
    let t = c.args.tree.now in
    let i = c.args.place / 8192 in
    leaf_pins a b d t i c.copy_part.ensures.pins c.copy_part.ensures.near c.in_ok-copy_part.ensures.way c.look_down.ensures.pins

pub returns-clause-near : goal.returns-clause-near
returns-clause-near g c =
    let a = g.B.Blocks.state c.args.on.now in
    let b = g.B.Blocks.state c.copy_part.new.on in
    let d = g.B.Blocks.state c.look_down.new.on in
    let t = c.args.tree.now in
    let i = c.args.place / 8192 in
    leaf_near a b d t i c.copy_part.ensures.pins c.copy_part.ensures.near c.in_ok-copy_part.ensures.way c.look_down.ensures.pins

pub returns-clause-looks : goal.returns-clause-looks
returns-clause-looks g c = looks_joins (g.met.B.Blocks.keeps_all c.args.on.now c.copy_part.new.on c.copy_part.ensures.keeps) c.copy_part.ensures.looks c.look_down.ensures.looks

pub returns-clause-keeps : goal.returns-clause-keeps
returns-clause-keeps g c = g.met.B.Blocks.keeps_joins c.args.on.now c.copy_part.new.on c.look_down.new.on c.copy_part.ensures.keeps c.look_down.ensures.keeps

pub returns-in_err-look_down-clause-cause : goal.returns-in_err-look_down-clause-cause
returns-in_err-look_down-clause-cause g c =
    let a = g.B.Blocks.state c.args.on.now in
    let b = g.B.Blocks.state c.copy_part.new.on in
    let d = g.B.Blocks.state c.look_down.new.on in
    let t = c.args.tree.now in
    let i = c.args.place / 8192 in
    let all = g.met.B.Blocks.keeps_all c.args.on.now c.copy_part.new.on c.copy_part.ensures.keeps in
    let here : IfErr c.from_residual-in_err-look_down.result (Refused b d (Names b t)) = search rules in
    any_refused_later a b d (Names b t) (Names a t) all (names_looks all c.copy_part.ensures.looks) c.from_residual-in_err-look_down.result here

pub returns-clause-ready : goal.returns-clause-ready
returns-clause-ready g c = λ has.
    let a = g.B.Blocks.state c.args.on.now in
    let b = g.B.Blocks.state c.copy_part.new.on in
    let d = g.B.Blocks.state c.look_down.new.on in
    let t = c.args.tree.now in
    let i = c.args.place / 8192 in
    c.in_ok-look_down.ensures.looked.ready (leaf_way_got a b d t i c.copy_part.ensures.pins c.copy_part.ensures.near c.in_ok-copy_part.ensures.way c.look_down.ensures.pins (c.in_ok-copy_part.ensures.way has))
