use Rattle.std.proofs.Common.{◌+◌, ◌<◌, ◌≤◌, ◌∙◌, sym, subst, arith}
use Rattle.fo_tree_read.specs.declared.tree.Tree.{Tree}
use Rattle.fo_tree_trim.specs.of_tree_down.Clear.{EndsClear}
use Rattle.fo_files_write.specs.Alters.{is_above}
use Rattle.fo_files_write.proofs.Steps.{alters_looks, alters_joins, refused_since}
use Rattle.fo_files_write.proofs.Ends.{entry_looks, entry_same, same_tree, same_joins, ok_of}
use Rattle.fo_files_write.proofs.put.ready_for.Goals as goal
use Rattle.fo_dirties.proofs.Adding.{adds_still}
use Rattle.fo_dirties.proofs.Putting.{dirties_looks}

pub overflow_add-offset : goal.overflow_add-offset
overflow_add-offset g c =
    let within = c.requires.within in let low = c.requires.over.low in omega (arith, within, low)

pub trim_for-requires-clause-pins : goal.trim_for-requires-clause-pins
trim_for-requires-clause-pins g c =
    let pins = c.requires.pins in omega (arith, pins)

pub returns-in-Err-clause-pins : goal.returns-in-Err-clause-pins
returns-in-Err-clause-pins g c =
    let s = g.B.Blocks.state c.args.on.now in
    let m = g.B.Blocks.state c.trim_for.new.on in
    let x = c.args.source.now.ways in
    let y = c.trim_for.new.source.ways in
    let e = c.trim_for.ensures in
    let all = g.met.B.Blocks.keeps_all c.args.on.now c.trim_for.new.on e.keeps in
    let pins = e.pins in omega (arith, pins)

pub prepare_piece-requires-clause-silent : goal.prepare_piece-requires-clause-silent
prepare_piece-requires-clause-silent g c =
    let s = g.B.Blocks.state c.args.on.now in
    let m = g.B.Blocks.state c.trim_for.new.on in
    let x = c.args.source.now.ways in
    let y = c.trim_for.new.source.ways in
    let e = c.trim_for.ensures in
    let all = g.met.B.Blocks.keeps_all c.args.on.now c.trim_for.new.on e.keeps in
    λ told. c.requires.silent (all.still_tells.0 told)

pub prepare_piece-requires-clause-within : goal.prepare_piece-requires-clause-within
prepare_piece-requires-clause-within g c =
    let s = g.B.Blocks.state c.args.on.now in
    let m = g.B.Blocks.state c.trim_for.new.on in
    let x = c.args.source.now.ways in
    let y = c.trim_for.new.source.ways in
    let e = c.trim_for.ensures in
    let all = g.met.B.Blocks.keeps_all c.args.on.now c.trim_for.new.on e.keeps in
    subst (λ n. c.args.offset + c.args.len ≤ n) (sym e.same.2) c.requires.within

pub prepare_piece-requires-clause-pins : goal.prepare_piece-requires-clause-pins
prepare_piece-requires-clause-pins g c =
    let s = g.B.Blocks.state c.args.on.now in
    let m = g.B.Blocks.state c.trim_for.new.on in
    let x = c.args.source.now.ways in
    let y = c.trim_for.new.source.ways in
    let e = c.trim_for.ensures in
    let all = g.met.B.Blocks.keeps_all c.args.on.now c.trim_for.new.on e.keeps in
    let pins = e.pins in let enough = c.requires.pins in omega (arith, pins, enough)

pub returns-clause-same : goal.returns-clause-same
returns-clause-same g c =
    let s = g.B.Blocks.state c.args.on.now in
    let m = g.B.Blocks.state c.trim_for.new.on in
    let x = c.args.source.now.ways in
    let y = c.trim_for.new.source.ways in
    let e = c.trim_for.ensures in
    let all = g.met.B.Blocks.keeps_all c.args.on.now c.trim_for.new.on e.keeps in
    let u = g.B.Blocks.state c.prepare_piece.new.on in
    let z = c.prepare_piece.new.source.ways in
    let k = c.prepare_piece.ensures in
    let more = g.met.B.Blocks.keeps_all c.trim_for.new.on c.prepare_piece.new.on k.looks.1 in
    (same_joins e.same.0 (same_tree y.tree z.tree k.same.0), k.same.1 ∙ e.same.1, k.same.2 ∙ e.same.2)

pub returns-clause-entry : goal.returns-clause-entry
returns-clause-entry g c =
    let s = g.B.Blocks.state c.args.on.now in
    let m = g.B.Blocks.state c.trim_for.new.on in
    let x = c.args.source.now.ways in
    let y = c.trim_for.new.source.ways in
    let e = c.trim_for.ensures in
    let all = g.met.B.Blocks.keeps_all c.args.on.now c.trim_for.new.on e.keeps in
    let u = g.B.Blocks.state c.prepare_piece.new.on in
    let z = c.prepare_piece.new.source.ways in
    let k = c.prepare_piece.ensures in
    let more = g.met.B.Blocks.keeps_all c.trim_for.new.on c.prepare_piece.new.on k.looks.1 in
    entry_same k.same.0 k.same.1 (entry_looks more k.looks.0 e.entry)

pub returns-clause-clear : goal.returns-clause-clear
returns-clause-clear g c =
    let s = g.B.Blocks.state c.args.on.now in
    let m = g.B.Blocks.state c.trim_for.new.on in
    let x = c.args.source.now.ways in
    let y = c.trim_for.new.source.ways in
    let e = c.trim_for.ensures in
    let all = g.met.B.Blocks.keeps_all c.args.on.now c.trim_for.new.on e.keeps in
    let u = g.B.Blocks.state c.prepare_piece.new.on in
    let z = c.prepare_piece.new.source.ways in
    let k = c.prepare_piece.ensures in
    let more = g.met.B.Blocks.keeps_all c.trim_for.new.on c.prepare_piece.new.on k.looks.1 in
    ok_of c.prepare_piece.result (z.tree.size < c.args.offset + c.args.len → EndsClear u z.tree z.kept.items) (λ lt. k.clear (c.in-Ok.ensures.clear (subst (λ (t : Tree). t.size < c.args.offset + c.args.len) k.same.0 lt)))

pub returns-clause-alters : goal.returns-clause-alters
returns-clause-alters g c =
    let s = g.B.Blocks.state c.args.on.now in
    let m = g.B.Blocks.state c.trim_for.new.on in
    let x = c.args.source.now.ways in
    let y = c.trim_for.new.source.ways in
    let e = c.trim_for.ensures in
    let all = g.met.B.Blocks.keeps_all c.args.on.now c.trim_for.new.on e.keeps in
    let u = g.B.Blocks.state c.prepare_piece.new.on in
    let z = c.prepare_piece.new.source.ways in
    let k = c.prepare_piece.ensures in
    let more = g.met.B.Blocks.keeps_all c.trim_for.new.on c.prepare_piece.new.on k.looks.1 in
    alters_joins all e.alters (alters_looks is_above m u c.args.at c.args.slot x.tree.tag k.looks.0 e.entry.is_pinned)

pub returns-clause-spare : goal.returns-clause-spare
returns-clause-spare g c =
    let s = g.B.Blocks.state c.args.on.now in
    let m = g.B.Blocks.state c.trim_for.new.on in
    let x = c.args.source.now.ways in
    let y = c.trim_for.new.source.ways in
    let e = c.trim_for.ensures in
    let all = g.met.B.Blocks.keeps_all c.args.on.now c.trim_for.new.on e.keeps in
    let u = g.B.Blocks.state c.prepare_piece.new.on in
    let z = c.prepare_piece.new.source.ways in
    let k = c.prepare_piece.ensures in
    let more = g.met.B.Blocks.keeps_all c.trim_for.new.on c.prepare_piece.new.on k.looks.1 in
    let first = e.spare in let second = k.looks.0.room.0 in omega (arith, first, second)

pub returns-clause-room : goal.returns-clause-room
returns-clause-room g c =
    let s = g.B.Blocks.state c.args.on.now in
    let m = g.B.Blocks.state c.trim_for.new.on in
    let x = c.args.source.now.ways in
    let y = c.trim_for.new.source.ways in
    let e = c.trim_for.ensures in
    let all = g.met.B.Blocks.keeps_all c.args.on.now c.trim_for.new.on e.keeps in
    let u = g.B.Blocks.state c.prepare_piece.new.on in
    let z = c.prepare_piece.new.source.ways in
    let k = c.prepare_piece.ensures in
    let more = g.met.B.Blocks.keeps_all c.trim_for.new.on c.prepare_piece.new.on k.looks.1 in
    let first = e.room in let second = k.looks.0.room.1 in omega (arith, first, second)

pub returns-clause-pins : goal.returns-clause-pins
returns-clause-pins g c =
    let s = g.B.Blocks.state c.args.on.now in
    let m = g.B.Blocks.state c.trim_for.new.on in
    let x = c.args.source.now.ways in
    let y = c.trim_for.new.source.ways in
    let e = c.trim_for.ensures in
    let all = g.met.B.Blocks.keeps_all c.args.on.now c.trim_for.new.on e.keeps in
    let u = g.B.Blocks.state c.prepare_piece.new.on in
    let z = c.prepare_piece.new.source.ways in
    let k = c.prepare_piece.ensures in
    let more = g.met.B.Blocks.keeps_all c.trim_for.new.on c.prepare_piece.new.on k.looks.1 in
    let first = e.pins in let second = k.pins in omega (arith, first, second)

pub returns-clause-keeps : goal.returns-clause-keeps
returns-clause-keeps g c =
    let s = g.B.Blocks.state c.args.on.now in
    let m = g.B.Blocks.state c.trim_for.new.on in
    let x = c.args.source.now.ways in
    let y = c.trim_for.new.source.ways in
    let e = c.trim_for.ensures in
    let all = g.met.B.Blocks.keeps_all c.args.on.now c.trim_for.new.on e.keeps in
    let u = g.B.Blocks.state c.prepare_piece.new.on in
    let z = c.prepare_piece.new.source.ways in
    let k = c.prepare_piece.ensures in
    let more = g.met.B.Blocks.keeps_all c.trim_for.new.on c.prepare_piece.new.on k.looks.1 in
    g.met.B.Blocks.keeps_joins c.args.on.now c.trim_for.new.on c.prepare_piece.new.on e.keeps k.looks.1

pub returns-clause-cause : goal.returns-clause-cause
returns-clause-cause g c =
    let s = g.B.Blocks.state c.args.on.now in
    let m = g.B.Blocks.state c.trim_for.new.on in
    let x = c.args.source.now.ways in
    let y = c.trim_for.new.source.ways in
    let e = c.trim_for.ensures in
    let all = g.met.B.Blocks.keeps_all c.args.on.now c.trim_for.new.on e.keeps in
    let u = g.B.Blocks.state c.prepare_piece.new.on in
    let z = c.prepare_piece.new.source.ways in
    let k = c.prepare_piece.ensures in
    let more = g.met.B.Blocks.keeps_all c.trim_for.new.on c.prepare_piece.new.on k.looks.1 in
    refused_since s m u all c.prepare_piece.result k.cause

pub returns-clause-dirties : goal.returns-clause-dirties
returns-clause-dirties g c = adds_still c.trim_for.ensures.dirties (dirties_looks (g.met.B.Blocks.keeps_all c.trim_for.new.on c.prepare_piece.new.on c.prepare_piece.ensures.looks.1) c.prepare_piece.ensures.looks.0)
