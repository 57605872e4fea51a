use Rattle.std.proofs.Common.{◌<◌, ◌∙◌, refl, ap, subst, arith, []}
use Rattle.fo_tree_read.specs.declared.tree.Tree.{Tree}
use Rattle.fo_tree_trim.specs.of_tree_down.Clear.{EndsClear}
use Rattle.fo_tree_trim.proofs.Above.{deep_size}
use Rattle.fo_files_write.specs.Alters.{Alters, is_above}
use Rattle.fo_files_write.proofs.Steps.{alters_none, alters_looks, alters_joins, refused_settling}
use Rattle.fo_files_write.proofs.Ends.{entry_looks, entry_same, same_tree, same_joins, ok_under}
use Rattle.fo_files_write.proofs.grow.trim_for.Goals as goal
use Rattle.fo_dirties.proofs.Adding.{adds_idle, first_of, adds_after}
use Rattle.fo_dirties.proofs.Putting.{dirties_looks, dirties_at_once}

pub returns-then-end-len-clause-same : goal.returns-then-end-len-clause-same
returns-then-end-len-clause-same g c =
    (same_tree c.args.source.now.ways.tree c.args.source.now.ways.tree refl, refl, refl)

pub returns-then-end-len-clause-clear : goal.returns-then-end-len-clause-clear
returns-then-end-len-clause-clear g c =
    λ lt. let test = c.if-end-len.true in let len = c.len.ensures in absurd (omega (arith, lt, test, len))

pub returns-then-end-len-clause-alters : goal.returns-then-end-len-clause-alters
returns-then-end-len-clause-alters g c =
    alters_none is_above (g.B.Blocks.state c.args.on.now) c.args.at c.args.slot c.args.source.now.ways.tree.tag

pub returns-then-end-len-clause-keeps : goal.returns-then-end-len-clause-keeps
returns-then-end-len-clause-keeps g c =
    g.met.B.Blocks.keeps_at_once c.args.on.now

pub returns-in-Err-clause-same : goal.returns-in-Err-clause-same
returns-in-Err-clause-same g c =
    let s = g.B.Blocks.state c.args.on.now in
    let u = g.B.Blocks.state c.prepare_end.new.on in
    let x = c.args.source.now.ways in
    let y = c.prepare_end.new.source.ways in
    let e = c.prepare_end.ensures in
    let all = g.met.B.Blocks.keeps_all c.args.on.now c.prepare_end.new.on e.looks.1 in
    let entry = entry_same e.same.0 e.same.1 (entry_looks all e.looks.0 c.requires.entry) in
    let looked = alters_looks is_above s u c.args.at c.args.slot x.tree.tag e.looks.0 c.requires.entry.is_pinned in
    let spare = e.looks.0.room.0 in
    let room = e.looks.0.room.1 in
    (same_tree x.tree y.tree e.same.0, e.same.1, e.same.2)

pub returns-in-Err-clause-entry : goal.returns-in-Err-clause-entry
returns-in-Err-clause-entry g c =
    let s = g.B.Blocks.state c.args.on.now in
    let u = g.B.Blocks.state c.prepare_end.new.on in
    let x = c.args.source.now.ways in
    let y = c.prepare_end.new.source.ways in
    let e = c.prepare_end.ensures in
    let all = g.met.B.Blocks.keeps_all c.args.on.now c.prepare_end.new.on e.looks.1 in
    let entry = entry_same e.same.0 e.same.1 (entry_looks all e.looks.0 c.requires.entry) in
    let looked = alters_looks is_above s u c.args.at c.args.slot x.tree.tag e.looks.0 c.requires.entry.is_pinned in
    let spare = e.looks.0.room.0 in
    let room = e.looks.0.room.1 in
    entry

pub returns-in-Err-clause-alters : goal.returns-in-Err-clause-alters
returns-in-Err-clause-alters g c =
    let s = g.B.Blocks.state c.args.on.now in
    let u = g.B.Blocks.state c.prepare_end.new.on in
    let x = c.args.source.now.ways in
    let y = c.prepare_end.new.source.ways in
    let e = c.prepare_end.ensures in
    let all = g.met.B.Blocks.keeps_all c.args.on.now c.prepare_end.new.on e.looks.1 in
    let entry = entry_same e.same.0 e.same.1 (entry_looks all e.looks.0 c.requires.entry) in
    let looked = alters_looks is_above s u c.args.at c.args.slot x.tree.tag e.looks.0 c.requires.entry.is_pinned in
    let spare = e.looks.0.room.0 in
    let room = e.looks.0.room.1 in
    looked

pub returns-in-Err-clause-spare : goal.returns-in-Err-clause-spare
returns-in-Err-clause-spare g c =
    let s = g.B.Blocks.state c.args.on.now in
    let u = g.B.Blocks.state c.prepare_end.new.on in
    let x = c.args.source.now.ways in
    let y = c.prepare_end.new.source.ways in
    let e = c.prepare_end.ensures in
    let all = g.met.B.Blocks.keeps_all c.args.on.now c.prepare_end.new.on e.looks.1 in
    let entry = entry_same e.same.0 e.same.1 (entry_looks all e.looks.0 c.requires.entry) in
    let looked = alters_looks is_above s u c.args.at c.args.slot x.tree.tag e.looks.0 c.requires.entry.is_pinned in
    let spare = e.looks.0.room.0 in
    let room = e.looks.0.room.1 in
    omega (arith, spare)

pub returns-in-Err-clause-room : goal.returns-in-Err-clause-room
returns-in-Err-clause-room g c =
    let s = g.B.Blocks.state c.args.on.now in
    let u = g.B.Blocks.state c.prepare_end.new.on in
    let x = c.args.source.now.ways in
    let y = c.prepare_end.new.source.ways in
    let e = c.prepare_end.ensures in
    let all = g.met.B.Blocks.keeps_all c.args.on.now c.prepare_end.new.on e.looks.1 in
    let entry = entry_same e.same.0 e.same.1 (entry_looks all e.looks.0 c.requires.entry) in
    let looked = alters_looks is_above s u c.args.at c.args.slot x.tree.tag e.looks.0 c.requires.entry.is_pinned in
    let spare = e.looks.0.room.0 in
    let room = e.looks.0.room.1 in
    omega (arith, room)

pub returns-in-Err-clause-keeps : goal.returns-in-Err-clause-keeps
returns-in-Err-clause-keeps g c =
    let s = g.B.Blocks.state c.args.on.now in
    let u = g.B.Blocks.state c.prepare_end.new.on in
    let x = c.args.source.now.ways in
    let y = c.prepare_end.new.source.ways in
    let e = c.prepare_end.ensures in
    let all = g.met.B.Blocks.keeps_all c.args.on.now c.prepare_end.new.on e.looks.1 in
    let entry = entry_same e.same.0 e.same.1 (entry_looks all e.looks.0 c.requires.entry) in
    let looked = alters_looks is_above s u c.args.at c.args.slot x.tree.tag e.looks.0 c.requires.entry.is_pinned in
    let spare = e.looks.0.room.0 in
    let room = e.looks.0.room.1 in
    e.looks.1

pub returns-then-is_clear-clause-same : goal.returns-then-is_clear-clause-same
returns-then-is_clear-clause-same g c =
    let s = g.B.Blocks.state c.args.on.now in
    let u = g.B.Blocks.state c.prepare_end.new.on in
    let x = c.args.source.now.ways in
    let y = c.prepare_end.new.source.ways in
    let e = c.prepare_end.ensures in
    let all = g.met.B.Blocks.keeps_all c.args.on.now c.prepare_end.new.on e.looks.1 in
    let entry = entry_same e.same.0 e.same.1 (entry_looks all e.looks.0 c.requires.entry) in
    let looked = alters_looks is_above s u c.args.at c.args.slot x.tree.tag e.looks.0 c.requires.entry.is_pinned in
    let spare = e.looks.0.room.0 in
    let room = e.looks.0.room.1 in
    (same_tree x.tree y.tree e.same.0, e.same.1, e.same.2)

pub returns-then-is_clear-clause-entry : goal.returns-then-is_clear-clause-entry
returns-then-is_clear-clause-entry g c =
    let s = g.B.Blocks.state c.args.on.now in
    let u = g.B.Blocks.state c.prepare_end.new.on in
    let x = c.args.source.now.ways in
    let y = c.prepare_end.new.source.ways in
    let e = c.prepare_end.ensures in
    let all = g.met.B.Blocks.keeps_all c.args.on.now c.prepare_end.new.on e.looks.1 in
    let entry = entry_same e.same.0 e.same.1 (entry_looks all e.looks.0 c.requires.entry) in
    let looked = alters_looks is_above s u c.args.at c.args.slot x.tree.tag e.looks.0 c.requires.entry.is_pinned in
    let spare = e.looks.0.room.0 in
    let room = e.looks.0.room.1 in
    entry

pub returns-then-is_clear-clause-alters : goal.returns-then-is_clear-clause-alters
returns-then-is_clear-clause-alters g c =
    let s = g.B.Blocks.state c.args.on.now in
    let u = g.B.Blocks.state c.prepare_end.new.on in
    let x = c.args.source.now.ways in
    let y = c.prepare_end.new.source.ways in
    let e = c.prepare_end.ensures in
    let all = g.met.B.Blocks.keeps_all c.args.on.now c.prepare_end.new.on e.looks.1 in
    let entry = entry_same e.same.0 e.same.1 (entry_looks all e.looks.0 c.requires.entry) in
    let looked = alters_looks is_above s u c.args.at c.args.slot x.tree.tag e.looks.0 c.requires.entry.is_pinned in
    let spare = e.looks.0.room.0 in
    let room = e.looks.0.room.1 in
    looked

pub returns-then-is_clear-clause-spare : goal.returns-then-is_clear-clause-spare
returns-then-is_clear-clause-spare g c =
    let s = g.B.Blocks.state c.args.on.now in
    let u = g.B.Blocks.state c.prepare_end.new.on in
    let x = c.args.source.now.ways in
    let y = c.prepare_end.new.source.ways in
    let e = c.prepare_end.ensures in
    let all = g.met.B.Blocks.keeps_all c.args.on.now c.prepare_end.new.on e.looks.1 in
    let entry = entry_same e.same.0 e.same.1 (entry_looks all e.looks.0 c.requires.entry) in
    let looked = alters_looks is_above s u c.args.at c.args.slot x.tree.tag e.looks.0 c.requires.entry.is_pinned in
    let spare = e.looks.0.room.0 in
    let room = e.looks.0.room.1 in
    omega (arith, spare)

pub returns-then-is_clear-clause-room : goal.returns-then-is_clear-clause-room
returns-then-is_clear-clause-room g c =
    let s = g.B.Blocks.state c.args.on.now in
    let u = g.B.Blocks.state c.prepare_end.new.on in
    let x = c.args.source.now.ways in
    let y = c.prepare_end.new.source.ways in
    let e = c.prepare_end.ensures in
    let all = g.met.B.Blocks.keeps_all c.args.on.now c.prepare_end.new.on e.looks.1 in
    let entry = entry_same e.same.0 e.same.1 (entry_looks all e.looks.0 c.requires.entry) in
    let looked = alters_looks is_above s u c.args.at c.args.slot x.tree.tag e.looks.0 c.requires.entry.is_pinned in
    let spare = e.looks.0.room.0 in
    let room = e.looks.0.room.1 in
    omega (arith, room)

pub returns-then-is_clear-clause-keeps : goal.returns-then-is_clear-clause-keeps
returns-then-is_clear-clause-keeps g c =
    let s = g.B.Blocks.state c.args.on.now in
    let u = g.B.Blocks.state c.prepare_end.new.on in
    let x = c.args.source.now.ways in
    let y = c.prepare_end.new.source.ways in
    let e = c.prepare_end.ensures in
    let all = g.met.B.Blocks.keeps_all c.args.on.now c.prepare_end.new.on e.looks.1 in
    let entry = entry_same e.same.0 e.same.1 (entry_looks all e.looks.0 c.requires.entry) in
    let looked = alters_looks is_above s u c.args.at c.args.slot x.tree.tag e.looks.0 c.requires.entry.is_pinned in
    let spare = e.looks.0.room.0 in
    let room = e.looks.0.room.1 in
    e.looks.1

pub returns-then-is_clear-clause-clear : goal.returns-then-is_clear-clause-clear
returns-then-is_clear-clause-clear g c =
    λ lt. c.is_clear.ensures.yes c.if-is_clear.true

pub cut_end-requires-clause-silent : goal.cut_end-requires-clause-silent
cut_end-requires-clause-silent g c =
    let s = g.B.Blocks.state c.args.on.now in
    let u = g.B.Blocks.state c.prepare_end.new.on in
    let x = c.args.source.now.ways in
    let y = c.prepare_end.new.source.ways in
    let e = c.prepare_end.ensures in
    let all = g.met.B.Blocks.keeps_all c.args.on.now c.prepare_end.new.on e.looks.1 in
    let entry = entry_same e.same.0 e.same.1 (entry_looks all e.looks.0 c.requires.entry) in
    let looked = alters_looks is_above s u c.args.at c.args.slot x.tree.tag e.looks.0 c.requires.entry.is_pinned in
    let spare = e.looks.0.room.0 in
    let room = e.looks.0.room.1 in
    λ told. c.requires.silent (all.still_tells.0 told)

pub cut_end-requires-clause-data : goal.cut_end-requires-clause-data
cut_end-requires-clause-data g c =
    let s = g.B.Blocks.state c.args.on.now in
    let u = g.B.Blocks.state c.prepare_end.new.on in
    let x = c.args.source.now.ways in
    let y = c.prepare_end.new.source.ways in
    let e = c.prepare_end.ensures in
    let all = g.met.B.Blocks.keeps_all c.args.on.now c.prepare_end.new.on e.looks.1 in
    let entry = entry_same e.same.0 e.same.1 (entry_looks all e.looks.0 c.requires.entry) in
    let looked = alters_looks is_above s u c.args.at c.args.slot x.tree.tag e.looks.0 c.requires.entry.is_pinned in
    let spare = e.looks.0.room.0 in
    let room = e.looks.0.room.1 in
    ap (λ (t : Tree). t.dir) e.same.0 ∙ c.requires.data

pub cut_end-requires-clause-deep : goal.cut_end-requires-clause-deep
cut_end-requires-clause-deep g c =
    c.is_clear.ensures.deep c.if-is_clear.false

pub cut_end-requires-clause-entry : goal.cut_end-requires-clause-entry
cut_end-requires-clause-entry g c =
    let s = g.B.Blocks.state c.args.on.now in
    let u = g.B.Blocks.state c.prepare_end.new.on in
    let x = c.args.source.now.ways in
    let y = c.prepare_end.new.source.ways in
    let e = c.prepare_end.ensures in
    let all = g.met.B.Blocks.keeps_all c.args.on.now c.prepare_end.new.on e.looks.1 in
    let entry = entry_same e.same.0 e.same.1 (entry_looks all e.looks.0 c.requires.entry) in
    let looked = alters_looks is_above s u c.args.at c.args.slot x.tree.tag e.looks.0 c.requires.entry.is_pinned in
    let spare = e.looks.0.room.0 in
    let room = e.looks.0.room.1 in
    entry

pub cut_end-requires-clause-ready : goal.cut_end-requires-clause-ready
cut_end-requires-clause-ready g c =
    let s = g.B.Blocks.state c.args.on.now in
    let u = g.B.Blocks.state c.prepare_end.new.on in
    let x = c.args.source.now.ways in
    let y = c.prepare_end.new.source.ways in
    let e = c.prepare_end.ensures in
    let all = g.met.B.Blocks.keeps_all c.args.on.now c.prepare_end.new.on e.looks.1 in
    let entry = entry_same e.same.0 e.same.1 (entry_looks all e.looks.0 c.requires.entry) in
    let looked = alters_looks is_above s u c.args.at c.args.slot x.tree.tag e.looks.0 c.requires.entry.is_pinned in
    let spare = e.looks.0.room.0 in
    let room = e.looks.0.room.1 in
    let over = e.over in
    let size = deep_size y.tree over.least (let within = over.within in let low = over.low in omega (arith, within, low)) (c.is_clear.ensures.deep c.if-is_clear.false) in
    c.in-Ok.ensures.ready (omega (arith, size))

pub cut_end-requires-clause-spare : goal.cut_end-requires-clause-spare
cut_end-requires-clause-spare g c =
    let s = g.B.Blocks.state c.args.on.now in
    let u = g.B.Blocks.state c.prepare_end.new.on in
    let x = c.args.source.now.ways in
    let y = c.prepare_end.new.source.ways in
    let e = c.prepare_end.ensures in
    let all = g.met.B.Blocks.keeps_all c.args.on.now c.prepare_end.new.on e.looks.1 in
    let entry = entry_same e.same.0 e.same.1 (entry_looks all e.looks.0 c.requires.entry) in
    let looked = alters_looks is_above s u c.args.at c.args.slot x.tree.tag e.looks.0 c.requires.entry.is_pinned in
    let spare = e.looks.0.room.0 in
    let room = e.looks.0.room.1 in
    let few = c.requires.spare in omega (arith, spare, few)

pub cut_end-requires-clause-room : goal.cut_end-requires-clause-room
cut_end-requires-clause-room g c =
    let s = g.B.Blocks.state c.args.on.now in
    let u = g.B.Blocks.state c.prepare_end.new.on in
    let x = c.args.source.now.ways in
    let y = c.prepare_end.new.source.ways in
    let e = c.prepare_end.ensures in
    let all = g.met.B.Blocks.keeps_all c.args.on.now c.prepare_end.new.on e.looks.1 in
    let entry = entry_same e.same.0 e.same.1 (entry_looks all e.looks.0 c.requires.entry) in
    let looked = alters_looks is_above s u c.args.at c.args.slot x.tree.tag e.looks.0 c.requires.entry.is_pinned in
    let spare = e.looks.0.room.0 in
    let room = e.looks.0.room.1 in
    let few = c.requires.room in omega (arith, room, few)

pub returns-clause-same : goal.returns-clause-same
returns-clause-same g c =
    let s = g.B.Blocks.state c.args.on.now in
    let u = g.B.Blocks.state c.prepare_end.new.on in
    let x = c.args.source.now.ways in
    let y = c.prepare_end.new.source.ways in
    let e = c.prepare_end.ensures in
    let all = g.met.B.Blocks.keeps_all c.args.on.now c.prepare_end.new.on e.looks.1 in
    let entry = entry_same e.same.0 e.same.1 (entry_looks all e.looks.0 c.requires.entry) in
    let looked = alters_looks is_above s u c.args.at c.args.slot x.tree.tag e.looks.0 c.requires.entry.is_pinned in
    let spare = e.looks.0.room.0 in
    let room = e.looks.0.room.1 in
    let z = g.B.Blocks.state c.cut_end.new.on in
    let k = c.cut_end.ensures in
    let t = c.cut_end.new.ways in
    (same_joins (same_tree x.tree y.tree e.same.0) k.same.0, k.same.1 ∙ e.same.1, k.same.2 ∙ e.same.2)

pub returns-clause-clear : goal.returns-clause-clear
returns-clause-clear g c =
    let s = g.B.Blocks.state c.args.on.now in
    let u = g.B.Blocks.state c.prepare_end.new.on in
    let x = c.args.source.now.ways in
    let y = c.prepare_end.new.source.ways in
    let e = c.prepare_end.ensures in
    let all = g.met.B.Blocks.keeps_all c.args.on.now c.prepare_end.new.on e.looks.1 in
    let entry = entry_same e.same.0 e.same.1 (entry_looks all e.looks.0 c.requires.entry) in
    let looked = alters_looks is_above s u c.args.at c.args.slot x.tree.tag e.looks.0 c.requires.entry.is_pinned in
    let spare = e.looks.0.room.0 in
    let room = e.looks.0.room.1 in
    let z = g.B.Blocks.state c.cut_end.new.on in
    let k = c.cut_end.ensures in
    let t = c.cut_end.new.ways in
    ok_under c.cut_end.result (EndsClear z t.tree t.kept.items) (t.tree.size < c.args.end) k.clear

pub returns-clause-alters : goal.returns-clause-alters
returns-clause-alters g c =
    let s = g.B.Blocks.state c.args.on.now in
    let u = g.B.Blocks.state c.prepare_end.new.on in
    let x = c.args.source.now.ways in
    let y = c.prepare_end.new.source.ways in
    let e = c.prepare_end.ensures in
    let all = g.met.B.Blocks.keeps_all c.args.on.now c.prepare_end.new.on e.looks.1 in
    let entry = entry_same e.same.0 e.same.1 (entry_looks all e.looks.0 c.requires.entry) in
    let looked = alters_looks is_above s u c.args.at c.args.slot x.tree.tag e.looks.0 c.requires.entry.is_pinned in
    let spare = e.looks.0.room.0 in
    let room = e.looks.0.room.1 in
    let z = g.B.Blocks.state c.cut_end.new.on in
    let k = c.cut_end.ensures in
    let t = c.cut_end.new.ways in
    alters_joins all looked (subst (λ tag. Alters c.args.at c.args.slot tag is_above u z) (ap (λ (q : Tree). q.tag) e.same.0) k.alters)

pub returns-clause-spare : goal.returns-clause-spare
returns-clause-spare g c =
    let s = g.B.Blocks.state c.args.on.now in
    let u = g.B.Blocks.state c.prepare_end.new.on in
    let x = c.args.source.now.ways in
    let y = c.prepare_end.new.source.ways in
    let e = c.prepare_end.ensures in
    let all = g.met.B.Blocks.keeps_all c.args.on.now c.prepare_end.new.on e.looks.1 in
    let entry = entry_same e.same.0 e.same.1 (entry_looks all e.looks.0 c.requires.entry) in
    let looked = alters_looks is_above s u c.args.at c.args.slot x.tree.tag e.looks.0 c.requires.entry.is_pinned in
    let spare = e.looks.0.room.0 in
    let room = e.looks.0.room.1 in
    let z = g.B.Blocks.state c.cut_end.new.on in
    let k = c.cut_end.ensures in
    let t = c.cut_end.new.ways in
    let first = k.spare in omega (arith, spare, first)

pub returns-clause-room : goal.returns-clause-room
returns-clause-room g c =
    let s = g.B.Blocks.state c.args.on.now in
    let u = g.B.Blocks.state c.prepare_end.new.on in
    let x = c.args.source.now.ways in
    let y = c.prepare_end.new.source.ways in
    let e = c.prepare_end.ensures in
    let all = g.met.B.Blocks.keeps_all c.args.on.now c.prepare_end.new.on e.looks.1 in
    let entry = entry_same e.same.0 e.same.1 (entry_looks all e.looks.0 c.requires.entry) in
    let looked = alters_looks is_above s u c.args.at c.args.slot x.tree.tag e.looks.0 c.requires.entry.is_pinned in
    let spare = e.looks.0.room.0 in
    let room = e.looks.0.room.1 in
    let z = g.B.Blocks.state c.cut_end.new.on in
    let k = c.cut_end.ensures in
    let t = c.cut_end.new.ways in
    let first = k.room in omega (arith, room, first)

pub returns-clause-pins : goal.returns-clause-pins
returns-clause-pins g c =
    let s = g.B.Blocks.state c.args.on.now in
    let u = g.B.Blocks.state c.prepare_end.new.on in
    let x = c.args.source.now.ways in
    let y = c.prepare_end.new.source.ways in
    let e = c.prepare_end.ensures in
    let all = g.met.B.Blocks.keeps_all c.args.on.now c.prepare_end.new.on e.looks.1 in
    let entry = entry_same e.same.0 e.same.1 (entry_looks all e.looks.0 c.requires.entry) in
    let looked = alters_looks is_above s u c.args.at c.args.slot x.tree.tag e.looks.0 c.requires.entry.is_pinned in
    let spare = e.looks.0.room.0 in
    let room = e.looks.0.room.1 in
    let z = g.B.Blocks.state c.cut_end.new.on in
    let k = c.cut_end.ensures in
    let t = c.cut_end.new.ways in
    let first = k.pins in let second = e.pins in omega (arith, first, second)

pub returns-clause-keeps : goal.returns-clause-keeps
returns-clause-keeps g c =
    let s = g.B.Blocks.state c.args.on.now in
    let u = g.B.Blocks.state c.prepare_end.new.on in
    let x = c.args.source.now.ways in
    let y = c.prepare_end.new.source.ways in
    let e = c.prepare_end.ensures in
    let all = g.met.B.Blocks.keeps_all c.args.on.now c.prepare_end.new.on e.looks.1 in
    let entry = entry_same e.same.0 e.same.1 (entry_looks all e.looks.0 c.requires.entry) in
    let looked = alters_looks is_above s u c.args.at c.args.slot x.tree.tag e.looks.0 c.requires.entry.is_pinned in
    let spare = e.looks.0.room.0 in
    let room = e.looks.0.room.1 in
    let z = g.B.Blocks.state c.cut_end.new.on in
    let k = c.cut_end.ensures in
    let t = c.cut_end.new.ways in
    g.met.B.Blocks.keeps_joins c.args.on.now c.prepare_end.new.on c.cut_end.new.on e.looks.1 k.keeps

pub returns-clause-cause : goal.returns-clause-cause
returns-clause-cause g c =
    let s = g.B.Blocks.state c.args.on.now in
    let u = g.B.Blocks.state c.prepare_end.new.on in
    let x = c.args.source.now.ways in
    let y = c.prepare_end.new.source.ways in
    let e = c.prepare_end.ensures in
    let all = g.met.B.Blocks.keeps_all c.args.on.now c.prepare_end.new.on e.looks.1 in
    let entry = entry_same e.same.0 e.same.1 (entry_looks all e.looks.0 c.requires.entry) in
    let looked = alters_looks is_above s u c.args.at c.args.slot x.tree.tag e.looks.0 c.requires.entry.is_pinned in
    let spare = e.looks.0.room.0 in
    let room = e.looks.0.room.1 in
    let z = g.B.Blocks.state c.cut_end.new.on in
    let k = c.cut_end.ensures in
    let t = c.cut_end.new.ways in
    refused_settling s u z all c.cut_end.result k.cause

pub returns-then-end-len-clause-dirties : goal.returns-then-end-len-clause-dirties
returns-then-end-len-clause-dirties g c = adds_idle 8 first_of (dirties_at_once (g.B.Blocks.state c.args.on.now) [])

pub returns-in-Err-clause-dirties : goal.returns-in-Err-clause-dirties
returns-in-Err-clause-dirties g c = adds_idle 8 first_of (dirties_looks (g.met.B.Blocks.keeps_all c.args.on.now c.prepare_end.new.on c.prepare_end.ensures.looks.1) c.prepare_end.ensures.looks.0)

pub returns-then-is_clear-clause-dirties : goal.returns-then-is_clear-clause-dirties
returns-then-is_clear-clause-dirties g c = adds_idle 8 first_of (dirties_looks (g.met.B.Blocks.keeps_all c.args.on.now c.prepare_end.new.on c.prepare_end.ensures.looks.1) c.prepare_end.ensures.looks.0)

pub returns-clause-dirties : goal.returns-clause-dirties
returns-clause-dirties g c = adds_after (dirties_looks (g.met.B.Blocks.keeps_all c.args.on.now c.prepare_end.new.on c.prepare_end.ensures.looks.1) c.prepare_end.ensures.looks.0) c.cut_end.ensures.dirties
