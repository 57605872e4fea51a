use Rattle.std.proofs.Common.{◌+◌, ◌%◌, ◌∙◌, length, ap, subst, arith}
use Rattle.std.specs.Prelude.{max}
use Rattle.fo_files_write.specs.Alters.{Alters, any_kind}
use Rattle.fo_files_write.proofs.Steps.{alters_joins, alters_any}
use Rattle.fo_files_write.proofs.data.write_source.Goals as goal
use Rattle.fo_dirties.proofs.Adding.{adds_more, adds_joins, cons_of, first_of, none_of}

pub returns-in-Err-clause-same : goal.returns-in-Err-clause-same
returns-in-Err-clause-same g c =
    let s = g.B.Blocks.state c.args.on.now in
    let m = g.B.Blocks.state c.ready_for.new.on in
    let x = c.args.source.now.ways in
    let y = c.ready_for.new.source.ways in
    let e = c.ready_for.ensures in
    let all = g.met.B.Blocks.keeps_all c.args.on.now c.ready_for.new.on e.keeps in
    (e.same.0.dir, e.same.0.tag, e.same.1)

pub returns-in-Err-clause-stays : goal.returns-in-Err-clause-stays
returns-in-Err-clause-stays g c =
    let s = g.B.Blocks.state c.args.on.now in
    let m = g.B.Blocks.state c.ready_for.new.on in
    let x = c.args.source.now.ways in
    let y = c.ready_for.new.source.ways in
    let e = c.ready_for.ensures in
    let all = g.met.B.Blocks.keeps_all c.args.on.now c.ready_for.new.on e.keeps in
    e.same.0.size

pub returns-in-Err-clause-spare : goal.returns-in-Err-clause-spare
returns-in-Err-clause-spare g c =
    let s = g.B.Blocks.state c.args.on.now in
    let m = g.B.Blocks.state c.ready_for.new.on in
    let x = c.args.source.now.ways in
    let y = c.ready_for.new.source.ways in
    let e = c.ready_for.ensures in
    let all = g.met.B.Blocks.keeps_all c.args.on.now c.ready_for.new.on e.keeps in
    let spare = e.spare in omega (arith, spare)

pub returns-in-Err-clause-room : goal.returns-in-Err-clause-room
returns-in-Err-clause-room g c =
    let s = g.B.Blocks.state c.args.on.now in
    let m = g.B.Blocks.state c.ready_for.new.on in
    let x = c.args.source.now.ways in
    let y = c.ready_for.new.source.ways in
    let e = c.ready_for.ensures in
    let all = g.met.B.Blocks.keeps_all c.args.on.now c.ready_for.new.on e.keeps in
    let room = e.room in omega (arith, room)

pub returns-in-Err-clause-pins : goal.returns-in-Err-clause-pins
returns-in-Err-clause-pins g c =
    let s = g.B.Blocks.state c.args.on.now in
    let m = g.B.Blocks.state c.ready_for.new.on in
    let x = c.args.source.now.ways in
    let y = c.ready_for.new.source.ways in
    let e = c.ready_for.ensures in
    let all = g.met.B.Blocks.keeps_all c.args.on.now c.ready_for.new.on e.keeps in
    let pins = e.pins in omega (arith, pins)

pub put-requires-clause-silent : goal.put-requires-clause-silent
put-requires-clause-silent g c =
    let s = g.B.Blocks.state c.args.on.now in
    let m = g.B.Blocks.state c.ready_for.new.on in
    let x = c.args.source.now.ways in
    let y = c.ready_for.new.source.ways in
    let e = c.ready_for.ensures in
    let all = g.met.B.Blocks.keeps_all c.args.on.now c.ready_for.new.on e.keeps in
    λ told. c.requires.silent (all.still_tells.0 told)

pub put-requires-clause-data : goal.put-requires-clause-data
put-requires-clause-data g c =
    let s = g.B.Blocks.state c.args.on.now in
    let m = g.B.Blocks.state c.ready_for.new.on in
    let x = c.args.source.now.ways in
    let y = c.ready_for.new.source.ways in
    let e = c.ready_for.ensures in
    let all = g.met.B.Blocks.keeps_all c.args.on.now c.ready_for.new.on e.keeps in
    (e.same.0.dir ∙ c.requires.data.0, ap (λ r. r % 32) e.same.0.rank ∙ c.requires.data.1)

pub put-requires-clause-spare : goal.put-requires-clause-spare
put-requires-clause-spare g c =
    let s = g.B.Blocks.state c.args.on.now in
    let m = g.B.Blocks.state c.ready_for.new.on in
    let x = c.args.source.now.ways in
    let y = c.ready_for.new.source.ways in
    let e = c.ready_for.ensures in
    let all = g.met.B.Blocks.keeps_all c.args.on.now c.ready_for.new.on e.keeps in
    let first = e.spare in let enough = c.requires.spare in omega (arith, first, enough)

pub put-requires-clause-room : goal.put-requires-clause-room
put-requires-clause-room g c =
    let s = g.B.Blocks.state c.args.on.now in
    let m = g.B.Blocks.state c.ready_for.new.on in
    let x = c.args.source.now.ways in
    let y = c.ready_for.new.source.ways in
    let e = c.ready_for.ensures in
    let all = g.met.B.Blocks.keeps_all c.args.on.now c.ready_for.new.on e.keeps in
    let first = e.room in let enough = c.requires.room in omega (arith, first, enough)

pub returns-clause-same : goal.returns-clause-same
returns-clause-same g c =
    let s = g.B.Blocks.state c.args.on.now in
    let m = g.B.Blocks.state c.ready_for.new.on in
    let x = c.args.source.now.ways in
    let y = c.ready_for.new.source.ways in
    let e = c.ready_for.ensures in
    let all = g.met.B.Blocks.keeps_all c.args.on.now c.ready_for.new.on e.keeps in
    let u = g.B.Blocks.state c.put.new.on in
    let z = c.put.new.source.ways in
    let k = c.put.ensures in
    let n = length c.args.piece.now in
    (k.same.0 ∙ e.same.0.dir, k.same.1 ∙ e.same.0.tag, k.same.2 ∙ e.same.1)

pub returns-clause-size : goal.returns-clause-size
returns-clause-size g c =
    let s = g.B.Blocks.state c.args.on.now in
    let m = g.B.Blocks.state c.ready_for.new.on in
    let x = c.args.source.now.ways in
    let y = c.ready_for.new.source.ways in
    let e = c.ready_for.ensures in
    let all = g.met.B.Blocks.keeps_all c.args.on.now c.ready_for.new.on e.keeps in
    let u = g.B.Blocks.state c.put.new.on in
    let z = c.put.new.source.ways in
    let k = c.put.ensures in
    let n = length c.args.piece.now in
    (c.len.ensures, c.len.ensures ∙ k.size ∙ ap (λ a. max a (c.args.offset + n)) e.same.0.size)

pub returns-clause-alters : goal.returns-clause-alters
returns-clause-alters g c =
    let s = g.B.Blocks.state c.args.on.now in
    let m = g.B.Blocks.state c.ready_for.new.on in
    let x = c.args.source.now.ways in
    let y = c.ready_for.new.source.ways in
    let e = c.ready_for.ensures in
    let all = g.met.B.Blocks.keeps_all c.args.on.now c.ready_for.new.on e.keeps in
    let u = g.B.Blocks.state c.put.new.on in
    let z = c.put.new.source.ways in
    let k = c.put.ensures in
    let n = length c.args.piece.now in
    alters_joins all (alters_any e.alters) (subst (λ tag. Alters c.args.file.at c.args.file.slot tag any_kind m u) e.same.0.tag k.alters)

pub returns-clause-spare : goal.returns-clause-spare
returns-clause-spare g c =
    let s = g.B.Blocks.state c.args.on.now in
    let m = g.B.Blocks.state c.ready_for.new.on in
    let x = c.args.source.now.ways in
    let y = c.ready_for.new.source.ways in
    let e = c.ready_for.ensures in
    let all = g.met.B.Blocks.keeps_all c.args.on.now c.ready_for.new.on e.keeps in
    let u = g.B.Blocks.state c.put.new.on in
    let z = c.put.new.source.ways in
    let k = c.put.ensures in
    let n = length c.args.piece.now in
    let first = e.spare in let second = k.spare in omega (arith, first, second)

pub returns-clause-room : goal.returns-clause-room
returns-clause-room g c =
    let s = g.B.Blocks.state c.args.on.now in
    let m = g.B.Blocks.state c.ready_for.new.on in
    let x = c.args.source.now.ways in
    let y = c.ready_for.new.source.ways in
    let e = c.ready_for.ensures in
    let all = g.met.B.Blocks.keeps_all c.args.on.now c.ready_for.new.on e.keeps in
    let u = g.B.Blocks.state c.put.new.on in
    let z = c.put.new.source.ways in
    let k = c.put.ensures in
    let n = length c.args.piece.now in
    let first = e.room in let second = k.room in omega (arith, first, second)

pub returns-clause-pins : goal.returns-clause-pins
returns-clause-pins g c =
    let s = g.B.Blocks.state c.args.on.now in
    let m = g.B.Blocks.state c.ready_for.new.on in
    let x = c.args.source.now.ways in
    let y = c.ready_for.new.source.ways in
    let e = c.ready_for.ensures in
    let all = g.met.B.Blocks.keeps_all c.args.on.now c.ready_for.new.on e.keeps in
    let u = g.B.Blocks.state c.put.new.on in
    let z = c.put.new.source.ways in
    let k = c.put.ensures in
    let n = length c.args.piece.now in
    let first = e.pins in let second = k.pins in omega (arith, first, second)

pub returns-clause-keeps : goal.returns-clause-keeps
returns-clause-keeps g c =
    let s = g.B.Blocks.state c.args.on.now in
    let m = g.B.Blocks.state c.ready_for.new.on in
    let x = c.args.source.now.ways in
    let y = c.ready_for.new.source.ways in
    let e = c.ready_for.ensures in
    let all = g.met.B.Blocks.keeps_all c.args.on.now c.ready_for.new.on e.keeps in
    let u = g.B.Blocks.state c.put.new.on in
    let z = c.put.new.source.ways in
    let k = c.put.ensures in
    let n = length c.args.piece.now in
    g.met.B.Blocks.keeps_joins c.args.on.now c.ready_for.new.on c.put.new.on e.keeps k.keeps

pub returns-clause-puts : goal.returns-clause-puts
returns-clause-puts g c =
    let e = c.ready_for.ensures in
    let k = c.put.ensures in (
      c.ready_for.new.on,
      e.alters,
      record {
        before = c.ready_for.new.source;
        after = c.put.new.source;
        entry_was = e.entry;
        over_was = e.over;
        prepared = c.in-Ok.ensures.prepared;
        clear = c.in-Ok.ensures.clear;
        entry = k.entry;
        over = k.over;
        form = k.form;
        size = k.size;
        still = k.prepared;
      },
    )

pub returns-in-Err-clause-alters : goal.returns-in-Err-clause-alters
returns-in-Err-clause-alters g c = alters_any c.ready_for.ensures.alters

pub returns-in-Err-clause-dirties : goal.returns-in-Err-clause-dirties
returns-in-Err-clause-dirties g c = adds_more (omega arith) c.ready_for.ensures.dirties

pub returns-clause-dirties : goal.returns-clause-dirties
returns-clause-dirties g c = adds_more (omega arith) (adds_joins c.ready_for.ensures.dirties c.put.ensures.dirties (cons_of first_of none_of))
