use Rattle.std.proofs.Common.{◌+◌, ◌*◌, inl, inr, sym, subst, ◌∙◌, arith}
use Rattle.fo_tree_read.proofs.Exits.{looks_none}
use Rattle.fo_dir_change.specs.Changes.{Bears, HasChanged}
use Rattle.fo_files_record.specs.Stays.{no_slot}
use Rattle.fo_files_record.proofs.Rewriting.{rewrites_calm}
use Rattle.fo_files_ready.proofs.of_files_change.Records.{records_ready, records_rank, later_failed}
use Rattle.fo_files_cut.specs.of_files_write.Alters.{is_above}
use Rattle.fo_files_cut.proofs.of_files_write.Steps.{alters_none}
use Rattle.fo_files_ready.specs.Ready.{IsLeafOf, IsReadyFor, MadeReady}
use Rattle.fo_files_ready.proofs.Steps.{leaf_looks, failed_since}
use Rattle.fo_files_along.proofs.Pairs.{entries_looks}
use Rattle.fo_files_into.proofs.Steps.{file_over, file_looks, leaf_bytes, leaf_written, data_kept, data_long, must_fit, changed_as}
use Rattle.fo_files_into.proofs.write.write_into.Goals as goal
use Rattle.fo_dirties.proofs.Adding.{first_of, next_of, cons_of, none_of, adds_more, adds_wider, adds_given, adds_still, adds_first, adds_then}
use Rattle.fo_dirties.proofs.Putting.{dirties_looks}

pub read-requires-clause-silent : goal.read-requires-clause-silent
read-requires-clause-silent g c =
    λ h. c.requires.silent ((g.met.B.Blocks.keeps_all c.args.on.now c.ready_record.new.on c.ready_record.ensures.keeps).still_tells.0 h)

pub read-requires-clause-rank : goal.read-requires-clause-rank
read-requires-clause-rank g c =
    records_rank c.args.at.dir.rank c.requires.dir.ranked c.requires.dir.least

pub write_data-requires-clause-silent : goal.write_data-requires-clause-silent
write_data-requires-clause-silent g c =
    λ h. c.requires.silent ((g.met.B.Blocks.keeps_all c.args.on.now c.read.new.on (g.met.B.Blocks.keeps_joins c.args.on.now c.ready_record.new.on c.read.new.on c.ready_record.ensures.keeps c.read.ensures.keeps)).still_tells.0 h)

pub write_data-requires-clause-file : goal.write_data-requires-clause-file
write_data-requires-clause-file g c =
    let s = g.B.Blocks.state c.args.on.now in
    let f = g.B.Blocks.state c.ready_record.new.on in
    let m = g.B.Blocks.state c.read.new.on in
    let dir = c.args.at.dir in
    let file = c.args.at.file in
    let y = c.ready_record.ensures.stays in
    let e = g.B.Blocks.state y.0 in
    let first = g.met.B.Blocks.keeps_all c.args.on.now y.0 y.2 in
    let second = g.met.B.Blocks.keeps_all y.0 c.ready_record.new.on y.3 in
    let third = g.met.B.Blocks.keeps_all c.ready_record.new.on c.read.new.on c.read.ensures.keeps in
    let file_f = file_over s e f dir file (IsLeafOf dir e) first second y.1 y.4 c.requires.file in
    let file_m = file_looks f m file third c.read.ensures.looks file_f in
    let entries_m = entries_looks f m file.at third c.read.ensures.looks (c.ready_record.ensures.entries file.at c.requires.entries) in
    let own_m = leaf_looks f m dir c.in-Ok.leaf third c.read.ensures.looks c.in-Ok.ensures.ready.own in
    file_m

pub write_data-requires-clause-pins : goal.write_data-requires-clause-pins
write_data-requires-clause-pins g c =
    let took = c.ready_record.ensures.pins in let same = c.read.ensures.pins in let enough = c.requires.pins in omega (arith, took, same, enough)

pub write_data-requires-clause-spare : goal.write_data-requires-clause-spare
write_data-requires-clause-spare g c =
    let took = c.ready_record.ensures.spare in let same = c.read.ensures.looks.room.0 in let enough = c.requires.spare in omega (arith, took, same, enough)

pub write_data-requires-clause-room : goal.write_data-requires-clause-room
write_data-requires-clause-room g c =
    let took = c.ready_record.ensures.room in let same = c.read.ensures.looks.room.1 in let enough = c.requires.room in omega (arith, took, same, enough)

pub change_record-requires-clause-owned : goal.change_record-requires-clause-owned
change_record-requires-clause-owned g c =
    let s = g.B.Blocks.state c.args.on.now in
    let f = g.B.Blocks.state c.ready_record.new.on in
    let m = g.B.Blocks.state c.read.new.on in
    let dir = c.args.at.dir in
    let file = c.args.at.file in
    let y = c.ready_record.ensures.stays in
    let e = g.B.Blocks.state y.0 in
    let first = g.met.B.Blocks.keeps_all c.args.on.now y.0 y.2 in
    let second = g.met.B.Blocks.keeps_all y.0 c.ready_record.new.on y.3 in
    let third = g.met.B.Blocks.keeps_all c.ready_record.new.on c.read.new.on c.read.ensures.keeps in
    let file_f = file_over s e f dir file (IsLeafOf dir e) first second y.1 y.4 c.requires.file in
    let file_m = file_looks f m file third c.read.ensures.looks file_f in
    let entries_m = entries_looks f m file.at third c.read.ensures.looks (c.ready_record.ensures.entries file.at c.requires.entries) in
    let own_m = leaf_looks f m dir c.in-Ok.leaf third c.read.ensures.looks c.in-Ok.ensures.ready.own in
    let h = g.B.Blocks.state c.write_data.new.on in
    let fourth = g.met.B.Blocks.keeps_all c.read.new.on c.write_data.new.on c.write_data.ensures.keeps in
    let own_h = leaf_written m h dir file c.in-Ok.leaf fourth entries_m c.write_data.ensures.alters own_m in
    let bytes = leaf_bytes m h dir file c.in-Ok.leaf entries_m c.write_data.ensures.alters own_m ∙ (c.read.ensures.looks.known c.in-Ok.leaf c.in-Ok.ensures.ready.own.is_pinned).bytes in
    (records_ready (33 + 2 * dir.number) c.in-Ok.leaf (λ x. c.requires.silent ((g.met.B.Blocks.keeps_all c.args.on.now c.write_data.new.on (g.met.B.Blocks.keeps_joins c.args.on.now c.read.new.on c.write_data.new.on (g.met.B.Blocks.keeps_joins c.args.on.now c.ready_record.new.on c.read.new.on c.ready_record.ensures.keeps c.read.ensures.keeps) c.write_data.ensures.keeps)).still_tells.0 x)) (λ x. g.met.B.Blocks.covers_told c.write_data.new.on c.in-Ok.leaf x) own_h).owned

pub change_record-requires-clause-bytes : goal.change_record-requires-clause-bytes
change_record-requires-clause-bytes g c =
    let s = g.B.Blocks.state c.args.on.now in
    let f = g.B.Blocks.state c.ready_record.new.on in
    let m = g.B.Blocks.state c.read.new.on in
    let dir = c.args.at.dir in
    let file = c.args.at.file in
    let y = c.ready_record.ensures.stays in
    let e = g.B.Blocks.state y.0 in
    let first = g.met.B.Blocks.keeps_all c.args.on.now y.0 y.2 in
    let second = g.met.B.Blocks.keeps_all y.0 c.ready_record.new.on y.3 in
    let third = g.met.B.Blocks.keeps_all c.ready_record.new.on c.read.new.on c.read.ensures.keeps in
    let file_f = file_over s e f dir file (IsLeafOf dir e) first second y.1 y.4 c.requires.file in
    let file_m = file_looks f m file third c.read.ensures.looks file_f in
    let entries_m = entries_looks f m file.at third c.read.ensures.looks (c.ready_record.ensures.entries file.at c.requires.entries) in
    let own_m = leaf_looks f m dir c.in-Ok.leaf third c.read.ensures.looks c.in-Ok.ensures.ready.own in
    let h = g.B.Blocks.state c.write_data.new.on in
    let fourth = g.met.B.Blocks.keeps_all c.read.new.on c.write_data.new.on c.write_data.ensures.keeps in
    let own_h = leaf_written m h dir file c.in-Ok.leaf fourth entries_m c.write_data.ensures.alters own_m in
    let bytes = leaf_bytes m h dir file c.in-Ok.leaf entries_m c.write_data.ensures.alters own_m ∙ (c.read.ensures.looks.known c.in-Ok.leaf c.in-Ok.ensures.ready.own.is_pinned).bytes in
    let read = c.in-Ok-read.ensures.bytes in
    (read.0, read.1 ∙ sym (leaf_bytes m h dir file c.in-Ok.leaf entries_m c.write_data.ensures.alters own_m))

pub change_record-requires-clause-there : goal.change_record-requires-clause-there
change_record-requires-clause-there g c =
    let s = g.B.Blocks.state c.args.on.now in
    let f = g.B.Blocks.state c.ready_record.new.on in
    let m = g.B.Blocks.state c.read.new.on in
    let dir = c.args.at.dir in
    let file = c.args.at.file in
    let y = c.ready_record.ensures.stays in
    let e = g.B.Blocks.state y.0 in
    let first = g.met.B.Blocks.keeps_all c.args.on.now y.0 y.2 in
    let second = g.met.B.Blocks.keeps_all y.0 c.ready_record.new.on y.3 in
    let third = g.met.B.Blocks.keeps_all c.ready_record.new.on c.read.new.on c.read.ensures.keeps in
    let file_f = file_over s e f dir file (IsLeafOf dir e) first second y.1 y.4 c.requires.file in
    let file_m = file_looks f m file third c.read.ensures.looks file_f in
    let entries_m = entries_looks f m file.at third c.read.ensures.looks (c.ready_record.ensures.entries file.at c.requires.entries) in
    let own_m = leaf_looks f m dir c.in-Ok.leaf third c.read.ensures.looks c.in-Ok.ensures.ready.own in
    let h = g.B.Blocks.state c.write_data.new.on in
    let fourth = g.met.B.Blocks.keeps_all c.read.new.on c.write_data.new.on c.write_data.ensures.keeps in
    let own_h = leaf_written m h dir file c.in-Ok.leaf fourth entries_m c.write_data.ensures.alters own_m in
    let bytes = leaf_bytes m h dir file c.in-Ok.leaf entries_m c.write_data.ensures.alters own_m ∙ (c.read.ensures.looks.known c.in-Ok.leaf c.in-Ok.ensures.ready.own.is_pinned).bytes in
    subst (λ xs. Bears c.as_slice-name.result.now xs) (sym bytes) c.in-Ok.ensures.ready.place.bears

pub returns-in-Err-clause-left : goal.returns-in-Err-clause-left
returns-in-Err-clause-left g c =
    let y = c.in-Err.ensures.nothing in
    let u = g.B.Blocks.state c.ready_record.new.on in
    let file = c.args.at.file in
    inl (record { owned = y.0; readied = y.1; moved = y.2; looked = c.ready_record.new.on; looks = looks_none u; alters = alters_none is_above u file.at file.slot (32 + 2 * file.number); stays = λ generation size has. has })

pub returns-in-Err-read-clause-left : goal.returns-in-Err-read-clause-left
returns-in-Err-read-clause-left g c =
    let y = c.ready_record.ensures.stays in
    let u = g.B.Blocks.state c.read.new.on in
    let file = c.args.at.file in
    let steps = subst (λ xs. MadeReady _ g.B.Blocks.state c.args.on.now c.ready_record.new.on c.args.at.dir c.args.i c.args.spare c.in-Ok.leaf xs) c.as_slice-name.ensures c.in-Ok.ensures.steps in
    inr (c.ready_record.new.on, c.in-Ok.leaf, steps, record { owned = y.0; readied = y.1; moved = y.4; looked = c.read.new.on; looks = c.read.ensures.looks; alters = alters_none is_above u file.at file.slot (32 + 2 * file.number); stays = λ generation size has. has })

pub returns-in-Err-write_data-clause-left : goal.returns-in-Err-write_data-clause-left
returns-in-Err-write_data-clause-left g c =
    let y = c.ready_record.ensures.stays in
    let steps = subst (λ xs. MadeReady _ g.B.Blocks.state c.args.on.now c.ready_record.new.on c.args.at.dir c.args.i c.args.spare c.in-Ok.leaf xs) c.as_slice-name.ensures c.in-Ok.ensures.steps in
    inr (c.ready_record.new.on, c.in-Ok.leaf, steps, record { owned = y.0; readied = y.1; moved = y.4; looked = c.read.new.on; looks = c.read.ensures.looks; alters = c.in-Err-write_data.ensures.nothing; stays = c.in-Err-write_data.ensures.stays })

pub returns-clause-puts : goal.returns-clause-puts
returns-clause-puts g c =
    let s = g.B.Blocks.state c.args.on.now in
    let f = g.B.Blocks.state c.ready_record.new.on in
    let m = g.B.Blocks.state c.read.new.on in
    let dir = c.args.at.dir in
    let file = c.args.at.file in
    let y = c.ready_record.ensures.stays in
    let e = g.B.Blocks.state y.0 in
    let first = g.met.B.Blocks.keeps_all c.args.on.now y.0 y.2 in
    let second = g.met.B.Blocks.keeps_all y.0 c.ready_record.new.on y.3 in
    let third = g.met.B.Blocks.keeps_all c.ready_record.new.on c.read.new.on c.read.ensures.keeps in
    let file_f = file_over s e f dir file (IsLeafOf dir e) first second y.1 y.4 c.requires.file in
    let file_m = file_looks f m file third c.read.ensures.looks file_f in
    let entries_m = entries_looks f m file.at third c.read.ensures.looks (c.ready_record.ensures.entries file.at c.requires.entries) in
    let own_m = leaf_looks f m dir c.in-Ok.leaf third c.read.ensures.looks c.in-Ok.ensures.ready.own in
    let h = g.B.Blocks.state c.write_data.new.on in
    let fourth = g.met.B.Blocks.keeps_all c.read.new.on c.write_data.new.on c.write_data.ensures.keeps in
    let own_h = leaf_written m h dir file c.in-Ok.leaf fourth entries_m c.write_data.ensures.alters own_m in
    let bytes = leaf_bytes m h dir file c.in-Ok.leaf entries_m c.write_data.ensures.alters own_m ∙ (c.read.ensures.looks.known c.in-Ok.leaf c.in-Ok.ensures.ready.own.is_pinned).bytes in
    let fits = must_fit c.change_record.result c.as_slice-name.result.now c.args.named.now ((h.now c.in-Ok.leaf).bytes) ((f.now c.in-Ok.leaf).bytes) bytes (λ no. (c.change_record.ensures.full no).0) c.in-Ok.ensures.ready.place.fits in
    let u = g.B.Blocks.state c.change_record.new.on in
    let len = c.in-Ok-write_data.ensures.length in
    let some = c.requires.some in
    let piece = c.in-Ok-write_data.ensures.puts some in
    record {
      leaf = c.in-Ok.leaf;
      owned = y.0;
      readied = y.1;
      ready = c.ready_record.new.on;
      moved = y.4;
      steps = subst (λ xs. MadeReady _ g.B.Blocks.state c.args.on.now c.ready_record.new.on dir c.args.i c.args.spare c.in-Ok.leaf xs) c.as_slice-name.ensures c.in-Ok.ensures.steps;
      fits = subst (λ xs. IsReadyFor f dir c.in-Ok.leaf xs c.args.named.now) c.as_slice-name.ensures c.in-Ok.ensures.ready;
      looked = c.read.new.on;
      looks = c.read.ensures.looks;
      generation = len.0;
      size = len.1;
      was = len.2;
      trimmed = piece.0;
      trims = piece.1;
      written = c.write_data.new.on;
      piece = piece.2;
      alters = c.write_data.ensures.alters;
      has = data_kept h u file len.0 _ (c.change_record.ensures.slots file.at file.slot) (data_long h file len.0 _ _ (len.5 some) len.3);
      changed = subst (λ xs. HasChanged xs c.args.named.now ((f.now c.in-Ok.leaf).bytes) ((u.now c.in-Ok.leaf).bytes)) c.as_slice-name.ensures (changed_as c.as_slice-name.result.now c.args.named.now _ _ _ bytes (c.change_record.ensures.changed fits));
      stays = rewrites_calm c.in-Ok.leaf no_slot (c.change_record.ensures.calm fits) c.change_record.ensures.bytes c.change_record.ensures.slots;
    }

pub returns-clause-spare : goal.returns-clause-spare
returns-clause-spare g c =
    let s = g.B.Blocks.state c.args.on.now in
    let f = g.B.Blocks.state c.ready_record.new.on in
    let m = g.B.Blocks.state c.read.new.on in
    let dir = c.args.at.dir in
    let file = c.args.at.file in
    let y = c.ready_record.ensures.stays in
    let e = g.B.Blocks.state y.0 in
    let first = g.met.B.Blocks.keeps_all c.args.on.now y.0 y.2 in
    let second = g.met.B.Blocks.keeps_all y.0 c.ready_record.new.on y.3 in
    let third = g.met.B.Blocks.keeps_all c.ready_record.new.on c.read.new.on c.read.ensures.keeps in
    let file_f = file_over s e f dir file (IsLeafOf dir e) first second y.1 y.4 c.requires.file in
    let file_m = file_looks f m file third c.read.ensures.looks file_f in
    let entries_m = entries_looks f m file.at third c.read.ensures.looks (c.ready_record.ensures.entries file.at c.requires.entries) in
    let own_m = leaf_looks f m dir c.in-Ok.leaf third c.read.ensures.looks c.in-Ok.ensures.ready.own in
    let h = g.B.Blocks.state c.write_data.new.on in
    let fourth = g.met.B.Blocks.keeps_all c.read.new.on c.write_data.new.on c.write_data.ensures.keeps in
    let own_h = leaf_written m h dir file c.in-Ok.leaf fourth entries_m c.write_data.ensures.alters own_m in
    let bytes = leaf_bytes m h dir file c.in-Ok.leaf entries_m c.write_data.ensures.alters own_m ∙ (c.read.ensures.looks.known c.in-Ok.leaf c.in-Ok.ensures.ready.own.is_pinned).bytes in
    let fits = must_fit c.change_record.result c.as_slice-name.result.now c.args.named.now ((h.now c.in-Ok.leaf).bytes) ((f.now c.in-Ok.leaf).bytes) bytes (λ no. (c.change_record.ensures.full no).0) c.in-Ok.ensures.ready.place.fits in
    let a = c.ready_record.ensures.spare in let b = c.read.ensures.looks.room.0 in let w = c.write_data.ensures.spare in let last = (c.change_record.ensures.calm fits).left.0 in omega (arith, a, b, w, last)

pub returns-clause-usable : goal.returns-clause-usable
returns-clause-usable g c =
    let s = g.B.Blocks.state c.args.on.now in
    let f = g.B.Blocks.state c.ready_record.new.on in
    let m = g.B.Blocks.state c.read.new.on in
    let dir = c.args.at.dir in
    let file = c.args.at.file in
    let y = c.ready_record.ensures.stays in
    let e = g.B.Blocks.state y.0 in
    let first = g.met.B.Blocks.keeps_all c.args.on.now y.0 y.2 in
    let second = g.met.B.Blocks.keeps_all y.0 c.ready_record.new.on y.3 in
    let third = g.met.B.Blocks.keeps_all c.ready_record.new.on c.read.new.on c.read.ensures.keeps in
    let file_f = file_over s e f dir file (IsLeafOf dir e) first second y.1 y.4 c.requires.file in
    let file_m = file_looks f m file third c.read.ensures.looks file_f in
    let entries_m = entries_looks f m file.at third c.read.ensures.looks (c.ready_record.ensures.entries file.at c.requires.entries) in
    let own_m = leaf_looks f m dir c.in-Ok.leaf third c.read.ensures.looks c.in-Ok.ensures.ready.own in
    let h = g.B.Blocks.state c.write_data.new.on in
    let fourth = g.met.B.Blocks.keeps_all c.read.new.on c.write_data.new.on c.write_data.ensures.keeps in
    let own_h = leaf_written m h dir file c.in-Ok.leaf fourth entries_m c.write_data.ensures.alters own_m in
    let bytes = leaf_bytes m h dir file c.in-Ok.leaf entries_m c.write_data.ensures.alters own_m ∙ (c.read.ensures.looks.known c.in-Ok.leaf c.in-Ok.ensures.ready.own.is_pinned).bytes in
    let fits = must_fit c.change_record.result c.as_slice-name.result.now c.args.named.now ((h.now c.in-Ok.leaf).bytes) ((f.now c.in-Ok.leaf).bytes) bytes (λ no. (c.change_record.ensures.full no).0) c.in-Ok.ensures.ready.place.fits in
    let a = y.1.usable in let b = y.4.left.0 in let d = y.4.left.2 in let i = c.read.ensures.looks.usable.0 in let j = c.read.ensures.looks.room.0 in let w = c.write_data.ensures.alters.usable in let last = (c.change_record.ensures.calm fits).left in let p = last.0 in let q = last.2 in omega (arith, a, b, d, i, j, w, p, q)

pub returns-in-Err-clause-usable : goal.returns-in-Err-clause-usable
returns-in-Err-clause-usable g c =
    let y = c.ready_record.ensures.stays in let a = y.1.usable in let b = y.4.left.0 in let d = y.4.left.2 in omega (arith, a, b, d)

pub returns-in-Err-read-clause-usable : goal.returns-in-Err-read-clause-usable
returns-in-Err-read-clause-usable g c =
    let y = c.ready_record.ensures.stays in let a = y.1.usable in let b = y.4.left.0 in let d = y.4.left.2 in let i = c.read.ensures.looks.usable.0 in let j = c.read.ensures.looks.room.0 in omega (arith, a, b, d, i, j)

pub returns-in-Err-write_data-clause-usable : goal.returns-in-Err-write_data-clause-usable
returns-in-Err-write_data-clause-usable g c =
    let y = c.ready_record.ensures.stays in let a = y.1.usable in let b = y.4.left.0 in let d = y.4.left.2 in let i = c.read.ensures.looks.usable.0 in let j = c.read.ensures.looks.room.0 in let w = c.write_data.ensures.alters.usable in omega (arith, a, b, d, i, j, w)

pub returns-in-Err-read-clause-spare : goal.returns-in-Err-read-clause-spare
returns-in-Err-read-clause-spare g c =
    let a = c.ready_record.ensures.spare in let b = c.read.ensures.looks.room.0 in omega (arith, a, b)

pub returns-in-Err-write_data-clause-spare : goal.returns-in-Err-write_data-clause-spare
returns-in-Err-write_data-clause-spare g c =
    let a = c.ready_record.ensures.spare in let b = c.read.ensures.looks.room.0 in let w = c.write_data.ensures.spare in omega (arith, a, b, w)

pub returns-in-Err-read-clause-cause : goal.returns-in-Err-read-clause-cause
returns-in-Err-read-clause-cause g c =
    later_failed (g.B.Blocks.state c.args.on.now) (g.B.Blocks.state c.ready_record.new.on) (g.B.Blocks.state c.read.new.on) (g.met.B.Blocks.keeps_all c.args.on.now c.ready_record.new.on c.ready_record.ensures.keeps) c.in-Err-read.why c.in-Err-read.ensures.cause

pub returns-in-Err-write_data-clause-cause : goal.returns-in-Err-write_data-clause-cause
returns-in-Err-write_data-clause-cause g c =
    failed_since (g.B.Blocks.state c.args.on.now) (g.B.Blocks.state c.read.new.on) (g.B.Blocks.state c.write_data.new.on) (g.met.B.Blocks.keeps_all c.args.on.now c.read.new.on (g.met.B.Blocks.keeps_joins c.args.on.now c.ready_record.new.on c.read.new.on c.ready_record.ensures.keeps c.read.ensures.keeps)) (g.met.B.Blocks.keeps_all c.read.new.on c.write_data.new.on c.write_data.ensures.keeps) c.in-Err-write_data.why c.in-Err-write_data.ensures.cause

pub returns-in-Err-read-clause-keeps : goal.returns-in-Err-read-clause-keeps
returns-in-Err-read-clause-keeps g c =
    g.met.B.Blocks.keeps_joins c.args.on.now c.ready_record.new.on c.read.new.on c.ready_record.ensures.keeps c.read.ensures.keeps

pub returns-in-Err-write_data-clause-keeps : goal.returns-in-Err-write_data-clause-keeps
returns-in-Err-write_data-clause-keeps g c =
    g.met.B.Blocks.keeps_joins c.args.on.now c.read.new.on c.write_data.new.on (g.met.B.Blocks.keeps_joins c.args.on.now c.ready_record.new.on c.read.new.on c.ready_record.ensures.keeps c.read.ensures.keeps) c.write_data.ensures.keeps

pub returns-clause-keeps : goal.returns-clause-keeps
returns-clause-keeps g c =
    g.met.B.Blocks.keeps_joins c.args.on.now c.write_data.new.on c.change_record.new.on (g.met.B.Blocks.keeps_joins c.args.on.now c.read.new.on c.write_data.new.on (g.met.B.Blocks.keeps_joins c.args.on.now c.ready_record.new.on c.read.new.on c.ready_record.ensures.keeps c.read.ensures.keeps) c.write_data.ensures.keeps) c.change_record.ensures.keeps

pub returns-in-Err-clause-dirties : goal.returns-in-Err-clause-dirties
returns-in-Err-clause-dirties g c = adds_more (omega arith) (adds_wider (cons_of first_of none_of) c.in-Err.ensures.dirties_refused)

pub returns-in-Err-read-clause-dirties : goal.returns-in-Err-read-clause-dirties
returns-in-Err-read-clause-dirties g c = adds_more (omega arith) (adds_given first_of (adds_still (adds_wider (cons_of first_of none_of) c.in-Ok.ensures.dirties) (dirties_looks (g.met.B.Blocks.keeps_all c.ready_record.new.on c.read.new.on c.read.ensures.keeps) c.read.ensures.looks)))

pub returns-in-Err-write_data-clause-dirties : goal.returns-in-Err-write_data-clause-dirties
returns-in-Err-write_data-clause-dirties g c = adds_more (omega arith) (adds_given first_of (adds_first (adds_still (adds_wider (cons_of first_of none_of) c.in-Ok.ensures.dirties) (dirties_looks (g.met.B.Blocks.keeps_all c.ready_record.new.on c.read.new.on c.read.ensures.keeps) c.read.ensures.looks)) c.write_data.ensures.dirties (cons_of (next_of (next_of first_of)) none_of)))

pub returns-clause-dirties : goal.returns-clause-dirties
returns-clause-dirties g c = adds_more (omega arith) (adds_given first_of (adds_then (adds_first (adds_still (adds_wider (cons_of first_of none_of) c.in-Ok.ensures.dirties) (dirties_looks (g.met.B.Blocks.keeps_all c.ready_record.new.on c.read.new.on c.read.ensures.keeps) c.read.ensures.looks)) c.write_data.ensures.dirties (cons_of (next_of (next_of first_of)) none_of)) c.change_record.ensures.dirties (cons_of first_of none_of)))
