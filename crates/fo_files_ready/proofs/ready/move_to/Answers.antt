use Rattle.std.proofs.Common.{◌+◌, ◌*◌, sym, subst, arith}
use Rattle.fo_meta.specs.Leaf.{IsLeaf}
use Rattle.fo_files_move.specs.of_files_record.Stays.{no_slot}
use Rattle.fo_files_move.proofs.of_files_record.Rewriting.{rewrites_same}
use Rattle.fo_files_change.proofs.Records.{dir_readied, records_ready, records_rank, later_failed}
use Rattle.fo_files_ready.specs.Ready.{IsLeafOf}
use Rattle.fo_files_ready.proofs.Places.{came}
use Rattle.fo_files_ready.proofs.Steps.{Before, both_alter, from_at, to_at, from_same, to_same, entries_before, leaf_rewritten, rewrites_none, rewrites_leaves, moved_as}
use Rattle.fo_files_ready.proofs.ready.move_to.Goals as goal
use Rattle.fo_dirties.proofs.Adding.{first_of, next_of, cons_of, none_of, adds_wider, adds_given, adds_still, adds_then}
use Rattle.fo_dirties.proofs.Putting.{dirties_looks}

pub with_room-requires-clause-silent : goal.with_room-requires-clause-silent
with_room-requires-clause-silent g c =
    λ h. c.requires.silent ((g.met.B.Blocks.keeps_all c.args.on.now c.spare_leaf.new.on c.spare_leaf.ensures.keeps).still_tells.0 h)

pub with_room-requires-clause-dir : goal.with_room-requires-clause-dir
with_room-requires-clause-dir g c =
    dir_readied c.args.dir (g.met.B.Blocks.keeps_all c.args.on.now c.spare_leaf.new.on c.spare_leaf.ensures.keeps) c.spare_leaf.ensures.alters c.requires.dir

pub move_here-requires-clause-silent : goal.move_here-requires-clause-silent
move_here-requires-clause-silent g c =
    λ h. c.requires.silent ((g.met.B.Blocks.keeps_all c.args.on.now c.with_room.new.on (g.met.B.Blocks.keeps_joins c.args.on.now c.spare_leaf.new.on c.with_room.new.on c.spare_leaf.ensures.keeps c.with_room.ensures.keeps)).still_tells.0 h)

pub move_here-requires-clause-from : goal.move_here-requires-clause-from
move_here-requires-clause-from g c =
    let s = g.B.Blocks.state c.args.on.now in
    let m = g.B.Blocks.state c.spare_leaf.new.on in
    let e = g.B.Blocks.state c.with_room.new.on in
    let b : Before s m e c.args.dir c.args.from c.in-Ok.to = record {
      first = g.met.B.Blocks.keeps_all c.args.on.now c.spare_leaf.new.on c.spare_leaf.ensures.keeps;
      second = g.met.B.Blocks.keeps_all c.spare_leaf.new.on c.with_room.new.on c.with_room.ensures.keeps;
      whole = g.met.B.Blocks.keeps_all c.args.on.now c.with_room.new.on (g.met.B.Blocks.keeps_joins c.args.on.now c.spare_leaf.new.on c.with_room.new.on c.spare_leaf.ensures.keeps c.with_room.ensures.keeps);
      is = c.requires.dir;
      alters = c.spare_leaf.ensures.alters;
      looks = c.with_room.ensures.looks;
      from_own = c.requires.from;
      to_own = c.in-Ok.ensures.own;
    } in
    records_ready (33 + 2 * c.args.dir.number) c.args.from (λ h. c.requires.silent (b.whole.still_tells.0 h)) (λ h. g.met.B.Blocks.covers_told c.with_room.new.on c.args.from h) (from_at b)

pub move_here-requires-clause-rank : goal.move_here-requires-clause-rank
move_here-requires-clause-rank g c =
    records_rank c.args.dir.rank c.requires.dir.ranked c.requires.dir.least

pub move_here-requires-clause-entries : goal.move_here-requires-clause-entries
move_here-requires-clause-entries g c =
    let s = g.B.Blocks.state c.args.on.now in
    let m = g.B.Blocks.state c.spare_leaf.new.on in
    let e = g.B.Blocks.state c.with_room.new.on in
    let b : Before s m e c.args.dir c.args.from c.in-Ok.to = record {
      first = g.met.B.Blocks.keeps_all c.args.on.now c.spare_leaf.new.on c.spare_leaf.ensures.keeps;
      second = g.met.B.Blocks.keeps_all c.spare_leaf.new.on c.with_room.new.on c.with_room.ensures.keeps;
      whole = g.met.B.Blocks.keeps_all c.args.on.now c.with_room.new.on (g.met.B.Blocks.keeps_joins c.args.on.now c.spare_leaf.new.on c.with_room.new.on c.spare_leaf.ensures.keeps c.with_room.ensures.keeps);
      is = c.requires.dir;
      alters = c.spare_leaf.ensures.alters;
      looks = c.with_room.ensures.looks;
      from_own = c.requires.from;
      to_own = c.in-Ok.ensures.own;
    } in
    entries_before c.args.entries b c.requires.entries

pub move_here-requires-clause-room : goal.move_here-requires-clause-room
move_here-requires-clause-room g c =
    let took = c.spare_leaf.ensures.room in let same = c.with_room.ensures.looks.room.1 in let enough = c.requires.room in omega (arith, took, same, enough)

pub returns-in-Err-clause-stays : goal.returns-in-Err-clause-stays
returns-in-Err-clause-stays g c =
    (c.spare_leaf.new.on, c.spare_leaf.ensures.alters, c.spare_leaf.ensures.keeps, g.met.B.Blocks.keeps_at_once c.spare_leaf.new.on, rewrites_same (g.B.Blocks.state c.spare_leaf.new.on) (IsLeafOf c.args.dir (g.B.Blocks.state c.spare_leaf.new.on)) no_slot)

pub returns-in-Err-clause-nothing : goal.returns-in-Err-clause-nothing
returns-in-Err-clause-nothing g c =
    (c.spare_leaf.new.on, c.spare_leaf.ensures.alters, rewrites_same (g.B.Blocks.state c.spare_leaf.new.on) (λ b. ⊥) no_slot)

pub returns-in-Err-with_room-clause-stays : goal.returns-in-Err-with_room-clause-stays
returns-in-Err-with_room-clause-stays g c =
    let s = g.B.Blocks.state c.args.on.now in
    let m = g.B.Blocks.state c.spare_leaf.new.on in
    let e = g.B.Blocks.state c.with_room.new.on in
    let b : Before s m e c.args.dir c.args.from c.in-Ok.to = record {
      first = g.met.B.Blocks.keeps_all c.args.on.now c.spare_leaf.new.on c.spare_leaf.ensures.keeps;
      second = g.met.B.Blocks.keeps_all c.spare_leaf.new.on c.with_room.new.on c.with_room.ensures.keeps;
      whole = g.met.B.Blocks.keeps_all c.args.on.now c.with_room.new.on (g.met.B.Blocks.keeps_joins c.args.on.now c.spare_leaf.new.on c.with_room.new.on c.spare_leaf.ensures.keeps c.with_room.ensures.keeps);
      is = c.requires.dir;
      alters = c.spare_leaf.ensures.alters;
      looks = c.with_room.ensures.looks;
      from_own = c.requires.from;
      to_own = c.in-Ok.ensures.own;
    } in
    (c.with_room.new.on, both_alter b, (g.met.B.Blocks.keeps_joins c.args.on.now c.spare_leaf.new.on c.with_room.new.on c.spare_leaf.ensures.keeps c.with_room.ensures.keeps), g.met.B.Blocks.keeps_at_once c.with_room.new.on, rewrites_same e (IsLeafOf c.args.dir e) no_slot)

pub returns-in-Err-with_room-clause-nothing : goal.returns-in-Err-with_room-clause-nothing
returns-in-Err-with_room-clause-nothing g c =
    let s = g.B.Blocks.state c.args.on.now in
    let m = g.B.Blocks.state c.spare_leaf.new.on in
    let e = g.B.Blocks.state c.with_room.new.on in
    let b : Before s m e c.args.dir c.args.from c.in-Ok.to = record {
      first = g.met.B.Blocks.keeps_all c.args.on.now c.spare_leaf.new.on c.spare_leaf.ensures.keeps;
      second = g.met.B.Blocks.keeps_all c.spare_leaf.new.on c.with_room.new.on c.with_room.ensures.keeps;
      whole = g.met.B.Blocks.keeps_all c.args.on.now c.with_room.new.on (g.met.B.Blocks.keeps_joins c.args.on.now c.spare_leaf.new.on c.with_room.new.on c.spare_leaf.ensures.keeps c.with_room.ensures.keeps);
      is = c.requires.dir;
      alters = c.spare_leaf.ensures.alters;
      looks = c.with_room.ensures.looks;
      from_own = c.requires.from;
      to_own = c.in-Ok.ensures.own;
    } in
    (c.with_room.new.on, both_alter b, rewrites_same e (λ b. ⊥) no_slot)

pub returns-in-Err-with_room-clause-cause : goal.returns-in-Err-with_room-clause-cause
returns-in-Err-with_room-clause-cause g c =
    later_failed (g.B.Blocks.state c.args.on.now) (g.B.Blocks.state c.spare_leaf.new.on) (g.B.Blocks.state c.with_room.new.on) (g.met.B.Blocks.keeps_all c.args.on.now c.spare_leaf.new.on c.spare_leaf.ensures.keeps) c.in-Err-with_room.why c.in-Err-with_room.ensures.cause

pub returns-in-Err-with_room-clause-keeps : goal.returns-in-Err-with_room-clause-keeps
returns-in-Err-with_room-clause-keeps g c =
    g.met.B.Blocks.keeps_joins c.args.on.now c.spare_leaf.new.on c.with_room.new.on c.spare_leaf.ensures.keeps c.with_room.ensures.keeps

pub returns-in-Ok-move_here-clause-stays : goal.returns-in-Ok-move_here-clause-stays
returns-in-Ok-move_here-clause-stays g c =
    let s = g.B.Blocks.state c.args.on.now in
    let m = g.B.Blocks.state c.spare_leaf.new.on in
    let e = g.B.Blocks.state c.with_room.new.on in
    let b : Before s m e c.args.dir c.args.from c.in-Ok.to = record {
      first = g.met.B.Blocks.keeps_all c.args.on.now c.spare_leaf.new.on c.spare_leaf.ensures.keeps;
      second = g.met.B.Blocks.keeps_all c.spare_leaf.new.on c.with_room.new.on c.with_room.ensures.keeps;
      whole = g.met.B.Blocks.keeps_all c.args.on.now c.with_room.new.on (g.met.B.Blocks.keeps_joins c.args.on.now c.spare_leaf.new.on c.with_room.new.on c.spare_leaf.ensures.keeps c.with_room.ensures.keeps);
      is = c.requires.dir;
      alters = c.spare_leaf.ensures.alters;
      looks = c.with_room.ensures.looks;
      from_own = c.requires.from;
      to_own = c.in-Ok.ensures.own;
    } in
    (c.with_room.new.on, both_alter b, (g.met.B.Blocks.keeps_joins c.args.on.now c.spare_leaf.new.on c.with_room.new.on c.spare_leaf.ensures.keeps c.with_room.ensures.keeps), c.move_here.ensures.keeps, rewrites_leaves c.args.dir c.args.from c.in-Ok.to (from_at b) (to_at b) c.move_here.ensures.rewrites)

pub returns-in-Ok-move_here-clause-keeps : goal.returns-in-Ok-move_here-clause-keeps
returns-in-Ok-move_here-clause-keeps g c =
    g.met.B.Blocks.keeps_joins c.args.on.now c.with_room.new.on c.move_here.new.on (g.met.B.Blocks.keeps_joins c.args.on.now c.spare_leaf.new.on c.with_room.new.on c.spare_leaf.ensures.keeps c.with_room.ensures.keeps) c.move_here.ensures.keeps

pub returns-in-Ok-move_here-clause-spare : goal.returns-in-Ok-move_here-clause-spare
returns-in-Ok-move_here-clause-spare g c =
    let took = c.spare_leaf.ensures.spare in let same = c.with_room.ensures.looks.room.0 in let last = c.move_here.ensures.rewrites.left.0 in omega (arith, took, same, last)

pub returns-in-Ok-move_here-clause-pins : goal.returns-in-Ok-move_here-clause-pins
returns-in-Ok-move_here-clause-pins g c =
    let took = c.spare_leaf.ensures.pins in let same = c.with_room.ensures.pins in let last = c.move_here.ensures.rewrites.left.1 in omega (arith, took, same, last)

pub returns-in-Ok-move_here-clause-room : goal.returns-in-Ok-move_here-clause-room
returns-in-Ok-move_here-clause-room g c =
    let took = c.spare_leaf.ensures.room in let same = c.with_room.ensures.looks.room.1 in let last = c.move_here.ensures.room in omega (arith, took, same, last)

pub returns-in-Err-move_here-clause-stays : goal.returns-in-Err-move_here-clause-stays
returns-in-Err-move_here-clause-stays g c =
    let s = g.B.Blocks.state c.args.on.now in
    let m = g.B.Blocks.state c.spare_leaf.new.on in
    let e = g.B.Blocks.state c.with_room.new.on in
    let b : Before s m e c.args.dir c.args.from c.in-Ok.to = record {
      first = g.met.B.Blocks.keeps_all c.args.on.now c.spare_leaf.new.on c.spare_leaf.ensures.keeps;
      second = g.met.B.Blocks.keeps_all c.spare_leaf.new.on c.with_room.new.on c.with_room.ensures.keeps;
      whole = g.met.B.Blocks.keeps_all c.args.on.now c.with_room.new.on (g.met.B.Blocks.keeps_joins c.args.on.now c.spare_leaf.new.on c.with_room.new.on c.spare_leaf.ensures.keeps c.with_room.ensures.keeps);
      is = c.requires.dir;
      alters = c.spare_leaf.ensures.alters;
      looks = c.with_room.ensures.looks;
      from_own = c.requires.from;
      to_own = c.in-Ok.ensures.own;
    } in
    (c.with_room.new.on, both_alter b, (g.met.B.Blocks.keeps_joins c.args.on.now c.spare_leaf.new.on c.with_room.new.on c.spare_leaf.ensures.keeps c.with_room.ensures.keeps), c.move_here.ensures.keeps, rewrites_leaves c.args.dir c.args.from c.in-Ok.to (from_at b) (to_at b) c.move_here.ensures.rewrites)

pub returns-in-Err-move_here-clause-keeps : goal.returns-in-Err-move_here-clause-keeps
returns-in-Err-move_here-clause-keeps g c =
    g.met.B.Blocks.keeps_joins c.args.on.now c.with_room.new.on c.move_here.new.on (g.met.B.Blocks.keeps_joins c.args.on.now c.spare_leaf.new.on c.with_room.new.on c.spare_leaf.ensures.keeps c.with_room.ensures.keeps) c.move_here.ensures.keeps

pub returns-in-Err-move_here-clause-spare : goal.returns-in-Err-move_here-clause-spare
returns-in-Err-move_here-clause-spare g c =
    let took = c.spare_leaf.ensures.spare in let same = c.with_room.ensures.looks.room.0 in let last = c.move_here.ensures.rewrites.left.0 in omega (arith, took, same, last)

pub returns-in-Err-move_here-clause-pins : goal.returns-in-Err-move_here-clause-pins
returns-in-Err-move_here-clause-pins g c =
    let took = c.spare_leaf.ensures.pins in let same = c.with_room.ensures.pins in let last = c.move_here.ensures.rewrites.left.1 in omega (arith, took, same, last)

pub returns-in-Err-move_here-clause-room : goal.returns-in-Err-move_here-clause-room
returns-in-Err-move_here-clause-room g c =
    let took = c.spare_leaf.ensures.room in let same = c.with_room.ensures.looks.room.1 in let last = c.move_here.ensures.room in omega (arith, took, same, last)

pub returns-in-Ok-move_here-clause-ready : goal.returns-in-Ok-move_here-clause-ready
returns-in-Ok-move_here-clause-ready g c =
    let s = g.B.Blocks.state c.args.on.now in
    let m = g.B.Blocks.state c.spare_leaf.new.on in
    let e = g.B.Blocks.state c.with_room.new.on in
    let b : Before s m e c.args.dir c.args.from c.in-Ok.to = record {
      first = g.met.B.Blocks.keeps_all c.args.on.now c.spare_leaf.new.on c.spare_leaf.ensures.keeps;
      second = g.met.B.Blocks.keeps_all c.spare_leaf.new.on c.with_room.new.on c.with_room.ensures.keeps;
      whole = g.met.B.Blocks.keeps_all c.args.on.now c.with_room.new.on (g.met.B.Blocks.keeps_joins c.args.on.now c.spare_leaf.new.on c.with_room.new.on c.spare_leaf.ensures.keeps c.with_room.ensures.keeps);
      is = c.requires.dir;
      alters = c.spare_leaf.ensures.alters;
      looks = c.with_room.ensures.looks;
      from_own = c.requires.from;
      to_own = c.in-Ok.ensures.own;
    } in
    let moved = c.in-Ok-move_here.ensures.moved in
    let all = g.met.B.Blocks.keeps_all c.with_room.new.on c.move_here.new.on c.move_here.ensures.keeps in
    let leaf : IsLeaf ((e.now c.args.from).bytes) = subst (λ xs. IsLeaf xs) (sym (from_same b)) c.requires.bytes in
    record {
      own = leaf_rewritten c.args.dir c.in-Ok.to all c.move_here.ensures.rewrites c.move_here.ensures.to.owned.whole (to_at b);
      records = c.move_here.ensures.to;
      place = came c.args.name.now c.args.named.now moved.moved ((e.now c.args.from).bytes) ((e.now c.in-Ok.to).bytes) _ c.in-Ok-with_room.ensures.room leaf moved.first moved.added;
    }

pub returns-in-Ok-move_here-clause-steps : goal.returns-in-Ok-move_here-clause-steps
returns-in-Ok-move_here-clause-steps g c =
    let s = g.B.Blocks.state c.args.on.now in
    let m = g.B.Blocks.state c.spare_leaf.new.on in
    let e = g.B.Blocks.state c.with_room.new.on in
    let b : Before s m e c.args.dir c.args.from c.in-Ok.to = record {
      first = g.met.B.Blocks.keeps_all c.args.on.now c.spare_leaf.new.on c.spare_leaf.ensures.keeps;
      second = g.met.B.Blocks.keeps_all c.spare_leaf.new.on c.with_room.new.on c.with_room.ensures.keeps;
      whole = g.met.B.Blocks.keeps_all c.args.on.now c.with_room.new.on (g.met.B.Blocks.keeps_joins c.args.on.now c.spare_leaf.new.on c.with_room.new.on c.spare_leaf.ensures.keeps c.with_room.ensures.keeps);
      is = c.requires.dir;
      alters = c.spare_leaf.ensures.alters;
      looks = c.with_room.ensures.looks;
      from_own = c.requires.from;
      to_own = c.in-Ok.ensures.own;
    } in
    let r = c.in-Ok.ensures.readied in
    record {
      trimmed = r.0;
      trims = r.2;
      looked = r.1;
      readied = c.spare_leaf.new.on;
      ready = r.3;
      read = c.with_room.new.on;
      looks = c.with_room.ensures.looks;
      moved = moved_as (from_same b) (to_same b) c.in-Ok-move_here.ensures.moved;
      stays = c.move_here.ensures.rewrites;
    }

pub returns-in-Err-move_here-clause-nothing : goal.returns-in-Err-move_here-clause-nothing
returns-in-Err-move_here-clause-nothing g c =
    let s = g.B.Blocks.state c.args.on.now in
    let m = g.B.Blocks.state c.spare_leaf.new.on in
    let e = g.B.Blocks.state c.with_room.new.on in
    let b : Before s m e c.args.dir c.args.from c.in-Ok.to = record {
      first = g.met.B.Blocks.keeps_all c.args.on.now c.spare_leaf.new.on c.spare_leaf.ensures.keeps;
      second = g.met.B.Blocks.keeps_all c.spare_leaf.new.on c.with_room.new.on c.with_room.ensures.keeps;
      whole = g.met.B.Blocks.keeps_all c.args.on.now c.with_room.new.on (g.met.B.Blocks.keeps_joins c.args.on.now c.spare_leaf.new.on c.with_room.new.on c.spare_leaf.ensures.keeps c.with_room.ensures.keeps);
      is = c.requires.dir;
      alters = c.spare_leaf.ensures.alters;
      looks = c.with_room.ensures.looks;
      from_own = c.requires.from;
      to_own = c.in-Ok.ensures.own;
    } in
    (c.with_room.new.on, both_alter b, rewrites_none c.args.from c.in-Ok.to c.in-Err-move_here.ensures.stays.from_is c.in-Err-move_here.ensures.stays.to_is c.move_here.ensures.rewrites)

pub returns-in-Err-move_here-clause-cause : goal.returns-in-Err-move_here-clause-cause
returns-in-Err-move_here-clause-cause g c =
    let s = g.B.Blocks.state c.args.on.now in
    let m = g.B.Blocks.state c.spare_leaf.new.on in
    let e = g.B.Blocks.state c.with_room.new.on in
    later_failed s e (g.B.Blocks.state c.move_here.new.on) (g.met.B.Blocks.keeps_all c.args.on.now c.with_room.new.on (g.met.B.Blocks.keeps_joins c.args.on.now c.spare_leaf.new.on c.with_room.new.on c.spare_leaf.ensures.keeps c.with_room.ensures.keeps)) c.in-Err-move_here.why c.in-Err-move_here.ensures.cause

pub returns-in-Err-clause-dirties_refused : goal.returns-in-Err-clause-dirties_refused
returns-in-Err-clause-dirties_refused g c = adds_wider (cons_of first_of none_of) c.in-Err.ensures.dirties_refused

pub returns-in-Err-with_room-clause-dirties_refused : goal.returns-in-Err-with_room-clause-dirties_refused
returns-in-Err-with_room-clause-dirties_refused g c = adds_given first_of (adds_still (adds_wider (cons_of first_of none_of) c.in-Ok.ensures.dirties) (dirties_looks (g.met.B.Blocks.keeps_all c.spare_leaf.new.on c.with_room.new.on c.with_room.ensures.keeps) c.with_room.ensures.looks))

pub returns-in-Err-move_here-clause-dirties_refused : goal.returns-in-Err-move_here-clause-dirties_refused
returns-in-Err-move_here-clause-dirties_refused g c = adds_given first_of (adds_then (adds_still (adds_wider (cons_of first_of none_of) c.in-Ok.ensures.dirties) (dirties_looks (g.met.B.Blocks.keeps_all c.spare_leaf.new.on c.with_room.new.on c.with_room.ensures.keeps) c.with_room.ensures.looks)) c.move_here.ensures.dirties (cons_of (next_of (next_of first_of)) (cons_of first_of none_of)))

pub returns-in-Ok-move_here-clause-dirties : goal.returns-in-Ok-move_here-clause-dirties
returns-in-Ok-move_here-clause-dirties g c = adds_then (adds_still (adds_wider (cons_of first_of none_of) c.in-Ok.ensures.dirties) (dirties_looks (g.met.B.Blocks.keeps_all c.spare_leaf.new.on c.with_room.new.on c.with_room.ensures.keeps) c.with_room.ensures.looks)) c.move_here.ensures.dirties (cons_of (next_of (next_of first_of)) (cons_of first_of none_of))
