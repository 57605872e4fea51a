use Rattle.std.proofs.Common.{inl, inr, arith}
use Rattle.fo_files_own.proofs.of_files_ready.Steps.{failed_since}
use Rattle.fo_files_own.proofs.Carry.{few_blocks, few_pins, few_removals, own_usable}
use Rattle.fo_files_rename.proofs.Carried.{beside_still, block_still, may_still, own_away, ready_still, same_ready}
use Rattle.fo_files_rename.proofs.file.rename_file.Goals as goal
use Rattle.fo_dirties.proofs.Adding.{first_of, next_of, cons_of, none_of, adds_more, adds_given, adds_wider, adds_joins, adds_first, adds_then}
use Rattle.fo_dirties.proofs.Putting.{dirties_calm}

pub ready_own-requires-clause-pins : goal.ready_own-requires-clause-pins
ready_own-requires-clause-pins g c = let most = few_pins c.args.own in let enough = c.requires.pins in omega (arith, most, enough)

pub ready_own-requires-clause-spare : goal.ready_own-requires-clause-spare
ready_own-requires-clause-spare g c = let most = few_blocks c.args.own in let enough = c.requires.spare in omega (arith, most, enough)

pub ready_own-requires-clause-room : goal.ready_own-requires-clause-room
ready_own-requires-clause-room g c = let most = few_removals c.args.own in let enough = c.requires.room in omega (arith, most, enough)

pub change_into-requires-clause-silent : goal.change_into-requires-clause-silent
change_into-requires-clause-silent g c = λ h. c.requires.silent ((g.met.B.Blocks.keeps_all c.args.on.now c.ready_own.new.on c.ready_own.ensures.keeps).still_tells.0 h)

pub change_into-requires-clause-dir : goal.change_into-requires-clause-dir
change_into-requires-clause-dir g c = c.ready_own.ensures.dirs c.args.at.dir c.requires.dir

pub change_into-requires-clause-file : goal.change_into-requires-clause-file
change_into-requires-clause-file g c = c.ready_own.ensures.files c.args.at.file c.requires.file

pub change_into-requires-clause-entries : goal.change_into-requires-clause-entries
change_into-requires-clause-entries g c = c.ready_own.ensures.entries c.args.at.file.at c.requires.entries

pub change_into-requires-clause-pins : goal.change_into-requires-clause-pins
change_into-requires-clause-pins g c = let most = few_pins c.args.own in let took = c.ready_own.ensures.pins in let enough = c.requires.pins in omega (arith, most, took, enough)

pub change_into-requires-clause-spare : goal.change_into-requires-clause-spare
change_into-requires-clause-spare g c = let most = few_blocks c.args.own in let took = c.ready_own.ensures.spare in let enough = c.requires.spare in omega (arith, most, took, enough)

pub change_into-requires-clause-room : goal.change_into-requires-clause-room
change_into-requires-clause-room g c = let most = few_removals c.args.own in let took = c.ready_own.ensures.room in let enough = c.requires.room in omega (arith, most, took, enough)

pub put_own-requires-clause-silent : goal.put_own-requires-clause-silent
put_own-requires-clause-silent g c =
    let on = g.met.B.Blocks.keeps_joins c.args.on.now c.ready_own.new.on c.change_into.new.on c.ready_own.ensures.keeps c.change_into.ensures.keeps in
    λ h. c.requires.silent ((g.met.B.Blocks.keeps_all c.args.on.now c.change_into.new.on on).still_tells.0 h)

pub put_own-requires-clause-may : goal.put_own-requires-clause-may
put_own-requires-clause-may g c =
    let e = g.B.Blocks.state c.ready_own.new.on in
    let f = g.B.Blocks.state c.change_into.new.on in
    let is = c.in-Ok.ensures.ready in
    let r = c.in-Ok.ready in
    let beside = beside_still _ g.B.Blocks.state g.B.Blocks.keeps c.args.on.now c.ready_own.new.on c.args.own c.args.at.file.number c.ready_own.ensures.stays c.requires.beside in
    let away = own_away e c.args.at.dir c.args.at.file c.args.own r c.ready_own.ensures.at c.requires.own.1 beside (c.ready_own.ensures.entries c.args.at.file.at c.requires.entries) is.1 is.0 in
    let same = same_ready _ g.B.Blocks.state c.ready_own.new.on c.change_into.new.on c.args.at.dir c.args.at.file c.args.i c.args.spare c.args.name.now c.args.named.now c.args.given r c.in-Ok-change_into.ensures.edits is.0 away in
    may_still e f r (g.met.B.Blocks.keeps_all c.ready_own.new.on c.change_into.new.on c.change_into.ensures.keeps) same is.0

pub returns-in-Err-clause-left : goal.returns-in-Err-clause-left
returns-in-Err-clause-left g c = inr (inl c.in-Err.ensures.left)

pub returns-in-Err-clause-spare : goal.returns-in-Err-clause-spare
returns-in-Err-clause-spare g c = let most = few_blocks c.args.own in let took = c.ready_own.ensures.spare in omega (arith, most, took)

pub returns-in-Err-clause-usable : goal.returns-in-Err-clause-usable
returns-in-Err-clause-usable g c = own_usable _ g.B.Blocks.state g.B.Blocks.keeps c.args.on.now c.ready_own.new.on c.args.own c.ready_own.ensures.stays

pub returns-in-Ok-change_into-clause-renames : goal.returns-in-Ok-change_into-clause-renames
returns-in-Ok-change_into-clause-renames g c =
    let e = g.B.Blocks.state c.ready_own.new.on in
    let f = g.B.Blocks.state c.change_into.new.on in
    let is = c.in-Ok.ensures.ready in
    let r = c.in-Ok.ready in
    let beside = beside_still _ g.B.Blocks.state g.B.Blocks.keeps c.args.on.now c.ready_own.new.on c.args.own c.args.at.file.number c.ready_own.ensures.stays c.requires.beside in
    let away = own_away e c.args.at.dir c.args.at.file c.args.own r c.ready_own.ensures.at c.requires.own.1 beside (c.ready_own.ensures.entries c.args.at.file.at c.requires.entries) is.1 is.0 in
    let same = same_ready _ g.B.Blocks.state c.ready_own.new.on c.change_into.new.on c.args.at.dir c.args.at.file c.args.i c.args.spare c.args.name.now c.args.named.now c.args.given r c.in-Ok-change_into.ensures.edits is.0 away in
    let all = g.met.B.Blocks.keeps_all c.ready_own.new.on c.change_into.new.on c.change_into.ensures.keeps in
    record {
      ready = c.ready_own.new.on;
      block = r.at;
      readied = c.in-Ok.ensures.steps;
      edited = c.change_into.new.on;
      edits = c.in-Ok-change_into.ensures.edits;
      changed = c.put_own.ensures.own c.args.own c.args.touched.now (block_still e f c.args.own r all same is.1) (ready_still e f c.args.own c.args.touched.now r same is.1 is.2);
      calm = c.put_own.ensures.calm;
    }

pub returns-in-Ok-change_into-clause-spare : goal.returns-in-Ok-change_into-clause-spare
returns-in-Ok-change_into-clause-spare g c =
    let most = few_blocks c.args.own in let took = c.ready_own.ensures.spare in let more = c.change_into.ensures.spare in let same = c.put_own.ensures.calm.frame.uses.spare in
    omega (arith, most, took, more, same)

pub returns-in-Ok-change_into-clause-usable : goal.returns-in-Ok-change_into-clause-usable
returns-in-Ok-change_into-clause-usable g c =
    let left = own_usable _ g.B.Blocks.state g.B.Blocks.keeps c.args.on.now c.ready_own.new.on c.args.own c.ready_own.ensures.stays in
    let more = c.change_into.ensures.usable in let same = c.put_own.ensures.calm.frame.uses.spare in let still = c.put_own.ensures.calm.frame.uses.usable in
    omega (arith, left, more, same, still)

pub returns-in-Ok-change_into-clause-keeps : goal.returns-in-Ok-change_into-clause-keeps
returns-in-Ok-change_into-clause-keeps g c =
    let on = g.met.B.Blocks.keeps_joins c.args.on.now c.ready_own.new.on c.change_into.new.on c.ready_own.ensures.keeps c.change_into.ensures.keeps in
    g.met.B.Blocks.keeps_joins c.args.on.now c.change_into.new.on c.put_own.new.on on c.put_own.ensures.keeps

pub returns-in-Err-change_into-clause-left : goal.returns-in-Err-change_into-clause-left
returns-in-Err-change_into-clause-left g c = inr (inr (c.ready_own.new.on, c.in-Ok.ready.at, c.in-Ok.ensures.steps, c.in-Err-change_into.ensures.left))

pub returns-in-Err-change_into-clause-spare : goal.returns-in-Err-change_into-clause-spare
returns-in-Err-change_into-clause-spare g c =
    let most = few_blocks c.args.own in let took = c.ready_own.ensures.spare in let more = c.change_into.ensures.spare in omega (arith, most, took, more)

pub returns-in-Err-change_into-clause-usable : goal.returns-in-Err-change_into-clause-usable
returns-in-Err-change_into-clause-usable g c =
    let left = own_usable _ g.B.Blocks.state g.B.Blocks.keeps c.args.on.now c.ready_own.new.on c.args.own c.ready_own.ensures.stays in
    let more = c.change_into.ensures.usable in omega (arith, left, more)

pub returns-in-Err-change_into-clause-cause : goal.returns-in-Err-change_into-clause-cause
returns-in-Err-change_into-clause-cause g c =
    failed_since (g.B.Blocks.state c.args.on.now) (g.B.Blocks.state c.ready_own.new.on) (g.B.Blocks.state c.change_into.new.on) (g.met.B.Blocks.keeps_all c.args.on.now c.ready_own.new.on c.ready_own.ensures.keeps) (g.met.B.Blocks.keeps_all c.ready_own.new.on c.change_into.new.on c.change_into.ensures.keeps) c.in-Err-change_into.why c.in-Err-change_into.ensures.cause

pub returns-in-Err-change_into-clause-keeps : goal.returns-in-Err-change_into-clause-keeps
returns-in-Err-change_into-clause-keeps g c = g.met.B.Blocks.keeps_joins c.args.on.now c.ready_own.new.on c.change_into.new.on c.ready_own.ensures.keeps c.change_into.ensures.keeps

pub returns-in-Err-clause-dirties : goal.returns-in-Err-clause-dirties
returns-in-Err-clause-dirties g c = adds_more (omega arith) (adds_given first_of (adds_wider (cons_of (next_of (next_of first_of)) none_of) c.in-Err.ensures.dirties_refused))

pub returns-in-Err-change_into-clause-dirties : goal.returns-in-Err-change_into-clause-dirties
returns-in-Err-change_into-clause-dirties g c = adds_more (omega arith) (adds_joins (adds_wider (cons_of (next_of (next_of first_of)) none_of) c.in-Ok.ensures.dirties) c.change_into.ensures.dirties (cons_of (next_of first_of) (cons_of (next_of (next_of first_of)) none_of)))

pub returns-in-Ok-change_into-clause-dirties : goal.returns-in-Ok-change_into-clause-dirties
returns-in-Ok-change_into-clause-dirties g c =
    let put = dirties_calm c.in-Ok.ready.at (g.met.B.Blocks.keeps_all c.change_into.new.on c.put_own.new.on c.put_own.ensures.keeps) c.put_own.ensures.calm in
    adds_more (omega arith) (adds_given first_of (adds_then (adds_first (adds_wider (cons_of (next_of (next_of first_of)) none_of) c.in-Ok.ensures.dirties) c.change_into.ensures.dirties (cons_of (next_of first_of) (cons_of (next_of (next_of first_of)) none_of))) put (cons_of first_of none_of)))
