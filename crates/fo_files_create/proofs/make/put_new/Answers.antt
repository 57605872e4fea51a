use Rattle.std.proofs.Common.{◌+◌, inl, inr, ap, ◌∙◌, arith}
use Rattle.fo_files_own.proofs.of_files_ready.Steps.{failed_since}
use Rattle.fo_files_own.proofs.Carry.{block_on, few_blocks, few_pins, few_removals, has_ready_on, may_put_on, of_root, own_usable}
use Rattle.fo_files_create.proofs.Steps.{label_comes, own_numbers, ready_comes}
use Rattle.fo_files_create.proofs.make.put_new.Goals as goal
use Rattle.fo_dirties.proofs.Adding.{first_of, next_of, cons_of, none_of, adds_more, adds_given, adds_wider, adds_joins, adds_first, adds_then, adds_still}
use Rattle.fo_dirties.proofs.Putting.{dirties_calm, dirties_stays}

pub ready_own-requires-clause-pins : goal.ready_own-requires-clause-pins
ready_own-requires-clause-pins g c = let few = few_pins c.args.own in let enough = c.requires.pins in omega (arith, few, enough)

pub ready_own-requires-clause-spare : goal.ready_own-requires-clause-spare
ready_own-requires-clause-spare g c = let few = few_blocks c.args.own in let enough = c.requires.spare in omega (arith, few, enough)

pub ready_own-requires-clause-room : goal.ready_own-requires-clause-room
ready_own-requires-clause-room g c = let few = few_removals c.args.own in let enough = c.requires.room in omega (arith, few, enough)

pub new_file-requires-clause-dir : goal.new_file-requires-clause-dir
new_file-requires-clause-dir g c = c.ready_own.ensures.dirs c.args.dir c.requires.dir

pub new_file-requires-clause-pins : goal.new_file-requires-clause-pins
new_file-requires-clause-pins g c = let few = few_pins c.args.own in let took = c.ready_own.ensures.pins in let enough = c.requires.pins in omega (arith, few, took, enough)

pub new_file-requires-clause-spare : goal.new_file-requires-clause-spare
new_file-requires-clause-spare g c = let few = few_blocks c.args.own in let took = c.ready_own.ensures.spare in let enough = c.requires.spare in omega (arith, few, took, enough)

pub new_file-requires-clause-room : goal.new_file-requires-clause-room
new_file-requires-clause-room g c = let few = few_removals c.args.own in let took = c.ready_own.ensures.room in let enough = c.requires.room in omega (arith, few, took, enough)

pub new_file-requires-clause-silent : goal.new_file-requires-clause-silent
new_file-requires-clause-silent g c = λ h. c.requires.silent ((g.met.B.Blocks.keeps_all c.args.on.now c.ready_own.new.on c.ready_own.ensures.keeps).still_tells.0 h)

pub number_taken-requires : goal.number_taken-requires
number_taken-requires g c =
    let x = own_numbers _ g.B.Blocks.state g.B.Blocks.keeps c.args.on.now c.ready_own.new.on c.args.own c.ready_own.ensures.stays in
    record { granted = c.in-Ok-new_file.ensures.alters.1.numbers.grants (x.grants c.requires.granted) }

pub put_own-requires-clause-silent : goal.put_own-requires-clause-silent
put_own-requires-clause-silent g c =
    let on = g.met.B.Blocks.keeps_joins c.args.on.now c.ready_own.new.on c.new_file.new.on c.ready_own.ensures.keeps c.new_file.ensures.keeps in
    let all = g.met.B.Blocks.keeps_joins c.args.on.now c.new_file.new.on c.number_taken.new.self on c.number_taken.ensures.keeps in
    λ h. c.requires.silent ((g.met.B.Blocks.keeps_all c.args.on.now c.number_taken.new.self all).still_tells.0 h)

pub put_own-requires-clause-may : goal.put_own-requires-clause-may
put_own-requires-clause-may g c =
    let e = g.B.Blocks.state c.ready_own.new.on in
    let f = g.B.Blocks.state c.new_file.new.on in
    let first = g.met.B.Blocks.keeps_all c.ready_own.new.on c.new_file.new.on c.new_file.ensures.keeps in
    let second = g.met.B.Blocks.keeps_all c.new_file.new.on c.number_taken.new.self c.number_taken.ensures.keeps in
    let r = c.in-Ok.ready in
    let made = c.in-Ok-new_file.ensures.alters in
    let comes = ready_comes e f c.args.dir c.args.own made.0 r first c.ready_own.ensures.at c.requires.own.1 c.in-Ok.ensures.ready.1 made.1 made.2 c.in-Ok.ensures.ready.0 in
    let taken = c.number_taken.ensures in
    may_put_on r second (taken.stays.0.labels r.at (λ n. n)) (taken.stays.0.marks r.at (λ n. n)).0 (taken.now.each r.at).bytes comes.0

pub returns-in-Err-clause-left : goal.returns-in-Err-clause-left
returns-in-Err-clause-left g c = inl c.in-Err.ensures.left

pub returns-in-Err-clause-numbers : goal.returns-in-Err-clause-numbers
returns-in-Err-clause-numbers g c = (own_numbers _ g.B.Blocks.state g.B.Blocks.keeps c.args.on.now c.ready_own.new.on c.args.own c.ready_own.ensures.stays).next

pub returns-in-Err-clause-taken : goal.returns-in-Err-clause-taken
returns-in-Err-clause-taken g c =
    let few = few_blocks c.args.own in
    let took = c.ready_own.ensures.spare in
    let left = own_usable _ g.B.Blocks.state g.B.Blocks.keeps c.args.on.now c.ready_own.new.on c.args.own c.ready_own.ensures.stays in
    omega (arith, few, took, left)

pub returns-in-Err-new_file-clause-left : goal.returns-in-Err-new_file-clause-left
returns-in-Err-new_file-clause-left g c = inr (c.ready_own.new.on, c.in-Ok.ready.at, c.in-Ok.ensures.steps, c.in-Err-new_file.ensures.nothing)

pub returns-in-Err-new_file-clause-numbers : goal.returns-in-Err-new_file-clause-numbers
returns-in-Err-new_file-clause-numbers g c = c.in-Err-new_file.ensures.nothing.numbers.next ∙ (own_numbers _ g.B.Blocks.state g.B.Blocks.keeps c.args.on.now c.ready_own.new.on c.args.own c.ready_own.ensures.stays).next

pub returns-in-Err-new_file-clause-taken : goal.returns-in-Err-new_file-clause-taken
returns-in-Err-new_file-clause-taken g c =
    let few = few_blocks c.args.own in
    let took = c.ready_own.ensures.spare in
    let left = own_usable _ g.B.Blocks.state g.B.Blocks.keeps c.args.on.now c.ready_own.new.on c.args.own c.ready_own.ensures.stays in
    let more = c.new_file.ensures.spare in
    let usable = c.in-Err-new_file.ensures.nothing.usable in
    omega (arith, few, took, left, more, usable)

pub returns-in-Err-new_file-clause-cause : goal.returns-in-Err-new_file-clause-cause
returns-in-Err-new_file-clause-cause g c =
    failed_since (g.B.Blocks.state c.args.on.now) (g.B.Blocks.state c.ready_own.new.on) (g.B.Blocks.state c.new_file.new.on) (g.met.B.Blocks.keeps_all c.args.on.now c.ready_own.new.on c.ready_own.ensures.keeps) (g.met.B.Blocks.keeps_all c.ready_own.new.on c.new_file.new.on c.new_file.ensures.keeps) c.in-Err-new_file.why c.in-Err-new_file.ensures.cause

pub returns-in-Err-new_file-clause-keeps : goal.returns-in-Err-new_file-clause-keeps
returns-in-Err-new_file-clause-keeps g c = g.met.B.Blocks.keeps_joins c.args.on.now c.ready_own.new.on c.new_file.new.on c.ready_own.ensures.keeps c.new_file.ensures.keeps

pub returns-clause-makes : goal.returns-clause-makes
returns-clause-makes g c =
    let e = g.B.Blocks.state c.ready_own.new.on in
    let f = g.B.Blocks.state c.new_file.new.on in
    let u = g.B.Blocks.state c.number_taken.new.self in
    let first = g.met.B.Blocks.keeps_all c.ready_own.new.on c.new_file.new.on c.new_file.ensures.keeps in
    let second = g.met.B.Blocks.keeps_all c.new_file.new.on c.number_taken.new.self c.number_taken.ensures.keeps in
    let r = c.in-Ok.ready in
    let own = c.args.own in
    let is = c.in-Ok.ensures.ready in
    let made = c.in-Ok-new_file.ensures.alters in
    let comes = ready_comes e f c.args.dir own made.0 r first c.ready_own.ensures.at c.requires.own.1 is.1 made.1 made.2 is.0 in
    let marks = label_comes e f c.args.dir made.0 r made.1 is.0 in
    let block_f = block_on e f own r first marks.0 marks.1 comes.1 is.1 in
    let ready_f = has_ready_on e f own c.args.touched.now r (of_root e own r is.1) comes.1 is.2 in
    let taken = c.number_taken.ensures in
    let label = taken.stays.0.labels r.at (λ n. n) in
    let pin = (taken.stays.0.marks r.at (λ n. n)).0 in
    let bytes = (taken.now.each r.at).bytes in
    let block_g = block_on f u own r second label pin bytes block_f in
    let ready_g = has_ready_on f u own c.args.touched.now r (of_root f own r block_f) bytes ready_f in
    record {
      ready = c.ready_own.new.on;
      block = r.at;
      readied = c.in-Ok.ensures.steps;
      made = c.new_file.new.on;
      comes = c.in-Ok-new_file.ensures.new;
      stays = (made.0, made.1);
      counted = c.number_taken.new.self;
      taken = record { next = taken.next; same = taken.now; stays = taken.stays.0; uses = taken.stays.1 };
      changed = c.put_own.ensures.own own c.args.touched.now block_g ready_g;
      calm = c.put_own.ensures.calm;
    }

pub returns-clause-record : goal.returns-clause-record
returns-clause-record g c =
    let put = c.in-Ok-new_file.ensures.new.put in
    (put.holds, put.numbered)

pub returns-clause-next : goal.returns-clause-next
returns-clause-next g c =
    let x = own_numbers _ g.B.Blocks.state g.B.Blocks.keeps c.args.on.now c.ready_own.new.on c.args.own c.ready_own.ensures.stays in
    c.put_own.ensures.calm.frame.numbers.next ∙ (c.number_taken.ensures.next ∙ ap (λ n. n + 1) (c.in-Ok-new_file.ensures.alters.1.numbers.next ∙ x.next))

pub returns-clause-taken : goal.returns-clause-taken
returns-clause-taken g c =
    let few = few_blocks c.args.own in
    let took = c.ready_own.ensures.spare in
    let left = own_usable _ g.B.Blocks.state g.B.Blocks.keeps c.args.on.now c.ready_own.new.on c.args.own c.ready_own.ensures.stays in
    let more = c.new_file.ensures.spare in
    let usable = c.in-Ok-new_file.ensures.alters.1.usable in
    let same = c.number_taken.ensures.stays.1.usable in
    let still = c.put_own.ensures.calm.frame.uses.usable in
    omega (arith, few, took, left, more, usable, same, still)

pub returns-clause-keeps : goal.returns-clause-keeps
returns-clause-keeps g c =
    let on = g.met.B.Blocks.keeps_joins c.args.on.now c.ready_own.new.on c.new_file.new.on c.ready_own.ensures.keeps c.new_file.ensures.keeps in
    let more = g.met.B.Blocks.keeps_joins c.args.on.now c.new_file.new.on c.number_taken.new.self on c.number_taken.ensures.keeps in
    g.met.B.Blocks.keeps_joins c.args.on.now c.number_taken.new.self c.put_own.new.on more c.put_own.ensures.keeps

pub returns-in-Err-clause-dirties : goal.returns-in-Err-clause-dirties
returns-in-Err-clause-dirties g c = adds_more (omega arith) (adds_given first_of (adds_wider (cons_of (next_of first_of) none_of) c.in-Err.ensures.dirties_refused))

pub returns-in-Err-new_file-clause-dirties : goal.returns-in-Err-new_file-clause-dirties
returns-in-Err-new_file-clause-dirties g c = adds_more (omega arith) (adds_joins (adds_wider (cons_of (next_of first_of) none_of) c.in-Ok.ensures.dirties) c.new_file.ensures.dirties (cons_of (next_of first_of) none_of))

pub returns-clause-dirties : goal.returns-clause-dirties
returns-clause-dirties g c =
    let t = c.number_taken.ensures in
    let number = dirties_stays (g.met.B.Blocks.keeps_all c.new_file.new.on c.number_taken.new.self t.keeps) t.stays.0 t.order.0 t.dirty in
    let put = dirties_calm c.in-Ok.ready.at (g.met.B.Blocks.keeps_all c.number_taken.new.self c.put_own.new.on c.put_own.ensures.keeps) c.put_own.ensures.calm in
    adds_more (omega arith) (adds_given first_of (adds_then (adds_still (adds_first (adds_wider (cons_of (next_of first_of) none_of) c.in-Ok.ensures.dirties) c.new_file.ensures.dirties (cons_of (next_of first_of) none_of)) number) put (cons_of first_of none_of)))
