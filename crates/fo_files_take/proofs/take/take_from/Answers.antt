use Rattle.std.proofs.Common.{◌≡◌, ◌+◌, ◌*◌, ◌≤◌, ℕ, inl, inr, ap, ◌∙◌, arith}
use Rattle.fo_image.specs.declared.types.Kind.TheVariants.{Data}
use Rattle.fo_tree_read.specs.Tree.{kind_at}
use Rattle.fo_files_own.proofs.of_files_ready.Steps.{failed_since}
use Rattle.fo_files_own.proofs.Carry.{block_on, few_blocks, few_pins, few_removals, has_ready_on, of_root}
use Rattle.fo_files_take.proofs.Taking.{bytes_over, label_over, may_over, pin_over, took, took_own}
use Rattle.fo_files_take.proofs.take.take_from.Goals as goal
use Rattle.fo_dirties.proofs.Adding.{first_of, next_of, cons_of, none_of, adds_more, adds_given, adds_wider, adds_joins, adds_first, adds_then}
use Rattle.fo_dirties.proofs.Putting.{dirties_calm}

pub ready_own-requires-clause-pins : goal.ready_own-requires-clause-pins
ready_own-requires-clause-pins g c = let few = few_pins c.args.own in let enough = c.requires.pins in omega (arith, few, enough)

pub ready_own-requires-clause-spare : goal.ready_own-requires-clause-spare
ready_own-requires-clause-spare g c = let few = few_blocks c.args.own in let enough = c.requires.spare in omega (arith, few, enough)

pub ready_own-requires-clause-room : goal.ready_own-requires-clause-room
ready_own-requires-clause-room g c = let few = few_removals c.args.own in let enough = c.requires.room in omega (arith, few, enough)

pub take_file-requires-clause-silent : goal.take_file-requires-clause-silent
take_file-requires-clause-silent g c = λ h. c.requires.silent ((g.met.B.Blocks.keeps_all c.args.on.now c.ready_own.new.on c.ready_own.ensures.keeps).still_tells.0 h)

pub take_file-requires-clause-dir : goal.take_file-requires-clause-dir
take_file-requires-clause-dir g c = c.ready_own.ensures.dirs c.args.dir c.requires.dir

pub take_file-requires-clause-entries : goal.take_file-requires-clause-entries
take_file-requires-clause-entries g c = c.ready_own.ensures.entries c.args.file.entries c.requires.entries

pub take_file-requires-clause-pins : goal.take_file-requires-clause-pins
take_file-requires-clause-pins g c = let few = few_pins c.args.own in let enough = c.requires.pins in let left = c.ready_own.ensures.pins in omega (arith, few, enough, left)

pub take_file-requires-clause-spare : goal.take_file-requires-clause-spare
take_file-requires-clause-spare g c = let few = few_blocks c.args.own in let enough = c.requires.spare in let left = c.ready_own.ensures.spare in omega (arith, few, enough, left)

pub take_file-requires-clause-room : goal.take_file-requires-clause-room
take_file-requires-clause-room g c = let few = few_removals c.args.own in let enough = c.requires.room in let left = c.ready_own.ensures.room in omega (arith, few, enough, left)

pub put_own-requires-clause-silent : goal.put_own-requires-clause-silent
put_own-requires-clause-silent g c = λ h. c.requires.silent ((g.met.B.Blocks.keeps_all c.args.on.now c.take_file.new.on (g.met.B.Blocks.keeps_joins c.args.on.now c.ready_own.new.on c.take_file.new.on c.ready_own.ensures.keeps c.take_file.ensures.keeps)).still_tells.0 h)

pub put_own-requires-clause-may : goal.put_own-requires-clause-may
put_own-requires-clause-may g c =
    let t = c.in-Ok-take_file.ensures.takes in
    let r = c.in-Ok.ensures.ready in
    let q = t.4 in
    may_over (g.B.Blocks.state c.ready_own.new.on) (g.B.Blocks.state t.1) (g.B.Blocks.state t.2) (g.B.Blocks.state c.take_file.new.on) c.args.dir c.args.own c.in-Ok.ready t.3
    (g.met.B.Blocks.keeps_all c.ready_own.new.on c.take_file.new.on c.take_file.ensures.keeps) t.5 t.6.rests t.6.stays (c.ready_own.ensures.dirs c.args.dir c.requires.dir) c.requires.own.1 r.1 r.0
    (q.owned.own.leaf_kind ∙ ap (λ b. kind_at b 0) q.dir_is) (q.owned.own.tagged ∙ q.tag_is)

pub returns-clause-takes : goal.returns-clause-takes
returns-clause-takes g c =
    let t = c.in-Ok-take_file.ensures.takes in
    let r = c.in-Ok.ensures.ready in
    let q = t.4 in
    let s = g.B.Blocks.state c.ready_own.new.on in
    let m = g.B.Blocks.state t.1 in
    let n = g.B.Blocks.state t.2 in
    let u = g.B.Blocks.state c.take_file.new.on in
    let all = g.met.B.Blocks.keeps_all c.ready_own.new.on c.take_file.new.on c.take_file.ensures.keeps in
    let is = c.ready_own.ensures.dirs c.args.dir c.requires.dir in
    let kind : (m.label t.3).kind ≡ Data 0 = q.owned.own.leaf_kind ∙ ap (λ b. kind_at b 0) q.dir_is in
    let tag : (m.label t.3).tag ≡ 33 + 2 * c.args.dir.number = q.owned.own.tagged ∙ q.tag_is in
    let same = bytes_over s m n u c.args.dir c.args.own c.in-Ok.ready t.3 all t.5 t.6.rests t.6.stays is c.requires.own.1 r.1 r.0 kind tag in
    let label = label_over s m n u c.args.dir c.args.own c.in-Ok.ready t.3 all t.5 t.6.rests t.6.stays is c.requires.own.1 r.1 r.0 kind tag in
    let pin = pin_over s m n u c.args.dir c.args.own c.in-Ok.ready t.3 all t.5 t.6.rests t.6.stays is c.requires.own.1 r.1 r.0 kind tag in
    let of = block_on s u c.args.own c.in-Ok.ready all label (λ h. pin) same r.1 in
    record {
      made = c.in-Ok.ready;
      ready = c.ready_own.new.on;
      steps = c.in-Ok.ensures.steps;
      has = r.2;
      looked = t.0;
      owned = t.1;
      settled = t.2;
      taken = c.take_file.new.on;
      leaf = t.3;
      readied = q;
      alters = t.5;
      takes = t.6;
      own_is = c.put_own.ensures.own c.args.own c.args.changed.now of (has_ready_on s u c.args.own c.args.changed.now c.in-Ok.ready (of_root s c.args.own c.in-Ok.ready r.1) same r.2);
      calm = c.put_own.ensures.calm;
    }

pub returns-in-Err-clause-left : goal.returns-in-Err-clause-left
returns-in-Err-clause-left g c = inl c.in-Err.ensures.left

pub returns-in-Err-take_file-clause-left : goal.returns-in-Err-take_file-clause-left
returns-in-Err-take_file-clause-left g c =
    let x = c.in-Err-take_file.ensures.nothing in
    inr (c.in-Ok.ready.at, c.ready_own.new.on, x.0, c.in-Ok.ensures.steps, x.1, x.2)

pub returns-in-Err-clause-taken : goal.returns-in-Err-clause-taken
returns-in-Err-clause-taken g c = let a = took_own _ g.B.Blocks.state g.B.Blocks.keeps c.args.on.now c.ready_own.new.on c.args.own c.ready_own.ensures.stays c.ready_own.ensures.spare in omega (arith, a)

pub returns-in-Err-take_file-clause-taken : goal.returns-in-Err-take_file-clause-taken
returns-in-Err-take_file-clause-taken g c =
    let x = c.in-Err-take_file.ensures.nothing in
    let a = took_own _ g.B.Blocks.state g.B.Blocks.keeps c.args.on.now c.ready_own.new.on c.args.own c.ready_own.ensures.stays c.ready_own.ensures.spare in
    let b = took (g.B.Blocks.state c.ready_own.new.on) (g.B.Blocks.state x.0) (g.B.Blocks.state c.take_file.new.on) c.args.dir 10 x.1 x.2.left.2 x.2.left.0 c.take_file.ensures.spare in
    omega (arith, a, b)

pub returns-clause-taken : goal.returns-clause-taken
returns-clause-taken g c =
    let t = c.in-Ok-take_file.ensures.takes in
    let n = g.B.Blocks.state t.2 in
    let a = took_own _ g.B.Blocks.state g.B.Blocks.keeps c.args.on.now c.ready_own.new.on c.args.own c.ready_own.ensures.stays c.ready_own.ensures.spare in
    let more = joined (g.B.Blocks.state t.1).usable n.usable (g.B.Blocks.state c.take_file.new.on).usable t.6.rests.left.2 t.6.stays.left.2 in
    let b = took (g.B.Blocks.state c.ready_own.new.on) (g.B.Blocks.state t.1) (g.B.Blocks.state c.take_file.new.on) c.args.dir 10 t.5 more (t.6.stays.left.0 ∙ t.6.rests.left.0) c.take_file.ensures.spare in
    let last = c.put_own.ensures.calm.frame.uses.usable in
    omega (arith, a, b, last)
  where
    joined : (x y z : ℕ) → x ≤ y → y ≤ z → x ≤ z
    joined x y z p q = omega (arith, p, q)

pub returns-in-Err-take_file-clause-cause : goal.returns-in-Err-take_file-clause-cause
returns-in-Err-take_file-clause-cause g c =
    failed_since (g.B.Blocks.state c.args.on.now) (g.B.Blocks.state c.ready_own.new.on) (g.B.Blocks.state c.take_file.new.on) (g.met.B.Blocks.keeps_all c.args.on.now c.ready_own.new.on c.ready_own.ensures.keeps) (g.met.B.Blocks.keeps_all c.ready_own.new.on c.take_file.new.on c.take_file.ensures.keeps) c.in-Err-take_file.why c.in-Err-take_file.ensures.cause

pub returns-in-Err-take_file-clause-keeps : goal.returns-in-Err-take_file-clause-keeps
returns-in-Err-take_file-clause-keeps g c = g.met.B.Blocks.keeps_joins c.args.on.now c.ready_own.new.on c.take_file.new.on c.ready_own.ensures.keeps c.take_file.ensures.keeps

pub returns-clause-keeps : goal.returns-clause-keeps
returns-clause-keeps g c = g.met.B.Blocks.keeps_joins c.args.on.now c.take_file.new.on c.put_own.new.on (g.met.B.Blocks.keeps_joins c.args.on.now c.ready_own.new.on c.take_file.new.on c.ready_own.ensures.keeps c.take_file.ensures.keeps) c.put_own.ensures.keeps

pub returns-in-Err-clause-dirties : goal.returns-in-Err-clause-dirties
returns-in-Err-clause-dirties g c = adds_more (omega arith) (adds_given first_of (adds_wider (cons_of (next_of (next_of first_of)) none_of) c.in-Err.ensures.dirties_refused))

pub returns-in-Err-take_file-clause-dirties : goal.returns-in-Err-take_file-clause-dirties
returns-in-Err-take_file-clause-dirties g c = adds_more (omega arith) (adds_joins (adds_wider (cons_of (next_of (next_of first_of)) none_of) c.in-Ok.ensures.dirties) c.take_file.ensures.dirties (cons_of (next_of first_of) (cons_of (next_of (next_of first_of)) none_of)))

pub returns-clause-dirties : goal.returns-clause-dirties
returns-clause-dirties g c =
    let put = dirties_calm c.in-Ok.ready.at (g.met.B.Blocks.keeps_all c.take_file.new.on c.put_own.new.on c.put_own.ensures.keeps) c.put_own.ensures.calm in
    adds_more (omega arith) (adds_given first_of (adds_then (adds_first (adds_wider (cons_of (next_of (next_of first_of)) none_of) c.in-Ok.ensures.dirties) c.take_file.ensures.dirties (cons_of (next_of first_of) (cons_of (next_of (next_of first_of)) none_of))) put (cons_of first_of none_of)))
