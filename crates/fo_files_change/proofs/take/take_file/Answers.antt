use Rattle.std.proofs.Common.{arith}
use Rattle.fo_files_record.specs.Stays.{no_slot}
use Rattle.fo_files_record.proofs.Owned.{entries_stay}
use Rattle.fo_files_record.proofs.Rewriting.{rewrites_same}
use Rattle.fo_files_change.proofs.Records.{dir_rewritten, records_rank, later_failed}
use Rattle.fo_files_change.proofs.take.take_file.Goals as goal
use Rattle.fo_files_leaf.proofs.of_dirties.Adding.{adds_idle, first_of, next_of, adds_given, adds_then, adds_wider, cons_of, none_of}
use Rattle.fo_files_leaf.proofs.of_dirties.Putting.{dirties_looks}

pub take_out-requires-clause-silent : goal.take_out-requires-clause-silent
take_out-requires-clause-silent g c = λ h. c.requires.silent ((g.met.B.Blocks.keeps_all c.args.on.now c.records_leaf.new.on c.records_leaf.ensures.keeps).still_tells.0 h)

pub take_out-requires-clause-rank : goal.take_out-requires-clause-rank
take_out-requires-clause-rank g c = records_rank c.args.dir.rank c.requires.dir.ranked c.requires.dir.least

pub returns-in-Ok-take_out-clause-takes : goal.returns-in-Ok-take_out-clause-takes
returns-in-Ok-take_out-clause-takes g c = let e = c.in-Ok-take_out.ensures in let r = c.in-Ok.ensures.readied in (r.0, c.records_leaf.new.on, e.takes.0, c.in-Ok.leaf, r.1, c.records_leaf.ensures.alters, e.takes.1)

pub returns-in-Ok-take_out-clause-dir : goal.returns-in-Ok-take_out-clause-dir
returns-in-Ok-take_out-clause-dir g c = dir_rewritten c.args.dir (g.met.B.Blocks.keeps_all c.records_leaf.new.on c.take_out.new.on c.take_out.ensures.keeps) c.take_out.ensures.stays c.records_leaf.ensures.dir

pub returns-in-Err-take_out-clause-dir : goal.returns-in-Err-take_out-clause-dir
returns-in-Err-take_out-clause-dir g c = dir_rewritten c.args.dir (g.met.B.Blocks.keeps_all c.records_leaf.new.on c.take_out.new.on c.take_out.ensures.keeps) c.take_out.ensures.stays c.records_leaf.ensures.dir

pub returns-in-Ok-take_out-clause-entries : goal.returns-in-Ok-take_out-clause-entries
returns-in-Ok-take_out-clause-entries g c = λ e h. entries_stay e (g.met.B.Blocks.keeps_all c.records_leaf.new.on c.take_out.new.on c.take_out.ensures.keeps) c.take_out.ensures.stays (c.records_leaf.ensures.entries e h)

pub returns-in-Err-take_out-clause-entries : goal.returns-in-Err-take_out-clause-entries
returns-in-Err-take_out-clause-entries g c = λ e h. entries_stay e (g.met.B.Blocks.keeps_all c.records_leaf.new.on c.take_out.new.on c.take_out.ensures.keeps) c.take_out.ensures.stays (c.records_leaf.ensures.entries e h)

pub returns-in-Ok-take_out-clause-spare : goal.returns-in-Ok-take_out-clause-spare
returns-in-Ok-take_out-clause-spare g c = let same = c.take_out.ensures.stays.left.0 in let took = c.records_leaf.ensures.spare in omega (arith, same, took)

pub returns-in-Err-take_out-clause-spare : goal.returns-in-Err-take_out-clause-spare
returns-in-Err-take_out-clause-spare g c = let same = c.take_out.ensures.stays.left.0 in let took = c.records_leaf.ensures.spare in omega (arith, same, took)

pub returns-in-Ok-take_out-clause-pins : goal.returns-in-Ok-take_out-clause-pins
returns-in-Ok-take_out-clause-pins g c = let same = c.take_out.ensures.stays.left.1 in let took = c.records_leaf.ensures.pins in omega (arith, same, took)

pub returns-in-Err-take_out-clause-pins : goal.returns-in-Err-take_out-clause-pins
returns-in-Err-take_out-clause-pins g c = let same = c.take_out.ensures.stays.left.1 in let took = c.records_leaf.ensures.pins in omega (arith, same, took)

pub returns-in-Err-take_out-clause-cause : goal.returns-in-Err-take_out-clause-cause
returns-in-Err-take_out-clause-cause g c = later_failed (g.B.Blocks.state c.args.on.now) (g.B.Blocks.state c.records_leaf.new.on) (g.B.Blocks.state c.take_out.new.on) (g.met.B.Blocks.keeps_all c.args.on.now c.records_leaf.new.on c.records_leaf.ensures.keeps) c.in-Err-take_out.why c.in-Err-take_out.ensures.cause

pub take_out-requires-clause-entries : goal.take_out-requires-clause-entries
take_out-requires-clause-entries g c = c.records_leaf.ensures.entries c.args.entries c.requires.entries

pub take_out-requires-clause-room : goal.take_out-requires-clause-room
take_out-requires-clause-room g c = let same = c.records_leaf.ensures.room in let enough = c.requires.room in omega (arith, same, enough)

pub returns-in-Ok-take_out-clause-keeps : goal.returns-in-Ok-take_out-clause-keeps
returns-in-Ok-take_out-clause-keeps g c = g.met.B.Blocks.keeps_joins c.args.on.now c.records_leaf.new.on c.take_out.new.on c.records_leaf.ensures.keeps c.take_out.ensures.keeps

pub returns-in-Err-take_out-clause-keeps : goal.returns-in-Err-take_out-clause-keeps
returns-in-Err-take_out-clause-keeps g c = g.met.B.Blocks.keeps_joins c.args.on.now c.records_leaf.new.on c.take_out.new.on c.records_leaf.ensures.keeps c.take_out.ensures.keeps

pub returns-in-Err-clause-nothing : goal.returns-in-Err-clause-nothing
returns-in-Err-clause-nothing g c = (c.records_leaf.new.on, c.records_leaf.ensures.alters, rewrites_same (g.B.Blocks.state c.records_leaf.new.on) (λ b. ⊥) no_slot)

pub returns-in-Err-take_out-clause-nothing : goal.returns-in-Err-take_out-clause-nothing
returns-in-Err-take_out-clause-nothing g c = (c.records_leaf.new.on, c.records_leaf.ensures.alters, c.in-Err-take_out.ensures.nothing)

pub returns-in-Err-clause-dirties : goal.returns-in-Err-clause-dirties
returns-in-Err-clause-dirties g c = adds_idle 20 first_of (dirties_looks (g.met.B.Blocks.keeps_all c.args.on.now c.records_leaf.new.on c.records_leaf.ensures.keeps) c.in-Err.ensures.nothing)

pub returns-in-Err-take_out-clause-dirties : goal.returns-in-Err-take_out-clause-dirties
returns-in-Err-take_out-clause-dirties g c = adds_given first_of (adds_then (adds_wider (cons_of first_of none_of) c.in-Ok.ensures.dirties) c.take_out.ensures.dirties (cons_of first_of (cons_of (next_of (next_of first_of)) none_of)))

pub returns-in-Ok-take_out-clause-dirties : goal.returns-in-Ok-take_out-clause-dirties
returns-in-Ok-take_out-clause-dirties g c = adds_given first_of (adds_then (adds_wider (cons_of first_of none_of) c.in-Ok.ensures.dirties) c.take_out.ensures.dirties (cons_of first_of (cons_of (next_of (next_of first_of)) none_of)))
