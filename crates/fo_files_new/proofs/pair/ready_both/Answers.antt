use Rattle.fo_files_leaf.proofs.Altering.{alters_joins}
use Rattle.fo_files_new.proofs.Dirs.{dir_on, entries_on}
use Rattle.fo_files_new.proofs.Putting.{caused_after}
use Rattle.fo_files_new.proofs.pair.ready_both.Goals as goal
use Rattle.fo_dirties.proofs.Adding.{adds_joins, adds_more, cons_of, next_of, first_of, none_of}
use Rattle.std.proofs.Common.{arith}
use Rattle.fo_files_new.proofs.Dirtying.{both_added}

pub ready_records-requires-clause-dir : goal.ready_records-requires-clause-dir
ready_records-requires-clause-dir g c = dir_on (g.B.Blocks.state c.args.on.now) (g.B.Blocks.state c.ready_entries.new.on) c.args.dir _ (g.met.B.Blocks.keeps_all c.args.on.now c.ready_entries.new.on c.ready_entries.ensures.keeps) c.ready_entries.ensures.alters c.requires.dir

pub returns-in-Ok-ready_records-clause-own : goal.returns-in-Ok-ready_records-clause-own
returns-in-Ok-ready_records-clause-own g c = record {
  entries_own = entries_on (g.B.Blocks.state c.ready_entries.new.on) (g.B.Blocks.state c.ready_records.new.on) c.args.dir c.in-Ok.entries (g.met.B.Blocks.keeps_all c.ready_entries.new.on c.ready_records.new.on c.ready_records.ensures.keeps) c.ready_records.ensures.alters c.in-Ok.ensures.apart c.in-Ok.ensures.own;
  records_own = c.in-Ok-ready_records.ensures.own;
}

pub returns-in-Ok-ready_records-clause-readied : goal.returns-in-Ok-ready_records-clause-readied
returns-in-Ok-ready_records-clause-readied g c =
    record { entries_owned = c.ready_entries.new.on; of_entries = c.in-Ok.ensures.readied; of_records = c.in-Ok-ready_records.ensures.readied }

pub returns-in-Ok-ready_records-clause-alters : goal.returns-in-Ok-ready_records-clause-alters
returns-in-Ok-ready_records-clause-alters g c = alters_joins (g.met.B.Blocks.keeps_all c.args.on.now c.ready_entries.new.on c.ready_entries.ensures.keeps) c.ready_entries.ensures.alters c.ready_records.ensures.alters

pub returns-in-Err-ready_records-clause-alters : goal.returns-in-Err-ready_records-clause-alters
returns-in-Err-ready_records-clause-alters g c = alters_joins (g.met.B.Blocks.keeps_all c.args.on.now c.ready_entries.new.on c.ready_entries.ensures.keeps) c.ready_entries.ensures.alters c.ready_records.ensures.alters

pub returns-in-Err-ready_records-clause-cause : goal.returns-in-Err-ready_records-clause-cause
returns-in-Err-ready_records-clause-cause g c = caused_after (g.B.Blocks.state c.args.on.now) (g.B.Blocks.state c.ready_entries.new.on) (g.B.Blocks.state c.ready_records.new.on) (g.met.B.Blocks.keeps_all c.args.on.now c.ready_entries.new.on c.ready_entries.ensures.keeps) (g.met.B.Blocks.keeps_all c.ready_entries.new.on c.ready_records.new.on c.ready_records.ensures.keeps) c.in-Err-ready_records.why c.in-Err-ready_records.ensures.cause

pub returns-in-Ok-ready_records-clause-dirties : goal.returns-in-Ok-ready_records-clause-dirties
returns-in-Ok-ready_records-clause-dirties g c = both_added c.in-Ok.ensures.dirties c.in-Ok-ready_records.ensures.dirties

pub returns-in-Err-ready_records-clause-dirties_refused : goal.returns-in-Err-ready_records-clause-dirties_refused
returns-in-Err-ready_records-clause-dirties_refused g c = adds_joins c.in-Ok.ensures.dirties c.in-Err-ready_records.ensures.dirties_refused (cons_of (next_of first_of) none_of)

pub returns-in-Err-clause-dirties_refused : goal.returns-in-Err-clause-dirties_refused
returns-in-Err-clause-dirties_refused g c = adds_more (omega arith) c.in-Err.ensures.dirties_refused

pub returns-in-Ok-ready_records-clause-keeps : goal.returns-in-Ok-ready_records-clause-keeps
returns-in-Ok-ready_records-clause-keeps g c = g.met.B.Blocks.keeps_joins c.args.on.now c.ready_entries.new.on c.ready_records.new.on c.ready_entries.ensures.keeps c.ready_records.ensures.keeps

pub returns-in-Err-ready_records-clause-keeps : goal.returns-in-Err-ready_records-clause-keeps
returns-in-Err-ready_records-clause-keeps g c = g.met.B.Blocks.keeps_joins c.args.on.now c.ready_entries.new.on c.ready_records.new.on c.ready_entries.ensures.keeps c.ready_records.ensures.keeps
