use Rattle.fo_files_change.proofs.of_files_leaf.Altering.{alters_joins}
use Rattle.fo_files_change.proofs.Records.{dir_readied}
use Rattle.fo_files_ready.proofs.Steps.{failed_since}
use Rattle.fo_files_ready.proofs.leaf.added_leaf.Goals as goal
use Rattle.fo_dirties.proofs.Adding.{adds_more, adds_still, adds_joins, cons_of, first_of, none_of}
use Rattle.fo_dirties.proofs.Putting.{dirties_looks}
use Rattle.std.proofs.Common.{arith}

pub leaf_at-requires-clause-silent : goal.leaf_at-requires-clause-silent
leaf_at-requires-clause-silent g c = λ h. c.requires.silent ((g.met.B.Blocks.keeps_all c.args.on.now c.trim_for.new.on c.trim_for.ensures.keeps).still_tells.0 h)

pub leaf_at-requires-clause-dir : goal.leaf_at-requires-clause-dir
leaf_at-requires-clause-dir g c = dir_readied c.args.dir (g.met.B.Blocks.keeps_all c.args.on.now c.trim_for.new.on c.trim_for.ensures.keeps) c.trim_for.ensures.alters c.requires.dir

pub returns-in-Ok-leaf_at-clause-readied : goal.returns-in-Ok-leaf_at-clause-readied
returns-in-Ok-leaf_at-clause-readied g c = let r = c.in-Ok-leaf_at.ensures.readied in (c.trim_for.new.on, r.0, c.trim_for.ensures.alters, r.1)

pub returns-in-Ok-leaf_at-clause-alters : goal.returns-in-Ok-leaf_at-clause-alters
returns-in-Ok-leaf_at-clause-alters g c = alters_joins (g.met.B.Blocks.keeps_all c.args.on.now c.trim_for.new.on c.trim_for.ensures.keeps) c.trim_for.ensures.alters c.leaf_at.ensures.alters

pub returns-in-Err-leaf_at-clause-alters : goal.returns-in-Err-leaf_at-clause-alters
returns-in-Err-leaf_at-clause-alters g c = alters_joins (g.met.B.Blocks.keeps_all c.args.on.now c.trim_for.new.on c.trim_for.ensures.keeps) c.trim_for.ensures.alters c.leaf_at.ensures.alters

pub returns-in-Err-leaf_at-clause-cause : goal.returns-in-Err-leaf_at-clause-cause
returns-in-Err-leaf_at-clause-cause g c = failed_since (g.B.Blocks.state c.args.on.now) (g.B.Blocks.state c.trim_for.new.on) (g.B.Blocks.state c.leaf_at.new.on) (g.met.B.Blocks.keeps_all c.args.on.now c.trim_for.new.on c.trim_for.ensures.keeps) (g.met.B.Blocks.keeps_all c.trim_for.new.on c.leaf_at.new.on c.leaf_at.ensures.keeps) c.in-Err-leaf_at.why c.in-Err-leaf_at.ensures.cause

pub returns-in-Ok-leaf_at-clause-keeps : goal.returns-in-Ok-leaf_at-clause-keeps
returns-in-Ok-leaf_at-clause-keeps g c = g.met.B.Blocks.keeps_joins c.args.on.now c.trim_for.new.on c.leaf_at.new.on c.trim_for.ensures.keeps c.leaf_at.ensures.keeps

pub returns-in-Err-leaf_at-clause-keeps : goal.returns-in-Err-leaf_at-clause-keeps
returns-in-Err-leaf_at-clause-keeps g c = g.met.B.Blocks.keeps_joins c.args.on.now c.trim_for.new.on c.leaf_at.new.on c.trim_for.ensures.keeps c.leaf_at.ensures.keeps

pub returns-in-Err-clause-dirties_refused : goal.returns-in-Err-clause-dirties_refused
returns-in-Err-clause-dirties_refused g c = adds_more (omega arith) (c.trim_for.ensures.dirties_few c.requires.few)

pub returns-in-Err-leaf_at-clause-dirties_refused : goal.returns-in-Err-leaf_at-clause-dirties_refused
returns-in-Err-leaf_at-clause-dirties_refused g c = adds_more (omega arith) (adds_still (c.trim_for.ensures.dirties_few c.requires.few) (dirties_looks (g.met.B.Blocks.keeps_all c.trim_for.new.on c.leaf_at.new.on c.leaf_at.ensures.keeps) c.in-Err-leaf_at.ensures.nothing))

pub returns-in-Ok-leaf_at-clause-dirties : goal.returns-in-Ok-leaf_at-clause-dirties
returns-in-Ok-leaf_at-clause-dirties g c = adds_joins (c.trim_for.ensures.dirties_few c.requires.few) c.in-Ok-leaf_at.ensures.dirties (cons_of first_of none_of)
