use Rattle.fo_files_leaf.proofs.Readying.{entry_at}
use Rattle.fo_files_leaf.proofs.Trimming.{trimmed_alters}
use Rattle.fo_files_leaf.proofs.trim.trim_records.Goals as goal
use Rattle.fo_dirties.proofs.Adding.{adds_idle, first_of, adds_after, adds_more}
use Rattle.fo_dirties.proofs.Putting.{dirties_looks}
use Rattle.fo_files_leaf.proofs.Levels.{two_levels}
use Rattle.std.proofs.Common.{arith}

pub returns-then-may_grow-clause-trimmed : goal.returns-then-may_grow-clause-trimmed
returns-then-may_grow-clause-trimmed g c =
    let e = c.in-Ok.ensures in
    record {
      source = c.in-Ok.source;
      entry = entry_at (g.B.Blocks.state c.args.on.now) (g.B.Blocks.state c.source_for.new.on) c.args.wanted c.in-Ok.source (g.met.B.Blocks.keeps_all c.args.on.now c.source_for.new.on e.looks.1) e.looks.0 c.requires.holder e.entry e.is.0 e.apart;
      may = c.may_grow.ensures.may c.if-may_grow.true;
    }

pub cut_behind-requires-clause-entry : goal.cut_behind-requires-clause-entry
cut_behind-requires-clause-entry g c =
    let e = c.in-Ok.ensures in
    entry_at (g.B.Blocks.state c.args.on.now) (g.B.Blocks.state c.source_for.new.on) c.args.wanted c.in-Ok.source (g.met.B.Blocks.keeps_all c.args.on.now c.source_for.new.on e.looks.1) e.looks.0 c.requires.holder e.entry e.is.0 e.apart

pub returns-in-Ok-cut_behind-clause-alters : goal.returns-in-Ok-cut_behind-clause-alters
returns-in-Ok-cut_behind-clause-alters g c =
    let e = c.in-Ok.ensures in
    trimmed_alters (g.B.Blocks.state c.args.on.now) (g.B.Blocks.state c.source_for.new.on) (g.B.Blocks.state c.cut_behind.new.on) c.args.wanted c.in-Ok.source (g.met.B.Blocks.keeps_all c.args.on.now c.source_for.new.on e.looks.1) c.requires.holder.is_pinned e.looks.0 e.is.0 c.requires.records c.cut_behind.ensures.alters

pub returns-clause-alters : goal.returns-clause-alters
returns-clause-alters g c =
    let e = c.in-Ok.ensures in
    trimmed_alters (g.B.Blocks.state c.args.on.now) (g.B.Blocks.state c.source_for.new.on) (g.B.Blocks.state c.cut_behind.new.on) c.args.wanted c.in-Ok.source (g.met.B.Blocks.keeps_all c.args.on.now c.source_for.new.on e.looks.1) c.requires.holder.is_pinned e.looks.0 e.is.0 c.requires.records c.cut_behind.ensures.alters

pub returns-in-Err-clause-dirties : goal.returns-in-Err-clause-dirties
returns-in-Err-clause-dirties g c = adds_idle 8 first_of (dirties_looks (g.met.B.Blocks.keeps_all c.args.on.now c.source_for.new.on c.in-Err.ensures.looks.1) c.in-Err.ensures.looks.0)

pub returns-in-Err-clause-dirties_few : goal.returns-in-Err-clause-dirties_few
returns-in-Err-clause-dirties_few g c = λ small. adds_idle 4 first_of (dirties_looks (g.met.B.Blocks.keeps_all c.args.on.now c.source_for.new.on c.in-Err.ensures.looks.1) c.in-Err.ensures.looks.0)

pub returns-then-may_grow-clause-dirties : goal.returns-then-may_grow-clause-dirties
returns-then-may_grow-clause-dirties g c = adds_idle 8 first_of (dirties_looks (g.met.B.Blocks.keeps_all c.args.on.now c.source_for.new.on c.in-Ok.ensures.looks.1) c.in-Ok.ensures.looks.0)

pub returns-then-may_grow-clause-dirties_few : goal.returns-then-may_grow-clause-dirties_few
returns-then-may_grow-clause-dirties_few g c = λ small. adds_idle 4 first_of (dirties_looks (g.met.B.Blocks.keeps_all c.args.on.now c.source_for.new.on c.in-Ok.ensures.looks.1) c.in-Ok.ensures.looks.0)

pub returns-in-Ok-cut_behind-clause-dirties : goal.returns-in-Ok-cut_behind-clause-dirties
returns-in-Ok-cut_behind-clause-dirties g c =
    let few = c.in-Ok.ensures.source.over.hangs.few in
    adds_after (dirties_looks (g.met.B.Blocks.keeps_all c.args.on.now c.source_for.new.on c.in-Ok.ensures.looks.1) c.in-Ok.ensures.looks.0) (adds_more (omega (arith, few)) c.cut_behind.ensures.dirties)

pub returns-clause-dirties : goal.returns-clause-dirties
returns-clause-dirties g c =
    let few = c.in-Ok.ensures.source.over.hangs.few in
    adds_after (dirties_looks (g.met.B.Blocks.keeps_all c.args.on.now c.source_for.new.on c.in-Ok.ensures.looks.1) c.in-Ok.ensures.looks.0) (adds_more (omega (arith, few)) c.cut_behind.ensures.dirties)

pub returns-in-Ok-cut_behind-clause-dirties_few : goal.returns-in-Ok-cut_behind-clause-dirties_few
returns-in-Ok-cut_behind-clause-dirties_few g c = λ small.
    let few = two_levels c.in-Ok.source.ways.tree.depth c.in-Ok.source.ways.tree.size c.args.wanted.leaf c.in-Ok.ensures.source.over.least (c.may_grow.ensures.not c.if-may_grow.false).0 small in
    adds_after (dirties_looks (g.met.B.Blocks.keeps_all c.args.on.now c.source_for.new.on c.in-Ok.ensures.looks.1) c.in-Ok.ensures.looks.0) (adds_more few c.cut_behind.ensures.dirties)

pub returns-clause-dirties_few : goal.returns-clause-dirties_few
returns-clause-dirties_few g c = λ small.
    let few = two_levels c.in-Ok.source.ways.tree.depth c.in-Ok.source.ways.tree.size c.args.wanted.leaf c.in-Ok.ensures.source.over.least (c.may_grow.ensures.not c.if-may_grow.false).0 small in
    adds_after (dirties_looks (g.met.B.Blocks.keeps_all c.args.on.now c.source_for.new.on c.in-Ok.ensures.looks.1) c.in-Ok.ensures.looks.0) (adds_more few c.cut_behind.ensures.dirties)
