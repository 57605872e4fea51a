use Rattle.std.proofs.Common.{◌+◌, ◌*◌}
use Rattle.std.specs.Prelude.{max}
use Rattle.fo_dirties.proofs.of_looks.Looks.{looks_joins}
use Rattle.fo_files_way.proofs.Adding.{failed_since, pins_for}
use Rattle.fo_files_way.proofs.add.readied.Goals as goal

pub returns-in-Ok-Some-clause-prepared : goal.returns-in-Ok-Some-clause-prepared
returns-in-Ok-Some-clause-prepared g c = c.leaf.ensures.same.still (8192 * c.args.leaf) 8192 (c.in-Ok.ensures.prepared (pins_for (max c.args.source.now.ways.tree.size (8192 * c.args.leaf + 8192)) (g.B.Blocks.state c.args.on.now).pins_left c.requires.pins))

pub returns-in-Ok-Some-clause-looks : goal.returns-in-Ok-Some-clause-looks
returns-in-Ok-Some-clause-looks g c =
    let first = c.prepare.ensures.looks in (
      looks_joins (g.met.B.Blocks.keeps_all c.args.on.now c.prepare.new.on first.1) first.0 c.leaf.ensures.looks.0,
      g.met.B.Blocks.keeps_joins c.args.on.now c.prepare.new.on c.leaf.new.on first.1 c.leaf.ensures.looks.1,
    )

pub returns-in-Ok-None-clause-looks : goal.returns-in-Ok-None-clause-looks
returns-in-Ok-None-clause-looks g c =
    let first = c.prepare.ensures.looks in (
      looks_joins (g.met.B.Blocks.keeps_all c.args.on.now c.prepare.new.on first.1) first.0 c.leaf.ensures.looks.0,
      g.met.B.Blocks.keeps_joins c.args.on.now c.prepare.new.on c.leaf.new.on first.1 c.leaf.ensures.looks.1,
    )

pub returns-in-Err-leaf-clause-looks : goal.returns-in-Err-leaf-clause-looks
returns-in-Err-leaf-clause-looks g c =
    let first = c.prepare.ensures.looks in (
      looks_joins (g.met.B.Blocks.keeps_all c.args.on.now c.prepare.new.on first.1) first.0 c.leaf.ensures.looks.0,
      g.met.B.Blocks.keeps_joins c.args.on.now c.prepare.new.on c.leaf.new.on first.1 c.leaf.ensures.looks.1,
    )

pub returns-in-Err-leaf-clause-cause : goal.returns-in-Err-leaf-clause-cause
returns-in-Err-leaf-clause-cause g c = failed_since (g.B.Blocks.state c.args.on.now) (g.B.Blocks.state c.prepare.new.on) (g.B.Blocks.state c.leaf.new.on) (g.met.B.Blocks.keeps_all c.args.on.now c.prepare.new.on c.prepare.ensures.looks.1) c.in-Err-leaf.why c.in-Err-leaf.ensures.cause
