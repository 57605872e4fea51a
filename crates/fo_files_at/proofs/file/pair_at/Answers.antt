use Rattle.fo_dir_read.proofs.of_looks.Looks.{looks_joins}
use Rattle.fo_files_at.proofs.Joining.{caused_since}
use Rattle.fo_files_at.proofs.file.pair_at.Goals as goal

pub returns-in-Ok-clause-looks : goal.returns-in-Ok-clause-looks
returns-in-Ok-clause-looks g c =
    let first = c.leaf.ensures.looks in (
      looks_joins (g.met.B.Blocks.keeps_all c.args.on.now c.leaf.new.on first.1) first.0 c.pair_in.ensures.looks.0,
      g.met.B.Blocks.keeps_joins c.args.on.now c.leaf.new.on c.pair_in.new.on first.1 c.pair_in.ensures.looks.1,
    )

pub returns-in-Err-pair_in-clause-looks : goal.returns-in-Err-pair_in-clause-looks
returns-in-Err-pair_in-clause-looks g c =
    let first = c.leaf.ensures.looks in (
      looks_joins (g.met.B.Blocks.keeps_all c.args.on.now c.leaf.new.on first.1) first.0 c.pair_in.ensures.looks.0,
      g.met.B.Blocks.keeps_joins c.args.on.now c.leaf.new.on c.pair_in.new.on first.1 c.pair_in.ensures.looks.1,
    )

pub returns-in-Err-pair_in-clause-cause : goal.returns-in-Err-pair_in-clause-cause
returns-in-Err-pair_in-clause-cause g c =
    let all = g.met.B.Blocks.keeps_all c.args.on.now c.leaf.new.on c.leaf.ensures.looks.1 in
    caused_since (g.B.Blocks.state c.args.on.now) (g.B.Blocks.state c.leaf.new.on) (g.B.Blocks.state c.pair_in.new.on) all c.in-Err-pair_in.why c.in-Err-pair_in.ensures.cause
