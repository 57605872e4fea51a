use Rattle.fo_dir_read.proofs.of_looks.Looks.{looks_joins}
use Rattle.fo_files_at.proofs.Joining.{caused_since}
use Rattle.fo_files_at.proofs.at.one_down.Goals as goal

pub returns-in-Ok-below-clause-looks : goal.returns-in-Ok-below-clause-looks
returns-in-Ok-below-clause-looks g c =
    let all = g.met.B.Blocks.keeps_all c.args.on.now c.numbered.new.on c.numbered.ensures.keeps in (
      looks_joins all c.numbered.ensures.looks c.below.ensures.looks.0,
      g.met.B.Blocks.keeps_joins c.args.on.now c.numbered.new.on c.below.new.on c.numbered.ensures.keeps c.below.ensures.looks.1,
    )

pub returns-clause-looks : goal.returns-clause-looks
returns-clause-looks g c =
    let all = g.met.B.Blocks.keeps_all c.args.on.now c.numbered.new.on c.numbered.ensures.keeps in (
      looks_joins all c.numbered.ensures.looks c.below.ensures.looks.0,
      g.met.B.Blocks.keeps_joins c.args.on.now c.numbered.new.on c.below.new.on c.numbered.ensures.keeps c.below.ensures.looks.1,
    )

pub returns-clause-cause : goal.returns-clause-cause
returns-clause-cause g c =
    let all = g.met.B.Blocks.keeps_all c.args.on.now c.numbered.new.on c.numbered.ensures.keeps in
    caused_since (g.B.Blocks.state c.args.on.now) (g.B.Blocks.state c.numbered.new.on) (g.B.Blocks.state c.below.new.on) all c.in-Err-below.why c.in-Err-below.ensures.cause
