use Rattle.fo_files_at.proofs.of_looks.Looks.{looks_joins}
use Rattle.fo_files_look.proofs.Telling.{refuses_since}
use Rattle.fo_files_look.proofs.tells.find_in.Goals as goal

pub returns-clause-looks : goal.returns-clause-looks
returns-clause-looks g c =
    let first = c.named_in.ensures.looks in (
      looks_joins (g.met.B.Blocks.keeps_all c.args.on.now c.named_in.new.on first.1) first.0 c.info_below.ensures.looks.0,
      g.met.B.Blocks.keeps_joins c.args.on.now c.named_in.new.on c.info_below.new.on first.1 c.info_below.ensures.looks.1,
    )

pub returns-clause-cause : goal.returns-clause-cause
returns-clause-cause g c =
    let first = c.named_in.ensures.looks in
    refuses_since (g.B.Blocks.state c.args.on.now) (g.B.Blocks.state c.named_in.new.on) (g.B.Blocks.state c.info_below.new.on) (g.met.B.Blocks.keeps_all c.args.on.now c.named_in.new.on first.1) c.info_below.result c.info_below.ensures.cause
