use Rattle.fo_files_at.proofs.of_looks.Looks.{looks_joins}
use Rattle.fo_files_look.proofs.Telling.{refuses_since}
use Rattle.fo_files_look.proofs.tells.next_told.Goals as goal

pub returns-clause-looks : goal.returns-clause-looks
returns-clause-looks g c =
    let first = c.next_in.ensures.looks in (
      looks_joins (g.met.B.Blocks.keeps_all c.args.on.now c.next_in.new.on first.1) first.0 c.some_below.ensures.looks.0,
      g.met.B.Blocks.keeps_joins c.args.on.now c.next_in.new.on c.some_below.new.on first.1 c.some_below.ensures.looks.1,
    )

pub returns-clause-cause : goal.returns-clause-cause
returns-clause-cause g c =
    let first = c.next_in.ensures.looks in
    refuses_since (g.B.Blocks.state c.args.on.now) (g.B.Blocks.state c.next_in.new.on) (g.B.Blocks.state c.some_below.new.on) (g.met.B.Blocks.keeps_all c.args.on.now c.next_in.new.on first.1) c.some_below.result c.some_below.ensures.cause
