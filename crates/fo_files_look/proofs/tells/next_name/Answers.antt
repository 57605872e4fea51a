use Rattle.fo_files_at.proofs.of_looks.Looks.{looks_joins}
use Rattle.fo_files_look.proofs.Telling.{refuses_since}
use Rattle.fo_files_look.proofs.tells.next_name.Goals as goal

pub returns-clause-looks : goal.returns-clause-looks
returns-clause-looks g c =
    let first = c.dir_at.ensures.looks in (
      looks_joins (g.met.B.Blocks.keeps_all c.args.on.now c.dir_at.new.on first.1) first.0 c.next_told.ensures.looks.0,
      g.met.B.Blocks.keeps_joins c.args.on.now c.dir_at.new.on c.next_told.new.on first.1 c.next_told.ensures.looks.1,
    )

pub returns-clause-cause : goal.returns-clause-cause
returns-clause-cause g c =
    let first = c.dir_at.ensures.looks in
    refuses_since (g.B.Blocks.state c.args.on.now) (g.B.Blocks.state c.dir_at.new.on) (g.B.Blocks.state c.next_told.new.on) (g.met.B.Blocks.keeps_all c.args.on.now c.dir_at.new.on first.1) c.next_told.result c.next_told.ensures.cause
