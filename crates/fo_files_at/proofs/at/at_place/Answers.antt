use Rattle.fo_dir_read.proofs.of_looks.Looks.{looks_joins}
use Rattle.fo_files_at.proofs.Joining.{refused_since}
use Rattle.fo_files_at.proofs.at.at_place.Goals as goal

pub returns-clause-looks : goal.returns-clause-looks
returns-clause-looks g c =
    let first = c.root_file.ensures.looks in (
      looks_joins (g.met.B.Blocks.keeps_all c.args.on.now c.root_file.new.on first.1) first.0 c.go_down.ensures.looks.0,
      g.met.B.Blocks.keeps_joins c.args.on.now c.root_file.new.on c.go_down.new.on first.1 c.go_down.ensures.looks.1,
    )

pub returns-clause-cause : goal.returns-clause-cause
returns-clause-cause g c =
    let first = c.root_file.ensures.looks in
    refused_since (g.B.Blocks.state c.args.on.now) (g.B.Blocks.state c.root_file.new.on) (g.B.Blocks.state c.go_down.new.on) (g.met.B.Blocks.keeps_all c.args.on.now c.root_file.new.on first.1) c.go_down.result c.go_down.ensures.cause
