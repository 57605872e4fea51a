use Rattle.fo_dir_read.proofs.of_looks.Looks.{looks_joins}
use Rattle.fo_files_at.proofs.Joining.{refused_since}
use Rattle.fo_files_at.proofs.file.pair_in.Goals as goal

pub returns-in-None-clause-looks : goal.returns-in-None-clause-looks
returns-in-None-clause-looks g c = (
  looks_joins (g.met.B.Blocks.keeps_all c.args.on.now c.pin.new.self c.pin.ensures.keeps) c.pin.ensures.looks c.copied_pair.ensures.looks.0,
  g.met.B.Blocks.keeps_joins c.args.on.now c.pin.new.self c.copied_pair.new.on c.pin.ensures.keeps c.copied_pair.ensures.looks.1,
)

pub returns-in-None-clause-cause : goal.returns-in-None-clause-cause
returns-in-None-clause-cause g c = refused_since (g.B.Blocks.state c.args.on.now) (g.B.Blocks.state c.pin.new.self) (g.B.Blocks.state c.copied_pair.new.on) (g.met.B.Blocks.keeps_all c.args.on.now c.pin.new.self c.pin.ensures.keeps) c.copied_pair.result c.copied_pair.ensures.cause
