use Rattle.fo_looks.proofs.Looks.{looks_joins}
use Rattle.fo_files_create_look.proofs.found.find_at.Goals as goal

pub returns-in-Err-clause-refused : goal.returns-in-Err-clause-refused
returns-in-Err-clause-refused g c = c.in-Err.ensures.refused c.args.named.name c.args.named.mode c.args.halted

pub returns-in-Ok-find_in-clause-looks : goal.returns-in-Ok-find_in-clause-looks
returns-in-Ok-find_in-clause-looks g c = (
  looks_joins (g.met.B.Blocks.keeps_all c.args.on.now c.way_to_dir.new.on c.way_to_dir.ensures.looks.1) c.way_to_dir.ensures.looks.0 c.find_in.ensures.looks.0,
  g.met.B.Blocks.keeps_joins c.args.on.now c.way_to_dir.new.on c.find_in.new.on c.way_to_dir.ensures.looks.1 c.find_in.ensures.looks.1,
)

pub returns-in-Err-find_in-clause-looks : goal.returns-in-Err-find_in-clause-looks
returns-in-Err-find_in-clause-looks g c = (
  looks_joins (g.met.B.Blocks.keeps_all c.args.on.now c.way_to_dir.new.on c.way_to_dir.ensures.looks.1) c.way_to_dir.ensures.looks.0 c.find_in.ensures.looks.0,
  g.met.B.Blocks.keeps_joins c.args.on.now c.way_to_dir.new.on c.find_in.new.on c.way_to_dir.ensures.looks.1 c.find_in.ensures.looks.1,
)
