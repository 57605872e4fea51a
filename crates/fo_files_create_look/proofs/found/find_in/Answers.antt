use Rattle.fo_looks.proofs.Looks.{looks_joins}
use Rattle.fo_files_along.proofs.of_files_at.Ways.{way_stays}
use Rattle.fo_files_along.proofs.of_files_look.Telling.{cause_since}
use Rattle.fo_files_create_look.proofs.found.find_in.Goals as goal

pub find_place-requires-clause-way : goal.find_place-requires-clause-way
find_place-requires-clause-way g c = way_stays (g.B.Blocks.state c.args.on.now) (g.B.Blocks.state c.may_make.new.on) c.args.root c.args.at.now.trail c.args.way (g.met.B.Blocks.keeps_all c.args.on.now c.may_make.new.on c.may_make.ensures.looks.1) c.requires.way

pub returns-in-Err-find_place-clause-refused : goal.returns-in-Err-find_place-clause-refused
returns-in-Err-find_place-clause-refused g c = c.in-Err-find_place.ensures.refused c.args.named.name c.args.named.mode c.args.halted

pub returns-in-Ok-find_place-clause-looks : goal.returns-in-Ok-find_place-clause-looks
returns-in-Ok-find_place-clause-looks g c = (
  looks_joins (g.met.B.Blocks.keeps_all c.args.on.now c.may_make.new.on c.may_make.ensures.looks.1) c.may_make.ensures.looks.0 c.find_place.ensures.looks.0,
  g.met.B.Blocks.keeps_joins c.args.on.now c.may_make.new.on c.find_place.new.on c.may_make.ensures.looks.1 c.find_place.ensures.looks.1,
)

pub returns-in-Err-find_place-clause-looks : goal.returns-in-Err-find_place-clause-looks
returns-in-Err-find_place-clause-looks g c = (
  looks_joins (g.met.B.Blocks.keeps_all c.args.on.now c.may_make.new.on c.may_make.ensures.looks.1) c.may_make.ensures.looks.0 c.find_place.ensures.looks.0,
  g.met.B.Blocks.keeps_joins c.args.on.now c.may_make.new.on c.find_place.new.on c.may_make.ensures.looks.1 c.find_place.ensures.looks.1,
)

pub returns-in-Err-find_place-clause-cause : goal.returns-in-Err-find_place-clause-cause
returns-in-Err-find_place-clause-cause g c = cause_since (g.B.Blocks.state c.args.on.now) (g.B.Blocks.state c.may_make.new.on) (g.B.Blocks.state c.find_place.new.on) (g.met.B.Blocks.keeps_all c.args.on.now c.may_make.new.on c.may_make.ensures.looks.1) c.in-Err-find_place.why c.in-Err-find_place.ensures.cause
