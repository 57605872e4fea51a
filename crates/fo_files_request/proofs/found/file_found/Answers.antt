use Rattle.fo_looks.proofs.Looks.{looks_joins}
use Rattle.fo_files_into.proofs.of_files_at.Ways.{way_stays}
use Rattle.fo_files_into.proofs.of_files_along.Refusing.{cause_later}
use Rattle.fo_files_request.proofs.found.file_found.Goals as goal

pub ready_way-requires-clause-silent : goal.ready_way-requires-clause-silent
ready_way-requires-clause-silent g c = λ h. c.requires.may.silent ((g.met.B.Blocks.keeps_all c.args.on.now c.way_to_file.new.on c.way_to_file.ensures.looks.1).still_tells.0 h)

pub returns-in-Ok-ready_way-clause-file : goal.returns-in-Ok-ready_way-clause-file
returns-in-Ok-ready_way-clause-file g c = (
  c.in-Ok.way,
  way_stays (g.B.Blocks.state c.way_to_file.new.on) (g.B.Blocks.state c.ready_way.new.on) c.args.root c.args.trail.now c.in-Ok.way (g.met.B.Blocks.keeps_all c.way_to_file.new.on c.ready_way.new.on c.ready_way.ensures.looks.1) c.in-Ok.ensures.way,
  c.in-Ok.ensures.file,
  c.in-Ok-ready_way.ensures.file.0,
  c.in-Ok-ready_way.ensures.file.1,
)

pub returns-in-Ok-ready_way-clause-looks : goal.returns-in-Ok-ready_way-clause-looks
returns-in-Ok-ready_way-clause-looks g c = (
  looks_joins (g.met.B.Blocks.keeps_all c.args.on.now c.way_to_file.new.on c.way_to_file.ensures.looks.1) c.way_to_file.ensures.looks.0 c.ready_way.ensures.looks.0,
  g.met.B.Blocks.keeps_joins c.args.on.now c.way_to_file.new.on c.ready_way.new.on c.way_to_file.ensures.looks.1 c.ready_way.ensures.looks.1,
)

pub returns-in-Err-ready_way-clause-looks : goal.returns-in-Err-ready_way-clause-looks
returns-in-Err-ready_way-clause-looks g c = (
  looks_joins (g.met.B.Blocks.keeps_all c.args.on.now c.way_to_file.new.on c.way_to_file.ensures.looks.1) c.way_to_file.ensures.looks.0 c.ready_way.ensures.looks.0,
  g.met.B.Blocks.keeps_joins c.args.on.now c.way_to_file.new.on c.ready_way.new.on c.way_to_file.ensures.looks.1 c.ready_way.ensures.looks.1,
)

pub returns-in-Err-ready_way-clause-cause : goal.returns-in-Err-ready_way-clause-cause
returns-in-Err-ready_way-clause-cause g c =
    cause_later (g.B.Blocks.state c.args.on.now) (g.B.Blocks.state c.way_to_file.new.on) (g.B.Blocks.state c.ready_way.new.on) (λ n. ⊥) 0 (g.met.B.Blocks.keeps_all c.args.on.now c.way_to_file.new.on c.way_to_file.ensures.looks.1) c.in-Err-ready_way.why c.in-Err-ready_way.ensures.cause
