use Rattle.fo_looks.proofs.Looks.{looks_joins}
use Rattle.fo_files_edit.proofs.of_files_at.Joining.{caused_since}
use Rattle.fo_files_edit.proofs.of_files_at.Ways.{way_stays}
use Rattle.fo_files_rename.proofs.own.places_for.Goals as goal

pub is_alone-requires-clause-silent : goal.is_alone-requires-clause-silent
is_alone-requires-clause-silent g c =
    λ h. c.requires.silent ((g.met.B.Blocks.keeps_all c.args.on.now c.own_spare.new.on c.own_spare.ensures.looks.1).still_tells.0 h)

pub is_alone-requires-clause-way : goal.is_alone-requires-clause-way
is_alone-requires-clause-way g c =
    way_stays (g.B.Blocks.state c.args.on.now) (g.B.Blocks.state c.own_spare.new.on) c.args.root c.args.trail.now c.args.way.now (g.met.B.Blocks.keeps_all c.args.on.now c.own_spare.new.on c.own_spare.ensures.looks.1) c.requires.way

pub returns-in-Ok-is_alone-clause-looks : goal.returns-in-Ok-is_alone-clause-looks
returns-in-Ok-is_alone-clause-looks g c =
    (looks_joins (g.met.B.Blocks.keeps_all c.args.on.now c.own_spare.new.on c.own_spare.ensures.looks.1) c.own_spare.ensures.looks.0 c.is_alone.ensures.looks.0, g.met.B.Blocks.keeps_joins c.args.on.now c.own_spare.new.on c.is_alone.new.on c.own_spare.ensures.looks.1 c.is_alone.ensures.looks.1)

pub returns-in-Err-is_alone-clause-looks : goal.returns-in-Err-is_alone-clause-looks
returns-in-Err-is_alone-clause-looks g c =
    (looks_joins (g.met.B.Blocks.keeps_all c.args.on.now c.own_spare.new.on c.own_spare.ensures.looks.1) c.own_spare.ensures.looks.0 c.is_alone.ensures.looks.0, g.met.B.Blocks.keeps_joins c.args.on.now c.own_spare.new.on c.is_alone.new.on c.own_spare.ensures.looks.1 c.is_alone.ensures.looks.1)

pub returns-in-Err-is_alone-clause-cause : goal.returns-in-Err-is_alone-clause-cause
returns-in-Err-is_alone-clause-cause g c =
    caused_since (g.B.Blocks.state c.args.on.now) (g.B.Blocks.state c.own_spare.new.on) (g.B.Blocks.state c.is_alone.new.on) (g.met.B.Blocks.keeps_all c.args.on.now c.own_spare.new.on c.own_spare.ensures.looks.1) c.in-Err-is_alone.why c.in-Err-is_alone.ensures.cause
