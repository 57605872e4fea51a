use Rattle.std.specs.Prelude.{Err}
use Rattle.fo_looks.proofs.Looks.{looks_joins}
use Rattle.fo_files_along.proofs.of_files_at.Joining.{refused_since}
use Rattle.fo_files_along.proofs.of_files_at.Ways.{way_stays}
use Rattle.fo_files_along.proofs.Ways.{file_holds}
use Rattle.fo_files_create_look.proofs.place.places_in.Goals as goal

pub spot_for-requires-clause-holds : goal.spot_for-requires-clause-holds
spot_for-requires-clause-holds g c = file_holds (g.B.Blocks.state c.args.on.now) c.args.root c.requires.way.0 c.args.way.now c.requires.way.1

pub spare_of-requires-clause-way : goal.spare_of-requires-clause-way
spare_of-requires-clause-way g c = (c.requires.way.0, way_stays (g.B.Blocks.state c.args.on.now) (g.B.Blocks.state c.spot_for.new.on) c.args.root c.requires.way.0 c.args.way.now (g.met.B.Blocks.keeps_all c.args.on.now c.spot_for.new.on c.spot_for.ensures.looks.1) c.requires.way.1)

pub returns-in-Ok-spare_of-clause-looks : goal.returns-in-Ok-spare_of-clause-looks
returns-in-Ok-spare_of-clause-looks g c = (
  looks_joins (g.met.B.Blocks.keeps_all c.args.on.now c.spot_for.new.on c.spot_for.ensures.looks.1) c.spot_for.ensures.looks.0 c.spare_of.ensures.looks.0,
  g.met.B.Blocks.keeps_joins c.args.on.now c.spot_for.new.on c.spare_of.new.on c.spot_for.ensures.looks.1 c.spare_of.ensures.looks.1,
)

pub returns-in-Err-spare_of-clause-looks : goal.returns-in-Err-spare_of-clause-looks
returns-in-Err-spare_of-clause-looks g c = (
  looks_joins (g.met.B.Blocks.keeps_all c.args.on.now c.spot_for.new.on c.spot_for.ensures.looks.1) c.spot_for.ensures.looks.0 c.spare_of.ensures.looks.0,
  g.met.B.Blocks.keeps_joins c.args.on.now c.spot_for.new.on c.spare_of.new.on c.spot_for.ensures.looks.1 c.spare_of.ensures.looks.1,
)

pub returns-in-Err-spare_of-clause-cause : goal.returns-in-Err-spare_of-clause-cause
returns-in-Err-spare_of-clause-cause g c = refused_since {A = Unit {0}} (g.B.Blocks.state c.args.on.now) (g.B.Blocks.state c.spot_for.new.on) (g.B.Blocks.state c.spare_of.new.on) (g.met.B.Blocks.keeps_all c.args.on.now c.spot_for.new.on c.spot_for.ensures.looks.1) (Err c.in-Err-spare_of.why) c.in-Err-spare_of.ensures.cause
