use Rattle.fo_files_along.proofs.of_files_at.Ways.{way_stays}
use Rattle.fo_files_create_look.proofs.found.find_place.Goals as goal

pub found_at-requires-clause-way : goal.found_at-requires-clause-way
found_at-requires-clause-way g c = way_stays (g.B.Blocks.state c.args.on.now) (g.B.Blocks.state c.places_in.new.on) c.args.root c.args.at.now.trail c.args.way (g.met.B.Blocks.keeps_all c.args.on.now c.places_in.new.on c.places_in.ensures.looks.1) c.requires.way
