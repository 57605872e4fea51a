use Rattle.fo_dir_images.proofs.Naming.{stand_alone}
use Rattle.fo_dir_images.proofs.laws.names_stand_alone.Goals as goal

pub returns : goal.returns
returns g c = λ tells. stand_alone (g.B.Blocks.state c.args.on.now) (c.leaves_are_shown.ensures tells) (c.leaves_in_place_are_there.ensures tells)
