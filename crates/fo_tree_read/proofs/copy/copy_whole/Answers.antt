use Rattle.fo_tree_read.proofs.Slots.{only_place}
use Rattle.fo_tree_read.proofs.copy.copy_whole.Goals as goal

pub get-requires-clause-place : goal.get-requires-clause-place
get-requires-clause-place g c = λ told p stands. only_place (g.met.B.Blocks.one_place c.args.on.now) (c.requires.told told) p stands
