use Rattle.std.proofs.Common.{rules}
use Rattle.fo_image.specs.Format.{PointerHolds}
use Rattle.test_tree.proofs.Rigs.{stands_held}
use Rattle.test_tree.proofs.held.shows.Goals as goal

pub overwrite-requires-clause-stands : goal.overwrite-requires-clause-stands
overwrite-requires-clause-stands c = stands_held _ _ c.source-ways.result (search rules) c.source-ways.ensures
