use Rattle.fo_shown.proofs.Showing.{slot_shows}
use Rattle.fo_shown.proofs.laws.slot_put.Goals as goal

pub returns : goal.returns
returns g c =
    slot_shows c.requires.nowhere c.requires.images
