use Rattle.fo_shown.proofs.Showing.{slot_shows, cleared_nowhere}
use Rattle.fo_shown.proofs.laws.slot_cleared.Goals as goal

pub returns : goal.returns
returns g c =
    slot_shows (cleared_nowhere (((g.B.Blocks.state c.args.before.now).now c.args.at).slot c.args.i)) c.requires.images
