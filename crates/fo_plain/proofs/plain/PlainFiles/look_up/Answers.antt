use Rattle.fo_plain.specs.Kept.{kept}
use Rattle.fo_plain.proofs.Reach.{parent-told}
use Rattle.fo_plain.proofs.plain.PlainFiles.look_up.Goals as goal

pub returns : goal.returns
returns c = parent-told (kept c.args.self.now) c.args.at.now _ c.look.result c.in_ok-_reached.ensures.answer (rw c.in_ok-above.ensures at c.look.ensures)
