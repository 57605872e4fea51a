use Rattle.std.proofs.Common.{length}
use Rattle.nine_fids.proofs.fids.+least.Given as goal

abbrev pub decreases-least : goal.decreases-least
decreases-least l = length l.fids.now
