-- A run over two devices that were opened.
use Rattle.std.proofs.Common.{List}
use Rattle.fo_disk.specs.Disk.{Block}
use Rattle.fo_world.specs.Answers.{NotFewer}
use Rattle.fo_sound.specs.Device.{Shows}
use Rattle.fo_check_image.specs.Answer.{Reports}
use Rattle.fo_check_image.specs.declared.report.Report.{Report}
use Rattle.fo_core.specs.Moment.{Moment, counts}
use Rattle.fo_core.specs.Opened.{IsOpened}
use Rattle.fo_top.specs.declared.why.Why.{Why}
use Rattle.fo_top.specs.Served.{Pair, Works, Serves, served}

pub serves_of : {M : Type 0} (moment : M → Moment) (does : M → M → Why → Type 0) (unused : Type 0) (before after : Pair) (end : Why) (begun : Moment)
    → Works moment does begun after end → IsOpened before.main before.arena begun → NotFewer before.faults (counts begun)
    → ((image vault : List Block) → Shows before.main.holds image → Shows before.arena.holds vault → (report : Report) × Reports image vault report)
    → Serves moment does unused before after end
serves_of moment does unused before after end begun works opened later sound = served begun (record { opened = opened; later = later; sound = sound }) works
