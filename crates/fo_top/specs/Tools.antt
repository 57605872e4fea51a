-- What a run of a tool says, and what the devices tell then.
use Rattle.std.specs.Prelude.{◌≡◌, ℕ, ◌≤◌, List, Option}
use Rattle.fo_base.specs.Cause.{Rose}
use Rattle.fo_disk.specs.Disk.{Block, DiskState}
use Rattle.fo_sound.specs.Device.{Shows}
use Rattle.fo_check_image.specs.Answer.{Reports}
use Rattle.fo_check_image.specs.declared.report.Report.{Report}
use Rattle.fo_links.specs.Clocks.{Readings, SaysNext}
use Rattle.fo_tools.specs.Ending.{PrintsFormat, EndsFormat, WritesNothing, PrintsReport, EndsCheck, MayMiss, MayEndFormat, MayEndCheck, AsksSizes}
use Rattle.fo_tools.specs.declared.end.ToolEnd.{ToolEnd}
use Rattle.fo_top.specs.declared.why.Why.{Why}
use Rattle.fo_top.specs.declared.why.Why.TheVariants as why
use Rattle.fo_top.specs.Ending.{tool_why}

-- what a device tells, how many blocks it was found to have, and how many calls there were
pub record Device : Type 0 where
  pub size : ℕ
  pub calls : ℕ
  pub state : DiskState

abbrev pub device : ℕ → ℕ → DiskState → Device
device size calls state = record { size = size; calls = calls; state = state }

-- `flfmt`, at the clock's next reading
pub record FormatRun (clock : Readings) (main main' arena arena' : Device) (held held' : Option (List ℕ)) (end : Why) : Type 0 where
  pub how : ToolEnd
  pub end_is : end ≡ tool_why how
  pub time : ℕ
  pub now : SaysNext clock time
  pub prints : PrintsFormat main'.size held held' how
  pub sized : MayEndFormat main'.size arena'.size how
  pub asked : AsksSizes main'.size main.calls main'.calls arena.calls arena'.calls how
  pub ends : (image vault : List Block) → Shows main.state.holds image → Shows arena.state.holds vault → EndsFormat time image vault main'.state.holds arena'.state.holds how
  pub main_kept : WritesNothing how → main'.state ≡ main.state
  pub arena_kept : WritesNothing how → arena'.state ≡ arena.state

-- `flchk`, which writes no device
pub record CheckRun (main main' arena arena' : Device) (held held' : Option (List ℕ)) (end : Why) : Type 0 where
  pub how : ToolEnd
  pub end_is : end ≡ tool_why how
  pub sized : MayEndCheck main'.size arena'.size how
  pub asked : AsksSizes main'.size main.calls main'.calls arena.calls arena'.calls how
  pub prints : PrintsReport (λ r. (image vault : List Block) → Shows main.state.holds image → Shows arena.state.holds vault → Reports image vault r) held held' how
  pub ends : (image vault : List Block) → Shows main.state.holds image → Shows arena.state.holds vault → EndsCheck image vault how
  pub only : (image vault : List Block) (r : Report) → Shows main.state.holds image → Shows arena.state.holds vault → Reports image vault r → MayMiss how
  pub main_kept : main'.state ≡ main.state
  pub arena_kept : arena'.state ≡ arena.state

-- counts of faults of the streams and the devices
pub record Counts : Type 0 where
  pub input : ℕ
  pub out : ℕ
  pub main : ℕ
  pub arena : ℕ

-- No count of faults falls, a fault is the end only where that count rose in this call, and a size only where no device failed.
pub record HasCauses (before now : Counts) (end : Why) : Type 0 where
  pub input_later : before.input ≤ now.input
  pub out_later : before.out ≤ now.out
  pub main_later : before.main ≤ now.main
  pub arena_later : before.arena ≤ now.arena
  pub input_rose : end ≡ why.Input → Rose before.input now.input
  pub output_rose : end ≡ why.Output → Rose before.out now.out
  pub main_read : end ≡ why.MainRead → Rose before.main now.main
  pub main_write : end ≡ why.MainWrite → Rose before.main now.main
  pub arena_read : end ≡ why.ArenaRead → Rose before.arena now.arena
  pub arena_write : end ≡ why.ArenaWrite → Rose before.arena now.arena
  pub size : end ≡ why.Size → (now.main ≡ before.main) × (now.arena ≡ before.arena)
