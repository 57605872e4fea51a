-- A run over two devices that are opened.
use Rattle.std.specs.Prelude.{◌≡◌, ℕ, List, Option, IfSome}
use Rattle.fo_disk.specs.Disk.{Block, DiskState}
use Rattle.fo_world.specs.World.{Faults}
use Rattle.fo_world.specs.Answers.{NotFewer}
use Rattle.fo_world.specs.declared.error.FileError.{FileError}
use Rattle.fo_sound.specs.Device.{Shows}
use Rattle.fo_check.specs.declared.error.CheckError.{CheckError}
use Rattle.fo_check.specs.Answer.{Blames, IsOutside}
use Rattle.fo_check_image.specs.Answer.{Refuses, Reports}
use Rattle.fo_check_image.specs.declared.report.Report.{Report}
use Rattle.fo_links.specs.Clocks.{Readings}
use Rattle.nine_wire.specs.Version.{largest_message}
use Rattle.fo_talk.specs.Conversation.{Goes}
use Rattle.fo_talk.specs.Ending.{Ends as LinkEnds}
use Rattle.fo_talk.specs.declared.end.LinkEnd.{LinkEnd}
use Rattle.fo_service.specs.of_events.Row.{Goes as EventGoes}
use Rattle.fo_script.specs.Script.{starts}
use Rattle.fo_script.specs.Ending.{Ends as ScriptEnds}
use Rattle.fo_script.specs.declared.end.ScriptEnd.{ScriptEnd}
use Rattle.fo_tools.specs.Ends.{end_of_check}
use Rattle.fo_core.specs.Moment.{Moment, counts}
use Rattle.fo_core.specs.Opened.{IsOpened}
use Rattle.fo_core.specs.Ended.{Gives}
use Rattle.fo_top.specs.declared.why.Why.{Why}
use Rattle.fo_top.specs.Ending.{why_of, script_why, tool_why, first_why}

-- what two devices tell, how many blocks the main one was found to have, and how often each failed
pub record Pair : Type 0 where
  pub size : ℕ
  pub main : DiskState
  pub arena : DiskState
  pub faults : Faults

abbrev pub pair : ℕ → DiskState → DiskState → ℕ → ℕ → Pair
pair size main arena main_faults arena_faults = record { size = size; main = main; arena = arena; faults = record { main = main_faults; arena = arena_faults } }

-- ---- the opening

-- The devices were not opened, and nothing was written: the end says why the images of quiet devices that tell are not sound, or is a
-- fault of a read or want of memory.
pub record IsRefused (before after : Pair) (end : Why) : Type 0 where
  pub why : CheckError
  pub end_is : end ≡ tool_why (end_of_check why)
  pub main : after.main ≡ before.main
  pub arena : after.arena ≡ before.arena
  pub later : NotFewer before.faults after.faults
  pub cause : Blames before.faults.main after.faults.main before.faults.arena after.faults.arena why
  pub answer : (image vault : List Block) → Shows before.main.holds image → Shows before.arena.holds vault → Refuses image vault why
  pub only : (image vault : List Block) (report : Report) → Shows before.main.holds image → Shows before.arena.holds vault → Reports image vault report → IsOutside why

-- The devices were opened, and stand at this moment, before any message. The images of quiet devices that tell are sound.
pub record Begins (before : Pair) (first : Moment) : Type 0 where
  pub opened : IsOpened before.main before.arena first
  pub later : NotFewer before.faults (counts first)
  pub sound : (image vault : List Block) → Shows before.main.holds image → Shows before.arena.holds vault → (report : Report) × Reports image vault report

-- ---- the end

-- What stood at this last moment was ended, and the devices are given back: all is settled, no removal is queued and the main device is
-- quiet, or that failed by a fault of the main device or for want of memory. The end of the run is the first cause.
pub record Finishes (last : Moment) (how : Why) (after : Pair) (end : Why) : Type 0 where
  pub failed : Option FileError
  pub end_is : end ≡ first_why how failed
  pub gives : Gives last failed after.size after.main after.faults.main after.arena after.faults.arena

-- ---- the whole

-- Something was done (`does`) from a first state on, which stands at this moment, to a last one, and it ended so; then the devices were given
-- back.
pub record Works {M : Type 0} (moment : M → Moment) (does : M → M → Why → Type 0) (begun : Moment) (after : Pair) (end : Why) : Type 0 where
  pub first : M
  pub first_is : moment first ≡ begun
  pub last : M
  pub how : Why
  pub done : does first last how
  pub later : NotFewer (counts begun) (counts (moment last))
  pub finishes : Finishes (moment last) how after end

-- The opening was refused, and the streams are as they were (`unused`); or the devices were opened, something was done, and they were given
-- back.
pub data Serves {M : Type 0} (moment : M → Moment) (does : M → M → Why → Type 0) (unused : Type 0) (before after : Pair) (end : Why) : Type 0 where
  refused : IsRefused before after end → unused → Serves moment does unused before after end
  served : (begun : Moment) → Begins before begun → Works moment does begun after end → Serves moment does unused before after end

-- ---- what is done

-- what the source has left and the sink holds, where they tell that
pub record Streams : Type 0 where
  pub left : Option (List ℕ)
  pub held : Option (List ℕ)

abbrev pub streams : Option (List ℕ) → Option (List ℕ) → Streams
streams left held = record { left = left; held = held }

-- `9p`: a conversation on the bytes of the input, from the first state to the last one.
pub record Talks {M : Type 0} (goes : Goes M) (faults : M → Faults) (clock : Readings) (before after : Streams) (first last : M) (how : Why) : Type 0 where
  pub link : LinkEnd
  pub how_is : how ≡ why_of link
  pub readings : Readings
  pub talk : IfSome before.left (λ bytes. LinkEnds goes (record { limit = largest_message; position = record { clock = clock; state = first; faults = faults first } })
      bytes after.left before.held after.held (record { clock = readings; state = last; faults = faults last }) link)

-- `turns`: a script, from the first state to the last one.
pub record Scripts {M : Type 0} (goes : EventGoes M) (before after : Streams) (first last : M) (how : Why) : Type 0 where
  pub script : ScriptEnd
  pub how_is : how ≡ script_why script
  pub ran : IfSome before.left (λ bytes. ScriptEnds goes (starts first) bytes after.left before.held after.held last script)
