-- How a run ends.
use Rattle.std.specs.Prelude.{ℕ, Option, Some, None}
use Rattle.fo_talk.specs.declared.end.LinkEnd.{LinkEnd}
use Rattle.fo_talk.specs.declared.end.LinkEnd.TheVariants as ends
use Rattle.fo_script.specs.declared.end.ScriptEnd.{ScriptEnd}
use Rattle.fo_script.specs.declared.end.ScriptEnd.TheVariants as script
use Rattle.fo_tools.specs.declared.end.ToolEnd.{ToolEnd}
use Rattle.fo_tools.specs.declared.end.ToolEnd.TheVariants as tool
use Rattle.fo_world.specs.declared.error.FileError.{FileError}
use Rattle.fo_world.specs.declared.error.FileError.TheVariants as error
use Rattle.fo_top.specs.declared.why.Why.{Why}
use Rattle.fo_top.specs.declared.why.Why.TheVariants as why

-- the end of a run whose one conversation ended so
abbrev pub why_of : LinkEnd → Why
why_of ends.End = why.Ended
why_of (ends.BadMessage n) = why.BadInput n
why_of ends.ReadFault = why.Input
why_of ends.WriteFault = why.Output
why_of ends.Memory = why.Memory

-- the end of a run whose script ended so
abbrev pub script_why : ScriptEnd → Why
script_why script.End = why.Ended
script_why (script.BadLine n) = why.BadInput n
script_why script.ReadFault = why.Input
script_why script.WriteFault = why.Output
script_why script.Spent = why.Spent
script_why script.Memory = why.Memory

-- the end of a run of a tool that ended so, and of one that could not open its devices
abbrev pub tool_why : ToolEnd → Why
tool_why tool.Ended = why.Ended
tool_why tool.NotFossil = why.NotFossil
tool_why (tool.Unsound rule block) = why.Unsound rule block
tool_why tool.MainRead = why.MainRead
tool_why tool.MainWrite = why.MainWrite
tool_why tool.ArenaRead = why.ArenaRead
tool_why tool.ArenaWrite = why.ArenaWrite
tool_why tool.Output = why.Output
tool_why tool.Size = why.Size
tool_why tool.Memory = why.Memory
tool_why tool.NotArena = why.NotArena
tool_why tool.NotBuilt = why.NotBuilt

-- why the last settling failed: a fault of the main device, or want of memory
abbrev pub failed_why : FileError → Why
failed_why error.MainRead = why.MainRead
failed_why error.MainWrite = why.MainWrite
failed_why error.MainSync = why.MainWrite
failed_why _ = why.Memory

-- why the last settling failed, if it did
abbrev pub finish_why : Option FileError → Why
finish_why None = why.Ended
finish_why (Some e) = failed_why e

-- the first cause: what ended the requests, but for the end of their input; else why the last settling failed, if it did
abbrev pub first_why : Why → Option FileError → Why
first_why why.Ended failed = finish_why failed
first_why how failed = how

-- the status of each end
abbrev pub status_of : Why → ℕ
status_of why.Ended = 0
status_of why.Usage = 1
status_of why.NotFossil = 2
status_of (why.Unsound rule block) = 3
status_of why.MainRead = 4
status_of why.MainWrite = 5
status_of why.ArenaRead = 6
status_of why.ArenaWrite = 7
status_of why.Input = 8
status_of why.Output = 9
status_of why.Size = 10
status_of why.Memory = 11
status_of (why.BadInput n) = 13
status_of why.NotArena = 14
status_of why.Spent = 15
status_of why.NotBuilt = 16
