-- How a tool ends where the format or the check of the devices fails.
use Rattle.std.specs.Prelude.{◌==◌, if◌then◌else◌}
use Rattle.fo_disk.specs.declared.disk.DiskFault.{DiskFault}
use Rattle.fo_disk.specs.declared.disk.DiskFault.TheVariants.{Read, Write, Sync}
use Rattle.fo_format.specs.declared.error.FormatError.{FormatError}
use Rattle.fo_format.specs.declared.error.FormatError.TheVariants as format
use Rattle.fo_check.specs.declared.error.CheckError.{CheckError}
use Rattle.fo_check.specs.declared.error.CheckError.TheVariants as check
use Rattle.fo_tools.specs.declared.end.ToolEnd.{ToolEnd}
use Rattle.fo_tools.specs.declared.end.ToolEnd.TheVariants as end

-- a fault of the main device
abbrev pub end_of_main : DiskFault → ToolEnd
end_of_main Read = end.MainRead
end_of_main Write = end.MainWrite
end_of_main Sync = end.MainWrite

-- a fault of the arena
abbrev pub end_of_arena : DiskFault → ToolEnd
end_of_arena Read = end.ArenaRead
end_of_arena Write = end.ArenaWrite
end_of_arena Sync = end.ArenaWrite

abbrev pub end_of_format : FormatError → ToolEnd
end_of_format format.Size = end.Size
end_of_format (format.Main fault) = end_of_main fault
end_of_format (format.Arena fault) = end_of_arena fault
end_of_format format.Memory = end.Memory

-- Rule 1 says that the main device is a fossil image.
abbrev pub end_of_check : CheckError → ToolEnd
end_of_check check.Size = end.Size
end_of_check check.NotArena = end.NotArena
end_of_check check.NotBuilt = end.NotBuilt
end_of_check (check.Unsound rule block) = if rule == 1 then end.NotFossil else end.Unsound rule block
end_of_check (check.Main fault) = end_of_main fault
end_of_check (check.Arena fault) = end_of_arena fault
end_of_check check.Memory = end.Memory
