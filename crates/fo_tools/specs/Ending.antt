-- How a tool ends, what it has printed then, and what the devices hold.
use Rattle.std.specs.Prelude.{◌≡◌, ◌≢◌, ◌⊎◌, ℕ, ◌≤◌, List, Option}
use Rattle.fo_base.specs.Cause.{Rose}
use Rattle.fo_links.specs.Links.{GainsEnd}
use Rattle.fo_disk.specs.Disk.{Block, Content}
use Rattle.fo_sound.specs.Sizes.{HasSizes, IsMainSize, InRange}
use Rattle.fo_format.specs.Formatted.{Formats}
use Rattle.fo_check.specs.Answer.{IsNoArena, IsNotBuilt}
use Rattle.fo_check_image.specs.Answer.{IsUnsound}
use Rattle.fo_check_image.specs.declared.report.Report.{Report}
use Rattle.fo_tools.specs.Lines.{format_line, report_line, PutsFront}
use Rattle.fo_tools.specs.declared.end.ToolEnd.{ToolEnd}
use Rattle.fo_tools.specs.declared.end.ToolEnd.TheVariants as end

-- ---- causes

-- counts of faults of the devices and of the output
pub record Counts : Type 0 where
  pub main : ℕ
  pub arena : ℕ
  pub out : ℕ

-- No count of faults falls, a fault is the end only where that count rose, and a size only where no device failed.
pub record HasCauses (before now : Counts) (how : ToolEnd) : Type 0 where
  pub main_later : before.main ≤ now.main
  pub arena_later : before.arena ≤ now.arena
  pub out_later : before.out ≤ now.out
  pub main_read : how ≡ end.MainRead → Rose before.main now.main
  pub main_write : how ≡ end.MainWrite → Rose before.main now.main
  pub arena_read : how ≡ end.ArenaRead → Rose before.arena now.arena
  pub arena_write : how ≡ end.ArenaWrite → Rose before.arena now.arena
  pub output : how ≡ end.Output → Rose before.out now.out
  pub size : how ≡ end.Size → (now.main ≡ before.main) × (now.arena ≡ before.arena)

-- ---- over any devices

-- How flfmt may end, where so many blocks were found: for a size exactly where one is out of range, but for blocks that could not
-- be counted; and never for what an image holds, since it looks at none.
abbrev pub MayEndFormat : ℕ → ℕ → ToolEnd → Type 0
MayEndFormat main arena end.Size = ¬ InRange main arena
MayEndFormat main arena end.MainRead = Unit {0}
MayEndFormat main arena end.ArenaRead = IsMainSize main
MayEndFormat main arena end.NotFossil = ⊥
MayEndFormat main arena (end.Unsound rule block) = ⊥
MayEndFormat main arena end.NotArena = ⊥
MayEndFormat main arena end.NotBuilt = ⊥
MayEndFormat main arena _ = InRange main arena

-- How flchk may end, where so many blocks were found: for a size exactly where one is out of range, but for reads that failed; and
-- never for a write, since it writes nothing.
abbrev pub MayEndCheck : ℕ → ℕ → ToolEnd → Type 0
MayEndCheck main arena end.Size = ¬ InRange main arena
MayEndCheck main arena end.MainRead = Unit {0}
MayEndCheck main arena end.ArenaRead = IsMainSize main
MayEndCheck main arena end.MainWrite = ⊥
MayEndCheck main arena end.ArenaWrite = ⊥
MayEndCheck main arena _ = InRange main arena

-- A size is the end only where the main device, of which so many blocks were found, was asked for that number, and so was the arena
-- if it is in range. Of both devices the calls before and after are counted.
abbrev pub AsksSizes : ℕ → ℕ → ℕ → ℕ → ℕ → ToolEnd → Type 0
AsksSizes size main main' arena arena' how = how ≡ end.Size → Rose main main' × (IsMainSize size → Rose arena arena')

-- ---- flfmt

-- The line was printed, or a front of it where the output failed; else nothing. `blocks` is the main device's number of blocks.
abbrev pub PrintsFormat : ℕ → Option (List ℕ) → Option (List ℕ) → ToolEnd → Type 0
PrintsFormat blocks held held' end.Ended = GainsEnd (format_line blocks) held held'
PrintsFormat blocks held held' end.Output = PutsFront (format_line blocks) held held'
PrintsFormat blocks held held' _ = held' ≡ held

-- What quiet devices that tell what they hold have then. An image is not looked at before it is formatted.
abbrev pub EndsFormat : ℕ → List Block → List Block → Content → Content → ToolEnd → Type 0
EndsFormat time image vault main arena end.Ended = Formats time image vault main arena
EndsFormat time image vault main arena end.Output = Formats time image vault main arena
EndsFormat time image vault main arena end.Size = ¬ HasSizes image vault
EndsFormat time image vault main arena end.MainRead = Unit {0}
EndsFormat time image vault main arena end.MainWrite = HasSizes image vault
EndsFormat time image vault main arena end.ArenaRead = Unit {0}
EndsFormat time image vault main arena end.ArenaWrite = HasSizes image vault
EndsFormat time image vault main arena end.Memory = HasSizes image vault
EndsFormat time image vault main arena _ = ⊥

-- nothing was written
abbrev pub WritesNothing : ToolEnd → Type 0
WritesNothing how = (how ≡ end.Size) ⊎ ((how ≡ end.MainRead) ⊎ ((how ≡ end.ArenaRead) ⊎ (how ≡ end.Memory)))

-- ---- flchk

-- The line of a report was printed, or a front of it where the output failed; else nothing.
abbrev pub PrintsReport : (Report → Type 0) → Option (List ℕ) → Option (List ℕ) → ToolEnd → Type 0
PrintsReport Right held held' end.Ended = (r : Report) × Right r × GainsEnd (report_line r) held held'
PrintsReport Right held held' end.Output = (r : Report) × Right r × PutsFront (report_line r) held held'
PrintsReport Right held held' _ = held' ≡ held

-- Why there is no report. A main device without header or super block is no fossil image.
abbrev pub EndsCheck : List Block → List Block → ToolEnd → Type 0
EndsCheck image vault end.Size = ¬ HasSizes image vault
EndsCheck image vault end.NotFossil = (block : ℕ) × IsUnsound image vault 1 block
EndsCheck image vault end.NotArena = IsNoArena image vault
EndsCheck image vault end.NotBuilt = IsNotBuilt image vault
EndsCheck image vault (end.Unsound rule block) = IsUnsound image vault rule block × (rule ≢ 1)
EndsCheck image vault end.MainWrite = ⊥
EndsCheck image vault end.ArenaWrite = ⊥
EndsCheck image vault _ = Unit {0}

-- The report was found, but for a fault of a read, of the output, or want of memory.
abbrev pub MayMiss : ToolEnd → Type 0
MayMiss how = (how ≡ end.Ended) ⊎ ((how ≡ end.Output) ⊎ ((how ≡ end.MainRead) ⊎ ((how ≡ end.ArenaRead) ⊎ (how ≡ end.Memory))))
