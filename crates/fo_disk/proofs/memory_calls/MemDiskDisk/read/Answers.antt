use Rattle.std.proofs.Common.{◌∙◌}
use Rattle.fo_disk.proofs.Cells.{read_version, has_latest}
use Rattle.fo_disk.proofs.memory_calls.MemDiskDisk.read.Goals as goal

pub returns-clause-bytes : goal.returns-clause-bytes
returns-clause-bytes c =
    λ here. has_latest c.args.self.now.cells.items _ _ c.requires.block (c.copy_from_slice.ensures.after ∙ read_version _ _ _ _ c.requires.block c.index-cell.ensures c.last.ensures.latest)

pub returns-clause-latest : goal.returns-clause-latest
returns-clause-latest c = c.copy_from_slice.ensures.after ∙ read_version _ _ _ _ c.requires.block c.index-cell.ensures c.last.ensures.latest
