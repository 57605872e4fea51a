-- What a write of a data block does.
use Rattle.std.specs.Prelude.{◌≡◌, ◌<◌, ◌≤◌, ℕ, List, Some, Result, OnOk, OnErr}
use Rattle.std.specs.Option.{option_map}
use Rattle.fo_disk.specs.Disk.{DiskState, IsWrite}
use Rattle.fo_buffers.specs.Held.{block_in, held_at}
use Rattle.fo_labels.specs.Spelled.{SpellsLabels}
use Rattle.fo_mind.specs.Parts.{Parts, label_at}
use Rattle.fo_mind.specs.Sound.{IsCurrent}
use Rattle.fo_mind.specs.Turning.{Landed, Missed}

-- A data block was written with the bytes that are held, whose label is live and of the high epoch, or a block of the label table with the
-- labels of memory. A data block is dirty no more where that answered Ok and it is in the tree of memory.
pub record IsWritten {E : Type 0} (at : ℕ) (result : Result Unit E) (before after : DiskState) (old new : Parts) : Type 0 where
  pub bytes : List ℕ
  pub held : old.region.first ≤ at → Some bytes ≡ option_map block_in (held_at old.held at)
  pub current : old.region.first ≤ at → IsCurrent old.one.high (label_at old.region at)
  pub labels : at < old.region.first → SpellsLabels old.region at bytes
  pub device : IsWrite at bytes result before after
  pub landed : OnOk result (Landed at old new)
  pub missed : OnErr result (Missed at old new)
