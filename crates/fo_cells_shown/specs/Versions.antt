-- Which data blocks get a new version.
use Rattle.std.specs.Prelude.{◌≡◌, ◌⊎◌, ◌<◌, ℕ, true, false, length}
use Rattle.std.specs.List.{Contains}
use Rattle.fo_disk.specs.Disk.{Block, Content, versions_of, IsSettled}
use Rattle.fo_cells_held.specs.Held.{MayGetVersion}
use Rattle.fo_cells_all.specs.All.{Kept, Format}

-- Each version of a data block was there, or the block is this one, which may get one: its label is live and of the high epoch (or, of a
-- snapshot's new root, of the next), or it was closed in its own epoch after a failed write.
abbrev pub GetsVersions : ℕ → Kept → Format → Content → Content → Type 0
GetsVersions at c f old new = (b : ℕ) (v : Block) → f.is_data b ≡ true → Contains (versions_of new b) v → Contains (versions_of old b) v ⊎ ((b ≡ at) × MayGetVersion c.mind c.flags c.high b)

-- Each version was there.
abbrev pub GetsNone : Content → Content → Type 0
GetsNone old new = (b : ℕ) (v : Block) → b < length old → Contains (versions_of new b) v → Contains (versions_of old b) v

-- What a sync leaves that answers Ok: a block has several versions only if its last write failed; what isn't dirty is there as memory has it.
pub record IsLeftSettled (c : Kept) (new : Content) : Type 0 where
  pub one : (b : ℕ) → b < length new → c.flags.failed b ≡ false → IsSettled new b
  pub clean : (b : ℕ) (v : Block) → b < length new → c.flags.failed b ≡ false → c.flags.dirty b ≡ false → Contains (versions_of new b) v → c.mind.read b v ≡ c.mind.memory b
