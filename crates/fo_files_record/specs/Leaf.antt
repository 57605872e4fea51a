-- Leaves of a directory that may be changed.
use Rattle.std.specs.Prelude.{◌≡◌, ℕ}
use Rattle.fo_image.specs.declared.types.Kind.TheVariants.{Dir}
use Rattle.fo_image.specs.declared.types.State.TheVariants.{Live}
use Rattle.fo_ports.specs.State.{State}
use Rattle.fo_dir_remove.specs.of_dir_put.Puts.{IsOwnedRecords}

-- A leaf of records: a data block that is owned.
pub record IsRecordsAt (s : State) (leaf : ℕ) : Type 0 where
  pub is_one : s.is_block leaf
  pub owned : IsOwnedRecords s leaf

-- A leaf of entries: a data block, pinned, live, and of the current epoch.
pub record IsEntriesAt (s : State) (entries : ℕ) : Type 0 where
  pub is_one : s.is_block entries
  pub is_pinned : s.pinned entries
  pub live : (s.label entries).state ≡ Live
  pub current : (s.label entries).epoch ≡ s.high
  pub leaf_kind : (s.label entries).kind ≡ Dir 0
