-- An archive that is being made, and batches of it.
use Rattle.std.specs.Prelude.{◌≡◌, ◌≢◌, map, None}
use Rattle.fo_arch_hash.specs.Batch.{kept}
use Rattle.fo_arch_hash.specs.declared.types.Batch.{Batch}
use Rattle.fo_arch_form.specs.Stored.{found, count_of}
use Rattle.fo_arch_walk.specs.Pieces.{AreFresh, AreApart}
use Rattle.fo_arch.specs.declared.archive.Archive.{Archive}

-- The root block is stored, and so all of the snapshot.
abbrev pub HasWhole : Archive → Type 0
HasWhole a = found a.done a.root 17 ≢ None

-- It is of the same snapshot, and was begun with the same archive before.
pub record IsSameSnapshot (a b : Archive) : Type 0 where
  pub epoch_is : b.epoch ≡ a.epoch
  pub time_is : b.time ≡ a.time
  pub root_is : b.root ≡ a.root
  pub prev_is : b.prev ≡ a.prev

-- The batch is one of this archive, as it is now: none of its blocks is stored, and no two are of one address and kind.
pub record IsOf (a : Archive) (b : Batch) : Type 0 where
  pub epoch_is : b.epoch ≡ a.epoch
  pub stored_is : b.stored ≡ count_of a.done
  pub fresh : AreFresh a.done (map kept b.pieces.items)
  pub apart : AreApart (map kept b.pieces.items)
