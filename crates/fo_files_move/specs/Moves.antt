-- A record that moves between two leaves.
use Rattle.std.specs.Prelude.{ℕ, List}
use Rattle.fo_image.specs.declared.record.Record.{Record}
use Rattle.fo_meta.specs.Leaf.{IsLeaf}
use Rattle.fo_dir_move.specs.of_dir_add.Adds.{HasAdded, IsFullFor}
use Rattle.fo_dir_move.specs.of_dir_change.Changes.{HasTaken, IsFirstOf}

-- The first record of this name left the first leaf, and stands at the end of the other as it is; both were leaves of records.
pub record HasMoved (name from_old to_old from_new to_new : List ℕ) : Type 0 where
  pub was_from : IsLeaf from_old
  pub was_to : IsLeaf to_old
  pub moved : Record
  pub first : IsFirstOf name from_old moved
  pub taken : HasTaken name from_old from_new
  pub added : HasAdded moved to_old to_new

-- The other leaf has no room for it.
pub record LacksRoomFor (name from_old to_old : List ℕ) : Type 0 where
  pub was_from : IsLeaf from_old
  pub was_to : IsLeaf to_old
  pub moved : Record
  pub first : IsFirstOf name from_old moved
  pub full : IsFullFor moved to_old
