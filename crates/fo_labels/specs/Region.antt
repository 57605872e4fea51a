-- The labels of the data blocks, and which of these blocks may be given out (the labels and epochs of the Fossil paper,
-- "Fossil, an Archival File Server").
use Rattle.std.specs.Prelude.{◌≡◌, ℕ, ◌+◌, ◌-◌, ◌<◌, ◌≤◌, true, List, length, Option, slice_index_or, slice_set, count_by}
use Rattle.std.specs.List.{position}
use Rattle.std.specs.Option.{option_map}
use Rattle.fo_image.specs.declared.types.State.TheVariants.{Closed}
use Rattle.fo_image.specs.declared.types.Label.{Label}
use Rattle.fo_image.specs.Usable.{free_label, is_usable}

-- the address of the first data block, and the labels of the data blocks in order
pub record Region : Type 0 where
  pub first : ℕ
  pub labels : List Label

pub record IsDataBlock (r : Region) (at : ℕ) : Type 0 where
  pub from : r.first ≤ at
  pub to : at < r.first + length r.labels

-- ---- labels

abbrev pub closed_label : Label → ℕ → Label
closed_label l epoch = record l { state = Closed; closing = epoch }

-- the label of a data block
abbrev pub label_of : Region → ℕ → Label
label_of r at = slice_index_or r.labels (at - r.first) free_label

-- one block has this label, and all others have the label that they had
abbrev pub relabeled : Region → ℕ → Label → Region
relabeled r at l = record { first = r.first; labels = slice_set r.labels (at - r.first) l }

-- ---- blocks that may be given out

pub record IsUsableBlock (low : ℕ) (r : Region) (at : ℕ) : Type 0 where
  pub block : IsDataBlock r at
  pub usable : is_usable low (label_of r at) ≡ true

-- the least address of a usable block
abbrev pub least_usable : ℕ → Region → Option ℕ
least_usable low r = option_map (λ place. r.first + place) (position (is_usable low) r.labels)

abbrev pub usable_count : ℕ → Region → ℕ
usable_count low r = count_by (is_usable low) r.labels
