-- The labels in groups of 32, and from which settled low epoch on a group has a usable block.
use Rattle.std.specs.Prelude.{◌≡◌, ℕ, ◌+◌, ◌*◌, ◌/◌, ◌^◌, ◌<◌, nat_le, List, length, take, drop, slice_index}
use Rattle.std.specs.List.{list_any}
use Rattle.fo_image.specs.declared.types.Label.{Label}
use Rattle.fo_image.specs.Usable.{is_usable}

abbrev pub group_count : ℕ → ℕ
group_count n = (n + 31) / 32

abbrev pub part : ℕ → List Label → List Label
part group labels = take 32 (drop (32 * group) labels)

-- From this epoch on, and not before, one of the labels is usable.
pub record IsFloorOf (labels : List Label) (least : ℕ) : Type 0 where
  pub usable : (low : ℕ) → low < 2 ^ 32 → nat_le least low ≡ list_any (is_usable low) labels

-- Each group has its number.
pub record AreFloors (labels : List Label) (floors : List ℕ) : Type 0 where
  pub long : length floors ≡ group_count (length labels)
  pub each : (group : ℕ) → group < length floors → IsFloorOf (part group labels) (slice_index floors group)
