-- The bytes of the used places, as a function of what an open arena has in memory and of what its device holds.
use Rattle.std.specs.Prelude.{ℕ, ◌-◌, nat_lt, List, [], length, map, take, slice_index_or, if◌then◌else◌}
use Rattle.std.specs.List.{range_with_len}
use Rattle.fo_disk.specs.Disk.{Content, versions_of, latest_of}
use Rattle.fo_image.specs.Place.{stored_block}
use Rattle.venti_store.specs.Held.{line_at}
use Rattle.venti_store.specs.Kept.{waits, settled_count}
use Rattle.venti_store.specs.Arena.{lines_of}
use Rattle.venti_store.specs.declared.shelf.Shelf.{Shelf}

-- how many places are settled on the device
abbrev pub settled_places : Shelf → ℕ
settled_places shelf = settled_count (lines_of shelf) (waits shelf.pending.items)

-- the bytes of a place: as the last version of its block has them, or as they wait in memory
abbrev pub bytes_in : Shelf → Content → ℕ → List ℕ
bytes_in shelf holds place =
    if nat_lt place (settled_places shelf) then take (line_at (lines_of shelf) place).len (latest_of (versions_of holds (stored_block place)))
    else slice_index_or (waits shelf.pending.items) (place - settled_places shelf) []

-- the bytes of all used places
abbrev pub stored_in : Shelf → Content → List (List ℕ)
stored_in shelf holds = map (bytes_in shelf holds) (range_with_len 0 (length (lines_of shelf)))
