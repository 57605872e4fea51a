-- The two sources of the root directory.
use Rattle.std.specs.Prelude.{◌^◌, ℕ, Bool, true, false}
use Rattle.fo_image.specs.declared.types.Entry.{Entry}
use Rattle.fo_image.specs.declared.types.Pointer.TheVariants.{Nil}
use Rattle.test_names.specs.declared.parts.Part.{Part}
use Rattle.test_names.specs.declared.parts.Part.TheVariants.{Entries, Records}

-- the slot of the root block in which the source's entry stands
abbrev pub slot_of : Part → ℕ
slot_of Entries = 0
slot_of Records = 1

-- its leaves hold entries
abbrev pub is_dir_of : Part → Bool
is_dir_of Entries = true
is_dir_of Records = false

-- the tag of its blocks, the rank of its leaves, and how long it may be
abbrev pub tag_of : Part → ℕ
tag_of Entries = 32
tag_of Records = 33

abbrev pub rank_of : Part → ℕ
rank_of Entries = 2088
rank_of Records = 2096

abbrev pub limit_of : Part → ℕ
limit_of Entries = 2 ^ 38
limit_of Records = 2 ^ 40

-- its entry as long as it has no bytes
abbrev pub blank_entry : Part → Entry
blank_entry p = record { generation = 1; active = true; dir = is_dir_of p; depth = 0; tag = tag_of p; size = 0; top = Nil }
