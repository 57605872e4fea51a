-- Where things stand on the two devices, in blocks of 8192 bytes.
use Rattle.std.specs.Prelude.{ℕ, ◌+◌, ◌-◌, ◌*◌, ◌/◌, ◌%◌}

-- a block of the label table has the labels of 585 addresses
abbrev pub label_blocks : ℕ → ℕ
label_blocks blocks = (blocks + 584) / 585

-- the header, the super block and the label table come before the data blocks
abbrev pub first_data : ℕ → ℕ
first_data blocks = 2 + label_blocks blocks

-- the block of the label of an address, and its first byte in that block
abbrev pub label_block : ℕ → ℕ
label_block address = 2 + address / 585

abbrev pub label_byte : ℕ → ℕ
label_byte address = 14 * (address % 585)

-- after the head of the arena come groups of an index block and 341 data blocks
abbrev pub arena_places : ℕ → ℕ
arena_places blocks = (blocks - 1) - (blocks + 340) / 342

-- the block of the line of a place, the line's first byte in that block, and the block of the place's bytes
abbrev pub line_block : ℕ → ℕ
line_block place = 1 + 342 * (place / 341)

abbrev pub line_byte : ℕ → ℕ
line_byte place = 24 * (place % 341)

abbrev pub stored_block : ℕ → ℕ
stored_block place = 2 + 342 * (place / 341) + place % 341
