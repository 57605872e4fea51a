-- Sizes of the two devices, and the head of the arena.
use Rattle.std.specs.Prelude.{ℕ, ◌^◌, ◌≤◌, List, length}
use Rattle.fo_disk.specs.Disk.{Block}
use Rattle.fo_image.specs.Format.{SpellsArenaHead}
use Rattle.fo_image.specs.Place.{arena_places}
use Rattle.fo_sound.specs.Image.{block_of}

-- the numbers of blocks that a main device and an arena may have
abbrev pub IsMainSize : ℕ → Type 0
IsMainSize blocks = (64 ≤ blocks) × (blocks ≤ 2 ^ 20)

abbrev pub IsArenaSize : ℕ → Type 0
IsArenaSize blocks = (16 ≤ blocks) × (blocks ≤ 2 ^ 20)

-- both numbers of blocks are in range
abbrev pub InRange : ℕ → ℕ → Type 0
InRange main arena = IsMainSize main × IsArenaSize arena

-- the main device has 64 to 2^20 blocks, and the arena 16 to 2^20
pub record HasSizes (image vault : List Block) : Type 0 where
  pub main_least : 64 ≤ length image
  pub main_most : length image ≤ 2 ^ 20
  pub arena_least : 16 ≤ length vault
  pub arena_most : length vault ≤ 2 ^ 20

-- block 0 of the arena says how many blocks it has and how many of its places are used, and there are so many places
pub record IsArena (vault : List Block) (used : ℕ) : Type 0 where
  pub head : SpellsArenaHead (record { blocks = length vault; used = used }) (block_of vault 0)
  pub places : used ≤ arena_places (length vault)
