-- Laws of what an arena holds, read as the blocks of archives.
use Rattle.std.specs.Prelude.{◌≡◌, ◌≢◌, ℕ, ◌<◌, List, length}
use Rattle.fo_disk.specs.Disk.{DiskState}
use Rattle.fo_image.specs.declared.types.ArenaLine.{ArenaLine}
use Rattle.fo_crash.specs.Images.{IsArena}
use Rattle.venti_store.specs.Held.{line_at, name_of, IsHeld}
use Rattle.venti_store.specs.Arena.{Keeps}
use Rattle.venti_store.specs.declared.shelf.Shelf.{Shelf}
use Rattle.fo_vac_open.specs.Held.{held, arena_of}
use Rattle.fo_vac_open.specs.Stored.{stored_in}

-- no two places have one score and kind
abbrev pub AreApart : List ArenaLine → Type 0
AreApart lines = (one other : ℕ) → one < other → other < length lines → name_of (line_at lines one) ≢ name_of (line_at lines other)

abbrev pub HeldIs : Type 0
HeldIs = (lines : List ArenaLine) (stored : List (List ℕ)) (score : List ℕ) (kind : ℕ) (bytes : List ℕ) → AreApart lines → IsHeld lines stored score kind bytes → held lines stored score kind ≡ bytes

abbrev pub StaysInArena : Type 0
StaysInArena = (lines : List ArenaLine) (stored : List (List ℕ)) → IsArena (arena_of lines stored)

-- Over a device that tells what it holds, an arena has just the bytes that memory and the device have.
abbrev pub StoredIs : Type 0
StoredIs = (shelf : Shelf) (stored : List (List ℕ)) (synced : ℕ) (s : DiskState) → Keeps shelf stored synced s → stored_in shelf s.holds ≡ stored
