-- What an open arena keeps, and what its calls do.
use Rattle.std.specs.Prelude.{◌≡◌, ◌≢◌, ◌⊎◌, ℕ, ◌+◌, ◌-◌, ◌/◌, ◌<◌, ◌≤◌, List, [], ◌∷◌, ◌++◌, length, map, not, ◌==◌, Result, IfErr}
use Rattle.std.specs.List.{Contains, filter}
use Rattle.fo_base.specs.Cause.{Rose}
use Rattle.fo_disk.specs.Disk.{Block, Content, DiskState, IsImage, IsQuiet}
use Rattle.fo_image.specs.declared.types.ArenaLine.{ArenaLine}
use Rattle.fo_image.specs.Format.{IsScore}
use Rattle.fo_image.specs.Place.{arena_places, stored_block}
use Rattle.sha1.specs.Sha1.{sha1}
use Rattle.venti_store.specs.Held.{stored_at, HasName, IsNamed, IsHeld, IsArenaOf}
use Rattle.venti_store.specs.Recent.{latest}
use Rattle.venti_store.specs.Kept.{waits, settled_count, KeepsIn}
use Rattle.venti_store.specs.declared.recent.Recalled.{Recalled}
use Rattle.venti_store.specs.declared.shelf.Shelf.{Shelf}
use Rattle.venti_store.specs.declared.error.ArenaError.{ArenaError}
use Rattle.venti_store.specs.declared.error.ArenaError.TheVariants as why

-- the lines of the used places
abbrev pub lines_of : Shelf → List ArenaLine
lines_of shelf = shelf.index.lines.items

-- The device tells what it holds, and the used places have these bytes, of which the first `synced` were held when a sync last answered Ok.
abbrev pub Keeps : Shelf → List (List ℕ) → ℕ → DiskState → Type 0
Keeps shelf stored synced s = KeepsIn shelf.blocks shelf.index.lines.items (waits shelf.pending.items) shelf.recent.blocks.items stored synced s

-- The device is quiet, and each image of it is an arena of just these used places.
pub record Settled (lines : List ArenaLine) (stored : List (List ℕ)) (holds : Content) : Type 0 where
  pub quiet : IsQuiet holds
  pub each : (image : List Block) → IsImage holds image → IsArenaOf (length lines) lines stored image

-- the line of a block that is put
abbrev pub line_for : ℕ → List ℕ → ArenaLine
line_for kind bytes = record { score = record { 0 = sha1 bytes }; kind = kind; len = length bytes }

-- A block that is held takes no place. Another one takes the next.
pub record PutsLine (kind : ℕ) (bytes : List ℕ) (lines now : List ArenaLine) : Type 0 where
  pub held : IsNamed lines (sha1 bytes) kind → now ≡ lines
  pub new : ¬ IsNamed lines (sha1 bytes) kind → now ≡ lines ++ line_for kind bytes ∷ []

pub record PutsBytes (kind : ℕ) (bytes : List ℕ) (lines : List ArenaLine) (stored now : List (List ℕ)) : Type 0 where
  pub held : IsNamed lines (sha1 bytes) kind → (now ≡ stored) × IsHeld lines stored (sha1 bytes) kind bytes
  pub new : ¬ IsNamed lines (sha1 bytes) kind → now ≡ stored ++ bytes ∷ []

-- The most calls that settle the blocks that wait: a write of each, and of each block of the index with a line of one of them, and a sync.
abbrev pub settle_calls : Shelf → ℕ
settle_calls shelf =
    let used = length (lines_of shelf) in
    let waiting = length shelf.pending.items in
    waiting + ((used + 340) / 341 - (used - waiting) / 341) + 1

-- A put of this block takes no place: it is held, its score has no spelling in an archive, or no place is left.
abbrev pub TakesNone : ℕ → List ArenaLine → ℕ → List ℕ → Type 0
TakesNone blocks lines kind bytes = IsNamed lines (sha1 bytes) kind ⊎ (¬ IsScore (sha1 bytes)) ⊎ (length lines ≡ arena_places blocks)

-- Nothing was written, and no more waits to be: at most other blocks are at hand.
pub record IsUntouched (old new : Shelf) (before now : DiskState) : Type 0 where
  pub index : new.index ≡ old.index
  pub pending : new.pending ≡ old.pending
  pub state : now ≡ before

-- the places of the blocks that were put last, and stay in memory: the latest last
abbrev pub recent_of : Shelf → List ℕ
recent_of shelf = map (λ (r : Recalled). r.place) shelf.recent.blocks.items

abbrev pub without : ℕ → List ℕ → List ℕ
without place places = filter (λ (p : ℕ). not (p == place)) places

-- The block that was put is the latest. The others stay in their order, but the oldest of more than sixteen. The empty block has no place.
pub record IsLatest (score : List ℕ) (kind : ℕ) (old new : Shelf) : Type 0 where
  pub empty : score ≡ sha1 [] → recent_of new ≡ recent_of old
  pub other : score ≢ sha1 [] → (place : ℕ) × HasName (lines_of new) score kind place × (recent_of new ≡ latest 16 (without place (recent_of old) ++ place ∷ []))

-- The bytes of this place are in memory: the block waits to be settled, or is one of those that were put last.
abbrev pub IsInMemory : Shelf → ℕ → Type 0
IsInMemory shelf place = (settled_count (lines_of shelf) (waits shelf.pending.items) ≤ place) ⊎ Contains (recent_of shelf) place

-- The bytes are in memory: those of the empty block are always.
abbrev pub IsAtHand : Shelf → List ℕ → ℕ → Type 0
IsAtHand shelf score kind = (score ≡ sha1 []) ⊎ ((place : ℕ) × HasName (lines_of shelf) score kind place × IsInMemory shelf place)

-- This block of the device is that of a place with this score and kind.
abbrev pub IsPlaceOf : List ArenaLine → List ℕ → ℕ → ℕ → Type 0
IsPlaceOf lines score kind at = (place : ℕ) × HasName lines score kind place × (at ≡ stored_block place)

-- The bytes of the place with this score and kind don't hash to the score.
abbrev pub IsDamaged : List ArenaLine → List (List ℕ) → List ℕ → ℕ → Type 0
IsDamaged lines stored score kind = (place : ℕ) × HasName lines score kind place × (sha1 (stored_at stored place) ≢ score)

-- ---- a look at a held block

-- why a block is not found
abbrev pub LookRefuses : List ArenaLine → List ℕ → ℕ → ArenaError → Type 0
LookRefuses lines score kind (why.Damaged at) = IsPlaceOf lines score kind at
LookRefuses lines score kind why.ArenaRead = IsNamed lines score kind
LookRefuses lines score kind why.Memory = Unit {0}
LookRefuses lines score kind _ = ⊥

-- Why no block is got: `Absent` exactly where none is held.
abbrev pub GetRefuses : List ArenaLine → List ℕ → ℕ → ArenaError → Type 0
GetRefuses lines score kind why.Absent = ¬ IsNamed lines score kind
GetRefuses lines score kind e = LookRefuses lines score kind e

-- Why a block is not put: `BadScore` before all else, exactly where the score has no spelling in an archive; `ArenaFull` exactly
-- where the block is not held and no place is left; `Collision` with the block that is held and the other one.
abbrev pub PutCause : ℕ → List ArenaLine → ℕ → List ℕ → ArenaError → Type 0
PutCause blocks lines kind bytes why.ArenaFull = ¬ IsNamed lines (sha1 bytes) kind × (length lines ≡ arena_places blocks)
PutCause blocks lines kind bytes why.ArenaWrite = ¬ IsNamed lines (sha1 bytes) kind × (length lines < arena_places blocks)
PutCause blocks lines kind bytes why.ArenaSync = ¬ IsNamed lines (sha1 bytes) kind × (length lines < arena_places blocks)
PutCause blocks lines kind bytes (why.Collision held other) = IsNamed lines (sha1 bytes) kind × (sha1 held.items ≡ sha1 bytes) × (held.items ≢ bytes) × (other.items ≡ bytes)
PutCause blocks lines kind bytes e = LookRefuses lines (sha1 bytes) kind e

abbrev pub PutRefuses : ℕ → List ArenaLine → ℕ → List ℕ → ArenaError → Type 0
PutRefuses blocks lines kind bytes why.BadScore = ¬ IsScore (sha1 bytes)
PutRefuses blocks lines kind bytes e = IsScore (sha1 bytes) × PutCause blocks lines kind bytes e

-- what is so of the bytes on a device that tells what it holds
abbrev pub RefusesHeld : List ArenaLine → List (List ℕ) → List ℕ → ℕ → ArenaError → Type 0
RefusesHeld lines stored score kind (why.Damaged at) = IsDamaged lines stored score kind
RefusesHeld lines stored score kind (why.Collision held other) = IsHeld lines stored score kind held.items
RefusesHeld lines stored score kind _ = Unit {0}

-- ---- faults

abbrev pub Blames : ℕ → ℕ → ArenaError → Type 0
Blames before now why.ArenaRead = Rose before now
Blames before now why.ArenaWrite = Rose before now
Blames before now why.ArenaSync = Rose before now
Blames before now _ = Unit {0}

-- The count of faults never falls, and a fault is answered only where it rose.
pub record HasCauses {T : Type 0} (before now : ℕ) (result : Result T ArenaError) : Type 0 where
  pub later : before ≤ now
  pub failed : IfErr result (Blames before now)

-- ---- refusals of single steps

abbrev pub IsMemory : ArenaError → Type 0
IsMemory why.Memory = Unit {0}
IsMemory _ = ⊥

abbrev pub IsReadOrMemory : ArenaError → Type 0
IsReadOrMemory why.ArenaRead = Unit {0}
IsReadOrMemory e = IsMemory e

abbrev pub IsWriteOrSync : ArenaError → Type 0
IsWriteOrSync why.ArenaWrite = Unit {0}
IsWriteOrSync why.ArenaSync = Unit {0}
IsWriteOrSync _ = ⊥

abbrev pub IsCollision : List ℕ → List ℕ → ArenaError → Type 0
IsCollision held bytes (why.Collision one other) = (one.items ≡ held) × (held ≢ bytes) × (other.items ≡ bytes)
IsCollision held bytes e = IsMemory e

-- why a block that is not held is not put
abbrev pub AppendRefuses : ℕ → List ArenaLine → ArenaError → Type 0
AppendRefuses blocks lines why.ArenaFull = length lines ≡ arena_places blocks
AppendRefuses blocks lines why.ArenaWrite = length lines < arena_places blocks
AppendRefuses blocks lines why.ArenaSync = length lines < arena_places blocks
AppendRefuses blocks lines e = IsMemory e
