-- What is held of blocks, and what a reading adds to it.
use Rattle.std.specs.Prelude.{◌≡◌, ◌≢◌, ◌⊎◌, ◌+◌, ◌<◌, ◌≤◌, ℕ, true, false, List, length, nat_eq, Option, Some, None}
use Rattle.std.specs.List.{Contains}
use Rattle.std.specs.Map.{lookup}
use Rattle.fo_disk.specs.Disk.{versions_of}
use Rattle.fo_disk.specs.Disk.{Content as Holds}
use Rattle.fo_image.specs.declared.types.Kind.{Kind}
use Rattle.fo_buffers.specs.declared.block.Buffer.{Buffer}
use Rattle.fo_buffers.specs.Held.{Held, held_at, buffer_of, put, unlisted, used}
use Rattle.fo_buffers.specs.of_ports.Blocks.{IsRanked}
use Rattle.fo_buffers.specs.of_slots.Read.{read}
use Rattle.fo_bring.specs.Blocks.{Good, Gets}

-- Of other blocks everything stays, and at most one unit of room is used.
pub record Others (at : ℕ) (old new : Held) : Type 0 where
  pub held : (q : ℕ) → q ≢ at → held_at new q ≡ held_at old q
  pub clean : (q : ℕ) → q ≢ at → lookup (nat_eq q) new.clean ≡ lookup (nat_eq q) old.clean
  pub room : old.room ≤ new.room + 1

-- What is held has good bytes.
abbrev pub GoodIn : (first count : ℕ) → Kind → Option Buffer → Type 0
GoodIn first count kind None = ⊥
GoodIn first count kind (Some x) = Good first count kind x.block

-- Bytes that a clean block had, else one of the versions of the device.
abbrev pub IsFound : Holds → ℕ → Option (List ℕ) → List ℕ → Type 0
IsFound disk at None bytes = at < length disk → Contains (versions_of disk at) bytes
IsFound disk at (Some clean) bytes = bytes ≡ clean

-- Bytes that are held, else what a clean block had, else one of the versions of the device.
abbrev pub IsFromIn : Holds → ℕ → Option Buffer → Option (List ℕ) → List ℕ → Type 0
IsFromIn disk at (Some x) clean bytes = bytes ≡ x.block
IsFromIn disk at None clean bytes = IsFound disk at clean bytes

abbrev pub IsFrom : Holds → ℕ → Held → List ℕ → Type 0
IsFrom disk at h bytes = IsFromIn disk at (held_at h at) (lookup (nat_eq at) h.clean) bytes

-- What is clean was clean with these bytes, or they are one of the versions of the device.
pub record StaysClean (disk : Holds) (old new : Held) : Type 0 where
  pub each : (q : ℕ) (bytes : List ℕ) → Contains new.clean (q, bytes) → Contains old.clean (q, bytes) ⊎ (q < length disk → Contains (versions_of disk q) bytes)

-- A block that was not held is held and pinned: as a clean one had it, else with one of the versions of the device.
pub record Loaded (disk : Holds) (at : ℕ) (old new : Held) : Type 0 where
  pub bytes : List ℕ
  pub is : new ≡ used (put (unlisted old at) at (buffer_of bytes false true))
  pub found : IsFound disk at (lookup (nat_eq at) old.clean) bytes

-- And its bytes are good.
pub record Brought (first count : ℕ) (kind : Kind) (disk : Holds) (at : ℕ) (old new : Held) : Type 0 where
  pub loaded : Loaded disk at old new
  pub good : Good first count kind loaded.bytes

-- A block is clean: as it was, else with one of the versions of the device. What is held stays.
pub record Seen (disk : Holds) (at : ℕ) (old new : Held) : Type 0 where
  pub bytes : List ℕ
  pub clean : lookup (nat_eq at) new.clean ≡ Some bytes
  pub held : new.held ≡ old.held
  pub room : new.room ≡ old.room
  pub found : IsFound disk at (lookup (nat_eq at) old.clean) bytes

-- The bytes are good, and this is what `get` answers of them.
pub record GetsGood (first count : ℕ) (kind : Kind) (rank : ℕ) (bytes into : List ℕ) : Type 0 where
  pub good : Good first count kind bytes
  pub gets : Gets kind rank bytes into

-- A clean block is copied out.
pub record Glanced (first count : ℕ) (kind : Kind) (rank : ℕ) (disk : Holds) (at : ℕ) (old new : Held) (into : List ℕ) : Type 0 where
  pub seen : Seen disk at old new
  pub gets : GetsGood first count kind rank seen.bytes into

-- What `get` answers of what is held.
abbrev pub GetsIn : Kind → ℕ → Option Buffer → List ℕ → Type 0
GetsIn kind rank None into = ⊥
GetsIn kind rank (Some x) into = Gets kind rank x.block into

-- What `get` answers of what is clean.
abbrev pub GetsClean : (first count : ℕ) → Kind → ℕ → Option (List ℕ) → List ℕ → Type 0
GetsClean first count kind rank None into = ⊥
GetsClean first count kind rank (Some bytes) into = GetsGood first count kind rank bytes into

-- What is held is of the format of its rank.
abbrev pub RanksIn : Kind → ℕ → Option Buffer → Type 0
RanksIn kind rank None = ⊥
RanksIn kind rank (Some x) = IsRanked kind rank (read kind x.block).bytes
