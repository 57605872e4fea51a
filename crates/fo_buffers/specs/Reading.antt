-- What a reading leaves.
use Rattle.std.specs.Prelude.{◌≡◌, ◌<◌, ℕ, List, length, nat_eq}
use Rattle.std.specs.List.{Contains}
use Rattle.lru.specs.LruCache.{lru_cache, put_entries}
use Rattle.fo_slots.specs.of_disk.Disk.{Content, versions_of}
use Rattle.fo_buffers.specs.Held.{Held}
use Rattle.fo_buffers.specs.declared.held.Unread.{Unread}
use Rattle.fo_buffers.specs.declared.held.Unread.TheVariants.{Failed, Memory}

-- The block is the first of the clean ones, with one of the versions that the device has.
pub record Looked (disk : Content) (at : ℕ) (old new : Held) : Type 0 where
  pub bytes : List ℕ
  pub whole : length bytes ≡ 8192
  pub is : new ≡ record old { clean = put_entries nat_eq (lru_cache old.clean 1024) at bytes }
  pub found : at < length disk → Contains (versions_of disk at) bytes

-- Why it may not be read; want of memory needs no cause.
abbrev pub Unlooked : Type 0 → Unread → Type 0
Unlooked fault Failed = fault
Unlooked fault Memory = Unit {0}
