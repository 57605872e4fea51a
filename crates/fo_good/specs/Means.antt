-- A device's blocks as an image: what each block that is reached holds, read as the kind that leads to it. Blocks of pointers, entries
-- and roots are those of the Fossil paper ("Fossil, an Archival File Server", the section on the file system's layout).
use Rattle.std.specs.Prelude.{◌≡◌, ℕ, ◌*◌, ◌<◌, ◌≤◌, true, zero, suc, List, take, drop}
use Rattle.fo_sound.specs.of_disk.Disk.{Block}
use Rattle.fo_image.specs.declared.types.Kind.{Kind}
use Rattle.fo_image.specs.declared.types.Kind.TheVariants.{Data, Dir, Root}
use Rattle.fo_image.specs.declared.types.Entry.{Entry}
use Rattle.fo_image.specs.declared.types.Pointer.{Pointer}
use Rattle.fo_image.specs.declared.types.Pointer.TheVariants.{Nil, Local}
use Rattle.fo_image.specs.declared.record.RootBlock.{RootBlock}
use Rattle.fo_image.specs.Format.{SpellsPointer, SpellsEntry}
use Rattle.fo_image.specs.Record.{SpellsRoot}
use Rattle.fo_crash.specs.declared.slot.Slot.TheVariants.{Pointer as To, Entry as Head, Prev}
use Rattle.fo_crash.specs.Images.{Content, Image, Arena, Link, target, goes}
use Rattle.fo_sound.specs.Image.{block_of, is_zero}

-- From this number on no slot leads anywhere.
pub record EndsAt (count : ℕ) (c : Content) : Type 0 where
  pub each : (i : ℕ) → count ≤ i → target (c.slot i) ≡ Nil

-- A leaf of a file's bytes or of records has no slot.
pub record IsBytes (c : Content) (bytes : Block) : Type 0 where
  pub bytes_are : c.bytes ≡ bytes
  pub ends : EndsAt 0 c

-- slot i of a block of pointers
pub record HasPointer (c : Content) (bytes : Block) (i : ℕ) : Type 0 where
  pub pointer : Pointer
  pub is : c.slot i ≡ To pointer
  pub spelled : SpellsPointer pointer (take 20 (drop (20 * i) bytes))

-- A block of 409 pointers, and zeros behind them.
pub record ArePointers (c : Content) (bytes : Block) : Type 0 where
  pub each : (i : ℕ) → i < 409 → HasPointer c bytes i
  pub ends : EndsAt 409 c
  pub rest : is_zero (drop 8180 bytes) ≡ true

-- slot i of a leaf of entries
pub record HasEntry (c : Content) (bytes : Block) (i : ℕ) : Type 0 where
  pub entry : Entry
  pub is : c.slot i ≡ Head entry
  pub spelled : SpellsEntry entry (take 40 (drop (40 * i) bytes))
  pub shallow : entry.depth ≤ 4

-- A leaf of 204 entries, none of which is of more than four levels, and zeros behind them.
pub record AreEntries (c : Content) (bytes : Block) : Type 0 where
  pub each : (i : ℕ) → i < 204 → HasEntry c bytes i
  pub ends : EndsAt 204 c
  pub rest : is_zero (drop 8160 bytes) ≡ true

-- A root block: the entries of the root directory's two sources, and the root before. Its content has the root directory's own record.
pub record IsRootBlock (c : Content) (bytes : Block) : Type 0 where
  pub root : RootBlock
  pub spelled : SpellsRoot root bytes
  pub entries : (c.slot 0 ≡ Head root.entries) × (root.entries.depth ≤ 4)
  pub meta : (c.slot 1 ≡ Head root.meta) × (root.meta.depth ≤ 4)
  pub before : c.slot 2 ≡ Prev root.prev_epoch root.prev
  pub ends : EndsAt 3 c
  pub own : drop 104 c.bytes ≡ drop 104 bytes

-- These bytes are a block of this kind with this content.
abbrev pub IsRead : Kind → Content → Block → Type 0
IsRead (Data zero) c bytes = IsBytes c bytes
IsRead (Data (suc level)) c bytes = ArePointers c bytes
IsRead (Dir zero) c bytes = AreEntries c bytes
IsRead (Dir (suc level)) c bytes = ArePointers c bytes
IsRead Root c bytes = IsRootBlock c bytes

-- From this link on, the device's blocks read as the image has them. What no path leads to may be anything.
pub record Means (arena : Arena) (device : List Block) (image : Image) (from : Link) : Type 0 where
  pub each : (path : List ℕ) (at : ℕ) → target ((goes arena image from path).slot) ≡ Local at → IsRead ((goes arena image from path).kind) (image at) (block_of device at)
