-- Another slot of a block that leads to no more of leaves of records than memory's does.
use Rattle.std.specs.Prelude.{◌≡◌, ◌⊎◌, ◌+◌, ◌<◌, ℕ, Bool, cond, List}
use Rattle.fo_ports.specs.of_image.declared.types.Entry.{Entry}
use Rattle.fo_ports.specs.of_image.declared.types.Kind.TheVariants.{Data, Dir, Root}
use Rattle.fo_ports.specs.of_image.declared.types.Pointer.{Pointer}
use Rattle.fo_ports.specs.of_image.declared.types.Pointer.TheVariants.{Local}
use Rattle.fo_crash.specs.declared.place.Place.{Place}
use Rattle.fo_crash.specs.declared.slot.Slot.{Slot}
use Rattle.fo_crash.specs.declared.slot.Slot.TheVariants.{Entry as Head}
use Rattle.fo_crash.specs.Images.{Image, Reaches, target, walk, to_block}
use Rattle.fo_crash.specs.Places.{place, place_below}
use Rattle.fo_crash.specs.Spots.{Spot, FoundAt, spot_below, spot_at}
use Rattle.fo_ports.specs.Blocks.{zero_bytes}
use Rattle.fo_ports.specs.State.{State}
use Rattle.fo_ports.specs.Sources.{Form, IsHung, depth_for, is_dir}
use Rattle.fo_ports.specs.Shown.{active, IsOfRecords}

-- A path from this slot leads to a block, and from this spot on comes to that one.
pub record Finds (image : Image) (p : Spot) (s : Slot) (path : List ℕ) (b : ℕ) (q : Spot) : Type 0 where
  pub leads : target (walk image s path) ≡ Local b
  pub spot : spot_at image p s path ≡ q

-- In each image that has in this slot what memory has: whatever leaf of records another slot would lead to from there, memory's leads to one
-- at the same spot with the same bytes; or the leaf is one of zeros.
pub record LeadsAlike (images : Image → Type 0) (now : Image) (at i : ℕ) (slot : Slot) : Type 0 where
  pub each : (image : Image) (p q : Spot) (path : List ℕ) (b : ℕ) → images image → (image at).slot i ≡ (now at).slot i → FoundAt active image at p → Finds image (spot_below p i slot) slot path b q → IsOfRecords q
      → ((other : List ℕ) × (c : ℕ) × Finds image (spot_below p i ((now at).slot i)) ((now at).slot i) other c q × ((image c).bytes ≡ (image b).bytes)) ⊎ ((image b).bytes ≡ zero_bytes)

-- Slot i of block `at` is one of an entry, and hangs from block 1; what this slot would lead to from there hangs, at the place below.
pub record CanStand (s : State) (at i : ℕ) (slot : Slot) : Type 0 where
  pub place : Place
  pub stands : s.stands at place
  pub names : (place.kind ≡ Dir 0) ⊎ (place.kind ≡ Root)
  pub in_tree : Reaches s.now (to_block 1) at
  pub uncovered : s.covered at → ⊥
  pub leads : (b : ℕ) → target slot ≡ Local b → s.stands b (place_below place i slot) × IsHung s b × (s.covered b → ⊥)

-- A slot that led to no more than memory's does so still.
pub record StaysAlike (s u : State) : Type 0 where
  pub each : s.tells → (at i : ℕ) (slot : Slot) → CanStand s at i slot → LeadsAlike s.may_leave s.now at i slot → LeadsAlike u.may_leave u.now at i slot

-- What its entry says of a source: whether it is one of entries, its levels, its tag and its top; and the rank of its leaves.
pub record Stem : Type 0 where
  pub dir : Bool
  pub depth : ℕ
  pub tag : ℕ
  pub rank : ℕ
  pub top : Pointer

-- the stem of a source of this form, size and top
abbrev pub stem_of : Form → (size : ℕ) → Pointer → Stem
stem_of form size top = record { dir = is_dir form.kind; depth = depth_for size; tag = form.tag; rank = form.rank; top = top }

-- An entry is one of a source with this stem, whatever its top and its size.
abbrev pub IsFormed : Stem → Entry → Type 0
IsFormed a e = (e.dir ≡ a.dir) × (e.depth ≡ a.depth) × (e.tag ≡ a.tag)

-- Slot i of block `at`, which hangs from block 1, is one of entries above the blocks of a source, and names a source with this stem.
pub record HoldsEntry (s : State) (a : Stem) (at i : ℕ) : Type 0 where
  pub there : Place
  pub stands : s.stands at there
  pub names : (there.kind ≡ Dir 0) ⊎ (there.kind ≡ Root)
  pub below : (e : Entry) → IsFormed a e → place_below there i (Head e) ≡ place (cond a.dir (Dir a.depth) (Data a.depth)) a.tag 0 (a.rank + a.depth)
  pub above : a.rank + 4 < there.rank
  pub in_tree : Reaches s.now (to_block 1) at
  pub uncovered : s.covered at → ⊥

-- An entry with the source's top leads from this slot to no more of leaves of records than memory's slot.
abbrev pub EntryAlike : State → Stem → (at i : ℕ) → Type 0
EntryAlike s a at i = (e : Entry) → IsFormed a e → e.top ≡ a.top → LeadsAlike s.may_leave s.now at i (Head e)

-- Where an entry with the source's top led to no more than memory's slot, one with the new top doesn't either.
pub record KeepsAlike (s u : State) (a new : Stem) : Type 0 where
  pub each : s.tells → (at i : ℕ) → HoldsEntry s a at i → EntryAlike s a at i → HoldsEntry u new at i × EntryAlike u new at i
