-- Places: each block of an image stands at one logical place, which its parent and the slot there determine. Ranks fall along slots.
use Rattle.std.specs.Prelude.{◌≡◌, ◌⊎◌, ℕ, ◌+◌, ◌-◌, ◌*◌, ◌%◌, ◌^◌, ◌<◌, zero, suc, cond, nat_eq}
use Rattle.fo_image.specs.declared.types.Kind.{Kind}
use Rattle.fo_image.specs.declared.types.Kind.TheVariants.{Data, Dir, Root}
use Rattle.fo_image.specs.declared.types.Pointer.TheVariants.{Local}
use Rattle.fo_crash.specs.declared.slot.Slot.{Slot}
use Rattle.fo_crash.specs.declared.slot.Slot.TheVariants.{Pointer as To, Entry as Head, Prev}
use Rattle.fo_crash.specs.declared.place.Place.{Place}
use Rattle.fo_crash.specs.Images.{Image, kind_below, target}

abbrev pub place : Kind → ℕ → ℕ → ℕ → Place
place kind tag index rank = record { kind = kind; tag = tag; index = index; rank = rank }

-- the place of block 1, and of a root block
abbrev pub super_place : Place
super_place = place Root 0 0 2145

abbrev pub root_place : Place
root_place = place Root 1 0 2144

-- the rank of the top of a source that the entry in slot i of an entry leaf of this rank names. The even slots name the data of
-- files and the entries of directories, the odd ones the records of directories, and each directory has 32 ranks of its own.
abbrev pub rank_of_top : ℕ → ℕ → Slot → ℕ
rank_of_top rank i (Head e) = cond e.dir (rank - 32 + e.depth) (cond (nat_eq (i % 2) 0) (rank - 8 + e.depth) (rank - 24 + e.depth))
rank_of_top rank i (To p) = 2144
rank_of_top rank i (Prev epoch at) = 2144

abbrev pub tag_of_top : Slot → ℕ
tag_of_top (Head e) = e.tag
tag_of_top (To p) = 1
tag_of_top (Prev epoch at) = 1

-- The place below slot i of a block at a place: in a source one level lower, and else the top of a source or a root block. A root
-- block names the two sources of the root directory as an entry leaf above would.
abbrev pub place_below : Place → ℕ → Slot → Place
place_below p i s = by p.kind
  where
    by : Kind → Place
    by (Data zero) = place (Data zero) p.tag (409 * p.index + i) (p.rank - 1)
    by (Data (suc level)) = place (Data level) p.tag (409 * p.index + i) (p.rank - 1)
    by (Dir zero) = place (kind_below p.kind s) (tag_of_top s) 0 (rank_of_top p.rank i s)
    by (Dir (suc level)) = place (Dir level) p.tag (409 * p.index + i) (p.rank - 1)
    by Root = place (kind_below p.kind s) (tag_of_top s) 0 (rank_of_top (p.rank - 24) i s)

-- Wherever a slot of a block that stands at a place leads, there stands the block of the place below.
pub record IsPlaced (stands : ℕ → Place → Type 0) (image : Image) : Type 0 where
  pub each : (a i b : ℕ) (p : Place) → stands a p → target ((image a).slot i) ≡ Local b → stands b (place_below p i ((image a).slot i))

-- A block stands at one place.
pub record OnePlace (stands : ℕ → Place → Type 0) : Type 0 where
  pub each : (b : ℕ) (p q : Place) → stands b p → stands b q → p ≡ q

-- Along every slot of an image the rank falls.
pub record RanksFall (stands : ℕ → Place → Type 0) (image : Image) : Type 0 where
  pub each : (a i b : ℕ) (p : Place) → stands a p → target ((image a).slot i) ≡ Local b → (place_below p i ((image a).slot i)).rank < p.rank

-- a place, or one that is it but for an index that is free
abbrev pub FitsAt : Type 0 → Place → Place → Type 0
FitsAt free q p = (q ≡ p) ⊎ (free × (p.index < 2 ^ 64) × (record q { index = p.index } ≡ p))

-- A slot leads to the block of its place, if to a block of the device; or to one whose index is still free, and fits but for it.
pub record Fits (stands : ℕ → Place → Type 0) (loose : ℕ → Type 0) (at i : ℕ) (s : Slot) : Type 0 where
  pub each : (b : ℕ) (p : Place) → stands at p → target s ≡ Local b → (q : Place) × stands b q × FitsAt (loose b) q (place_below p i s)
