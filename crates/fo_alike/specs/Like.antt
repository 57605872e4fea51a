-- Images that are like one another: what the one finds of leaves of records and of entries, the other finds at the same spots.
use Rattle.std.specs.Prelude.{◌≡◌, ◌⊎◌, ℕ, List}
use Rattle.fo_ports.specs.of_image.declared.types.Kind.TheVariants.{Dir, Root}
use Rattle.fo_crash.specs.declared.slot.Slot.{Slot}
use Rattle.fo_crash.specs.Images.{Content, Image}
use Rattle.fo_crash.specs.Spots.{Spot, FoundAt, spot_below}
use Rattle.fo_crash.specs.Names.{IsInUse, SameUse}
use Rattle.fo_ports.specs.Blocks.{zero_bytes}
use Rattle.fo_shown.specs.Shown.{active, IsOfRecords}
use Rattle.fo_shown.specs.Alike.{Finds}

-- the spot of a leaf of entries, or of block 1 or a root block, which names the two sources of the root directory
abbrev pub IsOfEntries : Spot → Type 0
IsOfEntries p = (p.place.kind ≡ Dir 0) ⊎ (p.place.kind ≡ Root)

-- Two leaves of records have the same bytes; and a leaf has zeros, which spell no record.
abbrev pub SameBytes : Content → Content → Type 0
SameBytes c d = c.bytes ≡ d.bytes

abbrev pub IsZeros : Content → Type 0
IsZeros c = c.bytes ≡ zero_bytes

-- Two leaves of entries have each slot in the same use; and a leaf has no slot in use.
abbrev pub SameUses : Content → Content → Type 0
SameUses c d = (j : ℕ) → SameUse (c.slot j) (d.slot j)

abbrev pub NoneInUse : Content → Type 0
NoneInUse c = (j generation : ℕ) → IsInUse (c.slot j) generation → ⊥

-- Each leaf of this sort that an image finds is bare, or the other image finds one at the same spot that is the same.
pub record FindsAll (of : Spot → Type 0) (same : Content → Content → Type 0) (bare : Content → Type 0) (image other : Image) : Type 0 where
  pub each : (p : Spot) (b : ℕ) → of p → FoundAt active image b p → ((c : ℕ) × FoundAt active other c p × same (image b) (other c)) ⊎ bare (image b)

-- An image is like another: the other finds its leaves of records, but for zeros, and its leaves of entries, but for those with nothing in
-- use; and it finds the other's leaves of entries likewise.
pub record IsLike (image other : Image) : Type 0 where
  pub records : FindsAll IsOfRecords SameBytes IsZeros image other
  pub from : FindsAll IsOfEntries SameUses NoneInUse image other
  pub onto : FindsAll IsOfEntries SameUses NoneInUse other image

-- Each new image is like an old one.
pub record ShowsSame (old new : Image → Type 0) : Type 0 where
  pub each : (image : Image) → new image → (other : Image) × old other × IsLike image other

-- Each leaf of this sort to which a slot leads in an image, from a spot on, is bare, or another slot leads from its spot in the other image
-- to one at the same spot that is the same.
pub record LeadsAll (of : Spot → Type 0) (same : Content → Content → Type 0) (bare : Content → Type 0) (image : Image) (p : Spot) (s : Slot) (other : Image) (q : Spot) (t : Slot) : Type 0 where
  pub each : (path : List ℕ) (b : ℕ) (r : Spot) → of r → Finds image p s path b r → ((way : List ℕ) × (c : ℕ) × Finds other q t way c r × same (image b) (other c)) ⊎ bare (image b)

-- What a slot leads to in an image, from a spot on, is like what another leads to in the other image, from its spot on.
pub record LeadsLike (image : Image) (p : Spot) (s : Slot) (other : Image) (q : Spot) (t : Slot) : Type 0 where
  pub records : LeadsAll IsOfRecords SameBytes IsZeros image p s other q t
  pub from : LeadsAll IsOfEntries SameUses NoneInUse image p s other q t
  pub onto : LeadsAll IsOfEntries SameUses NoneInUse other q t image p s

-- Another slot is in the same use as memory's; and in each image that has in this slot what memory has, and finds its block, what the other
-- slot would lead to from there is like what memory's leads to.
pub record LeadsSame (images : Image → Type 0) (now : Image) (at i : ℕ) (slot : Slot) : Type 0 where
  pub in_use : SameUse slot ((now at).slot i)
  pub each : (image : Image) (p : Spot) → images image → (image at).slot i ≡ (now at).slot i → FoundAt active image at p → LeadsLike image (spot_below p i slot) slot image (spot_below p i ((now at).slot i)) ((now at).slot i)

-- Whatever entry a leaf of records names that an image finds is in use in a leaf of entries that the same image finds. `Names p bytes q j
-- generation`: a leaf of records at spot p with these bytes names entry j, of this generation, of the leaf of entries at spot q.
pub record NamesInUse (Names : Spot → List ℕ → Spot → ℕ → ℕ → Type 0) (image : Image) : Type 0 where
  pub each : (p q : Spot) (b j generation : ℕ) → IsOfRecords p → FoundAt active image b p → Names p ((image b).bytes) q j generation → IsOfEntries q × (c : ℕ) × FoundAt active image c q × IsInUse ((image c).slot j) generation
