-- What images show of leaves of records.
use Rattle.std.specs.Prelude.{◌≡◌, ◌⊎◌, ◌%◌, ℕ, List}
use Rattle.fo_ports.specs.of_image.declared.types.Kind.TheVariants.{Data}
use Rattle.fo_crash.specs.Images.{Image}
use Rattle.fo_crash.specs.Spots.{Spot, FoundAt}
use Rattle.fo_ports.specs.Blocks.{zero_bytes}

-- block 1 alone, from which the active tree hangs
abbrev pub active : ℕ → Type 0
active t = t ≡ 1

-- the spot of a leaf of a directory's records
abbrev pub IsOfRecords : Spot → Type 0
IsOfRecords p = (p.place.kind ≡ Data 0) × (p.place.rank % 32 ≡ 16)

-- One of these images has these bytes in a block of its active tree, at this spot.
pub record IsShownAt (images : Image → Type 0) (p : Spot) (bytes : List ℕ) : Type 0 where
  pub image : Image
  pub is : images image
  pub block : ℕ
  pub found : FoundAt active image block p
  pub same : (image block).bytes ≡ bytes

-- What the new images show of a leaf of records, the old ones showed at its spot, or it is zeros, which spell no record.
pub record ShowsNoMore (old new : Image → Type 0) : Type 0 where
  pub each : (p : Spot) (bytes : List ℕ) → IsOfRecords p → IsShownAt new p bytes → IsShownAt old p bytes ⊎ (bytes ≡ zero_bytes)
