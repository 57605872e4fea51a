-- Each record that an image shows has its pair in use in that image.
use Rattle.std.specs.Prelude.{◌≡◌, ◌-◌, ◌/◌, ◌<◌, ℕ, suc, true, List, [], ◌∷◌}
use Rattle.std.specs.List.{Contains}
use Rattle.fo_image.specs.declared.types.Entry.{Entry}
use Rattle.fo_image.specs.declared.types.Kind.TheVariants.{Dir}
use Rattle.fo_image.specs.declared.record.Record.{Record}
use Rattle.fo_good.specs.Reading.{leaf_records}
use Rattle.fo_crash.specs.declared.slot.Slot.TheVariants.{Entry as Head}
use Rattle.fo_crash.specs.Images.{Image}
use Rattle.fo_crash.specs.Places.{place}
use Rattle.fo_crash.specs.Spots.{Spot, FoundAt, spot_below}
use Rattle.fo_ports.specs.State.{State}
use Rattle.fo_ports.specs.Shown.{active, IsOfRecords}
use Rattle.fo_alike.specs.Like.{IsOfEntries}
use Rattle.fo_dir_put.specs.Paired.{HasBoth}

-- the way to a directory's entries, where that to its records ends with the entry after theirs
abbrev pub entries_trail : List ℕ → List ℕ
entries_trail [] = []
entries_trail (j ∷ trail) = (j - 1) ∷ trail

-- the spot of leaf m of the entries of the directory of which a leaf of records is at this spot
abbrev pub entries_spot : Spot → ℕ → Spot
entries_spot p m = record { place = place (Dir 0) (p.place.tag - 1) m (p.place.rank - 8); trail = entries_trail p.trail }

-- In this image an entry in use names a source of entries at the end of this trail, whose tag is one less than this.
pub record IsNamed (image : Image) (trail : List ℕ) (tag : ℕ) : Type 0 where
  pub block : ℕ
  pub at : Spot
  pub slot : ℕ
  pub entry : Entry
  pub found : FoundAt active image block at
  pub holds : IsOfEntries at
  pub within : slot < 204
  pub is : (image block).slot slot ≡ Head entry
  pub used : (entry.active ≡ true) × (entry.dir ≡ true)
  pub trail_is : (spot_below at slot (Head entry)).trail ≡ trail
  pub tag_is : suc entry.tag ≡ tag

-- The first entry of the directory is in use in this image. (Where a directory was removed, an image may have it cleared and the second one
-- not yet, and show old bytes of its records.)
abbrev pub HasFirst : Image → Spot → Type 0
HasFirst image p = IsNamed image (entries_trail p.trail) p.place.tag

-- In this image a record of a leaf at this spot has both entries of its pair.
pub record HasPairAt (image : Image) (p : Spot) (r : Record) : Type 0 where
  pub block : ℕ
  pub found : FoundAt active image block (entries_spot p (r.slot / 102))
  pub both : HasBoth block image r

-- This image shows the record in a leaf at this spot, of a directory whose first entry it has in use.
pub record ShowsRecord (image : Image) (p : Spot) (r : Record) : Type 0 where
  pub of : IsOfRecords p
  pub block : ℕ
  pub found : FoundAt active image block p
  pub listed : Contains (leaf_records ((image block).bytes)) r
  pub first : HasFirst image p

-- Each record that the image shows has its pair there.
pub record IsPaired (image : Image) : Type 0 where
  pub each : (p : Spot) (r : Record) → ShowsRecord image p r → HasPairAt image p r

-- Each record that one of these images shows has its pair in that image; and in memory, where that has the directory's first entry in use: so
-- no image names a pair that is free in memory.
pub record PairsStandIn (now : Image) (images : Image → Type 0) : Type 0 where
  pub each : (image : Image) → images image → IsPaired image
  pub memory : (image : Image) (p : Spot) (r : Record) → images image → ShowsRecord image p r → HasFirst now p → HasPairAt now p r

-- so it is in all images that a crash may leave
abbrev pub PairsStand : State → Type 0
PairsStand s = PairsStandIn s.now s.may_leave
