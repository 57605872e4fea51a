-- Records that all images together show of directories stand once.
use Rattle.std.specs.Prelude.{◌≡◌, ◌⊎◌, ℕ, List}
use Rattle.std.specs.List.{Contains}
use Rattle.fo_image.specs.declared.record.Record.{Record}
use Rattle.fo_good.specs.Reading.{leaf_records}
use Rattle.fo_crash.specs.Images.{Image}
use Rattle.fo_crash.specs.Spots.{Spot, FoundAt}
use Rattle.fo_shown.specs.Shown.{active, IsOfRecords, IsShownAt}
use Rattle.fo_dir_put.specs.Names.{Clash}
use Rattle.fo_dir_put.specs.Differ.{AreDistinct}

-- Two spots of leaves of one directory: it is known by the entries on the way and the tag of its records. (A pair that was freed may name
-- another directory in another image, with another tag.)
abbrev pub IsSameDir : Spot → Spot → Type 0
IsSameDir p q = (p.trail ≡ q.trail) × (p.place.tag ≡ q.place.tag)

-- Records of leaves at these spots clash: they have one number; or are of one directory, and have one name or pair, too.
abbrev pub ClashAt : Spot → Spot → Record → Record → Type 0
ClashAt p q r t = (r.number ≡ t.number) ⊎ (IsSameDir p q × Clash r t)

-- Of all that these images show of leaves of records, over any two of them: within a leaf no two records have one name, number or pair; no
-- number stands in two leaves, and no name or pair in two leaves of one directory.
pub record StandOnce (images : Image → Type 0) : Type 0 where
  pub within : (p : Spot) (bytes : List ℕ) → IsOfRecords p → IsShownAt images p bytes → AreDistinct bytes
  pub between : (p q : Spot) (xs ys : List ℕ) (r t : Record) → IsOfRecords p → IsOfRecords q → (p ≡ q → ⊥) → IsShownAt images p xs → IsShownAt images q ys → Contains (leaf_records xs) r → Contains (leaf_records ys) t → ClashAt p q r t → ⊥

-- One of these bytes' records has this one's name, number and pair.
pub record StandsIn (bytes : List ℕ) (r : Record) : Type 0 where
  pub before : Record
  pub is_one : Contains (leaf_records bytes) before
  pub name : before.name ≡ r.name
  pub number : before.number ≡ r.number
  pub slot : before.slot ≡ r.slot

-- A record at this spot clashes with none that some image shows of another leaf.
pub record IsLone (images : Image → Type 0) (p : Spot) (r : Record) : Type 0 where
  pub each : (q : Spot) (ys : List ℕ) (t : Record) → IsOfRecords q → (p ≡ q → ⊥) → IsShownAt images q ys → Contains (leaf_records ys) t → ClashAt p q r t → ⊥

-- Bytes may be put into a leaf of records, wherever an image with the old ones shows it: no two of their records clash, and each stood in it
-- with its name, number and pair, or clashes with none that some image shows of another leaf.
pub record MayComeOnce (leaf : ℕ) (new old : List ℕ) (images : Image → Type 0) : Type 0 where
  pub distinct : (image : Image) (p : Spot) → images image → FoundAt active image leaf p → (image leaf).bytes ≡ old → IsOfRecords p → AreDistinct new
  pub beside : (image : Image) (p : Spot) (r : Record) → images image → FoundAt active image leaf p → (image leaf).bytes ≡ old → IsOfRecords p → Contains (leaf_records new) r → StandsIn old r ⊎ IsLone images p r
