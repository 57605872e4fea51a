-- Records of a directory differ in name, number and pair.
use Rattle.std.specs.Prelude.{◌≢◌, ℕ, List, [], ◌∷◌}
use Rattle.std.specs.List.{Contains}
use Rattle.fo_image.specs.declared.record.Record.{Record}
use Rattle.fo_good.specs.Reading.{leaf_records}
use Rattle.fo_crash.specs.Images.{Image}
use Rattle.fo_dir_put.specs.Names.{Clash, AllApart, MayStand}

-- each of these records clashes with none behind it
abbrev pub Distinct : List Record → Type 0
Distinct [] = Unit {0}
Distinct (r ∷ rs) = ((q : Record) → Contains rs q → Clash r q → ⊥) × Distinct rs

-- Within a leaf with these bytes no two records have one name, one number or one pair.
pub record AreDistinct (bytes : List ℕ) : Type 0 where
  pub are : Distinct (leaf_records bytes)

-- Of these leaves, in all these images, no two places have records of one name, one number or one pair; those of two leaves have none
-- in common over any two images.
pub record AllDiffer (leaves : List ℕ) (images : Image → Type 0) : Type 0 where
  pub within : (a : ℕ) → Contains leaves a → (image : Image) → images image → AreDistinct ((image a).bytes)
  pub between : (a b : ℕ) → Contains leaves a → Contains leaves b → a ≢ b → AllApart a b images

-- Bytes may be put into a leaf of these: no two of their records clash, and each may stand beside the other leaves.
pub record MayName (leaves : List ℕ) (leaf : ℕ) (new old : List ℕ) (images : Image → Type 0) : Type 0 where
  pub distinct : (image : Image) → images image → Contains leaves leaf → AreDistinct new
  pub beside : (b : ℕ) → Contains leaves b → b ≢ leaf → MayStand b new old images
