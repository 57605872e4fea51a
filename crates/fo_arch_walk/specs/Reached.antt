-- What a path from the root block of a snapshot comes to.
use Rattle.std.specs.Prelude.{◌≡◌, ℕ}
use Rattle.fo_image.specs.declared.types.Pointer.TheVariants.{Local}
use Rattle.fo_crash.specs.declared.place.Place.{Place}
use Rattle.fo_crash.specs.Images.{Image, target}
use Rattle.fo_crash.specs.Places.{root_place, place_below}

-- By slots of an image the root block leads to this block, at this place.
pub data Comes (image : Image) (root : ℕ) : ℕ → Place → Type 0 where
  top : Comes image root root root_place
  below : (a i b : ℕ) (p : Place) → Comes image root a p → target ((image a).slot i) ≡ Local b → Comes image root b (place_below p i ((image a).slot i))
