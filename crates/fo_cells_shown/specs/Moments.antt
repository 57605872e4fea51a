-- What the images of a moment show.
use Rattle.std.specs.Prelude.{◌≡◌, ℕ, false, List}
use Rattle.std.specs.List.{Contains}
use Rattle.fo_disk.specs.Disk.{Block}
use Rattle.fo_disk.specs.Disk.{Content as Holds}
use Rattle.fo_image.specs.declared.types.Pointer.TheVariants.{Local}
use Rattle.fo_crash.specs.declared.place.Place.{Place}
use Rattle.fo_crash.specs.Images.{Reaches, target, to_block}
use Rattle.fo_crash.specs.Steps.{IsOneOf}
use Rattle.fo_cells.specs.Known.{Remains}
use Rattle.fo_cells.specs.Device.{Mind, known, read_image, read_labels}
use Rattle.fo_cells_shown.specs.Labels.{IsLabelled}

-- An image of the device is, in all that these tops reach, one that a crash may leave by what is known here; and each block reached has a
-- label there that fits.
pub record IsShown (m : Mind) (holds : Holds) (tops : List ℕ) (device : List Block) : Type 0 where
  pub image : IsOneOf (λ t. Contains tops t) (Remains (known m holds)) (read_image m device)
  pub labels : (t a i b : ℕ) → Contains tops t → Reaches (read_image m device) (to_block t) a → target ((read_image m device a).slot i) ≡ Local b → IsLabelled (known m holds) (read_labels m device) b

-- these are tops at their places, and were settled whole
abbrev pub AreSettledTops : Mind → List ℕ → Type 0
AreSettledTops m tops = (t : ℕ) → Contains tops t → (p : Place) × Contains m.tops (record { at = t; place = p }) × (m.newborn t ≡ false)
