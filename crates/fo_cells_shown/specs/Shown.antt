-- What an image of the device shows.
use Rattle.std.specs.Prelude.{◌≡◌, ◌≢◌, ◌<◌, ℕ, false, List, length}
use Rattle.std.specs.List.{Contains}
use Rattle.fo_disk.specs.Disk.{Block, IsImage}
use Rattle.fo_disk.specs.Disk.{Content as Holds}
use Rattle.fo_image.specs.declared.types.Pointer.TheVariants.{Local}
use Rattle.fo_crash.specs.declared.place.Place.{Place}
use Rattle.fo_crash.specs.Images.{Content, Reaches, target, to_block}
use Rattle.fo_crash.specs.Steps.{IsOneOf}
use Rattle.fo_cells.specs.Known.{IsWait, Remains, Stands}
use Rattle.fo_cells.specs.Device.{Mind, known, read_image, read_labels}
use Rattle.fo_cells.specs.Laws.{Safe}
use Rattle.fo_cells_shown.specs.Labels.{IsLabelled}

-- All that stands somewhere is a block of the device, and so is its block of labels, and each leaf that waits.
pub record IsWithin (m : Mind) (holds : Holds) : Type 0 where
  pub blocks : (b : ℕ) (q : Place) → Stands (known m holds) b q → b < length holds
  pub labels : (b : ℕ) (q : Place) → b ≢ 1 → Stands (known m holds) b q → m.label_block b < length holds
  pub waits : (leaf on j : ℕ) → IsWait m.waits leaf on j → leaf < length holds

-- tops that stand somewhere, and were settled whole
abbrev pub AreTops : Mind → Holds → List ℕ → Type 0
AreTops m holds tops = (t : ℕ) → Contains tops t → (p : Place) × Stands (known m holds) t p × (m.newborn t ≡ false)

-- The invariant has it that all which stands is of the device.
abbrev pub StandsWithin : Type 0
StandsWithin = (high : ℕ) (doubts : List Content) (m : Mind) (holds : Holds) → Safe (known m holds) high doubts → IsWithin m holds

-- EACH IMAGE OF THE DEVICE is, in all that these tops reach, one that a crash may leave by what is known; and each block reached has a label
-- there that fits.
abbrev pub DeviceIsShown : Type 0
DeviceIsShown = (high : ℕ) (doubts : List Content) (m : Mind) (holds : Holds) (device : List Block) (tops : List ℕ) → Safe (known m holds) high doubts → AreTops m holds tops → IsImage holds device → IsOneOf (λ t. Contains tops t) (Remains (known m holds)) (read_image m device) × ((t a i b : ℕ) → Contains tops t → Reaches (read_image m device) (to_block t) a → target ((read_image m device a).slot i) ≡ Local b → IsLabelled (known m holds) (read_labels m device) b)
