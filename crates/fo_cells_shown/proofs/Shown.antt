-- Each image of the device is, in all that tops reach, one that a crash may leave; and what is reached has a label there that fits.
use Rattle.std.proofs.Common.{◌≡◌, ℕ, List}
use Rattle.std.specs.List.{Contains}
use Rattle.fo_disk.specs.Disk.{Block, IsImage}
use Rattle.fo_disk.specs.Disk.{Content as Holds}
use Rattle.fo_image.specs.declared.types.Pointer.TheVariants.{Local}
use Rattle.fo_crash.specs.Images.{Content, Reaches, target, to_block}
use Rattle.fo_crash.specs.Steps.{IsOneOf}
use Rattle.fo_cells.specs.Known.{Remains}
use Rattle.fo_cells.specs.Device.{Mind, known, read_image, read_labels}
use Rattle.fo_cells.specs.Laws.{Safe}
use Rattle.fo_cells.proofs.Left.{of_device, device_left}
use Rattle.fo_cells.proofs.Removing.{shown}
use Rattle.fo_cells_shown.specs.Labels.{IsLabelled}
use Rattle.fo_cells_shown.specs.Shown.{IsWithin, AreTops}
use Rattle.fo_cells_shown.proofs.Labels.{labelled}

pub stands_within : (high : ℕ) (doubts : List Content) (m : Mind) (holds : Holds) → Safe (known m holds) high doubts → IsWithin m holds
stands_within high doubts m holds safe = record {
  blocks = λ b q st. of_device (m.read b) holds b (safe.of_device.blocks b q st);
  labels = λ b q ne st. of_device (m.label_in b) holds (m.label_block b) (safe.of_device.labels b q ne st);
  waits = λ leaf on j is. of_device (m.read leaf) holds leaf (safe.waits leaf on j is).3;
}

module _ (high : ℕ) (doubts : List Content) (m : Mind) (holds : Holds) (device : List Block) (tops : List ℕ) (safe : Safe (known m holds) high doubts) (stand : AreTops m holds tops) (is : IsImage holds device) where
  pub device_shown : IsOneOf (λ t. Contains tops t) (Remains (known m holds)) (read_image m device)
  device_shown = shown tops safe (device_left m holds device is) stand

  pub device_labelled : (t a i b : ℕ) → Contains tops t → Reaches (read_image m device) (to_block t) a → target ((read_image m device a).slot i) ≡ Local b → IsLabelled (known m holds) (read_labels m device) b
  device_labelled t a i b among r e = let x = stand t among in labelled high t a i b x.0 doubts (known m holds) (read_image m device) (read_labels m device) safe (device_left m holds device is) x.1 x.2 r e
