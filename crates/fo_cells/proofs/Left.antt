-- What is left of a device: its images, and that there is one.
use Rattle.std.proofs.Common.{⊎_elim, ℕ, ◌-◌, ◌<◌, List, [], map, length, get_or, sym, ap, subst, arith}
use Rattle.std.proofs.lemmas.Bool.{cases_lt}
use Rattle.std.proofs.lemmas.List.{length-map, get_or_past, get_or-map}
use Rattle.std.proofs.lemmas.List.Elements.{Contains-get_or}
use Rattle.std.specs.List.{Contains}
use Rattle.fo_disk.specs.Disk.{Block, Versions, IsImage, versions_of, latest_of, latest}
use Rattle.fo_disk.specs.Disk.{Content as Holds}
use Rattle.fo_cells.specs.Known.{IsLeft}
use Rattle.fo_cells.specs.Device.{Mind, known, read_image, read_labels}
use Rattle.fo_cells.proofs.Calls.{map_among}

-- what has a version is a block of the device
pub of_device : {X : Type 0} (f : Block → X) (holds : Holds) (b : ℕ) → 0 < length (map f (versions_of holds b)) → b < length holds
of_device f holds b some = ⊎_elim
    (λ lt. lt)
    (λ le. absurd (omega (arith, some, length-map (versions_of holds b) f, ap (λ (vs : Versions). length vs) (get_or_past holds b [] le))))
    (cases_lt b (length holds))

pub device_left : (m : Mind) (holds : Holds) (device : List Block) → IsImage holds device → IsLeft (known m holds) (read_image m device) (read_labels m device)
device_left m holds device is = record {
  each = λ b some. map_among (m.read b) (versions_of holds b) (get_or device b []) (is.each b (of_device (m.read b) holds b some));
  label = λ b some. map_among (m.label_in b) (versions_of holds (m.label_block b)) (get_or device (m.label_block b) []) (is.each (m.label_block b) (of_device (m.label_in b) holds (m.label_block b) some));
}

last_among : (versions : Versions) → 0 < length versions → Contains versions (latest_of versions)
last_among versions some = Contains-get_or versions (length versions - 1) [] (omega (arith, some))

-- the last versions are an image, where each block has a version
pub latest_image : (holds : Holds) → ((b : ℕ) → b < length holds → 0 < length (versions_of holds b)) → IsImage holds (latest holds)
latest_image holds some = record {
  count = length-map holds latest_of;
  each = λ k lt. subst (λ (x : Block). Contains (versions_of holds k) x) (sym (get_or-map latest_of holds k [] [] lt)) (last_among (versions_of holds k) (some k lt));
}
