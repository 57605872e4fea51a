-- The invariant of a device with its buffers.
use Rattle.std.specs.Prelude.{◌<◌, Bool, false, List, [], ◌∷◌, length}
use Rattle.fo_disk.specs.Disk.{Content as Holds}
use Rattle.fo_image.specs.Usable.{free_label}
use Rattle.fo_crash.specs.Images.{nothing}
use Rattle.fo_crash.specs.Places.{super_place}
use Rattle.fo_cells.specs.declared.buffers.Buffer.{Buffer}
use Rattle.fo_cells.specs.Known.{IsKept}
use Rattle.fo_cells.specs.Device.{Mind, Fits, known}
use Rattle.fo_cells.specs.Buffers.{mind_of}

-- what isn't kept in buffers: here nothing
abbrev pub bare : Mind
bare = record { memory = λ b. nothing; newborn = λ b. false; complete = λ b. false; tops = record { at = 1; place = super_place } ∷ []; label = λ b. free_label; low = 0; waits = []; clears = []; read = λ b bytes. record nothing { bytes = bytes }; label_in = λ b bytes. free_label; label_block = λ b. 2 }

-- Both hold, where the device tells what it holds.
pub record AreKept (all : List Buffer) (unsure : List Bool) (holds : Holds) : Type 0 where
  pub kept : 0 < length holds → IsKept (known (mind_of bare all) holds)
  pub fits : 0 < length holds → Fits (mind_of bare all) unsure holds
