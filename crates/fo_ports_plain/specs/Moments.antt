-- Moments that pass.
use Rattle.std.specs.Prelude.{◌≡◌, ◌⊎◌, ◌<◌, ℕ, List, ◌∷◌, length, slice_index_or}
use Rattle.fo_crash.specs.Images.{Image}
use Rattle.fo_ports.specs.State.{State}
use Rattle.fo_ports_plain.specs.declared.block.PlainBlock.{PlainBlock}
use Rattle.fo_ports_plain.specs.declared.moment.Moment.{Moment}

-- What the device has is kept, or nothing is.
abbrev pub MayPass : List PlainBlock → (old new : List Moment) → Type 0
MayPass blocks old new = (new ≡ old) ⊎ ((m : Moment) × (m.blocks.items ≡ blocks) × (new ≡ m ∷ old))

-- At this moment a crash could have left an image in which the block has these bytes.
pub record WasLeft (s : State) (moment at : ℕ) (bytes : List ℕ) : Type 0 where
  pub image : Image
  pub left : s.left moment image
  pub has : (image at).bytes ≡ bytes

-- A moment was kept, and it has this block.
pub record IsKept (seen : List Moment) (moment at : ℕ) : Type 0 where
  pub within : moment < length seen
  pub each : (m : Moment) → slice_index_or seen moment m ≡ m → at < length m.blocks.items
