-- Where a block stands in every image.
use Rattle.std.specs.Prelude.{ℕ}
use Rattle.fo_crash.specs.Images.{Image, Reaches, to_block}
use Rattle.fo_crash.specs.Spots.{Spot, FoundAt}
use Rattle.fo_ports.specs.State.{State}

-- In every image this block hangs from block 1, at the one spot where memory has it: at its place, through the same entries.
pub record IsThere (s : State) (b : ℕ) : Type 0 where
  pub hangs : (image : Image) → s.may_leave image → Reaches image (to_block 1) b
  pub found : (image : Image) (spot : Spot) → s.may_leave image → FoundAt s.tops s.now b spot → FoundAt s.tops image b spot
