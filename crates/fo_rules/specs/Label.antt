-- What a label says of the tree of an epoch.
use Rattle.std.specs.Prelude.{◌≡◌, ℕ, ◌<◌, Bool, true}
use Rattle.fo_image.specs.declared.types.Label.{Label}
use Rattle.fo_image.specs.declared.types.State.TheVariants.{Free, Live, Closed}

-- The tree of this epoch may hold a block with this label: live, or of a snapshot and closed after it.
pub record IsInUse (epoch : ℕ) (active : Bool) (label : Label) : Type 0 where
  pub used : label.state ≡ Free → ⊥
  pub not_closed : label.state ≡ Closed → epoch < label.closing
  pub live : active ≡ true → label.state ≡ Live
