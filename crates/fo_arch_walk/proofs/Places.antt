-- What is reached stands at its place.
use Rattle.std.proofs.Common.{ℕ}
use Rattle.fo_crash.specs.declared.place.Place.{Place}
use Rattle.fo_crash.specs.Images.{Image}
use Rattle.fo_crash.specs.Places.{IsPlaced, root_place}
use Rattle.fo_arch_walk.specs.Reached.{Comes, top, below}

pub reached_stands : (stands : ℕ → Place → Type 0) (image : Image) (root at : ℕ) (p : Place) → IsPlaced stands image → stands root root_place → Comes image root at p → stands at p
reached_stands stands image root _ _ placed there top = there
reached_stands stands image root _ _ placed there (below a i b p comes leads) = placed.each a i b p (reached_stands stands image root a p placed there comes) leads
