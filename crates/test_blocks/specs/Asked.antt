-- What a file step tells of how long a file is.
use Rattle.std.specs.Prelude.{◌≡◌, ℕ, Bool, Ok}
use Rattle.fo_world.specs.World.{World}
use Rattle.fo_world.specs.Step as step
use Rattle.fo_world.specs.declared.place.Place.{Place}
use Rattle.fo_world.specs.declared.place.Info.{Info}

abbrev pub IsLong : Bool → World → Place → ℕ → Type 0
IsLong whole w at n = (i : Info) × (step.info whole w at ≡ Ok (i, w)) × (i.length ≡ n)
