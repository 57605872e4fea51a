-- From which settled low epoch on a block is usable.
use Rattle.std.specs.Prelude.{ℕ, ◌^◌, ◌==◌, if◌then◌else◌}
use Rattle.fo_image.specs.declared.types.State.{State}
use Rattle.fo_image.specs.declared.types.State.TheVariants.{Free, Live, Closed}
use Rattle.fo_image.specs.declared.types.Label.{Label}

-- a live block is usable from no epoch on: all are below 2 ^ 32
abbrev pub floor_in : State → Label → ℕ
floor_in Free l = 0
floor_in Live l = 2 ^ 32
floor_in Closed l = if l.closing == l.epoch then 0 else l.closing

abbrev pub floor : Label → ℕ
floor l = floor_in l.state l
