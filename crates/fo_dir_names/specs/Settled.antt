-- What memory alone shows.
use Rattle.std.specs.Prelude.{◌≡◌}
use Rattle.fo_crash.specs.Images.{Image}
use Rattle.fo_ports.specs.State.{State}

-- memory is the only image
abbrev pub memory : State → Image → Type 0
memory s image = image ≡ s.now
