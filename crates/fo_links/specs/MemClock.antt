-- What a clock in memory tells.
use Rattle.std.specs.Prelude.{ℕ, ◌+◌, Some, slice_index}
use Rattle.fo_links.specs.Clocks.{Readings}
use Rattle.fo_links.specs.declared.clock.MemClock.{MemClock}

-- its moments from its place on, and then 0
abbrev pub coming_of : MemClock → Readings
coming_of clock = Some (λ n. slice_index clock.moments.items (clock.at + n))
