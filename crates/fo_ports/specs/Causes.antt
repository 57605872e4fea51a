-- Why a call on blocks may be refused.
use Rattle.std.specs.Prelude.{ℕ, ◌<◌}
use Rattle.fo_ports.specs.State.{State, IsSettled}
use Rattle.fo_ports.specs.declared.error.BlockError.{BlockError}
use Rattle.fo_ports.specs.declared.error.BlockError.TheVariants.{Full, Damaged, Fault, Arena, Memory}

-- Each refusal has its cause; want of memory needs none.
abbrev pub Caused : (full : Type 0) (damaged : ℕ → Type 0) (fault arena : Type 0) → BlockError → Type 0
Caused full damaged fault arena Full = full
Caused full damaged fault arena (Damaged at) = damaged at
Caused full damaged fault arena (Fault which) = fault
Caused full damaged fault arena (Arena which) = arena
Caused full damaged fault arena Memory = Unit {0}

-- There is no room: fewer blocks are usable than are asked for, all is settled, and nothing waits.
abbrev pub IsFull : State → ℕ → Type 0
IsFull s asked = (s.usable < asked) × IsSettled s
