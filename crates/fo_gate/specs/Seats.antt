-- What clauses read of a gate and a seat.
use Rattle.std.specs.Prelude.{◌≡◌, ℕ}
use Rattle.fo_gate.specs.Calls.{IsViewOf}
use Rattle.fo_gate.specs.declared.turned.Turned.{Ghosts}
use Rattle.fo_gate.specs.declared.view.View.{View}
use Rattle.fo_gate.specs.declared.gate.Gate.{Gate}
use Rattle.fo_gate.specs.declared.gate.Seat.{Seat}

module _ {S E O : Type 0} where
  -- the state that the gate was given
  abbrev pub opening_of : Gate S E O → S
  opening_of g = g.table.shared.key.state.value

  -- how many numbers there are
  abbrev pub seats_of : Gate S E O → ℕ
  seats_of g = g.seats

  -- what a seat knows
  abbrev pub view : {t : Ghosts S E O} → Seat S E O t → View S E O
  view s = s.inner.me.0

  -- The gate gave this seat. What it has seen is legal from the gate's opening state, and its calls stand in it, each once.
  pub record IsSeatOf {t : Ghosts S E O} (g : Gate S E O) (s : Seat S E O t) : Type 0 where
    pub gate : s.inner.table_id ≡ g.table.shared.table_id
    pub knows : IsViewOf t.turns t.low t.high (opening_of g) (seats_of g) (view s)
