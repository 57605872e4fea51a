-- A record that moves.
use Rattle.std.specs.Prelude.{◌+◌, ◌*◌, ◌%◌, ℕ}
use Rattle.fo_image.specs.declared.record.Record.{Record}
use Rattle.fo_ports.specs.State.{State}
use Rattle.fo_dir_put.specs.Paired.{HasBoth}

-- The record has its pair in a leaf of entries in memory, where neither entry waits to be cleared.
pub record IsBacked (entries : ℕ) (r : Record) (s : State) : Type 0 where
  pub has : HasBoth entries s.now r
  pub first : s.clearing entries (2 * (r.slot % 102)) → ⊥
  pub second : s.clearing entries (2 * (r.slot % 102) + 1) → ⊥
