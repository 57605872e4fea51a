-- The rule of a gate's table: there is one legal history, and each number, each place of it and each ticket is with one seat.
use Rattle.std.specs.Prelude.{◌≡◌, ◌≢◌, ◌⊎◌, ℕ, ◌+◌, ◌%◌, ◌<◌, ◌≤◌, List, [], ◌∷◌, length, false}
use mathlib.Core.Option.{none, some}
use lib.ListN.{get_elem?}
use Rattle.atomic_table.specs.Table.{State}
use Rattle.fo_gate.specs.Weights.{total, below}
use Rattle.fo_gate.specs.Lists.{StartsWith, first_numbers}
use Rattle.fo_gate.specs.History.{IsLegal, last_low, last_high, epochs_word}
use Rattle.fo_gate.specs.declared.view.Entry.{Entry}
use Rattle.fo_gate.specs.declared.view.View.{View}
use Rattle.fo_gate.specs.declared.rule.Start.{Start}
use Rattle.fo_gate.specs.declared.rule.Slot.{Slot}
use Rattle.fo_gate.specs.declared.rule.Slot.TheVariants.{In}

module _ {S E O : Type 0} where
  -- 1 where the seat has the state, else 0
  abbrev pub states_held : View S E O → ℕ
  states_held v = length v.holds

  -- what the first seat knows
  abbrev pub first_view : Start S → View S E O
  first_view k = record { opening = k.state.value ∷ []; seats = k.seats; numbers = first_numbers k.seats; seen = []; calls = []; tickets = []; holds = []; owes = false; joined = [] }

  -- What is so of each seat's view, where the history is `log`, its posted beginning is `shown`, its last state is `end`, and `served` turns were passed on.
  pub record Fits (key : Start S) (log shown : List (Entry E O)) (end : S) (served : ℕ) (v : View S E O) : Type 0 where
    pub seats : 0 < length v.numbers → v.seats ≡ key.seats
    pub opening : (a : S) → v.opening ≡ a ∷ [] → a ≡ key.state.value
    pub seen : v.holds ≡ [] → StartsWith shown v.seen
    pub placed : (f : ℕ → ℕ) → total f v.calls ≤ below f (length v.seen)
    pub joined : StartsWith v.seen v.joined
    pub numbered : v.numbers ≡ [] → v.calls ≡ []
    pub queued : length v.tickets ≤ length v.numbers
    pub held : v.holds ≢ [] → (v.holds ≡ end ∷ []) × (v.seen ≡ log) × (v.tickets ≡ served ∷ []) × (v.owes ≡ false → shown ≡ log)

module _ {S E O : Type 0} (turns : S → E → O → S → Type 0) (low high : S → ℕ) where
  -- The words are the history's length, the tickets drawn and the turns passed on (modulo 2^64), and the posted epochs.
  -- The slot has the history's last state, unless a seat has it.
  pub record IsKept (key : Start S) (s : State (Slot S E O) (View S E O)) : Type 0 where
    pub log : List (Entry E O)
    pub shown : List (Entry E O)
    pub end : S
    pub drawn : ℕ
    pub served : ℕ
    pub words : s.words ≡ length log ∷ drawn % 18446744073709551616 ∷ served % 18446744073709551616 ∷ epochs_word (last_low (low key.state.value) shown) (last_high (high key.state.value) shown) ∷ []
    pub legal : IsLegal turns low high key.state.value log end
    pub behind : StartsWith log shown
    pub small : (last_low (low key.state.value) shown < 4294967296) × (last_high (high key.state.value) shown < 4294967296)
    pub few : key.seats < 4294967296
    pub most : length log ≤ 4611686018427387904
    pub numbered : (f : ℕ → ℕ) → total (λ v. total f v.numbers) s.views ≡ below f key.seats
    pub placed : (f : ℕ → ℕ) → total (λ v. total f v.calls) s.views ≡ below f (length log)
    pub queued : (f : ℕ → ℕ) → total (λ v. total f v.tickets) s.views + below f served ≡ below f drawn
    pub each : (j : ℕ) (v : View S E O) → get_elem? s.views j ≡ some v → Fits key log shown end served v
    pub home : ((total states_held s.views ≡ 0) × (s.homes ≡ some (In end (length log)) ∷ []) × (shown ≡ log)) ⊎ ((total states_held s.views ≡ 1) × (s.homes ≡ none ∷ []))
