-- What a seat knows after each step of a gate, and what the step tells it.
use Rattle.std.specs.Prelude.{◌≡◌, ◌≢◌, ℕ, ◌%◌, ◌<◌, ◌≤◌, List, [], ◌∷◌, ◌++◌, length, slice_index, true, false}
use Rattle.atomic_table.specs.Table.{Me, Step, rest}
use Rattle.std.specs.declared.snapshot.Snapshot.{Snapshot}
use Rattle.fo_gate.specs.Weights.{total, below}
use Rattle.fo_gate.specs.Lists.{StartsWith, longer, shorter, least, split_greatest}
use Rattle.fo_gate.specs.History.{IsLegal, last_low, last_high, epochs_word, entry}
use Rattle.fo_gate.specs.declared.view.Entry.{Entry}
use Rattle.fo_gate.specs.declared.view.View.{View}
use Rattle.fo_gate.specs.declared.rule.Slot.{Slot}
use Rattle.fo_gate.specs.declared.rule.Slot.TheVariants.{In, Out, Made}

module _ {S E O : Type 0} where
  -- it waits with this ticket
  abbrev pub with_ticket : View S E O → ℕ → View S E O
  with_ticket v t = record { opening = v.opening; seats = v.seats; numbers = v.numbers; seen = v.seen; calls = v.calls; tickets = t ∷ []; holds = []; owes = false; joined = [] }

  -- it has the state, and has seen the whole history
  abbrev pub with_state : View S E O → List (Entry E O) → S → View S E O
  with_state v log a = record { opening = v.opening; seats = v.seats; numbers = v.numbers; seen = log; calls = v.calls; tickets = v.tickets; holds = a ∷ []; owes = false; joined = [] }

  -- it has made a turn, of which the entry is the last
  abbrev pub with_turn : View S E O → Entry E O → S → View S E O
  with_turn v e z = record { opening = v.opening; seats = v.seats; numbers = v.numbers; seen = v.seen ++ e ∷ []; calls = v.calls ++ length v.seen ∷ []; tickets = v.tickets; holds = z ∷ []; owes = true; joined = [] }

  -- it has posted the epochs
  abbrev pub with_post : View S E O → View S E O
  with_post v = record { opening = v.opening; seats = v.seats; numbers = v.numbers; seen = v.seen; calls = v.calls; tickets = v.tickets; holds = v.holds; owes = false; joined = [] }

  -- it has seen this much of the history
  abbrev pub with_seen : View S E O → List (Entry E O) → View S E O
  with_seen v log = record { opening = v.opening; seats = v.seats; numbers = v.numbers; seen = log; calls = v.calls; tickets = v.tickets; holds = v.holds; owes = v.owes; joined = [] }

  -- it has no ticket and no state
  abbrev pub at_rest : View S E O → View S E O
  at_rest v = record { opening = v.opening; seats = v.seats; numbers = v.numbers; seen = v.seen; calls = v.calls; tickets = []; holds = []; owes = false; joined = [] }

  -- a seat without its greatest number
  abbrev pub without_greatest : View S E O → View S E O
  without_greatest v = record { opening = v.opening; seats = v.seats; numbers = (split_greatest v.numbers).1; seen = v.seen; calls = v.calls; tickets = v.tickets; holds = v.holds; owes = v.owes; joined = v.joined }

  -- a new seat with that number, which has seen as much and has no calls
  abbrev pub greatest_alone : View S E O → View S E O
  greatest_alone v = record { opening = v.opening; seats = v.seats; numbers = (split_greatest v.numbers).0 ∷ []; seen = v.seen; calls = []; tickets = []; holds = []; owes = false; joined = [] }

  -- two seats in one; the shorter of the two histories is kept until it is compared
  abbrev pub joined_view : View S E O → View S E O → View S E O
  joined_view v w = record { opening = v.opening; seats = v.seats; numbers = v.numbers ++ w.numbers; seen = longer v.seen w.seen; calls = v.calls ++ w.calls; tickets = v.tickets; holds = v.holds; owes = v.owes; joined = shorter v.seen w.seen }

  -- what is left of a seat that was joined into another
  abbrev pub spent_view : View S E O
  spent_view = record { opening = []; seats = 0; numbers = []; seen = []; calls = []; tickets = []; holds = []; owes = false; joined = [] }

  -- it has no ticket, does not have the state, and owes no post
  abbrev pub IsIdle : View S E O → Type 0
  IsIdle v = (v.tickets ≡ []) × (v.holds ≡ []) × (v.owes ≡ false)

  -- Its calls stand at places that it has seen, each once: no list of numbers below the length without repeats weighs more.
  abbrev pub IsPlaced : View S E O → Type 0
  IsPlaced v = (f : ℕ → ℕ) → total f v.calls ≤ below f (length v.seen)

  -- it holds no number twice, and each is below the number of seats
  abbrev pub IsApart : View S E O → Type 0
  IsApart v = (f : ℕ → ℕ) → total f v.numbers ≤ below f v.seats

  -- a turn by this event, with this outcome and this state after it, as it lies in the slot
  pub record IsNote (e : E) (o : O) (z : S) (slot : Slot S E O) : Type 0 where
    pub asked : Snapshot E
    pub answered : Snapshot O
    pub after : Snapshot S
    pub is : slot ≡ Made asked answered after
    pub event : asked.value ≡ e
    pub outcome : answered.value ≡ o
    pub state : after.value ≡ z

  -- Draw: the number found is that of a ticket, which the seat has
  abbrev pub Draws : Step (Slot S E O) → Me (Slot S E O) (View S E O) → ℕ → Me (Slot S E O) (View S E O) → Type 0
  Draws st m r n = (t : ℕ) × (r ≡ t % 18446744073709551616) × (n ≡ (with_ticket m.0 t, m.1))

  -- Post: nothing more is owed
  abbrev pub Posts : Step (Slot S E O) → Me (Slot S E O) (View S E O) → ℕ → Me (Slot S E O) (View S E O) → Type 0
  Posts st m r n = n ≡ (with_post m.0, m.1)

  -- Pass on: the slot is given back
  abbrev pub PassesOn : Step (Slot S E O) → Me (Slot S E O) (View S E O) → ℕ → Me (Slot S E O) (View S E O) → Type 0
  PassesOn st m r n = (n ≡ (at_rest m.0, rest m.1)) × IsPlaced m.0

  -- Compare: the shorter history begins the longer, and no place and no number is there twice
  abbrev pub Compares : Step (Slot S E O) → Me (Slot S E O) (View S E O) → ℕ → Me (Slot S E O) (View S E O) → Type 0
  Compares st m r n = (n ≡ (with_seen m.0 m.0.seen, m.1)) × StartsWith m.0.seen m.0.joined × IsPlaced m.0 × IsApart m.0

module _ {S E O : Type 0} (turns : S → E → O → S → Type 0) (low high : S → ℕ) where
  -- the history is legal from the state that a seat knows
  abbrev pub IsLegalFrom : List S → List (Entry E O) → S → Type 0
  IsLegalFrom o log z = (a : S) → o ≡ a ∷ [] → IsLegal turns low high a log z

  -- the seat has the state in its slot, and has seen the whole history
  abbrev pub Takes : Me (Slot S E O) (View S E O) → Me (Slot S E O) (View S E O) → Type 0
  Takes m n = (log : List (Entry E O)) × (a : S) × StartsWith log m.0.seen × IsLegalFrom m.0.opening log a × (length log ≤ 4611686018427387904) × IsPlaced m.0 × (n ≡ (with_state m.0 log a, (0, In a (length log)) ∷ m.1))

  -- the same, with the state out of the slot
  abbrev pub HasEntered : View S E O → S → ℕ → Me (Slot S E O) (View S E O) → Type 0
  HasEntered v a n m = (log : List (Entry E O)) × (t : ℕ) × StartsWith log v.seen × IsLegalFrom v.opening log a × (n ≡ length log) × (n ≤ 4611686018427387904) × IsPlaced v × (m ≡ (with_state (with_ticket v t) log a, (0, Out) ∷ []))

  -- Look: where the number found is that of the seat's ticket, it has the state; else nothing changes
  abbrev pub Looks : Step (Slot S E O) → Me (Slot S E O) (View S E O) → ℕ → Me (Slot S E O) (View S E O) → Type 0
  Looks st m r n = (r ≡ slice_index m.0.tickets 0 % 18446744073709551616 → Takes m n) × (r ≢ slice_index m.0.tickets 0 % 18446744073709551616 → n ≡ m)

  -- Read: the seat has seen the posted beginning of the history, of which the word has the epochs
  abbrev pub Reads : Step (Slot S E O) → Me (Slot S E O) (View S E O) → ℕ → Me (Slot S E O) (View S E O) → Type 0
  Reads st m r n = (log : List (Entry E O)) × StartsWith log m.0.seen × (n ≡ (with_seen m.0 log, m.1))
      × ((a : S) → m.0.opening ≡ a ∷ [] → (r ≡ epochs_word (last_low (low a) log) (last_high (high a) log)) × (last_high (high a) log < 4294967296) × ((z : S) × IsLegal turns low high a log z))

module _ {S E O : Type 0} (low high : S → ℕ) where
  -- the turn that lies in the slot is the last entry
  abbrev pub after_slot : Slot S E O → View S E O → View S E O
  after_slot (Made e o z) v = with_turn v (entry (least v.numbers) e.value o.value (low z.value) (high z.value)) z.value
  after_slot (In a n) v = v
  after_slot Out v = v

  abbrev pub after_made : List (ℕ × Slot S E O) → View S E O → View S E O
  after_made [] v = v
  after_made (x ∷ xs) v = after_slot x.1 v

  -- Commit: the turn that lies in the slot is made
  abbrev pub Commits : Step (Slot S E O) → Me (Slot S E O) (View S E O) → ℕ → Me (Slot S E O) (View S E O) → Type 0
  Commits st m r n = n ≡ (after_made m.1 m.0, m.1)
