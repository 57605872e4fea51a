-- What waits, in lists.
use Rattle.std.specs.Prelude.{◌≡◌, ◌⊎◌, ◌/◌, ℕ, Bool, false, List, [], ◌∷◌}
use Rattle.fo_crash.specs.declared.slot.Slot.{Slot}
use Rattle.fo_crash.specs.declared.slot.Slot.TheVariants.{Pointer as To, Entry as Head, Prev}
use Rattle.fo_waits.specs.declared.listed.Wait.{Wait}
use Rattle.fo_waits.specs.declared.listed.Clearing.{Clearing}

abbrev pub is_active : Slot → Bool
is_active (Head e) = e.active
is_active (To p) = false
is_active (Prev epoch at) = false

-- This block waits for this pair of entries of that one.
abbrev pub Listed : List Wait → ℕ → ℕ → ℕ → Type 0
Listed [] a on k = ⊥
Listed (w ∷ ws) a on k = ((w.at ≡ a) × (w.on ≡ on) × (w.pair ≡ k)) ⊎ Listed ws a on k

abbrev pub Awaits : List Wait → ℕ → ℕ → ℕ → Type 0
Awaits waits a on j = Listed waits a on (j / 2)

-- This slot waits to be cleared.
abbrev pub Clears : List Clearing → ℕ → ℕ → Type 0
Clears [] at j = ⊥
Clears (c ∷ cs) at j = ((c.at ≡ at) × (c.slot ≡ j)) ⊎ Clears cs at j

-- This slot waits to be cleared when that leaf is settled.
abbrev pub ClearsAfter : List Clearing → ℕ → ℕ → ℕ → Type 0
ClearsAfter [] at j leaf = ⊥
ClearsAfter (c ∷ cs) at j leaf = ((c.at ≡ at) × (c.slot ≡ j) × (c.after ≡ leaf)) ⊎ ClearsAfter cs at j leaf
