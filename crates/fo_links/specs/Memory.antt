-- What the sources and sinks in memory do, call by call.
use Rattle.std.specs.Prelude.{◌≡◌, ℕ, ◌==◌, Bool, true, false, min, List, Result, MatchResult}
use Rattle.std.specs.List.{list_any}
use Rattle.fo_links.specs.declared.traits.Failed.{Failed}

-- the call of this number is one of those that shall fail
abbrev pub is_listed : List ℕ → ℕ → Bool
is_listed fails call = list_any (λ number. number == call) fails

-- A call that shall not fail gives as many bytes as are left, up to the step and the piece's length.
abbrev pub GivesUpTo : Bool → ℕ → ℕ → ℕ → Result ℕ Failed → Type 0
GivesUpTo fails left step len result =
    MatchResult result (λ count. (fails ≡ false) × (count ≡ min (min left step) len)) (λ _. fails ≡ true)

-- A call that shall fail does. Another fails only for want of memory, and then puts nothing.
abbrev pub PutsUnless : Bool → List ℕ → List ℕ → Result (Unit {0}) Failed → Type 0
PutsUnless fails held held' result = MatchResult result (λ _. fails ≡ false) (λ _. fails ≡ false → held' ≡ held)
