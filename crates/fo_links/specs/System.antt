-- What a sink over a writer does to the bytes that the writer is known to hold.
use Rattle.std.specs.Prelude.{ℕ, List, take, Result, MatchResult}
use Rattle.std.specs.declared.option.Option.{Option}
use Rattle.std.specs.Io.KnownBytes.{Appends}

-- The whole piece is written, or where the call fails a front of it.
abbrev pub WritesFront : {T E : Type 0} → Option (List ℕ) → Option (List ℕ) → List ℕ → Result T E → Type 0
WritesFront old new bytes result =
    MatchResult result (λ _. Appends old new bytes) (λ _. (n : ℕ) × Appends old new (take n bytes))
