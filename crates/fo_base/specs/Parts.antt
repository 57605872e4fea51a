-- Bytes cut at a byte.
use Rattle.std.specs.Prelude.{ℕ, List, ◌==◌}
use Rattle.std.specs.List.{slice_split}

-- the parts round this byte
abbrev pub parts_at : ℕ → List ℕ → List (List ℕ)
parts_at separator bytes = slice_split (λ b. b == separator) bytes
