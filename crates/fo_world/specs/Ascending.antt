-- Pairs of names and what they stand for, in ascending order of the bytes of the names.
use Rattle.std.specs.Prelude.{◌≡◌, ℕ, ⊤, List, [], ◌∷◌, false}
use Rattle.fo_world.specs.Tree.{comes_before}

-- no name of these comes before this one
abbrev pub NoneBefore : {X : Type 0} → List ℕ → List (List ℕ × X) → Type 0
NoneBefore name [] = ⊤
NoneBefore name (e ∷ es) = (comes_before e.0 name ≡ false) × NoneBefore name es

-- no name comes before one that stands in front of it
abbrev pub Ascending : {X : Type 0} → List (List ℕ × X) → Type 0
Ascending [] = ⊤
Ascending (e ∷ es) = NoneBefore e.0 es × Ascending es
