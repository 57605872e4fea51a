-- Where something stands among the pairs of names and nodes that a directory keeps: its index, or the number of pairs.
use Rattle.std.specs.Prelude.{ℕ, List, Option, nat_eq, slice_index_or}
use Rattle.std.specs.List.{position_or_len, prefix_len, insert, remove}
use Rattle.std.specs.Str.{bytes_eq}
use Rattle.fo_world.specs.declared.tree.Node.{Node}
use Rattle.fo_world.specs.Tree.{comes_before}
use Rattle.fo_world.specs.Step.{is_above}

-- the first with a number
abbrev pub place_numbered : ℕ → List (List ℕ × Node) → ℕ
place_numbered k es = position_or_len (λ e. nat_eq e.1.number k) es

-- the first with a name
abbrev pub place_named : List ℕ → List (List ℕ × Node) → ℕ
place_named k es = position_or_len (λ e. bytes_eq e.0 k) es

-- the first that doesn't come before a name
abbrev pub place_from : List ℕ → List (List ℕ × Node) → ℕ
place_from k es = prefix_len (λ e. comes_before e.0 k) es

-- the first that comes after a name
abbrev pub place_for : List ℕ → List (List ℕ × Node) → ℕ
place_for k es = position_or_len (λ e. comes_before k e.0) es

-- the first that comes after a name, where one is given
abbrev pub place_above : Option (List ℕ) → List (List ℕ × Node) → ℕ
place_above after es = position_or_len (λ e. is_above after e.0) es

-- the pairs after the one at an index was changed and got another name
abbrev pub renamed_at : List (List ℕ × Node) → ℕ → List ℕ → (Node → Node) → List ℕ × Node → List (List ℕ × Node)
renamed_at es i name f d = insert (remove es i) (place_for name (remove es i)) (name, f (slice_index_or es i d).1)
