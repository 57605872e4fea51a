-- Beginnings of lists, the elements at some places, and lists of seats' numbers.
use Rattle.std.specs.Prelude.{◌≡◌, ℕ, suc, zero, min, List, [], ◌∷◌, ◌++◌, length, nat_lt, if◌then◌else◌}
use mathlib.Core.Option.{Option, none, some}
use lib.ListN.{get_elem?}

module _ {A : Type 0} where
  -- the first list begins with the second
  abbrev pub StartsWith : List A → List A → Type 0
  StartsWith log seen = (rest : List A) × (log ≡ seen ++ rest)

  -- of two lists the longer; the first where they are as long
  abbrev pub longer : List A → List A → List A
  longer xs ys = if nat_lt (length xs) (length ys) then ys else xs

  -- the other one
  abbrev pub shorter : List A → List A → List A
  shorter xs ys = if nat_lt (length xs) (length ys) then xs else ys

  abbrev pub list_of : Option A → List A
  list_of none = []
  list_of (some x) = x ∷ []

  -- the elements at these places, in their order
  abbrev pub elements_at : List A → List ℕ → List A
  elements_at log [] = []
  elements_at log (k ∷ ks) = list_of (get_elem? log k) ++ elements_at log ks

-- 0, 1, .. up to below n
abbrev pub first_numbers : ℕ → List ℕ
first_numbers zero = []
first_numbers (suc n) = first_numbers n ++ n ∷ []

-- the least number of a list
abbrev pub least : List ℕ → ℕ
least [] = 0
least (n ∷ []) = n
least (n ∷ m ∷ ns) = min n (least (m ∷ ns))

-- a number more, beside the greatest of some numbers and the others of them
abbrev pub greatest_with : ℕ → List ℕ → ℕ × List ℕ → ℕ × List ℕ
greatest_with n ns r = if nat_lt n r.0 then (r.0, n ∷ r.1) else (n, ns)

-- the greatest number of a list, and the others
abbrev pub split_greatest : List ℕ → ℕ × List ℕ
split_greatest [] = (0, [])
split_greatest (n ∷ []) = (n, [])
split_greatest (n ∷ m ∷ ns) = greatest_with n (m ∷ ns) (split_greatest (m ∷ ns))
