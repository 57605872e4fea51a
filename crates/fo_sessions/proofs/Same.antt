use Rattle.std.proofs.Common.{◌≡◌, ℕ, ◌+◌, ◌<◌, zero, suc, List, [], ◌∷◌, length, slice_index_or, replicate, refl, sym, ap, ◌∙◌, arith}

-- a list of this length that are all this one
pub all_same : {A : Type 0} (xs : List A) (a : A) (n : ℕ) → length xs ≡ n → ((i : ℕ) → i < n → slice_index_or xs i a ≡ a) → xs ≡ replicate n a
all_same [] a zero long each = refl
all_same [] a (suc n) long each = absurd (omega arith)
all_same (x ∷ xs) a zero long each = absurd (omega arith)
all_same (x ∷ xs) a (suc n) long each =
    let ih = all_same xs a n (omega arith) (λ i lt. each (suc i) (omega arith)) in
    ap (λ y. y ∷ xs) (each 0 (omega arith)) ∙ ap (λ ys. a ∷ ys) ih

-- within a list no other value is given
pub at_any : {A : Type 0} (xs : List A) (i : ℕ) (a b : A) → i < length xs → slice_index_or xs i a ≡ slice_index_or xs i b
at_any [] i a b lt = absurd (omega arith)
at_any (x ∷ xs) zero a b lt = refl
at_any (x ∷ xs) (suc i) a b lt = at_any xs i a b (omega arith)
