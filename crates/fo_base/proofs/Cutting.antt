-- What is joined at a byte and cut at it again.
use Rattle.std.proofs.Common.{◌≡◌, ℕ, ◌==◌, List, [], ◌∷◌, Bool, true, false, not, ◌&&◌, refl, ap, ◌∙◌}
use Rattle.std.specs.List.{list_all, join_with_byte, onto_first, All}
use Rattle.std.proofs.lemmas.Bool.{and_parts, and_from, not-true, not_from_false, cond_both, eq-eqb}
use Rattle.std.proofs.lemmas.List.Sums.{AllPass-from_list_all}
use Rattle.std.proofs.lemmas.List.Elements.{All-weaker}
use Rattle.std.proofs.lemmas.List.Folds.{list_all-append}
use Rattle.std.proofs.lemmas.List.Splits.{slice_split_at, slice_split_none}
use Rattle.fo_base.specs.Parts.{parts_at}

-- no byte is c
abbrev pub lacks : ℕ → List ℕ → Bool
lacks c bytes = list_all (λ b. not (b == c)) bytes

none_passes : (c : ℕ) (bytes : List ℕ) → lacks c bytes ≡ true → All (λ b. (b == c) ≡ false) bytes
none_passes c bytes h =
    All-weaker (λ b. not (b == c) ≡ true) (λ b. (b == c) ≡ false) (λ b e. not-true (b == c) e) bytes (AllPass-from_list_all (λ b. not (b == c)) bytes h)

pub cut_joined : (c : ℕ) (x : List ℕ) (xs : List (List ℕ)) → list_all (lacks c) (x ∷ xs) ≡ true → parts_at c (join_with_byte c (x ∷ xs)) ≡ x ∷ xs
cut_joined c x [] h = slice_split_none (λ b. b == c) x (none_passes c x (and_parts _ _ h).0)
cut_joined c x (y ∷ ys) h =
    slice_split_at (λ b. b == c) x c (join_with_byte c (y ∷ ys)) (none_passes c x (and_parts _ _ h).0) (eq-eqb c c refl)
    ∙ ap (λ parts. x ∷ parts) (cut_joined c y ys (and_parts _ _ h).1)

pub joined_lacks : (c d : ℕ) (xs : List (List ℕ)) → not (d == c) ≡ true → list_all (lacks c) xs ≡ true → lacks c (join_with_byte d xs) ≡ true
joined_lacks c d [] n h = refl
joined_lacks c d (x ∷ []) n h = (and_parts _ _ h).0
joined_lacks c d (x ∷ y ∷ ys) n h =
    list_all-append (λ b. not (b == c)) x (d ∷ join_with_byte d (y ∷ ys))
    ∙ and_from _ _ (and_parts _ _ h).0 (and_from _ _ n (joined_lacks c d (y ∷ ys) n (and_parts _ _ h).1))

-- each passes one test, and what passes it passes another
pub all_pass : {A : Type 0} (p q : A → Bool) → ((x : A) → p x ≡ true → q x ≡ true) → (xs : List A) → list_all p xs ≡ true → list_all q xs ≡ true
all_pass p q pq [] h = refl
all_pass p q pq (x ∷ xs) h = and_from _ _ (pq x (and_parts _ _ h).0) (all_pass p q pq xs (and_parts _ _ h).1)

onto_lacks : (c b : ℕ) → not (b == c) ≡ true → (parts : List (List ℕ)) → list_all (lacks c) parts ≡ true → list_all (lacks c) (onto_first b parts) ≡ true
onto_lacks c b n [] h = and_from _ _ (and_from _ _ n refl) refl
onto_lacks c b n (p ∷ ps) h = and_from _ _ (and_from _ _ n (and_parts _ _ h).0) (and_parts _ _ h).1

-- no part has the byte at which it was cut
pub parts_lack : (c : ℕ) (bytes : List ℕ) → list_all (lacks c) (parts_at c bytes) ≡ true
parts_lack c [] = refl
parts_lack c (b ∷ bs) =
    cond_both (b == c) ([] ∷ parts_at c bs) (onto_first b (parts_at c bs)) (λ parts. list_all (lacks c) parts ≡ true)
    (λ e. parts_lack c bs)
    (λ e. onto_lacks c b (not_from_false (b == c) e) (parts_at c bs) (parts_lack c bs))

-- two tests of each in one
pub both_pass : {A : Type 0} (p q : A → Bool) (xs : List A) → list_all p xs ≡ true → list_all q xs ≡ true → list_all (λ x. p x && q x) xs ≡ true
both_pass p q [] h k = refl
both_pass p q (x ∷ xs) h k =
    let hs = and_parts (p x) (list_all p xs) h in
    let ks = and_parts (q x) (list_all q xs) k in
    and_from _ _ (and_from _ _ hs.0 ks.0) (both_pass p q xs hs.1 ks.1)
