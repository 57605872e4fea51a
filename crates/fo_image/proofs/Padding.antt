-- Bytes that begin with the parts of a format, and zeros.
use Rattle.std.proofs.Common.{◌≡◌, ◌≢◌, ℕ, zero, suc, ◌+◌, ◌-◌, ◌<◌, ◌≤◌, Bool, true, false, ◌&&◌, eqb, List, [], ◌∷◌, ◌++◌, length, get_or, take, drop, refl, sym, ap, ◌∙◌, append_assoc, arith}
use Rattle.std.specs.Prelude.{replicate}
use Rattle.std.specs.List.{flat_map, list_all}
use Rattle.std.proofs.lemmas.List.{take-append-drop, drop_more, append_cancel_left, append-nil, length-append, length-drop, length-replicate, drop_all}
use Rattle.std.proofs.lemmas.List.Concat.{flat_map-append, flat_map-cons}
use Rattle.std.proofs.lemmas.Bool.{eqb-true}
use borrow.Rule.Slice.PartMut.{put_mid}
use Rattle.fo_image.specs.Field.{zeros, padded}

pub length-zeros : (n : ℕ) → length (zeros n) ≡ n
unfolding zeros
length-zeros n = length-replicate n 0

and_true_left : (a b : Bool) → (a && b) ≡ true → a ≡ true
and_true_left true b h = refl
and_true_left false b h = h

and_true_right : (a b : Bool) → (a && b) ≡ true → b ≡ true
and_true_right true b h = h
and_true_right false b h = absurd cc

pub zeros-from_all : (xs : List ℕ) → list_all (λ b. eqb b 0) xs ≡ true → xs ≡ zeros (length xs)
unfolding zeros
zeros-from_all [] h = refl
zeros-from_all (x ∷ xs) h = cc (eqb-true x 0 (and_true_left (eqb x 0) _ h), zeros-from_all xs (and_true_right (eqb x 0) _ h))

pub all-zeros : (n : ℕ) → list_all (λ b. eqb b 0) (zeros n) ≡ true
unfolding zeros
all-zeros zero = refl
all-zeros (suc n) = all-zeros n

-- one piece after those before it
pub split_at_piece : {X : Type 0} (f : X → List ℕ) (xs : List X) (i : ℕ) (d : X) → i < length xs
    → flat_map f xs ≡ flat_map f (take i xs) ++ (f (get_or xs i d) ++ flat_map f (drop (i + 1) xs))
split_at_piece f xs i d lt =
    ap (flat_map f) (sym (take-append-drop i xs)) ∙ flat_map-append f (take i xs) (drop i xs)
    ∙ ap (λ ys. flat_map f (take i xs) ++ flat_map f ys) (drop_more xs i d lt)
    ∙ ap (λ ys. flat_map f (take i xs) ++ ys) (flat_map-cons f (get_or xs i d) (drop (i + 1) xs))

pub room_for_piece : {X : Type 0} (f : X → List ℕ) (xs : List X) (i : ℕ) (d : X) → i < length xs
    → length (flat_map f (take i xs)) + length (f (get_or xs i d)) ≤ length (flat_map f xs)
room_for_piece f xs i d lt =
    let e = ap length (split_at_piece f xs i d lt) in
    omega (arith, e, length-append (flat_map f (take i xs)) (f (get_or xs i d) ++ flat_map f (drop (i + 1) xs)), length-append (f (get_or xs i d)) (flat_map f (drop (i + 1) xs)))

-- where a piece is not in its place, the pieces are not there
pub piece_lacks : {X : Type 0} (f : X → List ℕ) (xs : List X) (i : ℕ) (d : X) (bytes rest more : List ℕ) → i < length xs
    → bytes ≡ flat_map f (take i xs) ++ rest → ((r : List ℕ) → rest ≢ f (get_or xs i d) ++ r) → bytes ≢ flat_map f xs ++ more
piece_lacks f xs i d bytes rest more lt is lacks e =
    let front = flat_map f (take i xs) in
    let piece = f (get_or xs i d) in
    let back = flat_map f (drop (i + 1) xs) in
    let whole : front ++ rest ≡ front ++ (piece ++ (back ++ more)) =
    sym is ∙ e ∙ ap (λ ys. ys ++ more) (split_at_piece f xs i d lt) ∙ append_assoc front (piece ++ back) more ∙ ap (λ ys. front ++ ys) (append_assoc piece back more) in
    lacks (back ++ more) (append_cancel_left front rest (piece ++ (back ++ more)) whole)

-- all pieces, and zeros
pub padded_from_all : (front rest bytes : List ℕ) → bytes ≡ front ++ rest → list_all (λ b. eqb b 0) rest ≡ true → bytes ≡ padded (length bytes) front
padded_from_all front rest bytes is h =
    let n : length rest ≡ length bytes - length front = omega (arith, ap length is, length-append front rest) in
    is ∙ ap (λ ys. front ++ ys) (zeros-from_all rest h ∙ ap zeros n)

pub all_from_padded : (front rest bytes : List ℕ) (n : ℕ) → bytes ≡ front ++ rest → bytes ≡ front ++ zeros n → list_all (λ b. eqb b 0) rest ≡ true
all_from_padded front rest bytes n is e = rw (append_cancel_left front rest (zeros n) (sym is ∙ e)) (all-zeros n)

pub filled_up : (front into back : List ℕ) (at size : ℕ) → take at into ≡ front → at ≡ length front → at ≤ length into → length into ≡ size → back ≡ replicate (length into - at) 0
    → put_mid at (length into - at) into back ≡ padded size front
unfolding zeros
filled_up front into back at size is at_is le len back_is =
    let none : drop (length into - at) (drop at into) ≡ [] = drop_all (length into - at) (drop at into) (omega (arith, length-drop at into)) in
    let n : length into - at ≡ size - length front = omega arith in
    rw (is, none, back_is, append-nil, n) refl
