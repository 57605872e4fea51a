-- Numbers in decimal, and what follows them.
use Rattle.std.proofs.Common.{◌≡◌, ◌≢◌, ℕ, suc, ◌+◌, ◌-◌, ◌<◌, ◌≤◌, ◌^◌, false, cond, eqb, Option, Some, None, List, ◌∷◌, ◌++◌, length, take, drop, get_or, Bor, append_assoc, refl, sym, ap, ◌∙◌, eq-eqb, arith}
use Rattle.std.specs.Prelude.{decimal, position, codes, replicate, MatchOption, IsSomeAnd}
use Rattle.std.proofs.Math.Dec.{ltb}
use Rattle.std.proofs.lemmas.List.{get_or_append_left, get_or_at, length-append, take_at, drop_at, drop-drop, take_all, append_cancel_left}
use Rattle.std.proofs.lemmas.List.Sums.{position_or_len_is}
use Rattle.std.proofs.lemmas.Bool.{lt-ltb}
use Rattle.std.proofs.lemmas.Bool.Decides.{eqb_tells}
use Rattle.std.proofs.lemmas.Fmt.{decimal_is_IsNumeral, length-decimal-le}
use Rattle.fo_image.specs.Field.{zeros, padded}
use Rattle.fo_vacput.specs.Vac.{name_text}
use Rattle.std.proofs.lemmas.Str.Parse.{digit_at}
use Rattle.std.specs.List.{position_or_len}

place : (xs more : List ℕ) (end : ℕ) → ((k : ℕ) → k < length xs → eqb (get_or xs k 0) end ≡ false) → position (λ b. eqb b end) (xs ++ (end ∷ more)) ≡ Some (length xs)
place xs more end others =
    let all = xs ++ (end ∷ more) in
    let len : length all ≡ length xs + length (end ∷ more) = length-append xs (end ∷ more) in
    let at : position_or_len (λ b. eqb b end) all ≡ length xs =
    position_or_len_is (λ b. eqb b end) all (length xs) 0 (omega arith) (λ k lt. ap (λ b. eqb b end) (get_or_append_left xs (end ∷ more) 0 k lt) ∙ others k lt)
    (λ lt. ap (λ b. eqb b end) (get_or_at xs end more 0 (length xs) refl) ∙ eq-eqb end end refl) in
    ap (λ i. cond (ltb i (length all)) (Some i) None) at ∙ ap (λ b. cond b (Some (length xs)) None) (lt-ltb (length xs) (length all) (omega arith))

other : (a b : ℕ) → b < a → eqb a b ≡ false
other a b lt = grind (arith, eqb_tells a b)

pub after_number : (n end : ℕ) (more : List ℕ) → n < 2 ^ 32 → end < 48 → position (λ b. eqb b end) (decimal n ++ (end ∷ more)) ≡ Some (length (decimal n))
after_number n end more fits low =
    let digits = (decimal_is_IsNumeral n (omega arith)).0.1 in
    place (decimal n) more end (λ k lt. let in_range = digit_at (decimal n) k digits lt in other (get_or (decimal n) k 0) end (omega arith))

pub front_of : (bytes digits more : List ℕ) (end at : ℕ) → bytes ≡ digits ++ (end ∷ more) → at ≡ length digits → take at bytes ≡ digits
front_of bytes digits more end at e at_is = ap (take at) e ∙ take_at digits (end ∷ more) at (sym at_is)

pub back_of : (bytes digits more : List ℕ) (end at : ℕ) → bytes ≡ digits ++ (end ∷ more) → at ≡ length digits → take (length bytes - (at + 1)) (drop (at + 1) bytes) ≡ more
back_of bytes digits more end at e at_is =
    let behind : drop (at + 1) bytes ≡ more = sym (drop-drop 1 at bytes) ∙ ap (λ xs. drop 1 (drop at xs)) e ∙ ap (drop 1) (drop_at digits (end ∷ more) at (sym at_is)) in
    let len : length bytes ≡ at + suc (length more) = ap length e ∙ length-append digits (end ∷ more) ∙ ap (λ n. n + suc (length more)) (sym at_is) in
    ap (take (length bytes - (at + 1))) behind ∙ take_all (length bytes - (at + 1)) more (omega arith)

pub followed : (r : Option (Bor (List ℕ))) (bytes prefix rest : List ℕ) → MatchOption r ((rest : List ℕ) → bytes ≢ prefix ++ rest) (λ x. bytes ≡ prefix ++ x.now) → bytes ≡ prefix ++ rest
    → IsSomeAnd r (λ x. x.now ≡ rest)
followed None bytes prefix rest m e = absurd (m rest e)
followed (Some x) bytes prefix rest m e = append_cancel_left prefix x.now rest (sym m ∙ e)

-- ---- the whole name

first_zero : (n : ℕ) → 0 < n → zeros n ≡ 0 ∷ zeros (n - 1)
unfolding zeros
first_zero n some = let e : n ≡ suc (n - 1) = omega arith in ap (λ k. replicate k 0) e

short : (n : ℕ) → n < 2 ^ 32 → length (decimal n) ≤ 20
short n lt = length-decimal-le 20 n (omega arith) (omega arith) (omega arith)

pub name_parts : (epoch time : ℕ) → epoch < 2 ^ 32 → time < 2 ^ 32
    → padded 128 (name_text epoch time) ≡ codes "epoch " ++ (decimal epoch ++ (32 ∷ (codes "time " ++ (decimal time ++ (0 ∷ zeros (128 - length (name_text epoch time) - 1))))))
name_parts epoch time le lt =
    let len : length (decimal epoch ++ (codes " time " ++ decimal time)) ≡ length (decimal epoch) + length (codes " time " ++ decimal time) = length-append (decimal epoch) (codes " time " ++ decimal time) in
    let some : 0 < 128 - length (name_text epoch time) = omega (arith, short epoch le, short time lt, len) in
    ap (λ xs. name_text epoch time ++ xs) (first_zero (128 - length (name_text epoch time)) some)
    ∙ ap (λ xs. codes "epoch " ++ xs) (append_assoc (decimal epoch) (codes " time " ++ decimal time) _)
