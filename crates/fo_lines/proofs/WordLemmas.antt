-- Numbers and hexadecimal: what is written is read, and what is read is written.
use Rattle.std.proofs.Common.{◌≡◌, ℕ, ◌+◌, ◌-◌, ◌/◌, ◌%◌, ◌<◌, ◌≤◌, ◌^◌, ◌==◌, List, [], ◌∷◌, ◌++◌, Bool, true, false, ◌&&◌, nat_lt, nat_le, Option, Some, None, Result, Ok, Err, inl, inr, subst, refl, sym, ap, ◌∙◌, arith}
use Rattle.std.specs.Prelude.{IfSome, if◌then◌else◌}
use Rattle.std.specs.Str.{bytes_eq, IsUtf8}
use Rattle.std.specs.Str.Parse.{digits_value, ParsesUnsigned}
use Rattle.std.specs.Fmt.{decimal}
use Rattle.std.proofs.lemmas.Bool.{and_parts, and_from, cases_Bool, cases_lt, leb-true, ltb-true, eqb-true, lt-ltb, le-leb, cond-true, cond-false}
use Rattle.std.proofs.lemmas.Slice.Eq.{bytes_eq-Decides}
use Rattle.std.proofs.lemmas.Fmt.{decimal_is_IsNumeral, parse-decimal, decimal_digit, decimal_step, IsAscii-decimal}
use Rattle.std.proofs.lemmas.Str.{IsUtf8-from_ascii}
use Rattle.hex.specs.Hex.{IsBytes, decode_of, encode_lower}
use Rattle.hex.specs.declared.error.FromHexError.{FromHexError}
use Rattle.hex.proofs.HexLemmas.{decode_of-ok, decode_of-encode_lower}
use Rattle.fo_lines.specs.Reading.{is_number, number_at, session_at, respelled, bytes_at}

-- a fact of what either branch gives
pub if_some : {A : Type 0} (b : Bool) (x y : Option A) (P : A → Type 0) → (b ≡ true → IfSome x P) → (b ≡ false → IfSome y P) → IfSome (if b then x else y) P
if_some true x y P f g = f refl
if_some false x y P f g = g refl

-- ---- numbers

number_written : (n : ℕ) (word : List ℕ) → is_number n word ≡ true → (n < 2 ^ 32) × (decimal n ≡ word)
number_written n word h =
    let p = and_parts (nat_lt n (2 ^ 32)) (bytes_eq (decimal n) word) h in
    (ltb-true n (2 ^ 32) p.0, (bytes_eq-Decides (decimal n) word).0 p.1)

number_is : (n : ℕ) (word : List ℕ) → n < 2 ^ 32 → word ≡ decimal n → is_number n word ≡ true
number_is n word lt e = and_from _ _ (lt-ltb n (2 ^ 32) lt) ((bytes_eq-Decides (decimal n) word).1 (sym e))

value_of_decimal : (n : ℕ) (word : List ℕ) → n < 2 ^ 32 → word ≡ decimal n → digits_value 10 word ≡ n
value_of_decimal n word lt e = ap (digits_value 10) e ∙ (decimal_is_IsNumeral n (omega arith)).1

pub number_here : (n : ℕ) (word : List ℕ) → n < 2 ^ 32 → word ≡ decimal n → number_at word ≡ Some n
unfolding number_at
number_here n word lt e =
    let value = value_of_decimal n word lt e in
    cond-true _ _ _ (ap (λ m. is_number m word) value ∙ number_is n word lt e) ∙ ap (λ m. Some m) value

pub number_found : (n : ℕ) (word : List ℕ) → is_number n word ≡ true → Some n ≡ number_at word
number_found n word h =
    let w = number_written n word h in
    sym (number_here n word w.0 (sym w.1))

pub number_none : (word : List ℕ) → ((n : ℕ) → is_number n word ≡ true → ⊥) → None ≡ number_at word
unfolding number_at
number_none word never =
    elim (cases_Bool (is_number (digits_value 10 word) word)) [
      | inl e ↦ absurd (never _ e)
      | inr e ↦ sym (cond-false _ _ _ e)
    ]

pub number_spelled : (word : List ℕ) → IfSome (number_at word) (λ n. (n < 2 ^ 32) × (word ≡ decimal n))
unfolding number_at
number_spelled word =
    if_some (is_number (digits_value 10 word) word) _ _ _ (λ h. let w = number_written (digits_value 10 word) word h in (w.0, sym w.1)) (λ _. tt)

-- a word that is a number is parsed as it
pub parsed : {E : Type 0} (word : List ℕ) (r : Result ℕ E) → ParsesUnsigned 32 10 word r → (n : ℕ) → is_number n word ≡ true → r ≡ Ok n
parsed word r p n h =
    let w = number_written n word h in
    parse-decimal 32 n word r (omega (arith, w.0)) (omega (arith, w.0)) (sym w.1) p

pub number_is_text : (word : List ℕ) (n : ℕ) → is_number n word ≡ true → IsUtf8 word
number_is_text word n h =
    let w = number_written n word h in
    subst IsUtf8 w.1 (IsUtf8-from_ascii (decimal n) (IsAscii-decimal n (omega (arith, w.0))))

-- ---- sessions

teen : (n : ℕ) → 10 ≤ n → n < 16 → decimal n ≡ 49 ∷ (38 + n) ∷ []
teen n low high =
    let tens : n / 10 ≡ 1 = omega arith in
    let ones : 48 + n % 10 ≡ 38 + n = omega arith in
    decimal_step n low (omega arith) ∙ ap (λ t. decimal t ++ ((48 + n % 10) ∷ [])) tens ∙ ap (λ d. d ++ ((48 + n % 10) ∷ [])) (decimal_digit 1 (omega arith)) ∙ ap (λ d. 49 ∷ d ∷ []) ones

digit_spelled : (a : ℕ) → 48 ≤ a → a ≤ 57 → (a - 48 < 16) × (a ∷ [] ≡ decimal (a - 48))
digit_spelled a low high =
    let same : 48 + (a - 48) ≡ a = omega arith in
    (omega arith, sym (decimal_digit (a - 48) (omega arith) ∙ ap (λ x. x ∷ []) same))

teen_spelled : (a b : ℕ) → a ≡ 49 → 48 ≤ b → b ≤ 53 → (b - 38 < 16) × (a ∷ b ∷ [] ≡ decimal (b - 38))
teen_spelled a b one low high =
    let same : 38 + (b - 38) ≡ b = omega arith in
    (omega arith, ap (λ x. x ∷ b ∷ []) one ∙ sym (teen (b - 38) (omega arith) (omega arith) ∙ ap (λ x. 49 ∷ x ∷ []) same))

pub session_spelled : (word : List ℕ) → IfSome (session_at word) (λ n. (n < 16) × (word ≡ decimal n))
session_spelled [] = tt
session_spelled (a ∷ []) =
    if_some (nat_le 48 a && nat_le a 57) _ _ _ (λ h. let p = and_parts (nat_le 48 a) (nat_le a 57) h in digit_spelled a (leb-true 48 a p.0) (leb-true a 57 p.1)) (λ _. tt)
session_spelled (a ∷ b ∷ []) =
    if_some (a == 49 && (nat_le 48 b && nat_le b 53)) _ _ _
    (λ h.
    let p = and_parts (a == 49) (nat_le 48 b && nat_le b 53) h in
    let q = and_parts (nat_le 48 b) (nat_le b 53) p.1 in
    teen_spelled a b (eqb-true a 49 p.0) (leb-true 48 b q.0) (leb-true b 53 q.1))
    (λ _. tt)
session_spelled (a ∷ b ∷ c ∷ rest) = tt

pub digit_read : (n : ℕ) → n < 10 → session_at ((48 + n) ∷ []) ≡ Some n
digit_read n lt =
    let back : 48 + n - 48 ≡ n = omega arith in
    cond-true _ _ _ (and_from _ _ (le-leb 48 (48 + n) (omega arith)) (le-leb (48 + n) 57 (omega arith))) ∙ ap (λ m. Some m) back

pub teen_read : (n : ℕ) → 10 ≤ n → n < 16 → session_at (49 ∷ (38 + n) ∷ []) ≡ Some n
teen_read n low high =
    let back : 38 + n - 38 ≡ n = omega arith in
    cond-true _ _ _ (and_from _ _ (le-leb 48 (38 + n) (omega arith)) (le-leb (38 + n) 53 (omega arith))) ∙ ap (λ m. Some m) back

-- how the number of a session is written
pub data Written (n : ℕ) : Type 0 where
  digit : n < 10 → decimal n ≡ (48 + n) ∷ [] → Written n
  two : 10 ≤ n → n < 16 → decimal n ≡ 49 ∷ (38 + n) ∷ [] → Written n

pub written : (n : ℕ) → n < 16 → Written n
written n lt =
    elim (cases_lt n 10) [
      | inl low ↦ digit low (decimal_digit n low)
      | inr high ↦ two high lt (teen n high lt)
    ]

pub session_read : (n : ℕ) → n < 16 → session_at (decimal n) ≡ Some n
session_read n lt = of_written (written n lt)
  where
    of_written : Written n → session_at (decimal n) ≡ Some n
    of_written (digit low e) = ap session_at e ∙ digit_read n low
    of_written (two low high e) = ap session_at e ∙ teen_read n low high

-- ---- hexadecimal

respelled_spelled : (text : List ℕ) (d : Result (List ℕ) FromHexError) → decode_of text ≡ d → IfSome (respelled text d) (λ b. IsBytes b × (text ≡ encode_lower b))
respelled_spelled text (Ok b) h =
    if_some (bytes_eq (encode_lower b) text) _ _ _ (λ e. ((decode_of-ok text b h).3, sym ((bytes_eq-Decides (encode_lower b) text).0 e))) (λ _. tt)
respelled_spelled text (Err e) h = tt

pub bytes_spelled : (text : List ℕ) → IfSome (bytes_at text) (λ b. IsBytes b × (text ≡ encode_lower b))
unfolding bytes_at
bytes_spelled text = respelled_spelled text (decode_of text) refl

pub bytes_here : (text b : List ℕ) → decode_of text ≡ Ok b → respelled text (Ok b) ≡ bytes_at text
unfolding bytes_at
bytes_here text b h = ap (respelled text) (sym h)

pub bytes_none : (text : List ℕ) (e : FromHexError) → decode_of text ≡ Err e → None ≡ bytes_at text
unfolding bytes_at
bytes_none text e h = ap (respelled text) (sym h)

pub bytes_read : (b : List ℕ) → IsBytes b → bytes_at (encode_lower b) ≡ Some b
bytes_read b h =
    sym (bytes_here (encode_lower b) b (decode_of-encode_lower b h)) ∙ cond-true _ _ _ ((bytes_eq-Decides (encode_lower b) (encode_lower b)).1 refl)
