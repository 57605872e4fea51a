-- Where a line ends, and that more bytes behind it change nothing.
use Rattle.std.proofs.Common.{◌≡◌, ℕ, ◌+◌, ◌-◌, ◌<◌, ◌≤◌, Bool, true, false, not, inl, inr, List, [], ◌∷◌, ◌++◌, length, take, drop, Some, None, refl, sym, ap, subst, ◌∙◌, eqb, ltb, cond, arith}
use Rattle.std.specs.List.{prefix_len}
use Rattle.std.specs.Option.{option_map}
use Rattle.std.proofs.lemmas.Bool.{ltb-false, lt-ltb, le-ltb, ne_eqb, eq-eqb, cond-true, cond-false, cases_lt}
use Rattle.std.proofs.lemmas.List.{length-append, length-take-le, take-append-le, take-append-drop, take_at, take_all, length-drop}
use Rattle.std.proofs.lemmas.List.Folds.{prefix_len-append}
use Rattle.std.proofs.lemmas.List.Sums.{prefix_len-le-length}
use Rattle.std.proofs.lemmas.List.Quantifiers.{position-Some}
use Rattle.fo_lines.specs.Line.{Spells}
use Rattle.fo_lines.specs.declared.line.Line.{Line}
use Rattle.fo_script.specs.Script.{IsLine, line_end}

pub end_within : (bytes : List ℕ) (n : ℕ) → line_end bytes ≡ Some n → n < length bytes
end_within bytes n h = (position-Some (λ (b : ℕ). eqb b 10) bytes n 0 h).0

-- the bytes before the first newline, or all
abbrev before : List ℕ → ℕ
before bytes = prefix_len (λ (b : ℕ). not (eqb b 10)) bytes

some_is : (t : Bool) (l n : ℕ) → cond t (Some l) None ≡ Some n → l ≡ n
some_is true l n h = cc
some_is false l n h = absurd cc

none_is : (t : Bool) (l : ℕ) → cond t (Some l) None ≡ None → t ≡ false
none_is true l h = absurd cc
none_is false l h = refl

pub end_more : (bytes more : List ℕ) (n : ℕ) → line_end bytes ≡ Some n → line_end (bytes ++ more) ≡ Some n
end_more bytes more n h =
    let l = before bytes in
    let within : n < length bytes = end_within bytes n h in
    let is : l ≡ n = some_is (ltb l (length bytes)) l n h in
    let unlike : eqb l (length bytes) ≡ false = ne_eqb l (length bytes) (λ e. absurd (omega (arith, is, within, e))) in
    let stays : before (bytes ++ more) ≡ l = prefix_len-append (λ (b : ℕ). not (eqb b 10)) bytes more ∙ cond-false (eqb l (length bytes)) _ _ unlike in
    let below : ltb (before (bytes ++ more)) (length (bytes ++ more)) ≡ true = lt-ltb (before (bytes ++ more)) (length (bytes ++ more)) (omega (arith, stays, is, within, length-append bytes more)) in
    cond-true (ltb (before (bytes ++ more)) (length (bytes ++ more))) _ _ below ∙ ap (λ (x : ℕ). Some x) (stays ∙ is)

-- bytes without a newline end nowhere within them
pub end_behind : (bytes more : List ℕ) (n : ℕ) → line_end bytes ≡ None → line_end (bytes ++ more) ≡ Some n → length bytes ≤ n
end_behind bytes more n none h =
    let l = before bytes in
    let above : length bytes ≤ l = ltb-false l (length bytes) (none_is (ltb l (length bytes)) l none) in
    let whole : l ≡ length bytes = omega (arith, above, prefix_len-le-length (λ (b : ℕ). not (eqb b 10)) bytes) in
    let is : before (bytes ++ more) ≡ n = some_is (ltb (before (bytes ++ more)) (length (bytes ++ more))) (before (bytes ++ more)) n h in
    let joins : before (bytes ++ more) ≡ length bytes + before more = prefix_len-append (λ (b : ℕ). not (eqb b 10)) bytes more ∙ cond-true (eqb l (length bytes)) _ _ (eq-eqb l (length bytes) whole) in
    omega (arith, is, joins)

pub line_more : (bytes more : List ℕ) (line : Line) (n : ℕ) → IsLine bytes line n → IsLine (bytes ++ more) line n
line_more bytes more line n l =
    let within : n < length bytes = end_within bytes n l.ends in
    let same : take n (bytes ++ more) ≡ take n bytes = take-append-le n bytes more (omega (arith, within)) in
    record { ends = end_more bytes more n l.ends; short = l.short; spells = subst (λ (x : List ℕ). Spells line x) (sym same) l.spells }

pub line_length : (bytes : List ℕ) (n : ℕ) → line_end bytes ≡ Some n → length (take n bytes) ≡ n
line_length bytes n h = let within : n < length bytes = end_within bytes n h in length-take-le n bytes (omega (arith, within))

-- behind bytes without a newline the place of the first is counted from their end
pub end_after : (bytes more : List ℕ) → line_end bytes ≡ None → line_end (bytes ++ more) ≡ option_map (λ (n : ℕ). length bytes + n) (line_end more)
end_after bytes more none =
    let l = before bytes in
    let above : length bytes ≤ l = ltb-false l (length bytes) (none_is (ltb l (length bytes)) l none) in
    let whole : l ≡ length bytes = omega (arith, above, prefix_len-le-length (λ (b : ℕ). not (eqb b 10)) bytes) in
    let joins : before (bytes ++ more) ≡ length bytes + before more = prefix_len-append (λ (b : ℕ). not (eqb b 10)) bytes more ∙ cond-true (eqb l (length bytes)) _ _ (eq-eqb l (length bytes) whole) in
    elim (cases_lt (before more) (length more)) [
      | inl lt ↦ let here : ltb (before (bytes ++ more)) (length (bytes ++ more)) ≡ true = lt-ltb (before (bytes ++ more)) (length (bytes ++ more)) (omega (arith, joins, lt, length-append bytes more)) in
          let there : ltb (before more) (length more) ≡ true = lt-ltb (before more) (length more) lt in
          cond-true (ltb (before (bytes ++ more)) (length (bytes ++ more))) _ _ here ∙ ap (λ (x : ℕ). Some x) joins ∙ sym (ap (option_map (λ (n : ℕ). length bytes + n)) (cond-true (ltb (before more) (length more)) (Some (before more)) None there))
      | inr ge ↦ let here : ltb (before (bytes ++ more)) (length (bytes ++ more)) ≡ false = le-ltb (before (bytes ++ more)) (length (bytes ++ more)) (omega (arith, joins, ge, length-append bytes more)) in
          let there : ltb (before more) (length more) ≡ false = le-ltb (before more) (length more) ge in
          cond-false (ltb (before (bytes ++ more)) (length (bytes ++ more))) _ _ here ∙ sym (ap (option_map (λ (n : ℕ). length bytes + n)) (cond-false (ltb (before more) (length more)) (Some (before more)) None there))
    ]

pub end_seen : (bytes : List ℕ) (seen : ℕ) → seen ≤ length bytes → line_end (take seen bytes) ≡ None → line_end bytes ≡ option_map (λ (n : ℕ). seen + n) (line_end (drop seen bytes))
end_seen bytes seen le none =
    let len : length (take seen bytes) ≡ seen = length-take-le seen bytes le in
    ap line_end (sym (take-append-drop seen bytes)) ∙ end_after (take seen bytes) (drop seen bytes) none ∙ ap (λ (k : ℕ). option_map (λ (n : ℕ). k + n) (line_end (drop seen bytes))) len

pub end_none : (bytes : List ℕ) → line_end (take 0 bytes) ≡ None
end_none [] = refl
end_none (b ∷ bytes) = refl

-- what was seen is still at the front
pub seen_stays : (waiting came new : List ℕ) (n : ℕ) → n ≡ length waiting → new ≡ waiting ++ came → line_end waiting ≡ None → line_end (take n new) ≡ None
seen_stays waiting came new n len is none = ap (λ (bytes : List ℕ). line_end (take n bytes)) is ∙ ap line_end (take_at waiting came n (sym len)) ∙ none

behind_is : (bytes : List ℕ) (seen : ℕ) → take (length bytes - seen) (drop seen bytes) ≡ drop seen bytes
behind_is bytes seen = take_all (length bytes - seen) (drop seen bytes) (omega (arith, length-drop seen bytes))

pub seen_some : (bytes : List ℕ) (seen n : ℕ) → seen ≤ length bytes → line_end (take seen bytes) ≡ None → line_end (take (length bytes - seen) (drop seen bytes)) ≡ Some n → Some (seen + n) ≡ line_end bytes
seen_some bytes seen n le none is = sym (end_seen bytes seen le none ∙ ap (option_map (λ (k : ℕ). seen + k)) (ap line_end (sym (behind_is bytes seen)) ∙ is))

pub seen_none : (bytes : List ℕ) (seen : ℕ) → seen ≤ length bytes → line_end (take seen bytes) ≡ None → line_end (take (length bytes - seen) (drop seen bytes)) ≡ None → None ≡ line_end bytes
seen_none bytes seen le none is = sym (end_seen bytes seen le none ∙ ap (option_map (λ (k : ℕ). seen + k)) (ap line_end (sym (behind_is bytes seen)) ∙ is))
