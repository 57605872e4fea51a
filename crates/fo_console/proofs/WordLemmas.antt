-- Numbers, permissions and paths: what is written is read, and what is read is written.
use Rattle.std.proofs.Common.{◌≡◌, ℕ, ◌+◌, ◌<◌, ◌≤◌, ◌^◌, ◌==◌, List, [], ◌∷◌, length, get_or, Bool, true, false, not, ◌&&◌, nat_lt, nat_le, Option, Some, None, Result, Ok, Err, ◌⊎◌, inl, inr, subst, ◌-◌, cond, refl, sym, ap, ◌∙◌, arith, lit<, map, Bor}
use Rattle.std.specs.List.{list_all, join_with_byte}
use Rattle.std.specs.Option.{option_map}
use Rattle.std.specs.Result.{OkIff, result_ok}
use Rattle.std.specs.Char.{digit_value}
use Rattle.std.specs.Str.{bytes_eq}
use Rattle.std.specs.Str.Parse.{digits_value, AllDigits, ParsesUnsigned}
use Rattle.std.specs.Fmt.{decimal}
use Rattle.std.proofs.Math.Nat.{pow-le-pow_right}
use Rattle.std.proofs.lemmas.Bool.{and_parts, and_from, true≢false, cases_Bool, leb-true, ltb-true, eqb-true, ne_eqb, lt-ltb, le-ltb, cond-true, cond-false, not-true, eqb-false}
use Rattle.std.proofs.lemmas.Slice.Eq.{bytes_eq-Decides}
use Rattle.std.proofs.lemmas.Fmt.{decimal_is_IsNumeral, parse-decimal}
use Rattle.std.proofs.lemmas.Int.Digits.{digits_value-lt}
use Rattle.std.proofs.lemmas.Result.{Ok-from_Ok_iff}
use Rattle.std.proofs.lemmas.List.Folds.{list_all-map}
use Rattle.std.proofs.lemmas.List.Splits.{join_with_byte-slice_split}
use Rattle.std.proofs.lemmas.Str.Parse.{without_leading_plus_none}
use Rattle.fo_console.specs.Line.{is_part, IsPath, is_octal, is_octal_word, IsPerm}
use Rattle.fo_base.specs.Parts.{parts_at}
use Rattle.fo_console.specs.Reading.{is_some_text, is_number, number_of, octal_of, perm_of, names_of, path_of}
use Rattle.fo_base.proofs.Cutting.{lacks, cut_joined, parts_lack, both_pass, all_pass}

-- ---- numbers

number_written : (n : ℕ) (word : List ℕ) → is_number n word ≡ true → (n < 2 ^ 31) × (decimal n ≡ word)
number_written n word h =
    let p = and_parts (nat_lt n (2 ^ 31)) (bytes_eq (decimal n) word) h in
    (ltb-true n (2 ^ 31) p.0, (bytes_eq-Decides (decimal n) word).0 p.1)

number_is : (n : ℕ) (word : List ℕ) → n < 2 ^ 31 → word ≡ decimal n → is_number n word ≡ true
number_is n word lt e = and_from _ _ (lt-ltb n (2 ^ 31) lt) ((bytes_eq-Decides (decimal n) word).1 (sym e))

value_of_decimal : (n : ℕ) (word : List ℕ) → n < 2 ^ 31 → word ≡ decimal n → digits_value 10 word ≡ n
value_of_decimal n word lt e = ap (digits_value 10) e ∙ (decimal_is_IsNumeral n (omega arith)).1

pub number_here : (n : ℕ) (word : List ℕ) → n < 2 ^ 31 → word ≡ decimal n → number_of word ≡ Some n
unfolding number_of
number_here n word lt e =
    let value = value_of_decimal n word lt e in
    cond-true _ _ _ (ap (λ m. is_number m word) value ∙ number_is n word lt e) ∙ ap (λ m. Some m) value

pub number_found : (n : ℕ) (word : List ℕ) → is_number n word ≡ true → Some n ≡ number_of word
number_found n word h =
    let w = number_written n word h in
    sym (number_here n word w.0 (sym w.1))

pub number_none : (word : List ℕ) → ((n : ℕ) → is_number n word ≡ true → ⊥) → None ≡ number_of word
unfolding number_of
number_none word never =
    elim (cases_Bool (is_number (digits_value 10 word) word)) [
      | inl e ↦ absurd (never _ e)
      | inr e ↦ sym (cond-false _ _ _ e)
    ]

pub number_says : (n : ℕ) (word : List ℕ) → number_of word ≡ Some n → (n < 2 ^ 31) × (word ≡ decimal n)
unfolding number_of
number_says n word e =
    elim (cases_Bool (is_number (digits_value 10 word) word)) [
      | inl h ↦
          let same : digits_value 10 word ≡ n = let t = cond-true (is_number (digits_value 10 word) word) (Some (digits_value 10 word)) None h in cc in
          let w = number_written n word (ap (λ m. is_number m word) (sym same) ∙ h) in
          (w.0, sym w.1)
      | inr h ↦ let t = cond-false (is_number (digits_value 10 word) word) (Some (digits_value 10 word)) None h in absurd (cc)
    ]

-- a word that is a number is parsed as it
pub parsed : {E : Type 0} (word : List ℕ) (r : Result ℕ E) → ParsesUnsigned 32 10 word r → (n : ℕ) → is_number n word ≡ true → r ≡ Ok n
parsed word r p n h =
    let w = number_written n word h in
    parse-decimal 32 n word r (omega (arith, w.0)) (omega (arith, w.0)) (sym w.1) p

-- ---- permissions

octal_digit : (c : ℕ) → is_octal c ≡ true → digit_value c < 8
octal_digit c h =
    let low = leb-true 48 c (and_parts _ _ h).0 in
    let high = leb-true c 55 (and_parts _ _ h).1 in
    let value : digit_value c ≡ c - 48 = cond-false _ _ _ (le-ltb c 48 low) ∙ cond-true _ _ _ (lt-ltb c 58 (omega arith)) in
    omega arith

octal_digits : (ds : List ℕ) → list_all is_octal ds ≡ true → AllDigits 8 ds
octal_digits [] h = tt
octal_digits (c ∷ cs) h = (octal_digit c (and_parts _ _ h).0, octal_digits cs (and_parts _ _ h).1)

-- a word of octal digits, by its parts
record Octal (word : List ℕ) : Type 0 where
  some : 0 < length word
  few : length word ≤ 3
  digits : list_all is_octal word ≡ true

octal : (word : List ℕ) → is_octal_word word ≡ true → Octal word
octal word h =
    let front = and_parts _ _ (and_parts _ _ h).0 in
    record {
      some = let n = eqb-false (length word) 0 (not-true _ front.0) in omega arith;
      few = leb-true _ _ front.1;
      digits = (and_parts _ _ h).1;
    }

no_plus : (word : List ℕ) → list_all is_octal word ≡ true → get_or word 0 0 ≡ 43 → ⊥
no_plus [] h e = omega arith
no_plus (c ∷ cs) h e = let low = leb-true 48 c (and_parts _ _ (and_parts _ _ h).0).0 in omega arith

power_lt : (v k : ℕ) → k ≤ 3 → v < 8 ^ k → v < 512
power_lt v k few lt =
    let most : 8 ^ k ≤ 8 ^ 3 = pow-le-pow_right (lit< tt) few in
    omega arith

octal_lt : (word : List ℕ) → is_octal_word word ≡ true → digits_value 8 word < 512
octal_lt word h =
    let o = octal word h in
    let lt = digits_value-lt 8 word (octal_digits word o.digits) in
    power_lt (digits_value 8 word) (length word) o.few lt

pub octal_none : (word : List ℕ) → is_octal_word word ≡ false → None ≡ octal_of word
unfolding octal_of
octal_none word h = sym (cond-false _ _ _ h)

pub octal_some : (word : List ℕ) → is_octal_word word ≡ true → octal_of word ≡ Some (digits_value 8 word)
unfolding octal_of
octal_some word h = cond-true _ _ _ h

pub octal_says : (word : List ℕ) (n : ℕ) → octal_of word ≡ Some n → (is_octal_word word ≡ true) × (n ≡ digits_value 8 word)
octal_says word n e =
    elim (cases_Bool (is_octal_word word)) [
      | inl h ↦ (h, let t = octal_some word h in cc)
      | inr h ↦ let t = octal_none word h in absurd (cc)
    ]

pub octal_small : (word : List ℕ) (n : ℕ) → octal_of word ≡ Some n → n < 512
octal_small word n e =
    let s = octal_says word n e in
    omega (arith, s.1, octal_lt word s.0)

pub octal_parsed : {E : Type 0} (word : List ℕ) (r : Result ℕ E) → is_octal_word word ≡ true → ParsesUnsigned 32 8 word r → result_ok r ≡ octal_of word
octal_parsed {E} word r h p =
    let o = octal word h in
    let plain = without_leading_plus_none word (no_plus word o.digits) in
    let q : OkIff r (((0 < length word) × AllDigits 8 word) × (digits_value 8 word < 2 ^ 32)) (digits_value 8 word) = rw plain at p in
    let fits : digits_value 8 word < 2 ^ 32 = omega (arith, octal_lt word h) in
    let is = Ok-from_Ok_iff r _ (digits_value 8 word) q ((o.some, octal_digits word o.digits), fits) in
    ap result_ok is ∙ sym (octal_some word h)

perm_begun : (digits : List ℕ) → perm_of (100 ∷ digits) ≡ option_map (λ n. 2 ^ 31 + n) (octal_of digits)
unfolding perm_of
perm_begun digits = refl

pub perm_directory : (word digits : List ℕ) → word ≡ 100 ∷ digits → perm_of word ≡ option_map (λ n. 2 ^ 31 + n) (octal_of digits)
perm_directory word digits e = ap perm_of e ∙ perm_begun digits

pub perm_plain : (word : List ℕ) → ((digits : List ℕ) → word ≡ 100 ∷ digits → ⊥) → octal_of word ≡ perm_of word
unfolding perm_of
perm_plain [] n = refl
perm_plain (b ∷ bs) n =
    elim (cases_Bool (b == 100)) [
      | inl e ↦ absurd (n bs (ap (λ c. c ∷ bs) (eqb-true b 100 e)))
      | inr e ↦ sym (cond-false _ _ _ e)
    ]

no_d : (digits : List ℕ) → is_octal_word digits ≡ true → (more : List ℕ) → digits ≡ 100 ∷ more → ⊥
no_d digits h more e = true≢false (sym (ap (list_all is_octal) (sym e) ∙ (octal digits h).digits))

-- the permissions of a word, with `d` in front or without
perm_of_spelled : (directory : Bool) (digits : List ℕ) → is_octal_word digits ≡ true → perm_of (cond directory (100 ∷ digits) digits) ≡ Some (cond directory (2 ^ 31 + digits_value 8 digits) (digits_value 8 digits))
perm_of_spelled true digits h = perm_begun digits ∙ ap (option_map (λ n. 2 ^ 31 + n)) (octal_some digits h)
perm_of_spelled false digits h = sym (perm_plain digits (no_d digits h)) ∙ octal_some digits h

pub perm_read : (word : List ℕ) (perm : ℕ) → IsPerm word perm → perm_of word ≡ Some perm
perm_read word perm is =
    ap perm_of is.written ∙ perm_of_spelled is.directory is.digits is.octal ∙ ap (λ n. Some n) (sym is.value)

mapped : (o : Option ℕ) (perm : ℕ) → option_map (λ n. 2 ^ 31 + n) o ≡ Some perm → (n : ℕ) × (o ≡ Some n) × (perm ≡ 2 ^ 31 + n)
mapped None perm e = absurd (cc)
mapped (Some n) perm e = (n, refl, cc)

plain_says : (word : List ℕ) (perm : ℕ) → octal_of word ≡ Some perm → IsPerm word perm
plain_says word perm e =
    let s = octal_says word perm e in
    record { directory = false; digits = word; octal = s.0; written = refl; value = s.1 }

directory_says : (digits : List ℕ) (perm : ℕ) → option_map (λ n. 2 ^ 31 + n) (octal_of digits) ≡ Some perm → IsPerm (100 ∷ digits) perm
directory_says digits perm e =
    let m = mapped (octal_of digits) perm e in
    let s = octal_says digits m.0 m.1 in
    record { directory = true; digits = digits; octal = s.0; written = refl; value = m.2 ∙ ap (λ n. 2 ^ 31 + n) s.1 }

pub perm_says : (word : List ℕ) (perm : ℕ) → perm_of word ≡ Some perm → IsPerm word perm
unfolding perm_of
perm_says [] perm e = plain_says [] perm e
perm_says (b ∷ bs) perm e =
    elim (cases_Bool (b == 100)) [
      | inl h ↦
          let t = cond-true (b == 100) (option_map (λ n. 2 ^ 31 + n) (octal_of bs)) (octal_of (b ∷ bs)) h in
          subst (λ (c : ℕ). IsPerm (c ∷ bs) perm) (sym (eqb-true b 100 h)) (directory_says bs perm (sym t ∙ e))
      | inr h ↦
          let t = cond-false (b == 100) (option_map (λ n. 2 ^ 31 + n) (octal_of bs)) (octal_of (b ∷ bs)) h in
          plain_says (b ∷ bs) perm (sym t ∙ e)
    ]

-- ---- paths

path_begun : (names : List ℕ) → path_of (47 ∷ names) ≡ names_of names
unfolding path_of
path_begun names = refl

pub path_slash : (word names : List ℕ) → word ≡ 47 ∷ names → path_of word ≡ names_of names
path_slash word names e = ap path_of e ∙ path_begun names

pub path_none : (word : List ℕ) → ((names : List ℕ) → word ≡ 47 ∷ names → ⊥) → None ≡ path_of word
unfolding path_of
path_none [] n = refl
path_none (b ∷ bs) n =
    elim (cases_Bool (b == 47)) [
      | inl e ↦ absurd (n bs (ap (λ c. c ∷ bs) (eqb-true b 47 e)))
      | inr e ↦ sym (cond-false _ _ _ e)
    ]

parts_are_some : (names : List (List ℕ)) → list_all (is_part 47) names ≡ true → list_all is_some_text names ≡ true
parts_are_some names h = all_pass (is_part 47) is_some_text (λ n e. (and_parts _ _ e).0) names h

parts_lack_slash : (names : List (List ℕ)) → list_all (is_part 47) names ≡ true → list_all (lacks 47) names ≡ true
parts_lack_slash names h = all_pass (is_part 47) (lacks 47) (λ n e. (and_parts _ _ e).1) names h

some_joined : (n : List ℕ) (ns : List (List ℕ)) → is_part 47 n ≡ true → length (join_with_byte 47 (n ∷ ns)) == 0 ≡ false
some_joined [] ns h = absurd (true≢false (sym h))
some_joined (b ∷ bs) [] h = ne_eqb _ 0 (λ e. omega arith)
some_joined (b ∷ bs) (m ∷ ms) h = ne_eqb _ 0 (λ e. omega arith)

names_read : (names : List (List ℕ)) → list_all (is_part 47) names ≡ true → names_of (join_with_byte 47 names) ≡ Some names
names_read [] h = refl
names_read (n ∷ ns) h =
    let text = join_with_byte 47 (n ∷ ns) in
    let cut : parts_at 47 text ≡ n ∷ ns = cut_joined 47 n ns (parts_lack_slash (n ∷ ns) h) in
    let some : list_all is_some_text (parts_at 47 text) ≡ true = ap (list_all is_some_text) cut ∙ parts_are_some (n ∷ ns) h in
    cond-false _ _ _ (some_joined n ns (and_parts _ _ h).0) ∙ cond-true _ _ _ some ∙ ap (λ ps. Some ps) cut

pub path_read : (word : List ℕ) (names : List (List ℕ)) → IsPath word names → path_of word ≡ Some names
path_read word names is = path_slash word (join_with_byte 47 names) is.slashed ∙ names_read names is.each

empty_text : (text : List ℕ) → length text == 0 ≡ true → text ≡ []
empty_text [] e = refl
empty_text (b ∷ bs) e = let n = eqb-true (length (b ∷ bs)) 0 e in absurd (omega arith)

some_names_say : (text : List ℕ) (names : List (List ℕ)) → cond (list_all is_some_text (parts_at 47 text)) (Some (parts_at 47 text)) None ≡ Some names → IsPath (47 ∷ text) names
some_names_say text names e =
    elim (cases_Bool (list_all is_some_text (parts_at 47 text))) [
      | inl h ↦
          let t = cond-true (list_all is_some_text (parts_at 47 text)) (Some (parts_at 47 text)) None h in
          let cut : parts_at 47 text ≡ names = cc in
          record {
            each = ap (list_all (is_part 47)) (sym cut) ∙ both_pass is_some_text (lacks 47) (parts_at 47 text) h (parts_lack 47 text);
            slashed = ap (λ t. 47 ∷ t) (sym (join_with_byte-slice_split 47 text) ∙ ap (join_with_byte 47) cut);
          }
      | inr h ↦ let t = cond-false (list_all is_some_text (parts_at 47 text)) (Some (parts_at 47 text)) None h in absurd (cc)
    ]

names_say : (text : List ℕ) (names : List (List ℕ)) → names_of text ≡ Some names → IsPath (47 ∷ text) names
names_say text names e =
    elim (cases_Bool (length text == 0)) [
      | inl h ↦
          let t = cond-true (length text == 0) (Some []) (cond (list_all is_some_text (parts_at 47 text)) (Some (parts_at 47 text)) None) h in
          let none : [] ≡ names = cc in
          record {
            each = ap (list_all (is_part 47)) (sym none);
            slashed = ap (λ t. 47 ∷ t) (empty_text text h) ∙ ap (λ ns. 47 ∷ join_with_byte 47 ns) none;
          }
      | inr h ↦
          let t = cond-false (length text == 0) (Some []) (cond (list_all is_some_text (parts_at 47 text)) (Some (parts_at 47 text)) None) h in
          some_names_say text names (sym t ∙ e)
    ]

pub path_says : (word : List ℕ) (names : List (List ℕ)) → path_of word ≡ Some names → IsPath word names
unfolding path_of
path_says [] names e = absurd (cc)
path_says (b ∷ bs) names e =
    elim (cases_Bool (b == 47)) [
      | inl h ↦
          let t = cond-true (b == 47) (names_of bs) None h in
          subst (λ (c : ℕ). IsPath (c ∷ bs) names) (sym (eqb-true b 47 h)) (names_say bs names (sym t ∙ e))
      | inr h ↦ let t = cond-false (b == 47) (names_of bs) None h in absurd (cc)
    ]

-- ---- as the readers go

-- whether each part is some text, of the parts as they are lent
pub texts_cut : (parts : List (Bor (List ℕ))) (texts : List (List ℕ)) → map (λ t. t.now) parts ≡ texts → list_all is_some_text texts ≡ list_all (λ t. is_some_text t.now) parts
texts_cut parts texts e = ap (list_all is_some_text) (sym e) ∙ list_all-map is_some_text (λ (t : Bor (List ℕ)). t.now) parts

pub names_missing : (text : List ℕ) → length text == 0 ≡ false → list_all is_some_text (parts_at 47 text) ≡ false → None ≡ names_of text
names_missing text n h = sym (cond-false _ _ _ n ∙ cond-false _ _ _ h)

pub names_there : (text : List ℕ) → length text == 0 ≡ false → list_all is_some_text (parts_at 47 text) ≡ true → Some (parts_at 47 text) ≡ names_of text
names_there text n h = sym (cond-false _ _ _ n ∙ cond-true _ _ _ h)
