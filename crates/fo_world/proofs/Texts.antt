-- Short texts in ASCII are names, the dated names among them.
use Rattle.std.proofs.Common.{◌≡◌, refl, ℕ, zero, suc, ◌+◌, ◌/◌, ◌%◌, ◌^◌, ◌<◌, ◌≤◌, Bool, true, false, List, [], ◌∷◌, ◌++◌, length, arith, length-append, if◌then◌else◌}
use Rattle.std.specs.Prelude.{nat_eq}
use Rattle.std.specs.Str.{IsAscii}
use Rattle.std.specs.Fmt.{decimal}
use Rattle.std.proofs.lemmas.Bool.{ne_eqb}
use Rattle.std.proofs.lemmas.Str.{IsUtf8-from_ascii, is_utf8-from_IsUtf8}
use Rattle.std.proofs.lemmas.Fmt.{decimal_by_steps, length-decimal-le}
use Rattle.fo_base.specs.Text.{IsText, has_zero}
use Rattle.fo_world.specs.Limits.{IsName, IsUser}
use Rattle.fo_world.specs.Dated.{Taken, four_digits, has_twin, dated_name, dated_dir_name, slash, adm}
use Rattle.fo_world.specs.Date.{hour_minute_of}

pub record IsPlain (b : ℕ) : Type 0 where
  pub some : 0 < b
  pub ascii : b < 128

abbrev pub AllPlain : List ℕ → Type 0
AllPlain [] = Unit {0}
AllPlain (b ∷ bs) = IsPlain b × AllPlain bs

ascii-plain : (bs : List ℕ) → AllPlain bs → IsAscii bs
ascii-plain [] h i = omega arith
ascii-plain (b ∷ bs) h zero = h.0.ascii
ascii-plain (b ∷ bs) h (suc i) = ascii-plain bs h.1 i

zero-plain : (bs : List ℕ) → AllPlain bs → has_zero bs ≡ false
zero-plain [] h = refl
zero-plain (b ∷ bs) h =
    let some : b ≡ 0 → ⊥ = λ e. absurd (omega (arith, h.0.some)) in
    rw (ne_eqb b 0 some, zero-plain bs h.1) refl

pub text-plain : (bs : List ℕ) → AllPlain bs → IsText bs
text-plain bs h = rw (is_utf8-from_IsUtf8 bs (IsUtf8-from_ascii bs (ascii-plain bs h)), zero-plain bs h) refl

plain-append : (a b : List ℕ) → AllPlain a → AllPlain b → AllPlain (a ++ b)
plain-append [] b p q = q
plain-append (x ∷ xs) b p q = (p.0, plain-append xs b p.1 q)

plain-digit : (n : ℕ) → IsPlain (48 + n % 10)
plain-digit n = record { some = omega arith; ascii = omega arith }

plain-four : (n : ℕ) → AllPlain (four_digits n)
plain-four n = (plain-digit (n / 1000), (plain-digit (n / 100), (plain-digit (n / 10), (plain-digit n, tt))))

plain-decimal : (n : ℕ) → n < 2 ^ 64 → AllPlain (decimal n)
plain-decimal n h = decimal_by_steps (λ n ds. AllPlain ds) (λ n l. (record { some = omega arith; ascii = omega arith }, tt)) (λ n ds l p. plain-append ds ((48 + n % 10) ∷ []) p (plain-digit n, tt)) n h

pub name-four : (n : ℕ) → IsName (four_digits n)
name-four n = record { some = omega arith; short = omega arith; text = text-plain (four_digits n) (plain-four n) }

pub name-slash : IsName slash
name-slash = record { some = omega arith; short = omega arith; text = text-plain slash (record { some = omega arith; ascii = omega arith }, tt) }

pub user-adm : IsUser adm
user-adm = record { some = omega arith; short = omega arith; text = text-plain adm (record { some = omega arith; ascii = omega arith }, (record { some = omega arith; ascii = omega arith }, (record { some = omega arith; ascii = omega arith }, tt))) }

name-twin : (n epoch : ℕ) → epoch < 2 ^ 31 → IsName (four_digits n ++ (46 ∷ decimal epoch))
name-twin n epoch h =
    let most : length (decimal epoch) ≤ 10 = length-decimal-le 10 epoch (omega arith) (omega arith) (omega arith) in
    record {
      some = rw length-append (omega arith);
      short = rw length-append (omega arith);
      text = text-plain _ (plain-append (four_digits n) (46 ∷ decimal epoch) (plain-four n) (record { some = omega arith; ascii = omega arith }, plain-decimal epoch (omega arith)));
    }

pub name-dated : (all : List Taken) (t : Taken) → t.epoch < 2 ^ 31 → IsName (dated_name all t)
name-dated all t h = go (has_twin all t)
  where
    go : (b : Bool) → IsName (if b then four_digits (hour_minute_of t.time) ++ (46 ∷ decimal t.epoch) else four_digits (hour_minute_of t.time))
    go true = name-twin (hour_minute_of t.time) t.epoch h
    go false = name-four (hour_minute_of t.time)

pub name-dated_dir : (year monthday : ℕ) → IsName (dated_dir_name year monthday)
name-dated_dir year monthday = go (nat_eq monthday 0) (nat_eq year 0)
  where
    go : (a b : Bool) → IsName (if a then (if b then slash else four_digits year) else four_digits monthday)
    go true true = name-slash
    go true false = name-four year
    go false b = name-four monthday
