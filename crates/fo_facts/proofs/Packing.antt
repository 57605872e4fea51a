-- What was packed is unpacked as it was.
use Rattle.std.proofs.Common.{◌≡◌, ℕ, ◌+◌, ◌-◌, ◌*◌, ◌/◌, ◌%◌, ◌<◌, ◌≤◌, Bool, true, false, cond, nat_eq, Option, Some, None, List, length, count_by, get_or, replicate, set, zero, suc, refl, ap, ◌∙◌, arith}
use Rattle.std.specs.Option.{unwrap_or}
use Rattle.std.proofs.lemmas.List.{map-set}
use Rattle.std.proofs.lemmas.List.Sums.{sum_by-set, get_or-le-sum_by}
use Rattle.fo_facts.specs.declared.fact.Fact.{Fact}
use Rattle.fo_facts.specs.declared.packed.Packed.{Packed}
use Rattle.fo_facts.specs.Counted.{facts_of}
use Rattle.fo_facts.specs.Known.{no_fact}
use Rattle.fo_facts.specs.Packed.{flag, flags_of, has_flag, is_there, unpacked}

-- the binary digits of a number below 64
record Digits (a b c d e f n : ℕ) : Type 0 where
  first : n / 1 % 2 ≡ a
  second : n / 2 % 2 ≡ b
  third : n / 4 % 2 ≡ c
  fourth : n / 8 % 2 ≡ d
  fifth : n / 16 % 2 ≡ e
  sixth : n / 32 % 2 ≡ f

digits : (a b c d e f n : ℕ) → a ≤ 1 → b ≤ 1 → c ≤ 1 → d ≤ 1 → e ≤ 1 → f ≤ 1 → n ≡ a + 2 * b + 4 * c + 8 * d + 16 * e + 32 * f → Digits a b c d e f n
digits a b c d e f n la lb lc ld le lf is = record {
  first = omega arith;
  second = omega arith;
  third = omega arith;
  fourth = omega arith;
  fifth = omega arith;
  sixth = omega arith;
}

abbrev digit : Bool → ℕ
digit is = cond is 1 0

small : (is : Bool) → digit is ≤ 1
small true = omega arith
small false = omega arith

times : (is : Bool) (weight : ℕ) → flag is weight ≡ weight * digit is
times true weight = omega arith
times false weight = omega arith

is_one : (is : Bool) (n : ℕ) → n ≡ digit is → nat_eq n 1 ≡ is
is_one true n e = rw e refl
is_one false n e = rw e refl

flags_are : (f : Fact) → Digits (digit f.apart) (digit f.linked) (digit f.fresh) (digit f.sealed) (digit f.owes) (digit (is_there f.origin)) (flags_of f)
flags_are f =
    digits _ _ _ _ _ _ _ (small f.apart) (small f.linked) (small f.fresh) (small f.sealed) (small f.owes) (small (is_there f.origin))
    (omega (arith, times f.apart 1, times f.linked 2, times f.fresh 4, times f.sealed 8, times f.owes 16, times (is_there f.origin) 32))

kept : (o : Option ℕ) → cond (is_there o) (Some (unwrap_or o 0)) None ≡ o
kept (Some x) = refl
kept None = refl

pub unpacked-packed : (f : Fact) (origin : ℕ) → origin ≡ unwrap_or f.origin 0 → unpacked (record { origin = origin; rank = f.rank; flags = flags_of f }) ≡ f
unpacked-packed f origin is =
    let d = flags_are f in
    let origin_is : cond (has_flag 32 (flags_of f)) (Some origin) None ≡ f.origin = rw (is_one (is_there f.origin) _ d.sixth, is) (kept f.origin) in
    λ k. record {
      apart = is_one f.apart _ d.first k;
      origin = origin_is k;
      linked = is_one f.linked _ d.second k;
      fresh = is_one f.fresh _ d.third k;
      sealed = is_one f.sealed _ d.fourth k;
      owes = is_one f.owes _ d.fifth k;
      rank = f.rank;
    }

pub facts-replicate : (n : ℕ) (p : Packed) (f : Fact) → unpacked p ≡ f → facts_of (replicate n p) ≡ replicate n f
facts-replicate zero p f is = refl
facts-replicate (suc n) p f is = rw (is, facts-replicate n p f is) refl

pub facts-set : (items : List Packed) (at : ℕ) (p : Packed) (f : Fact) → unpacked p ≡ f → facts_of (set items at p) ≡ set (facts_of items) at f
facts-set items at p f is = map-set unpacked items at p ∙ ap (set (facts_of items) at) is

-- what a count loses and gains where one fact is changed
pub count-set : (p : Fact → Bool) (facts : List Fact) (at : ℕ) (was is : Fact) (old new : ℕ) → at < length facts → was ≡ get_or facts at no_fact → old ≡ count_by p facts → new ≡ old - cond (p was) 1 0 + cond (p is) 1 0 → new ≡ count_by p (set facts at is)
count-set p facts at was is old new inside had before after =
    let change = sum_by-set (λ f. cond (p f) 1 0) facts at is no_fact inside in
    let least = get_or-le-sum_by (λ f. cond (p f) 1 0) facts at no_fact inside in
    let held : cond {A = ℕ} (p was) 1 0 ≡ cond (p (get_or facts at no_fact)) 1 0 = ap (λ f. cond {A = ℕ} (p f) 1 0) had in
    omega arith
