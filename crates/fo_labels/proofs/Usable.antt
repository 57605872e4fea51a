-- The least usable block and the number of them, from what the labels keep beside themselves.
use Rattle.std.proofs.Common.{◌≡◌, ℕ, ◌+◌, ◌-◌, ◌<◌, ◌≤◌, Bool, true, false, cond, ltb, Some, None, List, [], ◌∷◌, length, set, get_or, count_by, replicate, refl, sym, ap, not, ⊎_elim, arith}
use Rattle.std.proofs.lemmas.List.{length-set, length-set}
use Rattle.std.proofs.lemmas.List.Folds.{sum_by-replicate}
use Rattle.std.specs.List.{position, position_or_len}
use Rattle.std.specs.Option.{option_map}
use Rattle.std.proofs.lemmas.List.Sums.{sum_by-set, get_or-le-sum_by, count_by-le-length, sum_by-cons, prefix_len-le-length}
use Rattle.std.proofs.lemmas.List.Quantifiers.{position-Some}
use Rattle.std.proofs.lemmas.Bool.{cases_lt}
use Rattle.std.proofs.lemmas.Bool.Decides.{nat_tests}
use Rattle.fo_image.specs.declared.types.Label.{Label}
use Rattle.fo_image.specs.Usable.{is_usable, free_label}
use Rattle.fo_labels.specs.Region.{Region, IsUsableBlock, least_usable, usable_count}

-- where none passes, none is counted
none-counted : {X : Type 0} (p : X → Bool) → (xs : List X) → position_or_len p xs ≡ length xs → count_by p xs ≡ 0
none-counted p [] none = refl
none-counted p (x ∷ xs) none =
    elim (p x) as (λ b. p x ≡ b → count_by p (x ∷ xs) ≡ 0) [
      | true ↦ λ e. absurd (omega (arith, rw e at none))
      | false ↦ λ e.
          let rest = none-counted p xs (omega (arith, rw e at none)) in
          let head : cond {A = ℕ} (p x) 1 0 ≡ 0 = ap (λ b. cond {A = ℕ} b 1 0) e in
          omega (arith, sum_by-cons (λ y. cond (p y) 1 0) x xs)
    ] refl

-- what a search for the least usable block says of all
pub record NoneUsable (low : ℕ) (r : Region) : Type 0 where
  pub none : None ≡ least_usable low r
  pub counted : usable_count low r ≡ 0

pub none-usable : (low : ℕ) (r : Region) → None ≡ position (is_usable low) r.labels → NoneUsable low r
none-usable low r e =
    ⊎_elim
    (λ (h : position_or_len (is_usable low) r.labels < length r.labels).
    let found : ltb (position_or_len (is_usable low) r.labels) (length r.labels) ≡ true = grind (arith, nat_tests) in
    let some = rw found at e in
    absurd (cc))
    (λ (h : length r.labels ≤ position_or_len (is_usable low) r.labels). record {
      none = ap (option_map (λ place. r.first + place)) e;
      counted = none-counted (is_usable low) r.labels (omega (arith, prefix_len-le-length (λ l. not (is_usable low l)) r.labels));
    })
    (cases_lt (position_or_len (is_usable low) r.labels) (length r.labels))

-- one usable block less
usable-given : (low place : ℕ) (ls : List Label) (l : Label) → place < length ls → is_usable low (get_or ls place free_label) ≡ true → is_usable low l ≡ false → count_by (is_usable low) (set ls place l) + 1 ≡ count_by (is_usable low) ls
usable-given low place ls l lt was is =
    let e = sum_by-set (λ x. cond (is_usable low x) 1 0) ls place l free_label lt in
    let a : cond {A = ℕ} (is_usable low (get_or ls place free_label)) 1 0 ≡ 1 = ap (λ b. cond {A = ℕ} b 1 0) was in
    let b : cond {A = ℕ} (is_usable low l) 1 0 ≡ 0 = ap (λ b. cond {A = ℕ} b 1 0) is in
    omega (arith, e, a, b)

pub record SomeUsable (low : ℕ) (r : Region) (place : ℕ) : Type 0 where
  pub some : Some (r.first + place) ≡ least_usable low r
  pub counted : 1 ≤ usable_count low r
  pub block : IsUsableBlock low r (r.first + place)
  pub given : (l : Label) → is_usable low l ≡ false → count_by (is_usable low) (set r.labels place l) + 1 ≡ usable_count low r

pub some-usable : (low place : ℕ) (r : Region) → Some place ≡ position (is_usable low) r.labels → SomeUsable low r place
some-usable low place r e =
    let found = position-Some (is_usable low) r.labels place free_label (sym e) in
    let least = get_or-le-sum_by (λ l. cond (is_usable low l) 1 0) r.labels place free_label found.0 in
    let same : r.first + place - r.first ≡ place = omega arith in
    record {
      some = ap (option_map (λ place. r.first + place)) e;
      counted = let h = rw found.1 at least in h;
      block = record {
        block = record { from = omega arith; to = omega (arith, found.0) };
        usable = rw same found.1;
      };
      given = λ l is. usable-given low place r.labels l found.0 found.1 is;
    }

-- what the count loses and gains where one label is changed
pub record Counts (p : Label → Bool) (ls : List Label) (i was is : ℕ) (y : Label) : Type 0 where
  pub had : was ≤ count_by p ls
  pub has : count_by p ls - was + is ≡ count_by p (set ls i y)
  pub within : count_by p ls - was + is ≤ length ls

pub count-set : (p : Label → Bool) (ls : List Label) (i was is : ℕ) (y d : Label) → i < length ls → d ≡ get_or ls i d → was ≡ cond (p d) 1 0 → is ≡ cond (p y) 1 0 → Counts p ls i was is y
count-set p ls i was is y d inside at w j =
    let change = sum_by-set (λ x. cond (p x) 1 0) ls i y d inside in
    let least = get_or-le-sum_by (λ x. cond (p x) 1 0) ls i d inside in
    let all = count_by-le-length p (set ls i y) in
    let held : was ≡ cond (p (get_or ls i d)) 1 0 = rw (← at) w in
    record {
      had = omega arith;
      has = omega arith;
      within = omega (arith, length-set ls i y);
    }

-- all labels are free
pub count-free : (n : ℕ) → n ≡ count_by (is_usable 0) (replicate n free_label)
count-free n = rw (sum_by-replicate (λ l. cond (is_usable 0 l) 1 0) n free_label) (omega arith)
