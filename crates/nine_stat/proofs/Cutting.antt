-- How many records fit.
use Rattle.std.proofs.Common.{◌≡◌, ℕ, zero, suc, ◌+◌, ◌-◌, ◌<◌, ◌≤◌, List, [], ◌∷◌, ◌++◌, length, take, drop, get_or, refl, sym, ap, ◌∙◌, arith, inl, inr}
use Rattle.std.specs.List.{flat_map}
use Rattle.std.proofs.lemmas.Bool.{cases_lt}
use Rattle.std.proofs.lemmas.List.{take_more, length-append}
use Rattle.std.proofs.lemmas.List.Concat.{flat_map-append, flat_map-cons}
use Rattle.nine_stat.specs.declared.stat.Stat.{Stat}
use Rattle.nine_stat.specs.Stat.{spelling}
use Rattle.nine_stat.specs.Cut.{records, IsLongest}

-- one record more
pub records_more : (list : List Stat) (i : ℕ) (s : Stat) → i < length list → length (records list (i + 1)) ≡ length (records list i) + length (spelling (get_or list i s))
unfolding records
records_more list i s lt =
    let x = get_or list i s in
    let one = ap (λ (y : List Stat). length (flat_map spelling y)) (take_more list i s lt) in
    let two = ap length (flat_map-append spelling (take i list) (x ∷ [])) in
    let last = ap length (flat_map-cons spelling x []) in
    omega (arith, one, two, length-append (flat_map spelling (take i list)) (flat_map spelling (x ∷ [])), last, length-append (spelling x) (flat_map spelling []))

-- more records take no fewer bytes
records_grow : (list : List Stat) (i k : ℕ) → i ≤ k → length (records list i) ≤ length (records list k)
unfolding records
records_grow list zero k le = omega arith
records_grow list (suc i) zero le = absurd (omega arith)
records_grow [] (suc i) (suc k) le = omega arith
records_grow (s ∷ ss) (suc i) (suc k) le =
    let fewer = ap length (flat_map-cons spelling s (take i ss)) in
    let more = ap length (flat_map-cons spelling s (take k ss)) in
    omega (arith, fewer, more, length-append (spelling s) (flat_map spelling (take i ss)), length-append (spelling s) (flat_map spelling (take k ss)), records_grow ss i k (omega arith))

pub longest_here : (list : List Stat) (count i : ℕ) → i < length list → length (records list i) ≤ count → count < length (records list (i + 1)) → IsLongest list count i
longest_here list count i lt fits next = record {
  there = omega arith;
  within = fits;
  longest = λ k le inside. elim (cases_lt i k) [
    | inl more ↦ absurd (omega (arith, next, inside, records_grow list (i + 1) k (omega arith)))
    | inr done ↦ done
  ];
}

pub longest_all : (list : List Stat) (count n : ℕ) → n ≡ length list → length (records list n) ≤ count → IsLongest list count n
longest_all list count n all fits = record { there = omega arith; within = fits; longest = λ k le inside. omega arith }
