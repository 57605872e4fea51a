-- What stands in the tails that archived forms leave out.
use Rattle.std.proofs.Common.{◌≡◌, ◌∙◌, ℕ, zero, suc, ◌+◌, ◌*◌, ◌/◌, ◌%◌, ◌<◌, ◌≤◌, List, [], ◌∷◌, ◌++◌, length, take, drop, slice_index_or, refl, sym, ap, append_assoc, arith}
use Rattle.std.specs.List.{filter}
use Rattle.std.proofs.lemmas.List.{take_at, drop_at, drop-drop}
use Rattle.fo_image.specs.Field.{Two, zeros, number_at}
use Rattle.fo_good.specs.Reading.{is_allowed, records_from, leaf_records}
use Rattle.fo_vacput.specs.declared.types.TheConstants.{EMPTY}
use Rattle.fo_vacput.specs.Cut.{copies, nil_pointers}
use Rattle.fo_arch_form.specs.Pointers.{pointer_at}

-- ---- zeros

abbrev pub no_bytes : List ℕ
no_bytes = []

pub zero_at : (n j : ℕ) → slice_index_or (zeros n) j 0 ≡ 0
unfolding zeros
zero_at zero zero = refl
zero_at zero (suc j) = refl
zero_at (suc n) zero = refl
zero_at (suc n) (suc j) = zero_at n j

none_at : (j : ℕ) → slice_index_or no_bytes j 0 ≡ 0
none_at zero = refl
none_at (suc j) = refl

-- zeros behind bytes change nothing of what is read
pub read_behind : (bytes : List ℕ) (n j : ℕ) → slice_index_or (bytes ++ zeros n) j 0 ≡ slice_index_or bytes j 0
read_behind [] n j = zero_at n j ∙ sym (none_at j)
read_behind (b ∷ bytes) n zero = refl
read_behind (b ∷ bytes) n (suc j) = read_behind bytes n j

no_count : (n : ℕ) → number_at Two 0 (zeros n) ≡ 0
unfolding number_at zeros
no_count zero = refl
no_count (suc zero) = refl
no_count (suc (suc n)) = refl

pub none_read : leaf_records no_bytes ≡ []
unfolding number_at
none_read = refl

-- a leaf of zeros has no records
pub zeros_read : (n : ℕ) → leaf_records (zeros n) ≡ leaf_records no_bytes
zeros_read n = ap (λ c. filter is_allowed (records_from c (drop 4 (zeros n)))) (no_count n) ∙ sym none_read

-- ---- nil pointers

unit_at : (unit behind : List ℕ) (k i : ℕ) → length unit ≡ 20 → i < k → take 20 (drop (20 * i) (copies k unit ++ behind)) ≡ unit
unfolding copies
unit_at unit behind zero i long lt = absurd (omega (arith, lt))
unit_at unit behind (suc k) zero long lt = ap (take 20) (append_assoc unit (copies k unit) behind) ∙ take_at unit (copies k unit ++ behind) 20 long
unit_at unit behind (suc k) (suc i) long lt =
    let all : List ℕ = (unit ++ copies k unit) ++ behind in
    let next : 20 * suc i ≡ 20 + 20 * i = omega arith in
    let first : drop 20 all ≡ copies k unit ++ behind = ap (drop 20) (append_assoc unit (copies k unit) behind) ∙ drop_at unit (copies k unit ++ behind) 20 long in
    ap (λ n. take 20 (drop n all)) next
    ∙ ap (take 20) (sym (drop-drop (20 * i) 20 all))
    ∙ ap (λ xs. take 20 (drop (20 * i) xs)) first
    ∙ unit_at unit behind k i long (omega (arith, lt))

pub nil_at : (n i : ℕ) → 20 * i + 20 ≤ n → pointer_at (nil_pointers n) i ≡ EMPTY.0
unfolding nil_pointers
nil_at n i le = unit_at EMPTY.0 (zeros (n % 20)) (n / 20) i refl (omega (arith, le))
