-- Tails of blocks, which are the same unit again and again.
use Rattle.std.proofs.Common.{◌≡◌, ◌≢◌, ℕ, zero, suc, ◌+◌, ◌-◌, ◌*◌, ◌/◌, ◌%◌, ◌<◌, ◌≤◌, ◌⊎◌, inl, inr, true, false, eqb, List, [], ◌∷◌, ◌++◌, length, take, drop, refl, sym, ap, ◌∙◌, append_assoc, arith}
use Rattle.std.specs.List.{list_all}
use Rattle.std.proofs.lemmas.List.{append-nil, append_cancel_right, append_cancel_left, take-append-drop, drop-drop, drop_at, take_at, length-append, length-take}
use Rattle.fo_image.specs.Field.{zeros}
use Rattle.fo_image.proofs.Padding.{length-zeros, zeros-from_all, all-zeros}
use Rattle.fo_vacput.specs.declared.types.Tail.TheVariants.{Zeros, Scores, Nothing}
use Rattle.fo_vacput.specs.declared.types.TheConstants.{EMPTY}
use Rattle.fo_vacput.specs.Cut.{copies, nil_pointers, IsCut, IsWithout}

-- ---- copies of a unit

turned : (k : ℕ) (unit : List ℕ) → unit ++ copies k unit ≡ copies k unit ++ unit
unfolding copies
turned zero unit = append-nil unit
turned (suc k) unit = ap (λ xs. unit ++ xs) (turned k unit) ∙ sym (append_assoc unit (copies k unit) unit)

length-copies : (k : ℕ) (unit : List ℕ) → length (copies k unit) ≡ k * length unit
unfolding copies
length-copies zero unit = omega arith
length-copies (suc k) unit = omega (arith, length-append unit (copies k unit), length-copies k unit)

more_copies : (j k : ℕ) (unit : List ℕ) → copies (j + k) unit ≡ copies j unit ++ copies k unit
unfolding copies
more_copies zero k unit = let e : 0 + k ≡ k = omega arith in ap (λ n. copies n unit) e
more_copies (suc j) k unit =
    let e : suc j + k ≡ suc (j + k) = omega arith in
    ap (λ n. copies n unit) e ∙ ap (λ xs. unit ++ xs) (more_copies j k unit) ∙ sym (append_assoc unit (copies j unit) (copies k unit))

pub none_yet : (bytes unit : List ℕ) → (count : ℕ) × (bytes ≡ bytes ++ copies count unit)
unfolding copies
none_yet bytes unit = (0, sym (append-nil bytes))

pub one_more : (bytes rest front unit : List ℕ) (count : ℕ) → bytes ≡ rest ++ copies count unit → rest ≡ front ++ unit → (count : ℕ) × (bytes ≡ front ++ copies count unit)
unfolding copies
one_more bytes rest front unit count is rest_is = (suc count, is ∙ ap (λ xs. xs ++ copies count unit) rest_is ∙ append_assoc front unit (copies count unit))

-- where copies and something behind them stand from n on, and the bytes before end in no unit, these are no more than n
least_left : (unit : List ℕ) (block rest back : List ℕ) (n j count : ℕ) → block ≡ rest ++ (copies count unit ++ back) → ((front : List ℕ) → rest ≢ front ++ unit)
    → drop n block ≡ copies (j + count) unit ++ back → n + j * length unit ≡ length rest → length rest ≤ n
unfolding copies
least_left unit block rest back n zero count is none tail at = omega arith
least_left unit block rest back n (suc j) count is none tail at =
    let same : copies (suc j + count) unit ++ back ≡ (copies j unit ++ unit) ++ (copies count unit ++ back) =
    ap (λ xs. xs ++ back) (more_copies (suc j) count unit) ∙ append_assoc (copies (suc j) unit) (copies count unit) back ∙ ap (λ xs. xs ++ (copies count unit ++ back)) (turned j unit) in
    let all : rest ++ (copies count unit ++ back) ≡ ((take n block ++ copies j unit) ++ unit) ++ (copies count unit ++ back) =
    sym is ∙ sym (take-append-drop n block) ∙ ap (λ xs. take n block ++ xs) (tail ∙ same) ∙ sym (append_assoc (take n block) (copies j unit ++ unit) (copies count unit ++ back))
    ∙ ap (λ xs. xs ++ (copies count unit ++ back)) (sym (append_assoc (take n block) (copies j unit) unit)) in
    absurd (none (take n block ++ copies j unit) (append_cancel_right rest ((take n block ++ copies j unit) ++ unit) (copies count unit ++ back) all))

-- ---- the two tails

pub zeros_are : (n : ℕ) → zeros n ≡ copies n (0 ∷ [])
unfolding zeros copies
zeros_are zero = refl
zeros_are (suc n) = ap (λ xs. 0 ∷ xs) (zeros_are n)

pub nil_pointers_are : (k t : ℕ) → t < 20 → nil_pointers (k * 20 + t) ≡ copies k EMPTY.0 ++ zeros t
unfolding nil_pointers
nil_pointers_are k t lt =
    let d : (k * 20 + t) / 20 ≡ k = omega arith in
    let m : (k * 20 + t) % 20 ≡ t = omega arith in
    ap (λ n. copies n EMPTY.0 ++ zeros ((k * 20 + t) % 20)) d ∙ ap (λ n. copies k EMPTY.0 ++ zeros n) m

length-nil_pointers : (n : ℕ) → length (nil_pointers n) ≡ n
unfolding nil_pointers
length-nil_pointers n =
    omega (arith, length-append (copies (n / 20) EMPTY.0) (zeros (n % 20)), length-copies (n / 20) EMPTY.0, length-zeros (n % 20))

-- ---- what is stored

length-front : (n : ℕ) (block : List ℕ) → n ≤ length block → length (take n block) ≡ n
length-front n block le = omega (arith, length-take n block)

-- the block is made again only where it ends in the tail
ends : (tail : ℕ → List ℕ) (block : List ℕ) (n : ℕ) → n ≤ length block → take n block ++ tail (length block - length (take n block)) ≡ block → drop n block ≡ tail (length block - n)
ends tail block n le e =
    let len = length-front n block le in
    append_cancel_left (take n block) (drop n block) (tail (length block - n)) (take-append-drop n block ∙ sym e ∙ ap (λ k. take n block ++ tail (length block - k)) len)

made : (tail : ℕ → List ℕ) (block rest : List ℕ) → block ≡ rest ++ tail (length block - length rest) → take (length rest) block ++ tail (length block - length (take (length rest) block)) ≡ block
made tail block rest is =
    let front : take (length rest) block ≡ rest = ap (take (length rest)) is ∙ take_at rest (tail (length block - length rest)) (length rest) refl in
    ap (λ xs. xs ++ tail (length block - length xs)) front ∙ sym is

either : (a b : ℕ) → (b ≤ a) ⊎ (a ≤ b)
either a b = search arith

pub zeros_cut : (block rest : List ℕ) → IsWithout (0 ∷ []) block rest → IsCut Zeros block (length rest)
unfolding copies
zeros_cut block rest w =
    let len : length block ≡ length rest + w.count = omega (arith, ap length w.is, length-append rest (copies w.count (0 ∷ [])), length-copies w.count (0 ∷ [])) in
    let m : length block - length rest ≡ w.count = omega arith in
    let is : block ≡ rest ++ zeros (length block - length rest) = w.is ∙ ap (λ xs. rest ++ xs) (sym (zeros_are w.count) ∙ ap zeros (sym m)) in
    let whole : block ≡ rest ++ (copies w.count (0 ∷ []) ++ []) = w.is ∙ ap (λ xs. rest ++ xs) (sym (append-nil (copies w.count (0 ∷ [])))) in
    record {
      may = omega arith;
      again = made zeros block rest is;
      least = λ n le e. elim (either n (length rest)) [
        | inl more ↦ more
        | inr less ↦
            let k : length block - n ≡ length rest - n + w.count = omega arith in
            let tail : drop n block ≡ copies (length rest - n + w.count) (0 ∷ []) ++ [] =
            ends zeros block n le e ∙ zeros_are (length block - n) ∙ ap (λ i. copies i (0 ∷ [])) k ∙ sym (append-nil (copies (length rest - n + w.count) (0 ∷ []))) in
            least_left (0 ∷ []) block rest [] n (length rest - n) w.count whole w.none tail (omega arith)
      ];
    }

pub scores_cut : (block pointers filling rest : List ℕ) → block ≡ pointers ++ filling → length pointers ≡ length block - length block % 20 → list_all (λ b. eqb b 0) filling ≡ true
    → IsWithout EMPTY.0 pointers rest → IsCut Scores block (length rest)
scores_cut block pointers filling rest parts n_pointers clear w =
    let t = length block % 20 in
    let short : t < 20 = omega arith in
    let n_filling : length filling ≡ t = omega (arith, ap length parts, length-append pointers filling) in
    let filling_is : filling ≡ zeros t = zeros-from_all filling clear ∙ ap zeros n_filling in
    let len : length pointers ≡ length rest + w.count * 20 = ap length w.is ∙ length-append rest (copies w.count EMPTY.0) ∙ ap (λ k. length rest + k) (length-copies w.count EMPTY.0) in
    let within : length rest ≤ length block = omega arith in
    let even : length rest % 20 ≡ 0 = omega arith in
    let whole : block ≡ rest ++ (copies w.count EMPTY.0 ++ zeros t) =
    parts ∙ ap (λ xs. xs ++ filling) w.is ∙ append_assoc rest (copies w.count EMPTY.0) filling ∙ ap (λ xs. rest ++ (copies w.count EMPTY.0 ++ xs)) filling_is in
    let m : length block - length rest ≡ w.count * 20 + t = omega arith in
    let is : block ≡ rest ++ nil_pointers (length block - length rest) = whole ∙ ap (λ xs. rest ++ xs) (sym (ap nil_pointers m ∙ nil_pointers_are w.count t short)) in
    record {
      may = (within, inr even);
      again = made nil_pointers block rest is;
      least = λ n may e. elim may.1 [
        | inl all ↦ omega arith
        | inr whole_ones ↦ elim (either n (length rest)) [
          | inl more ↦ more
          | inr less ↦
              let j = (length rest - n) / 20 in
              let at : n + j * 20 ≡ length rest = omega arith in
              let k : length block - n ≡ (j + w.count) * 20 + t = omega arith in
              let tail : drop n block ≡ copies (j + w.count) EMPTY.0 ++ zeros t = ends nil_pointers block n may.0 e ∙ ap nil_pointers k ∙ nil_pointers_are (j + w.count) t short in
              least_left EMPTY.0 block rest (zeros t) n j w.count whole w.none tail at
        ]
      ];
    }

no_copies : copies 0 EMPTY.0 ++ zeros 0 ≡ []
unfolding copies zeros
no_copies = refl

-- something else than zeros comes after the pointers
pub whole_cut : (block pointers filling : List ℕ) → block ≡ pointers ++ filling → length pointers ≡ length block - length block % 20 → list_all (λ b. eqb b 0) filling ≡ false
    → IsCut Scores block (length block)
whole_cut block pointers filling parts n_pointers other =
    let t = length block % 20 in
    let short : t < 20 = omega arith in
    let z : length block - length block ≡ 0 * 20 + 0 = omega arith in
    let none : nil_pointers (length block - length block) ≡ [] = ap nil_pointers z ∙ nil_pointers_are 0 0 (omega arith) ∙ no_copies in
    let is : block ≡ block ++ nil_pointers (length block - length block) = sym (ap (λ xs. block ++ xs) none ∙ append-nil block) in
    record {
      may = (omega arith, inl refl);
      again = made nil_pointers block block is;
      least = λ n may e. elim may.1 [
        | inl all ↦ omega arith
        | inr whole_ones ↦ elim (either n (length block)) [
          | inl more ↦ more
          | inr less ↦
              let j = (length pointers - n) / 20 in
              let k : length block - n ≡ j * 20 + t = omega arith in
              let at : n + j * 20 ≡ length pointers = omega arith in
              let tail : drop n block ≡ copies j EMPTY.0 ++ zeros t = ends nil_pointers block n may.0 e ∙ ap nil_pointers k ∙ nil_pointers_are j t short in
              let behind : drop (length pointers) block ≡ zeros t =
              ap (λ i. drop i block) (sym at) ∙ sym (drop-drop (j * 20) n block) ∙ ap (drop (j * 20)) tail ∙ drop_at (copies j EMPTY.0) (zeros t) (j * 20) (length-copies j EMPTY.0) in
              let filling_is : filling ≡ zeros t = sym (ap (drop (length pointers)) parts ∙ drop_at pointers filling (length pointers) refl) ∙ behind in
              let clear : list_all (λ b. eqb b 0) filling ≡ true = ap (list_all (λ b. eqb b 0)) filling_is ∙ all-zeros t in
              absurd cc
        ]
      ];
    }

-- ---- pointers written one after the other

next_pointer : (m : ℕ) → nil_pointers (20 + m) ≡ EMPTY.0 ++ nil_pointers m
unfolding nil_pointers copies
next_pointer m =
    let d : (20 + m) / 20 ≡ suc (m / 20) = omega arith in
    let e : (20 + m) % 20 ≡ m % 20 = omega arith in
    ap (λ k. copies k EMPTY.0 ++ zeros ((20 + m) % 20)) d ∙ ap (λ k. (EMPTY.0 ++ copies (m / 20) EMPTY.0) ++ zeros k) e ∙ append_assoc EMPTY.0 (copies (m / 20) EMPTY.0) (zeros (m % 20))

pub next_written : (old new : List ℕ) (at next : ℕ) → next ≡ at + 20 → take next new ≡ take at old ++ EMPTY.0 → length new ≡ length old → 20 ≤ length old - at
    → take next new ++ nil_pointers (length new - next) ≡ take at old ++ nil_pointers (length old - at)
next_written old new at next next_is front len room =
    let m = length new - next in
    let e : length old - at ≡ 20 + m = omega arith in
    ap (λ xs. xs ++ nil_pointers m) front ∙ append_assoc (take at old) EMPTY.0 (nil_pointers m) ∙ ap (λ xs. take at old ++ xs) (sym (ap nil_pointers e ∙ next_pointer m))

no_pointer : (n : ℕ) → copies 0 EMPTY.0 ++ zeros n ≡ zeros n
unfolding copies
no_pointer n = refl

-- too few bytes for a pointer
pub last_written : (into : List ℕ) (at : ℕ) → length into - at < 20 → take at into ++ zeros (length into - at) ≡ take at into ++ nil_pointers (length into - at)
last_written into at lt =
    let e : length into - at ≡ 0 * 20 + (length into - at) = omega arith in
    ap (λ xs. take at into ++ xs) (sym (ap nil_pointers e ∙ nil_pointers_are 0 (length into - at) lt ∙ no_pointer (length into - at)))

-- a root is stored whole
pub all_cut : (block : List ℕ) → IsCut Nothing block (length block)
unfolding zeros
all_cut block =
    let z : length block - length block ≡ 0 = omega arith in
    record {
      may = refl;
      again = made zeros block block (sym (ap (λ n. block ++ zeros n) z ∙ append-nil block));
      least = λ n all e. omega arith;
    }

pub split_is : (block front back : List ℕ) (mid : ℕ) → front ≡ take mid block → back ≡ drop mid block → block ≡ front ++ back
split_is block front back mid front_is back_is = rw (front_is, back_is) (sym (take-append-drop mid block))
