-- The list of the leaves of a tree: what a search and a change say of it.
use Rattle.std.proofs.Common.{◌≡◌, ℕ, ◌+◌, ◌-◌, ◌*◌, ◌^◌, ◌%◌, ◌<◌, ◌≤◌, Bool, true, false, ltb, leb, Some, None, List, length, take, drop, set, get_or, slice_index, replicate, refl, ap, ◌∙◌, arith, length-take, length-drop}
use Rattle.std.specs.List.{position, position_or_len}
use Rattle.std.proofs.Math.Seq.{take-set-lt}
use Rattle.std.proofs.lemmas.List.{drop-set-add, drop-replicate, take-replicate, get_or-take, get_or-drop}
use Rattle.std.proofs.lemmas.List.Sums.{position_or_len_is}
use Rattle.std.proofs.Math.Nat.{mod-eq_of_lt}
use Rattle.std.proofs.lemmas.Nat.{pow_below}
use Rattle.std.proofs.lemmas.Bool.Decides.{nat_tests}
use Rattle.fo_labels.specs.Mins.{HasMins, FirstLeaf}
use Rattle.fo_labels.proofs.Trees.{all_above}

abbrev pub leaves_of : ℕ → ℕ → List ℕ → List ℕ
leaves_of leaves len tree = take len (drop leaves tree)

pub leaves-set : (leaves len at value : ℕ) (old new : List ℕ) → at < len → drop leaves new ≡ drop leaves (set old (leaves + at) value) → leaves_of leaves len new ≡ set (leaves_of leaves len old) at value
leaves-set leaves len at value old new inside kept =
    ap (take len) (kept ∙ drop-set-add leaves old at value) ∙ take-set-lt len (drop leaves old) at value inside

pub leaves-replicate : (leaves n len : ℕ) (tree : List ℕ) → tree ≡ replicate n 0 → n ≡ 2 * leaves → len ≤ leaves → leaves_of leaves len tree ≡ replicate len 0
leaves-replicate leaves n len tree all size fits =
    let inside : len ≤ n - leaves = omega arith in
    rw (all, drop-replicate {X = ℕ} leaves n 0) (take-replicate len (n - leaves) 0 inside)

leaf_at : (leaves len k : ℕ) (tree : List ℕ) → k < len → get_or (leaves_of leaves len tree) k 0 ≡ slice_index tree (leaves + k)
leaf_at leaves len k tree inside = get_or-take len (drop leaves tree) k 0 inside ∙ get_or-drop leaves tree k 0

leaves-length : (leaves len : ℕ) (tree : List ℕ) → length tree ≡ 2 * leaves → len ≤ leaves → length (leaves_of leaves len tree) ≡ len
leaves-length leaves len tree size fits = simp (length-take, length-drop) (omega arith)

abbrev within : ℕ → ℕ → Bool
within bound x = leb x bound

position_is : (xs : List ℕ) (bound i : ℕ) → i ≤ length xs → ((k : ℕ) → k < i → bound < get_or xs k 0) → (i < length xs → get_or xs i 0 ≤ bound) → position_or_len (within bound) xs ≡ i
position_is xs bound i inside before here =
    position_or_len_is (within bound) xs i 0 inside (λ k h. let b = before k h in grind (arith, nat_tests)) (λ h. let b = here h in grind (arith, nat_tests))

pub position-some : (levels leaves len bound leaf : ℕ) (tree : List ℕ) → leaves ≡ 2 ^ levels → length tree ≡ 2 * leaves → len ≤ leaves → FirstLeaf levels tree bound leaf → leaf - leaves < len → Some (leaf - leaves) ≡ position (within bound) (leaves_of leaves len tree)
position-some levels leaves len bound leaf tree is size fits f inside =
    let n = leaves-length leaves len tree size fits in
    let first = position_is (leaves_of leaves len tree) bound (leaf - leaves) (omega arith)
    (λ k h. let b : bound < slice_index tree (leaves + k) = f.first (leaves + k) (omega arith) (omega arith) in rw (leaf_at leaves len k tree (omega arith)) b)
    (λ h. let e : leaves + (leaf - leaves) ≡ leaf = omega (arith, f.from) in rw (leaf_at leaves len (leaf - leaves) tree inside, e) f.within) in
    rw (first, n) (let t : ltb (leaf - leaves) len ≡ true = grind (arith, nat_tests) in rw t refl)

pub position-none : (levels leaves len bound leaf : ℕ) (tree : List ℕ) → leaves ≡ 2 ^ levels → length tree ≡ 2 * leaves → len ≤ leaves → FirstLeaf levels tree bound leaf → len ≤ leaf - leaves → None ≡ position (within bound) (leaves_of leaves len tree)
position-none levels leaves len bound leaf tree is size fits f past =
    let n = leaves-length leaves len tree size fits in
    let first = position_is (leaves_of leaves len tree) bound len (omega arith)
    (λ k h. let b : bound < slice_index tree (leaves + k) = f.first (leaves + k) (omega arith) (omega arith) in rw (leaf_at leaves len k tree (omega arith)) b)
    (λ h. absurd (omega arith)) in
    rw (first, n) (let t : ltb len len ≡ false = grind (arith, nat_tests) in rw t refl)

pub position-root : (levels leaves len bound : ℕ) (tree : List ℕ) → leaves ≡ 2 ^ levels → length tree ≡ 2 * leaves → len ≤ leaves → HasMins leaves tree → bound < slice_index tree 1 → None ≡ position (within bound) (leaves_of leaves len tree)
position-root levels leaves len bound tree is size fits mins above =
    let n = leaves-length leaves len tree size fits in
    let first = position_is (leaves_of leaves len tree) bound len (omega arith)
    (λ k h. let b : bound < slice_index tree (leaves + k) = all_above leaves tree bound mins levels 1 (omega arith) above (omega arith) (leaves + k) (omega arith) (omega arith) in rw (leaf_at leaves len k tree (omega arith)) b)
    (λ h. absurd (omega arith)) in
    rw (first, n) (let t : ltb len len ≡ false = grind (arith, nat_tests) in rw t refl)

-- a shift by so few bits loses none
pub power_fits : (k : ℕ) → k ≤ 32 → 1 * 2 ^ k % 18446744073709551616 ≡ 2 ^ k
power_fits k small =
    let small' = pow_below k 64 (omega arith) in
    let same : 1 * 2 ^ k ≡ 2 ^ k = omega arith in
    rw same (mod-eq_of_lt small')
