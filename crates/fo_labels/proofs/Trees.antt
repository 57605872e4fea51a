-- A search in a tree of minima.
use Rattle.std.proofs.Common.{◌≡◌, ℕ, ◌+◌, ◌*◌, ◌^◌, ◌<◌, ◌≤◌, List, slice_index, zero, suc, ⊎_elim, subst, ap, ◌∙◌, arith}
use Rattle.std.proofs.lemmas.Bool.{cases_lt}
use Rattle.std.proofs.Math.Nat.{two-pow-succ, mul-le-mul_left}
use Rattle.fo_labels.specs.Mins.{HasMins, FirstLeaf}

twice : (e : ℕ) → 2 ^ suc e ≡ 2 ^ e + 2 ^ e
twice e = two-pow-succ e

one_le_pow : (e : ℕ) → 1 ≤ 2 ^ e
one_le_pow zero = omega arith
one_le_pow (suc e) = omega (arith, one_le_pow e, twice e)

-- what stands below a node of width v, and below its two children of width w
record Parts (k w v : ℕ) : Type 0 where
  left : 2 * k * w ≡ k * v
  middle : (2 * k + 1) * w ≡ k * v + w
  right : (2 * k + 1 + 1) * w ≡ k * v + w + w
  end : (k + 1) * v ≡ k * v + w + w
  wide : (k + 1) ≤ (k + 1) * w

parts : (k w v : ℕ) → v ≡ w + w → 1 ≤ w → Parts k w v
parts k w v is some =
    let at_least = mul-le-mul_left (k + 1) some in
    rw is record {
      left = omega arith;
      middle = omega arith;
      right = omega arith;
      end = omega arith;
      wide = omega arith;
    }

-- a node above the leaves, with a subtree within the tree, is an inner node
is_inner : (leaves e k : ℕ) → (k + 1) * 2 ^ suc e ≤ 2 * leaves → k < leaves
is_inner leaves e k to =
    let p = parts k (2 ^ e) (2 ^ suc e) (twice e) (one_le_pow e) in
    let q : (k + 1) * 2 ^ e ≡ k * 2 ^ e + 2 ^ e = omega arith in
    omega arith

-- where a node is above the bound, each leaf below it is
pub all_above : (leaves : ℕ) (tree : List ℕ) (bound : ℕ) → HasMins leaves tree → (e k : ℕ) → 1 ≤ k → bound < slice_index tree k → (k + 1) * 2 ^ e ≤ 2 * leaves → (j : ℕ) → k * 2 ^ e ≤ j → j < (k + 1) * 2 ^ e → bound < slice_index tree j
all_above leaves tree bound mins zero k some above to j from below =
    let same : j ≡ k = omega arith in
    rw same above
all_above leaves tree bound mins (suc e) k some above to j from below =
    let least = mins.at k some (is_inner leaves e k to) in
    let p = parts k (2 ^ e) (2 ^ suc e) (twice e) (one_le_pow e) in
    let left : bound < slice_index tree (2 * k) = omega arith in
    let right : bound < slice_index tree (2 * k + 1) = omega arith in
    ⊎_elim
    (λ (h : j < (2 * k + 1) * 2 ^ e). all_above leaves tree bound mins e (2 * k) (omega arith) left (omega arith) j (omega arith) h)
    (λ (h : (2 * k + 1) * 2 ^ e ≤ j). all_above leaves tree bound mins e (2 * k + 1) (omega arith) right (omega arith) j h (omega arith))
    (cases_lt j ((2 * k + 1) * 2 ^ e))

-- a search that came down to a node so many levels above the leaves: no leaf before those below the node is within
pub record Descent (levels : ℕ) (tree : List ℕ) (bound node level : ℕ) : Type 0 where
  pub some : 1 ≤ node
  pub within : slice_index tree node ≤ bound
  pub from : 2 ^ levels ≤ node * 2 ^ level
  pub to : (node + 1) * 2 ^ level ≤ 2 * 2 ^ levels
  pub first : (j : ℕ) → 2 ^ levels ≤ j → j < node * 2 ^ level → bound < slice_index tree j

pub starts : (levels : ℕ) (tree : List ℕ) (bound : ℕ) → slice_index tree 1 ≤ bound → Descent levels tree bound 1 levels
starts levels tree bound top = record {
  some = omega arith;
  within = top;
  from = omega arith;
  to = omega arith;
  first = λ j from below. absurd (omega arith);
}

-- the width of a node, from the level below it
half : (level below : ℕ) → level ≡ suc below → 2 ^ level ≡ 2 ^ below + 2 ^ below
half level below is = ap (λ n. 2 ^ n) is ∙ twice below

pub inner : (levels : ℕ) (tree : List ℕ) (bound node level below : ℕ) → level ≡ suc below → Descent levels tree bound node level → node < 2 ^ levels
inner levels tree bound node level below is d = is_inner (2 ^ levels) below node (let P : ℕ → Type 0 = λ n. (node + 1) * 2 ^ n ≤ 2 * 2 ^ levels in subst P is d.to)

pub goes_left : (levels : ℕ) (tree : List ℕ) (bound node level below : ℕ) → level ≡ suc below → Descent levels tree bound node level → slice_index tree (2 * node) ≤ bound → Descent levels tree bound (2 * node) below
goes_left levels tree bound node level below is d within =
    let p = parts node (2 ^ below) (2 ^ level) (half level below is) (one_le_pow below) in
    record {
      some = omega arith;
      within = within;
      from = omega arith;
      to = omega arith;
      first = λ j from under. d.first j from (omega arith);
    }

pub goes_right : (levels : ℕ) (tree : List ℕ) (bound node level below : ℕ) → HasMins (2 ^ levels) tree → level ≡ suc below → Descent levels tree bound node level → bound < slice_index tree (2 * node) → Descent levels tree bound (2 * node + 1) below
goes_right levels tree bound node level below mins is d above =
    let p = parts node (2 ^ below) (2 ^ level) (half level below is) (one_le_pow below) in
    let least = mins.at node d.some (inner levels tree bound node level below is d) in
    record {
      some = omega arith;
      within = omega arith;
      from = omega arith;
      to = omega arith;
      first = λ j from under. ⊎_elim
          (λ (h : j < node * 2 ^ level). d.first j from h)
          (λ (h : node * 2 ^ level ≤ j). all_above (2 ^ levels) tree bound mins below (2 * node) (omega arith) above (omega arith) j (omega arith) (omega arith))
          (cases_lt j (node * 2 ^ level));
    }

pub done : (levels : ℕ) (tree : List ℕ) (bound node level : ℕ) → level ≡ 0 → Descent levels tree bound node level → FirstLeaf levels tree bound node
done levels tree bound node level end d =
    let one : 2 ^ level ≡ 1 = ap (λ n. 2 ^ n) end in
    let from : node * 2 ^ level ≡ node = rw one (omega arith) in
    let to : (node + 1) * 2 ^ level ≡ node + 1 = rw one (omega arith) in
    record {
      from = omega arith;
      to = omega arith;
      within = d.within;
      first = λ j least under. d.first j least (omega arith);
    }
