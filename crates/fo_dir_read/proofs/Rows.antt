-- The records of several leaves, one leaf after the other.
use Rattle.std.proofs.Common.{◌≡◌, ◌≢◌, ◌+◌, ◌<◌, ℕ, zero, suc, Bool, List, [], ◌++◌, refl, ⊎_elim, sym, ap, ◌∙◌, subst, arith, add-one}
use Rattle.std.proofs.Math.Bool.{cond}
use Rattle.std.proofs.Math.Dec.{eqb}
use Rattle.std.proofs.lemmas.Bool.Decides.{eqb_tells}
use Rattle.fo_image.specs.declared.record.Record.{Record}
use Rattle.fo_ports.specs.of_crash.Images.{Image, SameImage}
use Rattle.fo_ports.specs.Sources.{Leaves}
use Rattle.fo_dir_read.specs.Names.{HasRecords, AreRecords, joined}
use Rattle.fo_dir_read.proofs.Looking.{records_back}

pub joined_same : (f g : ℕ → List Record) (n : ℕ) → ((i : ℕ) → i < n → f i ≡ g i) → joined f n ≡ joined g n
joined_same f g zero same = refl
joined_same f g (suc n) same = ap (λ xs. xs ++ f n) (joined_same f g n (λ i lt. same i (omega (arith, lt)))) ∙ ap (λ xs. joined g n ++ xs) (same n (omega arith))

-- no leaf has no record
pub rows_none : {now : Image} {x : Leaves} {rs : List Record} → AreRecords now x 0 rs → rs ≡ []
rows_none are = are.all

pub none_rows : {now : Image} {x : Leaves} → AreRecords now x 0 []
none_rows = record { rows = λ i. []; each = λ i lt. absurd (omega (arith, lt)); all = refl }

-- those of one more leaf
pub record Split (now : Image) (x : Leaves) (n : ℕ) (rs : List Record) : Type 0 where
  pub front : List Record
  pub last : List Record
  pub are : AreRecords now x n front
  pub has : HasRecords now x n last
  pub is : rs ≡ front ++ last

pub rows_split : {now : Image} {x : Leaves} {n : ℕ} {rs : List Record} → AreRecords now x (n + 1) rs → Split now x n rs
rows_split {n = n} are = record {
  front = joined are.rows n;
  last = are.rows n;
  are = record { rows = are.rows; each = λ i lt. are.each i (omega (arith, lt)); all = refl };
  has = are.each n (omega arith);
  is = are.all ∙ ap (λ k. joined are.rows k) (add-one n);
}

pub rows_more : {now : Image} {x : Leaves} {n : ℕ} {front last : List Record} → AreRecords now x n front → HasRecords now x n last → AreRecords now x (n + 1) (front ++ last)
rows_more {now = now} {x = x} {n = n} {front = front} {last = last} are has = record {
  rows = rows;
  each = λ i lt. ⊎_elim
      (λ e. subst (λ k. HasRecords now x k (rows i)) (sym e.1) (subst (λ ys. HasRecords now x n ys) (sym (ap (λ (b : Bool). cond b last (are.rows i)) e.0)) has))
      (λ e. subst (λ ys. HasRecords now x i ys) (sym (ap (λ (b : Bool). cond b last (are.rows i)) e.0)) (are.each i (before i lt e.1)))
      (eqb_tells i n);
  all = sym (ap (λ k. joined rows k) (add-one n) ∙ ap (λ ys. ys ++ rows n) (joined_same rows are.rows n (λ i lt. below i lt)) ∙ ap (λ ys. joined are.rows n ++ ys) here ∙ ap (λ ys. ys ++ last) (sym are.all));
}
  where
    rows : ℕ → List Record
    rows i = cond (eqb i n) last (are.rows i)

    before : (i : ℕ) → i < n + 1 → i ≢ n → i < n
    before i lt ne = grind (arith, lt, ne)

    differs : (i : ℕ) → i < n → i ≡ n → ⊥
    differs i lt e = omega (arith, lt, e)

    below : (i : ℕ) → i < n → rows i ≡ are.rows i
    below i lt = ⊎_elim (λ e. absurd (differs i lt e.1)) (λ e. ap (λ (b : Bool). cond b last (are.rows i)) e.0) (eqb_tells i n)

    here : rows n ≡ last
    here = ⊎_elim (λ e. ap (λ (b : Bool). cond b last (are.rows n)) e.0) (λ e. absurd (e.1 refl)) (eqb_tells n n)

-- the same records, before and after a look
pub rows_back : {now next : Image} {x y : Leaves} {n : ℕ} {rs : List Record} → SameImage next now → ((i : ℕ) → y.at i ≡ x.at i) → AreRecords next y n rs → AreRecords now x n rs
rows_back same there are = record { rows = are.rows; each = λ i lt. records_back same (there i) (are.each i lt); all = are.all }

pub records_on : {now next : Image} {x y : Leaves} {i : ℕ} {rs : List Record} → SameImage next now → y.at i ≡ x.at i → HasRecords now x i rs → HasRecords next y i rs
records_on same there has = records_back (record { each = λ b. record { bytes = sym ((same.each b).bytes); slots = λ j. sym ((same.each b).slots j) } }) (sym there) has

pub rows_on : {now next : Image} {x y : Leaves} {n : ℕ} {rs : List Record} → SameImage next now → ((i : ℕ) → y.at i ≡ x.at i) → AreRecords now x n rs → AreRecords next y n rs
rows_on same there are = record { rows = are.rows; each = λ i lt. records_on same (there i) (are.each i lt); all = are.all }
