-- Reading one thing after the other, as a loop does.
use Rattle.std.proofs.Common.{◌≡◌, ℕ, zero, suc, ◌+◌, ◌-◌, ◌<◌, ◌≤◌, List, [], ◌∷◌, ◌++◌, Some, None, refl, sym, ap, ◌∙◌, append_assoc, arith}
use Rattle.std.specs.declared.option.Option.{Option}
use Rattle.std.proofs.lemmas.List.{append-nil}
use Rattle.nine_fields.specs.declared.qid.Qid.{Qid}
use Rattle.nine_fields.specs.Reading.{◌>>=◌, text_at, names_at, qid_at, ids_at}

-- what was read before, and what is still read
abbrev pub with_front : {A : Type 0} → List A → Option (List A × List ℕ) → Option (List A × List ℕ)
with_front front read = read >>= λ x. Some (front ++ x.0, x.1)

-- the readers of so many things, by one thing's reader
pub record Listed (A : Type 0) : Type 0 where
  pub one : List ℕ → Option (A × List ℕ)
  pub many : ℕ → List ℕ → Option (List A × List ℕ)
  pub none : (bytes : List ℕ) → many 0 bytes ≡ Some ([], bytes)
  pub more : (n : ℕ) (bytes : List ℕ) → many (suc n) bytes ≡ (one bytes >>= λ first. many n first.1 >>= λ others. Some (first.0 ∷ others.0, others.1))

pub names_none : (bytes : List ℕ) → names_at 0 bytes ≡ Some ([], bytes)
unfolding names_at
names_none bytes = refl

pub names_more : (n : ℕ) (bytes : List ℕ) → names_at (suc n) bytes ≡ (text_at bytes >>= λ first. names_at n first.1 >>= λ others. Some (first.0 ∷ others.0, others.1))
unfolding names_at
names_more n bytes = refl

abbrev pub names_listed : Listed (List ℕ)
names_listed = record { one = text_at; many = names_at; none = names_none; more = names_more }

pub ids_none : (bytes : List ℕ) → ids_at 0 bytes ≡ Some ([], bytes)
unfolding ids_at
ids_none bytes = refl

pub ids_more : (n : ℕ) (bytes : List ℕ) → ids_at (suc n) bytes ≡ (qid_at bytes >>= λ first. ids_at n first.1 >>= λ others. Some (first.0 ∷ others.0, others.1))
unfolding ids_at
ids_more n bytes = refl

abbrev pub ids_listed : Listed Qid
ids_listed = record { one = qid_at; many = ids_at; none = ids_none; more = ids_more }

regroup : {A : Type 0} (front : List A) (t : A) (read : Option (List A × List ℕ)) → with_front front (read >>= λ x. Some (t ∷ x.0, x.1)) ≡ with_front (front ++ t ∷ []) read
regroup {A} front t (Some x) = ap (λ (ts : List A). Some (ts, x.1)) (simp append_assoc)
regroup front t None = refl

pub goes_on : {A : Type 0} (l : Listed A) (front : List A) (count i : ℕ) (bytes : List ℕ) (t : A) (after : List ℕ) (total : Option (List A × List ℕ)) → i < count → l.one bytes ≡ Some (t, after)
    → with_front front (l.many (count - i) bytes) ≡ total → with_front (front ++ t ∷ []) (l.many (count - (i + 1)) after) ≡ total
goes_on l front count i bytes t after total lt h so_far =
    let k : count - i ≡ suc (count - (i + 1)) = omega arith in
    let one : with_front front (l.many (count - i) bytes) ≡ with_front (front ++ t ∷ []) (l.many (count - (i + 1)) after) = rw (k, l.more (count - (i + 1)) bytes, h) (regroup front t (l.many (count - (i + 1)) after)) in
    sym one ∙ so_far

pub ends : {A : Type 0} (l : Listed A) (front : List A) (count i : ℕ) (bytes : List ℕ) (total : Option (List A × List ℕ)) → i < count → l.one bytes ≡ None
    → with_front front (l.many (count - i) bytes) ≡ total → total ≡ None
ends l front count i bytes total lt h so_far =
    let k : count - i ≡ suc (count - (i + 1)) = omega arith in
    let one : with_front front (l.many (count - i) bytes) ≡ None = rw (k, l.more (count - (i + 1)) bytes, h) refl in
    sym so_far ∙ one

pub is_done : {A : Type 0} (l : Listed A) (front : List A) (count i : ℕ) (bytes : List ℕ) (total : Option (List A × List ℕ)) → count ≤ i → with_front front (l.many (count - i) bytes) ≡ total → total ≡ Some (front, bytes)
is_done {A} l front count i bytes total le so_far =
    let k : count - i ≡ 0 = omega arith in
    let one : with_front front (l.many (count - i) bytes) ≡ Some (front, bytes) = rw (k, l.none bytes) (ap (λ (ts : List A). Some (ts, bytes)) (append-nil front)) in
    sym so_far ∙ one
