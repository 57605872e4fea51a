-- Waits for one pair of entries of a block end, one wait after the other.
use Rattle.std.proofs.Common.{◌≡◌, ◌≢◌, ◌⊎◌, inl, inr, ⊎_elim, ℕ, zero, suc, ◌+◌, ◌*◌, ◌<◌, ◌≤◌, Bool, true, false, List, [], ◌∷◌, length, get_or, set, get_or-set_other, get_or-set_same, length-set, refl, sym, ◌∙◌, ap, subst, arith}
use Rattle.std.proofs.lemmas.Bool.{cases_eq, cases_lt}
use Rattle.fo_ports_plain.specs.declared.wait.Wait.{Wait}
use Rattle.fo_ports_plain.specs.Plain.{no_wait, wait_at, pair_of}
use Rattle.fo_ports_plain.specs.Moves.{EndsWaits}
use Rattle.fo_ports_plain.proofs.Lists.{any_default}

-- a wait that was read by its index
pub wait_is : (waits : List Wait) (n : ℕ) (w : Wait) → n < length waits → w ≡ get_or waits n w → w ≡ wait_at waits n
wait_is waits n w lt here = here ∙ any_default waits n w no_wait lt

past_end : (waits : List Wait) (n : ℕ) → length waits ≤ n → wait_at waits n ≡ no_wait
past_end [] n le = refl
past_end (w ∷ waits) zero le = absurd (omega (arith, le))
past_end (w ∷ waits) (suc n) le = past_end waits n (omega (arith, le))

-- The waits before one of them are over.
pub record EndsUpTo (m on pair : ℕ) (old new : List Wait) : Type 0 where
  pub as_long : length new ≡ length old
  pub same : (n : ℕ) → ((wait_at new n).at ≡ (wait_at old n).at) × ((wait_at new n).on ≡ (wait_at old n).on)
  pub fewer : (n k : ℕ) → pair_of (wait_at new n) k ≡ true → pair_of (wait_at old n) k ≡ true
  pub others : (n k : ℕ) → ((wait_at old n).on ≢ on) ⊎ (k ≢ pair) → pair_of (wait_at new n) k ≡ pair_of (wait_at old n) k
  pub ended : (n : ℕ) → n < m → (wait_at old n).on ≡ on → pair_of (wait_at new n) pair ≡ false

pub none_ended : (on pair : ℕ) (old : List Wait) → EndsUpTo 0 on pair old old
none_ended on pair old = record { as_long = refl; same = λ n. (refl, refl); fewer = λ n k h. h; others = λ n k h. refl; ended = λ n lt e. absurd (omega (arith, lt)) }

-- what the wait of one step becomes
pub record Ended (on pair : ℕ) (w x : Wait) : Type 0 where
  pub same : (x.at ≡ w.at) × (x.on ≡ w.on)
  pub fewer : (k : ℕ) → pair_of x k ≡ true → pair_of w k ≡ true
  pub others : (k : ℕ) → (w.on ≢ on) ⊎ (k ≢ pair) → pair_of x k ≡ pair_of w k
  pub ended : w.on ≡ on → pair_of x pair ≡ false

never_set : (xs : List Bool) (k : ℕ) → get_or (set xs k false) k false ≡ false
never_set xs k = ⊎_elim
    (λ lt. get_or-set_same xs k false false lt)
    (λ le. beyond (set xs k false) k (let l = length-set xs k false in omega (arith, le, l)))
    (cases_lt k (length xs))
  where
    beyond : (xs : List Bool) (k : ℕ) → length xs ≤ k → get_or xs k false ≡ false
    beyond [] k le = refl
    beyond (x ∷ xs) zero le = absurd (omega (arith, le))
    beyond (x ∷ xs) (suc k) le = beyond xs k (omega (arith, le))

pub ended_by : (on pair : ℕ) (w x : Wait) → (w.on ≡ on → x ≡ record w { pairs = set w.pairs pair false }) → (w.on ≢ on → x ≡ w) → Ended on pair w x
ended_by on pair w x here other = ⊎_elim
    (λ e. subst (λ z. Ended on pair w z) (sym (here e)) (record {
      same = (refl, refl);
      fewer = λ k h. ⊎_elim
          (λ k_is. let no : true ≡ false = sym h ∙ ap (λ z. get_or (set w.pairs pair false) z false) k_is ∙ never_set w.pairs pair in absurd (cc))
          (λ ne. sym (get_or-set_other w.pairs pair k false false ne) ∙ h)
          (cases_eq k pair);
      others = λ k h. get_or-set_other w.pairs pair k false false (⊎_elim (λ ne. absurd (ne e)) (λ ne. ne) h);
      ended = λ _. never_set w.pairs pair;
    }))
    (λ ne. subst (λ z. Ended on pair w z) (sym (other ne)) (record { same = (refl, refl); fewer = λ k h. h; others = λ k h. refl; ended = λ e. absurd (ne e) }))
    (cases_eq w.on on)

pub one_ended : {m on pair : ℕ} {old new : List Wait} {w x : Wait} → EndsUpTo m on pair old new → m < length new → w ≡ wait_at new m → Ended on pair w x → EndsUpTo (m + 1) on pair old (set new m x)
one_ended {m} {on} {pair} {old} {new} {w} {x} so lt w_is step = record {
  as_long = length-set new m x ∙ so.as_long;
  same = λ n. ⊎_elim
      (λ e. subst (λ z. ((wait_at (set new m x) z).at ≡ (wait_at old z).at) × ((wait_at (set new m x) z).on ≡ (wait_at old z).on)) (sym e)
      (ap (λ (z : Wait). z.at) here ∙ step.same.0 ∙ ap (λ (z : Wait). z.at) w_is ∙ (so.same m).0, ap (λ (z : Wait). z.on) here ∙ step.same.1 ∙ on_is))
      (λ ne. (ap (λ (z : Wait). z.at) (other n ne) ∙ (so.same n).0, ap (λ (z : Wait). z.on) (other n ne) ∙ (so.same n).1))
      (cases_eq n m);
  fewer = λ n k h. ⊎_elim
      (λ e. subst (λ z. pair_of (wait_at (set new m x) z) k ≡ true → pair_of (wait_at old z) k ≡ true) (sym e)
      (λ g. so.fewer m k (ap (λ z. pair_of z k) (sym w_is) ∙ step.fewer k (ap (λ z. pair_of z k) (sym here) ∙ g))) h)
      (λ ne. so.fewer n k (ap (λ z. pair_of z k) (sym (other n ne)) ∙ h))
      (cases_eq n m);
  others = λ n k h. ⊎_elim
      (λ e. subst (λ z. ((wait_at old z).on ≢ on) ⊎ (k ≢ pair) → pair_of (wait_at (set new m x) z) k ≡ pair_of (wait_at old z) k) (sym e)
      (λ g. ap (λ z. pair_of z k) here ∙ step.others k (⊎_elim (λ ne. inl (λ e. ne (sym on_is ∙ e))) (λ ne. inr ne) g) ∙ ap (λ z. pair_of z k) w_is ∙ so.others m k g) h)
      (λ ne. ap (λ z. pair_of z k) (other n ne) ∙ so.others n k h)
      (cases_eq n m);
  ended = λ n small e. ⊎_elim
      (λ is. subst (λ z. (wait_at old z).on ≡ on → pair_of (wait_at (set new m x) z) pair ≡ false) (sym is)
      (λ g. ap (λ z. pair_of z pair) here ∙ step.ended (on_is ∙ g)) e)
      (λ ne. ap (λ z. pair_of z pair) (other n ne) ∙ so.ended n (omega (arith, small, ne)) e)
      (cases_eq n m);
}
  where
    here : wait_at (set new m x) m ≡ x
    here = get_or-set_same new m x no_wait lt

    other : (n : ℕ) → n ≢ m → wait_at (set new m x) n ≡ wait_at new n
    other n ne = get_or-set_other new m n x no_wait ne

    on_is : w.on ≡ (wait_at old m).on
    on_is = ap (λ (z : Wait). z.on) w_is ∙ (so.same m).1

pub all_ended : {m on pair : ℕ} {old new : List Wait} → EndsUpTo m on pair old new → length old ≤ m → EndsWaits on (2 * pair) old new
all_ended {m} {on} {pair} {old} {new} so le = record {
  as_long = so.as_long;
  same = so.same;
  fewer = so.fewer;
  others = λ n k h. so.others n k (⊎_elim (λ ne. inl ne) (λ ne. inr (λ e. ne (ap (λ z. 2 * z) (sym e)))) h);
  ended = λ n k e half. let is : k ≡ pair = omega (arith, half) in ap (λ z. pair_of (wait_at new n) z) is ∙ ⊎_elim
      (λ lt. so.ended n lt e)
      (λ far. ap (λ z. pair_of z pair) (past_end new n (let l = so.as_long in omega (arith, far, le, l))))
      (cases_lt n m);
}

-- an odd entry is the first of no pair
pub none_ends : (at i : ℕ) (waits : List Wait) → ((k : ℕ) → i ≢ 2 * k) → EndsWaits at i waits waits
none_ends at i waits odd = record { as_long = refl; same = λ n. (refl, refl); fewer = λ n k h. h; others = λ n k h. refl; ended = λ n k e half. absurd (odd k half) }
