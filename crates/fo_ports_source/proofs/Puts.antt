-- Bytes that are put one part after another, and how much is spent.
use Rattle.std.proofs.Common.{◌≡◌, ◌*◌, ◌^◌, ℕ, ◌+◌, ◌-◌, ◌/◌, ◌%◌, ◌<◌, ◌≤◌, ◌⊎◌, List, [], ◌++◌, length, min, take, drop, Result, Ok, Err, IfErr, OnOk, slice_index, refl, sym, ◌∙◌, ap, arith, inl, inr, ⊎_elim}
use Rattle.std.proofs.lemmas.Bool.{cases_lt}
use Rattle.std.proofs.lemmas.List.{length-take-le, get_or-take, get_or-drop, length-drop, get_or_append_left, get_or-append_right}
use Rattle.std.proofs.lemmas.Slice.{take-put_mid}
use Rattle.std.proofs.lemmas.Grind.{common_steps}
use borrow.Rule.Slice.PartMut.{put_mid}
use Rattle.fo_base.specs.Cause.{Rose}
use Rattle.fo_ports.specs.declared.error.BlockError.{BlockError}
use Rattle.fo_ports.specs.Causes.{Caused}
use Rattle.fo_ports_source.proofs.Looks.{cause_after}
use Rattle.fo_ports.specs.Sources.{depth_for, most_for}
use Rattle.fo_ports_source.specs.Source.{leaves_for, Puts, Spent}

pub puts_after : {a b c : ℕ → ℕ} {offset : ℕ} {bytes : List ℕ} → ((k : ℕ) → b k ≡ a k) → Puts b c offset bytes → Puts a c offset bytes
puts_after same p = record { within = p.within; before = λ k lt. p.before k lt ∙ same k; behind = λ k ge. p.behind k ge ∙ same k }

module _ (a b c : ℕ → ℕ) (offset done n : ℕ) (bytes : List ℕ) (le : done + n ≤ length bytes)
    (p : Puts a b offset (take done bytes)) (q : Puts b c (offset + done) (take n (drop done bytes))) where
  first_len : length (take done bytes) ≡ done
  first_len = length-take-le done bytes (omega arith)

  more_len : length (take n (drop done bytes)) ≡ n
  more_len = length-take-le n (drop done bytes) (omega (arith, length-drop done bytes))

  all_len : length (take (done + n) bytes) ≡ done + n
  all_len = length-take-le (done + n) bytes le

  within_first : (i : ℕ) → i < done → c (offset + i) ≡ slice_index (take (done + n) bytes) i
  within_first i lt =
      q.before (offset + i) (omega arith) ∙ p.within i (omega (arith, first_len)) ∙ get_or-take done bytes i 0 lt ∙ sym (get_or-take (done + n) bytes i 0 (omega arith))

  within_more : (i j : ℕ) → i ≡ done + j → j < n → c (offset + i) ≡ slice_index (take (done + n) bytes) i
  within_more i j is lt =
      let same : offset + i ≡ offset + done + j = omega arith in
      rw (same, is) (q.within j (omega (arith, more_len)) ∙ get_or-take n (drop done bytes) j 0 lt ∙ get_or-drop done bytes j 0 ∙ sym (get_or-take (done + n) bytes (done + j) 0 (omega arith)))

  within_all : (i : ℕ) → (i < done) ⊎ (done ≤ i) → i < done + n → c (offset + i) ≡ slice_index (take (done + n) bytes) i
  within_all i (inl lt) le = within_first i lt
  within_all i (inr ge) lt = within_more i (i - done) (omega arith) (omega arith)

  pub puts_more : Puts a c offset (take (done + n) bytes)
  puts_more = record {
    within = λ i lt. within_all i (cases_lt i done) (omega (arith, all_len));
    before = λ k lt. q.before k (omega arith) ∙ p.before k lt;
    behind = λ k ge. q.behind k (omega (arith, all_len, more_len)) ∙ p.behind k (omega (arith, all_len, first_len));
  }

pub spent_none : (len offset spare : ℕ) → Spent len offset 0 spare spare
spent_none len offset spare = record { is = inl (omega arith, omega arith) }

pub puts_none : (f : ℕ → ℕ) (offset : ℕ) → Puts f f offset []
puts_none f offset = record { within = λ i lt. absurd (omega (arith, lt)); before = λ k lt. refl; behind = λ k ge. refl }

pub spent_more : (len offset done count before now new_now : ℕ) → done < len → count ≡ min (8192 - (offset + done) % 8192) (len - done) → now ≤ new_now + 1 → Spent len offset done before now → Spent len offset (done + count) before new_now
spent_more len offset done count before now new_now lt is one spent = record { is = inr (edge, most spent.is) }
  where
    edge : ((offset + (done + count)) % 8192 ≡ 0) ⊎ (done + count ≡ len)
    edge = ⊎_elim
        (λ (h : 8192 - (offset + done) % 8192 < len - done). inl (omega (arith, is, lt, h)))
        (λ (h : len - done ≤ 8192 - (offset + done) % 8192). inr (omega (arith, is, lt, h)))
        (cases_lt (8192 - (offset + done) % 8192) (len - done))

    some : 0 < count
    some = omega (arith, is, lt)

    most : ((done ≡ 0) × (before ≤ now)) ⊎ ((((offset + done) % 8192 ≡ 0) ⊎ (done ≡ len)) × (before + offset / 8192 ≤ now + (offset + done + 8191) / 8192)) → before + offset / 8192 ≤ new_now + (offset + (done + count) + 8191) / 8192
    most (inl h) = omega (arith, h.0, h.1, one, some)
    most (inr h) = ⊎_elim (λ e. omega (arith, e, h.1, one, some)) (λ e. absurd (omega (arith, e, lt))) h.0

pub spent_left : (len offset done before now : ℕ) → done < len → leaves_for len ≤ before → Spent len offset done before now → 0 < now
spent_left len offset done before now lt enough spent = by spent.is
  where
    by : ((done ≡ 0) × (before ≤ now)) ⊎ ((((offset + done) % 8192 ≡ 0) ⊎ (done ≡ len)) × (before + offset / 8192 ≤ now + (offset + done + 8191) / 8192)) → 0 < now
    by (inl h) = omega (arith, h.1, enough)
    by (inr h) = omega (arith, h.1, enough, lt)

-- bytes that are copied out, one part after another
module _ (mid new : ℕ → ℕ) (into sub : List ℕ) (offset done n m : ℕ) (same : m ≡ n) (le : done + n ≤ length into) (len : length sub ≡ n)
    (given : (i : ℕ) → i < done → slice_index into i ≡ mid (offset + i))
    (stays : (i : ℕ) → i < done → new (offset + i) ≡ mid (offset + i))
    (more : (i : ℕ) → i < n → slice_index sub i ≡ new (offset + done + i)) where
  at_front : length (take done into) ≡ done
  at_front = length-take-le done into (omega (arith, le))

  joined : (i : ℕ) → (i < done) ⊎ (done ≤ i) → i < done + n → slice_index (take done into ++ sub) i ≡ new (offset + i)
  joined i (inl lt) below = get_or_append_left (take done into) sub 0 i (omega (arith, at_front, lt)) ∙ get_or-take done into i 0 lt ∙ given i lt ∙ sym (stays i lt)
  joined i (inr ge) below =
      let back : offset + done + (i - done) ≡ offset + i = omega (arith, ge) in
      get_or-append_right (take done into) sub done i 0 at_front ge ∙ more (i - done) (omega (arith, ge, below)) ∙ ap new back

  pub copied_more : (i : ℕ) → i < done + n → slice_index (put_mid done m into sub) i ≡ new (offset + i)
  copied_more i lt =
      sym (get_or-take (done + n) (put_mid done m into sub) i 0 lt)
      ∙ ap (λ xs. slice_index xs i) (take-put_mid done m into sub (done + n) (omega (arith, len)) (omega (arith, le)))
      ∙ joined i (cases_lt i done) lt

-- a cause is kept by calls that looked before
pub later_cause : {T : Type 0} (r : Result T BlockError) (damaged earlier : ℕ → Type 0) (first mid last : ℕ) → ((b : ℕ) → damaged b → earlier b) → first ≤ mid → IfErr r (Caused ⊥ damaged (Rose mid last) ⊥) → IfErr r (Caused ⊥ earlier (Rose first last) ⊥)
later_cause (Ok x) damaged earlier first mid last wider le cause = cause
later_cause (Err e) damaged earlier first mid last wider le cause = cause_after damaged earlier first mid last e wider le cause

-- what follows where a call doesn't fail
pub then_ok : {T : Type 0} (r : Result T BlockError) (P Q : Type 0) → (P → Q) → OnOk r P → OnOk r Q
then_ok (Ok x) P Q then is = then is
then_ok (Err e) P Q then is = is

-- a source needs no more than the trait allows
pub few_leaves : (end n : ℕ) → leaves_for n + 1 ≤ most_for end n
few_leaves end n = by n (depth_for end)
  where
    by : (n depth : ℕ) → n / 8192 + 2 + 1 ≤ n / 8192 + n / 2 ^ 21 + 3 * (depth + 1)
    by n depth = omega arith

pub length_put_mid : (a k : ℕ) (xs ys : List ℕ) → a + k ≤ length xs → length ys ≡ k → length (put_mid a k xs ys) ≡ length xs
length_put_mid a k xs ys le is = grind (arith, common_steps)
