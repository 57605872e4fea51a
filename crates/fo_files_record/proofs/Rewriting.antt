-- Leaves are rewritten by one step after another.
use Rattle.std.proofs.Common.{◌≡◌, ◌≢◌, ℕ, Bool, true, false, inl, inr, ⊎_elim, refl, ap, ◌∙◌, arith}
use Rattle.fo_crash.specs.Steps.{cleared}
use Rattle.fo_crash.specs.declared.slot.Slot.{Slot}
use Rattle.fo_ports.specs.State.{State, Looks, KeepsSlot}
use Rattle.fo_dir_remove.specs.of_dir_put.Puts.{StaysCalm}
use Rattle.fo_files_record.specs.Stays.{Rewrites}

-- a look
pub rewrites_looks : {s u : State} (leaves : ℕ → Type 0) (clears : ℕ → ℕ → Type 0) → Looks s u → u.pins_left ≡ s.pins_left → Rewrites leaves clears s u
rewrites_looks leaves clears looks pins = record {
  labels = λ b. looks.stays.labels b (λ h. h);
  marks = λ b. let m = looks.stays.marks b (λ h. h) in (m.0, m.1);
  bytes = λ b pinned away. (looks.known b pinned).bytes;
  slots = λ b n pinned other. inl ((looks.known b pinned).slots n, λ h. looks.order.goes_on b n (λ no. no) h);
  clearing = λ b n h. inl (looks.order.clearing b n h).1;
  left = let usable = looks.usable.0 in (looks.room.0, pins, omega (arith, usable));
  numbers = looks.numbers;
}

-- a leaf got other bytes
pub rewrites_calm : {s u : State} (leaf : ℕ) (clears : ℕ → ℕ → Type 0) → StaysCalm s u → ((b : ℕ) → b ≢ leaf → (u.now b).bytes ≡ (s.now b).bytes) → ((b n : ℕ) → (u.now b).slot n ≡ (s.now b).slot n) → Rewrites (λ b. b ≡ leaf) clears s u
rewrites_calm leaf clears calm bytes slots = record {
  labels = calm.labels;
  marks = calm.marks;
  bytes = λ b pinned away. bytes b away;
  slots = λ b n pinned other. inl (slots b n, λ h. calm.order.goes_on b n (λ no. no) h);
  clearing = λ b n h. inl (calm.order.clearing b n h).1;
  left = let usable = calm.left.2 in (calm.left.0, calm.left.1, omega (arith, usable));
  numbers = calm.numbers;
}

-- more may change
pub rewrites_wider : {s u : State} {leaves more_leaves : ℕ → Type 0} {clears more_clears : ℕ → ℕ → Type 0} → ((b : ℕ) → leaves b → more_leaves b) → ((b n : ℕ) → clears b n → more_clears b n) → Rewrites leaves clears s u → Rewrites more_leaves more_clears s u
rewrites_wider leaf slot x = record {
  labels = x.labels;
  marks = x.marks;
  bytes = λ b pinned away. x.bytes b pinned (λ h. away (leaf b h));
  slots = λ b n pinned other. x.slots b n pinned (λ h. other (slot b n h));
  clearing = λ b n h. ⊎_elim (λ was. inl was) (λ one. inr (slot b n one)) (x.clearing b n h);
  left = x.left;
  numbers = x.numbers;
}

slot_joins : (s m u : State) (b n : ℕ) → (m.clearing b n → s.clearing b n) → (u.clearing b n → m.clearing b n) → KeepsSlot s m b n → KeepsSlot m u b n → KeepsSlot s u b n
slot_joins s m u b n back later first second = ⊎_elim
    (λ p. ⊎_elim
    (λ q. inl (q.0 ∙ p.0, λ h. q.1 (p.1 h)))
    (λ q. inr (back q.0, q.1, q.2 ∙ ap (λ (z : Slot). cleared z) p.0))
    second)
    (λ p. ⊎_elim
    (λ q. inr (p.0, λ h. p.1 (later h), q.0 ∙ p.2))
    (λ q. absurd (p.1 q.0))
    second)
    first

-- one after another
pub rewrites_joins : {s m u : State} {leaves : ℕ → Type 0} {clears : ℕ → ℕ → Type 0} → Rewrites leaves clears s m → Rewrites leaves clears m u → Rewrites leaves clears s u
rewrites_joins {s = s} {m = m} {u = u} x y = record {
  labels = λ b. y.labels b ∙ x.labels b;
  marks = λ b. (λ h. (y.marks b).0 ((x.marks b).0 h), λ h. (y.marks b).1 ((x.marks b).1 h));
  bytes = λ b pinned away. y.bytes b ((x.marks b).0 pinned) away ∙ x.bytes b pinned away;
  slots = λ b n pinned other. slot_joins s m u b n
      (λ h. ⊎_elim (λ was. was) (λ one. absurd (other one)) (x.clearing b n h))
      (λ h. ⊎_elim (λ was. was) (λ one. absurd (other one)) (y.clearing b n h))
      (x.slots b n pinned other) (y.slots b n ((x.marks b).0 pinned) other);
  clearing = λ b n h. ⊎_elim (λ was. x.clearing b n was) (λ one. inr one) (y.clearing b n h);
  left = let first = x.left.2 in let second = y.left.2 in (y.left.0 ∙ x.left.0, y.left.1 ∙ x.left.1, omega (arith, first, second));
  numbers = record { next = y.numbers.next ∙ x.numbers.next; grants = λ h. y.numbers.grants (x.numbers.grants h) };
}

-- nothing at all
pub rewrites_same : (s : State) (leaves : ℕ → Type 0) (clears : ℕ → ℕ → Type 0) → Rewrites leaves clears s s
rewrites_same s leaves clears = record {
  labels = λ b. refl;
  marks = λ b. (λ h. h, λ h. h);
  bytes = λ b pinned away. refl;
  slots = λ b n pinned other. inl (refl, λ h. h);
  clearing = λ b n h. inl h;
  left = (refl, refl, omega arith);
  numbers = record { next = refl; grants = λ h. h };
}

pub by_cases : (b : Bool) (P : Type 0) → (b ≡ true → P) → (b ≡ false → P) → P
by_cases true P yes' no' = yes' refl
by_cases false P yes' no' = no' refl
