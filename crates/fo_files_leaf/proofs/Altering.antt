-- Steps of a change of one directory, and one after another.
use Rattle.std.proofs.Common.{◌≡◌, ◌⊎◌, ℕ, inl, inr, ⊎_elim, refl, sym, ap, subst, ◌∙◌, arith}
use Rattle.fo_image.specs.declared.types.Label.{Label}
use Rattle.fo_image.specs.declared.types.State.{State as Living}
use Rattle.fo_image.specs.declared.types.State.TheVariants.{Free, Live, Closed}
use Rattle.fo_crash.specs.declared.slot.Slot.{Slot}
use Rattle.fo_crash.specs.Images.{Content, SameContent}
use Rattle.fo_crash.specs.Steps.{cleared}
use Rattle.fo_ports.specs.State.{State, KeepsAll, KeepsSlot, Looks, Rests, StaysKnown, none}
use Rattle.fo_ports.specs.Sources.{Made}
use Rattle.fo_files_leaf.specs.Alters.{MayPut, KeepsUse, Alters}

pub content_joins : {a b c : Content} → SameContent a b → SameContent b c → SameContent a c
content_joins p q = record { bytes = p.bytes ∙ q.bytes; slots = λ i. p.slots i ∙ q.slots i }

cases_live : (l : Living) → (l ≡ Live) ⊎ (l ≡ Live → ⊥)
cases_live Free = inr (λ e. cc)
cases_live Live = inl refl
cases_live Closed = inr (λ e. cc)

-- a block that keeps its label was not given out
pub not_made : (s u : State) (b : ℕ) → u.label b ≡ s.label b → Made s u b → ⊥
not_made s u b same made = made.0 (ap (λ (l : Label). l.state) (sym same) ∙ made.1)

-- a block of which memory has what it had, and whose slots that waited wait on
pub known_of : {s u : State} {b : ℕ} → SameContent (u.now b) (s.now b) → ((j : ℕ) → s.clearing b j → u.clearing b j) → StaysKnown s u b
known_of same on = record { bytes = same.bytes; slots = λ j. inl (same.slots j, on j) }

-- an entry that stays is of its use
pub same_use : (s u : State) (at k : ℕ) → (u.now at).slot k ≡ (s.now at).slot k → KeepsUse s u at k
same_use s u at k same e is = (e, same ∙ is, refl, refl, refl, refl)

-- a slot that waits for nothing stays
pub slot_stays : (s u : State) (b k : ℕ) → (s.clearing b k → ⊥) → KeepsSlot s u b k → (u.now b).slot k ≡ (s.now b).slot k
slot_stays s u b k still keeps = ⊎_elim (λ same. same.0) (λ gone. absurd (still gone.0)) keeps

slot_joins : (s m u : State) (b j : ℕ) → (u.clearing b j → m.clearing b j) → (m.clearing b j → s.clearing b j) → KeepsSlot s m b j → KeepsSlot m u b j → KeepsSlot s u b j
slot_joins s m u b j to back first second = ⊎_elim
    (λ p. ⊎_elim
    (λ q. inl (q.0 ∙ p.0, λ h. q.1 (p.1 h)))
    (λ q. inr (back q.0, q.1, q.2 ∙ ap (λ (z : Slot). cleared z) p.0))
    second)
    (λ p. ⊎_elim
    (λ q. inr (p.0, λ h. p.1 (to h), q.0 ∙ p.2))
    (λ q. absurd (p.1 q.0))
    second)
    first

-- a look
pub alters_looks : (at : ℕ) (slots tags : ℕ → Type 0) (puts : Label → Type 0) (but : ℕ → Type 0) (s u : State) → s.pinned at → Looks s u → Alters at slots tags puts but s u
alters_looks at slots tags puts but s u pinned looks = record {
  labels = λ b not. looks.stays.labels b (λ n. n);
  marks = λ b not. let marks = looks.stays.marks b (λ n. n) in (marks.0, marks.1);
  made = λ b made. absurd (not_made s u b (looks.stays.labels b (λ n. n)) made);
  known = λ b is not not_put. known_of (looks.known b is) (λ j h. looks.order.goes_on b j (λ n. n) h);
  bytes = (looks.known at pinned).bytes;
  others = λ k none. inl ((looks.known at pinned).slots k, λ h. looks.order.goes_on at k (λ n. n) h);
  uses = λ k still. same_use s u at k ((looks.known at pinned).slots k);
  clearing = λ b j h. let was = looks.order.clearing b j h in (λ made. not_made s u b (looks.stays.labels b (λ n. n)) made, was.1);
  usable = let spare = looks.room.0 in let usable = looks.usable.0 in omega (arith, spare, usable);
  numbers = looks.numbers;
}

-- nothing at all
pub alters_same : (at : ℕ) (slots tags : ℕ → Type 0) (puts : Label → Type 0) (but : ℕ → Type 0) (s : State) → Alters at slots tags puts but s s
alters_same at slots tags puts but s = record {
  labels = λ b not. refl;
  marks = λ b not. (λ h. h, λ h. h);
  made = λ b made. absurd (not_made s s b refl made);
  known = λ b is not not_put. record { bytes = refl; slots = λ j. inl (refl, λ h. h) };
  bytes = refl;
  others = λ k none. inl (refl, λ h. h);
  uses = λ k still. same_use s s at k refl;
  clearing = λ b j h. (λ made. not_made s s b refl made, h);
  usable = omega arith;
  numbers = record { next = refl; grants = λ h. h };
}

-- a settling
pub alters_settled : (at : ℕ) (slots tags : ℕ → Type 0) (puts : Label → Type 0) (but : ℕ → Type 0) (s u : State) → s.pinned at → Rests s u → ((b : ℕ) → s.pinned b → StaysKnown s u b)
    → ((b : ℕ) → (u.label b ≡ s.label b) × (s.pinned b → u.pinned b) × (s.sealed b → u.sealed b)) → u.spare ≡ s.spare → Alters at slots tags puts but s u
alters_settled at slots tags puts but s u pinned rests known blocks spare = record {
  labels = λ b not. (blocks b).0;
  marks = λ b not. ((blocks b).1, (blocks b).2);
  made = λ b made. absurd (not_made s u b (blocks b).0 made);
  known = λ b is not not_put. known b is;
  bytes = (known at pinned).bytes;
  others = λ k none. (known at pinned).slots k;
  uses = λ k still. same_use s u at k (slot_stays s u at k still ((known at pinned).slots k));
  clearing = λ b j h. (λ made. not_made s u b (blocks b).0 made, rests.order b j h);
  usable = let usable = rests.usable in omega (arith, spare, usable);
  numbers = rests.numbers;
}

-- more may change
pub alters_wider : {at : ℕ} {slots tags : ℕ → Type 0} {puts : Label → Type 0} {but : ℕ → Type 0} {more_slots more_tags : ℕ → Type 0} {more_puts : Label → Type 0} {more_but : ℕ → Type 0} {s u : State}
    → ((k : ℕ) → slots k → more_slots k) → ((t : ℕ) → tags t → more_tags t) → ((l : Label) → puts l → more_puts l) → ((b : ℕ) → but b → more_but b) → Alters at slots tags puts but s u → Alters at more_slots more_tags more_puts more_but s u
alters_wider {s = s} {u = u} a_slot a_tag a_put a_leaf x = record {
  labels = x.labels;
  marks = x.marks;
  made = λ b made. let is = x.made b made in (is.0, is.1, a_tag (u.label b).tag is.2, is.3);
  known = λ b is not not_put. x.known b is not (λ put. not_put (⊎_elim (λ here. inl here) (λ other. inr (⊎_elim (λ own. inl (own.0, a_put (s.label b) own.1)) (λ leaf. inr (a_leaf b leaf)) other)) put));
  bytes = x.bytes;
  others = λ k none. x.others k (λ h. none (a_slot k h));
  uses = x.uses;
  clearing = x.clearing;
  usable = x.usable;
  numbers = x.numbers;
}

-- one after another
module _ {at : ℕ} {slots tags : ℕ → Type 0} {puts : Label → Type 0} {but : ℕ → Type 0} {s m u : State} (all : KeepsAll s m) (x : Alters at slots tags puts but s m) (y : Alters at slots tags puts but m u) where
  first_live : (b : ℕ) → Made s m b → Made m u b → ⊥
  first_live b first second = second.0 first.1

  made_first : (b : ℕ) → Made s m b → Made s u b
  made_first b made = (made.0, ap (λ (z : Label). z.state) (y.labels b (first_live b made)) ∙ made.1)

  made_second : (b : ℕ) → Made m u b → Made s u b
  made_second b made = (λ live. made.0 (ap (λ (z : Label). z.state) (x.labels b (λ first. first.0 live)) ∙ live), made.1)

  not_first : (b : ℕ) → (Made s u b → ⊥) → Made s m b → ⊥
  not_first b none made = none (made_first b made)

  not_second : (b : ℕ) → (Made s u b → ⊥) → Made m u b → ⊥
  not_second b none made = none (made_second b made)

  cases_made : (b : ℕ) → Made s u b → Made s m b ⊎ Made m u b
  cases_made b made = ⊎_elim (λ live. inl (made.0, live)) (λ none. inr (none, made.1)) (cases_live (m.label b).state)

  put_back : (b : ℕ) → (Made s m b → ⊥) → MayPut at puts but m b → MayPut at puts but s b
  put_back b none put = let same = x.labels b none in ⊎_elim
      (λ here. inl here)
      (λ other. inr (⊎_elim
      (λ own. inl (ap (λ (z : Label). z.epoch) (sym same) ∙ own.0 ∙ all.same_high, subst (λ (l : Label). puts l) same own.1))
      (λ leaf. inr leaf)
      other))
      put

  pub alters_joins : Alters at slots tags puts but s u
  alters_joins = record {
    labels = λ b none. y.labels b (not_second b none) ∙ x.labels b (not_first b none);
    marks = λ b none. let first = x.marks b (not_first b none) in let second = y.marks b (not_second b none) in (λ h. second.0 (first.0 h), λ h. second.1 (first.1 h));
    made = λ b made. ⊎_elim
        (λ first. let is = x.made b first in let same = y.labels b (first_live b first) in (
          is.0,
          ap (λ (z : Label). z.epoch) same ∙ is.1,
          subst tags (ap (λ (z : Label). z.tag) (sym same)) is.2,
          (y.marks b (first_live b first)).0 is.3,
        ))
        (λ second. let is = y.made b second in (is.0, is.1 ∙ all.same_high, is.2, is.3))
        (cases_made b made);
    known = λ b is none not_put.
        let first = x.known b is (not_first b none) not_put in
        let second = y.known b ((x.marks b (not_first b none)).0 is) (not_second b none) (λ put. not_put (put_back b (not_first b none) put)) in
        record {
          bytes = second.bytes ∙ first.bytes;
          slots = λ j. slot_joins s m u b j (λ h. (y.clearing b j h).1) (λ h. (x.clearing b j h).1) (first.slots j) (second.slots j);
        };
    bytes = y.bytes ∙ x.bytes;
    others = λ k none. slot_joins s m u at k (λ h. (y.clearing at k h).1) (λ h. (x.clearing at k h).1) (x.others k none) (y.others k none);
    uses = λ k still e is.
        let first = x.uses k still e is in
        let second = y.uses k (λ h. still (x.clearing at k h).1) first.0 first.1 in
        (second.0, second.1, second.2 ∙ first.2, second.3 ∙ first.3, second.4 ∙ first.4, second.5 ∙ first.5);
    clearing = λ b j h. let second = y.clearing b j h in let first = x.clearing b j second.1 in (λ made. ⊎_elim first.0 second.0 (cases_made b made), first.1);
    usable = let first = x.usable in let second = y.usable in omega (arith, first, second);
    numbers = record { next = y.numbers.next ∙ x.numbers.next; grants = λ h. y.numbers.grants (x.numbers.grants h) };
  }
