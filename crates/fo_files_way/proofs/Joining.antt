-- Blocks were owned, and then others.
use Rattle.std.proofs.Common.{◌≡◌, ◌⊎◌, ℕ, inl, inr, ⊎_elim, refl, sym, ap, subst, ◌∙◌, arith}
use Rattle.fo_image.specs.declared.types.Label.{Label}
use Rattle.fo_image.specs.declared.types.State.{State as Living}
use Rattle.fo_image.specs.declared.types.State.TheVariants.{Free, Live, Closed}
use Rattle.fo_ports.specs.State.{State, KeepsAll}
use Rattle.fo_ports.specs.Sources.{Made}
use Rattle.fo_files_way.specs.Owns.{Owns, MayPutInto}
use Rattle.fo_files_way.proofs.One.{content_joins}

pub cases_live : (l : Living) → (l ≡ Live) ⊎ (l ≡ Live → ⊥)
cases_live Free = inr (λ e. cc)
cases_live Live = inl refl
cases_live Closed = inr (λ e. cc)

-- what may be put into may be more
pub owns_wider : {s u : State} {here more_here : ℕ → Type 0} {labels more_labels : Label → Type 0} {tags more_tags : ℕ → Type 0} → ((b : ℕ) → here b → more_here b) → ((l : Label) → labels l → more_labels l) → ((t : ℕ) → tags t → more_tags t) → Owns here labels tags s u → Owns more_here more_labels more_tags s u
owns_wider {s = s} into labelled more x = record {
  memory = λ b not_made not_put. x.memory b not_made (λ put. not_put (⊎_elim (λ h. inl (into b h)) (λ own. inr (own.0, labelled (s.label b) own.1)) put));
  made = λ b made. let is = x.made b made in (is.0, is.1, more _ is.2, is.3, is.4, is.5);
  others = x.others;
  apart = x.apart;
  waits = x.waits;
  no_wait = x.no_wait;
  clearing = x.clearing;
  goes_on = x.goes_on;
  dirty = λ b h. ⊎_elim (λ old. inl old) (λ new. inr (⊎_elim (λ made. inl made) (λ other. inr (⊎_elim (λ put. inl (⊎_elim (λ is. inl (into b is)) (λ own. inr (own.0, more _ own.1)) put)) (λ block. inr block) other)) new)) (x.dirty b h);
  moments = x.moments;
  left = x.left;
  pins = x.pins;
  room = x.room;
  usable = x.usable;
  numbers = x.numbers;
}

module _ {s m u : State} {here : ℕ → Type 0} {labels : Label → Type 0} {tags : ℕ → Type 0} (all : KeepsAll s m) (more : KeepsAll m u) (x : Owns here labels tags s m) (y : Owns (λ b. here b ⊎ Made s m b) labels tags m u) where
  -- a block that was given out first stays
  first_live : (b : ℕ) → Made s m b → Made m u b → ⊥
  first_live b first second = second.0 first.1

  pub made_first : (b : ℕ) → Made s m b → Made s u b
  made_first b made = (made.0, ap (λ (z : Label). z.state) (y.others b (first_live b made)).label ∙ made.1)

  pub made_second : (b : ℕ) → Made m u b → Made s u b
  made_second b made = (λ live. made.0 (ap (λ (z : Label). z.state) (x.others b (λ first. first.0 live)).label ∙ live), made.1)

  not_first : (b : ℕ) → (Made s u b → ⊥) → Made s m b → ⊥
  not_first b none made = none (made_first b made)

  not_second : (b : ℕ) → (Made s u b → ⊥) → Made m u b → ⊥
  not_second b none made = none (made_second b made)

  put_back : (P : Label → Type 0) (b : ℕ) → (Made s m b → ⊥) → MayPutInto (λ c. here c ⊎ Made s m c) P m b → MayPutInto here P s b
  put_back P b none put = let same = (x.others b none).label in ⊎_elim
      (λ one. ⊎_elim (λ is. inl is) (λ made. absurd (none made)) one)
      (λ own. inr (ap (λ (z : Label). z.epoch) (sym same) ∙ own.0 ∙ all.same_high, subst P same own.1))
      put

  cases_made : (b : ℕ) → Made s u b → Made s m b ⊎ ((Made s m b → ⊥) × Made m u b)
  cases_made b made = ⊎_elim
      (λ live. inl (made.0, live))
      (λ none. inr (λ first. none first.1, (none, made.1)))
      (cases_live (m.label b).state)

  pub owns_joins : Owns here labels tags s u
  owns_joins = record {
    memory = λ b none not_put. content_joins (y.memory b (not_second b none) (λ put. not_put (put_back labels b (not_first b none) put))) (x.memory b (not_first b none) not_put);
    made = λ b made. ⊎_elim
        (λ first. let is = x.made b first in let stays = y.others b (first_live b first) in (
          is.0,
          ap (λ (z : Label). z.epoch) stays.label ∙ is.1,
          subst tags (ap (λ (z : Label). z.tag) (sym stays.label)) is.2,
          (more.same_blocks b).1 is.3,
          stays.marks.0 is.4,
          stays.marks.2 is.5,
        ))
        (λ second. let is = y.made b second.1 in (is.0, is.1 ∙ all.same_high, is.2, is.3, is.4, is.5))
        (cases_made b made);
    others = λ b none. let first = x.others b (not_first b none) in let second = y.others b (not_second b none) in record {
      label = second.label ∙ first.label;
      marks = (λ h. second.marks.0 (first.marks.0 h), λ h. second.marks.1 (first.marks.1 h), λ h. second.marks.2 (first.marks.2 h));
    };
    apart = λ b none h. x.apart b (not_first b none) (y.apart b (not_second b none) h);
    waits = λ a on n first second h. y.waits a on n (not_second a first) (not_second on second) (x.waits a on n (not_first a first) (not_first on second) h);
    no_wait = record { each = λ a on n none h. x.no_wait.each a on n none (y.no_wait.each a on n none h) };
    clearing = λ b n h. let second = y.clearing b n h in let first = x.clearing b n second.1 in (λ made. ⊎_elim first.0 (λ z. second.0 z.1) (cases_made b made), first.1);
    goes_on = λ b n none h. y.goes_on b n (not_second b none) (x.goes_on b n (not_first b none) h);
    dirty = λ b h. ⊎_elim
        (λ was. ⊎_elim
        (λ old. inl old)
        (λ new. inr (⊎_elim (λ made. inl (made_first b made)) (λ other. inr (⊎_elim (λ put. inl put) (λ block. inr (block.0, made_first block.0 block.1, block.2)) other)) new))
        (x.dirty b was))
        (λ new. inr (⊎_elim
        (λ made. inl (made_second b made))
        (λ other. ⊎_elim
        (λ put. put_cases b put)
        (λ block. inr (inr (block.0, made_second block.0 block.1, block.2 ∙ all.same_label_blocks block.0)))
        other)
        new))
        (y.dirty b h);
    moments = y.moments ∙ x.moments;
    left = λ n image h. x.left n image (y.left n image h);
    pins = y.pins ∙ x.pins;
    room = y.room ∙ x.room;
    usable = let first = x.usable in let second = y.usable in omega (arith, first, second);
    numbers = record { next = y.numbers.next ∙ x.numbers.next; grants = λ h. y.numbers.grants (x.numbers.grants h) };
  }
    where
      put_cases : (b : ℕ) → MayPutInto (λ c. here c ⊎ Made s m c) (λ l. tags l.tag) m b → Made s u b ⊎ (MayPutInto here (λ l. tags l.tag) s b ⊎ ((z : ℕ) × Made s u z × (b ≡ s.label_block z)))
      put_cases b put = ⊎_elim
          (λ live. inr (inl (put_back (λ l. tags l.tag) b (λ made. made.0 live) put)))
          (λ dead. ⊎_elim
          (λ live. inl (made_first b (dead, live)))
          (λ none. inr (inl (put_back (λ l. tags l.tag) b (λ made. none made.1) put)))
          (cases_live (m.label b).state))
          (cases_live (s.label b).state)
