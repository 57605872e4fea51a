-- One level after others.
use Rattle.std.proofs.Common.{◌≡◌, ◌≢◌, ◌⊎◌, ℕ, inl, inr, ⊎_elim, refl, sym, ◌∙◌, ap, subst, arith}
use Rattle.std.proofs.lemmas.Bool.{cases_eq}
use Rattle.fo_image.specs.declared.types.Label.{Label}
use Rattle.fo_image.specs.declared.types.Pointer.TheVariants.{Local}
use Rattle.fo_crash.specs.Images.{Image, Content, SameContent, Reaches, to_block}
use Rattle.fo_crash.proofs.Reach.{reach_aside}
use Rattle.fo_ports.specs.State.{State, KeepsAll, none}
use Rattle.fo_ports.specs.Sources.{Made, IsMade, Stead, Changes}
use Rattle.fo_tree_read.proofs.of_looks.Free.{free_before}
use Rattle.fo_tree_read.specs.declared.tree.Tree.{Tree}
use Rattle.fo_tree_look.specs.Source.{HasBlock}
use Rattle.fo_tree_down.proofs.Join.{local_cases}
use Rattle.fo_tree_raise.specs.Raise.{Raises}
use Rattle.fo_tree_raise.specs.Levels.{IsAmong, Adds}

same_joins : {a b c : Content} → SameContent a b → SameContent b c → SameContent a c
same_joins p q = record { bytes = p.bytes ∙ q.bytes; slots = λ i. p.slots i ∙ q.slots i }

pub adds_nothing : {tag : ℕ} {mine : ℕ → Type 0} (s : State) → Adds tag mine s s
adds_nothing s = record {
  same = λ b not. record { bytes = refl; slots = λ j. refl };
  images = λ image is. record { other = image; was = is; same = λ b not. record { bytes = refl; slots = λ j. refl }; apart = λ top b is_top made r. made.0 made.1 };
  made = λ b made. absurd (made.0 made.1);
  uncovered = λ b made h. made.0 made.1;
  labels = λ b not. refl;
  marks = λ b not. (λ h. h, λ h. h, λ h. h);
  apart = λ b not. (λ h. h, λ h. inl h);
  places = λ told b p not free r stands. stands;
  rooted = λ told b not r. r;
  instead = λ b x h. inl (λ made. made.0 made.1, h);
  still = λ b h. h;
  only = λ b no h. no h;
  reached = λ told b. (λ r. r, λ r. r);
  hung = λ told b h. h;
  waits = λ a on j not_a not_on w. w;
  no_wait = record { each = λ a on j h w. w };
  clearing = λ b j h. (λ made. made.0 made.1, h);
  goes_on = λ b j not h. h;
  dirty = λ b d. inl d;
  moments = refl;
  left = λ k image h. h;
  pins = refl;
  usable = refl;
  room = refl;
  numbers = record { next = refl; grants = λ h. h };
}

-- A level was added after others: the top over which it was raised is the source's, or was given out since and is put nowhere yet.
pub record AddsMore (t : Tree) (mine : ℕ → Type 0) (top : ℕ) (s m u : State) : Type 0 where
  pub first : Adds t.tag mine s m
  pub step : Raises t top m u
  pub all : KeepsAll s m
  pub more : KeepsAll m u
  pub over : (b : ℕ) → t.top ≡ Local b → (mine b × (Made s m b → ⊥)) ⊎ (Made s m b × m.apart b)
  pub covers_told : (b : ℕ) → u.covered b → u.tells

module _ {t : Tree} {mine : ℕ → Type 0} {top : ℕ} {s m u : State} (x : AddsMore t mine top s m u) where
  ne_made : (b : ℕ) → Made s m b → b ≢ top
  ne_made b made e = x.step.made.0 (ap (λ y. (m.label y).state) (sym e) ∙ made.1)

  pub made_on : (b : ℕ) → Made s m b → Made s u b
  made_on b made = (made.0, ap (λ (l : Label). l.state) (x.step.labels b (ne_made b made)) ∙ made.1)

  top_new : Made s m top → ⊥
  top_new made = ne_made top made refl

  pub made_top : Made s u top
  made_top = (λ live. x.step.made.0 (ap (λ (l : Label). l.state) (x.first.labels top top_new) ∙ live), x.step.made.1)

  pub made_back : (b : ℕ) → Made s u b → Made s m b ⊎ (b ≡ top)
  made_back b made = ⊎_elim (λ e. inr e) (λ ne. inl (made.0, ap (λ (l : Label). l.state) (sym (x.step.labels b ne)) ∙ made.1)) (cases_eq b top)

  not_mid : (b : ℕ) → (Made s u b → ⊥) → Made s m b → ⊥
  not_mid b not made = not (made_on b made)

  not_top : (b : ℕ) → (Made s u b → ⊥) → b ≢ top
  not_top b not e = not (subst (λ y. Made s u y) (sym e) made_top)

  images_end : (image : Image) → u.may_leave image → IsAmong s u image
  images_end image is =
      let e = x.step.images image is in
      let f = x.first.images e.beside.other e.beside.was in
      record {
        other = f.other;
        was = f.was;
        same = λ b not. same_joins (e.beside.same b (not_top b not)) (f.same b (not_mid b not));
        apart = λ t' b is_top made r. ⊎_elim
            (λ mid. f.apart t' b is_top mid r)
            (λ own. e.apart t' ((x.all.same_tops t').1 is_top)
            (reach_aside f.other e.beside.other (λ y. Made s m y) t' (λ y j not. sym ((f.same y not).slots j)) (λ y mid far. f.apart t' y is_top mid far) top (subst (λ y. Reaches f.other (to_block t') y) own r)))
            (made_back b made);
      }

  made_end : (b : ℕ) → Made s u b → IsMade t.tag s u b
  made_end b made = ⊎_elim
      (λ mid.
      let is = x.first.made b mid in
      let ne = ne_made b mid in
      let marks = x.step.marks b ne in
      record {
        free = is.free;
        was = is.was;
        labelled = (ap (λ (l : Label). l.epoch) (x.step.labels b ne) ∙ is.labelled.0, ap (λ (l : Label). l.tag) (x.step.labels b ne) ∙ is.labelled.1);
        is_one = (x.more.same_blocks b).1 is.is_one;
        is_pinned = marks.0 is.is_pinned;
        is_fresh = marks.2 is.is_fresh;
      })
      (λ own. subst (λ y. IsMade t.tag s u y) (sym own) top_made)
      (made_back b made)
    where
      top_made : IsMade t.tag s u top
      top_made = record {
        free = free_before x.all top (x.first.labels top top_new) x.step.free;
        was = (x.step.was.0, λ told is. (x.step.was.1 (x.all.still_tells.1 told)).0 ((x.all.same_tops top).1 is));
        labelled = (x.step.own.current ∙ x.more.same_high ∙ x.all.same_high, x.step.own.tagged);
        is_one = x.step.is.0;
        is_pinned = x.step.own.is_pinned;
        is_fresh = x.step.is.1;
      }

  apart_end : (b : ℕ) → (Made s u b → ⊥) → (u.apart b → s.apart b) × (s.apart b → u.apart b ⊎ mine b)
  apart_end b not =
      let first = x.first.apart b (not_mid b not) in (
        λ h. first.0 (⊎_elim
            (λ e. absurd ((x.step.put b e).0 h))
            (λ no. (x.step.apart b (not_top b not) no).0 h)
            (local_cases t.top b)),
        λ h. ⊎_elim
            (λ mid. ⊎_elim
            (λ e. ⊎_elim (λ own. inr own.0) (λ made. absurd (not_mid b not made.0)) (x.over b e))
            (λ no. inl ((x.step.apart b (not_top b not) no).1 mid))
            (local_cases t.top b))
            (λ own. inr own)
            (first.1 h),
      )

  instead_end : (b y : ℕ) → u.instead b y → ((Made s u b → ⊥) × s.instead b y) ⊎ (Made s u b × Stead s mine y)
  instead_end b y h = ⊎_elim
      (λ own. inr (subst (λ z. Made s u z) (sym own) made_top, of_top (subst (λ z. u.instead z y) own h)))
      (λ ne. ⊎_elim
      (λ old. inl (λ made. ⊎_elim old.0 ne (made_back b made), old.1))
      (λ new. inr (made_on b new.0, new.1))
      (x.first.instead b y (x.step.instead b y ne h)))
      (cases_eq b top)
    where
      over_old : (c : ℕ) → (mine c × (Made s m c → ⊥)) ⊎ (Made s m c × m.apart c) → (c ≡ y) → (m.apart c → ⊥) → Stead s mine y
      over_old c (inl own) e not = inl (subst mine e own.0)
      over_old c (inr made) e not = absurd (not made.1)

      over_stead : (c : ℕ) → (mine c × (Made s m c → ⊥)) ⊎ (Made s m c × m.apart c) → ((Made s m c → ⊥) × s.instead c y) ⊎ (Made s m c × Stead s mine y) → Stead s mine y
      over_stead c is (inr new) = new.1
      over_stead c (inl own) (inl old) = inr (c, own.0, old.1)
      over_stead c (inr made) (inl old) = absurd (old.0 made.0)

      of_top : u.instead top y → Stead s mine y
      of_top h =
          let r = x.step.raises y h in
          ⊎_elim
          (λ here. over_old r.0 (x.over r.0 r.1) here.0 here.1)
          (λ was. over_stead r.0 (x.over r.0 r.1) (x.first.instead r.0 y was))
          r.2

  pub added : Adds t.tag mine s u
  added = record {
    same = λ b not. same_joins (x.step.same b (not_top b not)) (x.first.same b (not_mid b not));
    images = images_end;
    made = made_end;
    uncovered = λ b made h. ⊎_elim
        (λ mid. x.step.only b (x.first.uncovered b mid) h)
        (λ own. let here : u.covered top = subst (λ y. u.covered y) own h in (x.step.own.told (x.covers_told top here)).uncovered here)
        (made_back b made);
    labels = λ b not. x.step.labels b (not_top b not) ∙ x.first.labels b (not_mid b not);
    marks = λ b not.
        let p = x.first.marks b (not_mid b not) in
        let q = x.step.marks b (not_top b not) in
        (λ h. q.0 (p.0 h), λ h. q.1 (p.1 h), λ h. q.2 (p.2 h));
    apart = apart_end;
    places = λ told b p not free r stands. let mid = x.all.still_tells.1 told in x.step.places mid b p (not_top b not) free r
        (x.first.places told b p (not_mid b not) (λ h. free (x.step.still b h)) (x.step.rooted mid b (not_top b not) r) stands);
    rooted = λ told b not r. x.first.rooted told b (not_mid b not) (x.step.rooted (x.all.still_tells.1 told) b (not_top b not) r);
    instead = instead_end;
    still = λ b h. x.step.still b (x.first.still b h);
    only = λ b no h. x.step.only b (x.first.only b no) h;
    reached = λ told b.
        let p = x.first.reached told b in
        let q = x.step.reached (x.all.still_tells.1 told) b in
        (λ r. q.0 (p.0 r), λ r. p.1 (q.1 r));
    hung = λ told b h. x.step.hung (x.all.still_tells.1 told) b (x.first.hung told b h);
    waits = λ a on j not_a not_on w. x.step.waits a on j (not_top a not_a) (not_top on not_on) (x.first.waits a on j (not_mid a not_a) (not_mid on not_on) w);
    no_wait = record { each = λ a on j h w. x.first.no_wait.each a on j h (x.step.no_wait.each a on j h w) };
    clearing = λ b j h.
        let last = x.step.clearing b j h in
        let old = x.first.clearing b j last.1 in
        (λ made. ⊎_elim old.0 last.0 (made_back b made), old.1);
    goes_on = λ b j not h. x.step.goes_on b j (not_top b not) (x.first.goes_on b j (not_mid b not) h);
    dirty = λ b d. ⊎_elim
        (λ mid. ⊎_elim
        (λ old. inl old)
        (λ h. inr (⊎_elim (λ made. inl (made_on b made)) (λ label. inr (label.0, made_on label.0 label.1, label.2 ∙ sym (x.more.same_label_blocks label.0))) h))
        (x.first.dirty b mid))
        (λ h. inr (⊎_elim (λ e. inl (subst (λ y. Made s u y) (sym e) made_top)) (λ e. inr (top, made_top, e)) h))
        (x.step.dirty b d);
    moments = x.step.moments ∙ x.first.moments;
    left = λ k image h. x.first.left k image (x.step.left k image h);
    pins = x.step.pins ∙ x.first.pins;
    usable = let first = x.first.usable in let last = x.step.usable in let spent = x.step.spare in omega (arith, first, last, spent);
    room = x.step.room ∙ x.first.room;
    numbers = record { next = x.step.numbers.next ∙ x.first.numbers.next; grants = λ h. x.step.numbers.grants (x.first.numbers.grants h) };
  }

-- what a source changes to which levels are added
pub adds_changes : {t : Tree} {s u : State} → Adds t.tag (λ b. t.top ≡ Local b) s u → Changes t.tag (HasBlock s t) none s u
adds_changes {t = t} {s = s} {u = u} x = record {
  memory = λ b not. x.same b (λ made. not (inl made));
  images = λ image is. let d = x.images image is in record {
    other = d.other;
    was = d.was;
    same = λ b not. d.same b (λ made. not (inl made));
    slots = λ b j not. inl ((d.same b not).slots j);
    apart = d.apart;
  };
  made = x.made;
  others = λ b not. record {
    label = x.labels b not;
    marks = x.marks b not;
  };
  apart = λ b not. let was = x.apart b not in (was.0, λ h. ⊎_elim (λ still. inl still) (λ mine. inr (top_has b mine)) (was.1 h));
  places = λ told b p not other open_ r stands. x.places told b p not open_ r stands;
  rooted = x.rooted;
  instead = λ b y h. ⊎_elim
      (λ old. inl old.1)
      (λ new. inr (new.0, ⊎_elim (λ mine. inl (top_has y mine)) (λ was. inr (was.0, top_has was.0 was.1, was.2)) new.1))
      (x.instead b y h);
  covers = λ b. (x.still b, λ no other h. x.only b no h);
  leaves = λ told b r gone. absurd (gone ((x.reached told b).0 r));
  in_tree = λ told b other r. (x.reached told b).0 r;
  waits = x.waits;
  no_wait = x.no_wait;
  clearing = x.clearing;
  goes_on = x.goes_on;
  dirty = λ b d. ⊎_elim (λ old. inl old) (λ h. inr (⊎_elim (λ made. inl (inl made)) (λ label. inr label) h)) (x.dirty b d);
  moments = x.moments;
  left = x.left;
  pins = x.pins;
  usable = x.usable;
  numbers = x.numbers;
}
  where
    top_has : (y : ℕ) → t.top ≡ Local y → HasBlock s t y
    top_has y e = record { down = 0; index = 0; within = omega arith; is = e }
