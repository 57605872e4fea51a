-- A way of blocks that were given out was made current, below levels that were put above a source.
use Rattle.std.proofs.Common.{◌≡◌, ◌≢◌, ◌⊎◌, ℕ, inl, inr, ⊎_elim, sym, ◌∙◌, ap, subst, arith}
use Rattle.std.proofs.lemmas.Bool.{cases_eq}
use Rattle.fo_image.specs.declared.types.Label.{Label}
use Rattle.fo_ports.specs.of_crash.Images.{Image, Reaches, to_block}
use Rattle.fo_ports.proofs.of_crash.Reach.{reach_aside}
use Rattle.fo_ports.specs.State.{State, KeepsAll, none}
use Rattle.fo_ports.specs.Sources.{Made, Touched, Undone, IsMade, StaysMarked, Changes}
use Rattle.fo_tree_read.proofs.of_looks.Free.{free_before}
use Rattle.fo_tree_read.specs.declared.tree.Tree.{Tree}
use Rattle.fo_tree_grow.specs.of_tree_down.Way.{Descends}
use Rattle.fo_tree_grow.specs.of_tree_raise.Levels.{Adds}
use Rattle.fo_tree_lift.proofs.Join.{live_cases}

-- Of the way there was one block alone, the new top.
pub record GoesBelow (t : Tree) (mine wider way : ℕ → Type 0) (level top : ℕ) (s m u : State) : Type 0 where
  pub first : Adds t.tag mine s m
  pub second : Descends t way level m u
  pub made : Made s m top
  pub only : (b : ℕ) → way b → b ≡ top
  pub within : (b : ℕ) → mine b → wider b
  pub all : KeepsAll s m
  pub more : KeepsAll m u

module _ {t : Tree} {mine wider way : ℕ → Type 0} {level top : ℕ} {s m u : State} (x : GoesBelow t mine wider way level top s m u) where
  pub made_first : (b : ℕ) → Made s m b → Made s u b
  made_first b made = (made.0, ap (λ (l : Label). l.state) (x.second.others b (λ n. n.0 made.1)).label ∙ made.1)

  pub made_second : (b : ℕ) → Made m u b → Made s u b
  made_second b made = (λ e. made.0 (ap (λ (l : Label). l.state) (x.first.labels b (λ n. n.0 e)) ∙ e), made.1)

  pub made_either : (b : ℕ) → Made s u b → Made s m b ⊎ Made m u b
  made_either b made = ⊎_elim (λ e. inl (made.0, e)) (λ n. inr (n, made.1)) (live_cases (m.label b).state)

  not_first : (b : ℕ) → (Made s u b → ⊥) → Made s m b → ⊥
  not_first b not made = not (made_first b made)

  not_second : (b : ℕ) → (Made s u b → ⊥) → Made m u b → ⊥
  not_second b not made = not (made_second b made)

  mid : s.tells → m.tells
  mid told = x.all.still_tells.1 told

  top_current : (m.label top).epoch ≡ m.high
  top_current = (x.first.made top x.made).labelled.0 ∙ sym x.all.same_high

  -- a block that was there is none of the way
  aside : (b : ℕ) → (Made s u b → ⊥) → way b → ⊥
  aside b not on = not (made_first b (subst (λ y. Made s m y) (sym (x.only b on)) x.made))

  away : (b : ℕ) → b ≢ top → way b → ⊥
  away b ne on = ne (x.only b on)

  slots_same : (b j : ℕ) → (Made s u b → ⊥) → (u.now b).slot j ≡ (m.now b).slot j
  slots_same b j not = ⊎_elim (λ e. e) (λ p. absurd (aside b not p.is_mine)) (x.second.slots b j (not_second b not))

  image_end : (image : Image) → u.may_leave image → Undone (Touched s u t.tag none) s u image
  image_end image is =
      let e = x.second.images image is in
      let f = x.first.images e.other e.was in
      let slots : (b j : ℕ) → (Made s u b → ⊥) → (image b).slot j ≡ (e.other b).slot j = λ b j not. ⊎_elim (λ same. same) (λ p. absurd (aside b not p.0.is_mine)) (e.slots b j (not_second b not)) in
      record {
        other = f.other;
        was = f.was;
        same = λ b h.
            let not : Made s u b → ⊥ = λ made. h (inl made) in
            let was = f.same b (not_first b not) in
            record { bytes = e.bytes b (not_second b not) ∙ was.bytes; slots = λ j. slots b j not ∙ was.slots j };
        slots = λ b j not. inl (slots b j not ∙ (f.same b (not_first b not)).slots j);
        apart = λ up b is_top made r. ⊎_elim
            (λ old. f.apart up b is_top old r)
            (λ new. e.apart up b ((x.all.same_tops up).1 is_top) new
            (reach_aside f.other e.other (λ y. Made s m y) up (λ y j no. sym ((f.same y no).slots j)) (λ y old far. f.apart up y is_top old far) b r))
            (made_either b made);
      }

  made_end : (b : ℕ) → Made s u b → IsMade t.tag s u b
  made_end b made = ⊎_elim
      (λ old.
      let is = x.first.made b old in
      let stays = x.second.others b (λ n. n.0 old.1) in
      record {
        free = is.free;
        was = is.was;
        labelled = (ap (λ (l : Label). l.epoch) stays.label ∙ is.labelled.0, ap (λ (l : Label). l.tag) stays.label ∙ is.labelled.1);
        is_one = (x.more.same_blocks b).1 is.is_one;
        is_pinned = stays.marks.0 is.is_pinned;
        is_fresh = stays.marks.2 is.is_fresh;
      })
      (λ new.
      let is = x.second.made b new in
      record {
        free = free_before x.all b (x.first.labels b (λ old. new.0 old.1)) is.free;
        was = (is.was.0, λ told up. is.was.1 (mid told) ((x.all.same_tops b).1 up));
        labelled = (is.labelled.0 ∙ x.all.same_high, is.labelled.1);
        is_one = is.is_one;
        is_pinned = is.is_pinned;
        is_fresh = is.is_fresh;
      })
      (made_either b made)

  others_end : (b : ℕ) → (Made s u b → ⊥) → StaysMarked s u b
  others_end b not =
      let p = x.first.marks b (not_first b not) in
      let q = x.second.others b (not_second b not) in
      record {
        label = q.label ∙ x.first.labels b (not_first b not);
        marks = (λ h. q.marks.0 (p.0 h), λ h. q.marks.1 (p.1 h), λ h. q.marks.2 (p.2 h));
      }

  pub only_end : (b : ℕ) → (s.covered b → ⊥) → u.covered b → ⊥
  only_end b not h =
      let free = x.first.only b not in
      let older = x.second.aged b free h in
      x.second.only b free (λ on. let now : (m.label b).epoch ≡ m.high = subst (λ y. (m.label y).epoch ≡ m.high) (sym (x.only b on)) top_current in omega (arith, now, older)) h

  pub in_tree_end : s.tells → (b : ℕ) → Reaches s.now (to_block 1) b → Reaches u.now (to_block 1) b
  in_tree_end told b r =
      let far = (x.first.reached told b).0 r in
      ⊎_elim
      (λ e. x.second.current (mid told) b (subst (λ y. (m.label y).epoch ≡ m.high) (sym e) top_current) far)
      (λ ne. x.second.in_tree (mid told) b (away b ne) far)
      (cases_eq b top)

  -- nothing comes in the place of the new top
  pub instead_above : (b y : ℕ) → u.instead b y → m.instead b y
  instead_above b y h = ⊎_elim
      (λ was. was)
      (λ new. ⊎_elim
      (λ was. was)
      (λ older. let now : (m.label y).epoch ≡ m.high = subst (λ z. (m.label z).epoch ≡ m.high) (sym (x.only y new.1)) top_current in absurd (omega (arith, now, older)))
      (x.second.older b y h))
      (x.second.instead b y h)

  pub changes_above : Changes t.tag wider none s u
  changes_above = record {
    memory = λ b h.
        let not : Made s u b → ⊥ = λ made. h (inl made) in
        let was = x.first.same b (not_first b not) in
        record { bytes = x.second.bytes b (not_second b not) ∙ was.bytes; slots = λ j. slots_same b j not ∙ was.slots j };
    images = image_end;
    made = made_end;
    others = others_end;
    apart = λ b not.
        let p = x.first.apart b (not_first b not) in
        let q = x.second.apart b (not_second b not) in
        (λ h. p.0 (q.0 h), λ h. ⊎_elim (λ still. inl (q.1 still)) (λ own. inr (x.within b own)) (p.1 h));
    places = λ told b p not other free r stands. x.second.places (mid told) b p (not_second b not) (aside b not) free r (x.first.places told b p (not_first b not) (λ h. free (x.second.still b h)) (x.second.rooted (mid told) b (not_second b not) r) stands);
    rooted = λ told b not r. x.first.rooted told b (not_first b not) (x.second.rooted (mid told) b (not_second b not) r);
    instead = λ b y h. old_instead b y (instead_above b y h);
    covers = λ b. (λ h. x.second.still b (x.first.still b h), λ no other h. only_end b no h);
    leaves = λ told b r gone. absurd (gone (in_tree_end told b r));
    in_tree = λ told b other r. in_tree_end told b r;
    waits = λ a on j not_a not_on w. x.second.waits a on j (not_second a not_a) (not_second on not_on) (x.first.waits a on j (not_first a not_a) (not_first on not_on) w);
    no_wait = record { each = λ a on j h w. x.first.no_wait.each a on j h (x.second.no_wait.each a on j h w) };
    clearing = λ b j h.
        let last = x.second.clearing b j h in
        let old = x.first.clearing b j last.1 in
        (λ made. ⊎_elim old.0 last.0 (made_either b made), old.1);
    goes_on = λ b j not h. x.second.goes_on b j (not_second b not) (x.first.goes_on b j (not_first b not) h);
    dirty = dirty_end;
    moments = x.second.moments ∙ x.first.moments;
    left = λ k image h. x.first.left k image (x.second.left k image h);
    pins = x.second.pins ∙ x.first.pins;
    usable = let first = x.first.usable in let last = x.second.usable in omega (arith, first, last);
    numbers = record { next = x.second.numbers.next ∙ x.first.numbers.next; grants = λ h. x.second.numbers.grants (x.first.numbers.grants h) };
  }
    where
      old_instead : (b y : ℕ) → m.instead b y → s.instead b y ⊎ (Made s u b × (wider y ⊎ ((z : ℕ) × wider z × s.instead z y)))
      old_instead b y h = ⊎_elim
          (λ old. inl old.1)
          (λ new. inr (made_first b new.0, ⊎_elim (λ own. inl (x.within y own)) (λ was. inr (was.0, x.within was.0 was.1, was.2)) new.1))
          (x.first.instead b y h)

      dirty_end : (b : ℕ) → u.dirty b → s.dirty b ⊎ (Touched s u t.tag wider b ⊎ ((y : ℕ) × Made s u y × (b ≡ u.label_block y)))
      dirty_end b d = ⊎_elim
          (λ old. ⊎_elim
          (λ was. inl was)
          (λ h. inr (⊎_elim (λ made. inl (inl (made_first b made))) (λ label. inr (label.0, made_first label.0 label.1, label.2 ∙ sym (x.more.same_label_blocks label.0))) h))
          (x.first.dirty b old))
          (λ h. inr (⊎_elim
          (λ touched. inl (inl (⊎_elim (λ made. made_second b made) (λ on. made_first b (subst (λ y. Made s m y) (sym (x.only b on.0)) x.made)) touched)))
          (λ label. inr (label.0, made_second label.0 label.1, label.2))
          h))
          (x.second.dirty b d)
