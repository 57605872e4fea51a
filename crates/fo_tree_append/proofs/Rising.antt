-- The end of a source was zeroed, and levels were put above its top then.
use Rattle.std.proofs.Common.{◌≡◌, ◌⊎◌, ◌<◌, ℕ, inl, inr, ⊎_elim, sym, ◌∙◌, ap, subst, arith, true}
use Rattle.std.proofs.lemmas.Bool.{cases_lt}
use Rattle.fo_image.specs.declared.types.Label.{Label}
use Rattle.fo_image.specs.declared.types.Pointer.TheVariants.{Local}
use Rattle.fo_crash.specs.declared.place.Place.{Place}
use Rattle.fo_crash.specs.declared.slot.Slot.{Slot}
use Rattle.fo_crash.specs.Images.{Content, Image, SameContent, target}
use Rattle.fo_crash.specs.Places.{IsPlaced, RanksFall}
use Rattle.fo_crash.proofs.Places.{stands_below}
use Rattle.fo_ports.specs.State.{State, KeepsAll}
use Rattle.fo_ports.specs.Sources.{Made, Touched, IsMade, StaysMarked, Stead}
use Rattle.fo_image.specs.Usable.{is_usable}
use Rattle.fo_tree_read.proofs.of_looks.Free.{Standing, free_before, free_stands}
use Rattle.fo_tree_read.specs.declared.tree.Tree.{Tree}
use Rattle.fo_tree_look.specs.Source.{HasBlock}
use Rattle.fo_tree_clear.specs.of_tree_down.Way.{IsLed, IsTopOf}
use Rattle.fo_tree_lift.specs.of_tree_raise.Levels.{Adds}
use Rattle.fo_tree_lift.specs.Lift.{InSteadOf}
use Rattle.fo_tree_clear.specs.Steps.{Behind, Steps}
use Rattle.fo_tree_clear.proofs.Stepping.{cases_made}
use Rattle.fo_tree_append.specs.Rises.{Rises}

local_eq : {a b : ℕ} → Local a ≡ Local b → a ≡ b
local_eq e = cc

content_joins : {a b c : Content} → SameContent a b → SameContent b c → SameContent a c
content_joins p q = record { bytes = p.bytes ∙ q.bytes; slots = λ i. p.slots i ∙ q.slots i }

-- more blocks may be the source's
pub steps_wider : {tag : ℕ} {mine more inner outer : ℕ → Type 0} {s u : State} → ((b : ℕ) → mine b → more b) → ((b : ℕ) → inner b → outer b) → Steps tag mine inner s u → Steps tag more outer s u
steps_wider m n x = record {
  memory = λ b not. x.memory b (λ t. not (⊎_elim (λ made. inl made) (λ own. inr (n b own.0, own.1, own.2)) t));
  slots = x.slots;
  images = λ image is. let e = x.images image is in record {
    other = e.other;
    was = e.was;
    same = λ b not. e.same b (λ t. not (⊎_elim (λ made. inl made) (λ own. inr (n b own.0, own.1, own.2)) t));
    slots = e.slots;
    apart = e.apart;
  };
  made = x.made;
  free = x.free;
  others = x.others;
  apart = x.apart;
  places = λ told b p not other free r stands. x.places told b p not (λ own. other (m b own)) free r stands;
  rooted = x.rooted;
  instead = λ b y h. ⊎_elim (λ old. inl old) (λ new. inr (new.0, m y new.1, new.2)) (x.instead b y h);
  still = x.still;
  only = λ b no other h. x.only b no (λ own. other (m b own)) h;
  aged = x.aged;
  leaves = x.leaves;
  in_tree = λ told b other r. x.in_tree told b (λ own. other (m b own)) r;
  current = x.current;
  waits = x.waits;
  no_wait = x.no_wait;
  clearing = x.clearing;
  goes_on = x.goes_on;
  dirty = λ b d. ⊎_elim (λ old. inl old) (λ h. inr (⊎_elim (λ t. inl (⊎_elim (λ made. inl made) (λ own. inr (m b own.0, own.1, own.2)) t)) (λ label. inr label) h)) (x.dirty b d);
  moments = x.moments;
  left = x.left;
  pins = x.pins;
  usable = x.usable;
  room = x.room;
  numbers = x.numbers;
  all = x.all;
}

-- The top over which the levels were put is that of before, or came in its place and is put nowhere yet.
abbrev pub IsTopSince : State → State → Tree → ℕ → Type 0
IsTopSince s m t c = (Made s m c × m.apart c × ((y : ℕ) → m.instead c y → t.top ≡ Local y)) ⊎ (t.top ≡ Local c)

pub top_since : {s m : State} {t : Tree} {top : ℕ} → IsTopOf s m t top → ((y : ℕ) → Made s m top → m.instead top y → t.top ≡ Local y) → (c : ℕ) → Local top ≡ Local c → IsTopSince s m t c
top_since {s = s} {m = m} {t = t} is stead c e =
    subst (λ (y : ℕ). IsTopSince s m t y) (local_eq e)
    (⊎_elim (λ made. inl (made, is.apart made, λ y h. stead y made h)) (λ was. inr was) is.from)

-- What is known of both, where the first call changed these blocks alone.
pub record OfThenAdds (s m u : State) (t mid : Tree) (inner : ℕ → Type 0) : Type 0 where
  pub first : Steps t.tag (HasBlock s t) inner s m
  pub second : Adds t.tag (λ b. mid.top ≡ Local b) m u
  pub stead : (b y : ℕ) → Made m u b → u.instead b y → InSteadOf m mid y
  pub from : (c : ℕ) → mid.top ≡ Local c → IsTopSince s m t c
  pub more : KeepsAll m u
  pub all : KeepsAll s u
  pub placed : (image : Image) → s.may_leave image → IsPlaced s.stands image
  pub ranked : (image : Image) → s.may_leave image → RanksFall s.stands image
  pub top_stands : (image : Image) → s.may_leave image → (up : ℕ) → s.tops up → (p : Place) × s.stands up p
  pub told : (image : Image) → s.may_leave image → s.tells
  pub standing : Standing s

-- it may have changed all of the source's
abbrev pub ThenAdds : State → State → State → Tree → Tree → Type 0
ThenAdds s m u t mid = OfThenAdds s m u t mid (HasBlock s t)

module _ {s m u : State} {t mid : Tree} {inner : ℕ → Type 0} (x : OfThenAdds s m u t mid inner) where
  made_first : (b : ℕ) → Made s m b → Made s u b
  made_first b made = (made.0, ap (λ (l : Label). l.state) (x.second.labels b (λ n. n.0 made.1)) ∙ made.1)

  made_second : (b : ℕ) → Made m u b → Made s u b
  made_second b made = (λ e. made.0 (ap (λ (l : Label). l.state) (x.first.others b (λ n. n.0 e)).label ∙ e), made.1)

  made_either : (b : ℕ) → Made s u b → Made s m b ⊎ Made m u b
  made_either b made = ⊎_elim
      (λ later. inr later)
      (λ not. inl (made.0, ap (λ (l : Label). l.state) (sym (x.second.labels b not)) ∙ made.1))
      (cases_made m u b)

  not_first : (b : ℕ) → (Made s u b → ⊥) → Made s m b → ⊥
  not_first b not made = not (made_first b made)

  not_second : (b : ℕ) → (Made s u b → ⊥) → Made m u b → ⊥
  not_second b not made = not (made_second b made)

  told_mid : s.tells → m.tells
  told_mid told = x.first.all.still_tells.1 told

  own : (b : ℕ) → t.top ≡ Local b → HasBlock s t b
  own b e = record { down = 0; index = 0; within = omega arith; is = e }

  -- a block that was there and is the top was so before
  has_top : (b : ℕ) → mid.top ≡ Local b → (Made s m b → ⊥) → HasBlock s t b
  has_top b e not = ⊎_elim (λ made. absurd (not made.0)) (λ was. own b was) (x.from b e)

  touched_first : (which : ℕ → Type 0) (b : ℕ) → Touched s m t.tag which b → Touched s u t.tag which b
  touched_first which b = ⊎_elim (λ made. inl (made_first b made)) (λ h. inr h)

  -- what was given out second was usable before the first
  free_first : (b : ℕ) → Made m u b → is_usable s.low (s.label b) ≡ true
  free_first b n = free_before x.first.all b (x.first.others b (λ made. n.0 made.1)).label (x.second.made b n).free

  unplaced : s.tells → (b : ℕ) → Made m u b → (p : Place) → s.stands b p → ⊥
  unplaced told b n p stands = free_stands s x.standing told b p (x.second.made b n).was.0 (free_first b n) stands

  led_on : (b j : ℕ) → (u.now b).slot j ≡ (m.now b).slot j → IsLed s m b j → IsLed s u b j
  led_on b j same led = record { to = led.to; leads = ap (λ (q : Slot). target q) same ∙ led.leads; made = made_first led.to led.made; older = led.older }

  image_end : (image : Image) → u.may_leave image → Behind (Touched s u t.tag inner) s u image
  image_end image is =
      let last = x.second.images image is in
      let before = x.first.images last.other last.was in
      record {
        other = before.other;
        was = before.was;
        same = λ b h. content_joins (last.same b (λ n. h (inl (made_second b n)))) (before.same b (λ t'. h (touched_first inner b t')));
        slots = λ b j not.
            let same = (last.same b (not_second b not)).slots j in
            let now = (x.second.same b (not_second b not)).slots j in
            ⊎_elim (λ e. inl (same ∙ e)) (λ led. inr (led_on b j now led.0, same ∙ led.1 ∙ sym now)) (before.slots b j (not_first b not));
        apart = λ up b is_top made r. ⊎_elim
            (λ old. before.apart up b is_top old r)
            (λ new.
            let p = x.top_stands before.other before.was up is_top in
            let q = stands_below p.0 (x.placed before.other before.was) (x.ranked before.other before.was) p.1 r in
            unplaced (x.told before.other before.was) b new q.0 q.1)
            (made_either b made);
      }

  made_end : (b : ℕ) → Made s u b → IsMade t.tag s u b
  made_end b made = ⊎_elim
      (λ old.
      let was = x.first.made b old in
      let not : Made m u b → ⊥ = λ n. n.0 old.1 in
      let label = x.second.labels b not in
      let marks = x.second.marks b not in
      record {
        free = was.free;
        was = was.was;
        labelled = (ap (λ (l : Label). l.epoch) label ∙ was.labelled.0, ap (λ (l : Label). l.tag) label ∙ was.labelled.1);
        is_one = (x.more.same_blocks b).1 was.is_one;
        is_pinned = marks.0 was.is_pinned;
        is_fresh = marks.2 was.is_fresh;
      })
      (λ n.
      let is = x.second.made b n in
      record {
        free = free_first b n;
        was = (is.was.0, λ told up. is.was.1 (told_mid told) ((x.first.all.same_tops b).1 up));
        labelled = (is.labelled.0 ∙ x.first.all.same_high, is.labelled.1);
        is_one = is.is_one;
        is_pinned = is.is_pinned;
        is_fresh = is.is_fresh;
      })
      (made_either b made)

  marked_end : (b : ℕ) → (Made s u b → ⊥) → StaysMarked s u b
  marked_end b not =
      let p = x.first.others b (not_first b not) in
      let q = x.second.marks b (not_second b not) in
      record {
        label = x.second.labels b (not_second b not) ∙ p.label;
        marks = (λ h. q.0 (p.marks.0 h), λ h. q.1 (p.marks.1 h), λ h. q.2 (p.marks.2 h));
      }

  instead_of : (y : ℕ) → InSteadOf m mid y → Stead s (HasBlock s t) y
  instead_of y of = ⊎_elim
      (λ made. ⊎_elim
      (λ itself. ⊎_elim
      (λ free. absurd (free made.1))
      (λ older. let now = (x.first.made of.0 made.0).labelled.0 in let high = x.first.all.same_high in absurd (omega (arith, older, now, high)))
      itself.1)
      (λ was. inl (own y (made.2 y was)))
      of.2)
      (λ e. ⊎_elim
      (λ itself. inl (own y (e ∙ ap (λ z. Local z) itself.0)))
      (λ was. ⊎_elim
      (λ old. inr (of.0, own of.0 e, old))
      (λ new. inl new.1)
      (x.first.instead of.0 y was))
      of.2)
      (x.from of.0 of.1)

  instead_end : (b y : ℕ) → u.instead b y → s.instead b y ⊎ (Made s u b × Stead s (HasBlock s t) y)
  instead_end b y h = ⊎_elim
      (λ old. ⊎_elim (λ was. inl was) (λ new. inr (made_first b new.0, inl new.1)) (x.first.instead b y old.1))
      (λ new. inr (made_second b new.0, instead_of y (x.stead b y new.0 h)))
      (x.second.instead b y h)

  dirty_end : (b : ℕ) → u.dirty b → s.dirty b ⊎ (Touched s u t.tag (HasBlock s t) b ⊎ ((y : ℕ) × Made s u y × (b ≡ u.label_block y)))
  dirty_end b d = ⊎_elim
      (λ old. ⊎_elim
      (λ was. inl was)
      (λ h. inr (⊎_elim
      (λ t'. inl (touched_first (HasBlock s t) b t'))
      (λ label. inr (label.0, made_first label.0 label.1, label.2 ∙ sym (x.more.same_label_blocks label.0)))
      h))
      (x.first.dirty b old))
      (λ h. inr (⊎_elim
      (λ made. inl (inl (made_second b made)))
      (λ label. inr (label.0, made_second label.0 label.1, label.2))
      h))
      (x.second.dirty b d)

  aged_end : (b : ℕ) → (s.covered b → ⊥) → u.covered b → (s.label b).epoch < s.high
  aged_end b free h = ⊎_elim
      (λ lt. lt)
      (λ ge. absurd (x.second.only b (λ k. let lt = x.first.aged b free k in omega (arith, lt, ge)) h))
      (cases_lt ((s.label b).epoch) s.high)

  pub rises : Rises t.tag (HasBlock s t) inner s u
  rises = record {
    memory = λ b h. content_joins (x.second.same b (λ n. h (inl (made_second b n)))) (x.first.memory b (λ t'. h (touched_first inner b t')));
    slots = λ b j not.
        let same = (x.second.same b (not_second b not)).slots j in
        ⊎_elim (λ e. inl (same ∙ e)) (λ led. inr (led_on b j same led)) (x.first.slots b j (not_first b not));
    images = image_end;
    made = made_end;
    free = λ told b made h. ⊎_elim
        (λ old. x.second.only b (x.first.free told b old) h)
        (λ new. x.second.uncovered b new h)
        (made_either b made);
    others = marked_end;
    apart = λ b not.
        let p = x.first.apart b (not_first b not) in
        let q = x.second.apart b (not_second b not) in
        (λ h. p.0 (q.0 h), λ h. ⊎_elim (λ still. inl still) (λ e. inr (has_top b e (not_first b not))) (q.1 (p.1 h)));
    places = λ told b p not other free r stands.
        x.second.places (told_mid told) b p (not_second b not) free r
        (x.first.places told b p (not_first b not) other (λ h. free (x.second.still b h)) (x.second.rooted (told_mid told) b (not_second b not) r) stands);
    rooted = λ told b not r. x.first.rooted told b (not_first b not) (x.second.rooted (told_mid told) b (not_second b not) r);
    instead = instead_end;
    still = λ b h. x.second.still b (x.first.still b h);
    only = λ b free other h. x.second.only b (x.first.only b free other) h;
    aged = aged_end;
    leaves = λ told b r away. x.second.still b (x.first.leaves told b r (λ q. away ((x.second.reached (told_mid told) b).0 q)));
    in_tree = λ told b other r. (x.second.reached (told_mid told) b).0 (x.first.in_tree told b other r);
    current = λ told b now r. (x.second.reached (told_mid told) b).0 (x.first.current told b now r);
    waits = λ a on j not_a not_on w. x.second.waits a on j (not_second a not_a) (not_second on not_on) (x.first.waits a on j (not_first a not_a) (not_first on not_on) w);
    no_wait = record { each = λ a on j h w. x.first.no_wait.each a on j h (x.second.no_wait.each a on j h w) };
    clearing = λ b j h.
        let last = x.second.clearing b j h in
        let old = x.first.clearing b j last.1 in
        (λ made. ⊎_elim old.0 last.0 (made_either b made), old.1);
    goes_on = λ b j not h. x.second.goes_on b j (not_second b not) (x.first.goes_on b j (not_first b not) h);
    dirty = dirty_end;
    moments = x.second.moments ∙ x.first.moments;
    left = λ k image h. x.first.left k image (x.second.left k image h);
    pins = x.second.pins ∙ x.first.pins;
    usable = let first = x.first.usable in let last = x.second.usable in omega (arith, first, last);
    room = x.second.room ∙ x.first.room;
    numbers = record { next = x.second.numbers.next ∙ x.first.numbers.next; grants = λ h. x.second.numbers.grants (x.first.numbers.grants h) };
    all = x.all;
  }
