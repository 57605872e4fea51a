-- Calls on a source, one after another.
use Rattle.std.proofs.Common.{◌≡◌, ◌≢◌, ◌⊎◌, ◌↔◌, ◌<◌, ◌≤◌, ℕ, true, inl, inr, ⊎_elim, sym, refl, ap, ◌∙◌, arith}
use Rattle.std.proofs.lemmas.Bool.{cases_lt}
use Rattle.fo_image.specs.declared.types.Label.{Label}
use Rattle.fo_image.specs.declared.types.State.{State as BlockState}
use Rattle.fo_image.specs.declared.types.State.TheVariants.{Free, Live, Closed}
use Rattle.fo_ports.specs.of_crash.declared.place.Place.{Place}
use Rattle.fo_ports.specs.of_crash.declared.slot.Slot.{Slot}
use Rattle.fo_ports.specs.of_crash.Images.{Content, Image, SameContent, Reaches, target, to_block}
use Rattle.fo_ports.specs.of_crash.Places.{IsPlaced, RanksFall}
use Rattle.fo_ports.proofs.of_crash.Places.{stands_below}
use Rattle.fo_ports.specs.State.{State, IsRooted, KeepsAll}
use Rattle.fo_ports.specs.Sources.{Made, Touched, IsMade, StaysMarked, Changes}
use Rattle.fo_image.specs.Usable.{is_usable}
use Rattle.fo_tree_leaf.proofs.of_looks.Free.{Standing, free_before, free_stands}
use Rattle.fo_tree_leaf.specs.of_tree_down.Way.{IsLed}
use Rattle.fo_tree_clear.specs.Steps.{Behind, Steps}

live_cases : (s : BlockState) → (s ≡ Live) ⊎ (s ≢ Live)
live_cases Live = inl refl
live_cases Free = inr (λ e. cc)
live_cases Closed = inr (λ e. cc)

pub cases_made : (old new : State) (at : ℕ) → Made old new at ⊎ (Made old new at → ⊥)
cases_made old new at = ⊎_elim (λ was. inr (λ m. m.0 was)) (λ no. ⊎_elim (λ is. inl (no, is)) (λ not. inr (λ m. not m.1)) (live_cases (new.label at).state)) (live_cases (old.label at).state)

content_joins : {a b c : Content} → SameContent a b → SameContent b c → SameContent a c
content_joins p q = record { bytes = p.bytes ∙ q.bytes; slots = λ i. p.slots i ∙ q.slots i }

-- what a call changes, by the trait
pub steps_changes : {tag : ℕ} {mine inner : ℕ → Type 0} {old new : State} → Steps tag mine inner old new → Changes tag mine inner old new
steps_changes x = record {
  memory = x.memory;
  images = λ image is. let e = x.images image is in record {
    other = e.other;
    was = e.was;
    same = e.same;
    slots = λ b j not. ⊎_elim (λ same. inl same) (λ led. inr led.1) (e.slots b j not);
    apart = e.apart;
  };
  made = x.made;
  others = x.others;
  apart = λ b not. let same = x.apart b not in (same.0, λ h. inl (same.1 h));
  places = x.places;
  rooted = x.rooted;
  instead = λ b y h. ⊎_elim (λ old. inl old) (λ new. inr (new.0, inl new.1)) (x.instead b y h);
  covers = λ b. (x.still b, x.only b);
  leaves = x.leaves;
  in_tree = x.in_tree;
  waits = x.waits;
  no_wait = x.no_wait;
  clearing = x.clearing;
  goes_on = x.goes_on;
  dirty = x.dirty;
  moments = x.moments;
  left = x.left;
  pins = x.pins;
  usable = x.usable;
  numbers = x.numbers;
}

-- nothing was done
pub steps_none : (tag : ℕ) (mine inner : ℕ → Type 0) (s : State) → KeepsAll s s → Steps tag mine inner s s
steps_none tag mine inner s all = record {
  memory = λ b not. record { bytes = refl; slots = λ j. refl };
  slots = λ b j not. inl refl;
  images = λ image is. record { other = image; was = is; same = λ b not. record { bytes = refl; slots = λ j. refl }; slots = λ b j not. inl refl; apart = λ t b top made r. made.0 made.1 };
  made = λ b made. absurd (made.0 made.1);
  free = λ told b made h. made.0 made.1;
  others = λ b not. record { label = refl; marks = (λ h. h, λ h. h, λ h. h) };
  apart = λ b not. (λ h. h, λ h. h);
  places = λ told b p not other free r stands. stands;
  rooted = λ told b not r. r;
  instead = λ b x h. inl h;
  still = λ b h. h;
  only = λ b no other h. no h;
  aged = λ b no h. absurd (no h);
  leaves = λ told b r away. absurd (away r);
  in_tree = λ told b other r. r;
  current = λ told b now r. r;
  waits = λ a on j not_a not_on w. w;
  no_wait = record { each = λ a on j h w. w };
  clearing = λ b j h. (λ made. made.0 made.1, h);
  goes_on = λ b j not h. h;
  dirty = λ b d. inl d;
  moments = refl;
  left = λ k image h. h;
  pins = refl;
  usable = refl;
  room = refl;
  numbers = record { next = refl; grants = λ h. h };
  all = all;
}

-- What is known of two calls, one after another: of the blocks that the second one looks at, which are so few that a block is one or isn't.
pub record Follows (tag : ℕ) (mine inner more outer : ℕ → Type 0) (a b c : State) : Type 0 where
  pub first : Steps tag mine inner a b
  pub second : Steps tag more outer b c
  pub all : KeepsAll a c
  pub of : (at : ℕ) → more at → mine at ⊎ Made a b at
  pub within : (at : ℕ) → outer at → inner at ⊎ Made a b at
  pub cases : (at : ℕ) → more at ⊎ (more at → ⊥)
  pub rooted : b.tells → (at : ℕ) → more at → (b.label at).epoch < b.high → Reaches b.now (to_block 1) at
  pub up_to : b.tells → (at : ℕ) → more at → (b.label at).epoch ≤ b.high
  pub placed : (image : Image) → a.may_leave image → IsPlaced a.stands image
  pub ranked : (image : Image) → a.may_leave image → RanksFall a.stands image
  pub top_stands : (image : Image) → a.may_leave image → (top : ℕ) → a.tops top → (p : Place) × a.stands top p
  pub told : (image : Image) → a.may_leave image → a.tells
  pub standing : Standing a

module _ {tag : ℕ} {mine inner more outer : ℕ → Type 0} {a b c : State} (x : Follows tag mine inner more outer a b c) where
  pub made_first : (at : ℕ) → Made a b at → Made a c at
  made_first at m = (m.0, ap (λ (l : Label). l.state) (x.second.others at (λ n. n.0 m.1)).label ∙ m.1)

  pub made_second : (at : ℕ) → Made b c at → Made a c at
  made_second at n = (λ e. n.0 (ap (λ (l : Label). l.state) (x.first.others at (λ m. m.0 e)).label ∙ e), n.1)

  pub made_either : (at : ℕ) → Made a c at → Made a b at ⊎ Made b c at
  made_either at m = ⊎_elim (λ e. inl (m.0, e)) (λ n. inr (n, m.1)) (live_cases (b.label at).state)

  mid_told : a.tells → b.tells
  mid_told told = x.first.all.still_tells.1 told

  -- what was given out first is current then
  made_current : (at : ℕ) → Made a b at → (b.label at).epoch ≡ b.high
  made_current at m = (x.first.made at m).labelled.0 ∙ sym x.first.all.same_high

  -- an older block was so before
  age : (at : ℕ) → (b.label at).epoch < b.high → (a.label at).epoch < a.high
  age at older = ⊎_elim
      (λ m. let now = made_current at m in absurd (omega (arith, older, now)))
      (λ no. let same : (b.label at).epoch ≡ (a.label at).epoch = ap (λ (l : Label). l.epoch) (x.first.others at no).label in let high = x.first.all.same_high in omega (arith, older, same, high))
      (cases_made a b at)

  touched : (here there : ℕ → Type 0) → ((at : ℕ) → there at → here at ⊎ Made a b at) → (at : ℕ) → Touched b c tag there at → Touched a c tag here at
  touched here there from at = ⊎_elim (λ n. inl (made_second at n))
      (λ h. ⊎_elim
      (λ m. inl (made_first at m))
      (λ no. let same = sym (x.first.others at no).label in ⊎_elim
      (λ own. inr (own, ap (λ (l : Label). l.epoch) same ∙ h.1 ∙ x.first.all.same_high, ap (λ (l : Label). l.tag) same ∙ h.2))
      (λ m. inl (made_first at m))
      (from at h.0))
      (cases_made a b at))

  touched_first : (here : ℕ → Type 0) (at : ℕ) → Touched a b tag here at → Touched a c tag here at
  touched_first here at = ⊎_elim (λ m. inl (made_first at m)) (λ h. inr h)

  -- ---- slots

  led_first : (at j : ℕ) → (c.now at).slot j ≡ (b.now at).slot j → IsLed a b at j → IsLed a c at j
  led_first at j same led = record { to = led.to; leads = ap (λ (q : Slot). target q) same ∙ led.leads; made = made_first led.to led.made; older = led.older }

  led_second : (at j : ℕ) → (b.now at).slot j ≡ (a.now at).slot j → IsLed b c at j → IsLed a c at j
  led_second at j same led = record { to = led.to; leads = led.leads; made = made_second led.to led.made; older = λ y e. age y (led.older y (ap (λ (q : Slot). target q) same ∙ e)) }

  -- a slot is put once
  led_once : (at j : ℕ) → IsLed a b at j → IsLed b c at j → ⊥
  led_once at j first second =
      let older = second.older first.to first.leads in
      let now = made_current first.to first.made in
      omega (arith, older, now)

  led_both : (at j : ℕ) → ((c.now at).slot j ≡ (b.now at).slot j) ⊎ IsLed b c at j → IsLed a b at j → ((c.now at).slot j ≡ (b.now at).slot j)
  led_both at j later first = ⊎_elim (λ same. same) (λ led. absurd (led_once at j first led)) later

  slots_end : (at j : ℕ) → (Made a c at → ⊥) → ((c.now at).slot j ≡ (a.now at).slot j) ⊎ IsLed a c at j
  slots_end at j not =
      let later = x.second.slots at j (λ n. not (made_second at n)) in
      ⊎_elim
      (λ same. ⊎_elim (λ e. inl (e ∙ same)) (λ led. inr (led_second at j same led)) later)
      (λ led. inr (led_first at j (led_both at j later led) led))
      (x.first.slots at j (λ m. not (made_first at m)))

  -- ---- what was given out

  free_end : a.tells → (at : ℕ) → Made a c at → c.covered at → ⊥
  free_end told at made h = ⊎_elim
      (λ m. let now = made_current at m in let older = x.second.aged at (x.first.free told at m) h in omega (arith, now, older))
      (λ n. x.second.free (mid_told told) at n h)
      (made_either at made)

  -- what was given out second was usable before the first
  free_first : (at : ℕ) → Made b c at → is_usable a.low (a.label at) ≡ true
  free_first at n = free_before x.first.all at (x.first.others at (λ m. n.0 m.1)).label (x.second.made at n).free

  unplaced : a.tells → (at : ℕ) → Made b c at → (p : Place) → a.stands at p → ⊥
  unplaced told at n p stands = free_stands a x.standing told at p (x.second.made at n).was.0 (free_first at n) stands

  made_end : (at : ℕ) → Made a c at → IsMade tag a c at
  made_end at made = ⊎_elim
      (λ m.
      let was = x.first.made at m in
      let q = x.second.others at (λ n. n.0 m.1) in
      record {
        free = was.free;
        was = was.was;
        labelled = (ap (λ (l : Label). l.epoch) q.label ∙ was.labelled.0, ap (λ (l : Label). l.tag) q.label ∙ was.labelled.1);
        is_one = (x.second.all.same_blocks at).1 was.is_one;
        is_pinned = q.marks.0 was.is_pinned;
        is_fresh = q.marks.2 was.is_fresh;
      })
      (λ n.
      let is = x.second.made at n in
      record {
        free = free_first at n;
        was = (is.was.0, λ told top. is.was.1 (mid_told told) ((x.first.all.same_tops at).1 top));
        labelled = (is.labelled.0 ∙ x.first.all.same_high, is.labelled.1);
        is_one = is.is_one;
        is_pinned = is.is_pinned;
        is_fresh = is.is_fresh;
      })
      (made_either at made)

  marked_end : (at : ℕ) → (Made a c at → ⊥) → StaysMarked a c at
  marked_end at not =
      let p = x.first.others at (λ m. not (made_first at m)) in
      let q = x.second.others at (λ n. not (made_second at n)) in
      record {
        label = q.label ∙ p.label;
        marks = (λ h. q.marks.0 (p.marks.0 h), λ h. q.marks.1 (p.marks.1 h), λ h. q.marks.2 (p.marks.2 h));
      }

  apart_end : (at : ℕ) → (Made a c at → ⊥) → c.apart at ↔ a.apart at
  apart_end at not =
      let p = x.first.apart at (λ m. not (made_first at m)) in
      let q = x.second.apart at (λ n. not (made_second at n)) in
      (λ h. p.0 (q.0 h), λ h. q.1 (p.1 h))

  -- ---- images

  image_slots : (image : Image) (last : Behind (Touched b c tag outer) b c image) (before : Behind (Touched a b tag inner) a b last.other) (at j : ℕ) → (Made a c at → ⊥)
      → ((image at).slot j ≡ (before.other at).slot j) ⊎ (IsLed a c at j × ((image at).slot j ≡ (c.now at).slot j))
  image_slots image last before at j not =
      let later = x.second.slots at j (λ n. not (made_second at n)) in
      let earlier = x.first.slots at j (λ m. not (made_first at m)) in
      ⊎_elim
      (λ same. ⊎_elim
      (λ e. inl (same ∙ e))
      (λ led. let stays = led_both at j later led.0 in inr (led_first at j stays led.0, same ∙ led.1 ∙ sym stays))
      (before.slots at j (λ m. not (made_first at m))))
      (λ led. inr (⊎_elim (λ same. led_second at j same led.0) (λ old. absurd (led_once at j old led.0)) earlier, led.1))
      (last.slots at j (λ n. not (made_second at n)))

  image_end : (image : Image) → c.may_leave image → Behind (Touched a c tag inner) a c image
  image_end image is =
      let last = x.second.images image is in
      let before = x.first.images last.other last.was in
      record {
        other = before.other;
        was = before.was;
        same = λ at h. content_joins (last.same at (λ t. h (touched inner outer x.within at t))) (before.same at (λ t. h (touched_first inner at t)));
        slots = image_slots image last before;
        apart = λ t at top made r. ⊎_elim
            (λ m. before.apart t at top m r)
            (λ n.
            let p = x.top_stands before.other before.was t top in
            let q = stands_below p.0 (x.placed before.other before.was) (x.ranked before.other before.was) p.1 r in
            unplaced (x.told before.other before.was) at n q.0 q.1)
            (made_either at made);
      }

  -- ---- the tree

  in_tree_end : a.tells → (at : ℕ) → (mine at → ⊥) → Reaches a.now (to_block 1) at → Reaches c.now (to_block 1) at
  in_tree_end told at other r =
      let mid = x.first.in_tree told at other r in
      ⊎_elim
      (λ own. ⊎_elim
      (λ is. absurd (other is))
      (λ m. x.second.current (mid_told told) at (made_current at m) mid)
      (x.of at own))
      (λ not. x.second.in_tree (mid_told told) at not mid)
      (x.cases at)

  current_mid : (at : ℕ) → (a.label at).epoch ≡ a.high → (b.label at).epoch ≡ b.high
  current_mid at now = ⊎_elim
      (λ m. made_current at m)
      (λ no. ap (λ (l : Label). l.epoch) (x.first.others at no).label ∙ now ∙ sym x.first.all.same_high)
      (cases_made a b at)

  leaves_end : a.tells → (at : ℕ) → Reaches a.now (to_block 1) at → (Reaches c.now (to_block 1) at → ⊥) → c.covered at
  leaves_end told at r away =
      let before : (Reaches b.now (to_block 1) at → Reaches c.now (to_block 1) at) → c.covered at = λ on. x.second.still at (x.first.leaves told at r (λ q. away (on q))) in
      ⊎_elim
      (λ own. ⊎_elim
      (λ older. x.second.leaves (mid_told told) at (x.rooted (mid_told told) at own older) away)
      (λ ge. let up = x.up_to (mid_told told) at own in before (λ q. x.second.current (mid_told told) at (omega (arith, up, ge)) q))
      (cases_lt ((b.label at).epoch) b.high))
      (λ not. before (λ q. x.second.in_tree (mid_told told) at not q))
      (x.cases at)

  only_end : (at : ℕ) → (a.covered at → ⊥) → (mine at → ⊥) → c.covered at → ⊥
  only_end at free other h =
      let mid = x.first.only at free other in
      ⊎_elim
      (λ own. ⊎_elim
      (λ is. other is)
      (λ m. let now = made_current at m in let older = x.second.aged at mid h in omega (arith, now, older))
      (x.of at own))
      (λ not. x.second.only at mid not h)
      (x.cases at)

  aged_end : (at : ℕ) → (a.covered at → ⊥) → c.covered at → (a.label at).epoch < a.high
  aged_end at free h = ⊎_elim
      (λ lt. lt)
      (λ ge.
      let mid : b.covered at → ⊥ = λ k. let lt = x.first.aged at free k in omega (arith, lt, ge) in
      age at (x.second.aged at mid h))
      (cases_lt ((a.label at).epoch) a.high)

  instead_end : (at y : ℕ) → c.instead at y → a.instead at y ⊎ (Made a c at × mine y × ((a.label y).epoch < a.high))
  instead_end at y h = ⊎_elim
      (λ mid. ⊎_elim (λ was. inl was) (λ new. inr (made_first at new.0, new.1, new.2)) (x.first.instead at y mid))
      (λ new. inr (
        made_second at new.0,
        ⊎_elim (λ own. own) (λ m. let now = made_current y m in let older = new.2 in absurd (omega (arith, now, older))) (x.of y new.1),
        age y new.2,
      ))
      (x.second.instead at y h)

  rooted_mid : a.tells → (at : ℕ) → (Made a c at → ⊥) → IsRooted c at → IsRooted b at
  rooted_mid told at not r = x.second.rooted (mid_told told) at (λ n. not (made_second at n)) r

  places_end : a.tells → (at : ℕ) (p : Place) → (Made a c at → ⊥) → (mine at → ⊥) → (c.covered at → ⊥) → IsRooted c at → a.stands at p → c.stands at p
  places_end told at p not other free r stands =
      x.second.places (mid_told told) at p (λ n. not (made_second at n)) (λ own. ⊎_elim other (λ m. not (made_first at m)) (x.of at own)) free r
      (x.first.places told at p (λ m. not (made_first at m)) other (λ h. free (x.second.still at h)) (rooted_mid told at not r) stands)

  pub steps_join : Steps tag mine inner a c
  steps_join = record {
    memory = λ at h. content_joins (x.second.memory at (λ t. h (touched inner outer x.within at t))) (x.first.memory at (λ t. h (touched_first inner at t)));
    slots = slots_end;
    images = image_end;
    made = made_end;
    free = free_end;
    others = marked_end;
    apart = apart_end;
    places = places_end;
    rooted = λ told at not r. x.first.rooted told at (λ m. not (made_first at m)) (rooted_mid told at not r);
    instead = instead_end;
    still = λ at h. x.second.still at (x.first.still at h);
    only = only_end;
    aged = aged_end;
    leaves = leaves_end;
    in_tree = in_tree_end;
    current = λ told at now r. x.second.current (mid_told told) at (current_mid at now) (x.first.current told at now r);
    waits = λ y on j m n w. x.second.waits y on j (λ h. m (made_second y h)) (λ h. n (made_second on h)) (x.first.waits y on j (λ h. m (made_first y h)) (λ h. n (made_first on h)) w);
    no_wait = record { each = λ y on j h w. x.first.no_wait.each y on j h (x.second.no_wait.each y on j h w) };
    clearing = λ at j h. let mid = x.second.clearing at j h in let old = x.first.clearing at j mid.1 in (λ m. ⊎_elim old.0 mid.0 (made_either at m), old.1);
    goes_on = λ at j not h. x.second.goes_on at j (λ m. not (made_second at m)) (x.first.goes_on at j (λ m. not (made_first at m)) h);
    dirty = λ at d. ⊎_elim
        (λ mid. ⊎_elim
        (λ was. inl was)
        (λ h. inr (⊎_elim (λ t. inl (touched_first mine at t)) (λ y. inr (y.0, made_first y.0 y.1, y.2 ∙ sym (x.second.all.same_label_blocks y.0))) h))
        (x.first.dirty at mid))
        (λ h. inr (⊎_elim (λ t. inl (touched mine more x.of at t)) (λ y. inr (y.0, made_second y.0 y.1, y.2)) h))
        (x.second.dirty at d);
    moments = x.second.moments ∙ x.first.moments;
    left = λ k image h. x.first.left k image (x.second.left k image h);
    pins = x.second.pins ∙ x.first.pins;
    usable = let first = x.first.usable in let last = x.second.usable in omega (arith, first, last);
    room = x.second.room ∙ x.first.room;
    numbers = record { next = x.second.numbers.next ∙ x.first.numbers.next; grants = λ h. x.second.numbers.grants (x.first.numbers.grants h) };
    all = x.all;
  }
