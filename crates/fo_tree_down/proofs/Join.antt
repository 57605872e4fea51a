-- One step down after others.
use Rattle.std.proofs.Common.{◌≡◌, ◌≢◌, ◌⊎◌, ◌↔◌, ◌<◌, ℕ, suc, Bool, true, false, inl, inr, ⊎_elim, refl, sym, ◌∙◌, ap, subst, arith}
use Rattle.std.proofs.lemmas.Bool.{cases_eq, cases_lt}
use Rattle.fo_image.specs.declared.types.Label.{Label}
use Rattle.fo_image.specs.declared.types.State.{State as BlockState}
use Rattle.fo_image.specs.declared.types.State.TheVariants.{Free, Live, Closed}
use Rattle.fo_image.specs.declared.types.Pointer.{Pointer}
use Rattle.fo_image.specs.declared.types.Pointer.TheVariants.{Nil, Local, Score as Held}
use Rattle.fo_image.specs.Usable.{is_usable}
use Rattle.fo_tree_own.specs.of_crash.declared.place.Place.{Place}
use Rattle.fo_tree_own.specs.of_crash.declared.slot.Slot.{Slot}
use Rattle.fo_tree_own.specs.of_crash.Images.{Image, Reaches, target, to_block}
use Rattle.fo_tree_own.specs.of_crash.Places.{IsPlaced, RanksFall}
use Rattle.fo_tree_own.proofs.of_crash.Places.{stands_below}
use Rattle.fo_tree_look.specs.of_ports.State.{State, KeepsAll}
use Rattle.fo_tree_look.specs.of_ports.Sources.{Made, Touched, IsMade, StaysMarked, Changes}
use Rattle.fo_tree_look.proofs.of_looks.Free.{Standing, free_before, free_stands}
use Rattle.fo_tree_look.specs.of_tree_read.declared.tree.Tree.{Tree}
use Rattle.fo_tree_look.specs.of_tree_read.Tree.{kind_at}
use Rattle.fo_tree_own.specs.Step.{IsOwn, IsBehind, Links}
use Rattle.fo_tree_down.specs.Way.{IsLed, IsPutInto, IsBefore, Descends}

pub level_same : (dir : Bool) (a b : ℕ) → kind_at dir a ≡ kind_at dir b → a ≡ b
level_same true a b e = cc
level_same false a b e = cc

pub local_cases : (p : Pointer) (b : ℕ) → (p ≡ Local b) ⊎ (p ≡ Local b → ⊥)
local_cases Nil b = inr (λ e. cc)
local_cases (Local x) b = ⊎_elim (λ e. inl (ap (λ y. Local y) e)) (λ ne. inr (λ e. ne (let f : x ≡ b = cc in f))) (cases_eq x b)
local_cases (Held score) b = inr (λ e. cc)

live_cases : (s : BlockState) → (s ≡ Live) ⊎ (s ≢ Live)
live_cases Live = inl refl
live_cases Free = inr (λ e. cc)
live_cases Closed = inr (λ e. cc)

-- A step down was made after others.
pub record Continues (t : Tree) (mine wider : ℕ → Type 0) (level k at i : ℕ) (was : Pointer) (result : ℕ) (s m u : State) : Type 0 where
  pub first : Descends t mine (suc level) s m
  pub step : Links t level k at i was result m u
  pub all : KeepsAll s m
  pub more : KeepsAll m u
  pub above : IsOwn m t (suc level) k at
  -- the block above was given out, or is one of the way
  pub from : Made s m at ⊎ (wider at × (Made s m at → ⊥))
  pub within : (b : ℕ) → mine b → wider b
  pub is_mine : (b : ℕ) → was ≡ Local b → wider b
  pub was_old : (b : ℕ) → was ≡ Local b → Made s m b → ⊥
  pub was_is : was ≡ target ((m.now at).slot i)
  -- what stands leads to what stands, in every image
  pub placed : (image : Image) → s.may_leave image → IsPlaced s.stands image
  pub ranked : (image : Image) → s.may_leave image → RanksFall s.stands image
  pub top_stands : (image : Image) → s.may_leave image → (top : ℕ) → s.tops top → (p : Place) × s.stands top p
  pub told : (image : Image) → s.may_leave image → s.tells
  pub standing : Standing s

module _ {t : Tree} {mine wider : ℕ → Type 0} {level k at i : ℕ} {was : Pointer} {result : ℕ} {s m u : State} (x : Continues t mine wider level k at i was result s m u) where
  label_end : (b : ℕ) → b ≢ result → u.label b ≡ m.label b
  label_end = x.step.labels

  mid_made : (b : ℕ) → Made m u b → b ≡ result
  mid_made b made = ⊎_elim (λ e. e) (λ ne. absurd (made.0 (ap (λ (l : Label). l.state) (sym (label_end b ne)) ∙ made.1))) (cases_eq b result)

  ne_made : (b : ℕ) → Made s m b → b ≢ result
  ne_made b made e = x.step.made.0 (ap (λ y. (m.label y).state) (sym e) ∙ made.1)

  made_on : (b : ℕ) → Made s m b → Made s u b
  made_on b made = (made.0, ap (λ (l : Label). l.state) (label_end b (ne_made b made)) ∙ made.1)

  result_new : Made s m result → ⊥
  result_new made = ne_made result made refl

  pub made_result : Made s u result
  made_result = (λ live. x.step.made.0 (ap (λ (l : Label). l.state) (x.first.others result result_new).label ∙ live), x.step.made.1)

  made_back : (b : ℕ) → Made s u b → Made s m b ⊎ (b ≡ result)
  made_back b made = ⊎_elim (λ e. inr e) (λ ne. inl (made.0, ap (λ (l : Label). l.state) (sym (label_end b ne)) ∙ made.1)) (cases_eq b result)

  not_mid : (b : ℕ) → (Made s u b → ⊥) → Made s m b → ⊥
  not_mid b not made = not (made_on b made)

  not_result : (b : ℕ) → (Made s u b → ⊥) → b ≢ result
  not_result b not e = not (subst (λ y. Made s u y) (sym e) made_result)

  not_last : (b : ℕ) → (Made s u b → ⊥) → Made m u b → ⊥
  not_last b not made = not_result b not (mid_made b made)

  lower : (b : ℕ) → IsPutInto s t mine (suc level) b → IsPutInto s t wider level b
  lower b p = record { is_mine = x.within b p.is_mine; current = p.current; tagged = p.tagged; higher = record { at = p.higher.at; above = let lt = p.higher.above in omega (arith, lt); is = p.higher.is } }

  -- the block above, where it was there before
  at_put : (Made s u at → ⊥) → IsPutInto s t wider level at
  at_put not =
      let same = (x.first.others at (not_mid at not)).label in
      record {
        is_mine = ⊎_elim (λ made. absurd (not (made_on at made))) (λ is. is.0) x.from;
        current = ap (λ (l : Label). l.epoch) (sym same) ∙ x.above.current ∙ x.all.same_high;
        tagged = ap (λ (l : Label). l.tag) (sym same) ∙ x.above.tagged;
        higher = record { at = suc level; above = omega arith; is = ap (λ (l : Label). l.kind) (sym same) ∙ x.above.has_kind };
      }

  -- no slot was put into it before
  at_fresh : (Made s u at → ⊥) → IsPutInto s t mine (suc level) at → ⊥
  at_fresh not p =
      let same = (x.first.others at (not_mid at not)).label in
      let level_is : p.higher.at ≡ suc level = level_same t.dir p.higher.at (suc level) (sym p.higher.is ∙ ap (λ (l : Label). l.kind) (sym same) ∙ x.above.has_kind) in
      let lt = p.higher.above in
      omega (arith, lt, level_is)

  -- a slot is the one that was put, or another
  spot : (b j : ℕ) → ((b ≡ at) × (j ≡ i)) ⊎ ((b ≢ at) ⊎ (j ≢ i))
  spot b j = ⊎_elim (λ here. ⊎_elim (λ own. inl (here, own)) (λ aside. inr (inr aside)) (cases_eq j i)) (λ away. inr (inl away)) (cases_eq b at)

  slots_end : (b j : ℕ) → (Made s u b → ⊥) → ((u.now b).slot j ≡ (s.now b).slot j) ⊎ IsPutInto s t wider level b
  slots_end b j not = ⊎_elim
      (λ here. inr (subst (λ y. IsPutInto s t wider level y) (sym here.0) (at_put (λ made. not (subst (λ y. Made s u y) (sym here.0) made)))))
      (λ aside. ⊎_elim
      (λ e. inl (x.step.slots b j (not_result b not) aside ∙ e))
      (λ p. inr (lower b p))
      (x.first.slots b j (not_mid b not)))
      (spot b j)

  -- what was given out last was usable before, so it stood nowhere
  free_result : is_usable s.low (s.label result) ≡ true
  free_result = free_before x.all result (x.first.others result result_new).label (x.step.changes.made result x.step.made).free

  unplaced : s.tells → (p : Place) → s.stands result p → ⊥
  unplaced told p stands = free_stands s x.standing told result p (x.step.changes.made result x.step.made).was.0 free_result stands

  unreached : (image : Image) → s.may_leave image → (top : ℕ) → s.tops top → Reaches image (to_block top) result → ⊥
  unreached image is top is_top r =
      let p = x.top_stands image is top is_top in
      let q = stands_below p.0 (x.placed image is) (x.ranked image is) p.1 r in
      unplaced (x.told image is) q.0 q.1

  -- a block that was not given out last, of an older epoch, was so before
  age : (b : ℕ) → (m.label b).epoch < m.high → (s.label b).epoch < s.high
  age b older =
      let high = x.all.same_high in
      let same : (s.label b).epoch ≡ (m.label b).epoch = ⊎_elim
      (λ live. ap (λ (l : Label). l.epoch) (sym (x.first.others b (λ made. made.0 live)).label))
      (λ dead. ⊎_elim
      (λ now. let epoch = (x.first.made b (dead, now)).labelled.0 in absurd (omega (arith, older, high, epoch)))
      (λ not. ap (λ (l : Label). l.epoch) (sym (x.first.others b (λ made. not made.1)).label))
      (live_cases (m.label b).state))
      (live_cases (s.label b).state) in
      omega (arith, older, high, same)

  led_last : (Made s u at → ⊥) → ((m.now at).slot i ≡ (s.now at).slot i) → IsLed s u at i
  led_last not same = record {
    to = result;
    leads = x.step.leads;
    made = made_result;
    older = λ y e. age y (x.step.older y (x.was_is ∙ ap (λ (q : Slot). target q) same ∙ e));
  }

  led_first : (b j : ℕ) → (b ≢ at) ⊎ (j ≢ i) → (Made s u b → ⊥) → IsLed s m b j → IsLed s u b j
  led_first b j aside not led = record {
    to = led.to;
    leads = ap (λ (q : Slot). target q) (x.step.slots b j (not_result b not) aside) ∙ led.leads;
    made = made_on led.to led.made;
    older = led.older;
  }

  -- the slot that was put last was not put before
  fresh_slot : (Made s u at → ⊥) → (m.now at).slot i ≡ (s.now at).slot i
  fresh_slot not = ⊎_elim (λ same. same) (λ p. absurd (at_fresh not p)) (x.first.slots at i (not_mid at not))

  led_end : (b j : ℕ) → (Made s u b → ⊥) → ((u.now b).slot j ≡ (s.now b).slot j) ⊎ IsLed s u b j
  led_end b j not = ⊎_elim
      (λ here.
      let off : Made s u at → ⊥ = λ made. not (subst (λ y. Made s u y) (sym here.0) made) in
      inr (subst (λ y. IsLed s u y j) (sym here.0) (subst (λ z. IsLed s u at z) (sym here.1) (led_last off (fresh_slot off)))))
      (λ aside. ⊎_elim
      (λ e. inl (x.step.slots b j (not_result b not) aside ∙ e))
      (λ led. inr (led_first b j aside not led))
      (x.first.led b j (not_mid b not)))
      (spot b j)

  images_end : (image : Image) → u.may_leave image → IsBefore s u t wider level image
  images_end image is =
      let e = x.step.images image is in
      let f = x.first.images e.other e.was in
      record {
        other = f.other;
        was = f.was;
        bytes = λ b not. e.bytes b (not_result b not) ∙ f.bytes b (not_mid b not);
        slots = λ b j not. ⊎_elim
            (λ here. subst (λ y. ((image y).slot j ≡ (f.other y).slot j) ⊎ (IsPutInto s t wider level y × ((image y).slot j ≡ (u.now y).slot j))) (sym here.0)
            (subst (λ z. ((image at).slot z ≡ (f.other at).slot z) ⊎ (IsPutInto s t wider level at × ((image at).slot z ≡ (u.now at).slot z))) (sym here.1)
            (at_here e f (λ made. not (subst (λ y. Made s u y) (sym here.0) made)))))
            (λ aside.
            let first = e.slots b j (not_result b not) aside in
            ⊎_elim
            (λ same. inl (first ∙ same))
            (λ p. inr (lower b p.0, first ∙ p.1 ∙ sym (x.step.slots b j (not_result b not) aside)))
            (f.slots b j (not_mid b not)))
            (spot b j);
        led = λ b j not. ⊎_elim
            (λ here.
            let off : Made s u at → ⊥ = λ made. not (subst (λ y. Made s u y) (sym here.0) made) in
            inr (subst (λ y. IsLed s u y j) (sym here.0) (subst (λ z. IsLed s u at z) (sym here.1) (led_last off (fresh_slot off)))))
            (λ aside. ⊎_elim
            (λ same. inl (e.slots b j (not_result b not) aside ∙ same))
            (λ led. inr (led_first b j aside not led))
            (f.led b j (not_mid b not)))
            (spot b j);
        apart = λ top b is_top made r. ⊎_elim
            (λ mid. f.apart top b is_top mid r)
            (λ own. unreached f.other f.was top is_top (subst (λ y. Reaches f.other (to_block top) y) own r))
            (made_back b made);
      }
    where
      at_here : (e : IsBehind at i result m u image) (f : IsBefore s m t mine (suc level) e.other) → (Made s u at → ⊥) → ((image at).slot i ≡ (f.other at).slot i) ⊎ (IsPutInto s t wider level at × ((image at).slot i ≡ (u.now at).slot i))
      at_here e f not = ⊎_elim
          (λ old. ⊎_elim (λ same. inl (old ∙ same)) (λ p. absurd (at_fresh not p.0)) (f.slots at i (not_mid at not)))
          (λ new. inr (at_put not, new))
          e.here

  made_end : (b : ℕ) → Made s u b → IsMade t.tag s u b
  made_end b made = ⊎_elim
      (λ mid.
      let is = x.first.made b mid in
      let ne = ne_made b mid in
      let marks = (x.step.changes.others b (λ last. ne (mid_made b last))).marks in
      record {
        free = is.free;
        was = is.was;
        labelled = (ap (λ (l : Label). l.epoch) (label_end b ne) ∙ is.labelled.0, ap (λ (l : Label). l.tag) (label_end b ne) ∙ is.labelled.1);
        is_one = (x.more.same_blocks b).1 is.is_one;
        is_pinned = marks.0 is.is_pinned;
        is_fresh = marks.2 is.is_fresh;
      })
      (λ own. subst (λ y. IsMade t.tag s u y) (sym own) result_made)
      (made_back b made)
    where
      result_made : IsMade t.tag s u result
      result_made = let is = x.step.changes.made result x.step.made in record {
        free = free_result;
        was = (is.was.0, λ told top. is.was.1 (x.all.still_tells.1 told) ((x.all.same_tops result).1 top));
        labelled = (is.labelled.0 ∙ x.all.same_high, is.labelled.1);
        is_one = is.is_one;
        is_pinned = is.is_pinned;
        is_fresh = is.is_fresh;
      }

  marked_end : (b : ℕ) → (Made s u b → ⊥) → StaysMarked s u b
  marked_end b not =
      let p = x.first.others b (not_mid b not) in
      let q = x.step.changes.others b (not_last b not) in
      record {
        label = q.label ∙ p.label;
        marks = (λ h. q.marks.0 (p.marks.0 h), λ h. q.marks.1 (p.marks.1 h), λ h. q.marks.2 (p.marks.2 h));
      }

  apart_end : (b : ℕ) → (Made s u b → ⊥) → u.apart b ↔ s.apart b
  apart_end b not =
      let p = x.first.apart b (not_mid b not) in
      let q = x.step.apart b (not_result b not) in
      (λ h. p.0 (q.0 h), λ h. q.1 (p.1 h))

  -- the blocks that the step changed or copied are of the way
  beside : (b : ℕ) → (Made s u b → ⊥) → (wider b → ⊥) → ((b ≡ at) ⊎ (was ≡ Local b)) → ⊥
  beside b not other h = ⊎_elim
      (λ e. ⊎_elim (λ made. not (subst (λ y. Made s u y) (sym e) (made_on at made))) (λ is. other (subst wider (sym e) is.0)) x.from)
      (λ e. other (x.is_mine b e))
      h

  leaves_end : s.tells → (b : ℕ) → Reaches s.now (to_block 1) b → (Reaches u.now (to_block 1) b → ⊥) → u.covered b
  leaves_end told b r gone =
      let mid = x.all.still_tells.1 told in
      ⊎_elim
      (λ is. x.step.changes.leaves mid b (x.step.in_tree mid b is) gone)
      (λ not. x.step.covers.still b (x.first.leaves told b r (λ q. gone (x.step.reached mid b not q))))
      (local_cases was b)

  at_ne : at ≢ result
  at_ne e = x.step.made.0 (ap (λ y. (m.label y).state) (sym e) ∙ x.above.live)

  touched_at : Touched s u t.tag wider at
  touched_at = ⊎_elim
      (λ made. inl (made_on at made))
      (λ is.
      let p = at_put (λ made. ⊎_elim is.1 at_ne (made_back at made)) in
      inr (is.0, p.current, p.tagged))
      x.from

  -- an older block of the way that was copied is one of before
  touched_mid : (b : ℕ) → Touched m u t.tag (λ y. (y ≡ at) ⊎ (was ≡ Local y)) b → Touched s u t.tag wider b
  touched_mid b touched = ⊎_elim
      (λ made. inl (subst (λ y. Made s u y) (sym (mid_made b made)) made_result))
      (λ h. ⊎_elim
      (λ e. subst (λ y. Touched s u t.tag wider y) (sym e) touched_at)
      (λ e. inr (x.is_mine b e, same_label b (λ made. x.was_old b e made) h.1, ap (λ (l : Label). l.tag) (sym (x.first.others b (x.was_old b e)).label) ∙ h.2))
      h.0)
      touched
    where
      same_label : (b : ℕ) → (Made s m b → ⊥) → (m.label b).epoch ≡ m.high → (s.label b).epoch ≡ s.high
      same_label b not current = ap (λ (l : Label). l.epoch) (sym (x.first.others b not).label) ∙ current ∙ x.all.same_high

  wide_touched : (b : ℕ) → Touched s m t.tag mine b → Touched s u t.tag wider b
  wide_touched b touched = ⊎_elim (λ made. inl (made_on b made)) (λ h. inr (x.within b h.0, h.1, h.2)) touched

  dirty_end : (b : ℕ) → u.dirty b → s.dirty b ⊎ (Touched s u t.tag wider b ⊎ ((y : ℕ) × Made s u y × (b ≡ u.label_block y)))
  dirty_end b d = ⊎_elim
      (λ mid. ⊎_elim
      (λ old. inl old)
      (λ h. inr (⊎_elim (λ touched. inl (wide_touched b touched)) (λ label. inr (label.0, made_on label.0 label.1, label.2 ∙ sym (x.more.same_label_blocks label.0))) h))
      (x.first.dirty b mid))
      (λ h. inr (⊎_elim (λ touched. inl (touched_mid b touched)) (λ label. inr (label.0, subst (λ y. Made s u y) (sym (mid_made label.0 label.1)) made_result, label.2)) h))
      (x.step.changes.dirty b d)

  -- what was copied last is not of the current epoch
  current_not : (b : ℕ) → (s.label b).epoch ≡ s.high → was ≡ Local b → ⊥
  current_not b now e = let older = age b (x.step.older b e) in omega (arith, older, now)

  aged_end : (b : ℕ) → (s.covered b → ⊥) → u.covered b → (s.label b).epoch < s.high
  aged_end b free h = ⊎_elim
      (λ e. age b (x.step.older b e))
      (λ not. ⊎_elim
      (λ lt. lt)
      (λ ge. absurd (x.step.covers.only b (λ now. let lt = x.first.aged b free now in omega (arith, lt, ge)) not h))
      (cases_lt ((s.label b).epoch) s.high))
      (local_cases was b)

  pub continued : Descends t wider level s u
  continued = record {
    bytes = λ b not. x.step.bytes b (not_result b not) ∙ x.first.bytes b (not_mid b not);
    slots = slots_end;
    led = led_end;
    images = images_end;
    made = made_end;
    others = marked_end;
    apart = apart_end;
    places = λ told b p not other free r stands. let mid = x.all.still_tells.1 told in x.step.changes.places mid b p (not_last b not) (beside b not other) free r
        (x.first.places told b p (not_mid b not) (λ is. other (x.within b is)) (λ h. free (x.step.covers.still b h)) (x.step.changes.rooted mid b (not_last b not) r) stands);
    rooted = λ told b not r. x.first.rooted told b (not_mid b not) (x.step.changes.rooted (x.all.still_tells.1 told) b (not_last b not) r);
    instead = λ b y h. ⊎_elim (λ old. inl old) (λ new. inr (made_on b new.0, x.within y new.1)) (x.first.instead b y (x.step.instead b y h));
    older = λ b y h. x.first.older b y (x.step.instead b y h);
    still = λ b h. x.step.covers.still b (x.first.still b h);
    aged = aged_end;
    only = λ b no other h. x.step.covers.only b (x.first.only b no (λ is. other (x.within b is))) (λ e. other (x.is_mine b e)) h;
    leaves = leaves_end;
    in_tree = λ told b other r. x.step.reached (x.all.still_tells.1 told) b (λ e. other (x.is_mine b e)) (x.first.in_tree told b (λ is. other (x.within b is)) r);
    current = λ told b now r. x.step.reached (x.all.still_tells.1 told) b (current_not b now) (x.first.current told b now r);
    hung = λ told b other h. x.step.hung (x.all.still_tells.1 told) b (λ e. other (x.is_mine b e)) (x.first.hung told b (λ is. other (x.within b is)) h);
    waits = λ a b j not_a not_b w. x.step.waits a b j (not_result b not_b) (not_result a not_a) (x.first.waits a b j (not_mid a not_a) (not_mid b not_b) w);
    no_wait = record { each = λ a b j h w. x.first.no_wait.each a b j h (x.step.changes.no_wait.each a b j h w) };
    clearing = λ b j h.
        let last = x.step.changes.clearing b j h in
        let old = x.first.clearing b j last.1 in
        (λ made. ⊎_elim old.0 (λ e. last.0 (subst (λ y. Made m u y) (sym e) x.step.made)) (made_back b made), old.1);
    goes_on = λ b j not h. x.step.goes_on b j (not_result b not) (x.first.goes_on b j (not_mid b not) h);
    dirty = dirty_end;
    moments = x.step.changes.moments ∙ x.first.moments;
    left = λ n image h. x.first.left n image (x.step.changes.left n image h);
    pins = x.step.changes.pins ∙ x.first.pins;
    usable = let first = x.first.usable in let last = x.step.usable in let taken = x.step.spare in omega (arith, first, last, taken);
    room = x.step.room ∙ x.first.room;
    numbers = record { next = x.step.changes.numbers.next ∙ x.first.numbers.next; grants = λ h. x.step.changes.numbers.grants (x.first.numbers.grants h) };
  }

-- where a step changed nothing
pub wider_same : {t : Tree} {mine wider : ℕ → Type 0} {level : ℕ} {s u : State} → ((b : ℕ) → mine b → wider b) → Descends t mine (suc level) s u → Descends t wider level s u
wider_same {t = t} {mine = mine} {wider = wider} {level = level} {s = s} {u = u} within x = record {
  bytes = x.bytes;
  slots = λ b j not. ⊎_elim (λ e. inl e) (λ p. inr (lower b p)) (x.slots b j not);
  led = x.led;
  images = λ image is. let f = x.images image is in record {
    other = f.other;
    was = f.was;
    bytes = f.bytes;
    slots = λ b j not. ⊎_elim (λ e. inl e) (λ p. inr (lower b p.0, p.1)) (f.slots b j not);
    led = f.led;
    apart = f.apart;
  };
  made = x.made;
  others = x.others;
  apart = x.apart;
  places = λ told b p not other free r stands. x.places told b p not (λ is. other (within b is)) free r stands;
  rooted = x.rooted;
  instead = λ b y h. ⊎_elim (λ old. inl old) (λ new. inr (new.0, within y new.1)) (x.instead b y h);
  older = x.older;
  still = x.still;
  aged = x.aged;
  only = λ b no other h. x.only b no (λ is. other (within b is)) h;
  leaves = x.leaves;
  in_tree = λ told b other r. x.in_tree told b (λ is. other (within b is)) r;
  current = x.current;
  hung = λ told b other h. x.hung told b (λ is. other (within b is)) h;
  waits = x.waits;
  no_wait = x.no_wait;
  clearing = x.clearing;
  goes_on = x.goes_on;
  dirty = λ b d. ⊎_elim (λ old. inl old) (λ h. inr (⊎_elim (λ touched. inl (⊎_elim (λ made. inl made) (λ own. inr (within b own.0, own.1, own.2)) touched)) (λ label. inr label) h)) (x.dirty b d);
  moments = x.moments;
  left = x.left;
  pins = x.pins;
  usable = x.usable;
  room = x.room;
  numbers = x.numbers;
}
  where
    lower : (b : ℕ) → IsPutInto s t mine (suc level) b → IsPutInto s t wider level b
    lower b p = record { is_mine = within b p.is_mine; current = p.current; tagged = p.tagged; higher = record { at = p.higher.at; above = let lt = p.higher.above in omega (arith, lt); is = p.higher.is } }

-- what a source changes, by its blocks
pub changes_of : {t : Tree} {mine wider : ℕ → Type 0} {level : ℕ} {s u : State} → ((b : ℕ) → mine b → wider b) → Descends t mine level s u → Changes t.tag wider (λ b. wider b × ((s.label b).kind ≢ kind_at t.dir 0)) s u
changes_of {t = t} {mine = mine} {wider = wider} {level = level} {s = s} {u = u} within x = record {
  memory = λ b not. record { bytes = x.bytes b (λ made. not (inl made)); slots = λ j. ⊎_elim (λ e. e) (λ p. absurd (not (inr (inner b p, p.current, p.tagged)))) (x.slots b j (λ made. not (inl made))) };
  images = λ image is. let f = x.images image is in record {
    other = f.other;
    was = f.was;
    same = λ b not. record { bytes = f.bytes b (λ made. not (inl made)); slots = λ j. ⊎_elim (λ e. e) (λ p. absurd (not (inr (inner b p.0, p.0.current, p.0.tagged)))) (f.slots b j (λ made. not (inl made))) };
    slots = λ b j not. ⊎_elim (λ e. inl e) (λ p. inr p.1) (f.slots b j not);
    apart = f.apart;
  };
  made = x.made;
  others = x.others;
  apart = λ b not. let same = x.apart b not in (same.0, λ h. inl (same.1 h));
  places = λ told b p not other free r stands. x.places told b p not (λ is. other (within b is)) free r stands;
  rooted = x.rooted;
  instead = λ b y h. ⊎_elim (λ old. inl old) (λ new. inr (new.0, inl (within y new.1))) (x.instead b y h);
  covers = λ b. (x.still b, λ no other h. x.only b no (λ is. other (within b is)) h);
  leaves = x.leaves;
  in_tree = λ told b other r. x.in_tree told b (λ is. other (within b is)) r;
  waits = x.waits;
  no_wait = x.no_wait;
  clearing = x.clearing;
  goes_on = x.goes_on;
  dirty = λ b d. ⊎_elim (λ old. inl old) (λ h. inr (⊎_elim (λ touched. inl (⊎_elim (λ made. inl made) (λ own. inr (within b own.0, own.1, own.2)) touched)) (λ label. inr label) h)) (x.dirty b d);
  moments = x.moments;
  left = x.left;
  pins = x.pins;
  usable = x.usable;
  numbers = x.numbers;
}
  where
    inner : (b : ℕ) → IsPutInto s t mine level b → wider b × ((s.label b).kind ≢ kind_at t.dir 0)
    inner b p = (within b p.is_mine, λ e. let same : p.higher.at ≡ 0 = level_same t.dir p.higher.at 0 (sym p.higher.is ∙ e) in let lt = p.higher.above in omega (arith, lt, same))
