-- A way was made current, and bytes were put into its last block, as a step.
use Rattle.std.proofs.Common.{◌≡◌, ◌≢◌, ◌⊎◌, ◌↔◌, ℕ, List, inl, inr, ⊎_elim, refl, sym, ap, ◌∙◌, subst, arith}
use Rattle.fo_image.specs.declared.types.Label.{Label}
use Rattle.fo_ports.specs.of_crash.declared.slot.Slot.{Slot}
use Rattle.fo_ports.specs.of_crash.Images.{Content, Image, SameContent, target, to_block, with_bytes}
use Rattle.fo_ports.proofs.of_crash.Updates.{bytes_other, bytes_slot}
use Rattle.fo_ports.specs.State.{State, KeepsAll}
use Rattle.fo_ports.specs.Sources.{Made, Touched, IsMade, StaysMarked}
use Rattle.fo_tree_leaf.specs.of_tree_read.declared.tree.Tree.{Tree}
use Rattle.fo_tree_leaf.specs.of_tree_down.Way.{IsLed, IsPutInto, Descends}
use Rattle.fo_tree_clear.specs.Steps.{Behind, Steps}
use Rattle.fo_tree_clear.proofs.Putting.{BytesPut, label_same, reaches_on}

content_joins : {a b c : Content} → SameContent a b → SameContent b c → SameContent a c
content_joins p q = record { bytes = p.bytes ∙ q.bytes; slots = λ i. p.slots i ∙ q.slots i }

content_is : {a b : Content} → a ≡ b → SameContent a b
content_is e = record { bytes = ap (λ (c : Content). c.bytes) e; slots = λ i. ap (λ (c : Content). c.slot i) e }

-- ---- a way was made current

module _ {t : Tree} {mine : ℕ → Type 0} {level : ℕ} {s u : State} (all : KeepsAll s u) (d : Descends t mine level s u) (free : s.tells → (b : ℕ) → Made s u b → u.covered b → ⊥) where
  put_touched : (b : ℕ) → IsPutInto s t mine level b → Touched s u t.tag mine b
  put_touched b p = inr (p.is_mine, p.current, p.tagged)

  pub steps_down : Steps t.tag mine mine s u
  steps_down = record {
    memory = λ b not. record { bytes = d.bytes b (λ made. not (inl made)); slots = λ j. ⊎_elim (λ e. e) (λ p. absurd (not (put_touched b p))) (d.slots b j (λ made. not (inl made))) };
    slots = d.led;
    images = λ image is. let f = d.images image is in record {
      other = f.other;
      was = f.was;
      same = λ b not. record { bytes = f.bytes b (λ made. not (inl made)); slots = λ j. ⊎_elim (λ e. e) (λ p. absurd (not (put_touched b p.0))) (f.slots b j (λ made. not (inl made))) };
      slots = λ b j not. ⊎_elim
          (λ same. inl same)
          (λ led. ⊎_elim (λ same. inl same) (λ p. inr (led, p.1)) (f.slots b j not))
          (f.led b j not);
      apart = f.apart;
    };
    made = d.made;
    free = free;
    others = d.others;
    apart = d.apart;
    places = d.places;
    rooted = d.rooted;
    instead = λ b y h. ⊎_elim
        (λ old. inl old)
        (λ new. ⊎_elim (λ old. inl old) (λ older. inr (new.0, new.1, older)) (d.older b y h))
        (d.instead b y h);
    still = d.still;
    only = d.only;
    aged = d.aged;
    leaves = d.leaves;
    in_tree = d.in_tree;
    current = d.current;
    waits = d.waits;
    no_wait = d.no_wait;
    clearing = d.clearing;
    goes_on = d.goes_on;
    dirty = d.dirty;
    moments = d.moments;
    left = d.left;
    pins = d.pins;
    usable = d.usable;
    room = d.room;
    numbers = d.numbers;
    all = all;
  }

-- ---- and bytes were put into a block that it touched

module _ {tag at : ℕ} {mine : ℕ → Type 0} {bytes : List ℕ} {beside : Image → Type 0} {s u v : State}
    (all : KeepsAll s v) (c : Steps tag mine mine s u) (x : BytesPut at bytes beside u v)
    (hit : Made s u at ⊎ (mine at × ((s.label at).epoch ≡ s.high) × ((s.label at).tag ≡ tag))) where
  made_on : (b : ℕ) → Made s u b → Made s v b
  made_on b made = (made.0, ap (λ (l : Label). l.state) (label_same x b) ∙ made.1)

  made_back : (b : ℕ) → Made s v b → Made s u b
  made_back b made = (made.0, ap (λ (l : Label). l.state) (sym (label_same x b)) ∙ made.1)

  touched_on : (b : ℕ) → Touched s u tag mine b → Touched s v tag mine b
  touched_on b t = ⊎_elim (λ made. inl (made_on b made)) (λ h. inr h) t

  touched_at : Touched s v tag mine at
  touched_at = ⊎_elim (λ made. inl (made_on at made)) (λ h. inr h) hit

  aside : (b : ℕ) → (Touched s v tag mine b → ⊥) → b ≢ at
  aside b not e = not (subst (λ y. Touched s v tag mine y) (sym e) touched_at)

  led_on : (b j : ℕ) → IsLed s u b j → IsLed s v b j
  led_on b j led = record { to = led.to; leads = ap (λ (q : Slot). target q) (x.puts.slots b j) ∙ led.leads; made = made_on led.to led.made; older = led.older }

  image_slots : (b j : ℕ) (image other before : Image) → (image b).slot j ≡ (other b).slot j → ((other b).slot j ≡ (before b).slot j) ⊎ (IsLed s u b j × ((other b).slot j ≡ (u.now b).slot j))
      → ((image b).slot j ≡ (before b).slot j) ⊎ (IsLed s v b j × ((image b).slot j ≡ (v.now b).slot j))
  image_slots b j image other before first h = ⊎_elim (λ same. inl (first ∙ same)) (λ led. inr (led_on b j led.0, first ∙ led.1 ∙ sym (x.puts.slots b j))) h

  image_end : (image : Image) → v.may_leave image → Behind (Touched s v tag mine) s v image
  image_end image is = ⊎_elim
      (λ was. let e = c.images image was in record {
        other = e.other;
        was = e.was;
        same = λ b not. e.same b (λ t. not (touched_on b t));
        slots = λ b j not. image_slots b j image image e.other refl (e.slots b j (λ made. not (made_on b made)));
        apart = λ t b top made r. e.apart t b top (made_back b made) r;
      })
      (λ put. let e = c.images (with_bytes image at ((u.now at).bytes)) put.1 in record {
        other = e.other;
        was = e.was;
        same = λ b not. content_joins (content_is (sym (bytes_other image at ((u.now at).bytes) b (aside b not)))) (e.same b (λ t. not (touched_on b t)));
        slots = λ b j not. image_slots b j image (with_bytes image at ((u.now at).bytes)) e.other (sym (bytes_slot image at ((u.now at).bytes) b j)) (e.slots b j (λ made. not (made_on b made)));
        apart = λ t b top made r. e.apart t b top (made_back b made) r;
      })
      (x.images.each image is)

  made_end : (b : ℕ) → Made s v b → IsMade tag s v b
  made_end b made = let is = c.made b (made_back b made) in record {
    free = is.free;
    was = is.was;
    labelled = (ap (λ (l : Label). l.epoch) (label_same x b) ∙ is.labelled.0, ap (λ (l : Label). l.tag) (label_same x b) ∙ is.labelled.1);
    is_one = (x.all.same_blocks b).1 is.is_one;
    is_pinned = (x.calm.frame.stays.marks b (λ z. z)).0 is.is_pinned;
    is_fresh = (x.calm.frame.stays.marks b (λ z. z)).2 is.is_fresh;
  }

  others_end : (b : ℕ) → (Made s v b → ⊥) → StaysMarked s v b
  others_end b not =
      let p = c.others b (λ made. not (made_on b made)) in
      let q = x.calm.frame.stays.marks b (λ z. z) in
      record {
        label = label_same x b ∙ p.label;
        marks = (λ h. q.0 (p.marks.0 h), λ h. q.1 (p.marks.1 h), λ h. q.2 (p.marks.2 h));
      }

  apart_end : (b : ℕ) → (Made s v b → ⊥) → v.apart b ↔ s.apart b
  apart_end b not =
      let p = c.apart b (λ made. not (made_on b made)) in
      let r = x.calm.frame.stays.apart b (λ z. z) (λ z. z) in
      (λ h. p.0 (r.0 h), λ h. r.1 (p.1 h))

  dirty_end : (b : ℕ) → v.dirty b → s.dirty b ⊎ (Touched s v tag mine b ⊎ ((y : ℕ) × Made s v y × (b ≡ v.label_block y)))
  dirty_end b d = ⊎_elim
      (λ mid. ⊎_elim
      (λ old. inl old)
      (λ h. inr (⊎_elim (λ t. inl (touched_on b t)) (λ label. inr (label.0, made_on label.0 label.1, label.2 ∙ sym (x.all.same_label_blocks label.0))) h))
      (c.dirty b mid))
      (λ e. inr (inl (subst (λ y. Touched s v tag mine y) (sym e) touched_at)))
      (x.calm.frame.dirty b d)

  pub steps_put : Steps tag mine mine s v
  steps_put = record {
    memory = λ b not. content_joins (record { bytes = x.puts.others b (aside b not); slots = x.puts.slots b }) (c.memory b (λ t. not (touched_on b t)));
    slots = λ b j not. ⊎_elim (λ same. inl (x.puts.slots b j ∙ same)) (λ led. inr (led_on b j led)) (c.slots b j (λ made. not (made_on b made)));
    images = image_end;
    made = made_end;
    free = λ told b made h. c.free told b (made_back b made) ((x.calm.covered.covered b).0 h);
    others = others_end;
    apart = apart_end;
    places = λ told b p not other free r stands. let mid = c.all.still_tells.1 told in x.calm.frame.stays.places mid b p (λ z. z) (λ z. z) free r
        (c.places told b p (λ made. not (made_on b made)) other (λ h. free ((x.calm.covered.covered b).1 h)) (x.calm.frame.stays.rooted mid b (λ z. z) r) stands);
    rooted = λ told b not r. c.rooted told b (λ made. not (made_on b made)) (x.calm.frame.stays.rooted (c.all.still_tells.1 told) b (λ z. z) r);
    instead = λ b y h. ⊎_elim (λ old. inl old) (λ new. inr (made_on b new.0, new.1, new.2)) (c.instead b y ((x.calm.frame.stays.instead b y (λ z. z) (λ z. z)).0 h));
    still = λ b h. (x.calm.covered.covered b).1 (c.still b h);
    only = λ b no other h. c.only b no other ((x.calm.covered.covered b).0 h);
    aged = λ b no h. c.aged b no ((x.calm.covered.covered b).0 h);
    leaves = λ told b r away. (x.calm.covered.covered b).1 (c.leaves told b r (λ q. away (reaches_on x (to_block 1) b q)));
    in_tree = λ told b other r. reaches_on x (to_block 1) b (c.in_tree told b other r);
    current = λ told b now r. reaches_on x (to_block 1) b (c.current told b now r);
    waits = λ a b j not_a not_b w. x.calm.frame.stays.waits a b j (λ z. z) (λ z. z) (λ z. z) (c.waits a b j (λ made. not_a (made_on a made)) (λ made. not_b (made_on b made)) w);
    no_wait = record { each = λ a b j h w. c.no_wait.each a b j h (x.no_wait.each a b j h w) };
    clearing = λ b j h. let old = c.clearing b j (x.calm.order.clearing b j h).1 in (λ made. old.0 (made_back b made), old.1);
    goes_on = λ b j not h. x.calm.order.goes_on b j (λ z. z) (c.goes_on b j (λ made. not (made_on b made)) h);
    dirty = dirty_end;
    moments = x.calm.frame.uses.moments ∙ c.moments;
    left = λ n image h. c.left n image (x.calm.frame.uses.left n image h);
    pins = x.calm.frame.uses.pins ∙ c.pins;
    usable = let first = c.usable in let last = x.calm.frame.uses.usable in let spare = x.calm.frame.uses.spare in omega (arith, first, last, spare);
    room = let r = x.calm.frame.uses.room in let q = c.room in omega (arith, r, q);
    numbers = record { next = x.calm.frame.numbers.next ∙ c.numbers.next; grants = λ h. x.calm.frame.numbers.grants (c.numbers.grants h) };
    all = all;
  }
