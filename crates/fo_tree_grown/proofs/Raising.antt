-- The end of a source was cleared, and a leaf past its levels was owned then: what both calls change.
use Rattle.std.proofs.Common.{◌≡◌, ◌⊎◌, ℕ, inl, inr, ⊎_elim, sym, ◌∙◌, ap, subst, arith, true}
use Rattle.fo_image.specs.declared.types.Label.{Label}
use Rattle.fo_image.specs.declared.types.Pointer.TheVariants.{Local}
use Rattle.fo_ports.specs.of_crash.declared.place.Place.{Place}
use Rattle.fo_ports.specs.of_crash.Images.{Content, Image, SameContent, Reaches, to_block}
use Rattle.fo_ports.specs.of_crash.Places.{IsPlaced, RanksFall}
use Rattle.fo_ports.proofs.of_crash.Places.{stands_below}
use Rattle.fo_ports.specs.State.{State, KeepsAll, none}
use Rattle.fo_ports.specs.Sources.{Made, Touched, Undone, IsMade, StaysMarked, Stead, Changes}
use Rattle.fo_image.specs.Usable.{is_usable}
use Rattle.fo_tree_read.proofs.of_looks.Free.{Standing, free_before, free_stands}
use Rattle.fo_tree_read.specs.declared.tree.Tree.{Tree}
use Rattle.fo_tree_look.specs.Source.{HasBlock}
use Rattle.fo_tree_clear.specs.of_tree_down.Way.{with_top}
use Rattle.fo_tree_lift.specs.Lift.{InSteadOf}
use Rattle.fo_tree_clear.specs.Steps.{Steps}
use Rattle.fo_tree_clear.proofs.Stepping.{cases_made}

local_eq : {a b : ℕ} → Local a ≡ Local b → a ≡ b
local_eq e = cc

content_joins : {a b c : Content} → SameContent a b → SameContent b c → SameContent a c
content_joins p q = record { bytes = p.bytes ∙ q.bytes; slots = λ i. p.slots i ∙ q.slots i }

-- What is known of both calls.
pub record Raised (s m u : State) (t : Tree) (inner : ℕ → Type 0) (top : ℕ) : Type 0 where
  pub first : Steps t.tag (HasBlock s t) inner s m
  pub second : Changes t.tag (λ b. Local top ≡ Local b) none m u
  pub instead : (b x : ℕ) → u.instead b x → m.instead b x ⊎ (Made m u b × InSteadOf m (with_top t top) x)
  pub tree : m.tells → (b : ℕ) → Reaches m.now (to_block 1) b → Reaches u.now (to_block 1) b
  pub covers : (b : ℕ) → (m.covered b → ⊥) → u.covered b → ⊥
  pub all : KeepsAll s m
  pub more : KeepsAll m u
  pub from : Made s m top ⊎ (t.top ≡ Local top)
  pub is_apart : Made s m top → m.apart top
  pub stead : (x : ℕ) → Made s m top → m.instead top x → t.top ≡ Local x
  pub placed : (image : Image) → s.may_leave image → IsPlaced s.stands image
  pub ranked : (image : Image) → s.may_leave image → RanksFall s.stands image
  pub top_stands : (image : Image) → s.may_leave image → (up : ℕ) → s.tops up → (p : Place) × s.stands up p
  pub told : (image : Image) → s.may_leave image → s.tells
  pub standing : Standing s

module _ {s m u : State} {t : Tree} {inner : ℕ → Type 0} {top : ℕ} (x : Raised s m u t inner top) where
  made_first : (b : ℕ) → Made s m b → Made s u b
  made_first b made = (made.0, ap (λ (l : Label). l.state) (x.second.others b (λ n. n.0 made.1)).label ∙ made.1)

  made_second : (b : ℕ) → Made m u b → Made s u b
  made_second b made = (λ e. made.0 (ap (λ (l : Label). l.state) (x.first.others b (λ n. n.0 e)).label ∙ e), made.1)

  made_either : (b : ℕ) → Made s u b → Made s m b ⊎ Made m u b
  made_either b made = ⊎_elim
      (λ later. inr later)
      (λ not. inl (made.0, ap (λ (l : Label). l.state) (sym (x.second.others b not).label) ∙ made.1))
      (cases_made m u b)

  not_first : (b : ℕ) → (Made s u b → ⊥) → Made s m b → ⊥
  not_first b not made = not (made_first b made)

  not_second : (b : ℕ) → (Made s u b → ⊥) → Made m u b → ⊥
  not_second b not made = not (made_second b made)

  mid : s.tells → m.tells
  mid told = x.all.still_tells.1 told

  -- a block that was there and is the top was so before
  has_top : (b : ℕ) → Local top ≡ Local b → (Made s m b → ⊥) → HasBlock s t b
  has_top b e not = ⊎_elim
      (λ made. absurd (not (subst (λ y. Made s m y) (local_eq e) made)))
      (λ was. record { down = 0; index = 0; within = omega arith; is = was ∙ e })
      x.from

  untouched : (b : ℕ) → (Made m u b → ⊥) → Touched m u t.tag none b → ⊥
  untouched b not touched = ⊎_elim (λ made. not made) (λ own. own.0) touched

  touched_first : (b : ℕ) → Touched s m t.tag inner b → Touched s u t.tag inner b
  touched_first b = ⊎_elim (λ made. inl (made_first b made)) (λ h. inr h)

  -- what was given out second was usable before the first
  free_first : (b : ℕ) → Made m u b → is_usable s.low (s.label b) ≡ true
  free_first b n = free_before x.all b (x.first.others b (λ made. n.0 made.1)).label (x.second.made b n).free

  unplaced : s.tells → (b : ℕ) → Made m u b → (p : Place) → s.stands b p → ⊥
  unplaced told b n p stands = free_stands s x.standing told b p (x.second.made b n).was.0 (free_first b n) stands

  image_end : (image : Image) → u.may_leave image → Undone (Touched s u t.tag inner) s u image
  image_end image is =
      let last = x.second.images image is in
      let before = x.first.images last.other last.was in
      record {
        other = before.other;
        was = before.was;
        same = λ b h. content_joins (last.same b (untouched b (λ n. h (inl (made_second b n))))) (before.same b (λ t. h (touched_first b t)));
        slots = λ b j not.
            let same = (last.same b (untouched b (not_second b not))).slots j in
            let now = (x.second.memory b (untouched b (not_second b not))).slots j in
            ⊎_elim (λ e. inl (same ∙ e)) (λ led. inr (same ∙ led.1 ∙ sym now)) (before.slots b j (not_first b not));
        apart = λ up b is_top made r. ⊎_elim
            (λ old. before.apart up b is_top old r)
            (λ new.
            let p = x.top_stands before.other before.was up is_top in
            let q = stands_below p.0 (x.placed before.other before.was) (x.ranked before.other before.was) p.1 r in
            unplaced (x.told before.other before.was) b new q.0 q.1)
            (made_either b made);
      }

  made_end : (b : ℕ) → Made s u b → IsMade t.tag s u b
  made_end b made = ⊎_elim
      (λ old.
      let was = x.first.made b old in
      let q = x.second.others b (λ n. n.0 old.1) in
      record {
        free = was.free;
        was = was.was;
        labelled = (ap (λ (l : Label). l.epoch) q.label ∙ was.labelled.0, ap (λ (l : Label). l.tag) q.label ∙ was.labelled.1);
        is_one = (x.more.same_blocks b).1 was.is_one;
        is_pinned = q.marks.0 was.is_pinned;
        is_fresh = q.marks.2 was.is_fresh;
      })
      (λ n.
      let is = x.second.made b n in
      record {
        free = free_first b n;
        was = (is.was.0, λ told up. is.was.1 (mid told) ((x.all.same_tops b).1 up));
        labelled = (is.labelled.0 ∙ x.all.same_high, is.labelled.1);
        is_one = is.is_one;
        is_pinned = is.is_pinned;
        is_fresh = is.is_fresh;
      })
      (made_either b made)

  marked_end : (b : ℕ) → (Made s u b → ⊥) → StaysMarked s u b
  marked_end b not =
      let p = x.first.others b (not_first b not) in
      let q = x.second.others b (not_second b not) in
      record {
        label = q.label ∙ p.label;
        marks = (λ h. q.marks.0 (p.marks.0 h), λ h. q.marks.1 (p.marks.1 h), λ h. q.marks.2 (p.marks.2 h));
      }

  own : (b : ℕ) → t.top ≡ Local b → HasBlock s t b
  own b e = record { down = 0; index = 0; within = omega arith; is = e }

  instead_of : (y : ℕ) → InSteadOf m (with_top t top) y → Stead s (HasBlock s t) y
  instead_of y of =
      let same : top ≡ of.0 = local_eq of.1 in
      ⊎_elim
      (λ made. ⊎_elim
      (λ itself. ⊎_elim
      (λ free. absurd (free (subst (λ z. m.apart z) same (x.is_apart made))))
      (λ older.
      let now : (m.label of.0).epoch ≡ m.high = subst (λ z. (m.label z).epoch ≡ m.high) same ((x.first.made top made).labelled.0 ∙ sym x.all.same_high) in
      absurd (omega (arith, older, now)))
      itself.1)
      (λ was. inl (own y (x.stead y made (subst (λ z. m.instead z y) (sym same) was))))
      of.2)
      (λ e. ⊎_elim
      (λ itself. inl (own y (e ∙ ap (λ z. Local z) (same ∙ itself.0))))
      (λ was. ⊎_elim
      (λ old. inr (of.0, own of.0 (e ∙ of.1), old))
      (λ new. inl new.1)
      (x.first.instead of.0 y was))
      of.2)
      x.from

  instead_end : (b y : ℕ) → u.instead b y → s.instead b y ⊎ (Made s u b × Stead s (HasBlock s t) y)
  instead_end b y h = ⊎_elim
      (λ mid. ⊎_elim (λ old. inl old) (λ new. inr (made_first b new.0, inl new.1)) (x.first.instead b y mid))
      (λ new. inr (made_second b new.0, instead_of y new.1))
      (x.instead b y h)

  dirty_end : (b : ℕ) → u.dirty b → s.dirty b ⊎ (Touched s u t.tag (HasBlock s t) b ⊎ ((y : ℕ) × Made s u y × (b ≡ u.label_block y)))
  dirty_end b d = ⊎_elim
      (λ mid. ⊎_elim
      (λ old. inl old)
      (λ h. inr (⊎_elim
      (λ t. inl (⊎_elim (λ made. inl (made_first b made)) (λ own. inr own) t))
      (λ label. inr (label.0, made_first label.0 label.1, label.2 ∙ sym (x.more.same_label_blocks label.0)))
      h))
      (x.first.dirty b mid))
      (λ h. inr (⊎_elim
      (λ t. inl (⊎_elim
      (λ made. inl (made_second b made))
      (λ own. ⊎_elim
      (λ made. inl (made_first b made))
      (λ not.
      let same = sym (x.first.others b not).label in
      inr (has_top b own.0 not, ap (λ (l : Label). l.epoch) same ∙ own.1 ∙ x.all.same_high, ap (λ (l : Label). l.tag) same ∙ own.2))
      (cases_made s m b))
      t))
      (λ label. inr (label.0, made_second label.0 label.1, label.2))
      h))
      (x.second.dirty b d)

  pub changes_raised : Changes t.tag (HasBlock s t) inner s u
  changes_raised = record {
    memory = λ b h. content_joins (x.second.memory b (untouched b (λ n. h (inl (made_second b n))))) (x.first.memory b (λ t. h (touched_first b t)));
    images = image_end;
    made = made_end;
    others = marked_end;
    apart = λ b not.
        let p = x.first.apart b (not_first b not) in
        let q = x.second.apart b (not_second b not) in
        (λ h. p.0 (q.0 h), λ h. ⊎_elim (λ still. inl still) (λ e. inr (has_top b e (not_first b not))) (q.1 (p.1 h)));
    places = λ told b p not other free r stands.
        x.second.places (mid told) b p (not_second b not) (λ e. other (has_top b e (not_first b not))) free r
        (x.first.places told b p (not_first b not) other (λ h. free ((x.second.covers b).0 h)) (x.second.rooted (mid told) b (not_second b not) r) stands);
    rooted = λ told b not r. x.first.rooted told b (not_first b not) (x.second.rooted (mid told) b (not_second b not) r);
    instead = instead_end;
    covers = λ b. (λ h. (x.second.covers b).0 (x.first.still b h), λ no other h. x.covers b (x.first.only b no other) h);
    leaves = λ told b r away. (x.second.covers b).0 (x.first.leaves told b r (λ q. away (x.tree (mid told) b q)));
    in_tree = λ told b other r. x.tree (mid told) b (x.first.in_tree told b other r);
    waits = λ a on j not_a not_on w. x.second.waits a on j (not_second a not_a) (not_second on not_on) (x.first.waits a on j (not_first a not_a) (not_first on not_on) w);
    no_wait = record { each = λ a on j h w. x.first.no_wait.each a on j h (x.second.no_wait.each a on j h w) };
    clearing = λ b j h.
        let last = x.second.clearing b j h in
        let old = x.first.clearing b j last.1 in
        (λ made. ⊎_elim old.0 last.0 (made_either b made), old.1);
    goes_on = λ b j not h. x.second.goes_on b j (not_second b not) (x.first.goes_on b j (not_first b not) h);
    dirty = dirty_end;
    moments = x.second.moments ∙ x.first.moments;
    left = λ k image h. x.first.left k image (x.second.left k image h);
    pins = x.second.pins ∙ x.first.pins;
    usable = let first = x.first.usable in let last = x.second.usable in omega (arith, first, last);
    numbers = record { next = x.second.numbers.next ∙ x.first.numbers.next; grants = λ h. x.second.numbers.grants (x.first.numbers.grants h) };
  }
