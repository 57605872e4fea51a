-- Levels were put above a copy of the top.
use Rattle.std.proofs.Common.{◌≡◌, ◌≢◌, ◌⊎◌, ℕ, inl, inr, ⊎_elim, refl, sym, ◌∙◌, ap, subst, arith}
use Rattle.fo_image.specs.declared.types.Label.{Label}
use Rattle.fo_image.specs.declared.types.State.{State as BlockState}
use Rattle.fo_image.specs.declared.types.State.TheVariants.{Free, Live, Closed}
use Rattle.fo_image.specs.declared.types.Pointer.TheVariants.{Local}
use Rattle.fo_ports.specs.of_crash.Images.{Image, Content, SameContent}
use Rattle.fo_ports.proofs.of_crash.Reach.{reach_aside}
use Rattle.fo_ports.specs.State.{State, KeepsAll}
use Rattle.fo_ports.specs.Sources.{Made, IsMade, Stead}
use Rattle.fo_tree_read.proofs.of_looks.Free.{free_before}
use Rattle.fo_tree_read.specs.declared.tree.Tree.{Tree}
use Rattle.fo_tree_grow.specs.of_tree_down.Way.{with_top}
use Rattle.fo_tree_grow.specs.of_tree_raise.Levels.{IsAmong, Adds, InStead}

pub live_cases : (x : BlockState) → (x ≡ Live) ⊎ (x ≢ Live)
live_cases Free = inr (λ e. cc)
live_cases Live = inl refl
live_cases Closed = inr (λ e. cc)

pub same_joins : {a b c : Content} → SameContent a b → SameContent b c → SameContent a c
same_joins p q = record { bytes = p.bytes ∙ q.bytes; slots = λ i. p.slots i ∙ q.slots i }

-- The top was copied, and levels were put above the copy.
pub record Follows (t : Tree) (mine : ℕ → Type 0) (copy : ℕ) (s c m : State) : Type 0 where
  pub first : Adds t.tag mine s c
  pub second : Adds t.tag (λ b. Local copy ≡ Local b) c m
  pub made : Made s c copy
  pub is_apart : c.apart copy
  pub instead : (b y : ℕ) → Made c m b → m.instead b y → InStead c (with_top t copy) y
  pub all : KeepsAll s c
  pub more : KeepsAll c m

local_eq : {a b : ℕ} → Local a ≡ Local b → a ≡ b
local_eq e = cc

module _ {t : Tree} {mine : ℕ → Type 0} {copy : ℕ} {s c m : State} (x : Follows t mine copy s c m) where
  pub made_first : (b : ℕ) → Made s c b → Made s m b
  made_first b made = (made.0, ap (λ (l : Label). l.state) (x.second.labels b (λ n. n.0 made.1)) ∙ made.1)

  pub made_second : (b : ℕ) → Made c m b → Made s m b
  made_second b made = (λ e. made.0 (ap (λ (l : Label). l.state) (x.first.labels b (λ n. n.0 e)) ∙ e), made.1)

  pub made_either : (b : ℕ) → Made s m b → Made s c b ⊎ Made c m b
  made_either b made = ⊎_elim (λ e. inl (made.0, e)) (λ n. inr (n, made.1)) (live_cases (c.label b).state)

  not_first : (b : ℕ) → (Made s m b → ⊥) → Made s c b → ⊥
  not_first b not made = not (made_first b made)

  not_second : (b : ℕ) → (Made s m b → ⊥) → Made c m b → ⊥
  not_second b not made = not (made_second b made)

  mid : s.tells → c.tells
  mid told = x.all.still_tells.1 told

  image_end : (image : Image) → m.may_leave image → IsAmong s m image
  image_end image is =
      let e = x.second.images image is in
      let f = x.first.images e.other e.was in
      record {
        other = f.other;
        was = f.was;
        same = λ b not. same_joins (e.same b (not_second b not)) (f.same b (not_first b not));
        apart = λ top b is_top made r. ⊎_elim
            (λ old. f.apart top b is_top old r)
            (λ new. e.apart top b ((x.all.same_tops top).1 is_top) new
            (reach_aside f.other e.other (λ y. Made s c y) top (λ y j not. sym ((f.same y not).slots j)) (λ y old far. f.apart top y is_top old far) b r))
            (made_either b made);
      }

  made_end : (b : ℕ) → Made s m b → IsMade t.tag s m b
  made_end b made = ⊎_elim
      (λ old.
      let is = x.first.made b old in
      let not : Made c m b → ⊥ = λ n. n.0 old.1 in
      let label = x.second.labels b not in
      let marks = x.second.marks b not in
      record {
        free = is.free;
        was = is.was;
        labelled = (ap (λ (l : Label). l.epoch) label ∙ is.labelled.0, ap (λ (l : Label). l.tag) label ∙ is.labelled.1);
        is_one = one_end b is.is_one;
        is_pinned = marks.0 is.is_pinned;
        is_fresh = marks.2 is.is_fresh;
      })
      (λ new.
      let is = x.second.made b new in
      record {
        free = free_before x.all b (x.first.labels b (λ old. new.0 old.1)) is.free;
        was = (is.was.0, λ told top. is.was.1 (mid told) ((x.all.same_tops b).1 top));
        labelled = (is.labelled.0 ∙ x.all.same_high, is.labelled.1);
        is_one = is.is_one;
        is_pinned = is.is_pinned;
        is_fresh = is.is_fresh;
      })
      (made_either b made)
    where
      one_end : (b : ℕ) → c.is_block b → m.is_block b
      one_end b is = (x.more.same_blocks b).1 is

  apart_end : (b : ℕ) → (Made s m b → ⊥) → (m.apart b → s.apart b) × (s.apart b → m.apart b ⊎ mine b)
  apart_end b not =
      let p = x.first.apart b (not_first b not) in
      let q = x.second.apart b (not_second b not) in (
        λ h. p.0 (q.0 h),
        λ h. ⊎_elim
            (λ still. ⊎_elim (λ on. inl on) (λ e. absurd (not (made_first b (subst (λ y. Made s c y) (local_eq e) x.made)))) (q.1 still))
            (λ own. inr own)
            (p.1 h),
      )

  instead_end : (b y : ℕ) → m.instead b y → ((Made s m b → ⊥) × s.instead b y) ⊎ (Made s m b × Stead s mine y)
  instead_end b y h = ⊎_elim
      (λ was. ⊎_elim
      (λ old. inl (λ made. ⊎_elim old.0 was.0 (made_either b made), old.1))
      (λ new. inr (made_first b new.0, new.1))
      (x.first.instead b y was.1))
      (λ new. inr (made_second b new.0, of_copy (x.instead b y new.0 h)))
      (x.second.instead b y h)
    where
      of_copy : InStead c (with_top t copy) y → Stead s mine y
      of_copy r =
          let here : r.0 ≡ copy = local_eq (sym r.1) in
          ⊎_elim
          (λ own. absurd (own.1 (subst (λ z. c.apart z) (sym here) x.is_apart)))
          (λ was. ⊎_elim
          (λ old. absurd (old.0 x.made))
          (λ new. new.1)
          (x.first.instead copy y (subst (λ z. c.instead z y) here was)))
          r.2

  pub adds_join : Adds t.tag mine s m
  adds_join = record {
    same = λ b not. same_joins (x.second.same b (not_second b not)) (x.first.same b (not_first b not));
    images = image_end;
    made = made_end;
    uncovered = λ b made h. ⊎_elim (λ old. x.second.only b (x.first.uncovered b old) h) (λ new. x.second.uncovered b new h) (made_either b made);
    labels = λ b not. x.second.labels b (not_second b not) ∙ x.first.labels b (not_first b not);
    marks = λ b not.
        let p = x.first.marks b (not_first b not) in
        let q = x.second.marks b (not_second b not) in
        (λ h. q.0 (p.0 h), λ h. q.1 (p.1 h), λ h. q.2 (p.2 h));
    apart = apart_end;
    places = λ told b p not free r stands. x.second.places (mid told) b p (not_second b not) free r (x.first.places told b p (not_first b not) (λ h. free (x.second.still b h)) (x.second.rooted (mid told) b (not_second b not) r) stands);
    rooted = λ told b not r. x.first.rooted told b (not_first b not) (x.second.rooted (mid told) b (not_second b not) r);
    instead = instead_end;
    still = λ b h. x.second.still b (x.first.still b h);
    only = λ b no h. x.second.only b (x.first.only b no) h;
    reached = λ told b.
        let p = x.first.reached told b in
        let q = x.second.reached (mid told) b in
        (λ r. q.0 (p.0 r), λ r. p.1 (q.1 r));
    hung = λ told b h. x.second.hung (mid told) b (x.first.hung told b h);
    waits = λ a on j not_a not_on w. x.second.waits a on j (not_second a not_a) (not_second on not_on) (x.first.waits a on j (not_first a not_a) (not_first on not_on) w);
    no_wait = record { each = λ a on j h w. x.first.no_wait.each a on j h (x.second.no_wait.each a on j h w) };
    clearing = λ b j h.
        let last = x.second.clearing b j h in
        let old = x.first.clearing b j last.1 in
        (λ made. ⊎_elim old.0 last.0 (made_either b made), old.1);
    goes_on = λ b j not h. x.second.goes_on b j (not_second b not) (x.first.goes_on b j (not_first b not) h);
    dirty = λ b d. ⊎_elim
        (λ old. ⊎_elim
        (λ was. inl was)
        (λ h. inr (⊎_elim (λ made. inl (made_first b made)) (λ label. inr (label.0, made_first label.0 label.1, label.2 ∙ sym (x.more.same_label_blocks label.0))) h))
        (x.first.dirty b old))
        (λ h. inr (⊎_elim (λ made. inl (made_second b made)) (λ label. inr (label.0, made_second label.0 label.1, label.2)) h))
        (x.second.dirty b d);
    moments = x.second.moments ∙ x.first.moments;
    left = λ k image h. x.first.left k image (x.second.left k image h);
    pins = x.second.pins ∙ x.first.pins;
    usable = let first = x.first.usable in let last = x.second.usable in omega (arith, first, last);
    room = x.second.room ∙ x.first.room;
    numbers = record { next = x.second.numbers.next ∙ x.first.numbers.next; grants = λ h. x.second.numbers.grants (x.first.numbers.grants h) };
  }
