-- A block that was given out is filled with what leads to no block.
use Rattle.std.specs.Prelude.{◌||◌}
use Rattle.std.specs.List.{list_all}
use Rattle.std.specs.Str.{bytes_eq}
use Rattle.std.proofs.Common.{◌≡◌, ◌≢◌, ◌⊎◌, ◌+◌, ◌==◌, ◌<◌, ℕ, zero, suc, Bool, true, false, cond, List, [], ◌++◌, length, take, drop, inl, inr, ⊎_elim, refl, sym, ap, ◌∙◌, subst, arith}
use Rattle.std.proofs.lemmas.Bool.{cases_eq}
use Rattle.std.proofs.lemmas.List.{drop_all, append-nil}
use Rattle.fo_image.specs.declared.types.Kind.{Kind}
use Rattle.fo_image.specs.declared.types.Kind.TheVariants.{Data, Dir, Root}
use Rattle.fo_image.specs.declared.types.Label.{Label}
use Rattle.fo_image.specs.declared.types.Pointer.{Pointer}
use Rattle.fo_image.specs.declared.types.Pointer.TheVariants.{Nil, Local, Score as Held}
use Rattle.fo_image.specs.Format.{PointerHolds}
use Rattle.fo_crash.specs.declared.slot.Slot.{Slot}
use Rattle.fo_crash.specs.declared.slot.Slot.TheVariants.{Pointer as To, Entry as Head, Prev}
use Rattle.fo_crash.specs.Images.{Content, Image, SameContent, target, with_slot, with_bytes}
use Rattle.fo_crash.specs.Steps.{PutsSlot, PutsBytes, AddsSlot, AddsBytes, Covers}
use Rattle.fo_crash.proofs.Reach.{lost}
use Rattle.fo_crash.proofs.Updates.{slot_bytes, slot_other, bytes_other}
use Rattle.fo_tree_look.specs.of_ports.Blocks.{IsInner, SlotFits, slot_count, cost, dropped, blank, blank_slot, put_at}
use Rattle.fo_tree_look.proofs.of_ports.Lengths.{length_zero_bytes}
use Rattle.fo_tree_look.specs.of_ports.State.{State, KeepsAll, none, Gives, Frame, Calm, Hangs, KeepsOrder, AddsNoWait, IsPointers, MayPutSlot}
use Rattle.fo_tree_look.specs.of_tree_read.Tree.{is_none, score_of}
use Rattle.fo_tree_look.specs.of_tree_read.declared.empty.TheConstants.{EMPTY}
use Rattle.fo_tree_own.specs.Step.{IsBare, Filled}

-- ---- pointers that lead to no block

abbrev pub IsNone : Pointer → Type 0
IsNone p = (b : ℕ) → p ≢ Local b

pub inner_count : (kind : Kind) → IsInner kind → slot_count kind ≡ 409
inner_count (Data zero) inner = absurd (omega (arith, inner))
inner_count (Data (suc level)) inner = refl
inner_count (Dir zero) inner = absurd (omega (arith, inner))
inner_count (Dir (suc level)) inner = refl
inner_count Root inner = absurd inner

pub inner_fits : (kind : Kind) → IsInner kind → (i : ℕ) (p : Pointer) → PointerHolds p → SlotFits kind i (To p)
inner_fits (Data zero) inner i p holds = absurd (omega (arith, inner))
inner_fits (Data (suc level)) inner i p holds = holds
inner_fits (Dir zero) inner i p holds = absurd (omega (arith, inner))
inner_fits (Dir (suc level)) inner i p holds = holds
inner_fits Root inner i p holds = absurd inner

pub inner_pointer : (kind : Kind) → IsInner kind → (i : ℕ) (s : Slot) → SlotFits kind i s → s ≡ To (target s)
inner_pointer (Data zero) inner i s fits = absurd (omega (arith, inner))
inner_pointer (Data (suc level)) inner i (To p) fits = refl
inner_pointer (Data (suc level)) inner i (Head e) fits = absurd fits
inner_pointer (Data (suc level)) inner i (Prev x y) fits = absurd fits
inner_pointer (Dir zero) inner i s fits = absurd (omega (arith, inner))
inner_pointer (Dir (suc level)) inner i (To p) fits = refl
inner_pointer (Dir (suc level)) inner i (Head e) fits = absurd fits
inner_pointer (Dir (suc level)) inner i (Prev x y) fits = absurd fits
inner_pointer Root inner i s fits = absurd inner

true_false : true ≡ false → ⊥
true_false e = cc

pub score_holds : (bytes : List ℕ) → PointerHolds (score_of bytes)
score_holds bytes = by (is_none bytes) refl
  where
    no_zeros : (a b : Bool) → a ≡ true → (a || b) ≡ false → ⊥
    no_zeros true b is e = true_false e
    no_zeros false b is e = true_false (sym is)

    by : (nil : Bool) → is_none bytes ≡ nil → PointerHolds (cond nil Nil (Held (record { 0 = bytes })))
    by true e = tt
    by false e = λ same. no_zeros (list_all (λ b. b == 0) (take 16 bytes)) (bytes_eq bytes EMPTY.0) (ap (list_all (λ b. b == 0)) same) e

pub score_leads : (bytes : List ℕ) → IsNone (score_of bytes)
score_leads bytes = by (is_none bytes)
  where
    by : (nil : Bool) → IsNone (cond nil Nil (Held (record { 0 = bytes })))
    by true b e = cc
    by false b e = cc

pub none_cost : (p q : Pointer) → IsNone p → IsNone q → cost (To p) (To q) ≡ 0
none_cost Nil q none other = refl
none_cost (Local x) q none other = absurd (none x refl)
none_cost (Held x) q none other = refl

-- ---- one slot

-- A slot is put into a block that was given out.
pub record Scoring (kind : Kind) (at i : ℕ) (p : Pointer) (m : State) : Type 0 where
  pub is : IsBare m kind at
  pub inner : IsInner kind
  pub few : i < 409
  pub holds : PointerHolds p
  pub none : IsNone p
  pub spelled : (j : ℕ) → j < slot_count (m.label at).kind → SlotFits (m.label at).kind j ((m.now at).slot j)

module _ {kind : Kind} {at i : ℕ} {p : Pointer} {m : State} (x : Scoring kind at i p m) where
  old_none : IsNone (target ((m.now at).slot i))
  old_none b e = x.is.bare i b e

  within : i < slot_count (m.label at).kind
  within = subst (λ q. i < slot_count q) (sym x.is.has_kind) (subst (λ n. i < n) (sym (inner_count kind x.inner)) x.few)

  pub old_slot : (m.now at).slot i ≡ To (target ((m.now at).slot i))
  old_slot = inner_pointer kind x.inner i ((m.now at).slot i) (subst (λ q. SlotFits q i ((m.now at).slot i)) x.is.has_kind (x.spelled i within))

  pub score_spelled : (i < slot_count (m.label at).kind) × SlotFits (m.label at).kind i (To p)
  score_spelled = (within, subst (λ q. SlotFits q i (To p)) (sym x.is.has_kind) (inner_fits kind x.inner i p x.holds))

  pub score_cost : cost ((m.now at).slot i) (To p) ≡ 0
  score_cost = ap (λ q. cost q (To p)) old_slot ∙ none_cost (target ((m.now at).slot i)) p old_none x.none

  pub score_dropped : dropped ((m.now at).slot i) (To p) ≡ 0
  score_dropped = ap (λ q. dropped q (To p)) old_slot

  pub may_score : MayPutSlot m at i (To p)
  may_score = record {
    brings = record { each = λ b r. absurd (lost m.now r.path (To p) x.none b r.leads) };
    fits = record { each = λ b q stands e. absurd (x.none b e) };
    lower = λ b q stands e. absurd (x.none b e);
    parent = record { each = λ b e older. absurd (x.none b e) };
    comes = λ b e. absurd (x.none b e);
    leaves = record {
      each = λ y z is r. absurd (lost m.now r.path ((m.now at).slot i) old_none z r.leads);
      still = λ b j waits r. absurd (lost m.now r.path ((m.now at).slot i) old_none b r.leads);
    };
    uncovered = x.is.uncovered;
    first = λ inner first y e. absurd (old_none y e);
    holder = inr (at, x.is.is_apart, record { path = []; leads = refl });
    linked = λ some. let none = score_cost in absurd (omega (arith, some, none));
    entry = λ outer b e ne. absurd (old_none b e);
    keeps = λ b e. absurd (old_none b e);
  }

-- It was put.
pub record Scored (kind : Kind) (at i n : ℕ) (p : Pointer) (beside : Image → Type 0) (m u : State) : Type 0 where
  pub scoring : Scoring kind at i p m
  pub no_cost : n ≡ 0
  pub puts : PutsSlot at i (To p) m.now u.now
  pub images : AddsSlot m.now at i (To p) beside m.may_leave u.may_leave
  pub frame : Frame (λ b. b ≡ at) (λ b. (b ≡ at) ⊎ (target (To p) ≡ Local b)) n m u
  pub hangs : Hangs at i (To p) m u
  pub order : KeepsOrder none m u
  pub no_wait : AddsNoWait none m u
  pub covers : m.tells → Covers (IsPointers m) ((m.now at).slot i) m.now u.now m.covered u.covered
  pub all : KeepsAll m u
  pub told : (b : ℕ) → m.covered b → m.tells
  pub told_new : (b : ℕ) → u.covered b → u.tells

module _ {kind : Kind} {at i n : ℕ} {p : Pointer} {beside : Image → Type 0} {m u : State} (x : Scored kind at i n p beside m u) where
  aside : (b : ℕ) → b ≢ at → ((b ≡ at) ⊎ (p ≡ Local b)) → ⊥
  aside b ne h = ⊎_elim ne (x.scoring.none b) h

  only_end : (b : ℕ) → (m.covered b → ⊥) → u.covered b → ⊥
  only_end b free h = (x.covers (x.all.still_tells.0 (x.told_new b h))).only b free (λ r. lost m.now r.path ((m.now at).slot i) (old_none x.scoring) b r.leads) h

  still_end : (b : ℕ) → m.covered b → u.covered b
  still_end b h = (x.covers (x.told b h)).still b h

  apart_end : (b : ℕ) → (u.apart b → m.apart b) × (m.apart b → u.apart b)
  apart_end b = ⊎_elim
      (λ here. let same = x.hangs.at_apart (x.scoring.none at) in (λ h. subst (λ y. m.apart y) (sym here) (same.0 (subst (λ y. u.apart y) here h)), λ h. subst (λ y. u.apart y) (sym here) (same.1 (subst (λ y. m.apart y) here h))))
      (λ away. x.frame.stays.apart b (λ h. h) (aside b away))
      (cases_eq b at)

  raised_end : (y : ℕ) → u.instead at y → m.instead at y
  raised_end y h = ⊎_elim (λ mid. mid) (λ raised. absurd (x.scoring.none raised.1.0 raised.1.1)) (x.hangs.raised y h)

  pub filled_score : Filled at m u
  filled_score = record {
    others = λ b ne. record { bytes = x.puts.bytes b; slots = λ j. x.puts.others b j (inl ne) };
    images = λ image is. ⊎_elim
        (λ old. record { other = image; was = old; same = λ b ne. record { bytes = refl; slots = λ j. refl } })
        (λ put. record {
          other = with_slot image at i ((m.now at).slot i);
          was = put.1;
          same = λ b ne. record { bytes = sym (slot_bytes image at i ((m.now at).slot i) b); slots = λ j. sym (slot_other image at i ((m.now at).slot i) b j (inl ne)) };
        })
        (x.images.each image is);
    labels = λ b. x.frame.stays.labels b (λ h. h);
    marks = λ b. x.frame.stays.marks b (λ h. h);
    places = λ told b q free r stands. ⊎_elim
        (λ here. subst (λ y. u.stands y q) (sym here) (x.hangs.at_place told q (λ h. free (subst (λ y. u.covered y) (sym here) h)) (subst (λ y. m.stands y q) here stands)))
        (λ away. x.frame.stays.places told b q (λ h. h) (aside b away) free r stands)
        (cases_eq b at);
    rooted = λ told b r. x.frame.stays.rooted told b (λ h. h) r;
    newborn = λ b h. x.frame.stays.newborn b (λ n. n) h;
    apart = apart_end;
    instead = λ b y. ⊎_elim
        (λ here. (λ h. subst (λ z. m.instead z y) (sym here) (raised_end y (subst (λ z. u.instead z y) here h)), λ h. subst (λ z. u.instead z y) (sym here) (x.hangs.still y (subst (λ z. m.instead z y) here h))))
        (λ away. x.frame.stays.instead b y (λ h. h) (aside b away))
        (cases_eq b at);
    waits = λ a on j ne w. x.frame.stays.waits a on j (λ h. h) (λ h. h) (aside on ne) w;
    order = x.order;
    still = still_end;
    only = only_end;
    no_wait = x.no_wait;
    dirty = x.frame.dirty;
    uses = record {
      spare = x.frame.uses.spare;
      usable = x.frame.uses.usable;
      room = let r = x.frame.uses.room in let none = x.no_cost in omega (arith, r, none);
      pins = x.frame.uses.pins;
      moments = x.frame.uses.moments;
      left = x.frame.uses.left;
    };
    numbers = x.frame.numbers;
  }

  bare_slot : (j b : ℕ) → IsBare m kind at → target ((u.now at).slot j) ≢ Local b
  bare_slot j b was e = ⊎_elim
      (λ own. x.scoring.none b (sym (ap target (ap (λ y. (u.now at).slot y) own ∙ x.puts.here)) ∙ e))
      (λ other. was.bare j b (sym (ap target (x.puts.others at j (inr other))) ∙ e))
      (cases_eq j i)

  pub bare_score : (other : Kind) → IsBare m other at → IsBare u other at
  bare_score other was = record {
    is_pinned = (x.frame.stays.marks at (λ h. h)).0 was.is_pinned;
    has_kind = ap (λ (l : Label). l.kind) (x.frame.stays.labels at (λ h. h)) ∙ was.has_kind;
    current = ap (λ (l : Label). l.epoch) (x.frame.stays.labels at (λ h. h)) ∙ was.current ∙ sym x.all.same_high;
    long = ap length (x.puts.bytes at) ∙ was.long;
    is_apart = (apart_end at).1 was.is_apart;
    uncovered = only_end at was.uncovered;
    unwaited = λ a j w. was.unwaited a j (x.no_wait.each a at j (λ h. h) w);
    still = λ j h. was.still j (x.order.clearing at j h).1;
    bare = λ j b. bare_slot j b x.scoring.is;
  }

-- ---- all bytes of a leaf

pub record Put (at : ℕ) (bytes : List ℕ) (beside : Image → Type 0) (m u : State) : Type 0 where
  pub puts : PutsBytes at bytes m.now u.now
  pub images : AddsBytes m.now at bytes beside m.may_leave u.may_leave
  pub calm : Calm (λ b. b ≡ at) 0 m u
  pub no_wait : AddsNoWait none m u
  pub all : KeepsAll m u

module _ {at : ℕ} {bytes : List ℕ} {beside : Image → Type 0} {m u : State} (x : Put at bytes beside m u) where
  pub filled_bytes : Filled at m u
  filled_bytes = record {
    others = λ b ne. record { bytes = x.puts.others b ne; slots = λ j. x.puts.slots b j };
    images = λ image is. ⊎_elim
        (λ old. record { other = image; was = old; same = λ b ne. record { bytes = refl; slots = λ j. refl } })
        (λ put. record {
          other = with_bytes image at ((m.now at).bytes);
          was = put.1;
          same = λ b ne. let e = bytes_other image at ((m.now at).bytes) b ne in record { bytes = ap (λ (c : Content). c.bytes) (sym e); slots = λ j. ap (λ (c : Content). c.slot j) (sym e) };
        })
        (x.images.each image is);
    labels = λ b. x.calm.frame.stays.labels b (λ h. h);
    marks = λ b. x.calm.frame.stays.marks b (λ h. h);
    places = λ told b q free r stands. x.calm.frame.stays.places told b q (λ h. h) (λ h. h) free r stands;
    rooted = λ told b r. x.calm.frame.stays.rooted told b (λ h. h) r;
    newborn = λ b h. x.calm.frame.stays.newborn b (λ n. n) h;
    apart = λ b. x.calm.frame.stays.apart b (λ h. h) (λ h. h);
    instead = λ b y. x.calm.frame.stays.instead b y (λ h. h) (λ h. h);
    waits = λ a on j ne w. x.calm.frame.stays.waits a on j (λ h. h) (λ h. h) (λ h. h) w;
    order = x.calm.order;
    still = λ b. (x.calm.covered.covered b).1;
    only = λ b no h. no ((x.calm.covered.covered b).0 h);
    no_wait = x.no_wait;
    dirty = x.calm.frame.dirty;
    uses = x.calm.frame.uses;
    numbers = x.calm.frame.numbers;
  }

  pub bare_bytes : (kind : Kind) → length bytes ≡ 8192 → IsBare m kind at → IsBare u kind at
  bare_bytes kind long was = record {
    is_pinned = (x.calm.frame.stays.marks at (λ h. h)).0 was.is_pinned;
    has_kind = ap (λ (l : Label). l.kind) (x.calm.frame.stays.labels at (λ h. h)) ∙ was.has_kind;
    current = ap (λ (l : Label). l.epoch) (x.calm.frame.stays.labels at (λ h. h)) ∙ was.current ∙ sym x.all.same_high;
    long = ap length x.puts.here ∙ long;
    is_apart = (x.calm.frame.stays.apart at (λ h. h) (λ h. h)).1 was.is_apart;
    uncovered = λ h. was.uncovered ((x.calm.covered.covered at).0 h);
    unwaited = λ a j w. was.unwaited a j (x.no_wait.each a at j (λ h. h) w);
    still = λ j h. was.still j (x.calm.order.clearing at j h).1;
    bare = λ j b e. was.bare j b (sym (ap target (x.puts.slots at j)) ∙ e);
  }

-- a block of zeros that was given out
pub bare_gives : {kind : Kind} {at : ℕ} {l : Label} {s m : State} → KeepsAll s m → Gives at (blank kind) l s m → l.kind ≡ kind → l.epoch ≡ s.high → ((j : ℕ) → target (blank_slot kind j) ≡ Nil) → IsBare m kind at
bare_gives {kind = kind} {at = at} all gives is current none = record {
  is_pinned = gives.is.1;
  has_kind = ap (λ (q : Label). q.kind) gives.label ∙ is;
  current = ap (λ (q : Label). q.epoch) gives.label ∙ current ∙ sym all.same_high;
  long = ap length gives.memory.here.bytes ∙ length_zero_bytes;
  is_apart = gives.is.3;
  uncovered = gives.is.4;
  unwaited = gives.is.5;
  still = λ j h. (gives.order.clearing at j h).0 refl;
  bare = λ j b e. nil_local b (sym (ap target (gives.memory.here.slots j) ∙ none j) ∙ e);
}
  where
    nil_local : (b : ℕ) → Nil ≡ Local b → ⊥
    nil_local b e = cc

pub whole_put : (bytes old : List ℕ) → length bytes ≡ length old → put_at 0 bytes old ≡ bytes
whole_put bytes old same =
    let none : 0 + length bytes ≡ length bytes = omega arith in
    ap (λ n. bytes ++ drop n old) none ∙ ap (λ xs. bytes ++ xs) (drop_all (length bytes) old (omega (arith, same))) ∙ append-nil bytes

-- ---- one after another

pub filled_none : (at : ℕ) (m : State) → Filled at m m
filled_none at m = record {
  others = λ b ne. record { bytes = refl; slots = λ j. refl };
  images = λ image is. record { other = image; was = is; same = λ b ne. record { bytes = refl; slots = λ j. refl } };
  labels = λ b. refl;
  marks = λ b. (λ h. h, λ h. h, λ h. h);
  places = λ told b q free r stands. stands;
  rooted = λ told b r. r;
  newborn = λ b h. h;
  apart = λ b. (λ h. h, λ h. h);
  instead = λ b y. (λ h. h, λ h. h);
  waits = λ a on j ne w. w;
  order = record { clearing = λ b j h. (λ n. n, h); goes_on = λ b j n h. h };
  still = λ b h. h;
  only = λ b no h. no h;
  no_wait = record { each = λ a on j n w. w };
  dirty = λ b d. inl d;
  uses = record { spare = omega arith; usable = omega arith; room = omega arith; pins = refl; moments = refl; left = λ n image h. h };
  numbers = record { next = refl; grants = λ h. h };
}

same_joins : {a b c : Content} → SameContent a b → SameContent b c → SameContent a c
same_joins p q = record { bytes = p.bytes ∙ q.bytes; slots = λ i. p.slots i ∙ q.slots i }

pub filled_joins : {at : ℕ} {a b c : State} → KeepsAll a b → Filled at a b → Filled at b c → Filled at a c
filled_joins all f g = record {
  others = λ y ne. same_joins (g.others y ne) (f.others y ne);
  images = λ image is. let d = g.images image is in let e = f.images d.other d.was in record { other = e.other; was = e.was; same = λ y ne. same_joins (d.same y ne) (e.same y ne) };
  labels = λ y. g.labels y ∙ f.labels y;
  marks = λ y. let p = f.marks y in let q = g.marks y in (λ h. q.0 (p.0 h), λ h. q.1 (p.1 h), λ h. q.2 (p.2 h));
  places = λ told y q free r stands. let mid = all.still_tells.1 told in g.places mid y q free r (f.places told y q (λ h. free (g.still y h)) (g.rooted mid y r) stands);
  rooted = λ told y r. f.rooted told y (g.rooted (all.still_tells.1 told) y r);
  newborn = λ y h. f.newborn y (g.newborn y h);
  apart = λ y. (λ h. (f.apart y).0 ((g.apart y).0 h), λ h. (g.apart y).1 ((f.apart y).1 h));
  instead = λ y z. (λ h. (f.instead y z).0 ((g.instead y z).0 h), λ h. (g.instead y z).1 ((f.instead y z).1 h));
  waits = λ y on j ne w. g.waits y on j ne (f.waits y on j ne w);
  order = record { clearing = λ y j h. f.order.clearing y j (g.order.clearing y j h).1; goes_on = λ y j n h. g.order.goes_on y j n (f.order.goes_on y j n h) };
  still = λ y h. g.still y (f.still y h);
  only = λ y no h. g.only y (f.only y no) h;
  no_wait = record { each = λ y on j n w. f.no_wait.each y on j n (g.no_wait.each y on j n w) };
  dirty = λ y d. ⊎_elim (λ mid. f.dirty y mid) (λ e. inr e) (g.dirty y d);
  uses = record {
    spare = let p = f.uses.spare in let q = g.uses.spare in omega (arith, p, q);
    usable = let p = f.uses.usable in let q = g.uses.usable in omega (arith, p, q);
    room = let p = f.uses.room in let q = g.uses.room in omega (arith, p, q);
    pins = g.uses.pins ∙ f.uses.pins;
    moments = g.uses.moments ∙ f.uses.moments;
    left = λ n image h. f.uses.left n image (g.uses.left n image h);
  };
  numbers = record { next = g.numbers.next ∙ f.numbers.next; grants = λ h. g.numbers.grants (f.numbers.grants h) };
}
