-- A new top was raised over the top of a source.
use Rattle.std.proofs.Common.{◌≡◌, ◌≢◌, ◌⊎◌, ◌↔◌, ◌+◌, ◌≤◌, ℕ, suc, List, [], ◌∷◌, length, inl, inr, ⊎_elim, refl, sym, ◌∙◌, ap, subst, arith}
use Rattle.std.proofs.lemmas.Bool.{cases_eq}
use Rattle.fo_image.specs.declared.types.Label.{Label}
use Rattle.fo_image.specs.declared.types.State.TheVariants.{Live}
use Rattle.fo_image.specs.declared.types.Pointer.{Pointer}
use Rattle.fo_image.specs.declared.types.Pointer.TheVariants.{Nil, Local, Score as Held}
use Rattle.fo_crash.specs.declared.slot.Slot.TheVariants.{Pointer as To}
use Rattle.fo_crash.specs.declared.place.Place.{Place}
use Rattle.fo_crash.specs.Images.{Image, SameContent, Reaches, target, walk, to_block, with_slot}
use Rattle.fo_crash.specs.Steps.{PutsSlot, AddsSlot, Covers}
use Rattle.fo_crash.specs.Places.{place, super_place}
use Rattle.fo_crash.proofs.Reach.{lost, reach_aside, reach_into, reaches_itself, reaches_from, reaches_same}
use Rattle.fo_crash.proofs.Updates.{slot_bytes, slot_other}
use Rattle.fo_ports.specs.State.{State, IsRooted, KeepsAll, none, Frame, Hangs, KeepsOrder, AddsNoWait, IsPointers}
use Rattle.fo_ports.specs.Sources.{IsHung, HangsApart, Made}
use Rattle.fo_tree_read.proofs.of_looks.Looks.{rooted_of_apart}
use Rattle.fo_tree_read.specs.declared.tree.Tree.{Tree}
use Rattle.fo_tree_read.specs.Tree.{kind_at}
use Rattle.fo_tree_down.specs.of_tree_own.Step.{IsOwn, IsBeside}
use Rattle.fo_tree_down.proofs.of_tree_own.Link.{Laws, Came, local_eq}
use Rattle.fo_tree_down.proofs.Join.{local_cases}
use Rattle.fo_tree_raise.specs.Raise.{IsUnder, CanRaise, IsWithout, Raises, raised}
use Rattle.fo_tree_raise.proofs.May.{Lifting, told_mid, under_ne, bare_none, away, reaches_mid, back, place_is, raised_over}

-- The slot was put.
pub record Lifted (t : Tree) (l : Label) (result n : ℕ) (beside : Image → Type 0) (s m u : State) : Type 0 where
  pub lifting : Lifting t l result s m
  pub no_cost : n ≡ 0
  pub puts : PutsSlot result 0 (To t.top) m.now u.now
  pub images : AddsSlot m.now result 0 (To t.top) beside m.may_leave u.may_leave
  pub frame : Frame (λ b. b ≡ result) (λ b. (b ≡ result) ⊎ (t.top ≡ Local b)) n m u
  pub hangs : Hangs result 0 (To t.top) m u
  pub order : KeepsOrder none m u
  pub no_wait : AddsNoWait none m u
  pub covers : m.tells → Covers (IsPointers m) ((m.now result).slot 0) m.now u.now m.covered u.covered
  pub all : KeepsAll m u
  pub whole : KeepsAll s u
  pub end : Laws u

nil_local : (b : ℕ) → Nil ≡ Local b → ⊥
nil_local b e = cc

module _ {t : Tree} {l : Label} {result n : ℕ} {beside : Image → Type 0} {s m u : State} (x : Lifted t l result n beside s m u) where
  came : Came l result s m
  came = x.lifting.came

  mid : s.tells → m.tells
  mid told = told_mid x.lifting told

  top_apart : t.top ≢ Local result
  top_apart e = under_ne x.lifting result e refl

  label_end : (b : ℕ) → b ≢ result → u.label b ≡ s.label b
  label_end b ne = x.frame.stays.labels b (λ h. h) ∙ came.stays.labels b ne

  result_label : u.label result ≡ l
  result_label = x.frame.stays.labels result (λ h. h) ∙ came.label

  made_end : Made s u result
  made_end = (came.was.0, ap (λ (q : Label). q.state) result_label ∙ x.lifting.is_live)

  same_end : (b : ℕ) → b ≢ result → SameContent (u.now b) (s.now b)
  same_end b ne = record {
    bytes = x.puts.bytes b ∙ (came.others b ne).bytes;
    slots = λ j. x.puts.others b j (inl ne) ∙ (came.others b ne).slots j;
  }

  bare_end : (j : ℕ) → j ≢ 0 → target ((u.now result).slot j) ≡ Nil
  bare_end j ne = ap target (x.puts.others result j (inr ne)) ∙ x.lifting.bare j

  leads_end : target ((u.now result).slot 0) ≡ t.top
  leads_end = ap target x.puts.here

  -- ---- what is to be closed

  still_end : (b : ℕ) → s.covered b → u.covered b
  still_end b h =
      let told = x.lifting.laws.covers_told b h in
      (x.covers (mid told)).still b (came.still b (λ e. came.was.2 (subst (λ y. s.covered y) e h)) h)

  mid_free : (b : ℕ) → (s.covered b → ⊥) → m.covered b → ⊥
  mid_free b free g = ⊎_elim (λ e. came.is.4 (subst (λ y. m.covered y) e g)) (λ ne. came.only b ne free g) (cases_eq b result)

  only_end : (b : ℕ) → (s.covered b → ⊥) → u.covered b → ⊥
  only_end b free h =
      let now = x.end.covers_told b h in
      (x.covers (x.all.still_tells.0 now)).only b (mid_free b free) (λ r. lost m.now r.path ((m.now result).slot 0) (bare_none x.lifting 0) b r.leads) h

  -- ---- what hangs

  unreached : s.tells → Reaches m.now (to_block 1) result → ⊥
  unreached told r = came.unreached m.now (x.lifting.later.present (mid told)) 1 x.lifting.laws.active r

  reached_end : s.tells → (b : ℕ) → Reaches s.now (to_block 1) b ↔ Reaches u.now (to_block 1) b
  reached_end told b = (
    λ r. reach_aside m.now u.now (λ y. y ≡ result) 1 (λ y j ne. sym (x.puts.others y j (inl ne))) (λ y e far. unreached told (subst (λ z. Reaches m.now (to_block 1) z) e far)) b
        (reaches_mid x.lifting told 1 b super_place (x.lifting.laws.super_stands told) r),
    λ r. back x.lifting told 1 b super_place (x.lifting.laws.super_stands told)
        (reach_into m.now u.now (λ y. y ≡ result) 1 (λ y j ne. sym (x.puts.others y j (inl ne))) (λ y e far. unreached told (subst (λ z. Reaches m.now (to_block 1) z) e far)) b r),
  )

  -- what stood leads on as it did
  reaches_end : s.tells → (w b : ℕ) (p : Place) → s.stands w p → Reaches s.now (to_block w) b → Reaches u.now (to_block w) b
  reaches_end told w b p stands r =
      reach_aside m.now u.now (λ y. y ≡ result) w (λ y j ne. sym (x.puts.others y j (inl ne)))
      (λ y e far. away x.lifting told w p stands (back x.lifting told w result p stands (subst (λ z. Reaches m.now (to_block w) z) e far))) b
      (reaches_mid x.lifting told w b p stands r)

  back_end : s.tells → (w b : ℕ) (p : Place) → s.stands w p → Reaches u.now (to_block w) b → Reaches s.now (to_block w) b
  back_end told w b p stands r =
      back x.lifting told w b p stands
      (reach_into m.now u.now (λ y. y ≡ result) w (λ y j ne. sym (x.puts.others y j (inl ne)))
      (λ y e far. away x.lifting told w p stands (back x.lifting told w result p stands (subst (λ z. Reaches m.now (to_block w) z) e far))) b r)

  apart_result : u.apart result
  apart_result = (x.hangs.at_apart top_apart).1 came.is.3

  free_result : u.covered result → ⊥
  free_result h = only_end result came.was.2 h

  stands_result : s.tells → u.stands result (place (kind_at t.dir (suc t.depth)) t.tag 0 (t.rank + suc t.depth))
  stands_result told = x.hangs.at_place (mid told) (place (kind_at t.dir (suc t.depth)) t.tag 0 (t.rank + suc t.depth)) free_result (x.lifting.place told)

  apart_end : (b : ℕ) → b ≢ result → (t.top ≡ Local b → ⊥) → u.apart b ↔ s.apart b
  apart_end b ne not =
      let first = came.stays.apart b ne (λ h. h) in
      let last = x.frame.stays.apart b (λ h. h) (λ g. ⊎_elim ne not g) in
      (λ h. first.0 (last.0 h), λ h. last.1 (first.1 h))

  rooted_mid : s.tells → (b : ℕ) → IsRooted u b → IsRooted m b
  rooted_mid told b r = x.frame.stays.rooted (mid told) b (λ h. h) r

  places_end : s.tells → (b : ℕ) (p : Place) → b ≢ result → (u.covered b → ⊥) → IsRooted u b → s.stands b p → u.stands b p
  places_end told b p ne free r stands =
      let free_mid : m.covered b → ⊥ = λ h. free ((x.covers (mid told)).still b h) in
      let there = came.stays.places told b p ne (λ h. h) free_mid (rooted_mid told b r) stands in
      ⊎_elim
      (λ e.
      let top : Place = place (kind_at t.dir (suc t.depth)) t.tag 0 (t.rank + suc t.depth) in
      let here = x.hangs.place (mid told) b (place (kind_at t.dir (suc t.depth)) t.tag 0 (t.rank + suc t.depth)) (x.lifting.place told) e in
      let is : place (kind_at t.dir t.depth) t.tag 0 (t.rank + t.depth) ≡ p = x.lifting.laws.one.each b (place (kind_at t.dir t.depth) t.tag 0 (t.rank + t.depth)) p ((x.lifting.can.under b e).told told).stands stands in
      subst (λ q. u.stands b q) (place_is x.lifting told (place (kind_at t.dir (suc t.depth)) t.tag 0 (t.rank + suc t.depth)) (x.lifting.place told) ∙ is) here)
      (λ not. x.frame.stays.places (mid told) b p (λ h. h) (λ g. ⊎_elim ne not g) free r there)
      (local_cases t.top b)

  hung_apart : s.tells → (b : ℕ) → HangsApart s b → IsHung u b
  hung_apart told b h =
      let ne : h.top ≢ result = λ e. (came.was.3 told).1 h.place (subst (λ y. s.stands y h.place) e h.stands) in
      let free : u.covered h.top → ⊥ = only_end h.top h.uncovered in
      let far = reaches_end told h.top b h.place h.stands h.reaches in
      ⊎_elim
      (λ e. inr (record {
        top = result;
        is_apart = apart_result;
        place = place (kind_at t.dir (suc t.depth)) t.tag 0 (t.rank + suc t.depth);
        stands = stands_result told;
        uncovered = free_result;
        reaches = reaches_from 0 (reaches_same {s = to_block h.top} {t = (u.now result).slot 0} (sym (leads_end ∙ e)) far);
      }))
      (λ not. inr (record {
        top = h.top;
        is_apart = (apart_end h.top ne not).1 h.is_apart;
        place = h.place;
        stands = places_end told h.top h.place ne free (rooted_of_apart u h.top ((apart_end h.top ne not).1 h.is_apart)) h.stands;
        uncovered = free;
        reaches = far;
      }))
      (local_cases t.top h.top)

  hung_end : s.tells → (b : ℕ) → IsHung s b → IsHung u b
  hung_end told b hung = ⊎_elim (λ r. inl ((reached_end told b).0 r)) (λ h. hung_apart told b h) hung

  -- ---- what comes in place of what

  instead_end : (b y : ℕ) → b ≢ result → u.instead b y → s.instead b y
  instead_end b y ne h = ⊎_elim
      (λ e. absurd ((x.hangs.put b e).1 y h))
      (λ not. (came.stays.instead b y ne (λ z. z)).0 ((x.frame.stays.instead b y (λ z. z) (λ g. ⊎_elim ne not g)).0 h))
      (local_cases t.top b)

  comes_end : (b y : ℕ) → t.top ≡ Local b → s.instead b y ⊎ ((b ≡ y) × (s.apart b → ⊥)) → u.instead result y
  comes_end b y e h =
      let ne = under_ne x.lifting b e in
      x.hangs.raises b y (raised_over x.lifting) e (⊎_elim
      (λ old. inl ((came.stays.instead b y ne (λ z. z)).1 old))
      (λ own. inr (own.0, λ apart. own.1 ((came.stays.apart b ne (λ z. z)).0 apart)))
      h)

  raises_end : (y : ℕ) → u.instead result y → (b : ℕ) × (t.top ≡ Local b) × (((b ≡ y) × (s.apart b → ⊥)) ⊎ s.instead b y)
  raises_end y h = ⊎_elim
      (λ old. absurd (x.lifting.instead y old))
      (λ new.
      let b = new.1.0 in
      let e = new.1.1 in
      let ne = under_ne x.lifting b e in (
        b,
        e,
        ⊎_elim
            (λ here. inl (here.0, λ apart. here.1 ((came.stays.apart b ne (λ z. z)).1 apart)))
            (λ was. inr ((came.stays.instead b y ne (λ z. z)).0 was))
            new.1.2,
      ))
      (x.hangs.raised y h)

  alone_end : s.tells → (y : ℕ) → u.instead y result → ⊥
  alone_end told y h = ⊎_elim
      (λ own.
      let is = raises_end result (subst (λ z. u.instead z result) own h) in
      let ne = under_ne x.lifting is.0 is.1 in
      ⊎_elim (λ here. ne here.0) (λ was. came.alone told is.0 ((came.stays.instead is.0 result ne (λ z. z)).1 was)) is.2)
      (λ ne. came.alone told y ((came.stays.instead y result ne (λ z. z)).1 (instead_end y result ne h)))
      (cases_eq y result)

  -- ---- images

  without : (image : Image) → u.may_leave image → IsWithout result s image
  without image is = ⊎_elim
      (λ before.
      let d = came.before image before in
      record { beside = d; apart = λ top is_top r. none_there image before d top is_top r })
      (λ put.
      let between = with_slot image result 0 ((m.now result).slot 0) in
      let d = came.before between put.1 in
      record {
        beside = record {
          other = d.other;
          was = d.was;
          same = λ b ne. record {
            bytes = sym (slot_bytes image result 0 ((m.now result).slot 0) b) ∙ (d.same b ne).bytes;
            slots = λ j. sym (slot_other image result 0 ((m.now result).slot 0) b j (inl ne)) ∙ (d.same b ne).slots j;
          };
        };
        apart = λ top is_top r. none_there between put.1 d top is_top r;
      })
      (x.images.each image is)
    where
      none_there : (before : Image) → m.may_leave before → (d : IsBeside result s before) (top : ℕ) → s.tops top → Reaches d.other (to_block top) result → ⊥
      none_there before is d top is_top r = came.unreached before is top is_top (reach_into before d.other (λ y. y ≡ result) top
          (λ y j ne. (d.same y ne).slots j)
          (λ y e far. came.unreached before is top is_top (subst (λ z. Reaches before (to_block top) z) e far)) result r)

  -- ---- all of it

  own_end : IsOwn u t (suc t.depth) 0 result
  own_end = record {
    is_pinned = (x.frame.stays.marks result (λ h. h)).0 came.is.1;
    live = ap (λ (q : Label). q.state) result_label ∙ x.lifting.is_live;
    has_kind = ap (λ (q : Label). q.kind) result_label ∙ x.lifting.kind;
    tagged = ap (λ (q : Label). q.tag) result_label ∙ x.lifting.tagged;
    current = ap (λ (q : Label). q.epoch) result_label ∙ x.lifting.is_current ∙ sym x.whole.same_high;
    long = ap (λ (xs : List ℕ). length xs) (x.puts.bytes result) ∙ x.lifting.long;
    told = λ now. let told = x.whole.still_tells.0 now in record {
      stands = stands_result told;
      uncovered = free_result;
      hung = inr (record { top = result; is_apart = apart_result; place = place (kind_at t.dir (suc t.depth)) t.tag 0 (t.rank + suc t.depth); stands = stands_result told; uncovered = free_result; reaches = reaches_itself u.now result });
      alone = λ y h. absurd (alone_end told y h);
    };
  }

  pub raises : Raises t result s u
  raises = record {
    made = made_end;
    free = came.free;
    was = (came.was.1, came.was.3);
    own = own_end;
    leads = leads_end;
    bare = bare_end;
    is = ((x.all.same_blocks result).1 came.is.0, (x.frame.stays.marks result (λ h. h)).2 came.is.2, apart_result);
    same = same_end;
    images = without;
    labels = label_end;
    marks = λ b ne.
        let first = came.stays.marks b ne in
        let last = x.frame.stays.marks b (λ h. h) in
        (λ h. last.0 (first.0 h), λ h. last.1 (first.1 h), λ h. last.2 (first.2 h));
    put = λ b e. x.hangs.put b e;
    apart = apart_end;
    instead = instead_end;
    alone = alone_end;
    raises = raises_end;
    comes = comes_end;
    places = places_end;
    rooted = λ told b ne r. came.stays.rooted told b ne (rooted_mid told b r);
    still = still_end;
    only = only_end;
    reached = reached_end;
    hung = hung_end;
    waits = λ a on j not_a not_on w. x.hangs.waits a on j (inl not_on) (came.stays.waits a on j not_a not_on (λ h. h) w);
    no_wait = record { each = λ a on j h w. came.no_wait.each a on j h (x.no_wait.each a on j h w) };
    clearing = λ b j h. let old = came.order.clearing b j (x.order.clearing b j h).1 in (old.0, old.1);
    goes_on = λ b j ne h. x.order.goes_on b j (λ z. z) (came.order.goes_on b j ne h);
    dirty = λ b d. ⊎_elim
        (λ before. ⊎_elim
        (λ old. inl old)
        (λ h. inr (⊎_elim (λ e. inl e) (λ e. inr (e ∙ sym (x.all.same_label_blocks result))) h))
        (came.dirty b before))
        (λ e. inr (inl e))
        (x.frame.dirty b d);
    moments = x.frame.uses.moments ∙ came.uses.moments;
    left = λ k image h. came.uses.left k image (x.frame.uses.left k image h);
    pins = x.frame.uses.pins ∙ came.uses.pins;
    room = let first = came.uses.room in let last = x.frame.uses.room in let none = x.no_cost in omega (arith, first, last, none);
    spare = let first = came.uses.spare in let last = x.frame.uses.spare in omega (arith, first, last);
    usable = let first = came.uses.usable in let last = x.frame.uses.usable in omega (arith, first, last);
    numbers = record { next = x.frame.numbers.next ∙ came.numbers.next; grants = λ h. x.frame.numbers.grants (came.numbers.grants h) };
  }

  -- ---- and once more

  abbrev Fine : ℕ → Type 0
  Fine b = ((u.label b).state ≡ Live) × ((u.label b).epoch ≤ u.high) × (u.covered b → ⊥)

  fine_end : (b : ℕ) → ((s.label b).state ≡ Live) × ((s.label b).epoch ≤ s.high) × (s.covered b → ⊥) → Fine b
  fine_end b is =
      let ne : b ≢ result = λ f. came.was.0 (ap (λ y. (s.label y).state) (sym f) ∙ is.0) in (
        ap (λ (q : Label). q.state) (label_end b ne) ∙ is.0,
        subst (λ k. (u.label b).epoch ≤ k) (sym x.whole.same_high) (subst (λ (q : Label). q.epoch ≤ s.high) (sym (label_end b ne)) is.1),
        only_end b is.2,
      )

  fine_result : Fine result
  fine_result =
      let epoch : (u.label result).epoch ≡ u.high = own_end.current in
      (own_end.live, omega (arith, epoch), free_result)

  below_top : s.tells → (p : Pointer) → t.top ≡ p → (b : ℕ) → Reaches u.now (To p) b → Fine b
  below_top told Nil e b r = absurd (lost u.now r.path (To Nil) nil_local b r.leads)
  below_top told (Local y) e b r =
      let under = (x.lifting.can.under y e).told told in
      fine_end b (under.brings.each b (back_end told y b (place (kind_at t.dir t.depth) t.tag 0 (t.rank + t.depth)) under.stands r))
  below_top told (Held score) e b r = absurd (lost u.now r.path (To (Held score)) (λ c h. let f : Held score ≡ Local c = h in cc) b r.leads)

  below_result : s.tells → (b : ℕ) (path : List ℕ) → target (walk u.now (to_block result) path) ≡ Local b → Fine b
  below_result told b [] e = subst Fine (local_eq e) fine_result
  below_result told b (j ∷ path) e = ⊎_elim
      (λ first. below_top told t.top refl b (reaches_same {s = (u.now result).slot 0} {t = To t.top} leads_end (record { path = path; leads = subst (λ i. target (walk u.now ((u.now result).slot i) path) ≡ Local b) first e })))
      (λ ne. absurd (lost u.now path ((u.now result).slot j) (λ c h. nil_local c (sym (bare_end j ne) ∙ h)) b e))
      (cases_eq j 0)

  pub again : CanRaise u (raised t result)
  again = record {
    holds = x.end.small result ((x.all.same_blocks result).1 came.is.0);
    under = λ b e. subst (λ y. IsUnder u (raised t result) y) (local_eq e) (record {
      is_one = (x.all.same_blocks result).1 came.is.0;
      live = own_end.live;
      current = own_end.current;
      told = λ now. let told = x.whole.still_tells.0 now in record {
        free = inl apart_result;
        brings = record { each = λ y r. below_result told y r.path r.leads };
        stands = let is : suc t.depth ≡ t.depth + 1 = omega arith in subst (λ d. u.stands result (place (kind_at t.dir d) t.tag 0 (t.rank + d))) is (stands_result told);
      };
    });
  }
