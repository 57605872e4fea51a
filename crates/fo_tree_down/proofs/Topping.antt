-- The top of a source is made current.
use Rattle.std.proofs.Common.{◌≡◌, ◌≢◌, ◌⊎◌, ◌+◌, ◌-◌, ◌^◌, ◌<◌, ◌≤◌, ℕ, zero, Bool, true, false, List, length, inl, inr, ⊎_elim, refl, sym, ◌∙◌, ap, subst, arith}
use Rattle.std.proofs.lemmas.Bool.{cases_eq}
use Rattle.fo_image.specs.declared.types.Label.{Label}
use Rattle.fo_image.specs.declared.types.State.TheVariants.{Live}
use Rattle.fo_image.specs.declared.types.Score.{Score}
use Rattle.fo_image.specs.declared.types.Pointer.{Pointer}
use Rattle.fo_image.specs.declared.types.Pointer.TheVariants.{Nil, Local, Score as Held}
use Rattle.fo_tree_own.specs.of_crash.declared.place.Place.{Place}
use Rattle.fo_tree_own.specs.of_crash.Images.{Image, Reaches, to_block}
use Rattle.fo_tree_own.specs.of_crash.Places.{place, super_place}
use Rattle.fo_tree_own.proofs.of_crash.Places.{stands_below}
use Rattle.fo_tree_own.proofs.of_crash.Reach.{reach_aside, reach_into, reaches_itself}
use Rattle.fo_tree_look.specs.of_ports.Blocks.{IsLevel}
use Rattle.fo_tree_look.specs.of_ports.State.{State, KeepsAll}
use Rattle.fo_tree_look.specs.of_ports.Sources.{IsHung, Made, IsMade, StaysMarked, IsInstead, ComesFor}
use Rattle.fo_tree_look.proofs.of_looks.Looks.{rooted_of_apart}
use Rattle.fo_tree_look.specs.of_tree_read.declared.tree.Tree.{Tree}
use Rattle.fo_tree_look.specs.of_tree_read.Tree.{kind_at, Hangs}
use Rattle.fo_tree_look.specs.declared.ways.Kept.{Kept}
use Rattle.fo_tree_look.specs.Source.{IsTold, IsPrepared, IsKept, Ready, IsTopCurrent}
use Rattle.fo_image.specs.Format.{kind_code}
use Rattle.fo_tree_own.specs.Step.{IsOwn, Becomes}
use Rattle.fo_tree_own.proofs.Link.{Laws, Came}
use Rattle.fo_tree_down.specs.Way.{OnWay, IsBefore, Descends, Comes, IsTopOf}

-- A top came: it was given out for the place of a top, and comes in the place of the top that was, if of any.
pub record Topped (t : Tree) (kept : List Kept) (l : Label) (result : ℕ) (s m : State) : Type 0 where
  pub came : Came l result s m
  pub all : KeepsAll s m
  pub laws : Laws s
  pub is_live : l.state ≡ Live
  pub is_current : l.epoch ≡ s.high
  pub has_kind : l.kind ≡ kind_at t.dir t.depth
  pub tagged : l.tag ≡ t.tag
  pub long : length ((m.now result).bytes) ≡ 8192
  pub raised : (y : ℕ) → m.instead result y → t.top ≡ Local y
  pub raised_old : (y : ℕ) → m.instead result y → (s.label y).epoch < s.high
  pub raises : (y : ℕ) → t.top ≡ Local y → m.instead result y
  pub was : s.tells → (y : ℕ) → t.top ≡ Local y → ((s.label y).state ≡ Live) × ((s.label y).epoch < s.high) × (s.apart y → ⊥)
  pub made_apart : s.tells → (y z : ℕ) → s.instead y z → s.apart y
  pub stands : s.tells → m.stands result (place (kind_at t.dir t.depth) t.tag 0 (t.rank + t.depth))
  pub content : Becomes s m t kept t.depth t.top result

module _ {t : Tree} {kept : List Kept} {l : Label} {result : ℕ} {s m : State} (x : Topped t kept l result s m) where
  made_result : Made s m result
  made_result = (x.came.was.0, ap (λ (q : Label). q.state) x.came.label ∙ x.is_live)

  ne_result : (b : ℕ) → (Made s m b → ⊥) → b ≢ result
  ne_result b not e = not (subst (λ y. Made s m y) (sym e) made_result)

  made_is : (b : ℕ) → Made s m b → b ≡ result
  made_is b made = ⊎_elim (λ e. e) (λ ne. absurd (made.0 (ap (λ (q : Label). q.state) (sym (x.came.stays.labels b ne)) ∙ made.1))) (cases_eq b result)

  away : s.tells → (b : ℕ) → b ≡ result → Reaches s.now (to_block 1) b → ⊥
  away told b e r =
      let q = stands_below super_place (x.laws.placed told) (x.laws.ranked told) (x.laws.super_stands told) (subst (λ y. Reaches s.now (to_block 1) y) e r) in
      (x.came.was.3 told).1 q.0 q.1

  pub in_tree : s.tells → (b : ℕ) → Reaches s.now (to_block 1) b → Reaches m.now (to_block 1) b
  in_tree told b r = reach_aside s.now m.now (λ y. y ≡ result) 1 (λ y j ne. sym ((x.came.others y ne).slots j)) (away told) b r

  hung_end : s.tells → (b : ℕ) → IsHung s b → IsHung m b
  hung_end told b hung = ⊎_elim
      (λ r. inl (in_tree told b r))
      (λ h.
      let unplaced : (p : Place) → s.stands result p → ⊥ = (x.came.was.3 told).1 in
      let ne : h.top ≢ result = λ e. unplaced h.place (subst (λ y. s.stands y h.place) e h.stands) in
      let free : m.covered h.top → ⊥ = x.came.only h.top ne h.uncovered in
      let apart : m.apart h.top = (x.came.stays.apart h.top ne (λ n. n)).1 h.is_apart in
      inr (record {
        top = h.top;
        is_apart = apart;
        place = h.place;
        stands = x.came.stays.places told h.top h.place ne (λ n. n) free (rooted_of_apart m h.top apart) h.stands;
        uncovered = free;
        reaches = reach_aside s.now m.now (λ y. y ≡ result) h.top (λ y j off. sym ((x.came.others y off).slots j))
            (λ y e far. let q = stands_below h.place (x.laws.placed told) (x.laws.ranked told) h.stands (subst (λ z. Reaches s.now (to_block h.top) z) e far) in unplaced q.0 q.1) b h.reaches;
      }))
      hung

  images : (k : ℕ) (image : Image) → m.may_leave image → IsBefore s m t (OnWay s t zero k) (t.depth - zero) image
  images k image is =
      let d = x.came.before image is in
      record {
        other = d.other;
        was = d.was;
        bytes = λ b not. (d.same b (ne_result b not)).bytes;
        slots = λ b j not. inl ((d.same b (ne_result b not)).slots j);
        led = λ b j not. inl ((d.same b (ne_result b not)).slots j);
        apart = λ top b is_top made r. x.came.unreached image is top is_top
            (reach_into image d.other (λ y. y ≡ result) top (λ y j ne. (d.same y ne).slots j)
            (λ y e far. x.came.unreached image is top is_top (subst (λ z. Reaches image (to_block top) z) e far)) result
            (subst (λ z. Reaches d.other (to_block top) z) (made_is b made) r));
      }

  made_end : IsMade t.tag s m result
  made_end = record {
    free = x.came.free;
    was = (x.came.was.1, λ told. (x.came.was.3 told).0);
    labelled = (ap (λ (q : Label). q.epoch) x.came.label ∙ x.is_current, ap (λ (q : Label). q.tag) x.came.label ∙ x.tagged);
    is_one = x.came.is.0;
    is_pinned = x.came.is.1;
    is_fresh = x.came.is.2;
  }

  marked_end : (b : ℕ) → (Made s m b → ⊥) → StaysMarked s m b
  marked_end b not = let ne = ne_result b not in record {
    label = x.came.stays.labels b ne;
    marks = x.came.stays.marks b ne;
  }

  only_end : (b : ℕ) → (s.covered b → ⊥) → m.covered b → ⊥
  only_end b free h = ⊎_elim (λ e. x.came.is.4 (subst (λ y. m.covered y) e h)) (λ ne. x.came.only b ne free h) (cases_eq b result)

  pub descends : (k : ℕ) → Descends t (OnWay s t zero k) (t.depth - zero) s m
  descends k = record {
    bytes = λ b not. (x.came.others b (ne_result b not)).bytes;
    slots = λ b j not. inl ((x.came.others b (ne_result b not)).slots j);
    led = λ b j not. inl ((x.came.others b (ne_result b not)).slots j);
    images = images k;
    made = λ b made. subst (λ y. IsMade t.tag s m y) (sym (made_is b made)) made_end;
    others = marked_end;
    apart = λ b not. x.came.stays.apart b (ne_result b not) (λ h. h);
    places = λ told b p not other free r stands. x.came.stays.places told b p (ne_result b not) (λ h. h) free r stands;
    rooted = λ told b not r. x.came.stays.rooted told b (ne_result b not) r;
    instead = λ b y h. ⊎_elim
        (λ e. inr (subst (λ z. Made s m z) (sym e) made_result, x.raised y (subst (λ z. m.instead z y) e h)))
        (λ ne. inl ((x.came.stays.instead b y ne (λ n. n)).0 h))
        (cases_eq b result);
    older = λ b y h. ⊎_elim
        (λ e. inr (x.raised_old y (subst (λ z. m.instead z y) e h)))
        (λ ne. inl ((x.came.stays.instead b y ne (λ n. n)).0 h))
        (cases_eq b result);
    aged = λ b free h. absurd (only_end b free h);
    still = λ b h. x.came.still b (λ e. x.came.was.2 (subst (λ y. s.covered y) e h)) h;
    only = λ b free other h. only_end b free h;
    leaves = λ told b r gone. absurd (gone (in_tree told b r));
    in_tree = λ told b other r. in_tree told b r;
    current = λ told b now r. in_tree told b r;
    hung = λ told b other h. hung_end told b h;
    waits = λ a b j not_a not_b w. x.came.stays.waits a b j (ne_result a not_a) (ne_result b not_b) (λ h. h) w;
    no_wait = x.came.no_wait;
    clearing = λ b j h. let old = x.came.order.clearing b j h in (λ made. old.0 (made_is b made), old.1);
    goes_on = λ b j not h. x.came.order.goes_on b j (ne_result b not) h;
    dirty = λ b d. ⊎_elim
        (λ old. inl old)
        (λ h. inr (⊎_elim (λ e. inl (inl (subst (λ y. Made s m y) (sym e) made_result))) (λ e. inr (result, made_result, e)) h))
        (x.came.dirty b d);
    moments = x.came.uses.moments;
    left = x.came.uses.left;
    pins = x.came.uses.pins;
    usable = let taken = x.came.uses.spare in let used = x.came.uses.usable in omega (arith, taken, used);
    room = let r = x.came.uses.room in omega (arith, r);
    numbers = x.came.numbers;
  }

  own : (k : ℕ) → k < 409 ^ zero → IsOwn m t (t.depth - zero) k result
  own k few = let first : 0 ≡ k = omega (arith, few) in let all : t.depth ≡ t.depth - zero = omega arith in
      subst (λ i. IsOwn m t (t.depth - zero) i result) first (subst (λ level. IsOwn m t level 0 result) all top_own)
    where
      top_own : IsOwn m t t.depth 0 result
      top_own = record {
        is_pinned = x.came.is.1;
        live = ap (λ (q : Label). q.state) x.came.label ∙ x.is_live;
        has_kind = ap (λ (q : Label). q.kind) x.came.label ∙ x.has_kind;
        tagged = ap (λ (q : Label). q.tag) x.came.label ∙ x.tagged;
        current = ap (λ (q : Label). q.epoch) x.came.label ∙ x.is_current ∙ sym x.all.same_high;
        long = x.long;
        told = λ now. let told = x.all.still_tells.0 now in record {
          stands = x.stands told;
          uncovered = x.came.is.4;
          hung = inr (record { top = result; is_apart = x.came.is.3; place = place (kind_at t.dir t.depth) t.tag 0 (t.rank + t.depth); stands = x.stands told; uncovered = x.came.is.4; reaches = reaches_itself m.now result });
          alone = λ y h. absurd (x.came.alone told y h);
        };
      }

  -- it comes in the place of the top that was
  instead_end : s.tells → IsInstead m t.top result
  instead_end told = record {
    is_apart = x.came.is.3;
    place = place (kind_at t.dir t.depth) t.tag 0 (t.rank + t.depth);
    stands = x.stands told;
    uncovered = x.came.is.4;
    instead = λ y. (x.raised y, x.raises y);
    live = λ y e. let is = x.was told y e in ap (λ (q : Label). q.state) (x.came.stays.labels y (ne_live y is.0)) ∙ is.0;
    keeps = λ y e.
        let is = x.was told y e in
        let same : (m.label y).epoch ≡ (s.label y).epoch = ap (λ (q : Label). q.epoch) (x.came.stays.labels y (ne_live y is.0)) in
        let high = x.all.same_high in
        let older = is.1 in
        inl (omega (arith, same, high, older));
  }
    where
      ne_live : (y : ℕ) → (s.label y).state ≡ Live → y ≢ result
      ne_live y live e = x.came.was.0 (ap (λ z. (s.label z).state) (sym e) ∙ live)

  comes_end : s.tells → (from : Pointer) → ComesFor s t.top from → ComesFor m (Local result) from
  comes_end told from (inl h) = inr (result, refl, subst (λ p. IsInstead m p result) h.0 (instead_end told))
  comes_end told from (inr h) = absurd ((x.was told h.0 h.1).2 h.2.is_apart)

  only_comes : s.tells → (y z : ℕ) → m.instead y z → (y ≡ result) ⊎ (s.instead y z × (t.top ≡ Local y → ⊥))
  only_comes told y z h = ⊎_elim
      (λ e. inl e)
      (λ ne. let was = (x.came.stays.instead y z ne (λ n. n)).0 h in inr (was, λ e. (x.was told y e).2 (x.made_apart told y z was)))
      (cases_eq y result)

  pub top_topped : IsTopOf s m t result
  top_topped = record {
    from = inl made_result;
    apart = λ made. x.came.is.3;
    comes = comes_end;
    only = only_comes;
    live = ap (λ (q : Label). q.state) x.came.label ∙ x.is_live;
    current = ap (λ (q : Label). q.epoch) x.came.label ∙ x.is_current ∙ sym x.all.same_high;
  }

  pub comes_topped : (k : ℕ) → k < 409 ^ zero → Comes s m t kept zero k result
  comes_topped k few = record {
    own = own k few;
    descends = descends k;
    from = inl made_result;
    content = let all : t.depth ≡ t.depth - zero = omega arith in subst (λ level. Becomes s m t kept level t.top result) all x.content;
  }

-- only the top was given out
pub came_made : {l : Label} {result : ℕ} {s m : State} → Came l result s m → (b : ℕ) → Made s m b → b ≡ result
came_made {result = result} x b made = ⊎_elim (λ e. e) (λ ne. absurd (made.0 (ap (λ (q : Label). q.state) (sym (x.stays.labels b ne)) ∙ made.1))) (cases_eq b result)

-- ---- the top that is there

pub level_at : (dir : Bool) (level : ℕ) → level ≤ 4 → IsLevel (kind_at dir level)
level_at true level le = le
level_at false level le = le

pub own_here : (s : State) (t : Tree) (at : ℕ) → Hangs s t → t.top ≡ Local at → IsPrepared s (kind_at t.dir t.depth) t.tag at → (s.tells → IsTold s t.top at) → (s.label at).epoch ≡ s.high → IsOwn s t t.depth 0 at
own_here s t at hangs top is told current = record {
  is_pinned = is.is_pinned;
  live = is.live;
  has_kind = is.has_kind;
  tagged = is.tagged;
  current = current;
  long = is.long;
  told = λ now. record { stands = (hangs.told now at top).0; uncovered = (told now).uncovered; hung = (told now).hung; alone = λ y h. ((told now).alone y h).0 };
}

-- a current top stays, and so does what comes in the place of what
pub top_here : (s : State) (t : Tree) (at : ℕ) → t.top ≡ Local at → (s.label at).state ≡ Live → (s.label at).epoch ≡ s.high → IsTopOf s s t at
top_here s t at is live current = record {
  from = inr is;
  apart = λ made. absurd (made.0 made.1);
  comes = λ told from h. subst (λ p. ComesFor s p from) is h;
  only = λ told y z h. ⊎_elim (λ e. inl e) (λ ne. inr (h, λ e. ne (let same : Local y ≡ Local at = sym e ∙ is in cc))) (cases_eq y at);
  live = live;
  current = current;
}

pub nil_local : (b : ℕ) → Nil ≡ Local b → ⊥
nil_local b e = cc

pub held_local : (score : Score) (b : ℕ) → Held score ≡ Local b → ⊥
held_local score b e = cc

pub local_eq : {a b : ℕ} → Local a ≡ Local b → a ≡ b
local_eq e = cc

pub top_epoch : {s : State} {t : Tree} {at : ℕ} → t.top ≡ Local at → IsTopCurrent s t → (s.label at).epoch ≡ s.high
top_epoch {s = s} is top = subst (λ b. (s.label b).epoch ≡ s.high) (local_eq (sym top.is ∙ is)) top.current

pub top_local : {s : State} {t : Tree} → t.top ≡ Nil → IsTopCurrent s t → ⊥
top_local is top = nil_local top.at (sym is ∙ top.is)

pub top_held : {s : State} {t : Tree} {score : Score} → t.top ≡ Held score → IsTopCurrent s t → ⊥
top_held {score = score} is top = held_local score top.at (sym is ∙ top.is)

pub ready_local : (s : State) (t : Tree) (kept : List Kept) (at : ℕ) → t.top ≡ Local at → Ready s t kept zero t.top → IsPrepared s (kind_at t.dir t.depth) t.tag at
ready_local s t kept at is ready = let all : t.depth - zero ≡ t.depth = omega arith in subst (λ level. IsPrepared s (kind_at t.dir level) t.tag at) all (subst (λ (p : Pointer). Ready s t kept zero p) is ready)

pub ready_kept : (s : State) (t : Tree) (kept : List Kept) (score : Score) → t.top ≡ Held score → Ready s t kept zero t.top → IsKept kept score (kind_code (kind_at t.dir t.depth))
ready_kept s t kept score is ready = let all : t.depth - zero ≡ t.depth = omega arith in subst (λ level. IsKept kept score (kind_code (kind_at t.dir level))) all (subst (λ (p : Pointer). Ready s t kept zero p) is ready).0
