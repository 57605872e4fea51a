-- The top of a source was copied.
use Rattle.std.proofs.Common.{◌≡◌, ◌≢◌, ◌+◌, ◌*◌, ◌/◌, ◌%◌, ◌^◌, ◌<◌, ◌≤◌, ℕ, zero, suc, Bool, true, false, List, [], ◌∷◌, inl, inr, ⊎_elim, sym, ◌∙◌, ap, subst, arith}
use Rattle.std.proofs.lemmas.Bool.{cases_eq}
use Rattle.std.proofs.Math.Nat.{pow-succ'}
use Rattle.fo_image.specs.declared.types.Kind.{Kind}
use Rattle.fo_image.specs.declared.types.Kind.TheVariants.{Root}
use Rattle.fo_image.specs.declared.types.Label.{Label}
use Rattle.fo_image.specs.declared.types.Score.{Score}
use Rattle.fo_image.specs.declared.types.State.TheVariants.{Live}
use Rattle.fo_image.specs.declared.types.Pointer.{Pointer}
use Rattle.fo_image.specs.declared.types.Pointer.TheVariants.{Nil, Local}
use Rattle.fo_crash.specs.declared.slot.Slot.{Slot}
use Rattle.fo_crash.specs.declared.place.Place.{Place}
use Rattle.fo_crash.specs.Images.{Image, SameContent, Reaches, target, walk, to_block}
use Rattle.fo_crash.specs.Places.{place, super_place}
use Rattle.fo_crash.proofs.Places.{stands_below, never_above}
use Rattle.fo_crash.proofs.Reach.{reach_aside, reach_into, reaches_joins}
use Rattle.fo_ports.specs.State.{State, KeepsAll}
use Rattle.fo_ports.specs.Sources.{IsHung, Made, IsMade}
use Rattle.fo_tree_read.proofs.of_looks.Looks.{rooted_of_apart}
use Rattle.fo_tree_read.specs.declared.tree.Tree.{Tree}
use Rattle.fo_tree_read.specs.Tree.{kind_at, kind_down, below, block_at}
use Rattle.fo_tree_look.specs.declared.ways.Kept.{Kept}
use Rattle.fo_tree_look.specs.Source.{Ready, WayReady, Prepared, or_held, find_kept, seen}
use Rattle.fo_tree_down.proofs.of_tree_own.Link.{Laws, Came, local_eq}
use Rattle.fo_tree_down.specs.Way.{IsWayIndex, with_top}
use Rattle.fo_tree_down.specs.Clear.{EndsClear, last_leaf}
use Rattle.fo_tree_raise.specs.Raise.{IsUnder, CanRaise}
use Rattle.fo_tree_raise.specs.Levels.{IsAmong, Adds}
use Rattle.fo_tree_raise.proofs.Levels.{below_same}
use Rattle.fo_tree_raise.proofs.Clear.{index_above, way_part}

-- A copy of the top was given out.
pub record Holding (t : Tree) (at : ℕ) (l : Label) (result : ℕ) (s m : State) : Type 0 where
  pub came : Came l result s m
  pub all : KeepsAll s m
  pub laws : Laws s
  pub later : Laws m
  pub is_live : l.state ≡ Live
  pub is_current : l.epoch ≡ s.high
  pub tagged : l.tag ≡ t.tag
  pub top : t.top ≡ Local at
  pub was_live : (s.label at).state ≡ Live
  pub in_tree : s.tells → Reaches s.now (to_block 1) at
  pub stood : s.tells → s.stands at (place (kind_at t.dir t.depth) t.tag 0 (t.rank + t.depth))
  pub here : SameContent (m.now result) (s.now at)
  pub instead : (y : ℕ) → m.instead result y → y ≡ at
  pub stands : s.tells → m.stands result (place (kind_at t.dir t.depth) t.tag 0 (t.rank + t.depth))

module _ {t : Tree} {at : ℕ} {l : Label} {result : ℕ} {s m : State} (x : Holding t at l result s m) where
  pub made_result : Made s m result
  made_result = (x.came.was.0, ap (λ (q : Label). q.state) x.came.label ∙ x.is_live)

  ne_result : (b : ℕ) → (Made s m b → ⊥) → b ≢ result
  ne_result b not e = not (subst (λ y. Made s m y) (sym e) made_result)

  pub made_is : (b : ℕ) → Made s m b → b ≡ result
  made_is b made = ⊎_elim (λ e. e) (λ ne. absurd (made.0 (ap (λ (q : Label). q.state) (sym (x.came.stays.labels b ne)) ∙ made.1))) (cases_eq b result)

  away : s.tells → (w : ℕ) (p : Place) → s.stands w p → Reaches s.now (to_block w) result → ⊥
  away told w p stands r =
      let q = stands_below p (x.laws.placed told) (x.laws.ranked told) stands r in
      (x.came.was.3 told).1 q.0 q.1

  on : s.tells → (w b : ℕ) (p : Place) → s.stands w p → Reaches s.now (to_block w) b → Reaches m.now (to_block w) b
  on told w b p stands r = reach_aside s.now m.now (λ y. y ≡ result) w (λ y j ne. sym ((x.came.others y ne).slots j)) (λ y e far. away told w p stands (subst (λ z. Reaches s.now (to_block w) z) e far)) b r

  back : s.tells → (w b : ℕ) (p : Place) → s.stands w p → Reaches m.now (to_block w) b → Reaches s.now (to_block w) b
  back told w b p stands r = reach_into s.now m.now (λ y. y ≡ result) w (λ y j ne. sym ((x.came.others y ne).slots j)) (λ y e far. away told w p stands (subst (λ z. Reaches s.now (to_block w) z) e far)) b r

  only_end : (b : ℕ) → (s.covered b → ⊥) → m.covered b → ⊥
  only_end b free h = ⊎_elim (λ e. x.came.is.4 (subst (λ y. m.covered y) e h)) (λ ne. x.came.only b ne free h) (cases_eq b result)

  hung_end : s.tells → (b : ℕ) → IsHung s b → IsHung m b
  hung_end told b hung = ⊎_elim
      (λ r. inl (on told 1 b super_place (x.laws.super_stands told) r))
      (λ h.
      let ne : h.top ≢ result = λ e. (x.came.was.3 told).1 h.place (subst (λ y. s.stands y h.place) e h.stands) in
      let free : m.covered h.top → ⊥ = x.came.only h.top ne h.uncovered in
      let apart : m.apart h.top = (x.came.stays.apart h.top ne (λ n. n)).1 h.is_apart in
      inr (record {
        top = h.top;
        is_apart = apart;
        place = h.place;
        stands = x.came.stays.places told h.top h.place ne (λ n. n) free (rooted_of_apart m h.top apart) h.stands;
        uncovered = free;
        reaches = on told h.top b h.place h.stands h.reaches;
      }))
      hung

  among : (image : Image) → m.may_leave image → IsAmong s m image
  among image is =
      let d = x.came.before image is in
      record {
        other = d.other;
        was = d.was;
        same = λ b not. d.same b (ne_result b not);
        apart = λ top b is_top made r. x.came.unreached image is top is_top
            (reach_into image d.other (λ y. y ≡ result) top (λ y j ne. (d.same y ne).slots j)
            (λ y e far. x.came.unreached image is top is_top (subst (λ z. Reaches image (to_block top) z) e far)) result
            (subst (λ z. Reaches d.other (to_block top) z) (made_is b made) r));
      }

  pub adds_copy : Adds t.tag (λ b. t.top ≡ Local b) s m
  adds_copy = record {
    same = λ b not. x.came.others b (ne_result b not);
    images = among;
    made = λ b made. subst (λ y. IsMade t.tag s m y) (sym (made_is b made)) (record {
      free = x.came.free;
      was = (x.came.was.1, λ told. (x.came.was.3 told).0);
      labelled = (ap (λ (q : Label). q.epoch) x.came.label ∙ x.is_current, ap (λ (q : Label). q.tag) x.came.label ∙ x.tagged);
      is_one = x.came.is.0;
      is_pinned = x.came.is.1;
      is_fresh = x.came.is.2;
    });
    uncovered = λ b made h. x.came.is.4 (subst (λ y. m.covered y) (made_is b made) h);
    labels = λ b not. x.came.stays.labels b (ne_result b not);
    marks = λ b not. x.came.stays.marks b (ne_result b not);
    apart = λ b not. let a = x.came.stays.apart b (ne_result b not) (λ n. n) in (a.0, λ h. inl (a.1 h));
    places = λ told b p not free r stands. x.came.stays.places told b p (ne_result b not) (λ n. n) free r stands;
    rooted = λ told b not r. x.came.stays.rooted told b (ne_result b not) r;
    instead = λ b y h. ⊎_elim
        (λ e. inr (subst (λ z. Made s m z) (sym e) made_result, inl (subst (λ z. t.top ≡ Local z) (sym (x.instead y (subst (λ z. m.instead z y) e h))) x.top)))
        (λ ne. inl (λ made. ne (made_is b made), (x.came.stays.instead b y ne (λ n. n)).0 h))
        (cases_eq b result);
    still = λ b h. x.came.still b (λ e. x.came.was.2 (subst (λ y. s.covered y) e h)) h;
    only = only_end;
    reached = λ told b. (on told 1 b super_place (x.laws.super_stands told), back told 1 b super_place (x.laws.super_stands told));
    hung = hung_end;
    waits = λ a b j not_a not_b w. x.came.stays.waits a b j (ne_result a not_a) (ne_result b not_b) (λ h. h) w;
    no_wait = x.came.no_wait;
    clearing = λ b j h. let old = x.came.order.clearing b j h in (λ made. old.0 (made_is b made), old.1);
    goes_on = λ b j not h. x.came.order.goes_on b j (ne_result b not) h;
    dirty = λ b d. ⊎_elim
        (λ old. inl old)
        (λ h. inr (⊎_elim (λ e. inl (subst (λ y. Made s m y) (sym e) made_result)) (λ e. inr (result, made_result, e)) h))
        (x.came.dirty b d);
    moments = x.came.uses.moments;
    left = x.came.uses.left;
    pins = x.came.uses.pins;
    usable = let left = x.came.uses.usable in let spent = x.came.uses.spare in omega (arith, left, spent);
    room = let r = x.came.uses.room in omega (arith, r);
    numbers = x.came.numbers;
  }

  -- ---- what hangs from the copy

  at_ne : at ≢ result
  at_ne e = x.came.was.0 (ap (λ b. (s.label b).state) (sym e) ∙ x.was_live)

  at_one : s.tells → at ≢ 1
  at_one told e =
      let p : Place = place (kind_at t.dir t.depth) t.tag 0 (t.rank + t.depth) in
      root_apart t.dir t.depth (ap (λ (q : Place). q.kind) (x.laws.one.each 1 (place (kind_at t.dir t.depth) t.tag 0 (t.rank + t.depth)) super_place (subst (λ y. s.stands y (place (kind_at t.dir t.depth) t.tag 0 (t.rank + t.depth))) e (x.stood told)) (x.laws.super_stands told)))
    where
      root_apart : (dir : Bool) (level : ℕ) → kind_at dir level ≡ Root → ⊥
      root_apart true level e = cc
      root_apart false level e = cc

  -- nothing below the top leads back to block 1
  never_one : s.tells → Reaches s.now (to_block at) 1 → ⊥
  never_one told r =
      let q = stands_below super_place (x.laws.placed told) (x.laws.ranked told) (x.laws.super_stands told) (x.in_tree told) in
      ⊎_elim
      (λ lt. never_above q.0 super_place x.laws.one (x.laws.placed told) (x.laws.ranked told) q.1 (x.laws.super_stands told) lt r)
      (λ e. at_one told (sym e.0))
      q.2

  abbrev Fine : ℕ → Type 0
  Fine b = ((m.label b).state ≡ Live) × ((m.label b).epoch ≤ m.high) × (m.covered b → ⊥)

  alike : (j : ℕ) → (m.now result).slot j ≡ (m.now at).slot j
  alike j = x.here.slots j ∙ sym ((x.came.others at at_ne).slots j)

  brought : s.tells → (b : ℕ) (path : List ℕ) → target (walk m.now (to_block result) path) ≡ Local b → Fine b
  brought told b [] e =
      let epoch : (m.label result).epoch ≡ m.high = ap (λ (q : Label). q.epoch) x.came.label ∙ x.is_current ∙ sym x.all.same_high in
      subst Fine (local_eq e) (ap (λ (q : Label). q.state) x.came.label ∙ x.is_live, omega (arith, epoch), x.came.is.4)
  brought told b (j ∷ path) e =
      let near : Reaches m.now (to_block at) b = record { path = j ∷ path; leads = ap (λ q. target (walk m.now q path)) (sym (alike j)) ∙ e } in
      let was : Reaches s.now (to_block at) b = back told at b (place (kind_at t.dir t.depth) t.tag 0 (t.rank + t.depth)) (x.stood told) near in
      let apart : b ≢ 1 = λ f. never_one told (subst (λ y. Reaches s.now (to_block at) y) f was) in
      let is = x.laws.live b told apart (reaches_joins (x.in_tree told) was) in
      let ne : b ≢ result = λ f. x.came.was.0 (ap (λ y. (s.label y).state) (sym f) ∙ is.0) in
      let label = x.came.stays.labels b ne in (
        ap (λ (q : Label). q.state) label ∙ is.0,
        subst (λ n. (m.label b).epoch ≤ n) (sym x.all.same_high) (subst (λ (q : Label). q.epoch ≤ s.high) (sym label) is.1),
        x.came.only b ne is.2,
      )

  pub can_copy : CanRaise m (with_top t result)
  can_copy = record {
    holds = x.later.small result x.came.is.0;
    under = λ b e. subst (λ y. IsUnder m (with_top t result) y) (local_eq e) (record {
      is_one = x.came.is.0;
      live = ap (λ (q : Label). q.state) x.came.label ∙ x.is_live;
      current = ap (λ (q : Label). q.epoch) x.came.label ∙ x.is_current ∙ sym x.all.same_high;
      told = λ now. let told = x.all.still_tells.0 now in record {
        free = inl x.came.is.3;
        brings = record { each = λ y r. brought told y r.path r.leads };
        stands = x.stands told;
      };
    });
  }

  -- ---- behind the end

  module _ (kept : List Kept) where
    seen_held : (score : Score) (k : ℕ) → (seen m kept).held score k ≡ (seen s kept).held score k
    seen_held score k = ap (λ h. or_held (find_kept kept score k) h) (x.all.same_held score k)

    known : (n : ℕ) (p : Pointer) → Ready s t kept n p → (b : ℕ) → p ≡ Local b → (j : ℕ) → (m.now b).slot j ≡ (s.now b).slot j
    known n p is b e j =
        let prepared : Ready s t kept n (Local b) = subst (λ (q : Pointer). Ready s t kept n q) e is in
        (x.came.others b (λ f. x.came.was.0 (ap (λ y. (s.label y).state) (sym f) ∙ prepared.live))).slots j

    top_slot : (i : ℕ) (kind other : Kind) → below (seen m kept) kind (Local result) i ≡ below (seen s kept) other t.top i
    top_slot i kind other = ap (λ (q : Slot). target q) (x.here.slots i) ∙ sym (ap (λ (p : Pointer). below (seen s kept) other p i) x.top)

    step_same : (n k i : ℕ) → WayReady s t kept n k → below (seen m kept) (kind_down t n) (block_at (seen m kept) (with_top t result) n k) i ≡ below (seen s kept) (kind_down t n) (block_at (seen s kept) t n k) i
    step_same zero k i way = top_slot i (kind_down t 0) (kind_down t 0)
    step_same (suc n) k i way =
        below_same (seen s kept) (seen m kept) (kind_down t (suc n)) (block_at (seen s kept) t (suc n) k) (block_at (seen m kept) (with_top t result) (suc n) k) i
        (step_same n (k / 409) (k % 409) way.0) seen_held (known (suc n) (block_at (seen s kept) t (suc n) k) way.1)

    module _ (clear : EndsClear s t kept) (some : 0 < t.size) where
      none_on : (n a b : ℕ) → IsWayIndex t.depth (last_leaf t.size) n a → a < b → b < 409 ^ n → block_at (seen m kept) (with_top t result) n b ≡ Nil
      none_on zero a b is lt few = absurd (omega (arith, lt, few))
      none_on (suc n) a b is lt few =
          let more : 409 ^ suc n ≡ 409 * 409 ^ n = pow-succ' 409 n in
          let up = index_above t.depth (last_leaf t.size) n a is in
          let room : b / 409 < 409 ^ n = omega (arith, few, more) in
          ⊎_elim
          (λ e.
          let way : WayReady s t kept n (b / 409) = subst (λ y. WayReady s t kept n y) e (way_part s t kept t.depth (last_leaf t.size) n (a / 409) up (clear.way some)) in
          step_same n (b / 409) (b % 409) way ∙ clear.behind some (suc n) a b is lt few)
          (λ ne. ap (λ (p : Pointer). below (seen m kept) (kind_down t n) p (b % 409)) (none_on n (a / 409) (b / 409) up (omega (arith, lt, ne)) room))
          (cases_eq (a / 409) (b / 409))

    pub clear_copy : ((limit o n : ℕ) → Prepared s t kept limit o n → Prepared m (with_top t result) kept limit o n) → EndsClear s t kept → EndsClear m (with_top t result) kept
    clear_copy still clear = record {
      empty = λ (none : t.size ≡ 0). absurd (nil_top (sym (clear.empty none) ∙ x.top));
      way = λ some. (still (t.size + 1) t.size 1 (record { each = λ k from to inside. absurd (omega (arith, from, inside)); last = λ past more. clear.way more; end = omega arith })).last (omega arith) some;
      behind = λ some n a b is lt few. none_on clear some n a b is lt few;
    }
      where
        nil_top : Nil ≡ Local at → ⊥
        nil_top e = cc
