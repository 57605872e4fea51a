-- What the new top takes on may be put, and then its entry.
use Rattle.std.proofs.Common.{◌≡◌, ◌≢◌, ◌⊎◌, ◌-◌, ◌^◌, ◌<◌, ◌≤◌, ℕ, List, [], ◌∷◌, inl, inr, ⊎_elim, refl, sym, ◌∙◌, ap, subst, arith}
use Rattle.std.proofs.lemmas.Bool.{cases_eq}
use Rattle.fo_image.specs.declared.types.Kind.{Kind}
use Rattle.fo_image.specs.declared.types.Kind.TheVariants.{Dir, Root}
use Rattle.fo_image.specs.declared.types.Label.{Label}
use Rattle.fo_image.specs.declared.types.State.TheVariants.{Live}
use Rattle.fo_image.specs.declared.types.Pointer.TheVariants.{Nil, Local}
use Rattle.fo_crash.specs.declared.slot.Slot.{Slot}
use Rattle.fo_crash.specs.declared.place.Place.{Place}
use Rattle.fo_crash.specs.Images.{Content, target, walk, local, to_block, Reaches}
use Rattle.fo_crash.specs.Places.{OnePlace, place_below, super_place}
use Rattle.fo_crash.specs.Steps.{PutsSlot, Covers}
use Rattle.fo_crash.proofs.Reach.{reaches_itself, reaches_on, reaches_from, reaches_joins, reaches_same, reach_aside}
use Rattle.fo_crash.proofs.Covers.{slot_reaches, block_reaches}
use Rattle.fo_ports.specs.Blocks.{IsInner, IsEntry, blank, dropped, cost}
use Rattle.fo_ports.specs.State.{State, KeepsAll, Gives, Frame, Hangs, IsPointers, IsRaised, Comes, MayPutSlot}
use Rattle.fo_ports_clients.specs.Top.{raised}
use Rattle.fo_ports_clients.proofs.Copies.{local_eq, led_here, put_places, tree_rooted}
use Rattle.fo_ports_clients.proofs.Leaf.{nil_local, nil_reaches, still_uncovered}
use Rattle.fo_ports_clients.proofs.Raise.{IsOver, raised_target, raised_drops, inner_blank}
use Rattle.fo_ports_clients.proofs.Tree.{Tree, MayBring, never_one}

-- A block was given out for the place of a new top (`over`), over a source that hangs from an entry of the tree.
pub record Tops (at i below size top : ℕ) (p over : Place) (s t : State) : Type 0 where
  pub tells : s.tells
  pub stands : s.stands at p
  pub is_leaf : p.kind ≡ Dir 0
  pub kind : (s.label at).kind ≡ Dir 0
  pub reached : Reaches s.now (to_block 1) at
  pub entry : IsEntry ((s.now at).slot i)
  pub leads : target ((s.now at).slot i) ≡ Local below
  pub current : (s.label below).epoch ≡ s.high
  pub is_over : IsOver p i ((s.now at).slot i) over
  pub over_is : over ≡ place_below p i (raised ((s.now at).slot i) size top)
  pub gives : Gives top (blank over.kind) (record { state = Live; kind = over.kind; tag = over.tag; epoch = s.high; closing = 2 ^ 32 - 1 }) s t
  pub place : t.stands top over
  pub instead : (x : ℕ) → t.instead top x → ⊥
  pub all : KeepsAll s t
  -- the laws of blocks
  pub active : t.tops 1
  pub tree : Tree s.stands s.now
  pub one : OnePlace t.stands
  pub live : (b : ℕ) → b ≢ 1 → Reaches s.now (to_block 1) b → MayBring s.label s.covered s.high b

module _ {at i below size top : ℕ} {p over : Place} {s t : State} (c : Tops at i below size top p over s t) where
  at_apart : at ≢ 1
  at_apart is =
      let one : p ≡ super_place = c.tree.one.each 1 p super_place (subst (λ x. s.stands x p) is c.stands) c.tree.super_stands in
      let both : Dir 0 ≡ Root = sym c.is_leaf ∙ ap (λ (q : Place). q.kind) one in
      cc

  at_live : MayBring s.label s.covered s.high at
  at_live = c.live at at_apart c.reached

  below_reached : Reaches s.now (to_block 1) below
  below_reached = reaches_on i c.reached c.leads

  below_live : MayBring s.label s.covered s.high below
  below_live = c.live below (λ e. never_one i c.tree c.reached c.leads (subst (λ x. Reaches s.now (to_block below) x) e (reaches_itself s.now below))) below_reached

  live_ne : (b : ℕ) → (s.label b).state ≡ Live → b ≢ top
  live_ne b live e = c.gives.was.0 (ap (λ x. (s.label x).state) (sym e) ∙ live)

  abbrev under : Place
  under = place_below p i ((s.now at).slot i)

  below_stands : s.stands below under
  below_stands = c.tree.placed.each at i below p c.stands c.leads

  -- what block 1 reached it reaches still
  still_reached : (b : ℕ) → Reaches s.now (to_block 1) b → Reaches t.now (to_block 1) b
  still_reached b r = reach_aside s.now t.now (λ x. x ≡ top) 1 (λ x j ne. sym ((c.gives.memory.others x ne).slots j)) (λ x e far. never x e far) b r
    where
      never : (x : ℕ) → x ≡ top → Reaches s.now (to_block 1) x → ⊥
      never x e far = c.gives.was.0 (ap (λ k. (s.label k).state) (sym e) ∙ (c.live x (λ one. c.gives.was.1 (sym e ∙ one)) far).0)

  stays : (b : ℕ) (q : Place) → MayBring s.label s.covered s.high b → Reaches s.now (to_block 1) b → s.stands b q → t.stands b q
  stays b q may r is = let ne = live_ne b may.0 in c.gives.stays.places c.tells b q ne (λ h. h) (λ h. may.2 ((c.gives.covered b ne).0 h)) (tree_rooted t b c.active (still_reached b r)) is

  top_nil : (j : ℕ) → target ((t.now top).slot j) ≡ Nil
  top_nil j = ap target (c.gives.memory.here.slots j ∙ inner_blank over.kind j c.is_over.inner)

  top_may : MayBring t.label t.covered t.high top
  top_may =
      let high = c.all.same_high in
      let epoch : (t.label top).epoch ≡ s.high = ap (λ (l : Label). l.epoch) c.gives.label in
      (ap (λ (l : Label). l.state) c.gives.label, omega (arith, epoch, high), c.gives.is.4)

  kept : (b : ℕ) → MayBring s.label s.covered s.high b → MayBring t.label t.covered t.high b
  kept b may =
      let ne = live_ne b may.0 in
      let label = c.gives.stays.labels b ne in (
        ap (λ (l : Label). l.state) label ∙ may.0,
        subst (λ n. (t.label b).epoch ≤ n) (sym c.all.same_high) (subst (λ (l : Label). l.epoch ≤ s.high) (sym label) may.1),
        λ h. may.2 ((c.gives.covered b ne).0 h),
      )

  below_may : (b : ℕ) → Reaches t.now (to_block below) b → MayBring t.label t.covered t.high b
  below_may b r = ⊎_elim
      (λ is. subst (λ x. MayBring t.label t.covered t.high x) (sym is) top_may)
      (λ h. ⊎_elim
      (λ was. kept b (c.live b (λ e. never_one i c.tree c.reached c.leads (subst (λ x. Reaches s.now (to_block below) x) e was)) (reaches_joins below_reached was)))
      (λ new. absurd (nil_reaches ((blank over.kind).slot new.0) b (ap target (inner_blank over.kind new.0 c.is_over.inner)) new.1))
      h)
      (block_reaches c.gives.memory r)

  pub may_hang : MayPutSlot t top 0 (to_block below)
  may_hang = record {
    brings = record { each = below_may };
    fits = record {
      each = λ b q stands e.
          let is : over ≡ q = c.one.each top over q c.place stands in
          let fits : under ≡ place_below q 0 (to_block below) = sym (c.is_over.below (to_block below)) ∙ ap (λ x. place_below x 0 (to_block below)) is in
          (under, subst (λ x. t.stands x under) (local_eq e) (stays below under below_live below_reached below_stands), inl fits);
    };
    lower = λ b q stands e. subst (λ (x : Place). (place_below x 0 (to_block below)).rank < x.rank) (c.one.each top over q c.place stands) (c.is_over.lower (to_block below));
    parent = record {
      each = λ b e older.
          let label = c.gives.stays.labels below (live_ne below below_live.0) in
          let young : (t.label b).epoch ≡ s.high = ap (λ x. (t.label x).epoch) (sym (local_eq e)) ∙ ap (λ (l : Label). l.epoch) label ∙ c.current in
          let high = c.all.same_high in
          absurd (omega (arith, young, high, older));
    };
    comes = λ b e. inr (inr (
      λ x to. absurd (nil_local (top_nil 0) to),
      inr (inr (
        (((c.gives.is.3, c.instead), λ j x to. absurd (nil_local (top_nil j) to)), subst (λ (l : Label). IsInner l.kind) (sym c.gives.label) c.is_over.inner, refl),
        inr (subst (λ x. Reaches t.now (to_block 1) x) (local_eq e) (still_reached below below_reached)),
      )),
    ));
    leaves = record { each = λ y x is r. absurd (nil_reaches ((t.now top).slot 0) x (top_nil 0) r); still = λ b j waits r. absurd (nil_reaches ((t.now top).slot 0) b (top_nil 0) r) };
    uncovered = c.gives.is.4;
    entry = λ outer x to ne. absurd (nil_local (top_nil 0) to);
    linked = λ some.
        let free : cost ((t.now top).slot 0) (to_block below) ≡ 0 = ap (λ (x : Slot). cost x (to_block below)) (c.gives.memory.here.slots 0 ∙ inner_blank over.kind 0 c.is_over.inner) in
        absurd (omega (arith, some, free));
    first = λ inner zero x to. absurd (nil_local (top_nil 0) to);
    holder = inr (top, c.gives.is.3, reaches_itself t.now top);
    keeps = λ x to. absurd (nil_local (top_nil 0) to);
  }

  -- The old top hangs from the new one now.
  module _ {n : ℕ} {u : State} (frame : Frame (λ b. b ≡ top) (λ b. (b ≡ top) ⊎ (Local below ≡ Local b)) n t u) (hangs : Hangs top 0 (to_block below) t u) (puts : PutsSlot top 0 (to_block below) t.now u.now) (covers : Covers (IsPointers t) ((t.now top).slot 0) t.now u.now t.covered u.covered) (all : KeepsAll t u) (one : OnePlace u.stands) (joined : t.apart below → ⊥) where
    old_slot : (u.now at).slot i ≡ (s.now at).slot i
    old_slot = puts.others at i (inl (live_ne at at_live.0)) ∙ (c.gives.memory.others at (live_ne at at_live.0)).slots i

    abbrev pub new_slot : Slot
    new_slot = raised ((s.now at).slot i) size top

    new_leads : target new_slot ≡ Local top
    new_leads = raised_target ((s.now at).slot i) size top c.entry

    now_may : (b : ℕ) → MayBring t.label t.covered t.high b → MayBring u.label u.covered u.high b
    now_may b may =
        let label = frame.stays.labels b (λ n. n) in (
          ap (λ (l : Label). l.state) label ∙ may.0,
          subst (λ n. (u.label b).epoch ≤ n) (sym all.same_high) (subst (λ (l : Label). l.epoch ≤ t.high) (sym label) may.1),
          λ h. still_uncovered b covers (top_nil 0) may.2 h,
        )

    -- what the new entry reaches is the new top, or hangs below the old one
    brought : (b : ℕ) (path : List ℕ) → target (walk u.now new_slot path) ≡ Local b → MayBring u.label u.covered u.high b
    brought b [] e = now_may b (subst (λ x. MayBring t.label t.covered t.high x) (local_eq (sym new_leads ∙ e)) top_may)
    brought b (k ∷ path) e =
        let from_top : target (walk u.now ((u.now top).slot k) path) ≡ Local b = ap (λ q. target (walk u.now ((local u.now q).slot k) path)) (sym new_leads) ∙ e in
        ⊎_elim
        (λ first.
        let here : (u.now top).slot k ≡ to_block below = ap (λ x. (u.now top).slot x) first ∙ puts.here in
        let r : Reaches u.now (to_block below) b = record { path = path; leads = ap (λ x. target (walk u.now x path)) (sym here) ∙ from_top } in
        now_may b (below_may b (⊎_elim (λ was. was) (λ was. was) (slot_reaches puts r))))
        (λ other. absurd (nil_reaches ((u.now top).slot k) b (ap target (puts.others top k (inr other)) ∙ top_nil k) (record { path = path; leads = from_top })))
        (cases_eq k 0)

    -- what the old entry reached the new one reaches
    still_led : (x : ℕ) → Reaches u.now ((u.now at).slot i) x → Reaches u.now new_slot x
    still_led x r =
        let from_below : Reaches u.now (to_block below) x = reaches_same (ap target old_slot ∙ c.leads) r in
        reaches_same (sym new_leads) (reaches_from 0 (subst (λ z. Reaches u.now z x) (sym puts.here) from_below))

    now_reached : (b : ℕ) → Reaches s.now (to_block 1) b → Reaches u.now (to_block 1) b
    now_reached b r = reach_aside s.now u.now (λ x. x ≡ top) 1 (λ x j ne. sym (puts.others x j (inl ne) ∙ (c.gives.memory.others x ne).slots j)) (λ x e far. never x e far) b r
      where
        never : (x : ℕ) → x ≡ top → Reaches s.now (to_block 1) x → ⊥
        never x e far = c.gives.was.0 (ap (λ k. (s.label k).state) (sym e) ∙ (c.live x (λ one. c.gives.was.1 (sym e ∙ one)) far).0)

    pub top_stands : u.stands top over
    top_stands = hangs.at_place (c.all.still_tells.1 c.tells) over (λ h. still_uncovered top covers (top_nil 0) c.gives.is.4 h) c.place

    at_below : at ≢ below
    at_below e =
        let same : p ≡ under = c.tree.one.each below p under (subst (λ x. s.stands x p) e c.stands) below_stands in
        let low = c.tree.falls.each at i below p c.stands c.leads in
        let rank : p.rank ≡ under.rank = ap (λ (q : Place). q.rank) same in
        omega (arith, low, rank)

    pub at_stands : u.stands at p
    at_stands = put_places (c.all.still_tells.1 c.tells) frame hangs at p (λ e. at_below (sym (local_eq e))) (λ h. still_uncovered at covers (top_nil 0) (kept at at_live).2 h) (tree_rooted u at ((all.same_tops 1).1 c.active) (now_reached at c.reached)) (stays at p at_live c.reached c.stands)

    pub may_raise : MayPutSlot u at i new_slot
    may_raise = record {
      brings = record { each = λ b r. brought b r.path r.leads };
      fits = record {
        each = λ b q stands e.
            let is : p ≡ q = one.each at p q at_stands stands in
            (over, subst (λ x. u.stands x over) (local_eq (sym new_leads ∙ e)) top_stands, inl (c.over_is ∙ ap (λ (x : Place). place_below x i new_slot) is));
      };
      lower = λ b q stands e.
          let is : p ≡ q = one.each at p q at_stands stands in
          subst (λ (x : Place). (place_below x i new_slot).rank < x.rank) is (subst (λ (x : Place). x.rank < p.rank) c.over_is c.is_over.falls);
      parent = record {
        each = λ b e older.
            let label = frame.stays.labels top (λ n. n) ∙ c.gives.label in
            let young : (u.label b).epoch ≡ s.high = ap (λ x. (u.label x).epoch) (local_eq (sym e ∙ new_leads)) ∙ ap (λ (l : Label). l.epoch) label in
            let high = all.same_high ∙ c.all.same_high in
            absurd (omega (arith, young, high, older));
      };
      comes = λ b e.
          let flat = ap (λ (x : Slot). x) old_slot in
          subst (λ x. Comes u at i ((u.now at).slot i) new_slot x) (local_eq (sym new_leads ∙ e)) (inr (inl (
            below,
            hangs.raises below below raised_now refl (inr (refl, joined)),
            led_here u.now ((u.now at).slot i) new_slot (ap (λ (x : Slot). dropped x new_slot) flat ∙ raised_drops ((s.now at).slot i) size top) ∙ ap target old_slot ∙ c.leads,
          )));
      leaves = record { each = λ y x is r. inl (still_led x r); still = λ b j waits r. still_led b r };
      uncovered = λ h. still_uncovered at covers (top_nil 0) (kept at at_live).2 h;
      first = λ inner. absurd (points_not inner);
      holder = inl (now_reached at c.reached);
      linked = λ some. now_reached at c.reached;
      entry = λ outer x e ne. now_reached at c.reached;
      keeps = λ x e. inr (reaches_on i (now_reached at c.reached) e);
    }
      where
        raised_now : IsRaised t top 0
        raised_now = (((c.gives.is.3, c.instead), λ j x to. absurd (nil_local (top_nil j) to)), subst (λ (l : Label). IsInner l.kind) (sym c.gives.label) c.is_over.inner, refl)

        points_not : IsInner (u.label at).kind → ⊥
        points_not inner =
            let label = frame.stays.labels at (λ n. n) ∙ c.gives.stays.labels at (live_ne at at_live.0) in
            let none : 0 < 0 = subst (λ (k : Kind). IsInner k) (ap (λ (l : Label). l.kind) label ∙ c.kind) inner in
            omega (arith, none)

-- After both puts no block more comes in the place of another.
pub none_more : {at i below top n m : ℕ} {slot : Slot} {c : Content} {l : Label} {s t u v : State} → Gives top c l s t → Frame (λ b. b ≡ top) (λ b. (b ≡ top) ⊎ (Local below ≡ Local b)) n t u → Hangs top 0 (to_block below) t u → Frame (λ b. b ≡ at) (λ b. (b ≡ at) ⊎ (target slot ≡ Local b)) m u v → Hangs at i slot u v
    → target slot ≡ Local top → (IsInner (u.label at).kind → ⊥) → (y x : ℕ) → v.instead y x → s.instead y x
none_more {at = at} {below = below} {top = top} {s = s} {u = u} {v = v} gives first hung second hangs to outer y x is = ⊎_elim
    (λ own. absurd ((hangs.put top to).1 x (subst (λ z. v.instead z x) own is)))
    (λ ne. ⊎_elim
    (λ here. subst (λ z. s.instead z x) (sym here) (⊎_elim (λ was. back at (λ e. ne (here ∙ e)) was) (λ raised. absurd (outer raised.0.1)) (hangs.raised x (subst (λ z. v.instead z x) here is))))
    (λ other. back y ne ((second.stays.instead y x (λ n. n) (λ p. ⊎_elim other (λ e. ne (local_eq (sym e ∙ to))) p)).0 is))
    (cases_eq y at))
    (cases_eq y top)
  where
    back : (z : ℕ) → z ≢ top → u.instead z x → s.instead z x
    back z ne was = ⊎_elim
        (λ here. absurd ((hung.put below refl).1 x (subst (λ w. u.instead w x) here was)))
        (λ other. (gives.stays.instead z x ne (λ n. n)).0 ((first.stays.instead z x (λ n. n) (λ p. ⊎_elim ne (λ e. other (sym (local_eq e))) p)).0 was))
        (cases_eq z below)
