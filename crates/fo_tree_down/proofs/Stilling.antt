-- What was prepared stays so where a way is made current.
use Rattle.std.proofs.Common.{◌≡◌, ◌⊎◌, ◌+◌, ◌-◌, ◌*◌, ◌/◌, ◌%◌, ◌^◌, ◌<◌, ◌≤◌, ℕ, zero, suc, List, length, inl, inr, ⊎_elim, refl, sym, ◌∙◌, ap, subst, arith}
use Rattle.std.proofs.lemmas.Bool.{cases_eq, cases_lt}
use Rattle.fo_image.specs.declared.types.Label.{Label}
use Rattle.fo_image.specs.declared.types.Score.{Score}
use Rattle.fo_image.specs.declared.types.Pointer.{Pointer}
use Rattle.fo_image.specs.declared.types.Pointer.TheVariants.{Nil, Local, Score as Held}
use Rattle.fo_image.specs.Format.{kind_code}
use Rattle.fo_tree_own.specs.of_crash.declared.slot.Slot.{Slot}
use Rattle.fo_tree_own.specs.of_crash.Images.{target}
use Rattle.fo_tree_look.specs.of_ports.State.{State, KeepsAll}
use Rattle.fo_tree_look.specs.of_ports.Sources.{Made}
use Rattle.fo_tree_look.specs.of_tree_read.declared.tree.Tree.{Tree}
use Rattle.fo_tree_look.specs.of_tree_read.Tree.{kind_down, score_in, below, block_at}
use Rattle.fo_tree_look.specs.declared.ways.Kept.{Kept}
use Rattle.fo_tree_look.specs.Source.{IsPrepared, find_kept, or_held, seen, Ready, WayReady, Prepared}
use Rattle.fo_tree_look.proofs.Shown.{top_ready}
use Rattle.fo_tree_down.specs.Way.{OnWay, IsPutInto, Descends, Leads, Replaces, IsWayIndex, with_top}
use Rattle.fo_tree_down.proofs.Join.{level_same, local_cases}
use Rattle.fo_tree_down.proofs.Next.{seen_local, local_seen, local_eq}
use Rattle.fo_tree_down.proofs.Leading.{block_of, leads_to}
use Rattle.fo_tree_down.proofs.Beside.{index_cases, index_within, way_block, way_step}

pub index_one : (n k m i j : ℕ) → IsWayIndex n k m i → IsWayIndex n k m j → i ≡ j
index_one zero k m i j a b = a.1 ∙ sym b.1
index_one (suc n) k m i j a b = ⊎_elim
    (λ here. ⊎_elim
    (λ there. here.1 ∙ sym there.1)
    (λ up. let le = index_within n (k / 409) m j up in let e = here.0 in absurd (omega (arith, le, e)))
    b)
    (λ up. ⊎_elim
    (λ there. let le = index_within n (k / 409) m i up in let e = there.0 in absurd (omega (arith, le, e)))
    (λ more. index_one n (k / 409) m i j up more)
    b)
    a

-- a level has a block of the way
pub index_at : (n k m : ℕ) → m ≤ n → (j : ℕ) × IsWayIndex n k m j
index_at zero k m le = (k, (omega (arith, le), refl))
index_at (suc n) k m le = ⊎_elim
    (λ e. (k, inl (e, refl)))
    (λ ne. let up = index_at n (k / 409) m (omega (arith, le, ne)) in (up.0, inr up.1))
    (cases_eq m (suc n))

-- the way of the new top, block by block
pub way_leads : (s u : State) (t : Tree) (kept : List Kept) (top n k at m j : ℕ) → Leads s u t kept top n k at → IsWayIndex n k m j → (w : ℕ) × (block_at u (with_top t top) m j ≡ Local w) × Replaces s u t m j w
way_leads s u t kept top zero k at m j leads is =
    subst (λ x. (w : ℕ) × (block_at u (with_top t top) x j ≡ Local w) × Replaces s u t x j w) (sym is.0)
    (subst (λ y. (w : ℕ) × (block_at u (with_top t top) zero y ≡ Local w) × Replaces s u t zero y w) (sym is.1) (at, leads_to s u t kept top zero k at leads, leads.1))
way_leads s u t kept top (suc n) k at m j leads is = ⊎_elim
    (λ here.
    subst (λ x. (w : ℕ) × (block_at u (with_top t top) x j ≡ Local w) × Replaces s u t x j w) (sym here.0)
    (subst (λ y. (w : ℕ) × (block_at u (with_top t top) (suc n) y ≡ Local w) × Replaces s u t (suc n) y w) (sym here.1) (at, leads_to s u t kept top (suc n) k at leads, leads.1)))
    (λ above. way_leads s u t kept top n (k / 409) leads.0.0 m j leads.0.1 above)
    is

way_ready : (s : State) (t : Tree) (kept : List Kept) (n k m j : ℕ) → WayReady s t kept n k → IsWayIndex n k m j → Ready s t kept m (block_at (seen s kept) t m j)
way_ready s t kept zero k m j ready is = subst (λ x. Ready s t kept x (block_at (seen s kept) t x j)) (sym is.0) ready
way_ready s t kept (suc n) k m j ready is = ⊎_elim
    (λ here. subst (λ x. Ready s t kept x (block_at (seen s kept) t x j)) (sym here.0) (subst (λ y. Ready s t kept (suc n) (block_at (seen s kept) t (suc n) y)) (sym here.1) ready.1))
    (λ above. way_ready s t kept n (k / 409) m j ready.0 above)
    is

-- A way was made current, over any device.
pub record WasOwned (s u : State) (t : Tree) (kept : List Kept) (top n k at : ℕ) : Type 0 where
  pub all : KeepsAll s u
  pub within : n ≤ t.depth
  pub few : k < 409 ^ n
  pub ready : WayReady s t kept n k
  pub leads : Leads s u t kept top n k at
  pub last : n < t.depth → (i : ℕ) → i < 409 → target ((u.now at).slot i) ≡ below (seen s kept) (kind_down t n) (block_at (seen s kept) t n k) i
  pub descends : Descends t (OnWay s t n k) (t.depth - n) s u

module _ {s u : State} {t : Tree} {kept : List Kept} {top n k at : ℕ} (x : WasOwned s u t kept top n k at) where
  abbrev new : Tree
  new = with_top t top

  -- A pointer of the way, and what came there; or one that stays, to a block whose slots stay.
  abbrev On : ℕ → Pointer → Pointer → Type 0
  On m p q = (j : ℕ) × IsWayIndex n k m j × (p ≡ block_at (seen s kept) t m j) × (q ≡ block_at (seen u kept) new m j)

  abbrev Off : Pointer → Pointer → Type 0
  Off p q = (q ≡ p) × ((a : ℕ) → p ≡ Local a → IsPutInto s t (OnWay s t n k) (t.depth - n) a → ⊥)

  old_block : (m a : ℕ) → IsPrepared s (kind_down t m) t.tag a → Made s u a → ⊥
  old_block m a is made = made.0 is.live

  prepared_on : (m a : ℕ) → IsPrepared s (kind_down t m) t.tag a → IsPrepared u (kind_down t m) t.tag a
  prepared_on m a is =
      let marked = x.descends.others a (old_block m a is) in
      let same = marked.label in
      let epoch : (u.label a).epoch ≡ (s.label a).epoch = ap (λ (l : Label). l.epoch) same in
      let high = x.all.same_high in
      let up = is.up_to in
      record {
        is_pinned = marked.marks.0 is.is_pinned;
        live = ap (λ (l : Label). l.state) same ∙ is.live;
        has_kind = ap (λ (l : Label). l.kind) same ∙ is.has_kind;
        tagged = ap (λ (l : Label). l.tag) same ∙ is.tagged;
        up_to = omega (arith, epoch, high, up);
        long = ap (λ (xs : List ℕ). length xs) (x.descends.bytes a (old_block m a is)) ∙ is.long;
      }

  came : (m j : ℕ) → IsWayIndex n k m j → (w : ℕ) × (block_at u new m j ≡ Local w) × Replaces s u t m j w
  came m j is = way_leads s u t kept top n k at m j x.leads is

  ready_off : (m : ℕ) (p : Pointer) → Ready s t kept m p → Ready u new kept m p
  ready_off m Nil is = is
  ready_off m (Local a) is = prepared_on m a is
  ready_off m (Held score) is = is

  ready_on : (m : ℕ) (p q : Pointer) → Ready s t kept m p → On m p q ⊎ Off p q → Ready u new kept m q
  ready_on m p q is h = ⊎_elim
      (λ on.
      let w = came m on.0 on.1 in
      subst (λ (y : Pointer). Ready u new kept m y) (sym (on.3 ∙ local_seen u kept new m on.0 w.0 w.1)) (block_of m on.0 w.0 w.2.own))
      (λ off. subst (λ (y : Pointer). Ready u new kept m y) (sym off.0) (ready_off m p is))
      h

  -- a block that is put into is one of the way, where its kind says
  put_at : (m a : ℕ) → m ≤ t.depth → IsPrepared s (kind_down t m) t.tag a → IsPutInto s t (OnWay s t n k) (t.depth - n) a → (j : ℕ) × IsWayIndex n k m j × (block_at s t m j ≡ Local a)
  put_at m a le is put =
      let w = way_block s t n k a x.few put.is_mine in
      let low = index_within n k w.down w.index w.is_way in
      let end = x.within in
      let there : Ready s t kept w.down (Local a) = subst (λ (y : Pointer). Ready s t kept w.down y) (local_seen s kept t w.down w.index a w.is) (way_ready s t kept n k w.down w.index x.ready w.is_way) in
      let levels : t.depth - w.down ≡ t.depth - m = level_same t.dir (t.depth - w.down) (t.depth - m) (sym there.has_kind ∙ is.has_kind) in
      let down : w.down ≡ m = omega (arith, levels, low, end, le) in
      (w.index, subst (λ y. IsWayIndex n k y w.index) down w.is_way, subst (λ y. block_at s t y w.index ≡ Local a) down w.is)

  -- a pointer that stays leads to a block of the way as it is, or to one whose slots stay
  sorted_local : (m a : ℕ) → m ≤ t.depth → IsPrepared s (kind_down t m) t.tag a → On m (Local a) (Local a) ⊎ Off (Local a) (Local a)
  sorted_local m a le is = ⊎_elim
      (λ lt. inr (refl, λ b e put. let way = put_at m a le is (subst (λ y. IsPutInto s t (OnWay s t n k) (t.depth - n) y) (sym (local_eq e)) put) in let low = index_within n k m way.0 way.1 in absurd (omega (arith, lt, low))))
      (λ ge.
      let index = index_at n k m ge in
      ⊎_elim
      (λ there. ⊎_elim
      (λ current.
      let w = came m index.0 index.1 in
      let same : w.0 ≡ a = w.2.kept a there current in
      inl (index.0, index.1, sym (local_seen s kept t m index.0 a there), sym (local_seen u kept new m index.0 a (w.1 ∙ ap (λ y. Local y) same))))
      (λ older. inr (refl, λ b e put. older (subst (λ y. (s.label y).epoch ≡ s.high) (sym (local_eq e)) put.current)))
      (cases_eq ((s.label a).epoch) s.high))
      (λ not. inr (
        refl,
        λ b e put.
            let way = put_at m a le is (subst (λ y. IsPutInto s t (OnWay s t n k) (t.depth - n) y) (sym (local_eq e)) put) in
            not (subst (λ y. block_at s t m y ≡ Local a) (index_one n k m way.0 index.0 way.1 index.1) way.2),
      ))
      (local_cases (block_at s t m index.0) a))
      (cases_lt n m)

  nil_local : (a : ℕ) → Nil ≡ Local a → ⊥
  nil_local a e = cc

  held_local : (score : Score) (a : ℕ) → Held score ≡ Local a → ⊥
  held_local score a e = cc

  sorted : (m : ℕ) (p : Pointer) → m ≤ t.depth → Ready s t kept m p → On m p p ⊎ Off p p
  sorted m Nil le is = inr (refl, λ a e put. nil_local a e)
  sorted m (Local a) le is = sorted_local m a le is
  sorted m (Held score) le is = inr (refl, λ a e put. held_local score a e)

  -- a slot of a block that stays
  below_off : (m : ℕ) (p : Pointer) (i : ℕ) → Ready s t kept m p → Off p p → below (seen u kept) (kind_down t m) p i ≡ below (seen s kept) (kind_down t m) p i
  below_off m Nil i is off = refl
  below_off m (Local a) i is off = ap (λ (y : Slot). target y) (⊎_elim (λ e. e) (λ put. absurd (off.1 a refl put)) (x.descends.slots a i (old_block m a is)))
  below_off m (Held score) i is off = ap (λ h. score_in (or_held (find_kept kept score (kind_code (kind_down t m))) h) i) (x.all.same_held score (kind_code (kind_down t m)))

  -- one step down
  step_off : (m : ℕ) (p q : Pointer) (i : ℕ) → suc m ≤ t.depth → Ready s t kept m p → Off p q → below (seen u kept) (kind_down t m) q i ≡ below (seen s kept) (kind_down t m) p i
  step_off m p q i le is off = ap (λ (y : Pointer). below (seen u kept) (kind_down t m) y i) off.0 ∙ below_off m p i is (refl, off.1)

  step_sorted : (m : ℕ) (p q : Pointer) (i : ℕ) → suc m ≤ t.depth → q ≡ p → Ready s t kept (suc m) p → On (suc m) p q ⊎ Off p q
  step_sorted m p q i le same is = subst (λ (y : Pointer). On (suc m) p y ⊎ Off p y) (sym same) (sorted (suc m) p le is)

  step_on : (m : ℕ) (p q : Pointer) (i : ℕ) → suc m ≤ t.depth → i < 409 → On m p q → Ready s t kept (suc m) (below (seen s kept) (kind_down t m) p i)
      → On (suc m) (below (seen s kept) (kind_down t m) p i) (below (seen u kept) (kind_down t m) q i) ⊎ Off (below (seen s kept) (kind_down t m) p i) (below (seen u kept) (kind_down t m) q i)
  step_on m p q i le few on is =
      let j = on.0 in
      let c : ℕ = 409 * j + i in
      let up : (409 * j + i) / 409 ≡ j = omega (arith, few) in
      let rest : (409 * j + i) % 409 ≡ i = omega (arith, few) in
      ⊎_elim
      (λ way. inl (
        409 * j + i,
        way,
        ap (λ (y : Pointer). below (seen s kept) (kind_down t m) y i) on.2 ∙ sym (ap (λ y. below (seen s kept) (kind_down t m) (block_at (seen s kept) t m y) i) up) ∙ sym (ap (λ y. below (seen s kept) (kind_down t m) (block_at (seen s kept) t m ((409 * j + i) / 409)) y) rest),
        ap (λ (y : Pointer). below (seen u kept) (kind_down t m) y i) on.3 ∙ sym (ap (λ y. below (seen u kept) (kind_down t m) (block_at (seen u kept) new m y) i) up) ∙ sym (ap (λ y. below (seen u kept) (kind_down t m) (block_at (seen u kept) new m ((409 * j + i) / 409)) y) rest),
      ))
      (λ not.
      let w = way_step s u t kept top n k at m j x.leads x.last on.1 in
      let same : below (seen u kept) (kind_down t m) q i ≡ below (seen s kept) (kind_down t m) p i =
      ap (λ (y : Pointer). below (seen u kept) (kind_down t m) y i) (on.3 ∙ local_seen u kept new m j w.at w.is)
      ∙ w.beside (omega (arith, le)) i few not
      ∙ sym (ap (λ (y : Pointer). below (seen s kept) (kind_down t m) y i) on.2) in
      step_sorted m (below (seen s kept) (kind_down t m) p i) (below (seen u kept) (kind_down t m) q i) i le same is)
      (index_cases n k (suc m) (409 * j + i))

  step : (m : ℕ) (p q : Pointer) (i : ℕ) → suc m ≤ t.depth → i < 409 → Ready s t kept m p → On m p q ⊎ Off p q → Ready s t kept (suc m) (below (seen s kept) (kind_down t m) p i)
      → On (suc m) (below (seen s kept) (kind_down t m) p i) (below (seen u kept) (kind_down t m) q i) ⊎ Off (below (seen s kept) (kind_down t m) p i) (below (seen u kept) (kind_down t m) q i)
  step m p q i le few was h is = ⊎_elim
      (λ on. step_on m p q i le few on is)
      (λ off. step_sorted m (below (seen s kept) (kind_down t m) p i) (below (seen u kept) (kind_down t m) q i) i le (step_off m p q i le was off) is)
      h

  -- a whole way
  follows : (m j : ℕ) → m ≤ t.depth → WayReady s t kept m j → On m (block_at (seen s kept) t m j) (block_at (seen u kept) new m j) ⊎ Off (block_at (seen s kept) t m j) (block_at (seen u kept) new m j)
  follows zero j le way = let index = index_at n k 0 (omega arith) in inl (index.0, index.1, refl, refl)
  follows (suc m) j le way =
      step m (block_at (seen s kept) t m (j / 409)) (block_at (seen u kept) new m (j / 409)) (j % 409) le (omega arith) (top_ready s t kept m (j / 409) way.0) (follows m (j / 409) (omega (arith, le)) way.0) way.1

  pub way_still : (m j : ℕ) → m ≤ t.depth → WayReady s t kept m j → WayReady u new kept m j
  way_still zero j le way = ready_on zero (block_at (seen s kept) t zero j) (block_at (seen u kept) new zero j) way (follows zero j le way)
  way_still (suc m) j le way = (
    way_still m (j / 409) (omega (arith, le)) way.0,
    ready_on (suc m) (block_at (seen s kept) t (suc m) j) (block_at (seen u kept) new (suc m) j) way.1 (follows (suc m) j le way),
  )

  pub prepared_still : (limit o len : ℕ) → Prepared s t kept limit o len → Prepared u new kept limit o len
  prepared_still limit o len was = record {
    each = λ i from to inside. way_still t.depth (i / 8192) (omega arith) (was.each i from to inside);
    last = λ past some. way_still t.depth ((t.size - 1) / 8192) (omega arith) (was.last past some);
    end = was.end;
  }

  -- a block of a way that was prepared is the one that was there, or was given out
  block_from : (m j b : ℕ) → m ≤ t.depth → WayReady s t kept m j → block_at u new m j ≡ Local b → (block_at s t m j ≡ Local b) ⊎ Made s u b
  block_from m j b le way e =
      let here : block_at (seen u kept) new m j ≡ Local b = local_seen u kept new m j b e in
      ⊎_elim
      (λ on.
      let w = came m on.0 on.1 in
      let is : w.0 ≡ b = local_eq (sym w.1 ∙ seen_local u kept new m on.0 b (sym on.3 ∙ here)) in
      ⊎_elim
      (λ made. inr (subst (λ y. Made s u y) is made))
      (λ was. inl (seen_local s kept t m j b (on.2 ∙ local_seen s kept t m on.0 b (was ∙ ap (λ y. Local y) is))))
      w.2.from)
      (λ off. inl (seen_local s kept t m j b (sym off.0 ∙ here)))
      (follows m j le way)

  pub way_from : (m j b : ℕ) → m ≤ t.depth → WayReady s t kept m j → OnWay u new m j b → OnWay s t m j b ⊎ Made s u b
  way_from zero j b le way on = block_from zero j b le way on
  way_from (suc m) j b le way on = ⊎_elim
      (λ above. ⊎_elim (λ old. inl (inl old)) (λ made. inr made) (way_from m (j / 409) b (omega (arith, le)) way.0 above))
      (λ e. ⊎_elim (λ old. inl (inr old)) (λ made. inr made) (block_from (suc m) j b le way e))
      on
