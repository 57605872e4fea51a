-- The way of the new top leads to the block that came.
use Rattle.std.proofs.Common.{◌≡◌, ◌≢◌, ◌+◌, ◌-◌, ◌/◌, ◌%◌, ◌<◌, ◌≤◌, ℕ, zero, suc, List, length, inl, inr, ⊎_elim, sym, ◌∙◌, ap, arith, refl, subst}
use Rattle.std.proofs.lemmas.Bool.{cases_eq}
use Rattle.fo_image.specs.declared.types.Label.{Label}
use Rattle.fo_image.specs.declared.types.State.TheVariants.{Live}
use Rattle.fo_image.specs.declared.types.Pointer.{Pointer}
use Rattle.fo_image.specs.declared.types.Pointer.TheVariants.{Local}
use Rattle.fo_tree_own.specs.of_crash.declared.slot.Slot.{Slot}
use Rattle.fo_tree_own.specs.of_crash.Images.{target}
use Rattle.fo_tree_own.specs.of_crash.Places.{place}
use Rattle.fo_tree_look.specs.of_ports.State.{State, KeepsAll}
use Rattle.fo_tree_look.specs.of_ports.Sources.{Made, IsInstead, ComesFor}
use Rattle.fo_tree_look.specs.declared.ways.Kept.{Kept}
use Rattle.fo_tree_look.specs.Source.{IsPrepared, IsTopCurrent}
use Rattle.fo_tree_look.proofs.of_looks.Looks.{rooted_of_apart, rooted_of_hung}
use Rattle.fo_tree_look.specs.of_tree_read.declared.tree.Tree.{Tree}
use Rattle.fo_tree_look.specs.of_tree_read.Tree.{kind_at, kind_down, below, block_at}
use Rattle.fo_tree_own.specs.Step.{IsOwn, OwnTold, Links}
use Rattle.fo_tree_down.specs.Way.{OnWay, Replaces, LeadsBeside, Leads, with_top, IsTopOf, WayCurrent}
use Rattle.fo_tree_own.proofs.Link.{local_eq}
use Rattle.fo_tree_down.proofs.Join.{level_same, local_cases}

-- a block that is owned is prepared
pub block_of : {s : State} {t : Tree} (n k at : ℕ) → IsOwn s t (t.depth - n) k at → IsPrepared s (kind_down t n) t.tag at
block_of n k at own = record {
  is_pinned = own.is_pinned;
  live = own.live;
  has_kind = own.has_kind;
  tagged = own.tagged;
  up_to = let current = own.current in omega (arith, current);
  long = own.long;
}

pub last_of : (s u : State) (t : Tree) (kept : List Kept) (top n k at : ℕ) → Leads s u t kept top n k at → Replaces s u t n k at
last_of s u t kept top zero k at leads = leads.1
last_of s u t kept top (suc n) k at leads = leads.1

-- what the new tree has there
pub leads_to : (s u : State) (t : Tree) (kept : List Kept) (top n k at : ℕ) → Leads s u t kept top n k at → block_at u (with_top t top) n k ≡ Local at
leads_to s u t kept top zero k at leads = ap (λ b. Local b) (sym leads.0)
leads_to s u t kept top (suc n) k at leads =
    ap (λ (p : Pointer). below u (kind_down t n) p (k % 409)) (leads_to s u t kept top n (k / 409) leads.0.0 leads.0.1) ∙ leads.0.2

module _ (s m u : State) (t : Tree) (kept : List Kept) (top n above i result level k : ℕ) (within : suc n ≤ t.depth) (own : IsPrepared m (kind_down t n) t.tag above) (was : Pointer)
    (was_below : (b : ℕ) → was ≡ Local b → IsPrepared m (kind_at t.dir (t.depth - suc n)) t.tag b) (more : KeepsAll m u) (step : Links t level k above i was result m u) (active : u.tops 1) where
  ne_result : (at : ℕ) → (m.label at).state ≡ Live → at ≢ result
  ne_result at live e = step.made.0 (ap (λ y. (m.label y).state) (sym e) ∙ live)

  -- the slot led to none of those above
  not_was : (n' j at : ℕ) → n' ≤ n → IsOwn m t (t.depth - n') j at → was ≡ Local at → ⊥
  not_was n' j at le is e =
      let same : t.depth - n' ≡ t.depth - suc n = level_same t.dir (t.depth - n') (t.depth - suc n) (sym is.has_kind ∙ (was_below at e).has_kind) in
      omega (arith, same, le, within)

  told_on : (n' j at : ℕ) → n' ≤ n → IsOwn m t (t.depth - n') j at → u.tells → OwnTold u t (t.depth - n') j at
  told_on n' j at le is now =
      let told = more.still_tells.0 now in
      let before = is.told told in
      let not = not_was n' j at le is in
      let free : u.covered at → ⊥ = step.covers.only at before.uncovered not in
      record {
        stands = step.places told at (place (kind_at t.dir (t.depth - n')) t.tag j (t.rank + (t.depth - n'))) (ne_result at is.live) free (rooted_of_hung u active (step.hung told at not before.hung)) before.stands;
        uncovered = free;
        hung = step.hung told at not before.hung;
        alone = λ y h. before.alone y (step.instead y at h);
      }

  own_on : (n' j at : ℕ) → n' ≤ n → IsOwn m t (t.depth - n') j at → IsOwn u t (t.depth - n') j at
  own_on n' j at le is =
      let ne = ne_result at is.live in
      let same = step.labels at ne in
      record {
        is_pinned = (step.changes.others at (λ made. made.0 is.live)).marks.0 is.is_pinned;
        live = ap (λ (l : Label). l.state) same ∙ is.live;
        has_kind = ap (λ (l : Label). l.kind) same ∙ is.has_kind;
        tagged = ap (λ (l : Label). l.tag) same ∙ is.tagged;
        current = ap (λ (l : Label). l.epoch) same ∙ is.current ∙ sym more.same_high;
        long = ap (λ (xs : List ℕ). length xs) (step.bytes at ne) ∙ is.long;
        told = told_on n' j at le is;
      }

  replaces_on : (n' j at : ℕ) → n' ≤ n → Replaces s m t n' j at → Replaces s u t n' j at
  replaces_on n' j at le x = record {
    own = own_on n' j at le x.own;
    from = ⊎_elim (λ made. inl (made.0, ap (λ (l : Label). l.state) (step.labels at (ne_result at x.own.live)) ∙ made.1)) (λ e. inr e) x.from;
    kept = x.kept;
  }

  ne_above : (n' j at : ℕ) → n' < n → IsOwn m t (t.depth - n') j at → at ≢ above
  ne_above n' j at lt is e =
      let same : t.depth - n' ≡ t.depth - n = level_same t.dir (t.depth - n') (t.depth - n) (sym is.has_kind ∙ ap (λ y. (m.label y).kind) e ∙ own.has_kind) in
      omega (arith, same, lt, within)

  pub leads_on : (n' j at : ℕ) → n' ≤ n → Leads s m t kept top n' j at → Leads s u t kept top n' j at
  leads_on zero j at le leads = (leads.0, replaces_on zero j at le leads.1)
  leads_on (suc n') j at le leads =
      let parent = leads.0.0 in
      let is = (last_of s m t kept top n' (j / 409) parent leads.0.1).own in
      let same : (x : ℕ) → (u.now parent).slot x ≡ (m.now parent).slot x = λ x. step.slots parent x (ne_result parent is.live) (inl (ne_above n' (j / 409) parent (omega (arith, le)) is)) in (
        (
          parent,
          leads_on n' (j / 409) parent (omega (arith, le)) leads.0.1,
          ap (λ (q : Slot). target q) (same (j % 409)) ∙ leads.0.2,
          λ x few ne. ap (λ (q : Slot). target q) (same x) ∙ leads.0.3 x few ne,
        ),
        replaces_on (suc n') j at le leads.1,
      )

  -- beside the slot that was put
  pub beside_on : (j : ℕ) → LeadsBeside s m t kept n j above i → LeadsBeside s u t kept n j above i
  beside_on j beside x few ne = ap (λ (q : Slot). target q) (step.slots above x (ne_result above own.live) (inr ne)) ∙ beside x few ne

  -- a block of the way so far is one of it still
  way_on : (n' j at b : ℕ) → n' ≤ n → Leads s m t kept top n' j at → OnWay m (with_top t top) n' j b → OnWay u (with_top t top) n' j b
  way_on zero j at b le leads on = on
  way_on (suc n') j at b le leads on = ⊎_elim
      (λ above_on. inl (way_on n' (j / 409) leads.0.0 b (omega (arith, le)) leads.0.1 above_on))
      (λ e. inr (leads_to s u t kept top (suc n') j at (leads_on (suc n') j at le leads) ∙ sym (leads_to s m t kept top (suc n') j at leads) ∙ e))
      on

  -- and was one of it
  pub way_was : (n' j at b : ℕ) → n' ≤ n → Leads s m t kept top n' j at → OnWay u (with_top t top) n' j b → OnWay m (with_top t top) n' j b
  way_was zero j at b le leads on = on
  way_was (suc n') j at b le leads on = ⊎_elim
      (λ above_on. inl (way_was n' (j / 409) leads.0.0 b (omega (arith, le)) leads.0.1 above_on))
      (λ e. inr (leads_to s m t kept top (suc n') j at leads ∙ sym (leads_to s u t kept top (suc n') j at (leads_on (suc n') j at le leads)) ∙ e))
      on

  -- what was given out is of the new way
  pub given_on : (j : ℕ) → Leads s m t kept top n (j / 409) above → target ((u.now above).slot (j % 409)) ≡ Local result → ((b : ℕ) → Made s m b → OnWay m (with_top t top) n (j / 409) b) → (b : ℕ) → Made s u b → OnWay u (with_top t top) (suc n) j b
  given_on j leads put given b made = ⊎_elim
      (λ e. inr (ap (λ (p : Pointer). below u (kind_down t n) p (j % 409)) (leads_to s u t kept top n (j / 409) above (leads_on n (j / 409) above (omega arith) leads)) ∙ put ∙ ap (λ y. Local y) (sym e)))
      (λ ne. inl (way_on n (j / 409) above b (omega arith) leads (given b (made.0, ap (λ (l : Label). l.state) (sym (step.labels b ne)) ∙ made.1))))
      (cases_eq b result)

-- ---- the top

pub top_stays : {s m u : State} {t : Tree} {level k at i result top : ℕ} {was : Pointer} → KeepsAll s m → KeepsAll m u → IsTopOf s m t top → Links t level k at i was result m u → IsTopOf s u t top
top_stays {s = s} {m = m} {u = u} {t = t} {result = result} {top = top} {was = was} first more is step = record {
  from = ⊎_elim (λ made. inl (made.0, ap (λ (l : Label). l.state) same ∙ made.1)) (λ e. inr e) is.from;
  apart = λ made. (step.apart top ne).1 (is.apart (made.0, ap (λ (l : Label). l.state) (sym same) ∙ made.1));
  comes = λ told from h. comes_on (first.still_tells.1 told) from (is.comes told from h);
  only = λ told y x h. is.only told y x (step.instead y x h);
  live = ap (λ (l : Label). l.state) same ∙ is.live;
  current = ap (λ (l : Label). l.epoch) same ∙ is.current ∙ sym more.same_high;
}
  where
    ne_live : (x : ℕ) → (m.label x).state ≡ Live → x ≢ result
    ne_live x live e = step.made.0 (ap (λ y. (m.label y).state) (sym e) ∙ live)

    ne : top ≢ result
    ne = ne_live top is.live

    same : u.label top ≡ m.label top
    same = step.labels top ne

    -- an older block is so still
    older_on : (x : ℕ) → (m.label x).state ≡ Live → (m.label x).epoch < m.high → (u.label x).epoch < u.high
    older_on x live older =
        let label : (u.label x).epoch ≡ (m.label x).epoch = ap (λ (l : Label). l.epoch) (step.labels x (ne_live x live)) in
        let high = more.same_high in
        omega (arith, label, high, older)

    spared : (m.covered top → ⊥) → u.covered top → ⊥
    spared free = step.covers.only top free (λ e. let older = step.older top e in let current = is.current in absurd (omega (arith, older, current)))

    instead_on : m.tells → (from : Pointer) → IsInstead m from top → IsInstead u from top
    instead_on told from i = record {
      is_apart = (step.apart top ne).1 i.is_apart;
      place = i.place;
      stands = step.places told top i.place ne (spared i.uncovered) (rooted_of_apart u top ((step.apart top ne).1 i.is_apart)) i.stands;
      uncovered = spared i.uncovered;
      instead = λ x. (λ h. (i.instead x).0 (step.instead top x h), λ e. step.still top x ne ((i.instead x).1 e));
      live = λ x e. ap (λ (l : Label). l.state) (step.labels x (ne_live x (i.live x e))) ∙ i.live x e;
      keeps = λ x e. ⊎_elim
          (λ older. inl (older_on x (i.live x e) older))
          (λ r. ⊎_elim
          (λ left. inl (older_on x (i.live x e) (step.older x left)))
          (λ other. inr (step.below told top x i.place i.stands other r))
          (local_cases was x))
          (i.keeps x e);
    }

    comes_on : m.tells → (from : Pointer) → ComesFor m (Local top) from → ComesFor u (Local top) from
    comes_on told from (inl h) = inl (h.0, λ b e apart. h.1 b e (subst (λ y. m.apart y) (local_eq e) ((step.apart top ne).0 (subst (λ y. u.apart y) (sym (local_eq e)) apart))))
    comes_on told from (inr h) = inr (top, refl, instead_on told from (subst (λ y. IsInstead m from y) (sym (local_eq h.1)) h.2))

-- the way of the new top is current
pub way_owned : (s u : State) (t : Tree) (kept : List Kept) (top n k at : ℕ) → Leads s u t kept top n k at → WayCurrent u (with_top t top) n k
way_owned s u t kept top zero k at leads = (top, refl, subst (λ y. (u.label y).epoch ≡ u.high) leads.0 leads.1.own.current)
way_owned s u t kept top (suc n) k at leads = (way_owned s u t kept top n (k / 409) leads.0.0 leads.0.1, (at, leads_to s u t kept top (suc n) k at leads, leads.1.own.current))

-- what was current on a way is
pub way_last : (s : State) (t : Tree) (n k : ℕ) → WayCurrent s t n k → (b : ℕ) × (block_at s t n k ≡ Local b) × ((s.label b).epoch ≡ s.high)
way_last s t zero k way = way
way_last s t (suc n) k way = way.1

pub way_top : (s : State) (t : Tree) (n k : ℕ) → WayCurrent s t n k → IsTopCurrent s t
way_top s t zero k way = record { at = way.0; is = way.1; current = way.2 }
way_top s t (suc n) k way = way_top s t n (k / 409) way.0
