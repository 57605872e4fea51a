-- The way to a leaf, where slots behind it are cleared.
use Rattle.std.proofs.Common.{◌≡◌, ◌⊎◌, ◌-◌, ◌*◌, ◌/◌, ◌%◌, ◌^◌, ◌<◌, ◌≤◌, ℕ, zero, suc, List, length, inl, inr, ⊎_elim, refl, sym, ◌∙◌, ap, subst, arith}
use Rattle.std.proofs.lemmas.Bool.{cases_eq}
use Rattle.std.proofs.Math.Nat.{pow-succ'}
use Rattle.fo_image.specs.declared.types.Label.{Label}
use Rattle.fo_image.specs.declared.types.Pointer.{Pointer}
use Rattle.fo_image.specs.declared.types.Pointer.TheVariants.{Nil, Local, Score as Held}
use Rattle.fo_crash.specs.declared.slot.Slot.{Slot}
use Rattle.fo_crash.specs.Images.{target}
use Rattle.fo_ports.specs.State.{State, KeepsAll}
use Rattle.fo_tree_read.specs.declared.tree.Tree.{Tree}
use Rattle.fo_tree_read.specs.Tree.{kind_down, score_in, below, block_at}
use Rattle.fo_tree_look.specs.declared.ways.Kept.{Kept}
use Rattle.fo_image.specs.Format.{kind_code}
use Rattle.fo_tree_look.specs.Source.{IsPrepared, find_kept, or_held, Ready, WayReady, seen}
use Rattle.fo_tree_look.proofs.Shown.{top_ready}
use Rattle.fo_tree_down.specs.Way.{IsWayIndex, IsCurrentAt, WayCurrent}
use Rattle.fo_tree_down.proofs.Beside.{index_within}
use Rattle.fo_tree_down.proofs.Join.{level_same}
use Rattle.fo_tree_down.proofs.Next.{local_seen}
use Rattle.fo_tree_down.proofs.Stilling.{index_one}
use Rattle.fo_tree_trim.specs.Behind.{IsClearTo}
use Rattle.fo_tree_trim.specs.Cut.{CutSlot, Cuts}
use Rattle.fo_tree_trim.proofs.Past.{index_above}

pub way_part : (s : State) (t : Tree) (kept : List Kept) (n k m a : ℕ) → IsWayIndex n k m a → WayReady s t kept n k → WayReady s t kept m a
way_part s t kept zero k m a is way = subst (λ x. WayReady s t kept x a) (sym is.0) (subst (λ y. WayReady s t kept zero y) (sym is.1) way)
way_part s t kept (suc n) k m a is way = ⊎_elim
    (λ here. subst (λ x. WayReady s t kept x a) (sym here.0) (subst (λ y. WayReady s t kept (suc n) y) (sym here.1) way))
    (λ up. way_part s t kept n (k / 409) m a up way.0)
    is

current_part : (s : State) (t : Tree) (n k m a : ℕ) → IsWayIndex n k m a → WayCurrent s t n k → IsCurrentAt s (block_at s t m a)
current_part s t zero k m a is way = subst (λ x. IsCurrentAt s (block_at s t x a)) (sym is.0) way
current_part s t (suc n) k m a is way = ⊎_elim
    (λ here. subst (λ x. IsCurrentAt s (block_at s t x a)) (sym here.0) (subst (λ y. IsCurrentAt s (block_at s t (suc n) y)) (sym here.1) way.1))
    (λ up. current_part s t n (k / 409) m a up way.0)
    is

index_less : (d k m a : ℕ) → suc m ≤ suc d → IsWayIndex (suc d) k m a → IsWayIndex d (k / 409) m a
index_less d k m a le is = ⊎_elim (λ here. absurd (let e = here.0 in omega (arith, le, e))) (λ up. up) is

-- A block of the way that is no leaf is a current one on the device.
pub record OnDevice (s : State) (t : Tree) (n a : ℕ) : Type 0 where
  pub at : ℕ
  pub is : block_at s t n a ≡ Local at
  pub current : (s.label at).epoch ≡ s.high
  pub ready : IsPrepared s (kind_down t n) t.tag at

-- What is known of the way as slots behind it are cleared.
pub record Aside (s m : State) (t : Tree) (kept : List Kept) (last x : ℕ) : Type 0 where
  pub cuts : Cuts (CutSlot s t last x) s m
  pub all : KeepsAll s m
  pub deep : 0 < t.depth
  pub ready : WayReady s t kept t.depth last
  pub current : WayCurrent s t (t.depth - 1) (last / 409)

module _ {s m : State} {t : Tree} {kept : List Kept} {last x : ℕ} (w : Aside s m t kept last x) where
  pub on_device : (n a : ℕ) → suc n ≤ t.depth → IsWayIndex t.depth last n a → OnDevice s t n a
  on_device n a le is =
      let deep = w.deep in
      let level : t.depth ≡ suc (t.depth - 1) = omega (arith, deep) in
      let c = current_part s t (t.depth - 1) (last / 409) n a (index_less (t.depth - 1) last n a (omega (arith, le)) (subst (λ d. IsWayIndex d last n a) level is)) w.current in
      record {
        at = c.0;
        is = c.1;
        current = c.2;
        ready = subst (λ (p : Pointer). Ready s t kept n p) (local_seen s kept t n a c.0 c.1) (top_ready s t kept n a (way_part s t kept t.depth last n a is w.ready));
      }

  local_same : {a b : ℕ} → Local a ≡ Local b → a ≡ b
  local_same e = cc

  -- which slot of the way's blocks was cleared
  pub same_slot : (n a b j : ℕ) → suc n ≤ t.depth → IsWayIndex t.depth last (suc n) a → block_at s t n (a / 409) ≡ Local b → (p : CutSlot s t last x b j) → (p.down ≡ n) × (p.way ≡ a)
  same_slot n a b j le is e p =
      let here = on_device n (a / 409) (omega (arith, le)) (index_above t.depth last n a is) in
      let there = on_device p.down (p.way / 409) p.within (index_above t.depth last p.down p.way p.is_way) in
      let one : here.at ≡ b = local_same (sym here.is ∙ e) in
      let two : there.at ≡ b = local_same (sym there.is ∙ p.is) in
      let kinds : kind_down t p.down ≡ kind_down t n = sym there.ready.has_kind ∙ ap (λ y. (s.label y).kind) (two ∙ sym one) ∙ here.ready.has_kind in
      let levels : t.depth - p.down ≡ t.depth - n = level_same t.dir (t.depth - p.down) (t.depth - n) kinds in
      let within = p.within in
      let down : p.down ≡ n = omega (arith, levels, within, le) in
      (down, index_one t.depth last (suc n) p.way a (subst (λ y. IsWayIndex t.depth last (suc y) p.way) down p.is_way) is)

  pub way_slot : (n a b : ℕ) → suc n ≤ t.depth → IsWayIndex t.depth last (suc n) a → block_at s t n (a / 409) ≡ Local b → (m.now b).slot (a % 409) ≡ (s.now b).slot (a % 409)
  way_slot n a b le is e = ⊎_elim
      (λ same. same)
      (λ cut.
      let own = (same_slot n a b (a % 409) le is e cut.0).1 in
      let lt = cut.0.behind in
      absurd (omega (arith, lt, own)))
      (w.cuts.slots b (a % 409))

  pub way_same : (n a : ℕ) → IsWayIndex t.depth last n a → block_at (seen m kept) t n a ≡ block_at (seen s kept) t n a
  way_same zero a is = refl
  way_same (suc n) a is =
      let le = index_within t.depth last (suc n) a is in
      let up = index_above t.depth last n a is in
      let here = on_device n (a / 409) (omega (arith, le)) up in
      let above = local_seen s kept t n (a / 409) here.at here.is in
      ap (λ (p : Pointer). below (seen m kept) (kind_down t n) p (a % 409)) (way_same n (a / 409) up ∙ above)
      ∙ ap (λ (q : Slot). target q) (way_slot n a here.at (omega (arith, le)) is here.is)
      ∙ sym (ap (λ (p : Pointer). below (seen s kept) (kind_down t n) p (a % 409)) above)

  prepared_on : (n a : ℕ) → IsPrepared s (kind_down t n) t.tag a → IsPrepared m (kind_down t n) t.tag a
  prepared_on n a is =
      let same = w.cuts.labels a in
      let epoch : (m.label a).epoch ≡ (s.label a).epoch = ap (λ (l : Label). l.epoch) same in
      let high = w.all.same_high in
      let up = is.up_to in
      record {
        is_pinned = (w.cuts.marks a).0 is.is_pinned;
        live = ap (λ (l : Label). l.state) same ∙ is.live;
        has_kind = ap (λ (l : Label). l.kind) same ∙ is.has_kind;
        tagged = ap (λ (l : Label). l.tag) same ∙ is.tagged;
        up_to = omega (arith, epoch, high, up);
        long = ap (λ (xs : List ℕ). length xs) (w.cuts.bytes a) ∙ is.long;
      }

  ready_on : (n : ℕ) (p : Pointer) → Ready s t kept n p → Ready m t kept n p
  ready_on n Nil is = is
  ready_on n (Local a) is = prepared_on n a is
  ready_on n (Held score) is = is

  pub way_ready : (n a : ℕ) → IsWayIndex t.depth last n a → WayReady m t kept n a
  way_ready zero a is = subst (λ (p : Pointer). Ready m t kept zero p) (way_same zero a is) (ready_on zero t.top (way_part s t kept t.depth last zero a is w.ready))
  way_ready (suc n) a is = (
    way_ready n (a / 409) (index_above t.depth last n a is),
    subst (λ (p : Pointer). Ready m t kept (suc n) p) (sym (way_same (suc n) a is))
        (ready_on (suc n) (block_at (seen s kept) t (suc n) a) (top_ready s t kept (suc n) a (way_part s t kept t.depth last (suc n) a is w.ready))),
  )

  -- ---- all other ways: a block is as it was, or there is none

  pub block_or : (n j : ℕ) → n ≤ t.depth → WayReady s t kept n j → (block_at (seen m kept) t n j ≡ block_at (seen s kept) t n j) ⊎ (block_at (seen m kept) t n j ≡ Nil)
  block_or zero j le way = inl refl
  block_or (suc n) j le way = ⊎_elim
      (λ same. step (block_at (seen s kept) t n (j / 409)) same)
      (λ nil. inr (ap (λ (p : Pointer). below (seen m kept) (kind_down t n) p (j % 409)) nil))
      (block_or n (j / 409) (omega (arith, le)) way.0)
    where
      step : (p : Pointer) → block_at (seen m kept) t n (j / 409) ≡ p → (below (seen m kept) (kind_down t n) (block_at (seen m kept) t n (j / 409)) (j % 409) ≡ below (seen s kept) (kind_down t n) p (j % 409)) ⊎ (below (seen m kept) (kind_down t n) (block_at (seen m kept) t n (j / 409)) (j % 409) ≡ Nil)
      step Nil e = inl (ap (λ (q : Pointer). below (seen m kept) (kind_down t n) q (j % 409)) e)
      step (Local a) e = ⊎_elim
          (λ same. inl (ap (λ (q : Pointer). below (seen m kept) (kind_down t n) q (j % 409)) e ∙ ap (λ (q : Slot). target q) same))
          (λ cut. inr (ap (λ (q : Pointer). below (seen m kept) (kind_down t n) q (j % 409)) e ∙ ap (λ (q : Slot). target q) cut.1))
          (w.cuts.slots a (j % 409))
      step (Held score) e = inl (ap (λ (q : Pointer). below (seen m kept) (kind_down t n) q (j % 409)) e
          ∙ ap (λ h. score_in (or_held (find_kept kept score (kind_code (kind_down t n))) h) (j % 409)) (w.all.same_held score (kind_code (kind_down t n))))

  pub any_ready : (n j : ℕ) → n ≤ t.depth → WayReady s t kept n j → WayReady m t kept n j
  any_ready zero j le way = ready_on zero t.top way
  any_ready (suc n) j le way = (
    any_ready n (j / 409) (omega (arith, le)) way.0,
    ⊎_elim
        (λ same. subst (λ (p : Pointer). Ready m t kept (suc n) p) (sym same) (ready_on (suc n) (block_at (seen s kept) t (suc n) j) way.1))
        (λ nil. subst (λ (p : Pointer). Ready m t kept (suc n) p) (sym nil) tt)
        (block_or (suc n) j le way),
  )

-- ---- once all were cleared

pub clear_end : {s m : State} {t : Tree} {kept : List Kept} {last : ℕ} → last < 409 ^ t.depth → Aside s m t kept last (409 * t.depth) → IsClearTo m t kept t.depth last
clear_end {s = s} {m = m} {t = t} {kept = kept} {last = last} few w = along
  where
    along : IsClearTo m t kept t.depth last
    along zero a b is lt room = absurd (omega (arith, lt, room))
    along (suc n) a b is lt room =
        let more : 409 ^ suc n ≡ 409 * 409 ^ n = pow-succ' 409 n in
        let le = index_within t.depth last (suc n) a is in
        let up = index_above t.depth last n a is in
        ⊎_elim
        (λ same.
        let here = on_device w n (a / 409) (omega (arith, le)) up in
        let above : block_at (seen m kept) t n (b / 409) ≡ Local here.at = ap (λ y. block_at (seen m kept) t n y) (sym same) ∙ way_same w n (a / 409) up ∙ local_seen s kept t n (a / 409) here.at here.is in
        let cut : CutSlot s t last (409 * t.depth) here.at (b % 409) = record {
          down = n;
          way = a;
          is_way = is;
          within = omega (arith, le);
          is = here.is;
          behind = omega (arith, lt, same);
          few = omega arith;
          done = omega (arith, le);
        } in
        ap (λ (p : Pointer). below (seen m kept) (kind_down t n) p (b % 409)) above ∙ w.cuts.empty here.at (b % 409) cut)
        (λ ne. ap (λ (p : Pointer). below (seen m kept) (kind_down t n) p (b % 409)) (along n (a / 409) (b / 409) up (omega (arith, lt, ne)) (omega (arith, room, more))))
        (cases_eq (a / 409) (b / 409))
