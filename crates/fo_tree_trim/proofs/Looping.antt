-- One slot after another is cleared, if it is one behind the way.
use Rattle.std.proofs.Common.{◌≡◌, ◌⊎◌, ◌+◌, ◌-◌, ◌*◌, ◌/◌, ◌%◌, ◌<◌, ◌≤◌, ℕ, suc, List, inl, inr, ⊎_elim, sym, ◌∙◌, ap, subst, arith}
use Rattle.std.proofs.lemmas.Bool.{cases_lt}
use Rattle.fo_image.specs.declared.types.Kind.TheVariants.{Dir}
use Rattle.fo_image.specs.declared.types.Label.{Label}
use Rattle.fo_image.specs.declared.types.Pointer.TheVariants.{Nil, Local}
use Rattle.fo_crash.specs.Images.{target}
use Rattle.fo_crash.specs.Spots.{OnePath}
use Rattle.fo_ports.specs.Blocks.{IsInner}
use Rattle.fo_ports.specs.State.{State, MayRemoveSlot}
use Rattle.fo_tree_read.specs.declared.tree.Tree.{Tree}
use Rattle.fo_tree_read.specs.Tree.{kind_at, kind_down, block_at}
use Rattle.fo_tree_look.specs.declared.ways.Kept.{Kept}
use Rattle.fo_tree_look.specs.Source.{HasBlock, IsTold, IsPrepared, seen}
use Rattle.fo_tree_down.specs.Way.{IsWayIndex}
use Rattle.fo_tree_down.proofs.Next.{local_seen, seen_local}
use Rattle.fo_tree_down.proofs.Stilling.{index_one}
use Rattle.fo_tree_trim.specs.Cut.{CutsOne, CutSlot, Cuts, MayCut}
use Rattle.fo_tree_trim.proofs.Along.{Aside, on_device, way_same}
use Rattle.fo_tree_trim.proofs.Cutting.{cut_more, cut_same}
use Rattle.fo_tree_trim.proofs.One.{inner_no_leaf}
use Rattle.fo_tree_trim.proofs.Past.{Said, index_above, inner_kind}
use Rattle.fo_tree_trim.proofs.Removing.{may_remove, below_through, through_first}

-- The slot of this number is one of the block so many steps below the top.
pub record AtSlot (t : Tree) (last x n next i : ℕ) : Type 0 where
  pub within : suc n ≤ t.depth
  pub is_way : IsWayIndex t.depth last (suc n) next
  pub few : i < 409
  pub number : 409 * (t.depth - suc n) + i ≡ x

pub at_slot : (t : Tree) (last x next : ℕ) → x < 409 * t.depth → IsWayIndex t.depth last (t.depth - 1 - x / 409 + 1) next → AtSlot t last x (t.depth - 1 - x / 409) next (x % 409)
at_slot t last x next lt is = record {
  within = omega (arith, lt);
  is_way = let e : t.depth - 1 - x / 409 + 1 ≡ suc (t.depth - 1 - x / 409) = omega arith in subst (λ y. IsWayIndex t.depth last y next) e is;
  few = omega arith;
  number = omega (arith, lt);
}

pub wider : {s : State} {t : Tree} {last x b j : ℕ} → CutSlot s t last x b j → CutSlot s t last (suc x) b j
wider p = record { down = p.down; way = p.way; is_way = p.is_way; within = p.within; is = p.is; behind = p.behind; few = p.few; done = let lt = p.done in omega (arith, lt) }

module _ {s m : State} {t : Tree} {kept : List Kept} {last x n next i : ℕ} (w : Aside s m t kept last x) (a : AtSlot t last x n next i) where
  -- a slot among one more is one of before, or this one
  only : {b j : ℕ} → CutSlot s t last (suc x) b j → CutSlot s t last x b j ⊎ ((next % 409 < i) × (block_at s t n (next / 409) ≡ Local b) × (j ≡ i))
  only {b} {j} p = ⊎_elim
      (λ lt. inl (record { down = p.down; way = p.way; is_way = p.is_way; within = p.within; is = p.is; behind = p.behind; few = p.few; done = lt }))
      (λ ge.
      let done = p.done in
      let number = a.number in
      let few = p.few in
      let other = a.few in
      let in_p = p.within in
      let in_a = a.within in
      let down : p.down ≡ n = omega (arith, done, ge, number, few, other, in_p, in_a) in
      let same : j ≡ i = omega (arith, done, ge, number, few, other, in_p, in_a) in
      let way : p.way ≡ next = index_one t.depth last (suc n) p.way next (subst (λ y. IsWayIndex t.depth last (suc y) p.way) down p.is_way) a.is_way in
      let behind = p.behind in
      inr (
        omega (arith, behind, way, same),
        ap (λ y. block_at s t y (next / 409)) (sym down) ∙ ap (λ y. block_at s t p.down (y / 409)) (sym way) ∙ p.is,
        same,
      ))
      (cases_lt (409 * (t.depth - suc p.down) + j) x)

  -- where it is none behind the way
  pub passed : i ≤ next % 409 → Cuts (CutSlot s t last (suc x)) s m
  passed le = cut_same w.cuts (λ b j p. wider p) (λ b j p. ⊎_elim (λ old. inl old) (λ h. let lt = h.0 in absurd (omega (arith, lt, le))) (only p))

  -- the block is on the device
  pub found_there : (b : ℕ) × (block_at (seen m kept) t n (next / 409) ≡ Local b)
  found_there =
      let le = a.within in
      let up = index_above t.depth last n next a.is_way in
      let d = on_device w n (next / 409) (omega (arith, le)) up in
      (d.at, way_same w n (next / 409) up ∙ local_seen s kept t n (next / 409) d.at d.is)

  local_same : {b c : ℕ} → Local b ≡ Local c → b ≡ c
  local_same e = cc

  module _ {at : ℕ} (found : block_at (seen m kept) t n (next / 409) ≡ Local at) where
    found_first : block_at s t n (next / 409) ≡ Local at
    found_first = let le = a.within in seen_local s kept t n (next / 409) at (sym (way_same w n (next / 409) (index_above t.depth last n next a.is_way)) ∙ found)

    here_ready : IsPrepared s (kind_down t n) t.tag at
    here_ready =
        let le = a.within in
        let d = on_device w n (next / 409) (omega (arith, le)) (index_above t.depth last n next a.is_way) in
        subst (λ y. IsPrepared s (kind_down t n) t.tag y) (local_same (sym d.is ∙ found_first)) d.ready

    here_current : (s.label at).epoch ≡ s.high
    here_current =
        let le = a.within in
        let d = on_device w n (next / 409) (omega (arith, le)) (index_above t.depth last n next a.is_way) in
        subst (λ y. (s.label y).epoch ≡ s.high) (local_same (sym d.is ∙ found_first)) d.current

    pub may_pinned : m.pinned at
    may_pinned = (w.cuts.marks at).0 here_ready.is_pinned

    pub may_current : (m.label at).epoch ≡ m.high
    may_current = ap (λ (l : Label). l.epoch) (w.cuts.labels at) ∙ here_current ∙ sym w.all.same_high

    pub may_inner : IsInner (m.label at).kind
    may_inner =
        let le = a.within in
        let level : t.depth - n ≡ suc (t.depth - suc n) = omega (arith, le) in
        subst IsInner (sym (ap (λ (l : Label). l.kind) (w.cuts.labels at) ∙ here_ready.has_kind ∙ ap (λ y. kind_at t.dir y) level)) (inner_kind t.dir (t.depth - suc n))

    -- where nothing is there
    pub none_here : target ((m.now at).slot i) ≡ Nil → Cuts (CutSlot s t last (suc x)) s m
    none_here nil = cut_same w.cuts (λ b j p. wider p) (λ b j p. ⊎_elim
        (λ old. inl old)
        (λ h. inr (ap (λ y. target ((m.now y).slot j)) (local_same (sym h.1 ∙ found_first)) ∙ ap (λ y. target ((m.now at).slot y)) h.2 ∙ nil))
        (only p))

    module _ (lt : next % 409 < i) where
      abbrev cut_here : CutSlot s t last (suc x) at i
      cut_here = record {
        down = n;
        way = next;
        is_way = a.is_way;
        within = a.within;
        is = found_first;
        behind = lt;
        few = a.few;
        done = let number = a.number in omega (arith, number);
      }

      pub may_clear : Said s t last → MayCut s t last → ((b : ℕ) → HasBlock s t b → IsTold s t.top b) → MayRemoveSlot m at i
      may_clear said may told = may_remove said may w.cuts told cut_here a.number

      pub one_more : {u : State} → CutsOne at i m u → (s.tells → Said s t last) → (s.tells → MayCut s t last) → (s.tells → (b : ℕ) → HasBlock s t b → IsTold s t.top b)
          → (s.tells → OnePath 1 s.now) → ((a on j : ℕ) → m.waits a on j → (m.label on).kind ≡ Dir 0) → ((b : ℕ) → m.covered b → m.tells) → Cuts (CutSlot s t last (suc x)) s u
      one_more {u} step said may told one waits covers = cut_more {first = CutSlot s t last x} {cut = CutSlot s t last (suc x)} {at = at} {i = i} {s = s} {m = m} {u = u} (record {
        before = w.cuts;
        step = step;
        all = w.all;
        within = λ b j p. wider p;
        here = cut_here;
        only = λ b j p. ⊎_elim (λ old. inl old) (λ h. inr (local_same (sym h.1 ∙ found_first), h.2)) (only p);
        one = one;
        through = λ now path b h e. below_through (said now) (may now) w.cuts (told now) cut_here a.number path b h e;
        through_first = λ now c j p path b h e. through_first (said now) c j p path b h e;
        unwaited = λ y j h. inner_no_leaf (m.label at).kind may_inner (waits y at j h);
        covers_told = covers;
      })
