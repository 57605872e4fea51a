-- A slot behind the way may be cleared.
use Rattle.std.proofs.Common.{◌≡◌, ◌≢◌, ◌⊎◌, ◌+◌, ◌-◌, ◌*◌, ◌/◌, ◌%◌, ◌^◌, ◌<◌, ℕ, suc, List, inl, inr, ⊎_elim, refl, sym, ◌∙◌, ap, subst, arith}
use Rattle.std.proofs.Math.Nat.{pow-succ'}
use Rattle.fo_image.specs.declared.types.Label.{Label}
use Rattle.fo_image.specs.declared.types.Pointer.{Pointer}
use Rattle.fo_image.specs.declared.types.Pointer.TheVariants.{Nil, Local, Score as Held}
use Rattle.fo_crash.specs.declared.place.Place.{Place}
use Rattle.fo_crash.specs.declared.slot.Slot.{Slot}
use Rattle.fo_crash.specs.declared.slot.Slot.TheVariants.{Pointer as To}
use Rattle.fo_crash.specs.Images.{Reaches, target, walk, to_block}
use Rattle.fo_crash.specs.Places.{place}
use Rattle.fo_crash.specs.Steps.{Through}
use Rattle.fo_crash.proofs.Places.{stands_below}
use Rattle.fo_crash.proofs.Reach.{lost, reaches_same}
use Rattle.fo_ports.specs.Blocks.{IsInner}
use Rattle.fo_ports.specs.State.{State, IsPointers, MayRemoveSlot}
use Rattle.fo_tree_read.specs.declared.tree.Tree.{Tree}
use Rattle.fo_tree_read.specs.Tree.{kind_down, below, block_at}
use Rattle.fo_tree_look.specs.Source.{HasBlock, IsTold}
use Rattle.fo_tree_down.proofs.Join.{level_same}
use Rattle.fo_tree_trim.specs.Behind.{IsPast, HangsPast}
use Rattle.fo_tree_trim.specs.Cut.{CutSlot, HangsFrom, HangsThrough, Cuts, MayCut}
use Rattle.fo_tree_trim.proofs.Cutting.{cut_less}
use Rattle.fo_tree_trim.proofs.Paths.{path_back, reaches_back}
use Rattle.fo_tree_trim.proofs.Past.{Said, IsBelow, index_above, index_few, stands_at, way_below, below_reached, past_inner, through_past}

local_same : {a b : ℕ} → Local a ≡ Local b → a ≡ b
local_same e = cc

nil_local : (b : ℕ) → Nil ≢ Local b
nil_local b e = cc

leads_on : (s : State) (p : Pointer) (q : Slot) (b : ℕ) → target q ≡ p → Reaches s.now q b → (y : ℕ) × (target q ≡ Local y)
leads_on s Nil q b is r = absurd (lost s.now r.path q (λ c g. nil_local c (sym is ∙ g)) b r.leads)
leads_on s (Local y) q b is r = (y, is)
leads_on s (Held score) q b is r = absurd (lost s.now r.path q (λ c g. let h : Held score ≡ Local c = sym is ∙ g in cc) b r.leads)

module _ {s : State} {t : Tree} {last : ℕ} (x : Said s t last) where
  module _ {count a i : ℕ} (p : CutSlot s t last count a i) where
    abbrev number : ℕ
    number = 409 * (p.way / 409) + i

    slot_index : block_at s t (suc p.down) (409 * (p.way / 409) + i) ≡ target ((s.now a).slot i)
    slot_index =
        let few = p.few in
        let above : (409 * (p.way / 409) + i) / 409 ≡ p.way / 409 = omega (arith, few) in
        let rest : (409 * (p.way / 409) + i) % 409 ≡ i = omega (arith, few) in
        ap (λ y. below s (kind_down t p.down) (block_at s t p.down y) ((409 * (p.way / 409) + i) % 409)) above
        ∙ ap (λ y. below s (kind_down t p.down) (block_at s t p.down (p.way / 409)) y) rest
        ∙ ap (λ (q : Pointer). below s (kind_down t p.down) q i) p.is

    slot_few : 409 * (p.way / 409) + i < 409 ^ suc p.down
    slot_few =
        let few = p.few in
        let more : 409 ^ suc p.down ≡ 409 * 409 ^ p.down = pow-succ' 409 p.down in
        let room = index_few t.depth last p.down (p.way / 409) x.few (index_above t.depth last p.down p.way p.is_way) in
        omega (arith, few, more, room)

    -- what it leads to stands behind the way
    pub slot_past : (b : ℕ) → target ((s.now a).slot i) ≡ Local b → IsPast s t last b
    slot_past b e = let past = p.behind in record {
      down = suc p.down;
      index = 409 * (p.way / 409) + i;
      way = p.way;
      within = p.within;
      few = slot_few;
      is_way = p.is_way;
      behind = omega (arith, past);
      is = slot_index ∙ e;
    }

  pub hangs_below : {count : ℕ} (b : ℕ) → HangsFrom (CutSlot s t last count) s b → IsBelow s t last b
  hangs_below b h = below_reached x ((s.now h.0).slot h.1) b (λ c e. inl (slot_past h.2 c e)) h.3

  pub hangs_past : {count : ℕ} (b : ℕ) → HangsFrom (CutSlot s t last count) s b → HangsPast s t last b
  hangs_past b h =
      let y = leads_on s (target ((s.now h.0).slot h.1)) ((s.now h.0).slot h.1) b refl h.3 in
      record { from = y.0; past = slot_past h.2 y.0 y.1; reaches = reaches_same {t = to_block y.0} y.1 h.3 }

  pub through_is : {count : ℕ} (b : ℕ) → HangsThrough (CutSlot s t last count) s b → IsPast s t last b
  through_is b h = through_past x h.3.path ((s.now h.0).slot h.1) b (slot_past h.2) h.3.leads h.3.within

  -- a path from a slot that is cleared, to what hangs from one through blocks of pointers, goes through these alone
  pub through_first : {count more : ℕ} (a j : ℕ) → CutSlot s t last count a j → (path : List ℕ) (b : ℕ) → HangsThrough (CutSlot s t last more) s b → target (walk s.now ((s.now a).slot j) path) ≡ Local b → Through (IsPointers s) s.now ((s.now a).slot j) b
  through_first a j p path b h e = record { path = path; leads = e; within = past_inner x ((s.now a).slot j) path b (slot_past p) (through_is b h) e }

  -- a slot that was cleared before has nothing above this one
  pub not_above : {count a i c : ℕ} (p : CutSlot s t last (suc count) a i) → 409 * (t.depth - suc p.down) + i ≡ count → target ((s.now a).slot i) ≡ Local c → HangsFrom (CutSlot s t last count) s c → ⊥
  not_above {count} {a} {i} {c} p now e h =
      let q = h.2 in
      let y = leads_on s (target ((s.now h.0).slot h.1)) ((s.now h.0).slot h.1) c refl h.3 in
      let r : Reaches s.now (to_block y.0) c = reaches_same {t = to_block y.0} y.1 h.3 in
      let from = stands_at x (suc q.down) (409 * (q.way / 409) + h.1) y.0 q.within (slot_few q) (slot_index q ∙ y.1) in
      let here = stands_at x (suc p.down) (409 * (p.way / 409) + i) c p.within (slot_few p) (slot_index p ∙ e) in
      let b = stands_below (place (kind_down t (suc q.down)) t.tag (409 * (q.way / 409) + h.1) (t.rank + (t.depth - suc q.down))) x.placed x.ranked from r in
      let same : b.0 ≡ place (kind_down t (suc p.down)) t.tag (409 * (p.way / 409) + i) (t.rank + (t.depth - suc p.down)) = x.one.each c b.0 (place (kind_down t (suc p.down)) t.tag (409 * (p.way / 409) + i) (t.rank + (t.depth - suc p.down))) b.1 here in
      let rank : b.0.rank ≡ t.rank + (t.depth - suc p.down) = ap (λ (z : Place). z.rank) same in
      let done = q.done in
      let few = p.few in
      ⊎_elim
      (λ lt. omega (arith, lt, rank, done, few, now))
      (λ eq.
      let one = ap (λ (z : Place). z.index) (sym same ∙ eq.1) in
      let level : t.depth - suc p.down ≡ t.depth - suc q.down = level_same t.dir (t.depth - suc p.down) (t.depth - suc q.down) (ap (λ (z : Place). z.kind) (sym same ∙ eq.1)) in
      let other = q.few in
      let own : h.1 ≡ i = omega (arith, one, few, other) in
      omega (arith, level, own, done, now))
      b.2

  module _ {m : State} {count : ℕ} (may : MayCut s t last) (c : Cuts (CutSlot s t last count) s m)
      (told : (b : ℕ) → HasBlock s t b → IsTold s t.top b) {a i : ℕ} (p : CutSlot s t last (suc count) a i) (now : 409 * (t.depth - suc p.down) + i ≡ count) where
    -- what the slot leads to now
    slot_now : (b : ℕ) → target ((m.now a).slot i) ≡ Local b → target ((s.now a).slot i) ≡ Local b
    slot_now b e = ⊎_elim
        (λ same. ap target (sym same) ∙ e)
        (λ cut. absurd (nil_local b (ap target (sym cut.1) ∙ e)))
        (c.slots a i)

    leads_past : (b : ℕ) → target ((m.now a).slot i) ≡ Local b → IsPast s t last b
    leads_past b e = slot_past p b (slot_now b e)

    below_past : (b : ℕ) → Reaches m.now ((m.now a).slot i) b → HangsPast s t last b
    below_past b r = elim_slot (c.slots a i)
      where
        before : Reaches s.now ((m.now a).slot i) b
        before = reaches_back (cut_less c) r

        elim_slot : ((m.now a).slot i ≡ (s.now a).slot i) ⊎ (CutSlot s t last count a i × ((m.now a).slot i ≡ To Nil)) → HangsPast s t last b
        elim_slot (inl same) =
            let y = leads_on s (target ((m.now a).slot i)) ((m.now a).slot i) b refl before in
            record { from = y.0; past = leads_past y.0 y.1; reaches = reaches_same {t = to_block y.0} y.1 before }
        elim_slot (inr cut) = absurd (lost s.now before.path ((m.now a).slot i) (λ c e. nil_local c (sym (ap target cut.1) ∙ e)) b before.leads)

    holder_free : HangsFrom (CutSlot s t last count) s a → ⊥
    holder_free h = way_below x p.down (p.way / 409) a (index_above t.depth last p.down p.way p.is_way) p.is (hangs_below a h)

    has : HasBlock s t a
    has = let le = p.within in record { down = p.down; index = p.way / 409; within = omega (arith, le); is = p.is }

    has_past : {b : ℕ} → IsPast s t last b → HasBlock s t b
    has_past q = record { down = q.down; index = q.index; within = q.within; is = q.is }

    linked_now : Reaches m.now (to_block 1) a
    linked_now = c.reached x.told 1 a holder_free (may.linked a has)

    pub may_remove : MayRemoveSlot m a i
    may_remove = record {
      leaves = record {
        each = λ y z is r. absurd (may.alone y z (below_past z r) ((c.instead y z).0 is));
        still = λ b j waits r. absurd (may.still b j (below_past b r) ((c.order b j).0 waits));
      };
      uncovered = c.only x.told a (told a has).uncovered holder_free;
      first = λ inner e. let lt = p.behind in absurd (omega (arith, lt, e));
      holder = inl linked_now;
      linked = λ b e. linked_now;
      keeps = λ b e. c.reached x.told 1 b (not_above p now (slot_now b e)) (may.linked b (has_past (leads_past b e)));
    }

    pub below_through : (path : List ℕ) (b : ℕ) → HangsThrough (CutSlot s t last (suc count)) s b → target (walk m.now ((m.now a).slot i) path) ≡ Local b → Through (IsPointers m) m.now ((m.now a).slot i) b
    below_through path b h e = record {
      path = path;
      leads = e;
      within = λ front j rest y is to.
          let w = (m.now a).slot i in
          let inner = past_inner x w path b leads_past (through_is b h) (path_back (cut_less c) path w b e) front j rest y is (path_back (cut_less c) front w y to) in
          subst IsInner (ap (λ (l : Label). l.kind) (sym (c.labels y))) inner;
    }
