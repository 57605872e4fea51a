-- A source with an end within it, and the least depth for that end.
use Rattle.std.proofs.Common.{◌≡◌, ◌+◌, ◌-◌, ◌*◌, ◌/◌, ◌%◌, ◌^◌, ◌<◌, ◌≤◌, ℕ, zero, suc, Bool, true, false, List, Option, None, Some, take, drop, inl, inr, ⊎_elim, refl, sym, ◌∙◌, ap, subst, arith}
use Rattle.std.proofs.lemmas.Bool.{cases_lt}
use Rattle.std.proofs.Math.Nat.{pow-succ'}
use Rattle.fo_image.specs.declared.types.Kind.{Kind}
use Rattle.fo_image.specs.declared.types.Pointer.{Pointer}
use Rattle.fo_image.specs.declared.types.Pointer.TheVariants.{Nil, Local, Score as Held}
use Rattle.fo_image.specs.Format.{PointerHolds, kind_code}
use Rattle.fo_crash.specs.declared.slot.Slot.{Slot}
use Rattle.fo_crash.specs.declared.slot.Slot.TheVariants.{Pointer as To}
use Rattle.fo_crash.specs.Images.{Reaches, target, to_block}
use Rattle.fo_crash.specs.Places.{place, IsPlaced}
use Rattle.fo_ports.specs.Blocks.{slot_count, SlotFits}
use Rattle.fo_ports.specs.State.{State}
use Rattle.fo_ports.specs.Sources.{depth_for}
use Rattle.fo_tree_read.specs.declared.tree.Tree.{Tree}
use Rattle.fo_tree_read.specs.Tree.{kind_at, kind_down, score_in, below, block_at}
use Rattle.fo_tree_read.proofs.Walk.{held_apart}
use Rattle.fo_tree_look.specs.declared.ways.Kept.{Kept}
use Rattle.fo_tree_look.specs.Source.{HasBlock, IsPrepared, IsKept, Over, Ready, WayReady, seen}
use Rattle.fo_tree_look.proofs.Held.{seen_block}
use Rattle.fo_tree_look.proofs.Places.{block_place}
use Rattle.fo_tree_look.proofs.Shown.{top_ready}
use Rattle.fo_tree_down.proofs.of_tree_own.Filling.{score_holds}
use Rattle.fo_tree_down.proofs.of_tree_own.Link.{inner_slots, is_pointer}
use Rattle.fo_tree_down.specs.Way.{IsWayIndex}
use Rattle.fo_tree_down.specs.Clear.{last_leaf}
use Rattle.fo_tree_down.proofs.Beside.{index_within}
use Rattle.fo_tree_down.proofs.Next.{local_seen, seen_local}
use Rattle.fo_tree_trim.specs.Trim.{lower_tree}
use Rattle.fo_tree_trim.proofs.Along.{way_part}
use Rattle.fo_tree_trim.proofs.Keeping.{index_of, index_room, index_same}
use Rattle.fo_tree_trim.proofs.Least.{room_for, least_for, few_for}
use Rattle.fo_tree_trim.proofs.Linked.{linked_block}
use Rattle.fo_tree_trim.proofs.Past.{way_index}

-- the way to a leaf that is among the first goes by the first blocks above
first_index : (n k m j : ℕ) → m ≤ n → k < 409 ^ (n - m) → IsWayIndex n k m j → j ≡ 0
first_index zero k m j le few is =
    let e = is.0 in
    let f = is.1 in
    let none : zero - m ≡ 0 = omega arith in
    let small : k < 409 ^ 0 = subst (λ d. k < 409 ^ d) none few in
    omega (arith, f, small)
first_index (suc n) k m j le few is = ⊎_elim
    (λ here.
    let e = here.0 in
    let f = here.1 in
    let none : suc n - m ≡ 0 = omega (arith, e) in
    let small : k < 409 ^ 0 = subst (λ d. k < 409 ^ d) none few in
    omega (arith, f, small))
    (λ up.
    ⊎_elim
    (λ lt.
    let more : suc n - m ≡ suc (n - m) = omega (arith, lt) in
    let wide : 409 ^ suc (n - m) ≡ 409 * 409 ^ (n - m) = pow-succ' 409 (n - m) in
    let room : k < 409 ^ suc (n - m) = subst (λ d. k < 409 ^ d) more few in
    first_index n (k / 409) m j (omega (arith, lt)) (omega (arith, room, wide)) up)
    (λ ge.
    let deep = index_within n (k / 409) m j up in
    absurd (omega (arith, ge, deep)))
    (cases_lt m (suc n)))
    is

wider_room : (m a k : ℕ) → a ≤ m → k < 409 ^ a → k < 409 ^ m
wider_room zero a k le few = let none : a ≡ 0 = omega (arith, le) in subst (λ d. k < 409 ^ d) none few
wider_room (suc m) a k le few = ⊎_elim
    (λ lt.
    let small = wider_room m a k (omega (arith, lt)) few in
    let more : 409 ^ suc m ≡ 409 * 409 ^ m = pow-succ' 409 m in
    omega (arith, small, more))
    (λ ge. let same : a ≡ suc m = omega (arith, le, ge) in subst (λ d. k < 409 ^ d) same few)
    (cases_lt a (suc m))

-- What is known of a source with another end.
pub record Lowers (s : State) (t : Tree) (kept : List Kept) (end limit : ℕ) : Type 0 where
  pub over : Over s t kept limit
  pub some : 0 < end
  pub within : end ≤ t.size
  pub ready : WayReady s t kept t.depth (last_leaf end)
  pub linked : s.tells → (b : ℕ) → t.top ≡ Local b → Reaches s.now (to_block 1) b
  pub placed : s.tells → IsPlaced s.stands s.now
  pub active : s.tops 1
  pub is_block : (a i b : ℕ) → s.pinned a → target ((s.now a).slot i) ≡ Local b → s.is_block b
  pub spelled : (a i : ℕ) → s.pinned a → i < slot_count (s.label a).kind → SlotFits (s.label a).kind i ((s.now a).slot i)
  pub alone : s.tells → (y b : ℕ) → s.instead y b → Reaches s.now (to_block 1) y → ⊥

module _ {s : State} {t : Tree} {kept : List Kept} {end limit : ℕ} (x : Lowers s t kept end limit) where
  abbrev least : ℕ
  least = depth_for end

  abbrev d : ℕ
  d = t.depth - depth_for end

  abbrev low : Tree
  low = lower_tree s t kept end

  pub end_small : end ≤ 2 ^ 47
  end_small = let a = x.within in let b = x.over.within in let c = x.over.low in omega (arith, a, b, c)

  pub least_le : depth_for end ≤ t.depth
  least_le = ⊎_elim
      (λ lt. let past = (least_for end end_small).least t.depth lt in let room = x.over.hangs.room in let le = x.within in absurd (omega (arith, past, room, le)))
      (λ ge. ge)
      (cases_lt t.depth (depth_for end))

  levels : t.depth ≡ d + least
  levels = let le = least_le in omega (arith, le)

  last_few : last_leaf end < 409 ^ least
  last_few = let room = room_for end end_small in let some = x.some in omega (arith, room, some)

  -- the blocks above its top
  pub tops_ready : (n : ℕ) → n ≤ d → WayReady s t kept n 0
  tops_ready n le =
      let deep = least_le in
      let i = way_index t.depth (last_leaf end) n (omega (arith, le)) in
      let small : last_leaf end < 409 ^ (t.depth - n) = wider_room (t.depth - n) least (last_leaf end) (omega (arith, le, deep)) last_few in
      subst (λ y. WayReady s t kept n y) (first_index t.depth (last_leaf end) n i.0 (omega (arith, le)) small i.1) (way_part s t kept t.depth (last_leaf end) n i.0 i.1 x.ready)

  kind_same : (n : ℕ) → n ≤ least → kind_down t (d + n) ≡ kind_down low n
  kind_same n le = let e : t.depth - (d + n) ≡ least - n = let deep = least_le in omega (arith, deep, le) in ap (λ l. kind_at t.dir l) e

  -- each block stands so many levels further down in the source that was
  pub low_seen : (n k : ℕ) → n ≤ least → k < 409 ^ n → block_at (seen s kept) low n k ≡ block_at (seen s kept) t (d + n) k
  low_seen zero k le few =
      let first : 0 ≡ k = omega (arith, few) in
      let same : d ≡ d + 0 = omega arith in
      ap (λ y. block_at (seen s kept) t y 0) same ∙ ap (λ y. block_at (seen s kept) t (d + 0) y) first
  low_seen (suc n) k le few =
      let more : 409 ^ suc n ≡ 409 * 409 ^ n = pow-succ' 409 n in
      let same : suc (d + n) ≡ d + suc n = omega arith in
      subst (λ y. block_at (seen s kept) low (suc n) k ≡ block_at (seen s kept) t y k) same
      (ap (λ (p : Pointer). below (seen s kept) (kind_down low n) p (k % 409)) (low_seen n (k / 409) (omega (arith, le)) (omega (arith, few, more)))
      ∙ ap (λ (kind : Kind). below (seen s kept) kind (block_at (seen s kept) t (d + n) (k / 409)) (k % 409)) (sym (kind_same n (omega (arith, le)))))

  pub low_block : s.tells → (n k : ℕ) → n ≤ least → k < 409 ^ n → block_at s low n k ≡ block_at s t (d + n) k
  low_block told n k le few = sym (seen_block s kept x.over.held told low n k) ∙ low_seen n k le few ∙ seen_block s kept x.over.held told t (d + n) k

  low_has : s.tells → (b : ℕ) → HasBlock s low b → HasBlock s t b
  low_has told b has =
      let j = index_of has.down has.index in
      let deep = least_le in
      let within = has.within in
      record {
        down = d + has.down;
        index = j;
        within = omega (arith, within, deep);
        is = sym (low_block told has.down j has.within (index_room has.down has.index)) ∙ index_same s low has.down has.index ∙ has.is;
      }

  -- ---- its top

  top_kinds : (n : ℕ) (p : Pointer) → suc n ≤ t.depth → Ready s t kept n p → ((b : ℕ) → below (seen s kept) (kind_down t n) p 0 ≡ Local b → s.is_block b) × PointerHolds (below (seen s kept) (kind_down t n) p 0)
  top_kinds n Nil le is = (λ b e. let h : Nil ≡ Local b = e in absurd (cc), tt)
  top_kinds n (Local a) le is =
      let level : t.depth - n ≡ suc (t.depth - suc n) = omega (arith, le) in
      let kind : (s.label a).kind ≡ kind_at t.dir (suc (t.depth - suc n)) = is.has_kind ∙ ap (λ l. kind_at t.dir l) level in
      let few : 0 < slot_count (s.label a).kind = subst (λ m. 0 < m) (sym (ap (λ (y : Kind). slot_count y) kind ∙ inner_slots t.dir (t.depth - suc n))) (omega arith) in
      let fits = subst (λ (y : Kind). SlotFits y 0 ((s.now a).slot 0)) kind (x.spelled a 0 is.is_pinned few) in
      (λ b e. x.is_block a 0 b is.is_pinned e, holds t.dir (t.depth - suc n) ((s.now a).slot 0) fits)
    where
      holds : (dir : Bool) (level : ℕ) (q : Slot) → SlotFits (kind_at dir (suc level)) 0 q → PointerHolds (target q)
      holds dir level q fits = by dir level (target q) (subst (λ (z : Slot). SlotFits (kind_at dir (suc level)) 0 z) (is_pointer dir level 0 q fits) fits)
        where
          by : (dir : Bool) (level : ℕ) (p : Pointer) → SlotFits (kind_at dir (suc level)) 0 (To p) → PointerHolds p
          by true level p h = h
          by false level p h = h
  top_kinds n (Held score) le is = (λ b e. absurd (held_apart ((seen s kept).held score (kind_code (kind_down t n))) 0 b e), scored ((seen s kept).held score (kind_code (kind_down t n))))
    where
      scored : (h : Option (List ℕ)) → PointerHolds (score_in h 0)
      scored None = tt
      scored (Some bytes) = score_holds (take 20 (drop (20 * 0) bytes))

  top_at : (n : ℕ) → n ≤ t.depth → WayReady s t kept n 0 → ((b : ℕ) → block_at (seen s kept) t n 0 ≡ Local b → s.is_block b) × PointerHolds (block_at (seen s kept) t n 0)
  top_at zero le way = (x.over.hangs.is_one, x.over.holds)
  top_at (suc n) le way = top_kinds n (block_at (seen s kept) t n (0 / 409)) le (top_ready s t kept n (0 / 409) way.0)

  top_is : ((b : ℕ) → low.top ≡ Local b → s.is_block b) × PointerHolds low.top
  top_is = top_at d (omega arith) (tops_ready d (omega arith))

  top_there : (b : ℕ) → low.top ≡ Local b → block_at s t d 0 ≡ Local b
  top_there b e = seen_local s kept t d 0 b e

  pub low_linked : s.tells → (b : ℕ) → low.top ≡ Local b → Reaches s.now (to_block 1) b
  low_linked told b e = linked_block s t (x.linked told) d 0 b (top_there b e)

  pub low_over : Over s low kept limit
  low_over = record {
    hangs = record {
      few = few_for end;
      room = room_for end end_small;
      low = x.over.hangs.low;
      is_one = top_is.0;
      told = λ told b e.
          let le = least_le in
          let level : t.depth - d ≡ least = omega (arith, le) in
          let stands = block_place s t (x.placed told) x.over.hangs told d 0 b (omega arith) (let few = index_room d 0 in omega (arith, few)) (top_there b e) in (
            subst (λ l. s.stands b (place (kind_at t.dir l) t.tag 0 (t.rank + l))) level stands,
            (x.over.told told b (record { down = d; index = 0; within = omega arith; is = top_there b e })).uncovered,
          );
      rooted = λ told b e. (1, inl x.active, low_linked told b e);
    };
    least = refl;
    within = let a = x.within in let b = x.over.within in omega (arith, a, b);
    low = x.over.low;
    empty = λ (none : end ≡ 0). let some = x.some in absurd (omega (arith, none, some));
    holds = top_is.1;
    free = λ told b e. inr (low_linked told b e);
    told = λ told b has.
        let is = x.over.told told b (low_has told b has) in
        record {
          live = is.live;
          up_to = is.up_to;
          uncovered = is.uncovered;
          in_tree = is.in_tree;
          hung = is.hung;
          alone = λ y h. absurd (x.alone told y b h (x.linked told y (is.alone y h).0));
        };
    unheld = λ told other i score e.
        let j = index_of least i in
        let same : d + least ≡ t.depth = sym levels in
        x.over.unheld told other j score (subst (λ y. block_at s t y j ≡ Held score) same (sym (low_block told least j (omega arith) (index_room least i)) ∙ index_same s low least i ∙ e));
    held = x.over.held;
  }

  ready_low : (n m : ℕ) (p : Pointer) → kind_down t m ≡ kind_down low n → (m < t.depth → n < least) → Ready s t kept m p → Ready s low kept n p
  ready_low n m Nil kind deep is = tt
  ready_low n m (Local a) kind deep is = subst (λ (y : Kind). IsPrepared s y t.tag a) kind is
  ready_low n m (Held score) kind deep is = (
    subst (λ (y : Kind). IsKept kept score (kind_code y)) kind is.0,
    ⊎_elim (λ plain. inl plain) (λ lt. inr (deep lt)) is.1,
  )

  low_way : (n k : ℕ) → n ≤ least → k < 409 ^ n → WayReady s t kept (d + n) k → WayReady s low kept n k
  low_way zero k le few way =
      let same : d + 0 ≡ d = omega arith in
      let first : k ≡ 0 = omega (arith, few) in
      let here : Ready s t kept d low.top = top_ready s t kept d 0 (subst (λ y. WayReady s t kept d y) first (subst (λ y. WayReady s t kept y k) same way)) in
      let deep = least_le in
      ready_low zero d low.top (ap (λ y. kind_down t y) (sym same) ∙ kind_same zero (omega arith)) (λ lt. omega (arith, lt, deep)) here
  low_way (suc n) k le few way =
      let more : 409 ^ suc n ≡ 409 * 409 ^ n = pow-succ' 409 n in
      let same : d + suc n ≡ suc (d + n) = omega arith in
      let parts : WayReady s t kept (suc (d + n)) k = subst (λ y. WayReady s t kept y k) same way in
      let deep = least_le in
      let seen_same : block_at (seen s kept) low (suc n) k ≡ block_at (seen s kept) t (suc (d + n)) k = low_seen (suc n) k le few ∙ ap (λ y. block_at (seen s kept) t y k) same in (
        low_way n (k / 409) (omega (arith, le)) (omega (arith, few, more)) parts.0,
        subst (λ (p : Pointer). Ready s low kept (suc n) p) (sym seen_same)
            (ready_low (suc n) (suc (d + n)) (block_at (seen s kept) t (suc (d + n)) k) (ap (λ y. kind_down t y) (sym same) ∙ kind_same (suc n) le) (λ lt. omega (arith, lt, deep)) parts.1),
      )

  pub low_ready : WayReady s low kept least (last_leaf end)
  low_ready = low_way least (last_leaf end) (omega arith) last_few (subst (λ y. WayReady s t kept y (last_leaf end)) levels x.ready)

  pub low_leaves : s.tells → (i : ℕ) → i < 409 ^ least → block_at s low least i ≡ block_at s t t.depth i
  low_leaves told i few = low_block told least i (omega arith) few ∙ ap (λ y. block_at s t y i) (sym levels)

  pub tops_pinned : (n b : ℕ) → n < d → block_at s t n 0 ≡ Local b → s.pinned b
  tops_pinned n b lt e = (subst (λ (p : Pointer). Ready s t kept n p) (local_seen s kept t n 0 b e) (top_ready s t kept n 0 (tops_ready n (omega (arith, lt))))).is_pinned
