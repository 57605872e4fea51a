-- What stands behind a way, and what hangs below it.
use Rattle.std.proofs.Common.{◌≡◌, ◌⊎◌, ◌+◌, ◌-◌, ◌*◌, ◌/◌, ◌%◌, ◌^◌, ◌<◌, ◌≤◌, ℕ, zero, suc, Bool, true, false, List, [], ◌∷◌, ◌++◌, inl, inr, ⊎_elim, refl, sym, ◌∙◌, ap, subst, arith}
use Rattle.std.proofs.lemmas.Bool.{cases_eq, cases_lt}
use Rattle.std.proofs.Math.Nat.{pow-succ'}
use Rattle.fo_image.specs.declared.types.Kind.TheVariants.{Root}
use Rattle.fo_image.specs.declared.types.Pointer.{Pointer}
use Rattle.fo_image.specs.declared.types.Pointer.TheVariants.{Nil, Local, Score as Held}
use Rattle.fo_crash.specs.declared.place.Place.{Place}
use Rattle.fo_crash.specs.declared.slot.Slot.{Slot}
use Rattle.fo_crash.specs.Images.{Reaches, target, local, walk}
use Rattle.fo_crash.specs.Places.{place, place_below, super_place, IsPlaced, OnePlace, RanksFall}
use Rattle.fo_crash.specs.Spots.{FewSlots, slots_of}
use Rattle.fo_crash.proofs.Reach.{lost, walk_joins}
use Rattle.fo_ports.specs.Blocks.{IsInner}
use Rattle.fo_ports.specs.State.{State, IsPointers}
use Rattle.fo_tree_read.specs.declared.tree.Tree.{Tree}
use Rattle.fo_tree_read.specs.Tree.{kind_at, kind_down, below, block_at, Hangs}
use Rattle.fo_tree_look.proofs.Places.{block_place}
use Rattle.fo_tree_down.specs.Way.{IsWayIndex}
use Rattle.fo_tree_down.proofs.Beside.{index_last, index_within}
use Rattle.fo_tree_down.proofs.Join.{level_same}
use Rattle.fo_tree_down.proofs.Stilling.{index_one}
use Rattle.fo_tree_trim.specs.Behind.{IsPast}

-- ---- indices

pub way_index : (n k m : ℕ) → m ≤ n → (j : ℕ) × IsWayIndex n k m j
way_index zero k m le = (k, (omega (arith, le), refl))
way_index (suc n) k m le = ⊎_elim
    (λ e. (k, inl (e, refl)))
    (λ ne. let up = way_index n (k / 409) m (omega (arith, le, ne)) in (up.0, inr up.1))
    (cases_eq m (suc n))

pub index_above : (n k m a : ℕ) → IsWayIndex n k (suc m) a → IsWayIndex n k m (a / 409)
index_above zero k m a is = absurd (let e : suc m ≡ 0 = is.0 in omega (arith, e))
index_above (suc n) k m a is = ⊎_elim
    (λ here.
    let level : m ≡ n = let e = here.0 in omega (arith, e) in
    inr (subst (λ x. IsWayIndex n (k / 409) x (a / 409)) (sym level) (subst (λ y. IsWayIndex n (k / 409) n y) (ap (λ y. y / 409) (sym here.1)) (index_last n (k / 409)))))
    (λ up. inr (index_above n (k / 409) m a up))
    is

pub index_few : (n k m a : ℕ) → k < 409 ^ n → IsWayIndex n k m a → a < 409 ^ m
index_few zero k m a few is = let e : 409 ^ m ≡ 1 = ap (λ x. 409 ^ x) is.0 in let f = is.1 in omega (arith, few, e, f)
index_few (suc n) k m a few is = ⊎_elim
    (λ here. let e : 409 ^ m ≡ 409 ^ suc n = ap (λ x. 409 ^ x) here.0 in let f = here.1 in omega (arith, few, e, f))
    (λ up. let more : 409 ^ suc n ≡ 409 * 409 ^ n = pow-succ' 409 n in index_few n (k / 409) m a (omega (arith, few, more)) up)
    is

-- ---- what a device that tells says

pub record Said (s : State) (t : Tree) (last : ℕ) : Type 0 where
  pub told : s.tells
  pub hangs : Hangs s t
  pub placed : IsPlaced s.stands s.now
  pub ranked : RanksFall s.stands s.now
  pub slots : FewSlots s.stands s.now
  pub one : OnePlace s.stands
  pub few : last < 409 ^ t.depth
  pub super_stands : s.stands 1 super_place
  pub kinds : (b : ℕ) (p : Place) → (b ≡ 1 → ⊥) → s.stands b p → (s.label b).kind ≡ p.kind

leaf_outer : (dir : Bool) → IsInner (kind_at dir 0) → ⊥
leaf_outer true inner = omega (arith, inner)
leaf_outer false inner = omega (arith, inner)

inner_slots : (dir : Bool) (level i : ℕ) → i < slots_of (kind_at dir (suc level)) → i < 409
inner_slots true level i lt = lt
inner_slots false level i lt = lt

pub inner_kind : (dir : Bool) (level : ℕ) → IsInner (kind_at dir (suc level))
inner_kind true level = omega arith
inner_kind false level = omega arith

-- A block of another source, which hangs from a leaf of entries of this one.
pub record IsLow (s : State) (t : Tree) (b : ℕ) : Type 0 where
  pub place : Place
  pub stands : s.stands b place
  pub lower : place.rank < t.rank

-- A block stands behind the way, or is one of another source.
abbrev pub IsBelow : State → Tree → ℕ → ℕ → Type 0
IsBelow s t last b = IsPast s t last b ⊎ IsLow s t b

module _ {s : State} {t : Tree} {last : ℕ} (x : Said s t last) where
  pub stands_at : (m a b : ℕ) → m ≤ t.depth → a < 409 ^ m → block_at s t m a ≡ Local b → s.stands b (place (kind_down t m) t.tag a (t.rank + (t.depth - m)))
  stands_at m a b le few e = block_place s t x.placed x.hangs x.told m a b le few e

  -- a block has one number
  pub one_index : (m a n c b : ℕ) → m ≤ t.depth → a < 409 ^ m → block_at s t m a ≡ Local b → n ≤ t.depth → c < 409 ^ n → block_at s t n c ≡ Local b → (m ≡ n) × (a ≡ c)
  one_index m a n c b le few e le' few' e' =
      let same = x.one.each b (place (kind_down t m) t.tag a (t.rank + (t.depth - m))) (place (kind_down t n) t.tag c (t.rank + (t.depth - n))) (stands_at m a b le few e) (stands_at n c b le' few' e') in
      let levels : t.depth - m ≡ t.depth - n = level_same t.dir (t.depth - m) (t.depth - n) (ap (λ (p : Place). p.kind) same) in
      (omega (arith, levels, le, le'), ap (λ (p : Place). p.index) same)

  pub past_place : {b : ℕ} → (p : IsPast s t last b) → s.stands b (place (kind_down t p.down) t.tag p.index (t.rank + (t.depth - p.down)))
  past_place {b = b} p = stands_at p.down p.index b p.within p.few p.is

  pub past_kind : {b : ℕ} → (p : IsPast s t last b) → (s.label b).kind ≡ kind_down t p.down
  past_kind {b = b} p = x.kinds b (place (kind_down t p.down) t.tag p.index (t.rank + (t.depth - p.down))) not_one (past_place p)
    where
      not_root : (dir : Bool) (level : ℕ) → Root ≡ kind_at dir level → ⊥
      not_root true level e = cc
      not_root false level e = cc

      not_one : b ≡ 1 → ⊥
      not_one e = not_root t.dir (t.depth - p.down) (ap (λ (q : Place). q.kind) (x.one.each 1 super_place (place (kind_down t p.down) t.tag p.index (t.rank + (t.depth - p.down))) x.super_stands (subst (λ y. s.stands y (place (kind_down t p.down) t.tag p.index (t.rank + (t.depth - p.down)))) e (past_place p))))

  -- no block of the way stands behind it
  pub way_past : (m a b : ℕ) → IsWayIndex t.depth last m a → block_at s t m a ≡ Local b → IsPast s t last b → ⊥
  way_past m a b is e p =
      let same = one_index m a p.down p.index b (index_within t.depth last m a is) (index_few t.depth last m a x.few is) e p.within p.few p.is in
      let own : p.way ≡ a = index_one t.depth last m p.way a (subst (λ y. IsWayIndex t.depth last y p.way) (sym same.0) p.is_way) is in
      let lt = p.behind in
      let f = same.1 in
      omega (arith, own, lt, f)

  -- no block of the source is one of another
  pub own_low : (m a b : ℕ) → m ≤ t.depth → a < 409 ^ m → block_at s t m a ≡ Local b → IsLow s t b → ⊥
  own_low m a b le few e low =
      let same : t.rank + (t.depth - m) ≡ low.place.rank = ap (λ (p : Place). p.rank) (x.one.each b (place (kind_down t m) t.tag a (t.rank + (t.depth - m))) low.place (stands_at m a b le few e) low.stands) in
      let lt = low.lower in
      omega (arith, same, lt)

  pub past_low : {b : ℕ} → IsPast s t last b → IsLow s t b → ⊥
  past_low {b = b} p low = own_low p.down p.index b p.within p.few p.is low

  pub way_below : (m a b : ℕ) → IsWayIndex t.depth last m a → block_at s t m a ≡ Local b → IsBelow s t last b → ⊥
  way_below m a b is e below = ⊎_elim
      (λ p. way_past m a b is e p)
      (λ low. own_low m a b (index_within t.depth last m a is) (index_few t.depth last m a x.few is) e low)
      below

  -- ---- one step down

  module _ {a : ℕ} (p : IsPast s t last a) (lt : p.down < t.depth) (i b : ℕ) (e : target ((s.now a).slot i) ≡ Local b) where
    level_is : t.depth - p.down ≡ suc (t.depth - suc p.down)
    level_is = omega (arith, lt)

    slot_few : i < 409
    slot_few = inner_slots t.dir (t.depth - suc p.down) i (subst (λ y. i < slots_of (kind_at t.dir y)) level_is (x.slots.each a i b _ (past_place p) e))

    pub past_step : IsPast s t last b
    past_step =
        let few = slot_few in
        let way = way_index t.depth last (suc p.down) (omega (arith, lt)) in
        let up : way.0 / 409 ≡ p.way = index_one t.depth last p.down (way.0 / 409) p.way (index_above t.depth last p.down way.0 way.1) p.is_way in
        let more : 409 ^ suc p.down ≡ 409 * 409 ^ p.down = pow-succ' 409 p.down in
        let room = p.few in
        let past = p.behind in
        let above : (409 * p.index + i) / 409 ≡ p.index = omega (arith, few) in
        let rest : (409 * p.index + i) % 409 ≡ i = omega (arith, few) in
        record {
          down = suc p.down;
          index = 409 * p.index + i;
          way = way.0;
          within = omega (arith, lt);
          few = omega (arith, more, room, few);
          is_way = way.1;
          behind = omega (arith, up, past);
          is = ap (λ y. below s (kind_down t p.down) (block_at s t p.down y) ((409 * p.index + i) % 409)) above
              ∙ ap (λ y. below s (kind_down t p.down) (block_at s t p.down p.index) y) rest
              ∙ ap (λ (q : Pointer). below s (kind_down t p.down) q i) p.is
              ∙ e;
        }

  low_step : {a : ℕ} → IsLow s t a → (i b : ℕ) → target ((s.now a).slot i) ≡ Local b → IsLow s t b
  low_step {a = a} low i b e =
      let falls = x.ranked.each a i b low.place low.stands e in
      let lt = low.lower in
      record {
        place = place_below low.place i ((s.now a).slot i);
        stands = x.placed.each a i b low.place low.stands e;
        lower = omega (arith, falls, lt);
      }

  leaf_step : {a : ℕ} (p : IsPast s t last a) → t.depth ≤ p.down → (i b : ℕ) → target ((s.now a).slot i) ≡ Local b → IsLow s t b
  leaf_step {a = a} p ge i b e =
      let here : Place = place (kind_down t p.down) t.tag p.index (t.rank + (t.depth - p.down)) in
      let falls : (place_below (place (kind_down t p.down) t.tag p.index (t.rank + (t.depth - p.down))) i ((s.now a).slot i)).rank < t.rank + (t.depth - p.down) = x.ranked.each a i b (place (kind_down t p.down) t.tag p.index (t.rank + (t.depth - p.down))) (past_place p) e in
      record {
        place = place_below (place (kind_down t p.down) t.tag p.index (t.rank + (t.depth - p.down))) i ((s.now a).slot i);
        stands = x.placed.each a i b (place (kind_down t p.down) t.tag p.index (t.rank + (t.depth - p.down))) (past_place p) e;
        lower = omega (arith, falls, ge);
      }

  below_step : {a : ℕ} → IsBelow s t last a → (i b : ℕ) → target ((s.now a).slot i) ≡ Local b → IsBelow s t last b
  below_step {a = a} (inl p) i b e = ⊎_elim
      (λ lt. inl (past_step p lt i b e))
      (λ ge. inr (leaf_step p ge i b e))
      (cases_lt p.down t.depth)
  below_step {a = a} (inr low) i b e = inr (low_step low i b e)

  -- ---- paths

  abbrev pub Leads : (ℕ → Type 0) → Pointer → Type 0
  Leads P p = (b : ℕ) → p ≡ Local b → P b

  next_on : {P : ℕ → Type 0} → ((a : ℕ) → P a → (i b : ℕ) → target ((s.now a).slot i) ≡ Local b → P b) → (i : ℕ) (p : Pointer) → Leads P p → Leads P (target ((local s.now p).slot i))
  next_on step i Nil h b e = let g : Nil ≡ Local b = e in absurd (cc)
  next_on step i (Local a) h b e = step a (h a refl) i b e
  next_on step i (Held score) h b e = let g : Nil ≡ Local b = e in absurd (cc)

  pub path_on : {P : ℕ → Type 0} → ((a : ℕ) → P a → (i b : ℕ) → target ((s.now a).slot i) ≡ Local b → P b) → (path : List ℕ) (w : Slot) → Leads P (target w) → Leads P (target (walk s.now w path))
  path_on step [] w h = h
  path_on {P = P} step (i ∷ path) w h = path_on {P = P} step path ((local s.now (target w)).slot i) (next_on {P = P} step i (target w) h)

  pub below_path : (path : List ℕ) (w : Slot) → ((b : ℕ) → target w ≡ Local b → IsBelow s t last b) → (b : ℕ) → target (walk s.now w path) ≡ Local b → IsBelow s t last b
  below_path path w h = path_on {P = IsBelow s t last} (λ a p i b e. below_step p i b e) path w h

  pub below_reached : (w : Slot) (b : ℕ) → ((b : ℕ) → target w ≡ Local b → IsBelow s t last b) → Reaches s.now w b → IsBelow s t last b
  below_reached w b h r = below_path r.path w h b r.leads

  low_path : (path : List ℕ) (w : Slot) → ((b : ℕ) → target w ≡ Local b → IsLow s t b) → (b : ℕ) → target (walk s.now w path) ≡ Local b → IsLow s t b
  low_path path w h = path_on {P = IsLow s t} (λ a p i b e. low_step p i b e) path w h

  -- a path to a block behind the way goes through blocks of pointers alone
  pub past_inner : (w : Slot) (path : List ℕ) (b : ℕ) → ((b : ℕ) → target w ≡ Local b → IsPast s t last b) → IsPast s t last b → target (walk s.now w path) ≡ Local b
      → (front : List ℕ) (i : ℕ) (rest : List ℕ) (a : ℕ) → path ≡ front ++ (i ∷ rest) → target (walk s.now w front) ≡ Local a → IsPointers s a
  past_inner w path b h past e front i rest a is to =
      let whole : target (walk s.now (walk s.now w front) (i ∷ rest)) ≡ Local b = ap target (sym (walk_joins s.now w front (i ∷ rest))) ∙ ap (λ y. target (walk s.now w y)) (sym is) ∙ e in
      let after : target (walk s.now ((s.now a).slot i) rest) ≡ Local b = ap (λ q. target (walk s.now ((local s.now q).slot i) rest)) (sym to) ∙ whole in
      ⊎_elim
      (λ p. ⊎_elim
      (λ lt.
      let level : t.depth - p.down ≡ suc (t.depth - suc p.down) = omega (arith, lt) in
      let kind : kind_at t.dir (suc (t.depth - suc p.down)) ≡ (s.label a).kind = ap (λ y. kind_at t.dir y) (sym level) ∙ sym (past_kind p) in
      subst IsInner kind (inner_kind t.dir (t.depth - suc p.down)))
      (λ ge. absurd (past_low past (low_path rest ((s.now a).slot i) (λ c f. leaf_step p ge i c f) b after)))
      (cases_lt p.down t.depth))
      (λ low. absurd (past_low past (low_path rest ((s.now a).slot i) (λ c f. low_step low i c f) b after)))
      (below_path front w (λ c f. inl (h c f)) a to)

  -- what hangs from a block behind the way through blocks of pointers stands there too
  pub through_past : (path : List ℕ) (w : Slot) (b : ℕ) → ((b : ℕ) → target w ≡ Local b → IsPast s t last b) → target (walk s.now w path) ≡ Local b
      → ((front : List ℕ) (i : ℕ) (rest : List ℕ) (a : ℕ) → path ≡ front ++ (i ∷ rest) → target (walk s.now w front) ≡ Local a → IsPointers s a) → IsPast s t last b
  through_past [] w b h e within = h b e
  through_past (i ∷ path) w b h e within = step (λ on inner. through_past path ((local s.now (target w)).slot i) b on e inner) (target w) refl
    where
      step : (((c : ℕ) → target ((local s.now (target w)).slot i) ≡ Local c → IsPast s t last c)
          → ((front : List ℕ) (j : ℕ) (rest : List ℕ) (c : ℕ) → path ≡ front ++ (j ∷ rest) → target (walk s.now ((local s.now (target w)).slot i) front) ≡ Local c → IsPointers s c) → IsPast s t last b) → (p : Pointer) → target w ≡ p → IsPast s t last b
      step next Nil is = absurd (lost s.now (i ∷ path) w (λ c g. let n : Nil ≡ Local c = sym is ∙ g in cc) b e)
      step next (Held score) is = absurd (lost s.now (i ∷ path) w (λ c g. let n : Held score ≡ Local c = sym is ∙ g in cc) b e)
      step next (Local a) is =
          let p = h a is in
          let inner = within [] i path a refl is in
          let le = p.within in
          let lt : p.down < t.depth = ⊎_elim
          (λ lt. lt)
          (λ ge.
          let level : t.depth - p.down ≡ 0 = omega (arith, ge) in
          absurd (leaf_outer t.dir (subst IsInner (past_kind p ∙ ap (λ y. kind_at t.dir y) level) inner)))
          (cases_lt p.down t.depth) in
          let here : (local s.now (target w)).slot i ≡ (s.now a).slot i = ap (λ q. (local s.now q).slot i) is in
          next
          (λ c f. past_step p lt i c (ap target (sym here) ∙ f))
          (λ front j rest c eq to. within (i ∷ front) j rest c (ap (λ y. i ∷ y) eq) to)
