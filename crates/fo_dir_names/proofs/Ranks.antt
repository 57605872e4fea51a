-- The spot of a leaf of a directory's records: its kind, its tag and its rank.
use Rattle.std.proofs.Common.{◌≡◌, ◌⊎◌, inl, inr, ⊎_elim, ℕ, zero, suc, ◌+◌, ◌-◌, ◌*◌, ◌/◌, ◌%◌, ◌^◌, ◌<◌, ◌≤◌, Bool, true, false, cond, nat_eq, List, [], ◌∷◌, length, refl, sym, ◌∙◌, ap, subst, arith}
use Rattle.std.proofs.Math.Nat.{pow-succ'}
use Rattle.fo_image.specs.declared.types.Kind.{Kind}
use Rattle.fo_image.specs.declared.types.Kind.TheVariants.{Data, Dir, Root}
use Rattle.fo_image.specs.declared.types.Entry.{Entry}
use Rattle.fo_image.specs.declared.types.Pointer.TheVariants.{Nil, Local}
use Rattle.fo_crash.specs.declared.slot.Slot.{Slot}
use Rattle.fo_crash.specs.declared.slot.Slot.TheVariants.{Pointer as To, Entry as Head, Prev}
use Rattle.fo_crash.specs.declared.place.Place.{Place}
use Rattle.fo_crash.specs.Images.{Image, Arena, Link, IsArena, target, goes, step, way, to_block, kind_of_top, depth_of, leaf_path}
use Rattle.fo_crash.specs.Places.{place, super_place, tag_of_top, rank_of_top, IsPlaced, RanksFall}
use Rattle.fo_crash.specs.Spots.{Spot, spot_below, top_spot, slots_of, FewSlots}
use Rattle.fo_dir_images.specs.Leaves.{Records}
use Rattle.fo_dir_images.proofs.Trailing.{level_of, spot, level_top, local_is, link_of, Rooms, AtTrail, one_down, slot_of, entry_is}
use Rattle.fo_dir_images.proofs.Placing.{On, from_local, front_local, on_down}
use Rattle.fo_dir_images.proofs.Siding.{along_records, numbers}
use Rattle.fo_dir_names.specs.Names.{IsOfData}

abbrev class_of : Kind → ℕ
class_of (Data n) = 0
class_of (Dir n) = 1
class_of Root = 2

-- The rank of the leaves of a source of entries, so many entries below the root block. A root block counts as such a leaf of rank 2120, and
-- block 1 as one of 2121, since what hangs from them is 24 ranks lower than their own ranks say.
abbrev low : List ℕ → ℕ
low [] = 2120
low (e ∷ trail) = low trail - 32

abbrev base : List ℕ → ℕ
base [] = 2121
base (e ∷ trail) = low trail

low_is : (trail : List ℕ) → low trail ≡ 2120 - 32 * length trail
low_is [] = refl
low_is (e ∷ trail) = let rest = low_is trail in omega (arith, rest)

-- the trail begins at the active root
abbrev pub FromRoot : List ℕ → Type 0
FromRoot [] = Unit {0}
FromRoot (e ∷ []) = e ≡ 0
FromRoot (e ∷ f ∷ trail) = FromRoot (f ∷ trail)

-- ---- one level lower in a source

record Inner (q : Spot) (i : ℕ) (r : Spot) : Type 0 where
  trail : r.trail ≡ q.trail
  index : r.place.index ≡ 409 * q.place.index + i
  level : level_of q.place.kind ≡ suc (level_of r.place.kind)
  class : class_of r.place.kind ≡ class_of q.place.kind
  tag : r.place.tag ≡ q.place.tag
  rank : r.place.rank ≡ q.place.rank - 1

inner_step : (kind : Kind) (tag index rank : ℕ) (trail : List ℕ) (i : ℕ) (s : Slot) → 0 < level_of kind → Inner (spot kind tag index rank trail) i (spot_below (spot kind tag index rank trail) i s)
inner_step (Data zero) tag index rank trail i s few = let no : 0 < 0 = few in absurd (omega (arith, no))
inner_step (Dir zero) tag index rank trail i s few = let no : 0 < 0 = few in absurd (omega (arith, no))
inner_step Root tag index rank trail i s few = let no : 0 < 0 = few in absurd (omega (arith, no))
inner_step (Data (suc l)) tag index rank trail i s few = record { trail = refl; index = refl; level = refl; class = refl; tag = refl; rank = refl }
inner_step (Dir (suc l)) tag index rank trail i s few = record { trail = refl; index = refl; level = refl; class = refl; tag = refl; rank = refl }

-- ---- the top of a source

-- a block that holds entries, as leaf k of a source: a root block, block 1, or a leaf of entries
abbrev Holds : ℕ → ℕ → Kind → ℕ → Type 0
Holds k from kind rank = ((kind ≡ Root) × (k ≡ 0) × (rank ≡ from + 24)) ⊎ ((kind ≡ Dir 0) × (rank ≡ from))

-- the top of the source of entry e, which is this slot
record Below (e from : ℕ) (trail : List ℕ) (s : Slot) (r : Spot) : Type 0 where
  trail_is : r.trail ≡ e ∷ trail
  place_is : r.place ≡ place (kind_of_top s) (tag_of_top s) 0 (rank_of_top from (e % 204) s)

root_below : (tag index rank : ℕ) (trail : List ℕ) (e from : ℕ) (s : Slot) → e % 204 < 3 → index ≡ e / 204 → index ≡ 0 → rank ≡ from + 24 → Below e from trail s (spot_below (spot Root tag index rank trail) (e % 204) s)
root_below tag index rank trail e from s few is none at = record {
  trail_is = ap (λ x. x ∷ trail) (let same : e % 204 ≡ e = omega (arith, is, none) in same);
  place_is = ap (λ x. place (kind_of_top s) (tag_of_top s) 0 (rank_of_top x (e % 204) s)) (let same : rank - 24 ≡ from = omega (arith, at) in same);
}

leaf_below : (tag index rank : ℕ) (trail : List ℕ) (e from : ℕ) (s : Slot) → index ≡ e / 204 → rank ≡ from → Below e from trail s (spot_below (spot (Dir 0) tag index rank trail) (e % 204) s)
leaf_below tag index rank trail e from s is at = record {
  trail_is = ap (λ x. x ∷ trail) (let same : 204 * index + e % 204 ≡ e = omega (arith, is) in same);
  place_is = ap (λ x. place (kind_of_top s) (tag_of_top s) 0 (rank_of_top x (e % 204) s)) at;
}

top_step : (kind : Kind) (tag index rank : ℕ) (trail : List ℕ) (e from : ℕ) (s : Slot) → e % 204 < slots_of kind → index ≡ e / 204 → Holds (e / 204) from kind rank
    → Below e from trail s (spot_below (spot kind tag index rank trail) (e % 204) s)
top_step (Data n) tag index rank trail e from s few is holds = absurd (⊎_elim (λ x. let no : Data n ≡ Root = x.0 in cc) (λ x. let no : Data n ≡ Dir 0 = x.0 in cc) holds)
top_step (Dir (suc l)) tag index rank trail e from s few is holds = absurd (⊎_elim (λ x. let no : Dir (suc l) ≡ Root = x.0 in cc) (λ x. let no : Dir (suc l) ≡ Dir 0 = x.0 in cc) holds)
top_step (Dir zero) tag index rank trail e from s few is holds = ⊎_elim (λ x. let no : Dir 0 ≡ Root = x.0 in absurd (cc)) (λ x. leaf_below tag index rank trail e from s is x.1) holds
top_step Root tag index rank trail e from s few is holds = ⊎_elim (λ x. root_below tag index rank trail e from s few is (is ∙ x.1) x.2) (λ x. let no : Root ≡ Dir 0 = x.0 in absurd (cc)) holds

-- ---- along a trail

-- The block of leaf k of the source at the end of a trail, one of whose slots leads on.
record Held (stands : ℕ → Place → Type 0) (image : Image) (trail : List ℕ) (k b : ℕ) : Type 0 where
  at : Spot
  on : On stands image b at
  trail_is : at.trail ≡ trail
  index_is : at.place.index ≡ k
  holds : Holds k (base trail) at.place.kind at.place.rank

-- The top of the source of entry e of the source at the end of a trail.
record TopAt (stands : ℕ → Place → Type 0) (image : Image) (e : ℕ) (trail : List ℕ) (s : Slot) (t : ℕ) : Type 0 where
  at : Spot
  on : On stands image t at
  trail_is : at.trail ≡ e ∷ trail
  place_is : at.place ≡ place (kind_of_top s) (tag_of_top s) 0 (rank_of_top (base trail) (e % 204) s)
  falls : at.place.rank < base trail + 24

-- Leaf n of a directory's records, whose entry is this slot, is at a spot of this trail, index, tag and rank.
pub record FoundRecords (stands : ℕ → Place → Type 0) (image : Image) (e : ℕ) (trail : List ℕ) (s : Slot) (n b : ℕ) : Type 0 where
  pub at : Spot
  pub on : On stands image b at
  pub trail_is : at.trail ≡ e ∷ trail
  pub index_is : at.place.index ≡ n
  pub kind_is : at.place.kind ≡ Data 0
  pub tag_is : at.place.tag ≡ tag_of_top s
  pub rank_is : at.place.rank ≡ base trail - 24

base_low : (e : ℕ) (trail : List ℕ) → base (e ∷ trail) ≤ 2120
base_low e trail = let is = low_is trail in omega (arith, is)

data_leaf : (kind : Kind) → class_of kind ≡ 0 → level_of kind ≡ 0 → kind ≡ Data 0
data_leaf (Data n) class level = ap (λ x. Data x) level
data_leaf (Dir n) class level = let no : 1 ≡ 0 = class in absurd (omega (arith, no))
data_leaf Root class level = let no : 2 ≡ 0 = class in absurd (omega (arith, no))

dir_leaf : (kind : Kind) → class_of kind ≡ 1 → level_of kind ≡ 0 → kind ≡ Dir 0
dir_leaf (Dir n) class level = ap (λ x. Dir x) level
dir_leaf (Data n) class level = let no : 0 ≡ 1 = class in absurd (omega (arith, no))
dir_leaf Root class level = let no : 2 ≡ 1 = class in absurd (omega (arith, no))

-- data has no slots
data_ends : (kind : Kind) → class_of kind ≡ 0 → level_of kind ≡ 0 → (i : ℕ) → i < slots_of kind → ⊥
data_ends kind class level i few = let no : i < 0 = subst (λ k. i < slots_of k) (data_leaf kind class level) few in omega (arith, no)

module _ {stands : ℕ → Place → Type 0} {image : Image} (placed : IsPlaced stands image) (few : FewSlots stands image) (fall : RanksFall stands image) (super_at : stands 1 super_place) (arena : Arena) (is : IsArena arena) where
  -- leaf k of a source is this block
  abbrev Leads : Link → ℕ → ℕ → Type 0
  Leads w k b = target ((goes arena image w (leaf_path w.slot k)).slot) ≡ Local b

  -- a block of a source, so many levels below its top
  record Lower (top : Spot) (l k b : ℕ) : Type 0 where
    at : Spot
    on : On stands image b at
    trail : at.trail ≡ top.trail
    index : at.place.index ≡ k
    level : level_of at.place.kind + l ≡ level_of top.place.kind
    class : class_of at.place.kind ≡ class_of top.place.kind
    tag : at.place.tag ≡ top.place.tag
    rank : (from : ℕ) → top.place.rank ≡ from + level_of top.place.kind → at.place.rank ≡ from + level_of at.place.kind

  lower : (l : ℕ) (w : Link) (t k : ℕ) (top : Spot) → On stands image t top → target w.slot ≡ Local t → top.place.index ≡ 0 → l ≤ level_of top.place.kind → k < 409 ^ l → (b : ℕ)
      → target ((goes arena image w (way l k [])).slot) ≡ Local b → Lower top l k b
  lower zero w t k top on to index le lt b e =
      let none : k < 1 = lt in
      record {
        at = top;
        on = subst (λ x. On stands image x top) (local_is (sym to ∙ e)) on;
        trail = refl;
        index = omega (arith, none, index);
        level = omega arith;
        class = refl;
        tag = refl;
        rank = λ from high. high;
      }
  lower (suc l) w t k top on to index le lt b e =
      let above = goes arena image w (way l (k / 409) []) in
      let leads : target ((step arena image above (k % 409)).slot) ≡ Local b = ap (λ (x : Link). target x.slot) (sym (one_down arena image w l k)) ∙ e in
      let holder = from_local arena image is above (k % 409) b leads in
      let up : 409 ^ suc l ≡ 409 * 409 ^ l = pow-succ' 409 l in
      let rest = lower l w t (k / 409) top on to index (omega (arith, le)) (omega (arith, lt, up)) holder.0 holder.1 in
      let at = rest.at in
      let level = rest.level in
      let slot = slot_of arena image above (k % 409) holder.1 in
      let s = (image holder.0).slot (k % 409) in
      let inner = inner_step at.place.kind at.place.tag at.place.index at.place.rank at.trail (k % 409) s (omega (arith, le, level)) in
      let down = inner.level in
      let place = inner.index in
      let above_is = rest.index in
      let below_rank = inner.rank in
      let to : target s ≡ Local b = subst (λ (x : Slot). target x ≡ Local b) slot leads in
      record {
        at = spot_below at (k % 409) s;
        on = on_down placed few super_at holder.0 (k % 409) b at rest.on to;
        trail = inner.trail ∙ rest.trail;
        index = omega (arith, place, above_is);
        level = omega (arith, level, down);
        class = inner.class ∙ rest.class;
        tag = inner.tag ∙ rest.tag;
        rank = λ from high. let above_rank = rest.rank from high in omega (arith, above_rank, below_rank, down);
      }

  top_of : (e : ℕ) (trail : List ℕ) (t : ℕ) → Rooms arena image (e ∷ trail) → target ((link_of arena image (e ∷ trail)).slot) ≡ Local t
      → ((k b i c : ℕ) → k < 409 ^ depth_of (link_of arena image trail).slot → Leads (link_of arena image trail) k b → target ((image b).slot i) ≡ Local c → Held stands image trail k b)
      → TopAt stands image e trail (link_of arena image (e ∷ trail)).slot t
  top_of e trail t rooms leads held =
      let w = link_of arena image trail in
      let above = goes arena image w (leaf_path w.slot (e / 204)) in
      let entry : (link_of arena image (e ∷ trail)).slot ≡ (step arena image above (e % 204)).slot = ap (λ (x : Link). x.slot) (entry_is arena image w e) in
      let holder = from_local arena image is above (e % 204) t (ap target (sym entry) ∙ leads) in
      let slot : (step arena image above (e % 204)).slot ≡ (image holder.0).slot (e % 204) = slot_of arena image above (e % 204) holder.1 in
      let s = (image holder.0).slot (e % 204) in
      let to : target s ≡ Local t = ap target (sym slot) ∙ ap target (sym entry) ∙ leads in
      let up = held (e / 204) holder.0 (e % 204) t rooms.0 holder.1 to in
      let at = up.at in
      let below = top_step at.place.kind at.place.tag at.place.index at.place.rank at.trail e (base trail) s (few.each holder.0 (e % 204) t at.place up.on.stands_at to) up.index_is up.holds in
      let falls : (spot_below at (e % 204) s).place.rank < at.place.rank = fall.each holder.0 (e % 204) t at.place up.on.stands_at to in
      let high : at.place.rank ≤ base trail + 24 = ⊎_elim (λ x. let r = x.2 in omega (arith, r)) (λ x. let r = x.1 in omega (arith, r)) up.holds in
      record {
        at = spot_below at (e % 204) s;
        on = on_down placed few super_at holder.0 (e % 204) t at up.on to;
        trail_is = below.trail_is ∙ ap (λ x. e ∷ x) up.trail_is;
        place_is = below.place_is ∙ ap (λ x. place (kind_of_top x) (tag_of_top x) 0 (rank_of_top (base trail) (e % 204) x)) (sym (entry ∙ slot));
        falls = omega (arith, falls, high);
      }

  -- where an entry's flag says that it names entries, or data
  dir_kind : (x : Entry) → x.dir ≡ true → kind_of_top (Head x) ≡ Dir x.depth
  dir_kind x e = ap (λ b. cond b (Dir x.depth) (Data x.depth)) e

  data_kind : (x : Entry) → x.dir ≡ false → kind_of_top (Head x) ≡ Data x.depth
  data_kind x e = ap (λ b. cond b (Dir x.depth) (Data x.depth)) e

  dir_rank : (from i : ℕ) (x : Entry) → x.dir ≡ true → rank_of_top from i (Head x) ≡ from - 32 + x.depth
  dir_rank from i x e = ap (λ b. cond b (from - 32 + x.depth) (cond (nat_eq (i % 2) 0) (from - 8 + x.depth) (from - 24 + x.depth))) e

  data_rank : (from i : ℕ) (x : Entry) → x.dir ≡ false → i % 2 ≡ 1 → rank_of_top from i (Head x) ≡ from - 24 + x.depth
  data_rank from i x e odd =
      ap (λ b. cond b (from - 32 + x.depth) (cond (nat_eq (i % 2) 0) (from - 8 + x.depth) (from - 24 + x.depth))) e
      ∙ ap (λ r. cond (nat_eq r 0) (from - 8 + x.depth) (from - 24 + x.depth)) odd

  -- a leaf with slots, of a source other than block 1 and the root block
  held_leaf : (e f : ℕ) (trail : List ℕ) (k b i c t : ℕ) (w : Link) → TopAt stands image e (f ∷ trail) w.slot t → target w.slot ≡ Local t → k < 409 ^ depth_of w.slot
      → Leads w k b → target ((image b).slot i) ≡ Local c → Held stands image (e ∷ f ∷ trail) k b
  held_leaf e f trail k b i c t w top first lt leads to = by w.slot refl
    where
      by : (s : Slot) → w.slot ≡ s → Held stands image (e ∷ f ∷ trail) k b
      by (Prev epoch at) q = let no : Nil ≡ Local t = ap target (sym q) ∙ first in absurd (cc)
      by (To p) q =
          let rank : top.at.place.rank ≡ 2144 = ap (λ (x : Place). x.rank) top.place_is ∙ ap (λ x. rank_of_top (base (f ∷ trail)) (e % 204) x) q in
          let falls = top.falls in
          let high = base_low f trail in
          absurd (omega (arith, rank, falls, high))
      by (Head x) q = flag x.dir refl
        where
          kind : top.at.place.kind ≡ kind_of_top (Head x)
          kind = ap (λ (x : Place). x.kind) top.place_is ∙ ap kind_of_top q

          deep : level_of top.at.place.kind ≡ depth_of w.slot
          deep = ap level_of kind ∙ level_top (Head x) ∙ ap depth_of (sym q)

          rank : top.at.place.rank ≡ rank_of_top (base (f ∷ trail)) (e % 204) (Head x)
          rank = ap (λ (x : Place). x.rank) top.place_is ∙ ap (λ x. rank_of_top (base (f ∷ trail)) (e % 204) x) q

          index : top.at.place.index ≡ 0
          index = ap (λ (x : Place). x.index) top.place_is

          low : Lower top.at (depth_of w.slot) k b
          low = lower (depth_of w.slot) w t k top.at top.on first index (omega (arith, deep)) lt b leads

          none : level_of low.at.place.kind ≡ 0
          none = let level = low.level in omega (arith, level, deep)

          flag : (v : Bool) → x.dir ≡ v → Held stands image (e ∷ f ∷ trail) k b
          flag true dir =
              let depth : depth_of w.slot ≡ x.depth = ap depth_of q in
              let high = rank ∙ dir_rank (base (f ∷ trail)) (e % 204) x dir in
              let height = low.rank (base (f ∷ trail) - 32) (omega (arith, high, deep, depth)) in
              record {
                at = low.at;
                on = low.on;
                trail_is = low.trail ∙ top.trail_is;
                index_is = low.index;
                holds = inr (dir_leaf low.at.place.kind (low.class ∙ ap class_of (kind ∙ dir_kind x dir)) none, omega (arith, height, none));
              }
          flag false dir = absurd (data_ends low.at.place.kind (low.class ∙ ap class_of (kind ∙ data_kind x dir)) none i (few.each b i c low.at.place low.on.stands_at to))

  module _ (root : ℕ) (named : (image 1).slot 0 ≡ to_block root) where
    -- the root block is what slot 0 of block 1 leads to
    held_root : (e k b t : ℕ) → e ≡ 0 → TopAt stands image e [] (link_of arena image (e ∷ [])).slot t → target ((link_of arena image (e ∷ [])).slot) ≡ Local t
        → k < 409 ^ depth_of (link_of arena image (e ∷ [])).slot → Leads (link_of arena image (e ∷ [])) k b → Held stands image (e ∷ []) k b
    held_root e k b t zero_is top first lt leads =
        let slot : (link_of arena image (e ∷ [])).slot ≡ to_block root = ap (λ x. (link_of arena image (x ∷ [])).slot) zero_is ∙ named in
        let place_is : top.at.place ≡ place Root 1 0 2144 = top.place_is ∙ ap (λ x. place (kind_of_top x) (tag_of_top x) 0 (rank_of_top 2121 (e % 204) x)) slot in
        let none : k < 1 = subst (λ x. k < 409 ^ depth_of x) slot lt in
        let same : target ((link_of arena image (e ∷ [])).slot) ≡ Local b = sym (ap (λ x. target ((goes arena image (link_of arena image (e ∷ [])) (leaf_path x k)).slot)) slot) ∙ leads in
        record {
          at = top.at;
          on = subst (λ x. On stands image x top.at) (local_is (sym first ∙ same)) top.on;
          trail_is = top.trail_is;
          index_is = let index : top.at.place.index ≡ 0 = ap (λ (x : Place). x.index) place_is in omega (arith, index, none);
          holds = inl (ap (λ (x : Place). x.kind) place_is, omega (arith, none), ap (λ (x : Place). x.rank) place_is);
        }

    held_super : (k b : ℕ) → k < 409 ^ depth_of (link_of arena image []).slot → Leads (link_of arena image []) k b → Held stands image [] k b
    held_super k b lt leads =
        let none : k < 1 = lt in
        record {
          at = top_spot 1;
          on = record { path = []; leads = leads; spot_is = refl; stands_at = subst (λ x. stands x super_place) (local_is leads) super_at };
          trail_is = refl;
          index_is = omega (arith, none);
          holds = inl (refl, omega (arith, none), refl);
        }

    first_of : (w : Link) (k b : ℕ) → Leads w k b → (t : ℕ) × (target w.slot ≡ Local t)
    first_of w k b leads = front_local arena image is (leaf_path w.slot k) w b leads

    held : (trail : List ℕ) → FromRoot trail → Rooms arena image trail → (k b i c : ℕ) → k < 409 ^ depth_of (link_of arena image trail).slot
        → Leads (link_of arena image trail) k b → target ((image b).slot i) ≡ Local c → Held stands image trail k b
    held [] begins rooms k b i c lt leads to = held_super k b lt leads
    held (e ∷ []) begins rooms k b i c lt leads to =
        let first = first_of (link_of arena image (e ∷ [])) k b leads in
        held_root e k b first.0 begins (top_of e [] first.0 rooms first.1 (held [] tt rooms.1)) first.1 lt leads
    held (e ∷ f ∷ trail) begins rooms k b i c lt leads to =
        let w = link_of arena image (e ∷ f ∷ trail) in
        let first = first_of w k b leads in
        held_leaf e f trail k b i c first.0 w (top_of e (f ∷ trail) first.0 rooms first.1 (held (f ∷ trail) begins rooms.1)) first.1 lt leads to

    pub records_at : (e f : ℕ) (trail : List ℕ) (n b : ℕ) → e % 2 ≡ 1 → FromRoot (f ∷ trail) → IsOfData (link_of arena image (e ∷ f ∷ trail)).slot
        → AtTrail arena image (e ∷ f ∷ trail) n b → FoundRecords stands image e (f ∷ trail) (link_of arena image (e ∷ f ∷ trail)).slot n b
    records_at e f trail n b odd begins named_data leaf = by w.slot refl named_data
      where
        w : Link
        w = link_of arena image (e ∷ f ∷ trail)

        first : (t : ℕ) × (target w.slot ≡ Local t)
        first = first_of w n b leaf.leads

        top : TopAt stands image e (f ∷ trail) w.slot first.0
        top = top_of e (f ∷ trail) first.0 leaf.rooms first.1 (held (f ∷ trail) begins leaf.rooms.1)

        by : (s : Slot) → w.slot ≡ s → IsOfData s → FoundRecords stands image e (f ∷ trail) w.slot n b
        by (To p) q none = absurd none
        by (Prev epoch at) q none = absurd none
        by (Head x) q flag =
            let kind : top.at.place.kind ≡ Data x.depth = ap (λ (x : Place). x.kind) top.place_is ∙ ap kind_of_top q ∙ data_kind x flag in
            let odd_place : e % 204 % 2 ≡ 1 = omega (arith, odd) in
            let rank : top.at.place.rank ≡ base (f ∷ trail) - 24 + x.depth = ap (λ (x : Place). x.rank) top.place_is ∙ ap (λ x. rank_of_top (base (f ∷ trail)) (e % 204) x) q ∙ data_rank (base (f ∷ trail)) (e % 204) x flag odd_place in
            let depth : depth_of w.slot ≡ x.depth = ap depth_of q in
            let deep : level_of top.at.place.kind ≡ x.depth = ap level_of kind in
            let low = lower (depth_of w.slot) w first.0 n top.at top.on first.1 (ap (λ (x : Place). x.index) top.place_is) (omega (arith, deep, depth)) leaf.room b leaf.leads in
            let level = low.level in
            let none : level_of low.at.place.kind ≡ 0 = omega (arith, level, deep, depth) in
            let height = low.rank (base (f ∷ trail) - 24) (omega (arith, rank, deep)) in
            record {
              at = low.at;
              on = low.on;
              trail_is = low.trail ∙ top.trail_is;
              index_is = low.index;
              kind_is = data_leaf low.at.place.kind (low.class ∙ ap class_of kind) none;
              tag_is = low.tag ∙ ap (λ (x : Place). x.tag) top.place_is;
              rank_is = omega (arith, height, none);
            }

-- ---- the trail of a directory's records

-- An odd entry of the entries that so many entries below the root's lead to.
pub record Shape (pairs : ℕ) (way : List ℕ) : Type 0 where
  pub entry : ℕ
  pub next : ℕ
  pub rest : List ℕ
  pub is : way ≡ entry ∷ next ∷ rest
  pub odd : entry % 2 ≡ 1
  pub begins : FromRoot (next ∷ rest)
  pub long : length rest ≡ pairs

shape : (trail : List ℕ) (x e f : ℕ) (rest : List ℕ) → e % 2 ≡ 1 → FromRoot (f ∷ rest) → Shape (length rest + length trail) (along_records (x ∷ f ∷ rest) (e ∷ f ∷ rest) trail)
shape [] x e f rest odd begins = record { entry = e; next = f; rest = rest; is = refl; odd = odd; begins = begins; long = omega arith }
shape (pair ∷ trail) x e f rest odd begins =
    let below = shape trail (2 * pair) (2 * pair + 1) x (f ∷ rest) (omega arith) begins in
    let long = below.long in
    record { entry = below.entry; next = below.next; rest = below.rest; is = below.is; odd = below.odd; begins = below.begins; long = omega (arith, long) }

pub trail_shape : (trail : List ℕ) → Shape (length trail) (numbers Records trail)
trail_shape trail = subst (λ n. Shape n (numbers Records trail)) (let same : length {A = ℕ} [] + length trail ≡ length trail = omega arith in same) (shape trail 0 1 0 [] refl refl)

-- Leaf n of the source of records at the end of this trail of entries is at a spot of its kind, with the tag of its entry.
pub record AtRecords (stands : ℕ → Place → Type 0) (image : Image) (way : List ℕ) (s : Slot) (n b : ℕ) : Type 0 where
  pub at : Spot
  pub on : On stands image b at
  pub trail_is : at.trail ≡ way
  pub index_is : at.place.index ≡ n
  pub kind_is : at.place.kind ≡ Data 0
  pub rank_is : at.place.rank % 32 ≡ 16
  pub tag_is : at.place.tag ≡ tag_of_top s

pub leaf_at_records : {stands : ℕ → Place → Type 0} {image : Image} → IsPlaced stands image → FewSlots stands image → RanksFall stands image → stands 1 super_place
    → (arena : Arena) → IsArena arena → (root : ℕ) → (image 1).slot 0 ≡ to_block root
    → (pairs : ℕ) (way : List ℕ) (n b : ℕ) → Shape pairs way → pairs ≤ 64 → IsOfData (link_of arena image way).slot → AtTrail arena image way n b → AtRecords stands image way (link_of arena image way).slot n b
leaf_at_records {stands} {image} placed few fall super_at arena is root named pairs way n b shape deep of_data leaf =
    let found = records_at placed few fall super_at arena is root named shape.entry shape.next shape.rest n b shape.odd shape.begins (subst (λ x. IsOfData (link_of arena image x).slot) shape.is of_data) (subst (λ x. AtTrail arena image x n b) shape.is leaf) in
    let rank = found.rank_is in
    let low = low_is shape.rest in
    let long = shape.long in
    record {
      at = found.at;
      on = found.on;
      trail_is = found.trail_is ∙ sym shape.is;
      index_is = found.index_is;
      kind_is = found.kind_is;
      rank_is = omega (arith, rank, low, long, deep);
      tag_is = found.tag_is ∙ ap (λ x. tag_of_top (link_of arena image x).slot) (sym shape.is);
    }
