-- The spot to which a reading comes, and that one block is one leaf.
use Rattle.std.proofs.Common.{◌≡◌, ℕ, zero, suc, ◌+◌, ◌*◌, ◌/◌, ◌%◌, ◌^◌, ◌<◌, ◌≤◌, List, [], ◌∷◌, ◌++◌, refl, sym, ◌∙◌, ap, subst, arith}
use Rattle.std.proofs.Math.Nat.{pow-succ'}
use Rattle.fo_image.specs.declared.types.Kind.{Kind}
use Rattle.fo_image.specs.declared.types.Kind.TheVariants.{Data, Dir, Root}
use Rattle.fo_image.specs.declared.types.Pointer.{Pointer}
use Rattle.fo_image.specs.declared.types.Pointer.TheVariants.{Nil, Local, Score as Held}
use Rattle.fo_crash.specs.declared.slot.Slot.{Slot}
use Rattle.fo_crash.specs.declared.place.Place.{Place}
use Rattle.fo_crash.specs.Images.{Image, Arena, Link, IsArena, target, local, meant, walk, goes, step, way, to_block, kind_of_top, depth_of, leaf_path}
use Rattle.fo_crash.specs.Places.{super_place, IsPlaced}
use Rattle.fo_crash.specs.Spots.{Spot, spot_below, top_spot, spot_at, slots_of, FewSlots}
use Rattle.fo_crash.proofs.Reach.{walk_joins}
use Rattle.fo_dir_images.proofs.Trailing.{level_of, spot, level_top, local_is, link_of, Rooms, AtTrail, one_down, slot_of, entry_is}

-- ---- only blocks of the device lead to blocks of the device

pub from_local : (arena : Arena) (image : Image) → IsArena arena → (w : Link) (i b : ℕ) → target ((step arena image w i).slot) ≡ Local b → (a : ℕ) × (target w.slot ≡ Local a)
from_local arena image is w i b e = by (target w.slot) e
  where
    by : (p : Pointer) → target ((meant arena image w.kind p).slot i) ≡ Local b → (a : ℕ) × (p ≡ Local a)
    by Nil x = absurd (cc)
    by (Local a) x = (a, refl)
    by (Held score) x = absurd (is.apart w.kind score i b x)

pub front_local : (arena : Arena) (image : Image) → IsArena arena → (path : List ℕ) (w : Link) (b : ℕ) → target ((goes arena image w path).slot) ≡ Local b → (a : ℕ) × (target w.slot ≡ Local a)
front_local arena image is [] w b e = (b, e)
front_local arena image is (i ∷ path) w b e = let below = front_local arena image is path (step arena image w i) b e in from_local arena image is w i below.0 below.1

-- ---- steps of spots

spot_joins : (image : Image) (p : Spot) (s : Slot) (path : List ℕ) (i : ℕ) → spot_at image p s (path ++ i ∷ []) ≡ spot_below (spot_at image p s path) i ((local image (target (walk image s path))).slot i)
spot_joins image p s [] i = refl
spot_joins image p s (j ∷ path) i = spot_joins image (spot_below p j ((local image (target s)).slot j)) ((local image (target s)).slot j) path i

-- one level lower in the same source
record Inner (q : Spot) (i : ℕ) (r : Spot) : Type 0 where
  trail : r.trail ≡ q.trail
  index : r.place.index ≡ 409 * q.place.index + i
  level : level_of q.place.kind ≡ suc (level_of r.place.kind)
  not_root : r.place.kind ≡ Root → ⊥

inner_step : (kind : Kind) (tag index rank : ℕ) (trail : List ℕ) (i : ℕ) (s : Slot) → 0 < level_of kind → Inner (spot kind tag index rank trail) i (spot_below (spot kind tag index rank trail) i s)
inner_step (Data zero) tag index rank trail i s few = let no : 0 < 0 = few in absurd (omega (arith, no))
inner_step (Dir zero) tag index rank trail i s few = let no : 0 < 0 = few in absurd (omega (arith, no))
inner_step Root tag index rank trail i s few = let no : 0 < 0 = few in absurd (omega (arith, no))
inner_step (Data (suc l)) tag index rank trail i s few = record { trail = refl; index = refl; level = refl; not_root = λ e. cc }
inner_step (Dir (suc l)) tag index rank trail i s few = record { trail = refl; index = refl; level = refl; not_root = λ e. cc }

-- the top of the source of entry e
record Outer (q : Spot) (e : ℕ) (s : Slot) (r : Spot) : Type 0 where
  trail : r.trail ≡ e ∷ q.trail
  index : r.place.index ≡ 0
  kind : r.place.kind ≡ kind_of_top s

outer_step : (kind : Kind) (tag index rank : ℕ) (trail : List ℕ) (e : ℕ) (s : Slot) → level_of kind ≡ 0 → e % 204 < slots_of kind → index ≡ e / 204 → (kind ≡ Root → index ≡ 0) → Outer (spot kind tag index rank trail) e s (spot_below (spot kind tag index rank trail) (e % 204) s)
outer_step (Data zero) tag index rank trail e s level few is root = let no : e % 204 < 0 = few in absurd (omega (arith, no))
outer_step (Data (suc l)) tag index rank trail e s level few is root = let no : suc l ≡ 0 = level in absurd (omega (arith, no))
outer_step (Dir (suc l)) tag index rank trail e s level few is root = let no : suc l ≡ 0 = level in absurd (omega (arith, no))
outer_step (Dir zero) tag index rank trail e s level few is root = record { trail = ap (λ x. x ∷ trail) (let same : 204 * index + e % 204 ≡ e = omega (arith, is) in same); index = refl; kind = refl }
outer_step Root tag index rank trail e s level few is root = let none = root refl in record { trail = ap (λ x. x ∷ trail) (let same : e % 204 ≡ e = omega (arith, is, none) in same); index = refl; kind = refl }

-- From block 1 a path leads to this block, and comes to this spot.
pub record On (stands : ℕ → Place → Type 0) (image : Image) (b : ℕ) (p : Spot) : Type 0 where
  pub path : List ℕ
  pub leads : target (walk image (to_block 1) path) ≡ Local b
  pub spot_is : spot_at image (top_spot 1) (to_block 1) path ≡ p
  pub stands_at : stands b p.place

-- The block of leaf n of the source at the end of a trail is at a spot of this trail, index and level 0.
pub record FoundLeaf (stands : ℕ → Place → Type 0) (image : Image) (trail : List ℕ) (n b : ℕ) : Type 0 where
  pub at : Spot
  pub on : On stands image b at
  pub trail_is : at.trail ≡ trail
  pub index_is : at.place.index ≡ n
  pub level_is : level_of at.place.kind ≡ 0

module _ {stands : ℕ → Place → Type 0} {image : Image} (placed : IsPlaced stands image) (few : FewSlots stands image) (super_at : stands 1 super_place) where
  pub on_down : (a i c : ℕ) (p : Spot) → On stands image a p → target ((image a).slot i) ≡ Local c → On stands image c (spot_below p i ((image a).slot i))
  on_down a i c p on e =
      let slot : (local image (target (walk image (to_block 1) on.path))).slot i ≡ (image a).slot i = ap (λ x. (local image x).slot i) on.leads in
      record {
        path = on.path ++ i ∷ [];
        leads = ap target (walk_joins image (to_block 1) on.path (i ∷ [])) ∙ ap target slot ∙ e;
        spot_is = spot_joins image (top_spot 1) (to_block 1) on.path i ∙ ap (λ x. spot_below x i ((local image (target (walk image (to_block 1) on.path))).slot i)) on.spot_is ∙ ap (λ x. spot_below p i x) slot;
        stands_at = placed.each a i c p.place on.stands_at e;
      }

  -- a block of a source, so many levels below its top
  record Lower (top : Spot) (l k b : ℕ) : Type 0 where
    at : Spot
    on : On stands image b at
    trail : at.trail ≡ top.trail
    index : at.place.index ≡ k
    level : level_of at.place.kind + l ≡ level_of top.place.kind
    root : at.place.kind ≡ Root → at.place.index ≡ 0

  lower : (arena : Arena) → IsArena arena → (l : ℕ) (w : Link) (t k : ℕ) (top : Spot) → On stands image t top → target w.slot ≡ Local t → top.place.index ≡ 0 → l ≤ level_of top.place.kind → k < 409 ^ l → (b : ℕ) → target ((goes arena image w (way l k [])).slot) ≡ Local b → Lower top l k b
  lower arena is zero w t k top on to index le lt b e =
      let none : k < 1 = lt in
      record {
        at = top;
        on = subst (λ x. On stands image x top) (local_is (sym to ∙ e)) on;
        trail = refl;
        index = omega (arith, none, index);
        level = omega arith;
        root = λ x. index;
      }
  lower arena is (suc l) w t k top on to index le lt b e =
      let above = goes arena image w (way l (k / 409) []) in
      let leads : target ((step arena image above (k % 409)).slot) ≡ Local b = ap (λ (x : Link). target x.slot) (sym (one_down arena image w l k)) ∙ e in
      let holder = from_local arena image is above (k % 409) b leads in
      let up : 409 ^ suc l ≡ 409 * 409 ^ l = pow-succ' 409 l in
      let rest = lower arena is l w t (k / 409) top on to index (omega (arith, le)) (omega (arith, lt, up)) holder.0 holder.1 in
      let at = rest.at in
      let slot = slot_of arena image above (k % 409) holder.1 in
      let level = rest.level in
      let inner = inner_step at.place.kind at.place.tag at.place.index at.place.rank at.trail (k % 409) ((image holder.0).slot (k % 409)) (omega (arith, le, level)) in
      let down = inner.level in
      let place = inner.index in
      let above_is = rest.index in
      let to : target ((image holder.0).slot (k % 409)) ≡ Local b = subst (λ (x : Slot). target x ≡ Local b) slot leads in
      record {
        at = spot_below at (k % 409) ((image holder.0).slot (k % 409));
        on = on_down holder.0 (k % 409) b at rest.on to;
        trail = inner.trail ∙ rest.trail;
        index = omega (arith, place, above_is);
        level = omega (arith, level, down);
        root = λ x. absurd (inner.not_root x);
      }

  record Top (arena : Arena) (trail : List ℕ) (t : ℕ) : Type 0 where
    at : Spot
    on : On stands image t at
    trail_is : at.trail ≡ trail
    index : at.place.index ≡ 0
    level : level_of at.place.kind ≡ depth_of (link_of arena image trail).slot

  top_of : (arena : Arena) → IsArena arena → (trail : List ℕ) (t : ℕ) → Rooms arena image trail → target ((link_of arena image trail).slot) ≡ Local t → Top arena trail t
  top_of arena is [] t rooms e = record {
    at = top_spot 1;
    on = record { path = []; leads = e; spot_is = refl; stands_at = subst (λ x. stands x super_place) (local_is e) super_at };
    trail_is = refl;
    index = refl;
    level = refl;
  }
  top_of arena is (e ∷ trail) t rooms leads =
      let w = link_of arena image trail in
      let above = goes arena image w (leaf_path w.slot (e / 204)) in
      let below : target ((step arena image above (e % 204)).slot) ≡ Local t = ap (λ (x : Link). target x.slot) (sym (entry_is arena image w e)) ∙ leads in
      let holder = from_local arena image is above (e % 204) t below in
      let first = front_local arena image is (leaf_path w.slot (e / 204)) w holder.0 holder.1 in
      let top = top_of arena is trail first.0 rooms.1 first.1 in
      let deep = top.level in
      let leaf = lower arena is (depth_of w.slot) w first.0 (e / 204) top.at top.on first.1 top.index (omega (arith, deep)) rooms.0 holder.0 holder.1 in
      let at = leaf.at in
      let level = leaf.level in
      let slot = slot_of arena image above (e % 204) holder.1 in
      let to : target ((image holder.0).slot (e % 204)) ≡ Local t = subst (λ (x : Slot). target x ≡ Local t) slot below in
      let outer = outer_step at.place.kind at.place.tag at.place.index at.place.rank at.trail e ((image holder.0).slot (e % 204)) (omega (arith, level, deep)) (few.each holder.0 (e % 204) t at.place leaf.on.stands_at to) leaf.index leaf.root in
      record {
        at = spot_below at (e % 204) ((image holder.0).slot (e % 204));
        on = on_down holder.0 (e % 204) t at leaf.on to;
        trail_is = outer.trail ∙ ap (λ x. e ∷ x) (leaf.trail ∙ top.trail_is);
        index = outer.index;
        level = ap level_of outer.kind ∙ level_top ((image holder.0).slot (e % 204)) ∙ ap depth_of (sym slot) ∙ ap (λ (x : Link). depth_of x.slot) (sym (entry_is arena image w e));
      }

  pub found_leaf : (arena : Arena) → IsArena arena → (trail : List ℕ) (n b : ℕ) → AtTrail arena image trail n b → FoundLeaf stands image trail n b
  found_leaf arena is trail n b leaf =
      let w = link_of arena image trail in
      let first = front_local arena image is (leaf_path w.slot n) w b leaf.leads in
      let top = top_of arena is trail first.0 leaf.rooms first.1 in
      let deep = top.level in
      let low = lower arena is (depth_of w.slot) w first.0 n top.at top.on first.1 top.index (omega (arith, deep)) leaf.room b leaf.leads in
      let level = low.level in
      record { at = low.at; on = low.on; trail_is = low.trail ∙ top.trail_is; index_is = low.index; level_is = omega (arith, level, deep) }
