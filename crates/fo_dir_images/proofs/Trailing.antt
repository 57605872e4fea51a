-- What an image reads along a trail of entries, and the spot to which that reading comes.
use Rattle.std.proofs.Common.{◌≡◌, ℕ, zero, suc, ◌+◌, ◌-◌, ◌*◌, ◌/◌, ◌%◌, ◌^◌, ◌<◌, Bool, true, false, cond, List, [], ◌∷◌, ◌++◌, refl, sym, ◌∙◌, ap, subst, append_assoc, arith}
use Rattle.std.proofs.Math.Nat.{pow-succ'}
use Rattle.fo_image.specs.declared.types.Kind.{Kind}
use Rattle.fo_image.specs.declared.types.Kind.TheVariants.{Data, Dir, Root}
use Rattle.fo_image.specs.declared.types.Pointer.{Pointer}
use Rattle.fo_image.specs.declared.types.Pointer.TheVariants.{Nil, Local, Score as Held}
use Rattle.fo_crash.specs.declared.slot.Slot.{Slot}
use Rattle.fo_crash.specs.declared.slot.Slot.TheVariants.{Pointer as To, Entry as Head, Prev}
use Rattle.fo_crash.specs.declared.place.Place.{Place}
use Rattle.fo_crash.specs.Images.{Image, Arena, Link, target, local, meant, walk, goes, step, way, to_block, from_block, kind_of_top, depth_of, leaf_path, entry_of}
use Rattle.fo_crash.specs.Places.{super_place, place_below, tag_of_top, rank_of_top, IsPlaced}
use Rattle.fo_crash.specs.Spots.{Spot, spot_below, top_spot, spot_at, slots_of, FewSlots}
use Rattle.fo_crash.proofs.Reach.{lost}

abbrev pub level_of : Kind → ℕ
level_of (Data n) = n
level_of (Dir n) = n
level_of Root = 0

abbrev pub spot : Kind → ℕ → ℕ → ℕ → List ℕ → Spot
spot kind tag index rank trail = record { place = record { kind = kind; tag = tag; index = index; rank = rank }; trail = trail }

pub level_top : (s : Slot) → level_of (kind_of_top s) ≡ depth_of s
level_top (Head e) = by e.dir e.depth
  where
    by : (b : Bool) (d : ℕ) → level_of (cond b (Dir d) (Data d)) ≡ d
    by true d = refl
    by false d = refl
level_top (To p) = refl
level_top (Prev epoch at) = refl

pub local_is : {a b : ℕ} → Local a ≡ Local b → a ≡ b
local_is e = cc

-- ---- paths

pub goes_joins : (arena : Arena) (image : Image) (w : Link) (path rest : List ℕ) → goes arena image w (path ++ rest) ≡ goes arena image (goes arena image w path) rest
goes_joins arena image w [] rest = refl
goes_joins arena image w (i ∷ path) rest = goes_joins arena image (step arena image w i) path rest

way_joins : (d k : ℕ) (path : List ℕ) → way d k path ≡ way d k [] ++ path
way_joins zero k path = refl
way_joins (suc d) k path = way_joins d (k / 409) (k % 409 ∷ path) ∙ sym (append_assoc (way d (k / 409) []) (k % 409 ∷ []) path) ∙ ap (λ x. x ++ path) (sym (way_joins d (k / 409) (k % 409 ∷ [])))

-- one level more on the way to a leaf
pub one_down : (arena : Arena) (image : Image) (w : Link) (l k : ℕ) → goes arena image w (way (suc l) k []) ≡ step arena image (goes arena image w (way l (k / 409) [])) (k % 409)
one_down arena image w l k = ap (goes arena image w) (way_joins l (k / 409) (k % 409 ∷ [])) ∙ goes_joins arena image w (way l (k / 409) []) (k % 409 ∷ [])

pub slot_of : (arena : Arena) (image : Image) (w : Link) (i : ℕ) {a : ℕ} → target w.slot ≡ Local a → (step arena image w i).slot ≡ (image a).slot i
slot_of arena image w i e = ap (λ p. (meant arena image w.kind p).slot i) e

-- the link of the entry at the end of a trail of numbers of entries, the last one first, from block 1 on
abbrev pub link_of : Arena → Image → List ℕ → Link
link_of arena image [] = from_block 1
link_of arena image (e ∷ trail) = entry_of arena image (link_of arena image trail) e

pub entry_is : (arena : Arena) (image : Image) (w : Link) (e : ℕ) → entry_of arena image w e ≡ step arena image (goes arena image w (leaf_path w.slot (e / 204))) (e % 204)
entry_is arena image w e = goes_joins arena image w (leaf_path w.slot (e / 204)) (e % 204 ∷ [])

-- each entry lies within the depth of the source that holds it
abbrev pub Rooms : Arena → Image → List ℕ → Type 0
Rooms arena image [] = Unit {0}
Rooms arena image (e ∷ trail) = (e / 204 < 409 ^ depth_of (link_of arena image trail).slot) × Rooms arena image trail

-- Leaf n of the source at the end of the trail is this block.
pub record AtTrail (arena : Arena) (image : Image) (trail : List ℕ) (n b : ℕ) : Type 0 where
  pub rooms : Rooms arena image trail
  pub room : n < 409 ^ depth_of (link_of arena image trail).slot
  pub leads : target ((goes arena image (link_of arena image trail) (leaf_path (link_of arena image trail).slot n)).slot) ≡ Local b

-- ---- from a spot to what is read

-- A slot at this spot is what is read by the spot's trail, down to its level and index.
record Reads (arena : Arena) (image : Image) (s : Slot) (p : Spot) : Type 0 where
  rooms : Rooms arena image p.trail
  levels : ℕ
  deep : levels + level_of p.place.kind ≡ depth_of (link_of arena image p.trail).slot
  few : p.place.index < 409 ^ levels
  is : (goes arena image (link_of arena image p.trail) (way levels p.place.index [])).slot ≡ s
  root : p.place.kind ≡ Root → p.place.index ≡ 0

-- one level lower in the same source
inner : (arena : Arena) (image : Image) (kind below : Kind) (tag index rank rank' : ℕ) (trail : List ℕ) (s : Slot) (a i : ℕ) → Reads arena image s (spot kind tag index rank trail) → target s ≡ Local a → i < 409 → level_of kind ≡ suc (level_of below) → (below ≡ Root → ⊥)
    → Reads arena image ((image a).slot i) (spot below tag (409 * index + i) rank' trail)
inner arena image kind below tag index rank rank' trail s a i r to lt level apart =
    let w = link_of arena image trail in
    let k = 409 * index + i in
    let div : k / 409 ≡ index = omega (arith, lt) in
    let rest : k % 409 ≡ i = omega (arith, lt) in
    let up : 409 ^ suc r.levels ≡ 409 * 409 ^ r.levels = pow-succ' 409 r.levels in
    let deep = r.deep in let few = r.few in
    record {
      rooms = r.rooms;
      levels = suc r.levels;
      deep = omega (arith, deep, level);
      few = omega (arith, few, up, lt);
      is = ap (λ (x : Link). x.slot) (one_down arena image w r.levels k)
          ∙ ap (λ x. (step arena image (goes arena image w (way r.levels x [])) (k % 409)).slot) div
          ∙ ap (λ j. (step arena image (goes arena image w (way r.levels index [])) j).slot) rest
          ∙ slot_of arena image (goes arena image w (way r.levels index [])) i (ap target r.is ∙ to);
      root = λ e. absurd (apart e);
    }

-- the top of a source
outer : (arena : Arena) (image : Image) (kind : Kind) (tag tag' index rank rank' : ℕ) (trail : List ℕ) (s : Slot) (a i e : ℕ) → Reads arena image s (spot kind tag index rank trail) → target s ≡ Local a → level_of kind ≡ 0 → e / 204 ≡ index → e % 204 ≡ i
    → Reads arena image ((image a).slot i) (spot (kind_of_top ((image a).slot i)) tag' 0 rank' (e ∷ trail))
outer arena image kind tag tag' index rank rank' trail s a i e r to level div left =
    let w = link_of arena image trail in
    let deep = r.deep in let few = r.few in
    let levels : r.levels ≡ depth_of w.slot = omega (arith, deep, level) in
    let is : (entry_of arena image w e).slot ≡ (image a).slot i =
    ap (λ (x : Link). x.slot) (entry_is arena image w e)
    ∙ ap (λ x. (step arena image (goes arena image w (leaf_path w.slot x)) (e % 204)).slot) div
    ∙ ap (λ j. (step arena image (goes arena image w (leaf_path w.slot index)) j).slot) left
    ∙ slot_of arena image (goes arena image w (leaf_path w.slot index)) i (ap (λ x. target ((goes arena image w (way x index [])).slot)) (sym levels) ∙ ap target r.is ∙ to) in
    let top : level_of (kind_of_top ((image a).slot i)) ≡ depth_of (entry_of arena image w e).slot = level_top ((image a).slot i) ∙ ap depth_of (sym is) in
    record {
      rooms = (subst (λ x. x < 409 ^ depth_of w.slot) (sym div) (subst (λ x. index < 409 ^ x) levels few), r.rooms);
      levels = 0;
      deep = omega (arith, top);
      few = omega arith;
      is = is;
      root = λ x. refl;
    }

down : (arena : Arena) (image : Image) (kind : Kind) (tag index rank : ℕ) (trail : List ℕ) (s : Slot) (a i : ℕ) → Reads arena image s (spot kind tag index rank trail) → target s ≡ Local a → i < slots_of kind
    → Reads arena image ((image a).slot i) (spot_below (spot kind tag index rank trail) i ((image a).slot i))
down arena image (Data zero) tag index rank trail s a i r to few = let no : i < 0 = few in absurd (omega (arith, no))
down arena image (Data (suc l)) tag index rank trail s a i r to few = inner arena image (Data (suc l)) (Data l) tag index rank (rank - 1) trail s a i r to few refl (λ e. cc)
down arena image (Dir (suc l)) tag index rank trail s a i r to few = inner arena image (Dir (suc l)) (Dir l) tag index rank (rank - 1) trail s a i r to few refl (λ e. cc)
down arena image (Dir zero) tag index rank trail s a i r to few = outer arena image (Dir zero) tag (tag_of_top ((image a).slot i)) index rank (rank_of_top rank i ((image a).slot i)) trail s a i (204 * index + i) r to refl (omega (arith, few)) (omega (arith, few))
down arena image Root tag index rank trail s a i r to few =
    let none = r.root refl in
    outer arena image Root tag (tag_of_top ((image a).slot i)) index rank (rank_of_top (rank - 24) i ((image a).slot i)) trail s a i i r to refl (omega (arith, few, none)) (omega (arith, few))

module _ {stands : ℕ → Place → Type 0} {image : Image} (placed : IsPlaced stands image) (few : FewSlots stands image) where
  -- What a path comes to is what is read by the trail of its spot.
  along : (arena : Arena) (path : List ℕ) (s : Slot) (a b : ℕ) (p : Spot) → target s ≡ Local a → stands a p.place → Reads arena image s p → target (walk image s path) ≡ Local b → Reads arena image (walk image s path) (spot_at image p s path)
  along arena [] s a b p to at r e = r
  along arena (i ∷ path) s a b p to at r e = by (target ((local image (target s)).slot i)) refl
      (λ c q. along arena path ((local image (target s)).slot i) c b (spot_below p i ((local image (target s)).slot i)) q
      (subst (λ x. stands c (place_below p.place i x)) (sym is) (placed.each a i c p.place at (ap target (sym is) ∙ q)))
      (subst (λ x. Reads arena image x (spot_below p i x)) (sym is) (down arena image p.place.kind p.place.tag p.place.index p.place.rank p.trail s a i r to (few.each a i c p.place at (ap target (sym is) ∙ q)))) e)
    where
      is : (local image (target s)).slot i ≡ (image a).slot i
      is = ap (λ x. (local image x).slot i) to

      by : (x : Pointer) → target ((local image (target s)).slot i) ≡ x
          → ((c : ℕ) → target ((local image (target s)).slot i) ≡ Local c → Reads arena image (walk image ((local image (target s)).slot i) path) (spot_at image (spot_below p i ((local image (target s)).slot i)) ((local image (target s)).slot i) path))
          → Reads arena image (walk image ((local image (target s)).slot i) path) (spot_at image (spot_below p i ((local image (target s)).slot i)) ((local image (target s)).slot i) path)
      by Nil q on = absurd (lost image path ((local image (target s)).slot i) (λ c h. let x : Nil ≡ Local c = sym q ∙ h in cc) b e)
      by (Held x) q on = absurd (lost image path ((local image (target s)).slot i) (λ c h. let y : Held x ≡ Local c = sym q ∙ h in cc) b e)
      by (Local c) q on = on c q

  starts : (arena : Arena) → Reads arena image (to_block 1) (top_spot 1)
  starts arena = record { rooms = tt; levels = 0; deep = refl; few = omega arith; is = refl; root = λ e. refl }

  -- A block that a path from block 1 comes to at a spot of level 0 is the leaf that is read by the spot's trail.
  pub read_at : (arena : Arena) (path : List ℕ) (b : ℕ) (p : Spot) → stands 1 super_place → target (walk image (to_block 1) path) ≡ Local b → spot_at image (top_spot 1) (to_block 1) path ≡ p → level_of p.place.kind ≡ 0 → AtTrail arena image p.trail p.place.index b
  read_at arena path b p top leads at level =
      let r : Reads arena image (walk image (to_block 1) path) p = subst (λ q. Reads arena image (walk image (to_block 1) path) q) at (along arena path (to_block 1) 1 b (top_spot 1) refl top (starts arena) leads) in
      let w = link_of arena image p.trail in
      let deep = r.deep in
      let levels : r.levels ≡ depth_of w.slot = omega (arith, deep, level) in
      record {
        rooms = r.rooms;
        room = subst (λ x. p.place.index < 409 ^ x) levels r.few;
        leads = ap (λ x. target ((goes arena image w (way x p.place.index [])).slot)) (sym levels) ∙ ap target r.is ∙ leads;
      }
