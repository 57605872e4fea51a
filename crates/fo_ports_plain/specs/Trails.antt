-- Memory leads to each block at one spot: its place, and the trail of its source.
use Rattle.std.proofs.Common.{◌≡◌, ⊎_elim, ℕ, zero, suc, ◌+◌, ◌*◌, ◌<◌, Bool, true, false, cond, nat_eq, List, [], ◌∷◌, refl, sym, ◌∙◌, ap, subst, arith}
use Rattle.std.proofs.lemmas.Grind.{common_steps}
use Rattle.fo_image.specs.declared.types.Kind.{Kind}
use Rattle.fo_image.specs.declared.types.Kind.TheVariants.{Data, Dir, Root}
use Rattle.fo_image.specs.declared.types.Pointer.{Pointer}
use Rattle.fo_image.specs.declared.types.Pointer.TheVariants.{Nil, Local, Score as Held}
use Rattle.fo_crash.specs.declared.slot.Slot.{Slot}
use Rattle.fo_crash.specs.declared.place.Place.{Place}
use Rattle.fo_crash.specs.Images.{Image, SameImage, target, local, walk, to_block}
use Rattle.fo_crash.specs.Places.{super_place, root_place, place_below}
use Rattle.fo_crash.specs.Spots.{Spot, spot_below, top_spot, spot_at, FoundAt, OneSpot}
use Rattle.fo_crash.proofs.Reach.{lost}
use Rattle.fo_ports.specs.Blocks.{IsInner, slot_count}
use Rattle.fo_ports_plain.specs.declared.block.PlainBlock.{PlainBlock}
use Rattle.fo_ports_plain.specs.Plain.{block_at, slot_of, memory, index_in, IsTop}
use Rattle.fo_ports_plain.specs.Sound.{HangsAt, Linked, Links, IsKept, Sound, home_of}

-- The entries by which a source hangs, the last one first.
abbrev pub IsTrail : List PlainBlock → ℕ → List ℕ → Type 0
IsTrail blocks s [] = (home_of blocks s).hangs ≡ false
IsTrail blocks s (n ∷ trail) = ((home_of blocks s).hangs ≡ true) × (n ≡ 204 * (home_of blocks s).index + (home_of blocks s).slot) × IsTrail blocks (home_of blocks s).source trail

never_both : {x : Bool} → x ≡ true → x ≡ false → ⊥
never_both {x} t f = let both : true ≡ false = sym t ∙ f in cc

longer : {m n : ℕ} {t u : List ℕ} → m ≡ n → t ≡ u → m ∷ t ≡ n ∷ u
longer {m} {n} {t} {u} e f = ap (λ k. k ∷ t) e ∙ ap (λ k. n ∷ k) f

pub one_trail : (blocks : List PlainBlock) (s : ℕ) (t u : List ℕ) → IsTrail blocks s t → IsTrail blocks s u → t ≡ u
one_trail blocks s [] [] x y = refl
one_trail blocks s [] (n ∷ u) x y = absurd (never_both y.0 x)
one_trail blocks s (m ∷ t) [] x y = absurd (never_both x.0 y)
one_trail blocks s (m ∷ t) (n ∷ u) x y = longer (x.1 ∙ sym y.1) (one_trail blocks (home_of blocks s).source t u x.2 y.2)

-- The block stands at the place of this spot, and its source hangs by its trail.
pub record AtSpot (blocks : List PlainBlock) (b : ℕ) (p : Spot) : Type 0 where
  pub place : (block_at blocks b).place ≡ p.place
  pub trail : IsTrail blocks (block_at blocks b).source p.trail

abbrev spot : Kind → ℕ → ℕ → ℕ → List ℕ → Spot
spot kind tag index rank trail = record { place = record { kind = kind; tag = tag; index = index; rank = rank }; trail = trail }

-- the trail of a block below
trail_below : (blocks : List PlainBlock) (made a i b : ℕ) (kind : Kind) (tag index rank : ℕ) (trail : List ℕ) (s : Slot) (above below : PlainBlock) → above.place ≡ (spot kind tag index rank trail).place → Linked made a i b above below (home_of blocks below.source) → IsTrail blocks above.source trail → IsTrail blocks below.source (spot_below (spot kind tag index rank trail) i s).trail
trail_below blocks made a i b kind tag index rank trail s above below is l t = by kind (ap (λ (p : Place). p.kind) is)
  where
    index_is : (k : Kind) → above.place.kind ≡ k → index_in above.place ≡ index_in (record { kind = k; tag = tag; index = index; rank = rank })
    index_is k e = ap index_in is ∙ ap (λ z. index_in (record { kind = z; tag = tag; index = index; rank = rank })) (ap (λ (p : Place). p.kind) (sym is) ∙ e)

    outside : (k : Kind) → above.place.kind ≡ k → (IsInner k → ⊥) → (n : ℕ) → n ≡ 204 * index_in (record { kind = k; tag = tag; index = index; rank = rank }) + i → IsTrail blocks below.source (n ∷ trail)
    outside k e not_inner n n_is =
        let h = l.source.outer (λ x. not_inner (subst (λ z. IsInner z) e x)) in
        let own = h.index ∙ index_is k e in
        let slot = h.slot in
        (h.hangs, n_is ∙ ap (λ z. 204 * z + i) (sym own) ∙ ap (λ z. 204 * (home_of blocks below.source).index + z) (sym slot), subst (λ z. IsTrail blocks z trail) (sym h.source) t)

    inside : (k : Kind) → above.place.kind ≡ k → IsInner k → IsTrail blocks below.source trail
    inside k e inner = subst (λ z. IsTrail blocks z trail) (sym (l.source.inner (subst (λ z. IsInner z) (sym e) inner))) t

    by : (k : Kind) → above.place.kind ≡ k → IsTrail blocks below.source (spot_below (spot k tag index rank trail) i s).trail
    by (Data zero) e = let few : i < 0 = subst (λ z. i < slot_count z) e l.few in absurd (omega (arith, few))
    by (Data (suc level)) e = inside (Data (suc level)) e (omega arith)
    by (Dir zero) e = outside (Dir zero) e (λ x. let no : 0 < 0 = x in omega (arith, no)) (204 * index + i) refl
    by (Dir (suc level)) e = inside (Dir (suc level)) e (omega arith)
    by Root e = outside Root e (λ x. x) i (omega arith)

pub below_spot : (blocks : List PlainBlock) (made a i b : ℕ) (p : Spot) → Linked made a i b (block_at blocks a) (block_at blocks b) (home_of blocks (block_at blocks b).source) → AtSpot blocks a p → AtSpot blocks b (spot_below p i (slot_of (block_at blocks a) i))
below_spot blocks made a i b p l at = record {
  place = l.place ∙ ap (λ q. place_below q i (slot_of (block_at blocks a) i)) at.place;
  trail = trail_below blocks made a i b p.place.kind p.place.tag p.place.index p.place.rank p.trail (slot_of (block_at blocks a) i) (block_at blocks a) (block_at blocks b) at.place l at.trail;
}

-- a path comes to the spot of its block
along : (blocks : List PlainBlock) (made : ℕ) (image : Image) → Links blocks made → SameImage image (memory blocks) → (path : List ℕ) (s : Slot) (a b : ℕ) (p : Spot) → target s ≡ Local a → AtSpot blocks a p → target (walk image s path) ≡ Local b → AtSpot blocks b (spot_at image p s path)
along blocks made image links same [] s a b p to at e = let both : Local a ≡ Local b = sym to ∙ e in subst (λ x. AtSpot blocks x p) (cc) at
along blocks made image links same (i ∷ path) s a b p to at e = one (target ((local image (target s)).slot i)) refl (λ c q x. along blocks made image links same path ((local image (target s)).slot i) c b (spot_below p i ((local image (target s)).slot i)) q x e)
  where
    is : (local image (target s)).slot i ≡ slot_of (block_at blocks a) i
    is = ap (λ x. (local image x).slot i) to ∙ (same.each a).slots i

    one : (x : Pointer) → target ((local image (target s)).slot i) ≡ x → ((c : ℕ) → target ((local image (target s)).slot i) ≡ Local c → AtSpot blocks c (spot_below p i ((local image (target s)).slot i)) → AtSpot blocks b (spot_at image (spot_below p i ((local image (target s)).slot i)) ((local image (target s)).slot i) path)) → AtSpot blocks b (spot_at image (spot_below p i ((local image (target s)).slot i)) ((local image (target s)).slot i) path)
    one Nil q on = absurd (lost image path ((local image (target s)).slot i) (λ c h. let x : Nil ≡ Local c = sym q ∙ h in cc) b e)
    one (Held x) q on = absurd (lost image path ((local image (target s)).slot i) (λ c h. let y : Held x ≡ Local c = sym q ∙ h in cc) b e)
    one (Local c) q on = on c q (subst (λ t. AtSpot blocks c (spot_below p i t)) (sym is) (below_spot blocks made a i c p (links a i c (ap target (sym is) ∙ q)) at))

-- the spot of a top
super_way : (blocks : List PlainBlock) (made high root : ℕ) → Sound blocks made high root → target (slot_of (block_at blocks 1) 0) ≡ Local root → HangsAt (home_of blocks 2) 1 0 0
super_way blocks made high root sound way =
    let super = sound.super_at in
    let kept = sound.tops root sound.root_kept.0 in
    let l = sound.links 1 0 root way in
    let kind = ap (λ (q : Place). q.kind) super.place in
    let h = l.source.outer (λ x. subst (λ k. IsInner k) kind x) in
    let index : index_in (block_at blocks 1).place ≡ 0 = ap index_in super.place in
    subst (λ s. HangsAt (home_of blocks s) 1 0 0) kept.source (subst (λ n. HangsAt (home_of blocks (block_at blocks root).source) 1 n 0) index (subst (λ s. HangsAt (home_of blocks (block_at blocks root).source) s (index_in (block_at blocks 1).place) 0) super.source h))

pub top_at : (blocks : List PlainBlock) (made high root t : ℕ) → Sound blocks made high root → target (slot_of (block_at blocks 1) 0) ≡ Local root → IsTop blocks t → AtSpot blocks t (top_spot t)
top_at blocks made high root t sound way is = ⊎_elim at_super at_kept is
  where
    own : IsTrail blocks 1 []
    own = sound.super_at.ends

    at_super : t ≡ 1 → AtSpot blocks t (top_spot t)
    at_super e = subst (λ x. AtSpot blocks x (top_spot x)) (sym e) (record { place = sound.super_at.place; trail = subst (λ s. IsTrail blocks s []) (sym sound.super_at.source) own })

    at_root : IsKept made t (block_at blocks t) → AtSpot blocks t (record { place = root_place; trail = 0 ∷ [] })
    at_root kept =
        let h = super_way blocks made high root sound way in
        let index = h.index in let slot = h.slot in
        record {
          place = kept.place;
          trail = subst (λ s. IsTrail blocks s (0 ∷ [])) (sym kept.source) (h.hangs, omega (arith, index, slot), subst (λ s. IsTrail blocks s []) (sym h.source) own);
        }

    at_kept : (block_at blocks t).kept ≡ true → AtSpot blocks t (top_spot t)
    at_kept e =
        let kept = sound.tops t e in
        let past = kept.past in
        let other : nat_eq t 1 ≡ false = grind (arith, common_steps) in
        subst (λ c. AtSpot blocks t (cond c (record { place = super_place; trail = [] }) (record { place = root_place; trail = 0 ∷ [] }))) (sym other) (at_root kept)

-- All paths of images that are what memory has lead to a block at one spot.
pub one_spot : (blocks : List PlainBlock) (made high root : ℕ) → Sound blocks made high root → target (slot_of (block_at blocks 1) 0) ≡ Local root → OneSpot (IsTop blocks) (λ image. SameImage image (memory blocks))
one_spot blocks made high root sound way = record {
  each = λ image other b p q same others at to.
      let x = found image p same at in
      let y = found other q others to in
      spots_are p q (sym x.place ∙ y.place) (one_trail blocks (block_at blocks b).source p.trail q.trail x.trail y.trail);
}
  where
    found : {b : ℕ} (image : Image) (p : Spot) → SameImage image (memory blocks) → FoundAt (IsTop blocks) image b p → AtSpot blocks b p
    found {b} image p same at = subst (λ x. AtSpot blocks b x) at.spot (along blocks made image sound.links same at.path (to_block at.top) at.top b (top_spot at.top) refl (top_at blocks made high root at.top sound way at.is_top) at.leads)

    spots_are : (p q : Spot) → p.place ≡ q.place → p.trail ≡ q.trail → p ≡ q
    spots_are p q e f = ap (λ x. record p { place = x }) e ∙ ap (λ x. record q { trail = x }) f
