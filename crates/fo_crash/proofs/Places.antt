-- The blocks of a source stand at their own places, in every image.
use Rattle.std.proofs.Common.{◌≡◌, ◌≢◌, ◌⊎◌, inl, inr, ⊎_elim, ℕ, ◌+◌, ◌-◌, ◌*◌, ◌/◌, ◌%◌, ◌^◌, ◌<◌, ◌≤◌, zero, suc, Bool, true, false, cond, List, [], ◌∷◌, refl, sym, ◌∙◌, ap, subst, arith, pow-suc}
use Rattle.std.proofs.lemmas.Bool.{cases_eq}
use Rattle.fo_image.specs.declared.types.Kind.{Kind}
use Rattle.fo_image.specs.declared.types.Kind.TheVariants.{Data, Dir}
use Rattle.fo_image.specs.declared.types.Pointer.{Pointer}
use Rattle.fo_image.specs.declared.types.Pointer.TheVariants.{Nil, Local, Score as Held}
use Rattle.fo_crash.specs.declared.slot.Slot.{Slot}
use Rattle.fo_crash.specs.declared.place.Place.{Place}
use Rattle.fo_crash.specs.Images.{Image, Arena, Link, target, goes, meant, found, walk, local, way, to_block, Reaches, IsArena, with_slot}
use Rattle.fo_crash.specs.Steps.{AddsSlot}
use Rattle.fo_crash.specs.Names.{InAll}
use Rattle.fo_crash.specs.Places.{place, place_below, IsPlaced, OnePlace, RanksFall}
use Rattle.fo_crash.proofs.Reach.{lost}
use Rattle.fo_crash.proofs.Updates.{slot_other}

pub goes_way : (arena : Arena) (image : Image) (w : Link) (depth k : ℕ) (path : List ℕ) → goes arena image w (way depth k path) ≡ goes arena image (goes arena image w (way depth k [])) path
goes_way arena image w zero k path = refl
goes_way arena image w (suc depth) k path =
    goes_way arena image w depth (k / 409) (k % 409 ∷ path)
    ∙ ap (λ (v : Link). goes arena image v path) (sym (goes_way arena image w depth (k / 409) (k % 409 ∷ [])))

-- a source of data or of entries, at a level
abbrev pub level_of : Bool → ℕ → Kind
level_of dir level = cond dir (Dir level) (Data level)

below_level : (dir : Bool) (t l k r i : ℕ) (s : Slot) → place_below (place (level_of dir (suc l)) t k r) i s ≡ place (level_of dir l) t (409 * k + i) (r - 1)
below_level true t l k r i s = refl
below_level false t l k r i s = refl

module _ {arena : Arena} {image : Image} {stands : ℕ → Place → Type 0} (is_arena : IsArena arena) (placed : IsPlaced stands image) (w : Link) (dir : Bool) (t rank levels : ℕ) (top : (b : ℕ) → target w.slot ≡ Local b → stands b (place (level_of dir levels) t 0 (rank + levels))) where
  below : (v : Link) (i l k b : ℕ) → ((a : ℕ) → target v.slot ≡ Local a → stands a (place (level_of dir (suc l)) t k (rank + suc l))) → target ((found arena image v).slot i) ≡ Local b → stands b (place (level_of dir l) t (409 * k + i) (rank + l))
  below v i l k b h e = go (target v.slot) h e
    where
      r_is : rank + suc l - 1 ≡ rank + l
      r_is = omega arith

      go : (p : Pointer) → ((a : ℕ) → p ≡ Local a → stands a (place (level_of dir (suc l)) t k (rank + suc l))) → target ((meant arena image v.kind p).slot i) ≡ Local b → stands b (place (level_of dir l) t (409 * k + i) (rank + l))
      go Nil h e = absurd (cc)
      go (Held x) h e = absurd (is_arena.apart v.kind x i b e)
      go (Local a) h e = subst (λ r. stands b (place (level_of dir l) t (409 * k + i) r)) r_is (subst (λ q. stands b q) (below_level dir t l k (rank + suc l) i ((image a).slot i)) (placed.each a i b (place (level_of dir (suc l)) t k (rank + suc l)) (h a refl) e))

  -- A block on the way to leaf k of a source stands at its place.
  pub place_on_way : (depth k b : ℕ) → depth ≤ levels → k < 409 ^ depth → target ((goes arena image w (way depth k [])).slot) ≡ Local b → stands b (place (level_of dir (levels - depth)) t k (rank + (levels - depth)))
  place_on_way zero k b le lt e =
      let l_is : levels ≡ levels - 0 = omega arith in
      let k_is : 0 ≡ k = omega arith in
      subst (λ l. stands b (place (level_of dir l) t k (rank + l))) l_is (subst (λ j. stands b (place (level_of dir levels) t j (rank + levels))) k_is (top b e))
  place_on_way (suc depth) k b le lt e =
      let l_is : levels - depth ≡ suc (levels - suc depth) = omega arith in
      let k_lt : k / 409 < 409 ^ depth = omega (arith, pow-suc 409 depth) in
      let k_is : 409 * (k / 409) + k % 409 ≡ k = omega arith in
      subst (λ j. stands b (place (level_of dir (levels - suc depth)) t j (rank + (levels - suc depth)))) k_is (below (goes arena image w (way depth (k / 409) [])) (k % 409) (levels - suc depth) (k / 409) b
      (λ a is. subst (λ l. stands a (place (level_of dir l) t (k / 409) (rank + l))) l_is (place_on_way depth (k / 409) a (omega arith) k_lt is))
      (ap (λ (v : Link). target v.slot) (sym (goes_way arena image w depth (k / 409) (k % 409 ∷ []))) ∙ e))

-- Two blocks at different places are different blocks.
pub places_apart : {stands : ℕ → Place → Type 0} {a b : ℕ} {p q : Place} → OnePlace stands → stands a p → stands b q → p ≢ q → a ≢ b
places_apart {stands} {a} {b} {p} {q} one at_p at_q ne e = ne (one.each b p q (subst (λ x. stands x p) e at_p) at_q)

-- What is reached from a block that stands at a place stands at one, of a lower rank but for that block itself.
pub stands_below : {stands : ℕ → Place → Type 0} {image : Image} {a b : ℕ} (p : Place) → IsPlaced stands image → RanksFall stands image → stands a p → Reaches image (to_block a) b → (q : Place) × stands b q × ((q.rank < p.rank) ⊎ ((a ≡ b) × (q ≡ p)))
stands_below {stands} {image} {a} {b} p placed falls at_p r = along r.path a p at_p r.leads
  where
    along : (path : List ℕ) (a : ℕ) (p : Place) → stands a p → target (walk image (to_block a) path) ≡ Local b → (q : Place) × stands b q × ((q.rank < p.rank) ⊎ ((a ≡ b) × (q ≡ p)))
    along [] a p at_p e = let same : Local a ≡ Local b = e in let is : a ≡ b = cc in (p, subst (λ x. stands x p) is at_p, inr (is, refl))
    along (i ∷ path) a p at_p e = one (target ((image a).slot i)) refl (λ c q. along path c (place_below p i ((image a).slot i)) (placed.each a i c p at_p q))
      where
        step_on : (path : List ℕ) (s : Slot) (c : ℕ) → target s ≡ Local c → target (walk image s path) ≡ Local b → target (walk image (to_block c) path) ≡ Local b
        step_on [] s c q e = sym q ∙ e
        step_on (j ∷ path) s c q e = ap (λ x. target (walk image ((local image x).slot j) path)) (sym q) ∙ e

        one : (x : Pointer) → target ((image a).slot i) ≡ x → ((c : ℕ) → target ((image a).slot i) ≡ Local c → target (walk image (to_block c) path) ≡ Local b → (q : Place) × stands b q × ((q.rank < (place_below p i ((image a).slot i)).rank) ⊎ ((c ≡ b) × (q ≡ place_below p i ((image a).slot i))))) → (q : Place) × stands b q × ((q.rank < p.rank) ⊎ ((a ≡ b) × (q ≡ p)))
        one Nil q on = absurd (lost image path ((image a).slot i) (λ c h. let x : Nil ≡ Local c = sym q ∙ h in cc) b e)
        one (Held x) q on = absurd (lost image path ((image a).slot i) (λ c h. let y : Held x ≡ Local c = sym q ∙ h in cc) b e)
        one (Local c) q on =
            let fall = falls.each a i c p at_p q in
            let below = on c q (step_on path ((image a).slot i) c q e) in (
              below.0,
              below.1,
              ⊎_elim
                  (λ lt. let lower : (below.0).rank < p.rank = omega (arith, lt, fall) in inl lower)
                  (λ same. let here : (below.0).rank < p.rank = subst (λ (x : Place). x.rank < p.rank) (sym same.1) fall in inl here)
                  below.2,
            )

-- No path comes to a block above the one where it began, or back to it.
pub never_above : {stands : ℕ → Place → Type 0} {image : Image} {a b : ℕ} (p q : Place) → OnePlace stands → IsPlaced stands image → RanksFall stands image → stands a p → stands b q → p.rank < q.rank → Reaches image (to_block a) b → ⊥
never_above {stands} {image} {a} {b} p q one placed falls at_p at_q above r =
    let below = stands_below p placed falls at_p r in
    let same : below.0 ≡ q = one.each b (below.0) q below.1 at_q in
    let rank_is : (below.0).rank ≡ q.rank = ap (λ (x : Place). x.rank) same in
    ⊎_elim
    (λ lt. omega (arith, lt, above, rank_is))
    (λ here. let p_is : (below.0).rank ≡ p.rank = ap (λ (x : Place). x.rank) here.1 in omega (arith, p_is, above, rank_is))
    below.2

pub never_back : {stands : ℕ → Place → Type 0} {image : Image} {a i : ℕ} (p : Place) → OnePlace stands → IsPlaced stands image → RanksFall stands image → stands a p → Reaches image ((image a).slot i) a → ⊥
never_back {stands} {image} {a} {i} p one placed falls at_p r = first (target ((image a).slot i)) refl
  where
    from : (c : ℕ) (path : List ℕ) (s : Slot) → target s ≡ Local c → target (walk image s path) ≡ Local a → Reaches image (to_block c) a
    from c [] s q e = record { path = []; leads = sym q ∙ e }
    from c (j ∷ path) s q e = record { path = j ∷ path; leads = ap (λ x. target (walk image ((local image x).slot j) path)) (sym q) ∙ e }

    first : (x : Pointer) → target ((image a).slot i) ≡ x → ⊥
    first Nil q = lost image r.path ((image a).slot i) (λ c h. let x : Nil ≡ Local c = sym q ∙ h in cc) a r.leads
    first (Held x) q = lost image r.path ((image a).slot i) (λ c h. let y : Held x ≡ Local c = sym q ∙ h in cc) a r.leads
    first (Local c) q = never_above (place_below p i ((image a).slot i)) p one placed falls (placed.each a i c p at_p q) at_p (falls.each a i c p at_p q) (from c r.path ((image a).slot i) q r.leads)

-- A slot is put that leads to the block of its place, or to a lower rank.
pub slot_placed : {stands : ℕ → Place → Type 0} {now : Image} {at i : ℕ} {s : Slot} {beside : Image → Type 0} {old new : Image → Type 0} → InAll (IsPlaced stands) old → AddsSlot now at i s beside old new → ((b : ℕ) (p : Place) → stands at p → target s ≡ Local b → stands b (place_below p i s)) → InAll (IsPlaced stands) new
slot_placed {stands} {now} {at} {i} {s} all add fits = record {
  each = λ image is. ⊎_elim
      (λ is_old. all.each image is_old)
      (λ h. record {
        each = λ a j b p at_p e. ⊎_elim
            (λ both. let here : (image a).slot j ≡ s = ap (λ x. (image x).slot j) both.0 ∙ ap (λ k. (image at).slot k) both.1 ∙ h.0 in
            subst (λ x. stands b (place_below p j x)) (sym here) (subst (λ k. stands b (place_below p k s)) (sym both.1) (fits b p (subst (λ x. stands x p) both.0 at_p) (ap target (sym here) ∙ e))))
            (λ other. let same = slot_other image at i ((now at).slot i) a j other in
            subst (λ x. stands b (place_below p j x)) same ((all.each (with_slot image at i ((now at).slot i)) h.1).each a j b p at_p (ap target same ∙ e)))
            (here_or_not a j);
      })
      (add.each image is);
}
  where
    here_or_not : (a j : ℕ) → ((a ≡ at) × (j ≡ i)) ⊎ ((a ≢ at) ⊎ (j ≢ i))
    here_or_not a j = ⊎_elim (λ x. ⊎_elim (λ y. inl (x, y)) (λ ne. inr (inr ne)) (cases_eq j i)) (λ ne. inr (inl ne)) (cases_eq a at)

pub slot_falls : {stands : ℕ → Place → Type 0} {now : Image} {at i : ℕ} {s : Slot} {beside : Image → Type 0} {old new : Image → Type 0} → InAll (RanksFall stands) old → AddsSlot now at i s beside old new → ((b : ℕ) (p : Place) → stands at p → target s ≡ Local b → (place_below p i s).rank < p.rank) → InAll (RanksFall stands) new
slot_falls {stands} {now} {at} {i} {s} all add lower = record {
  each = λ image is. ⊎_elim
      (λ is_old. all.each image is_old)
      (λ h. record {
        each = λ a j b p at_p e. ⊎_elim
            (λ both. let here : (image a).slot j ≡ s = ap (λ x. (image x).slot j) both.0 ∙ ap (λ k. (image at).slot k) both.1 ∙ h.0 in
            subst (λ x. (place_below p j x).rank < p.rank) (sym here) (subst (λ k. (place_below p k s).rank < p.rank) (sym both.1) (lower b p (subst (λ x. stands x p) both.0 at_p) (ap target (sym here) ∙ e))))
            (λ other. let same = slot_other image at i ((now at).slot i) a j other in
            subst (λ x. (place_below p j x).rank < p.rank) same ((all.each (with_slot image at i ((now at).slot i)) h.1).each a j b p at_p (ap target same ∙ e)))
            (here_or_not a j);
      })
      (add.each image is);
}
  where
    here_or_not : (a j : ℕ) → ((a ≡ at) × (j ≡ i)) ⊎ ((a ≢ at) ⊎ (j ≢ i))
    here_or_not a j = ⊎_elim (λ x. ⊎_elim (λ y. inl (x, y)) (λ ne. inr (inr ne)) (cases_eq j i)) (λ ne. inr (inl ne)) (cases_eq a at)
