-- A slot was put: what a path finds in a new image, it finds with memory's slot in its place, or it comes there by this slot.
use Rattle.std.proofs.Common.{◌≡◌, ◌⊎◌, inl, inr, ⊎_elim, ℕ, List, [], ◌∷◌, ◌++◌, refl, sym, ◌∙◌, ap}
use Rattle.std.proofs.lemmas.Bool.{cases_eq}
use Rattle.fo_ports.specs.of_image.declared.types.Pointer.{Pointer}
use Rattle.fo_ports.specs.of_image.declared.types.Pointer.TheVariants.{Nil, Local, Score as Held}
use Rattle.fo_crash.specs.declared.slot.Slot.{Slot}
use Rattle.fo_crash.specs.declared.place.Place.{Place}
use Rattle.fo_crash.specs.Images.{Image, Reaches, target, local, walk, to_block, with_slot}
use Rattle.fo_crash.specs.Steps.{AddsSlot}
use Rattle.fo_crash.specs.Places.{super_place, IsPlaced, OnePlace, RanksFall}
use Rattle.fo_crash.specs.Spots.{Spot, FoundAt, spot_below, top_spot, spot_at}
use Rattle.fo_crash.proofs.Places.{never_back}
use Rattle.fo_crash.proofs.Reach.{walk_joins}
use Rattle.fo_crash.proofs.Updates.{slot_bytes, slot_other}
use Rattle.fo_shown.specs.Shown.{active}
use Rattle.fo_shown.specs.Alike.{Finds}
use Rattle.fo_shown.proofs.Ways.{found_stands}

-- A path comes to slot i of a block, which is `s`, and goes on from there to block b: from its last use of the slot on, the other image
-- leads on in the same way.
record Splits (image other : Image) (at i : ℕ) (s : Slot) (p : Spot) (u : Slot) (path : List ℕ) (b : ℕ) (q : Spot) : Type 0 where
  front : List ℕ
  rest : List ℕ
  path_is : path ≡ front ++ i ∷ rest
  holder : Spot
  comes : Finds image p u front at holder
  goes : Finds image (spot_below holder i s) s rest b q
  aside : Finds other (spot_below holder i s) s rest b q

-- from one slot on
module _ (image : Image) (at i : ℕ) (s o : Slot) (put : (image at).slot i ≡ s) where
  abbrev other : Image
  other = with_slot image at i o

  splits : (path : List ℕ) (u : Slot) (p : Spot) (b : ℕ) → target (walk image u path) ≡ Local b → Finds other p u path b (spot_at image p u path) ⊎ Splits image other at i s p u path b (spot_at image p u path)
  splits [] u p b e = inl (record { leads = e; spot = refl })
  splits (j ∷ path) u p b e = by (target u) refl (splits path ((local image (target u)).slot j) (spot_below p j ((local image (target u)).slot j)) b e)
    where
      v : Slot
      v = (local image (target u)).slot j

      w : Slot
      w = (local other (target u)).slot j

      Rest : Type 0
      Rest = Finds other (spot_below p j v) v path b (spot_at image (spot_below p j v) v path) ⊎ Splits image other at i s (spot_below p j v) v path b (spot_at image (spot_below p j v) v path)

      Whole : Type 0
      Whole = Finds other p u (j ∷ path) b (spot_at image p u (j ∷ path)) ⊎ Splits image other at i s p u (j ∷ path) b (spot_at image p u (j ∷ path))

      same : w ≡ v → Rest → Whole
      same e (inl h) = inl (record {
        leads = ap (λ x. target (walk other x path)) e ∙ h.leads;
        spot = ap (λ x. spot_at other (spot_below p j x) x path) e ∙ h.spot;
      })
      same e (inr h) = inr (record {
        front = j ∷ h.front;
        rest = h.rest;
        path_is = ap (λ x. j ∷ x) h.path_is;
        holder = h.holder;
        comes = record { leads = h.comes.leads; spot = h.comes.spot };
        goes = h.goes;
        aside = h.aside;
      })

      here : (a : ℕ) → target u ≡ Local a → a ≡ at → j ≡ i → Rest → Whole
      here a to is_at is_i (inr h) = inr (record {
        front = j ∷ h.front;
        rest = h.rest;
        path_is = ap (λ x. j ∷ x) h.path_is;
        holder = h.holder;
        comes = record { leads = h.comes.leads; spot = h.comes.spot };
        goes = h.goes;
        aside = h.aside;
      })
      here a to is_at is_i (inl h) =
          let v_is : v ≡ s = ap (λ x. (local image x).slot j) to ∙ ap (λ k. (image k).slot j) is_at ∙ ap (λ k. (image at).slot k) is_i ∙ put in
          let below : spot_below p j v ≡ spot_below p i s = ap (λ x. spot_below p j x) v_is ∙ ap (λ k. spot_below p k s) is_i in
          inr (record {
            front = [];
            rest = path;
            path_is = ap (λ k. k ∷ path) is_i;
            holder = p;
            comes = record { leads = to ∙ ap (λ k. Local k) is_at; spot = refl };
            goes = record {
              leads = ap (λ x. target (walk image x path)) (sym v_is) ∙ e;
              spot = ap (λ r. spot_at image r s path) (sym below) ∙ ap (λ x. spot_at image (spot_below p j v) x path) (sym v_is);
            };
            aside = record {
              leads = ap (λ x. target (walk other x path)) (sym v_is) ∙ h.leads;
              spot = ap (λ r. spot_at other r s path) (sym below) ∙ ap (λ x. spot_at other (spot_below p j v) x path) (sym v_is) ∙ h.spot;
            };
          })

      by : (x : Pointer) → target u ≡ x → Rest → Whole
      by Nil q h = same (ap (λ x. (local other x).slot j) q ∙ ap (λ x. (local image x).slot j) (sym q)) h
      by (Held x) q h = same (ap (λ y. (local other y).slot j) q ∙ ap (λ y. (local image y).slot j) (sym q)) h
      by (Local a) q h = ⊎_elim
          (λ is_at. ⊎_elim
          (λ is_i. here a q is_at is_i h)
          (λ ne. same (ap (λ x. (local other x).slot j) q ∙ slot_other image at i o a j (inr ne) ∙ ap (λ x. (local image x).slot j) (sym q)) h)
          (cases_eq j i))
          (λ ne. same (ap (λ x. (local other x).slot j) q ∙ slot_other image at i o a j (inl ne) ∙ ap (λ x. (local image x).slot j) (sym q)) h)
          (cases_eq a at)

-- Block b is found at spot q by a path to slot i of block `at`, which is found at the spot of the holder, and from that slot on: the rest of
-- the path uses this slot no more, so that the other image leads on from it in the same way.
pub record UsesSlot (image other : Image) (at i : ℕ) (s : Slot) (b : ℕ) (q : Spot) (path : List ℕ) : Type 0 where
  pub holder : Spot
  pub above : FoundAt active image at holder
  pub rest : List ℕ
  pub path_is : path ≡ above.path ++ i ∷ rest
  pub goes : Finds image (spot_below holder i s) s rest b q
  pub aside : Finds other (spot_below holder i s) s rest b q

-- Block b is found at spot q by this path.
pub record FoundBy (image : Image) (b : ℕ) (q : Spot) (path : List ℕ) : Type 0 where
  pub found : FoundAt active image b q
  pub path_is : found.path ≡ path

-- What is found is found in the image with another slot, or by this slot.
pub found_or_uses : (image : Image) (at i : ℕ) (s o : Slot) → (image at).slot i ≡ s → {b : ℕ} {q : Spot} (found : FoundAt active image b q) → FoundBy (with_slot image at i o) b q found.path ⊎ UsesSlot image (with_slot image at i o) at i s b q found.path
found_or_uses image at i s o put {b} {q} found =
    let is_at : spot_at image (top_spot 1) (to_block 1) found.path ≡ q = ap (λ t. spot_at image (top_spot t) (to_block t) found.path) (sym found.is_top) ∙ found.spot in
    ⊎_elim
    (λ h. inl (record { found = record { top = 1; is_top = refl; path = found.path; leads = h.leads; spot = h.spot ∙ is_at }; path_is = refl }))
    (λ h. inr (record {
      holder = h.holder;
      above = record { top = 1; is_top = refl; path = h.front; leads = h.comes.leads; spot = h.comes.spot };
      rest = h.rest;
      path_is = h.path_is;
      goes = record { leads = h.goes.leads; spot = h.goes.spot ∙ is_at };
      aside = record { leads = h.aside.leads; spot = h.aside.spot ∙ is_at };
    }))
    (splits image at i s o put found.path (to_block 1) (top_spot 1) b (ap (λ t. target (walk image (to_block t) found.path)) (sym found.is_top) ∙ found.leads))

-- What a new image with the slot is: an old one with memory's slot in its place; and how a block is found in it.
pub record HasSlot (now : Image) (at i : ℕ) (s : Slot) (beside old : Image → Type 0) (image : Image) (b : ℕ) (q : Spot) (path : List ℕ) : Type 0 where
  pub put : (image at).slot i ≡ s
  pub was : old (with_slot image at i ((now at).slot i))
  pub has : beside image
  pub bytes : (with_slot image at i ((now at).slot i) b).bytes ≡ (image b).bytes
  pub way : FoundBy (with_slot image at i ((now at).slot i)) b q path ⊎ UsesSlot image (with_slot image at i ((now at).slot i)) at i s b q path

-- A slot was put: a new image is an old one, or what is found in it is found in an old one, or by this slot.
pub slot_ways : {now : Image} {at i : ℕ} {s : Slot} {beside : Image → Type 0} {old new : Image → Type 0} → AddsSlot now at i s beside old new → (image : Image) → new image → {b : ℕ} {q : Spot} (found : FoundAt active image b q) → old image ⊎ HasSlot now at i s beside old image b q found.path
slot_ways {now} {at} {i} {s} adds image is {b} {q} found = ⊎_elim
    (λ was. inl was)
    (λ h. inr (record {
      put = h.0;
      was = h.1;
      has = h.2;
      bytes = slot_bytes image at i ((now at).slot i) b;
      way = found_or_uses image at i s ((now at).slot i) h.0 found;
    }))
    (adds.each image is)

-- Ranks fall along slots, so none leads back to its block.
pub never_returns : {stands : ℕ → Place → Type 0} {image : Image} {at : ℕ} {p : Spot} (i : ℕ) → OnePlace stands → stands 1 super_place → IsPlaced stands image → RanksFall stands image → FoundAt active image at p → Reaches image ((image at).slot i) at → ⊥
never_returns {p = p} i one super_at placed falls found r = never_back p.place one placed falls (found_stands super_at placed found) r

-- Where the slot leads not back to its block, the other image finds that block at the same spot, by the same path.
pub holder_found : (image : Image) (at i : ℕ) (s o : Slot) → (image at).slot i ≡ s → (Reaches image s at → ⊥) → {p : Spot} (found : FoundAt active image at p) → FoundBy (with_slot image at i o) at p found.path
holder_found image at i s o put apart found = ⊎_elim
    (λ h. h)
    (λ u. absurd (apart (record { path = u.rest; leads = u.goes.leads })))
    (found_or_uses image at i s o put found)

spot_joins : (image : Image) (p : Spot) (s : Slot) (path rest : List ℕ) → spot_at image p s (path ++ rest) ≡ spot_at image (spot_at image p s path) (walk image s path) rest
spot_joins image p s [] rest = refl
spot_joins image p s (j ∷ path) rest = spot_joins image (spot_below p j ((local image (target s)).slot j)) ((local image (target s)).slot j) path rest

-- What is found on from a slot of a block that is found is found.
pub found_further : {image : Image} {a b : ℕ} {p q : Spot} (i : ℕ) (rest : List ℕ) (found : FoundAt active image a p) → Finds image (spot_below p i ((image a).slot i)) ((image a).slot i) rest b q → FoundBy image b q (found.path ++ i ∷ rest)
found_further {image} {a} {b} {p} {q} i rest found goes =
    let s : Slot = (local image (target (walk image (to_block found.top) found.path))).slot i in
    let s_is : s ≡ (image a).slot i = ap (λ x. (local image x).slot i) found.leads in
    record {
      found = record {
        top = found.top;
        is_top = found.is_top;
        path = found.path ++ i ∷ rest;
        leads = ap target (walk_joins image (to_block found.top) found.path (i ∷ rest)) ∙ ap (λ x. target (walk image x rest)) s_is ∙ goes.leads;
        spot = spot_joins image (top_spot found.top) (to_block found.top) found.path (i ∷ rest) ∙ ap (λ x. spot_at image (spot_below x i s) s rest) found.spot ∙ ap (λ x. spot_at image (spot_below p i x) x rest) s_is ∙ goes.spot;
      };
      path_is = refl;
    }
