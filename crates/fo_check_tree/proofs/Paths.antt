-- Paths, one slot more.
use Rattle.std.proofs.Common.{◌≡◌, ℕ, zero, suc, List, [], ◌∷◌, ◌++◌, refl, sym, ap, ◌∙◌}
use Rattle.fo_image.specs.declared.types.Kind.{Kind}
use Rattle.fo_image.specs.declared.types.Kind.TheVariants.{Data, Dir, Root}
use Rattle.fo_image.specs.declared.types.Label.{Label}
use Rattle.fo_image.specs.declared.types.Pointer.{Pointer}
use Rattle.fo_image.specs.declared.types.Pointer.TheVariants.{Local}
use Rattle.fo_crash.specs.declared.slot.Slot.{Slot}
use Rattle.fo_crash.specs.declared.place.Place.{Place}
use Rattle.fo_crash.specs.Images.{Content, Image, Arena, Link, target, meant, found, step, goes, from_block, kind_below}
use Rattle.fo_crash.specs.Places.{place_below, root_place}
use Rattle.fo_good.specs.Trees.{place_along, at_path, place_of}
use Rattle.fo_good.specs.Sound.{Kept}
use Rattle.fo_check_tree.specs.Walking.{HasPath, tag_below}

kind_by : (kind : Kind) (tag index rank i : ℕ) (s : Slot) → (place_below (record { kind = kind; tag = tag; index = index; rank = rank }) i s).kind ≡ kind_below kind s
kind_by (Data zero) tag index rank i s = refl
kind_by (Data (suc level)) tag index rank i s = refl
kind_by (Dir zero) tag index rank i s = refl
kind_by (Dir (suc level)) tag index rank i s = refl
kind_by Root tag index rank i s = refl

tag_by : (kind : Kind) (tag index rank i : ℕ) (s : Slot) → (place_below (record { kind = kind; tag = tag; index = index; rank = rank }) i s).tag ≡ tag_below kind tag s
tag_by (Data zero) tag index rank i s = refl
tag_by (Data (suc level)) tag index rank i s = refl
tag_by (Dir zero) tag index rank i s = refl
tag_by (Dir (suc level)) tag index rank i s = refl
tag_by Root tag index rank i s = refl

pub below_kind : (p : Place) (i : ℕ) (s : Slot) → (place_below p i s).kind ≡ kind_below p.kind s
below_kind p i s = kind_by p.kind p.tag p.index p.rank i s

pub below_tag : (p : Place) (i : ℕ) (s : Slot) → (place_below p i s).tag ≡ tag_below p.kind p.tag s
below_tag p i s = tag_by p.kind p.tag p.index p.rank i s

module _ (arena : Arena) (image : Image) where
  pub goes_end : (path : List ℕ) (w : Link) (i : ℕ) → goes arena image w (path ++ i ∷ []) ≡ step arena image (goes arena image w path) i
  goes_end [] w i = refl
  goes_end (j ∷ path) w i = goes_end path (step arena image w j) i

  pub place_end : (path : List ℕ) (p : Place) (w : Link) (i : ℕ) → place_along arena image p w (path ++ i ∷ []) ≡ place_below (place_along arena image p w path) i ((found arena image (goes arena image w path)).slot i)
  place_end [] p w i = refl
  place_end (j ∷ path) p w i = place_end path (place_below p j ((found arena image w).slot j)) (step arena image w j) i

  pub found_is : (w : Link) (at : ℕ) → target w.slot ≡ Local at → found arena image w ≡ image at
  found_is w at e = ap (λ (p : Pointer). meant arena image w.kind p) e

  pub slot_end : (path : List ℕ) (w : Link) (i at : ℕ) → target ((goes arena image w path).slot) ≡ Local at → (goes arena image w (path ++ i ∷ [])).slot ≡ (image at).slot i
  slot_end path w i at e = ap (λ (v : Link). v.slot) (goes_end path w i) ∙ ap (λ (c : Content). c.slot i) (found_is (goes arena image w path) at e)

  module _ (k : Kept) (at i : ℕ) (l : Label) (p : HasPath arena image k at l) where
    abbrev slot : Slot
    slot = (image at).slot i

    here : (found arena image (at_path arena image k.at p.path)).slot i ≡ slot
    here = ap (λ (c : Content). c.slot i) (found_is (at_path arena image k.at p.path) at p.leads)

    place_is : place_of arena image k.at (p.path ++ i ∷ []) ≡ place_below (place_of arena image k.at p.path) i slot
    place_is = place_end p.path root_place (from_block k.at) i ∙ ap (λ (x : Slot). place_below (place_of arena image k.at p.path) i x) here

    pub end_kind : (place_of arena image k.at (p.path ++ i ∷ [])).kind ≡ kind_below l.kind slot
    end_kind = ap (λ (q : Place). q.kind) place_is ∙ below_kind (place_of arena image k.at p.path) i slot ∙ ap (λ (d : Kind). kind_below d slot) p.kind

    pub end_tag : (place_of arena image k.at (p.path ++ i ∷ [])).tag ≡ tag_below l.kind l.tag slot
    end_tag = ap (λ (q : Place). q.tag) place_is ∙ below_tag (place_of arena image k.at p.path) i slot ∙ ap (λ (d : Kind). tag_below d (place_of arena image k.at p.path).tag slot) p.kind ∙ ap (λ (t : ℕ). tag_below l.kind t slot) p.tag

    pub end_slot : (at_path arena image k.at (p.path ++ i ∷ [])).slot ≡ slot
    end_slot = slot_end p.path (from_block k.at) i at p.leads

    pub child : (below : ℕ) (m : Label) → target slot ≡ Local below → m.kind ≡ kind_below l.kind slot → m.tag ≡ tag_below l.kind l.tag slot → HasPath arena image k below m
    child below m leads kind tag = record {
      path = p.path ++ i ∷ [];
      leads = ap target end_slot ∙ leads;
      kind = end_kind ∙ sym kind;
      tag = end_tag ∙ sym tag;
      link = ap (λ (v : Link). v.kind) (goes_end p.path (from_block k.at) i) ∙ ap (λ (d : Kind). kind_below d ((found arena image (at_path arena image k.at p.path)).slot i)) p.link ∙ ap (λ (x : Slot). kind_below l.kind x) here ∙ sym kind;
    }

-- ---- paths that are the same to their ends

pub same_ends : (p q : List ℕ) (i j : ℕ) → p ++ i ∷ [] ≡ q ++ j ∷ [] → (p ≡ q) × (i ≡ j)
same_ends [] [] i j e = (refl, cc)
same_ends [] (y ∷ []) i j e = cc
same_ends [] (y ∷ z ∷ q) i j e = cc
same_ends (x ∷ []) [] i j e = cc
same_ends (x ∷ z ∷ p) [] i j e = cc
same_ends (x ∷ p) (y ∷ q) i j e =
    let head : x ≡ y = cc in
    let tail : p ++ i ∷ [] ≡ q ++ j ∷ [] = cc in
    let r = same_ends p q i j tail in
    (ap (λ (n : ℕ). n ∷ p) head ∙ ap (λ (xs : List ℕ). y ∷ xs) r.0, r.1)

pub not_none : (p : List ℕ) (i : ℕ) → [] ≡ p ++ i ∷ [] → ⊥
not_none [] i e = cc
not_none (j ∷ p) i e = cc
