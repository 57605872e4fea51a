-- The entry of a source of data that holds no records leads to no leaf of records.
use Rattle.std.proofs.Common.{◌≡◌, ◌≢◌, ◌+◌, ◌-◌, ◌*◌, ◌%◌, ◌<◌, ℕ, zero, suc, Bool, true, false, List, [], ◌∷◌, refl, sym, ◌∙◌, ap, subst, arith}
use Rattle.fo_image.specs.declared.types.Kind.TheVariants.{Data, Dir}
use Rattle.fo_image.specs.declared.types.Pointer.{Pointer}
use Rattle.fo_image.specs.declared.types.Pointer.TheVariants.{Nil, Local, Score as Held}
use Rattle.fo_crash.specs.declared.slot.Slot.{Slot}
use Rattle.fo_crash.specs.declared.slot.Slot.TheVariants.{Entry as Head}
use Rattle.fo_crash.specs.declared.place.Place.{Place}
use Rattle.fo_crash.specs.Images.{Image, target, local, walk}
use Rattle.fo_crash.specs.Places.{place, super_place, place_below, IsPlaced}
use Rattle.fo_crash.specs.Spots.{Spot, FewSlots, slots_of, spot_below, spot_at}
use Rattle.fo_crash.proofs.Reach.{lost}
use Rattle.fo_ports.specs.Alike.{LeadsAlike}
use Rattle.fo_ports.specs.Shown.{IsOfRecords}
use Rattle.fo_ports.specs.Sources.{IsPlain}
use Rattle.fo_ports.specs.State.{State}
use Rattle.fo_shown.proofs.Ways.{found_stands}
use Rattle.fo_tree_read.specs.declared.tree.Tree.{Tree}
use Rattle.fo_tree_read.specs.Tree.{kind_at}
use Rattle.fo_tree_look.specs.declared.ways.Kept.{Kept}
use Rattle.fo_tree_look.specs.Source.{Over, form_of}
use Rattle.fo_tree_link.specs.of_tree_open.Open.{NamesRank}
use Rattle.fo_tree_link.proofs.of_tree_open.Opened.{place_named}
use Rattle.fo_tree_link.specs.Link.{entry_of}

-- What is known of an image: where its blocks stand, and how many of their slots lead on.
record Stands (stands : ℕ → Place → Type 0) (image : Image) : Type 0 where
  placed : IsPlaced stands image
  few : FewSlots stands image

level_down : (rank level : ℕ) → rank + suc level - 1 ≡ rank + level
level_down rank level = omega arith

leaf_none : (level index tag rank : ℕ) → rank % 32 ≢ 16 → (place (Data level) tag index (rank + level)).kind ≡ Data 0 → (rank + level) % 32 ≡ 16 → ⊥
leaf_none zero index tag rank other is ranked = other (omega (arith, ranked))
leaf_none (suc level) index tag rank other is ranked = let no : Data (suc level) ≡ Data 0 = is in absurd (cc)

-- Below a place of data whose leaves have this rank no path comes to a leaf of records.
leads_none : {stands : ℕ → Place → Type 0} {image : Image} → Stands stands image → (rank tag : ℕ) → rank % 32 ≢ 16 → (path : List ℕ) (s : Slot) (p : Spot) (level index b : ℕ) → p.place ≡ place (Data level) tag index (rank + level) → ((c : ℕ) → target s ≡ Local c → stands c p.place) → target (walk image s path) ≡ Local b → IsOfRecords (spot_at image p s path) → ⊥
leads_none known rank tag other [] s p level index b here stands leads of =
    leaf_none level index tag rank other (ap (λ (x : Place). x.kind) (sym here) ∙ of.0) (ap (λ (x : Place). x.rank % 32) (sym here) ∙ of.1)
leads_none {stands} {image} known rank tag other (j ∷ path) s p level index b here above leads of = by (λ low below stands_low. leads_none known rank tag other path u (spot_below p j u) low (409 * index + j) b below stands_low leads of) (target s) refl
  where
    u : Slot
    u = (local image (target s)).slot j

    -- no path from the slot comes to a leaf of records, where it is one of a block of pointers
    Further : Type 0
    Further = (low : ℕ) → place_below p.place j u ≡ place (Data low) tag (409 * index + j) (rank + low) → ((c : ℕ) → target u ≡ Local c → stands c (place_below p.place j u)) → ⊥

    -- the slot leads to a block, at the place below
    on : Further → (level : ℕ) → p.place ≡ place (Data level) tag index (rank + level) → (c d : ℕ) → target s ≡ Local c → target u ≡ Local d → ⊥
    on further zero at c d to next =
        let there = above c to in
        let slot : target ((image c).slot j) ≡ Local d = ap (λ z. target ((local image z).slot j)) (sym to) ∙ next in
        let few : j < slots_of p.place.kind = known.few.each c j d p.place there slot in
        let none : j < 0 = subst (λ (x : Place). j < slots_of x.kind) at few in
        omega (arith, none)
    on further (suc low) at c d to next =
        let there = above c to in
        let is : u ≡ (image c).slot j = ap (λ z. (local image z).slot j) to in
        let below : place_below p.place j u ≡ place (Data low) tag (409 * index + j) (rank + low) = ap (λ x. place_below x j u) at ∙ ap (λ n. place (Data low) tag (409 * index + j) n) (level_down rank low) in
        further low below (λ e to_e. subst (λ x. stands e (place_below p.place j x)) (sym is) (known.placed.each c j e p.place there (ap target (sym is) ∙ to_e)))

    leads_on : Further → (c : ℕ) → target s ≡ Local c → (x : Pointer) → target u ≡ x → ⊥
    leads_on further c to Nil q = lost image path u (λ d h. let x : Nil ≡ Local d = sym q ∙ h in cc) b leads
    leads_on further c to (Local d) q = on further level here c d to q
    leads_on further c to (Held score) q = lost image path u (λ d h. let x : Held score ≡ Local d = sym q ∙ h in cc) b leads

    by : Further → (x : Pointer) → target s ≡ x → ⊥
    by further Nil q = lost image (j ∷ path) s (λ d h. let x : Nil ≡ Local d = sym q ∙ h in cc) b leads
    by further (Local c) q = leads_on further c q (target u) refl
    by further (Held score) q = lost image (j ∷ path) s (λ d h. let x : Held score ≡ Local d = sym q ∙ h in cc) b leads

data_dir : (dir : Bool) → kind_at dir 0 ≡ Data 0 → dir ≡ false
data_dir true e = let no : Dir 0 ≡ Data 0 = e in absurd (cc)
data_dir false e = refl

-- What is known of each image, and that slot i of a block names sources whose leaves have this rank.
pub record MayName (s : State) (t : Tree) (at i : ℕ) : Type 0 where
  pub told : (image : Image) → s.may_leave image → s.tells
  pub super_at : (image : Image) → s.may_leave image → s.stands 1 super_place
  pub placed : (image : Image) → s.may_leave image → IsPlaced s.stands image
  pub few : (image : Image) → s.may_leave image → FewSlots s.stands image
  pub ranked : s.tells → (p : Place) → s.stands at p → NamesRank p.kind p.rank i t.dir t.rank

-- A source of data without records leads to none of their leaves, wherever it is put.
pub plain_alike : {s : State} {t : Tree} {kept : List Kept} {limit at i : ℕ} (generation : ℕ) → MayName s t at i → Over s t kept limit → IsPlain (form_of t generation limit) → LeadsAlike s.may_leave s.now at i (Head (entry_of t generation))
plain_alike {s} {t} {kept} {limit} {at} {i} generation may over plain = record {
  each = λ image p q path b is same found finds of.
      let told = may.told image is in
      let e = entry_of t generation in
      let there = found_stands (may.super_at image is) (may.placed image is) found in
      let dir : t.dir ≡ false = data_dir t.dir plain.0 in
      let named : place_below p.place i (Head e) ≡ place (kind_at t.dir t.depth) t.tag 0 (t.rank + t.depth) = place_named p.place i e t.rank (may.ranked told p.place there) in
      let here : place_below p.place i (Head e) ≡ place (Data t.depth) t.tag 0 (t.rank + t.depth) = named ∙ ap (λ d. place (kind_at d t.depth) t.tag 0 (t.rank + t.depth)) dir in
      absurd (leads_none (record { placed = may.placed image is; few = may.few image is }) t.rank t.tag plain.1 path (Head e) (spot_below p i (Head e)) t.depth 0 b here
      (λ c to. subst (λ x. s.stands c x) (sym named) (over.hangs.told told c to).0)
      finds.leads (subst (λ x. IsOfRecords x) (sym finds.spot) of));
}
