-- Where an entry with a source's top led to no more of leaves of records than memory's slot, it does so still once bytes were put.
use Rattle.std.proofs.Common.{◌≡◌, ◌⊎◌, ◌%◌, ℕ, List, [], ◌∷◌, inl, inr, ⊎_elim, refl, sym, ◌∙◌, ap, subst}
use Rattle.fo_image.specs.declared.types.Kind.TheVariants.{Data}
use Rattle.fo_image.specs.declared.types.Pointer.{Pointer}
use Rattle.fo_image.specs.declared.types.Pointer.TheVariants.{Nil, Local, Score as Held}
use Rattle.fo_crash.specs.declared.slot.Slot.{Slot}
use Rattle.fo_crash.specs.declared.slot.Slot.TheVariants.{Entry as Head}
use Rattle.fo_crash.specs.declared.place.Place.{Place}
use Rattle.fo_crash.specs.Images.{Content, Image, Reaches, target, local, walk, to_block, with_bytes}
use Rattle.fo_crash.specs.Steps.{AddsBytes}
use Rattle.fo_crash.specs.Places.{place_below, IsPlaced, OnePlace}
use Rattle.fo_crash.specs.Spots.{Spot, FoundAt, spot_below, spot_at}
use Rattle.fo_crash.proofs.Updates.{bytes_other, bytes_slot}
use Rattle.fo_ports.specs.Blocks.{zero_bytes}
use Rattle.fo_ports.specs.State.{State, KeepsAll}
use Rattle.fo_shown.specs.Shown.{active, IsOfRecords}
use Rattle.fo_shown.specs.Alike.{Finds, LeadsAlike}
use Rattle.fo_shown.proofs.Ways.{AllPlaced, found_stands}
use Rattle.fo_shown.proofs.Alikes.{finds_of, found_of}
use Rattle.fo_tree_leaf.specs.of_tree_read.declared.tree.Tree.{Tree}
use Rattle.fo_tree_leaf.specs.of_tree_read.Tree.{Hangs}
use Rattle.fo_tree_leaf.specs.of_tree_down.Alike.{HoldsEntry, KeepsAlike}
use Rattle.fo_tree_clear.proofs.Putting.{BytesPut, reaches_on}

-- What memory's slot leads to, as `LeadsAlike` says.
abbrev Alike : (image : Image) (p q : Spot) (i : ℕ) (s : Slot) (b : ℕ) → Type 0
Alike image p q i s b = ((other : List ℕ) × (c : ℕ) × Finds image (spot_below p i s) s other c q × ((image c).bytes ≡ (image b).bytes)) ⊎ ((image b).bytes ≡ zero_bytes)

-- What one image finds, another with the same slots does.
finds_slots : {x y : Image} → ((b k : ℕ) → (x b).slot k ≡ (y b).slot k) → {p q : Spot} {s : Slot} {b : ℕ} (path : List ℕ) → Finds y p s path b q → Finds x p s path b q
finds_slots same [] finds = record { leads = finds.leads; spot = finds.spot }
finds_slots {x} {y} same {p} {q} {s} {b} (k ∷ path) finds =
    let next : (local x (target s)).slot k ≡ (local y (target s)).slot k = step (target s) in
    let rest = finds_slots {x = x} {y = y} same {p = spot_below p k ((local y (target s)).slot k)} {q = q} {s = (local y (target s)).slot k} {b = b} path (record { leads = finds.leads; spot = finds.spot }) in
    record {
      leads = ap (λ z. target (walk x z path)) next ∙ rest.leads;
      spot = ap (λ z. spot_at x (spot_below p k z) z path) next ∙ rest.spot;
    }
  where
    step : (z : Pointer) → (local x z).slot k ≡ (local y z).slot k
    step Nil = refl
    step (Held score) = refl
    step (Local a) = same a k

-- What is found from a slot stands at the place of its spot.
finds_stands : {stands : ℕ → Place → Type 0} {image : Image} → IsPlaced stands image → {p q : Spot} {s : Slot} {b : ℕ} (path : List ℕ) → ((c : ℕ) → target s ≡ Local c → stands c p.place) → Finds image p s path b q → stands b q.place
finds_stands {stands} placed {b = b} [] there finds = subst (λ (r : Spot). stands b r.place) finds.spot (there b finds.leads)
finds_stands {stands} {image} placed {p} {q} {s} {b} (k ∷ path) there finds = finds_stands placed {p = spot_below p k ((local image (target s)).slot k)} {q = q} {s = (local image (target s)).slot k} {b = b} path (next (target s) there) (record { leads = finds.leads; spot = finds.spot })
  where
    next : (z : Pointer) → ((c : ℕ) → z ≡ Local c → stands c p.place) → (c : ℕ) → target ((local image z).slot k) ≡ Local c → stands c (place_below p.place k ((local image z).slot k))
    next Nil there c e = absurd (cc)
    next (Held score) there c e = absurd (cc)
    next (Local a) there c e = placed.each a k c p.place (there a refl) e

-- The images have the same slots, and the same bytes at the spot.
alike_over : {stands : ℕ → Place → Type 0} (image other : Image) (p q : Spot) (i : ℕ) (s t : Slot) (b : ℕ) → IsPlaced stands other → ((d k : ℕ) → (image d).slot k ≡ (other d).slot k) → ((d : ℕ) → stands d q.place → (image d).bytes ≡ (other d).bytes) → stands b q.place → ((c : ℕ) → target s ≡ Local c → stands c (place_below p.place i s)) → s ≡ t → Alike other p q i s b → Alike image p q i t b
alike_over image other p q i s t b placed slots bytes stood there stays (inr zeros) = inr (bytes b stood ∙ zeros)
alike_over image other p q i s t b placed slots bytes stood there stays (inl f) =
    let back : Finds image (spot_below p i s) s f.0 f.1 q = finds_slots {x = image} {y = other} slots f.0 f.2 in
    inl (f.0, f.1, subst (λ z. Finds image (spot_below p i z) z f.0 f.1 q) stays back, bytes f.1 (finds_stands placed f.0 there f.2) ∙ f.3 ∙ sym (bytes b stood))

-- Bytes were put into a block that is no leaf of records.
alike_bytes : {stands : ℕ → Place → Type 0} {now next : Image} {a at i : ℕ} {slot : Slot} {bytes : List ℕ} {beside : Image → Type 0} {old new : Image → Type 0} → AllPlaced stands old → ((image : Image) → old image → (p : Place) → stands a p → (p.kind ≡ Data 0) × (p.rank % 32 ≡ 16) → ⊥)
    → ((image : Image) → old image → (p : Place) (c : ℕ) → stands at p → target slot ≡ Local c → stands c (place_below p i slot)) → AddsBytes now a bytes beside old new → (next at).slot i ≡ (now at).slot i → LeadsAlike old now at i slot → LeadsAlike new next at i slot
alike_bytes {stands} {now} {next} {a} {at} {i} {slot} {bytes} {beside} {old} {new} placed elsewhere tops adds stays alike = record {
  each = λ image p q path b is same found finds of. ⊎_elim
      (λ was. subst (λ s. Alike image p q i s b) (sym stays) (alike.each image p q path b was (same ∙ stays) found finds of))
      (λ h. by image p q path b h.1 same found finds of)
      (adds.each image is);
}
  where
    by : (image : Image) (p q : Spot) (path : List ℕ) (b : ℕ) → old (with_bytes image a ((now a).bytes)) → (image at).slot i ≡ (next at).slot i → FoundAt active image at p → Finds image (spot_below p i slot) slot path b q → IsOfRecords q → Alike image p q i ((next at).slot i) b
    by image p q path b was same found finds of =
        let other : Image = with_bytes image a ((now a).bytes) in
        let slots : (d k : ℕ) → (other d).slot k ≡ (image d).slot k = λ d k. bytes_slot image a ((now a).bytes) d k in
        let there : FoundAt active other at p = found_of found.path (finds_slots {x = other} {y = image} slots found.path (finds_of found)) in
        let goes : Finds other (spot_below p i slot) slot path b q = finds_slots {x = other} {y = image} slots path finds in
        let here : stands at p.place = found_stands (placed.super_at other was) (placed.each other was) there in
        let has : (other at).slot i ≡ (now at).slot i = slots at i ∙ same ∙ stays in
        let bytes_same : (d : ℕ) → stands d q.place → (image d).bytes ≡ (other d).bytes = λ d stood. ap (λ (x : Content). x.bytes) (sym (bytes_other image a ((now a).bytes) d (λ e. elsewhere other was q.place (subst (λ z. stands z q.place) e stood) of))) in
        let stood : stands b q.place = finds_stands (placed.each other was) path (λ c e. tops other was p.place c here e) goes in
        let of_now : (c : ℕ) → target ((now at).slot i) ≡ Local c → stands c (place_below p.place i ((now at).slot i)) = subst (λ s. (c : ℕ) → target s ≡ Local c → stands c (place_below p.place i s)) has (λ c e. (placed.each other was).each at i c p.place here e) in
        alike_over image other p q i ((now at).slot i) ((next at).slot i) b (placed.each other was) (λ d k. sym (slots d k)) bytes_same stood of_now (sym stays) (alike.each other p q path b was has there goes of)

module _ {a : ℕ} {bytes : List ℕ} {beside : Image → Type 0} {u v : State} (x : BytesPut a bytes beside u v) where
  holds_put : u.tells → u.tops 1 → {t : Tree} {at i : ℕ} → HoldsEntry u t at i → HoldsEntry v t at i
  holds_put told top {t} {at} {i} holds =
      let reached : Reaches v.now (to_block 1) at = reaches_on x (to_block 1) at holds.in_tree in
      let free : v.covered at → ⊥ = λ h. holds.uncovered ((x.calm.covered.covered at).0 h) in
      record {
        there = holds.there;
        stands = x.calm.frame.stays.places told at holds.there (λ z. z) (λ z. z) free (1, inl ((x.all.same_tops 1).1 top), reached) holds.stands;
        names = holds.names;
        below = holds.below;
        above = holds.above;
        in_tree = reached;
        uncovered = free;
      }

  -- a call on a source, and then bytes put into a block that is no leaf of records
  pub alike_put : {s : State} {t new : Tree} → KeepsAll s u → Hangs u new → u.tops 1 → AllPlaced u.stands u.may_leave → OnePlace u.stands → ((image : Image) → u.may_leave image → (p : Place) → u.stands a p → (p.kind ≡ Data 0) × (p.rank % 32 ≡ 16) → ⊥) → KeepsAlike s u t new → KeepsAlike s v t new
  alike_put {s} {t} {new} all hangs top placed one elsewhere first = record {
    each = λ told at i holds alike.
        let now = all.still_tells.1 told in
        let mid = first.each told at i holds alike in (
          holds_put now top mid.0,
          λ f formed to. alike_bytes {stands = u.stands} placed elsewhere
              (λ image is p c stands e.
              let same : place_below p i (Head f) ≡ place_below mid.0.there i (Head f) = ap (λ z. place_below z i (Head f)) (one.each at p mid.0.there stands mid.0.stands) in
              subst (λ z. u.stands c z) (sym (same ∙ mid.0.below f formed)) (hangs.told now c (sym to ∙ e)).0)
              x.images (x.puts.slots at i) (mid.1 f formed to),
        );
  }
