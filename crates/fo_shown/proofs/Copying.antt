-- What is shown where a block is given out, and where a slot is led to it.
use Rattle.std.proofs.Common.{◌≡◌, ◌≢◌, ◌⊎◌, ℕ, zero, suc, List, [], ◌∷◌, inl, inr, ⊎_elim, refl, sym, ◌∙◌, ap, subst, arith}
use Rattle.std.proofs.lemmas.Bool.{cases_eq}
use Rattle.fo_ports.specs.of_image.declared.types.Kind.{Kind}
use Rattle.fo_ports.specs.of_image.declared.types.Kind.TheVariants.{Data, Dir, Root}
use Rattle.fo_ports.specs.of_image.declared.types.Pointer.{Pointer}
use Rattle.fo_ports.specs.of_image.declared.types.Pointer.TheVariants.{Nil, Local, Score as Held}
use Rattle.fo_crash.specs.declared.slot.Slot.{Slot}
use Rattle.fo_crash.specs.declared.slot.Slot.TheVariants.{Pointer as To}
use Rattle.fo_crash.specs.declared.place.Place.{Place}
use Rattle.fo_crash.specs.Images.{Image, SameContent, Reaches, target, local, walk, to_block, with_slot}
use Rattle.fo_crash.specs.Steps.{AddsSlot, IsSure}
use Rattle.fo_crash.specs.Places.{super_place, IsPlaced}
use Rattle.fo_crash.specs.Spots.{Spot, FoundAt, spot_below, top_spot, spot_at}
use Rattle.fo_crash.proofs.Reach.{lost}
use Rattle.fo_crash.proofs.Sure.{same_joins, same_back}
use Rattle.fo_crash.proofs.Updates.{slot_bytes, slot_other, slot_here}
use Rattle.fo_ports.specs.Blocks.{IsInner, zero_bytes}
use Rattle.fo_shown.specs.Shown.{active, IsOfRecords, ShowsNoMore}

local_eq : {a b : ℕ} → Local a ≡ Local b → a ≡ b
local_eq e = cc

-- ---- a block that no path leads to

-- The two images differ in one block at most.
abbrev Beside : ℕ → Image → Image → Type 0
Beside at x y = (b : ℕ) → b ≢ at → SameContent (x b) (y b)

module _ {at : ℕ} {x y : Image} (same : Beside at x y) where
  one_on : (j : ℕ) (p : Pointer) → p ≢ Local at → (local x p).slot j ≡ (local y p).slot j
  one_on j Nil ne = refl
  one_on j (Local a) ne = (same a (λ e. ne (ap (λ z. Local z) e))).slots j
  one_on j (Held score) ne = refl

  walks_aside : (path : List ℕ) (s : Slot) → ((front : List ℕ) → target (walk x s front) ≢ Local at) → walk x s path ≡ walk y s path
  walks_aside [] s away = refl
  walks_aside (j ∷ path) s away =
      walks_aside path ((local x (target s)).slot j) (λ front. away (j ∷ front)) ∙ ap (λ z. walk y z path) (one_on j (target s) (away []))

  spots_aside : (path : List ℕ) (s : Slot) (p : Spot) → ((front : List ℕ) → target (walk x s front) ≢ Local at) → spot_at x p s path ≡ spot_at y p s path
  spots_aside [] s p away = refl
  spots_aside (j ∷ path) s p away =
      spots_aside path ((local x (target s)).slot j) (spot_below p j ((local x (target s)).slot j)) (λ front. away (j ∷ front))
      ∙ ap (λ z. spot_at y (spot_below p j z) z path) (one_on j (target s) (away []))

  found_aside : {p : Spot} {b : ℕ} → (Reaches x (to_block 1) at → ⊥) → FoundAt active x b p → FoundAt active y b p × ((x b).bytes ≡ (y b).bytes)
  found_aside {p = p} {b = b} apart found =
      let leads : target (walk x (to_block 1) found.path) ≡ Local b = subst (λ z. target (walk x (to_block z) found.path) ≡ Local b) found.is_top found.leads in
      let spot : spot_at x (top_spot 1) (to_block 1) found.path ≡ p = subst (λ z. spot_at x (top_spot z) (to_block z) found.path ≡ p) found.is_top found.spot in
      let away : (front : List ℕ) → target (walk x (to_block 1) front) ≢ Local at = λ front e. apart (record { path = front; leads = e }) in
      let ne : b ≢ at = λ e. away found.path (leads ∙ ap (λ z. Local z) e) in (
        record {
          top = 1;
          is_top = refl;
          path = found.path;
          leads = ap target (sym (walks_aside found.path (to_block 1) away)) ∙ leads;
          spot = sym (spots_aside found.path (to_block 1) (top_spot 1) away) ∙ spot;
        },
        (same b ne).bytes,
      )

-- Each new image is an old one, but for a block to which no path leads in it.
pub aside_shows : {at : ℕ} {old new : Image → Type 0} → ((image : Image) → new image → (other : Image) × old other × Beside at image other) → ((image : Image) → new image → Reaches image (to_block 1) at → ⊥) → ShowsNoMore old new
aside_shows before apart = record {
  each = λ p bytes of shown.
      let (other, was, same) = before shown.image shown.is in
      let there = found_aside same (apart shown.image shown.is) shown.found in
      inl (record { image = other; is = was; block = shown.block; found = there.0; same = sym there.1 ∙ shown.same });
}

-- ---- a slot of a block of pointers

inner_spot : (p : Spot) (i : ℕ) (s t : Slot) → IsInner p.place.kind → spot_below p i s ≡ spot_below p i t
inner_spot p i s t inner = by p.place.kind p.place.tag p.place.index p.place.rank p.trail inner
  where
    by : (kind : Kind) (tag index rank : ℕ) (trail : List ℕ) → IsInner kind → spot_below (record { place = record { kind = kind; tag = tag; index = index; rank = rank }; trail = trail }) i s ≡ spot_below (record { place = record { kind = kind; tag = tag; index = index; rank = rank }; trail = trail }) i t
    by (Data zero) tag index rank trail inner = absurd (omega (arith, inner))
    by (Data (suc level)) tag index rank trail inner = refl
    by (Dir zero) tag index rank trail inner = absurd (omega (arith, inner))
    by (Dir (suc level)) tag index rank trail inner = refl
    by Root tag index rank trail inner = absurd inner

-- What the block is that came: it has in the one image what in the other the block has to which the slot led there; or it leads to no
-- block, and it is no leaf of records, or one of zeros.
abbrev CameAs : (ℕ → Place → Type 0) → (at i result : ℕ) → (x y : Image) → Type 0
CameAs stands at i result x y = ((below : ℕ) × (target ((y at).slot i) ≡ Local below) × SameContent (x result) (y below))
    ⊎ (((j b : ℕ) → target ((x result).slot j) ≢ Local b) × ((p : Spot) → stands at p.place → IsOfRecords (spot_below p i ((x at).slot i)) → (x result).bytes ≡ zero_bytes))

-- The first image is the second one, but for one slot of a block of pointers, which leads to a block that came.
record IsLed (stands : ℕ → Place → Type 0) (at i result : ℕ) (x y : Image) : Type 0 where
  bytes : (b : ℕ) → (x b).bytes ≡ (y b).bytes
  slots : (b j : ℕ) → (b ≢ at) ⊎ (j ≢ i) → (x b).slot j ≡ (y b).slot j
  here : target ((x at).slot i) ≡ Local result
  inner : (p : Place) → stands at p → IsInner p.kind
  placed : IsPlaced stands y
  top : stands 1 super_place
  came : CameAs stands at i result x y

module _ {stands : ℕ → Place → Type 0} {at i result : ℕ} {x y : Image} (led : IsLed stands at i result x y) where
  -- the slots lead to one block
  record Same (s t : Slot) (q : Spot) : Type 0 where
    is : target s ≡ target t
    there : (b : ℕ) → target t ≡ Local b → stands b q.place

  -- the one leads to the block that came, the other to one with the same content
  record Swapped (s t : Slot) (q : Spot) : Type 0 where
    is : target s ≡ Local result
    below : ℕ
    other : target t ≡ Local below
    same : SameContent (x result) (y below)
    there : stands below q.place

  -- the one leads to the block that came, which leads no further
  record New (s : Slot) (p : Spot) : Type 0 where
    is : target s ≡ Local result
    none : (j b : ℕ) → target ((x result).slot j) ≢ Local b
    zeros : IsOfRecords p → (x result).bytes ≡ zero_bytes

  -- What two paths come to: slots of the two images, and their spots.
  record Alike (s t : Slot) (p q : Spot) : Type 0 where
    spot : p ≡ q
    how : Same s t q ⊎ (Swapped s t q ⊎ New s p)

  next_here : (p q : Spot) → p ≡ q → stands at q.place → Alike ((x at).slot i) ((y at).slot i) (spot_below p i ((x at).slot i)) (spot_below q i ((y at).slot i))
  next_here p q e there = record {
    spot = ap (λ r. spot_below r i ((x at).slot i)) e ∙ inner_spot q i ((x at).slot i) ((y at).slot i) (led.inner q.place there);
    how = ⊎_elim
        (λ copied. inr (inl (record { is = led.here; below = copied.0; other = copied.1; same = copied.2; there = led.placed.each at i copied.0 q.place there copied.1 })))
        (λ new. inr (inr (record { is = led.here; none = new.0; zeros = λ of. new.1 p (subst (λ (r : Spot). stands at r.place) (sym e) there) of })))
        led.came;
  }

  next_other : (a b j : ℕ) (p q : Spot) → p ≡ q → stands b q.place → (x a).slot j ≡ (y b).slot j → Alike ((x a).slot j) ((y b).slot j) (spot_below p j ((x a).slot j)) (spot_below q j ((y b).slot j))
  next_other a b j p q e there same = record {
    spot = ap (λ r. spot_below r j ((x a).slot j)) e ∙ ap (λ z. spot_below q j z) same;
    how = inl (record { is = ap target same; there = λ c f. led.placed.each b j c q.place there f });
  }

  next_same : (a j : ℕ) (p q : Spot) → p ≡ q → stands a q.place → Alike ((x a).slot j) ((y a).slot j) (spot_below p j ((x a).slot j)) (spot_below q j ((y a).slot j))
  next_same a j p q e there = ⊎_elim
      (λ here. ⊎_elim
      (λ own. subst (λ z. Alike ((x z).slot j) ((y z).slot j) (spot_below p j ((x z).slot j)) (spot_below q j ((y z).slot j))) (sym here)
      (subst (λ z. Alike ((x at).slot z) ((y at).slot z) (spot_below p z ((x at).slot z)) (spot_below q z ((y at).slot z))) (sym own)
      (next_here p q e (subst (λ z. stands z q.place) here there))))
      (λ aside. next_other a a j p q e there (led.slots a j (inr aside)))
      (cases_eq j i))
      (λ apart. next_other a a j p q e there (led.slots a j (inl apart)))
      (cases_eq a at)

  abbrev Next : ℕ → (u v : Pointer) → (p q : Spot) → Type 0
  Next j u v p q = ((b : ℕ) → target ((local x u).slot j) ≢ Local b) ⊎ Alike ((local x u).slot j) ((local y v).slot j) (spot_below p j ((local x u).slot j)) (spot_below q j ((local y v).slot j))

  from_same : (j : ℕ) (u : Pointer) (p q : Spot) → p ≡ q → ((b : ℕ) → u ≡ Local b → stands b q.place) → Next j u u p q
  from_same j Nil p q e there = inl (λ b f. cc)
  from_same j (Local a) p q e there = inr (next_same a j p q e (there a refl))
  from_same j (Held score) p q e there = inl (λ b f. cc)

  next : (j : ℕ) (s t : Slot) (p q : Spot) → Alike s t p q → Next j (target s) (target t) p q
  next j s t p q alike = ⊎_elim
      (λ same. subst (λ u. Next j u (target t) p q) (sym same.is) (from_same j (target t) p q alike.spot same.there))
      (λ h. ⊎_elim
      (λ swapped. subst (λ u. Next j u (target t) p q) (sym swapped.is) (subst (λ v. Next j (Local result) v p q) (sym swapped.other) (inr (next_other result swapped.below j p q alike.spot swapped.there (swapped.same.slots j)))))
      (λ new. subst (λ u. Next j u (target t) p q) (sym new.is) (inl (new.none j)))
      h)
      alike.how

  -- what is found in the second image along the same path
  abbrev Shows : List ℕ → Slot → (q r : Spot) → ℕ → Type 0
  Shows path t q r b = (c : ℕ) × (target (walk y t path) ≡ Local c) × (spot_at y q t path ≡ r) × ((y c).bytes ≡ (x b).bytes)

  ends : (s t : Slot) (p q : Spot) (b : ℕ) → Alike s t p q → target s ≡ Local b → IsOfRecords p → Shows [] t q p b ⊎ ((x b).bytes ≡ zero_bytes)
  ends s t p q b alike e of = ⊎_elim
      (λ same. inl (b, sym same.is ∙ e, sym alike.spot, sym (led.bytes b)))
      (λ h. ⊎_elim
      (λ swapped. inl (swapped.below, swapped.other, sym alike.spot, sym swapped.same.bytes ∙ ap (λ z. (x z).bytes) (local_eq (sym swapped.is ∙ e))))
      (λ new. inr (ap (λ z. (x z).bytes) (local_eq (sym e ∙ new.is)) ∙ new.zeros of))
      h)
      alike.how

  along : (path : List ℕ) (s t : Slot) (p q : Spot) (b : ℕ) → Alike s t p q → target (walk x s path) ≡ Local b → IsOfRecords (spot_at x p s path) → Shows path t q (spot_at x p s path) b ⊎ ((x b).bytes ≡ zero_bytes)
  along [] s t p q b alike e of = ends s t p q b alike e of
  along (j ∷ path) s t p q b alike e of = ⊎_elim
      (λ none. absurd (lost x path ((local x (target s)).slot j) none b e))
      (λ on. along path ((local x (target s)).slot j) ((local y (target t)).slot j) (spot_below p j ((local x (target s)).slot j)) (spot_below q j ((local y (target t)).slot j)) b on e of)
      (next j s t p q alike)

  first : Alike (to_block 1) (to_block 1) (top_spot 1) (top_spot 1)
  first = record { spot = refl; how = inl (record { is = refl; there = λ b e. subst (λ z. stands z super_place) (local_eq e) led.top }) }

  found_led : {p : Spot} {b : ℕ} → IsOfRecords p → FoundAt active x b p → ((c : ℕ) × FoundAt active y c p × ((y c).bytes ≡ (x b).bytes)) ⊎ ((x b).bytes ≡ zero_bytes)
  found_led {p = p} {b = b} of found =
      let leads : target (walk x (to_block 1) found.path) ≡ Local b = subst (λ z. target (walk x (to_block z) found.path) ≡ Local b) found.is_top found.leads in
      let spot : spot_at x (top_spot 1) (to_block 1) found.path ≡ p = subst (λ z. spot_at x (top_spot z) (to_block z) found.path ≡ p) found.is_top found.spot in
      ⊎_elim
      (λ h. inl (h.0, record { top = 1; is_top = refl; path = found.path; leads = h.1; spot = h.2 ∙ spot }, h.3))
      (λ zeros. inr zeros)
      (along found.path (to_block 1) (to_block 1) (top_spot 1) (top_spot 1) b first leads (subst (λ r. IsOfRecords r) (sym spot) of))

-- ---- sets of images

-- A slot of a block of pointers is led to a block that every new image has as memory has it.
pub record Leading (stands : ℕ → Place → Type 0) (now next : Image) (at i result : ℕ) (beside : Image → Type 0) (old new : Image → Type 0) : Type 0 where
  pub images : AddsSlot now at i (To (Local result)) beside old new
  pub sure : IsSure next result new
  pub inner : (image : Image) → old image → (p : Place) → stands at p → IsInner p.kind
  pub placed : (image : Image) → old image → IsPlaced stands image
  pub top : (image : Image) → old image → stands 1 super_place

module _ {stands : ℕ → Place → Type 0} {now next : Image} {at i result : ℕ} {beside : Image → Type 0} {old new : Image → Type 0} (w : Leading stands now next at i result beside old new) where
  abbrev before : Image → Image
  before image = with_slot image at i ((now at).slot i)

  led_by : (image : Image) → (image at).slot i ≡ To (Local result) → old (before image) → CameAs stands at i result image (before image) → IsLed stands at i result image (before image)
  led_by image here is came = record {
    bytes = λ b. sym (slot_bytes image at i ((now at).slot i) b);
    slots = λ b j apart. sym (slot_other image at i ((now at).slot i) b j apart);
    here = ap target here;
    inner = w.inner (before image) is;
    placed = w.placed (before image) is;
    top = w.top (before image) is;
    came = came;
  }

  shows_by : ((image : Image) → new image → (image at).slot i ≡ To (Local result) → old (before image) → CameAs stands at i result image (before image)) → ShowsNoMore old new
  shows_by came = record {
    each = λ p bytes of shown. ⊎_elim
        (λ was. inl (record { image = shown.image; is = was; block = shown.block; found = shown.found; same = shown.same }))
        (λ put. ⊎_elim
        (λ h. inl (record { image = before shown.image; is = put.1; block = h.0; found = h.1; same = h.2 ∙ shown.same }))
        (λ zeros. inr (sym shown.same ∙ zeros))
        (found_led (led_by shown.image put.0 put.1 (came shown.image shown.is put.0 put.1)) of shown.found))
        (w.images.each shown.image shown.is);
  }

  -- What came has what the block has to which the slot led, and that every old image has as memory has it.
  pub copy_shows : (below : ℕ) → target ((now at).slot i) ≡ Local below → SameContent (next result) (now below) → IsSure now below old → ShowsNoMore old new
  copy_shows below leads same known = shows_by (λ image is here was. inl (
    below,
    ap target (slot_here image at i ((now at).slot i)) ∙ leads,
    same_joins (w.sure.each image is) (same_joins same (same_back (known.each (before image) was))),
  ))

  -- What came leads to no block, and is no leaf of records, or one of zeros.
  pub new_shows : ((j b : ℕ) → target ((next result).slot j) ≢ Local b) → ((image : Image) → old image → (p : Spot) → stands at p.place → IsOfRecords (spot_below p i (To (Local result))) → (next result).bytes ≡ zero_bytes) → ShowsNoMore old new
  new_shows none zeros = shows_by (λ image is here was. inr (
    λ j b e. none j b (ap target (sym ((w.sure.each image is).slots j)) ∙ e),
    λ p there of. (w.sure.each image is).bytes ∙ zeros (before image) was p there (subst (λ s. IsOfRecords (spot_below p i s)) here of),
  ))
