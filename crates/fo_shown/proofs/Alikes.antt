-- Where another slot leads to no more of leaves of records than memory's does, it goes on so as blocks are given out and led to.
use Rattle.std.proofs.Common.{◌≡◌, ◌≢◌, ◌⊎◌, ℕ, zero, suc, ◌+◌, ◌*◌, ◌-◌, ◌%◌, ◌<◌, Bool, true, false, cond, nat_eq, List, [], ◌∷◌, inl, inr, ⊎_elim, refl, sym, ◌∙◌, ap, subst, arith}
use Rattle.std.proofs.lemmas.Bool.{cases_eq}
use Rattle.fo_ports.specs.of_image.declared.types.Entry.{Entry}
use Rattle.fo_ports.specs.of_image.declared.types.Kind.{Kind}
use Rattle.fo_ports.specs.of_image.declared.types.Kind.TheVariants.{Data, Dir, Root}
use Rattle.fo_ports.specs.of_image.declared.types.Pointer.{Pointer}
use Rattle.fo_ports.specs.of_image.declared.types.Pointer.TheVariants.{Nil, Local, Score as Held}
use Rattle.fo_crash.specs.declared.slot.Slot.{Slot}
use Rattle.fo_crash.specs.declared.slot.Slot.TheVariants.{Pointer as To, Entry as Head}
use Rattle.fo_crash.specs.declared.place.Place.{Place}
use Rattle.fo_crash.specs.Images.{Content, Image, SameContent, Reaches, target, local, walk, to_block, with_slot, with_bytes, with_block}
use Rattle.fo_crash.specs.Steps.{AddsNothing, AddsBlock, AddsBytes, AddsSlot, IsSure}
use Rattle.fo_crash.specs.Places.{super_place, place, place_below, rank_of_top, IsPlaced, OnePlace, RanksFall}
use Rattle.fo_crash.specs.Spots.{Spot, FoundAt, spot_below, top_spot, spot_at}
use Rattle.fo_crash.proofs.Reach.{lost, reaches_joins, reaches_from, reaches_same, reach_into}
use Rattle.fo_crash.proofs.Places.{never_above}
use Rattle.fo_crash.proofs.Sure.{same_content, same_joins, same_back, same_if}
use Rattle.fo_crash.proofs.Updates.{slot_bytes, slot_other, slot_here, bytes_other, block_other}
use Rattle.fo_ports.specs.Blocks.{IsInner, zero_bytes}
use Rattle.fo_shown.specs.Shown.{active, IsOfRecords}
use Rattle.fo_shown.specs.Alike.{Finds, LeadsAlike}
use Rattle.fo_shown.proofs.Ways.{AllPlaced, found_stands, same_below, local_is}

-- What memory's slot leads to, as `LeadsAlike` says.
abbrev Alike : (image : Image) (p q : Spot) (i : ℕ) (s : Slot) (b : ℕ) → Type 0
Alike image p q i s b = ((other : List ℕ) × (c : ℕ) × Finds image (spot_below p i s) s other c q × ((image c).bytes ≡ (image b).bytes)) ⊎ ((image b).bytes ≡ zero_bytes)

-- ---- one image

-- two slots that lead to one block, from one spot
finds_same : {image : Image} {p r q : Spot} {s t : Slot} {b : ℕ} (path : List ℕ) → target s ≡ target t → p ≡ r → Finds image p s path b q → Finds image r t path b q
finds_same [] e same f = record { leads = sym e ∙ f.leads; spot = sym same ∙ f.spot }
finds_same {image} {p} {r} {q} {s} {t} {b} (j ∷ path) e same f =
    let next : (local image (target s)).slot j ≡ (local image (target t)).slot j = ap (λ z. (local image z).slot j) e in
    record {
      leads = ap (λ z. target (walk image z path)) (sym next) ∙ f.leads;
      spot = ap (λ w. spot_at image (spot_below w j ((local image (target t)).slot j)) ((local image (target t)).slot j) path) (sym same) ∙ ap (λ z. spot_at image (spot_below p j z) z path) (sym next) ∙ f.spot;
    }

-- A slot that leads where memory's leads, to the same place.
pub alike_itself : {stands : ℕ → Place → Type 0} {images : Image → Type 0} {now : Image} {at i : ℕ} {slot : Slot} → AllPlaced stands images → target slot ≡ target ((now at).slot i) → ((p : Place) → stands at p → place_below p i slot ≡ place_below p i ((now at).slot i)) → LeadsAlike images now at i slot
alike_itself {now = now} {at = at} {i = i} {slot = slot} placed leads below = record {
  each = λ image p q path b is same found finds of.
      let here = found_stands (placed.super_at image is) (placed.each image is) found in
      inl (path, b, finds_same path leads (same_below p i slot ((now at).slot i) (below p.place here)) finds, refl);
}

-- the same images, and memory's slot the same
pub alike_same : {images : Image → Type 0} {now : Image} {at i : ℕ} {slot : Slot} → slot ≡ (now at).slot i → LeadsAlike images now at i slot
alike_same {now = now} {at = at} {i = i} e = record {
  each = λ image p q path b is same found finds of. inl (path, b, subst (λ s. Finds image (spot_below p i s) s path b q) e finds, refl);
}

-- No image was added.
pub alike_later : {old new : Image → Type 0} {now next : Image} {at i : ℕ} {slot : Slot} → AddsNothing old new → (next at).slot i ≡ (now at).slot i → LeadsAlike old now at i slot → LeadsAlike new next at i slot
alike_later {now = now} {next = next} {at = at} {i = i} adds stays alike = record {
  each = λ image p q path b is same found finds of.
      subst (λ s. Alike image p q i s b) (sym stays) (alike.each image p q path b (adds.each image is) (same ∙ stays) found finds of);
}

-- The slot leads to a copy of what the other one leads to.
pub alike_copied : {stands : ℕ → Place → Type 0} {images : Image → Type 0} {now : Image} {at i below result : ℕ} {slot copied : Slot} → AllPlaced stands images → target slot ≡ Local below → target copied ≡ Local result → ((p : Place) → stands at p → place_below p i copied ≡ place_below p i slot) → ((image : Image) → images image → SameContent (image result) (image below)) → LeadsAlike images now at i slot → LeadsAlike images now at i copied
alike_copied {stands} {images} {now} {at} {i} {below} {result} {slot} {copied} placed leads leads_copy places copy alike = record {
  each = λ image p q path b is same found finds of.
      let here = found_stands (placed.super_at image is) (placed.each image is) found in
      by image p q path b is same found (same_below p i copied slot (places p.place here)) finds of;
}
  where
    by : (image : Image) (p q : Spot) (path : List ℕ) (b : ℕ) → images image → (image at).slot i ≡ (now at).slot i → FoundAt active image at p → spot_below p i copied ≡ spot_below p i slot → Finds image (spot_below p i copied) copied path b q → IsOfRecords q → Alike image p q i ((now at).slot i) b
    by image p q [] b is same found spot finds of =
        let b_is : result ≡ b = local_is (sym leads_copy ∙ finds.leads) in
        let bytes : (image below).bytes ≡ (image b).bytes = sym (copy image is).bytes ∙ ap (λ z. (image z).bytes) b_is in
        ⊎_elim
        (λ f. inl (f.0, f.1, f.2, f.3 ∙ bytes))
        (λ zeros. inr (sym bytes ∙ zeros))
        (alike.each image p q [] below is same found (record { leads = leads; spot = sym spot ∙ finds.spot }) of)
    by image p q (j ∷ path) b is same found spot finds of =
        let next : (local image (target copied)).slot j ≡ (local image (target slot)).slot j = ap (λ z. (local image z).slot j) leads_copy ∙ (copy image is).slots j ∙ ap (λ z. (local image z).slot j) (sym leads) in
        alike.each image p q (j ∷ path) b is same found (record {
          leads = ap (λ z. target (walk image z path)) (sym next) ∙ finds.leads;
          spot = ap (λ w. spot_at image (spot_below w j ((local image (target slot)).slot j)) ((local image (target slot)).slot j) path) (sym spot) ∙ ap (λ z. spot_at image (spot_below (spot_below p i copied) j z) z path) (sym next) ∙ finds.spot;
        }) of

-- Two blocks that every image has as memory has them, with the same content, have it in each image.
pub sure_same : {images : Image → Type 0} {now next : Image} {below result : ℕ} → IsSure now below images → IsSure next result images → SameContent (next result) (now below) → (image : Image) → images image → SameContent (image result) (image below)
sure_same older newer same image is = same_joins (newer.each image is) (same_joins same (same_back (older.each image is)))

-- A new top leads by its slot 0 to what the source's slot led to, and by no other slot to a block.
pub alike_raised : {images : Image → Type 0} {now : Image} {at i top : ℕ} {slot raised : Slot} → target raised ≡ Local top → ((image : Image) → images image → (j b : ℕ) → target ((image top).slot j) ≡ Local b → (j ≡ 0) × (target ((image top).slot j) ≡ target slot)) → ((image : Image) (p : Spot) → images image → FoundAt active image at p → (IsOfRecords (spot_below p i raised) → ⊥) × ((s : Slot) → spot_below (spot_below p i raised) 0 s ≡ spot_below p i slot)) → LeadsAlike images now at i slot → LeadsAlike images now at i raised
alike_raised {images} {now} {at} {i} {top} {slot} {raised} leads only spots alike = record {
  each = λ image p q path b is same found finds of. by image p q path b is same found finds of;
}
  where
    by : (image : Image) (p q : Spot) (path : List ℕ) (b : ℕ) → images image → (image at).slot i ≡ (now at).slot i → FoundAt active image at p → Finds image (spot_below p i raised) raised path b q → IsOfRecords q → Alike image p q i ((now at).slot i) b
    by image p q [] b is same found finds of = absurd ((spots image p is found).0 (subst (λ r. IsOfRecords r) (sym finds.spot) of))
    by image p q (j ∷ path) b is same found finds of =
        let u : Slot = (image top).slot j in
        let next : (local image (target raised)).slot j ≡ u = ap (λ z. (local image z).slot j) leads in
        let goes : Finds image (spot_below (spot_below p i raised) j u) u path b q = record {
          leads = ap (λ z. target (walk image z path)) (sym next) ∙ finds.leads;
          spot = ap (λ z. spot_at image (spot_below (spot_below p i raised) j z) z path) (sym next) ∙ finds.spot;
        } in
        ⊎_elim
        (λ on.
        let way = only image is j on.0 on.1 in
        let spot : spot_below (spot_below p i raised) j u ≡ spot_below p i slot = ap (λ k. spot_below (spot_below p i raised) k u) way.0 ∙ (spots image p is found).1 u in
        alike.each image p q path b is same found (finds_same path way.1 spot goes) of)
        (λ none. absurd (lost image path u none b goes.leads))
        (leads_on u (target u) refl)
      where
        leads_on : (s : Slot) (z : Pointer) → target s ≡ z → ((c : ℕ) × (target s ≡ Local c)) ⊎ ((c : ℕ) → target s ≢ Local c)
        leads_on s Nil e = inr (λ c h. let x : Nil ≡ Local c = sym e ∙ h in cc)
        leads_on s (Local a) e = inl (a, e)
        leads_on s (Held score) e = inr (λ c h. let x : Held score ≡ Local c = sym e ∙ h in cc)

-- The slot leads to a block that leads to no block, and is no leaf of records, or one of zeros.
pub alike_bare : {stands : ℕ → Place → Type 0} {images : Image → Type 0} {now : Image} {at i result : ℕ} {slot : Slot} → AllPlaced stands images → target slot ≡ Local result → ((image : Image) → images image → (k b : ℕ) → target ((image result).slot k) ≢ Local b) → ((image : Image) → images image → (p : Place) → stands at p → (place_below p i slot).kind ≡ Data 0 → (place_below p i slot).rank % 32 ≡ 16 → (image result).bytes ≡ zero_bytes) → LeadsAlike images now at i slot
alike_bare {stands} {images} {now} {at} {i} {result} {slot} placed leads none zeros = record {
  each = λ image p q path b is same found finds of. by image p q path b is found finds of;
}
  where
    by : (image : Image) (p q : Spot) (path : List ℕ) (b : ℕ) → images image → FoundAt active image at p → Finds image (spot_below p i slot) slot path b q → IsOfRecords q → Alike image p q i ((now at).slot i) b
    by image p q [] b is found finds of =
        let here = found_stands (placed.super_at image is) (placed.each image is) found in
        let e : result ≡ b = local_is (sym leads ∙ finds.leads) in
        let records : IsOfRecords (spot_below p i slot) = subst (λ r. IsOfRecords r) (sym finds.spot) of in
        inr (ap (λ z. (image z).bytes) (sym e) ∙ zeros image is p.place here records.0 records.1)
    by image p q (j ∷ path) b is found finds of =
        let next : (local image (target slot)).slot j ≡ (image result).slot j = ap (λ z. (local image z).slot j) leads in
        absurd (lost image path ((local image (target slot)).slot j) (λ c h. none image is j c (ap target (sym next) ∙ h)) b finds.leads)

-- ---- entries

-- Entries of one source, whatever the top and the size, have one place below.
pub entry_below : (p : Place) (i : ℕ) (e f : Entry) → f.dir ≡ e.dir → f.depth ≡ e.depth → f.tag ≡ e.tag → place_below p i (Head f) ≡ place_below p i (Head e)
entry_below p i e f dir depth tag = by p.kind p.tag p.index p.rank
  where
    at_top : (tag index rank : ℕ) → place (cond f.dir (Dir f.depth) (Data f.depth)) f.tag 0 (rank_of_top rank i (Head f)) ≡ place (cond e.dir (Dir e.depth) (Data e.depth)) e.tag 0 (rank_of_top rank i (Head e))
    at_top t index rank =
        ap (λ d. place (cond d (Dir f.depth) (Data f.depth)) f.tag 0 (cond d (rank - 32 + f.depth) (cond (nat_eq (i % 2) 0) (rank - 8 + f.depth) (rank - 24 + f.depth)))) dir
        ∙ ap (λ n. place (cond e.dir (Dir n) (Data n)) f.tag 0 (cond e.dir (rank - 32 + n) (cond (nat_eq (i % 2) 0) (rank - 8 + n) (rank - 24 + n)))) depth
        ∙ ap (λ n. place (cond e.dir (Dir e.depth) (Data e.depth)) n 0 (rank_of_top rank i (Head e))) tag

    by : (kind : Kind) (t index rank : ℕ) → place_below (place kind t index rank) i (Head f) ≡ place_below (place kind t index rank) i (Head e)
    by (Data zero) t index rank = refl
    by (Data (suc level)) t index rank = refl
    by (Dir zero) t index rank = at_top t index rank
    by (Dir (suc level)) t index rank = refl
    by Root t index rank = at_top t index (rank - 24)

-- An entry with one level more has a block of pointers below it, whose slot 0 comes to where the other entry did.
pub entry_raised : (p : Spot) (i : ℕ) (e f : Entry) → (p.place.kind ≡ Dir 0) ⊎ (p.place.kind ≡ Root) → f.dir ≡ e.dir → f.depth ≡ suc e.depth → f.tag ≡ e.tag → (IsOfRecords (spot_below p i (Head f)) → ⊥) × ((s : Slot) → spot_below (spot_below p i (Head f)) 0 s ≡ spot_below p i (Head e))
entry_raised p i e f names dir depth tag = by p.place.kind p.place.tag p.place.index p.place.rank p.trail names
  where
    spot : (kind : Kind) (t index rank : ℕ) (trail : List ℕ) → Spot
    spot kind t index rank trail = record { place = place kind t index rank; trail = trail }

    top : Bool → (d tag rank : ℕ) → Place
    top b d tag rank = place (cond b (Dir d) (Data d)) tag 0 (cond b (rank - 32 + d) (cond (nat_eq (i % 2) 0) (rank - 8 + d) (rank - 24 + d)))

    tops : (rank : ℕ) → top f.dir f.depth f.tag rank ≡ top e.dir (suc e.depth) e.tag rank
    tops rank = ap (λ b. top b f.depth f.tag rank) dir ∙ ap (λ d. top e.dir d f.tag rank) depth ∙ ap (λ n. top e.dir (suc e.depth) n rank) tag

    inner : (b : Bool) (d tag rank : ℕ) → (top b (suc d) tag rank).kind ≡ Data 0 → ⊥
    inner true d tag rank h = let x : Dir (suc d) ≡ Data 0 = h in absurd (cc)
    inner false d tag rank h = let x : Data (suc d) ≡ Data 0 = h in absurd (cc)

    rank_down : (odd : Bool) (d rank : ℕ) → cond odd (rank - 8 + suc d) (rank - 24 + suc d) - 1 ≡ cond odd (rank - 8 + d) (rank - 24 + d)
    rank_down true d rank = omega arith
    rank_down false d rank = omega arith

    down : (b : Bool) (d tag rank : ℕ) (s : Slot) (trail : List ℕ) → spot_below (record { place = top b (suc d) tag rank; trail = trail }) 0 s ≡ record { place = top b d tag rank; trail = trail }
    down true d tag rank s trail = ap (λ r. spot (Dir d) tag 0 r trail) (omega arith)
    down false d tag rank s trail = ap (λ r. spot (Data d) tag 0 r trail) (rank_down (nat_eq (i % 2) 0) d rank)

    ends : (rank : ℕ) (trail : List ℕ) → (IsOfRecords (record { place = top f.dir f.depth f.tag rank; trail = trail }) → ⊥) × ((s : Slot) → spot_below (record { place = top f.dir f.depth f.tag rank; trail = trail }) 0 s ≡ record { place = top e.dir e.depth e.tag rank; trail = trail })
    ends rank trail = (
      λ of. inner e.dir e.depth e.tag rank (ap (λ (x : Place). x.kind) (sym (tops rank)) ∙ of.0),
      λ s. ap (λ x. spot_below (record { place = x; trail = trail }) 0 s) (tops rank) ∙ down e.dir e.depth e.tag rank s trail,
    )

    by : (kind : Kind) (t index rank : ℕ) (trail : List ℕ) → (kind ≡ Dir 0) ⊎ (kind ≡ Root) → (IsOfRecords (spot_below (spot kind t index rank trail) i (Head f)) → ⊥) × ((s : Slot) → spot_below (spot_below (spot kind t index rank trail) i (Head f)) 0 s ≡ spot_below (spot kind t index rank trail) i (Head e))
    by (Data level) t index rank trail h = absurd (⊎_elim (λ x. cc) (λ x. cc) h)
    by (Dir zero) t index rank trail h = ends rank ((204 * index + i) ∷ trail)
    by (Dir (suc level)) t index rank trail h = absurd (⊎_elim (λ x. cc) (λ x. cc) h)
    by Root t index rank trail h = ends (rank - 24) (i ∷ trail)

-- ---- a block to which no path leads

-- The two images differ in one block at most.
abbrev pub Beside : ℕ → Image → Image → Type 0
Beside a x y = (b : ℕ) → b ≢ a → SameContent (x b) (y b)

pub beside_back : {a : ℕ} {x y : Image} → Beside a x y → Beside a y x
beside_back same = λ b ne. same_back (same b ne)

pub beside_slot : (image : Image) (a j : ℕ) (s : Slot) → Beside a image (with_slot image a j s)
beside_slot image a j s = λ b ne. record { bytes = sym (slot_bytes image a j s b); slots = λ k. sym (slot_other image a j s b k (inl ne)) }

-- a found block by its path from block 1
pub finds_of : {image : Image} {b : ℕ} {p : Spot} (found : FoundAt active image b p) → Finds image (top_spot 1) (to_block 1) found.path b p
finds_of {image} {b} {p} found = record {
  leads = subst (λ t. target (walk image (to_block t) found.path) ≡ Local b) found.is_top found.leads;
  spot = subst (λ t. spot_at image (top_spot t) (to_block t) found.path ≡ p) found.is_top found.spot;
}

pub found_of : {image : Image} {b : ℕ} {p : Spot} (path : List ℕ) → Finds image (top_spot 1) (to_block 1) path b p → FoundAt active image b p
found_of path finds = record { top = 1; is_top = refl; path = path; leads = finds.leads; spot = finds.spot }

found_reaches : {image : Image} {b : ℕ} {p : Spot} → FoundAt active image b p → Reaches image (to_block 1) b
found_reaches found = record { path = found.path; leads = (finds_of found).leads }

module _ {a : ℕ} {x y : Image} (same : Beside a x y) where
  step_aside : (j : ℕ) (z : Pointer) → z ≢ Local a → (local x z).slot j ≡ (local y z).slot j
  step_aside j Nil ne = refl
  step_aside j (Local b) ne = (same b (λ e. ne (ap (λ w. Local w) e))).slots j
  step_aside j (Held score) ne = refl

  -- What a path finds that never comes to the block, it finds in the other image.
  pub finds_aside : {p q : Spot} {s : Slot} {b : ℕ} (path : List ℕ) → (Reaches x s a → ⊥) → Finds x p s path b q → Finds y p s path b q × SameContent (x b) (y b)
  finds_aside {s = s} {b = b} [] apart finds = (record { leads = finds.leads; spot = finds.spot }, same b (λ e. apart (record { path = []; leads = finds.leads ∙ ap (λ w. Local w) e })))
  finds_aside {p} {q} {s} {b} (j ∷ path) apart finds =
      let next : (local x (target s)).slot j ≡ (local y (target s)).slot j = step_aside j (target s) (λ e. apart (record { path = []; leads = e })) in
      let further : Reaches x ((local x (target s)).slot j) a → ⊥ = λ r. apart (record { path = j ∷ r.path; leads = r.leads }) in
      let rest = finds_aside {p = spot_below p j ((local x (target s)).slot j)} {q = q} {s = (local x (target s)).slot j} {b = b} path further (record { leads = finds.leads; spot = finds.spot }) in (
        record {
          leads = ap (λ z. target (walk y z path)) (sym next) ∙ rest.0.leads;
          spot = ap (λ z. spot_at y (spot_below p j z) z path) (sym next) ∙ rest.0.spot;
        },
        rest.1,
      )

  pub found_aside : {p : Spot} {b : ℕ} → (Reaches x (to_block 1) a → ⊥) → FoundAt active x b p → FoundAt active y b p × SameContent (x b) (y b)
  found_aside apart found =
      let there = finds_aside found.path apart (finds_of found) in
      (found_of found.path there.0, there.1)

  -- no path from block 1 leads there in the other image
  pub apart_too : (Reaches x (to_block 1) a → ⊥) → Reaches y (to_block 1) a → ⊥
  apart_too apart r = apart (reach_into x y (λ b. b ≡ a) 1 (λ b j ne. (same b ne).slots j) (λ b e there. apart (subst (λ z. Reaches x (to_block 1) z) e there)) a r)

-- Each new image is an old one, but for a block to which no path leads in it from block 1.
pub record Aside (a : ℕ) (old new : Image → Type 0) : Type 0 where
  pub before : (image : Image) → new image → (other : Image) × old other × Beside a image other
  pub apart : (image : Image) → new image → Reaches image (to_block 1) a → ⊥

pub given_aside : {tops : ℕ → Type 0} {a : ℕ} {c : Content} {old new : Image → Type 0} → tops 1 → AddsBlock tops a c old new → Aside a old new
given_aside {a = a} top adds = record {
  before = λ image is. let was = adds.before image is in (with_block image a was.0, was.1, λ b ne. same_if (sym (block_other image a was.0 b ne)));
  apart = λ image is. adds.apart image is 1 top;
}

pub put_aside : {now : Image} {a j : ℕ} {s : Slot} {beside : Image → Type 0} {old new : Image → Type 0} → ((image : Image) → new image → Reaches image (to_block 1) a → ⊥) → AddsSlot now a j s beside old new → Aside a old new
put_aside {now} {a} {j} apart adds = record {
  before = λ image is. ⊎_elim
      (λ was. (image, was, λ b ne. same_content (image b)))
      (λ h. (with_slot image a j ((now a).slot j), h.1, beside_slot image a j ((now a).slot j)))
      (adds.each image is);
  apart = apart;
}

pub bytes_aside : {now : Image} {a : ℕ} {bytes : List ℕ} {beside : Image → Type 0} {old new : Image → Type 0} → ((image : Image) → new image → Reaches image (to_block 1) a → ⊥) → AddsBytes now a bytes beside old new → Aside a old new
bytes_aside {now} {a} apart adds = record {
  before = λ image is. ⊎_elim
      (λ was. (image, was, λ b ne. same_content (image b)))
      (λ h. (with_bytes image a ((now a).bytes), h.1, λ b ne. same_if (sym (bytes_other image a ((now a).bytes) b ne))))
      (adds.each image is);
  apart = apart;
}

pub nothing_aside : {a : ℕ} {old new : Image → Type 0} → ((image : Image) → new image → Reaches image (to_block 1) a → ⊥) → AddsNothing old new → Aside a old new
nothing_aside apart adds = record { before = λ image is. (image, adds.each image is, λ b ne. same_content (image b)); apart = apart }

pub aside_joins : {a : ℕ} {old mid new : Image → Type 0} → Aside a old mid → Aside a mid new → Aside a old new
aside_joins first second = record {
  before = λ image is.
      let (between, is_mid, near) = second.before image is in
      let (other, was, far) = first.before between is_mid in
      (other, was, λ b ne. same_joins (near b ne) (far b ne));
  apart = second.apart;
}

-- What is back of a path from memory's slot in the image with the block.
alike_back : {a at i : ℕ} {image other : Image} {p q : Spot} {s t : Slot} {b c : ℕ} → Beside a image other → (Reaches image (to_block 1) a → ⊥) → FoundAt active other at p → (other at).slot i ≡ s → s ≡ t → (other c).bytes ≡ (image b).bytes → Alike other p q i s c → Alike image p q i t b
alike_back {a} {at} {i} {image} {other} {p} {q} {s} {t} {b} {c} same apart there has stays bytes_same h = ⊎_elim
    (λ f.
    let far : Reaches other s a → ⊥ = λ r. apart_too same apart (reaches_joins (found_reaches there) (reaches_from i (subst (λ z. Reaches other z a) (sym has) r))) in
    let back = finds_aside (beside_back same) f.0 far f.2 in
    inl (f.0, f.1, subst (λ z. Finds image (spot_below p i z) z f.0 f.1 q) stays back.0, sym back.1.bytes ∙ f.3 ∙ bytes_same))
    (λ zeros. inr (sym bytes_same ∙ zeros))
    h

-- A block changed, or was given out, to which no path leads, neither from block 1 nor from the slot.
pub alike_aside : {old new : Image → Type 0} {now next : Image} {a at i : ℕ} {slot : Slot} → Aside a old new → ((image : Image) → new image → Reaches image slot a → ⊥) → (next at).slot i ≡ (now at).slot i → LeadsAlike old now at i slot → LeadsAlike new next at i slot
alike_aside {old} {new} {now} {next} {a} {at} {i} {slot} aside below stays alike = record {
  each = λ image p q path b is same found finds of.
      let (other, was, beside) = aside.before image is in
      let apart = aside.apart image is in
      let there = found_aside beside apart found in
      let has : (other at).slot i ≡ (now at).slot i = sym (there.1.slots i) ∙ same ∙ stays in
      let far = finds_aside beside path (below image is) finds in
      alike_back beside apart there.0 has (sym stays) (sym far.1.bytes) (alike.each other p q path b was has there.0 far.0 of);
}

-- What a slot leads to stands somewhere, and so does all that is reached from it; the block stood nowhere.
reached_stands : {stands : ℕ → Place → Type 0} {a : ℕ} {x y : Image} → Beside a x y → IsPlaced stands y → ((p : Place) → stands a p → ⊥) → (path : List ℕ) (s : Slot) (b : ℕ) → ((c : ℕ) → target s ≡ Local c → (p : Place) × stands c p) → target (walk x s path) ≡ Local b → (p : Place) × stands b p
reached_stands same placed none [] s b at_place e = at_place b e
reached_stands {stands} {a} {x} {y} same placed none (j ∷ path) s b at_place e = reached_stands same placed none path ((local x (target s)).slot j) b (next (target s) at_place) e
  where
    next : (z : Pointer) → ((c : ℕ) → z ≡ Local c → (p : Place) × stands c p) → (c : ℕ) → target ((local x z).slot j) ≡ Local c → (p : Place) × stands c p
    next Nil at_place c e = absurd (cc)
    next (Held score) at_place c e = absurd (cc)
    next (Local d) at_place c e =
        let here = at_place d refl in
        let ne : d ≢ a = λ is. none here.0 (subst (λ z. stands z here.0) is here.1) in
        let leads : target ((y d).slot j) ≡ Local c = ap target (sym ((same d ne).slots j)) ∙ e in
        (place_below here.0 j ((y d).slot j), placed.each d j c here.0 here.1 leads)

-- From a slot that leads to a place of lower rank no path comes to a block.
pub below_apart : {stands : ℕ → Place → Type 0} {image : Image} {a : ℕ} {s : Slot} (p : Place) → OnePlace stands → IsPlaced stands image → RanksFall stands image → stands a p → ((c : ℕ) → target s ≡ Local c → (q : Place) × stands c q × (q.rank < p.rank)) → Reaches image s a → ⊥
below_apart {stands} {image} {a} {s} p one placed falls here lower r = by (target s) refl
  where
    by : (z : Pointer) → target s ≡ z → ⊥
    by Nil e = lost image r.path s (λ c h. let x : Nil ≡ Local c = sym e ∙ h in cc) a r.leads
    by (Held score) e = lost image r.path s (λ c h. let x : Held score ≡ Local c = sym e ∙ h in cc) a r.leads
    by (Local c) e = let top = lower c e in never_above top.0 p one placed falls top.1 here top.2 (reaches_same e r)

-- A block changed, or was given out, that stood nowhere; what the slot leads to stands somewhere.
pub alike_nowhere : {stands : ℕ → Place → Type 0} {a : ℕ} {old new : Image → Type 0} {now next : Image} {at i : ℕ} {slot : Slot} → AllPlaced stands old → ((image : Image) → old image → (p : Place) → stands a p → ⊥) → ((image : Image) → old image → (c : ℕ) → target slot ≡ Local c → (p : Place) × stands c p) → Aside a old new → (next at).slot i ≡ (now at).slot i → LeadsAlike old now at i slot → LeadsAlike new next at i slot
alike_nowhere {a = a} {slot = slot} placed none somewhere aside stays alike = alike_aside aside (λ image is r.
    let (other, was, beside) = aside.before image is in
    let here = reached_stands beside (placed.each other was) (none other was) r.path slot a (somewhere other was) r.leads in
    none other was here.0 here.1) stays alike

pub alike_given : {stands : ℕ → Place → Type 0} {tops : ℕ → Type 0} {a : ℕ} {content : Content} {old new : Image → Type 0} {now next : Image} {at i : ℕ} {slot : Slot} → tops 1 → AllPlaced stands old → ((image : Image) → old image → (p : Place) → stands a p → ⊥) → ((image : Image) → old image → (c : ℕ) → target slot ≡ Local c → (p : Place) × stands c p) → AddsBlock tops a content old new → (next at).slot i ≡ (now at).slot i → LeadsAlike old now at i slot → LeadsAlike new next at i slot
alike_given top placed none somewhere adds stays alike = alike_nowhere placed none somewhere (given_aside top adds) stays alike

-- A new top was given out, which leads to no block, and its slot 0 was led to what the source's slot leads to: it leads by no other.
pub raised_only : {now : Image} {top : ℕ} {c : Content} {tops : ℕ → Type 0} {z : Pointer} {beside : Image → Type 0} {old mid new : Image → Type 0} → ((j b : ℕ) → target (c.slot j) ≢ Local b) → AddsBlock tops top c old mid → AddsSlot now top 0 (To z) beside mid new → (image : Image) → new image → (j b : ℕ) → target ((image top).slot j) ≡ Local b → (j ≡ 0) × (target ((image top).slot j) ≡ z)
raised_only {now} {top} {c} {z = z} none gives adds image is j b e = ⊎_elim
    (λ was. absurd (none j b (ap target (sym ((gives.holds image was).slots j)) ∙ e)))
    (λ h. ⊎_elim
    (λ is_0. (is_0, ap (λ k. target ((image top).slot k)) is_0 ∙ ap target h.0))
    (λ ne.
    let other : (with_slot image top 0 ((now top).slot 0) top).slot j ≡ (image top).slot j = slot_other image top 0 ((now top).slot 0) top j (inr ne) in
    absurd (none j b (ap target (sym ((gives.holds (with_slot image top 0 ((now top).slot 0)) h.1).slots j)) ∙ ap target other ∙ e)))
    (cases_eq j 0))
    (adds.each image is)

-- ---- a slot of a block of pointers is led to a block that came

inner_spot : (p : Spot) (i : ℕ) (s t : Slot) → IsInner p.place.kind → spot_below p i s ≡ spot_below p i t
inner_spot p i s t inner = by p.place.kind p.place.tag p.place.index p.place.rank p.trail inner
  where
    by : (kind : Kind) (tag index rank : ℕ) (trail : List ℕ) → IsInner kind → spot_below (record { place = record { kind = kind; tag = tag; index = index; rank = rank }; trail = trail }) i s ≡ spot_below (record { place = record { kind = kind; tag = tag; index = index; rank = rank }; trail = trail }) i t
    by (Data zero) tag index rank trail inner = absurd (omega (arith, inner))
    by (Data (suc level)) tag index rank trail inner = refl
    by (Dir zero) tag index rank trail inner = absurd (omega (arith, inner))
    by (Dir (suc level)) tag index rank trail inner = refl
    by Root tag index rank trail inner = absurd inner

-- The block that came has what the one has to which the slot led; or it leads to no block, and it is no leaf of records, or one of zeros.
pub record IsCopy (a j result : ℕ) (x y : Image) : Type 0 where
  pub below : ℕ
  pub leads : target ((y a).slot j) ≡ Local below
  pub same : SameContent (x result) (y below)

pub record IsNew (stands : ℕ → Place → Type 0) (a j result : ℕ) (x : Image) : Type 0 where
  pub none : (k b : ℕ) → target ((x result).slot k) ≢ Local b
  pub zeros : (p : Spot) → stands a p.place → IsOfRecords (spot_below p j ((x a).slot j)) → (x result).bytes ≡ zero_bytes

-- The first image is the second one, but for one slot of a block of pointers, which leads to a block that came.
pub record IsLedTo (stands : ℕ → Place → Type 0) (a j result : ℕ) (x y : Image) : Type 0 where
  pub bytes : (b : ℕ) → (x b).bytes ≡ (y b).bytes
  pub slots : (b k : ℕ) → (b ≢ a) ⊎ (k ≢ j) → (x b).slot k ≡ (y b).slot k
  pub here : target ((x a).slot j) ≡ Local result
  pub inner : (p : Place) → stands a p → IsInner p.kind
  pub placed : IsPlaced stands y
  pub came : IsCopy a j result x y ⊎ IsNew stands a j result x

module _ {stands : ℕ → Place → Type 0} {a j result : ℕ} {x y : Image} (led : IsLedTo stands a j result x y) where
  -- the slots lead to one block
  record One (s t : Slot) (q : Spot) : Type 0 where
    is : target s ≡ target t
    there : (b : ℕ) → target t ≡ Local b → stands b q.place

  -- the one leads to the block that came, the other to one with the same content
  record Two (s t : Slot) (q : Spot) : Type 0 where
    is : target s ≡ Local result
    below : ℕ
    other : target t ≡ Local below
    same : SameContent (x result) (y below)
    there : stands below q.place

  -- the one leads to the block that came, which leads no further
  record End (s : Slot) (p : Spot) : Type 0 where
    is : target s ≡ Local result
    none : (k b : ℕ) → target ((x result).slot k) ≢ Local b
    zeros : IsOfRecords p → (x result).bytes ≡ zero_bytes

  -- What two paths come to: slots of the two images, and their spots.
  record Pair (s t : Slot) (p q : Spot) : Type 0 where
    spot : p ≡ q
    how : One s t q ⊎ (Two s t q ⊎ End s p)

  abbrev After : (b k : ℕ) (p q : Spot) → Type 0
  After b k p q = Pair ((x b).slot k) ((y b).slot k) (spot_below p k ((x b).slot k)) (spot_below q k ((y b).slot k))

  pair_here : (p q : Spot) → p ≡ q → stands a q.place → After a j p q
  pair_here p q e there = record {
    spot = ap (λ r. spot_below r j ((x a).slot j)) e ∙ inner_spot q j ((x a).slot j) ((y a).slot j) (led.inner q.place there);
    how = ⊎_elim
        (λ copy. inr (inl (record { is = led.here; below = copy.below; other = copy.leads; same = copy.same; there = led.placed.each a j copy.below q.place there copy.leads })))
        (λ new. inr (inr (record { is = led.here; none = new.none; zeros = λ of. new.zeros p (subst (λ (r : Spot). stands a r.place) (sym e) there) of })))
        led.came;
  }

  pair_other : (b c k : ℕ) (p q : Spot) → p ≡ q → stands c q.place → (x b).slot k ≡ (y c).slot k → Pair ((x b).slot k) ((y c).slot k) (spot_below p k ((x b).slot k)) (spot_below q k ((y c).slot k))
  pair_other b c k p q e there same = record {
    spot = ap (λ r. spot_below r k ((x b).slot k)) e ∙ ap (λ z. spot_below q k z) same;
    how = inl (record { is = ap target same; there = λ d f. led.placed.each c k d q.place there f });
  }

  pair_same : (b k : ℕ) (p q : Spot) → p ≡ q → stands b q.place → After b k p q
  pair_same b k p q e there = ⊎_elim
      (λ here. ⊎_elim
      (λ own. subst (λ z. After z k p q) (sym here) (subst (λ z. After a z p q) (sym own) (pair_here p q e (subst (λ z. stands z q.place) here there))))
      (λ aside. pair_other b b k p q e there (led.slots b k (inr aside)))
      (cases_eq k j))
      (λ apart. pair_other b b k p q e there (led.slots b k (inl apart)))
      (cases_eq b a)

  abbrev Next : ℕ → (u v : Pointer) → (p q : Spot) → Type 0
  Next k u v p q = ((b : ℕ) → target ((local x u).slot k) ≢ Local b) ⊎ Pair ((local x u).slot k) ((local y v).slot k) (spot_below p k ((local x u).slot k)) (spot_below q k ((local y v).slot k))

  from_one : (k : ℕ) (u : Pointer) (p q : Spot) → p ≡ q → ((b : ℕ) → u ≡ Local b → stands b q.place) → Next k u u p q
  from_one k Nil p q e there = inl (λ b f. cc)
  from_one k (Local b) p q e there = inr (pair_same b k p q e (there b refl))
  from_one k (Held score) p q e there = inl (λ b f. cc)

  next : (k : ℕ) (s t : Slot) (p q : Spot) → Pair s t p q → Next k (target s) (target t) p q
  next k s t p q pair = ⊎_elim
      (λ one. subst (λ u. Next k u (target t) p q) (sym one.is) (from_one k (target t) p q pair.spot one.there))
      (λ h. ⊎_elim
      (λ two. subst (λ u. Next k u (target t) p q) (sym two.is) (subst (λ v. Next k (Local result) v p q) (sym two.other) (inr (pair_other result two.below k p q pair.spot two.there (two.same.slots k)))))
      (λ end. subst (λ u. Next k u (target t) p q) (sym end.is) (inl (end.none k)))
      h)
      pair.how

  along : (path : List ℕ) (s t : Slot) (p q : Spot) (b : ℕ) → Pair s t p q → target (walk x s path) ≡ Local b → Pair (walk x s path) (walk y t path) (spot_at x p s path) (spot_at y q t path)
  along [] s t p q b pair e = record { spot = pair.spot; how = pair.how }
  along (k ∷ path) s t p q b pair e = ⊎_elim
      (λ none. absurd (lost x path ((local x (target s)).slot k) none b e))
      (λ on.
      let rest = along path ((local x (target s)).slot k) ((local y (target t)).slot k) (spot_below p k ((local x (target s)).slot k)) (spot_below q k ((local y (target t)).slot k)) b on e in
      record { spot = rest.spot; how = rest.how })
      (next k s t p q pair)

  -- What a path finds from a slot and a spot, it finds from there in the second image, at the same spot with the same bytes; or zeros.
  pub finds_led : {p q : Spot} {s : Slot} {b : ℕ} (path : List ℕ) → ((c : ℕ) → target s ≡ Local c → stands c p.place) → Finds x p s path b q → IsOfRecords q → ((c : ℕ) × Finds y p s path c q × ((y c).bytes ≡ (x b).bytes)) ⊎ ((x b).bytes ≡ zero_bytes)
  finds_led {p} {q} {s} {b} path there finds of =
      let end = along path s s p p b (record { spot = refl; how = inl (record { is = refl; there = there }) }) finds.leads in
      let spot : spot_at y p s path ≡ q = sym end.spot ∙ finds.spot in
      ⊎_elim
      (λ one. inl (b, record { leads = sym one.is ∙ finds.leads; spot = spot }, sym (led.bytes b)))
      (λ h. ⊎_elim
      (λ two. inl (two.below, record { leads = two.other; spot = spot }, sym two.same.bytes ∙ ap (λ z. (x z).bytes) (local_is (sym two.is ∙ finds.leads))))
      (λ new. inr (ap (λ z. (x z).bytes) (local_is (sym finds.leads ∙ new.is)) ∙ new.zeros (subst (λ r. IsOfRecords r) (sym finds.spot) of)))
      h)
      end.how

  -- A block that is found and is not the one that came, is found in the second image.
  pub found_led_too : {p : Spot} {b : ℕ} → stands 1 super_place → b ≢ result → FoundAt active x b p → FoundAt active y b p
  found_led_too {p} {b} top ne found =
      let finds = finds_of found in
      let end = along found.path (to_block 1) (to_block 1) (top_spot 1) (top_spot 1) b (record { spot = refl; how = inl (record { is = refl; there = λ c e. subst (λ z. stands z super_place) (local_is e) top }) }) finds.leads in
      let spot : spot_at y (top_spot 1) (to_block 1) found.path ≡ p = sym end.spot ∙ finds.spot in
      ⊎_elim
      (λ one. found_of found.path (record { leads = sym one.is ∙ finds.leads; spot = spot }))
      (λ h. ⊎_elim
      (λ two. absurd (ne (local_is (sym finds.leads ∙ two.is))))
      (λ new. absurd (ne (local_is (sym finds.leads ∙ new.is))))
      h)
      end.how

-- A slot of a block of pointers below the slot was led to a block that came. No path from block 1 comes to the block of pointers yet.
pub record LedAside (stands : ℕ → Place → Type 0) (now : Image) (a j result : ℕ) (beside : Image → Type 0) (old new : Image → Type 0) : Type 0 where
  pub images : AddsSlot now a j (To (Local result)) beside old new
  pub places : AllPlaced stands old
  pub inner : (image : Image) → old image → (p : Place) → stands a p → IsInner p.kind
  pub came : (image : Image) → new image → (image a).slot j ≡ To (Local result) → old (with_slot image a j ((now a).slot j)) → IsCopy a j result image (with_slot image a j ((now a).slot j)) ⊎ IsNew stands a j result image

led_by : {stands : ℕ → Place → Type 0} {now : Image} {a j result : ℕ} {beside : Image → Type 0} {old new : Image → Type 0} → LedAside stands now a j result beside old new → (image : Image) → new image → (image a).slot j ≡ To (Local result) → old (with_slot image a j ((now a).slot j)) → IsLedTo stands a j result image (with_slot image a j ((now a).slot j))
led_by {now = now} {a = a} {j = j} w image is put was = record {
  bytes = λ b. sym (slot_bytes image a j ((now a).slot j) b);
  slots = λ b k apart. sym (slot_other image a j ((now a).slot j) b k apart);
  here = ap target put;
  inner = w.inner (with_slot image a j ((now a).slot j)) was;
  placed = w.places.each (with_slot image a j ((now a).slot j)) was;
  came = w.came image is put was;
}

pub alike_led : {stands : ℕ → Place → Type 0} {now next : Image} {a j result at i : ℕ} {slot : Slot} {beside : Image → Type 0} {old new : Image → Type 0} → LedAside stands now a j result beside old new → ((image : Image) → new image → Reaches image (to_block 1) a → ⊥) → ((image : Image) → old image → (p : Place) (c : ℕ) → stands at p → target slot ≡ Local c → stands c (place_below p i slot)) → (next at).slot i ≡ (now at).slot i → LeadsAlike old now at i slot → LeadsAlike new next at i slot
alike_led {stands} {now} {next} {a} {j} {result} {at} {i} {slot} {beside} {old} {new} w apart tops stays alike = record {
  each = λ image p q path b is same found finds of. ⊎_elim
      (λ was. subst (λ s. Alike image p q i s b) (sym stays) (alike.each image p q path b was (same ∙ stays) found finds of))
      (λ h. by image p q path b is h.0 h.1 same found finds of)
      (w.images.each image is);
}
  where
    by : (image : Image) (p q : Spot) (path : List ℕ) (b : ℕ) → new image → (image a).slot j ≡ To (Local result) → old (with_slot image a j ((now a).slot j)) → (image at).slot i ≡ (next at).slot i → FoundAt active image at p → Finds image (spot_below p i slot) slot path b q → IsOfRecords q → Alike image p q i ((next at).slot i) b
    by image p q path b is put was same found finds of =
        let other : Image = with_slot image a j ((now a).slot j) in
        let alone : Beside a image other = beside_slot image a j ((now a).slot j) in
        let there = found_aside alone (apart image is) found in
        let has : (other at).slot i ≡ (now at).slot i = sym (there.1.slots i) ∙ same ∙ stays in
        let here : stands at p.place = found_stands (w.places.super_at other was) (w.places.each other was) there.0 in
        ⊎_elim
        (λ f. alike_back alone (apart image is) there.0 has (sym stays) f.2 (alike.each other p q path f.0 was has there.0 f.1 of))
        (λ zeros. inr zeros)
        (finds_led (led_by w image is put was) path (λ c e. tops other was p.place c here e) finds of)

-- What came has what the block has to which the slot led, and that every old image has as memory has it.
pub is_copy : {now next : Image} {a j below result : ℕ} {old new : Image → Type 0} → target ((now a).slot j) ≡ Local below → SameContent (next result) (now below) → IsSure now below old → IsSure next result new → (image : Image) → new image → old (with_slot image a j ((now a).slot j)) → IsCopy a j result image (with_slot image a j ((now a).slot j))
is_copy {now} {next} {a} {j} {below} leads same older newer image is was = record {
  below = below;
  leads = ap target (slot_here image a j ((now a).slot j)) ∙ leads;
  same = same_joins (newer.each image is) (same_joins same (same_back (older.each (with_slot image a j ((now a).slot j)) was)));
}

-- What came leads to no block, and is no leaf of records, or one of zeros.
pub is_new : {stands : ℕ → Place → Type 0} {next : Image} {a j result : ℕ} {new : Image → Type 0} → ((k b : ℕ) → target ((next result).slot k) ≢ Local b) → ((p : Spot) → stands a p.place → IsOfRecords (spot_below p j (To (Local result))) → (next result).bytes ≡ zero_bytes) → IsSure next result new → (image : Image) → new image → (image a).slot j ≡ To (Local result) → IsNew stands a j result image
is_new {next = next} {j = j} none zeros newer image is put = record {
  none = λ k b e. none k b (ap target (sym ((newer.each image is).slots k)) ∙ e);
  zeros = λ p there of. (newer.each image is).bytes ∙ zeros p there (subst (λ s. IsOfRecords (spot_below p j s)) put of);
}

-- ---- the block of pointers may hang from block 1

-- What one image finds, another does that has each slot by which that one leads on.
finds_kept : {x y : Image} → ((b k c : ℕ) → target ((y b).slot k) ≡ Local c → (x b).slot k ≡ (y b).slot k) → {p q : Spot} {s : Slot} {b : ℕ} (path : List ℕ) → Finds y p s path b q → Finds x p s path b q
finds_kept kept [] finds = record { leads = finds.leads; spot = finds.spot }
finds_kept {x} {y} kept {p} {q} {s} {b} (k ∷ path) finds = step (target s) refl (finds_kept kept {p = spot_below p k ((local y (target s)).slot k)} {q = q} {s = (local y (target s)).slot k} {b = b} path (record { leads = finds.leads; spot = finds.spot }))
  where
    u : Slot
    u = (local y (target s)).slot k

    Rest : Type 0
    Rest = Finds x (spot_below p k u) u path b q

    joins : (local x (target s)).slot k ≡ u → Rest → Finds x p s (k ∷ path) b q
    joins e rest = record { leads = ap (λ z. target (walk x z path)) e ∙ rest.leads; spot = ap (λ z. spot_at x (spot_below p k z) z path) e ∙ rest.spot }

    at_block : (a : ℕ) → target s ≡ Local a → (z : Pointer) → target u ≡ z → Rest → Finds x p s (k ∷ path) b q
    at_block a e Nil leads rest = absurd (lost y path u (λ c h. let w : Nil ≡ Local c = sym leads ∙ h in cc) b finds.leads)
    at_block a e (Held score) leads rest = absurd (lost y path u (λ c h. let w : Held score ≡ Local c = sym leads ∙ h in cc) b finds.leads)
    at_block a e (Local c) leads rest = joins (ap (λ z. (local x z).slot k) e ∙ kept a k c (ap (λ z. target ((local y z).slot k)) (sym e) ∙ leads) ∙ ap (λ z. (local y z).slot k) (sym e)) rest

    step : (z : Pointer) → target s ≡ z → Rest → Finds x p s (k ∷ path) b q
    step Nil e rest = joins (ap (λ z. (local x z).slot k) e ∙ ap (λ z. (local y z).slot k) (sym e)) rest
    step (Held score) e rest = joins (ap (λ z. (local x z).slot k) e ∙ ap (λ z. (local y z).slot k) (sym e)) rest
    step (Local a) e rest = at_block a e (target u) refl rest

-- The second image is led to a block with the same content by the slot, or nowhere.
abbrev pub GoesBack : (a j result : ℕ) (x y : Image) → Type 0
GoesBack a j result x y = IsCopy a j result x y ⊎ ((c : ℕ) → target ((y a).slot j) ≢ Local c)

-- What the second image finds, the first does, at the same spot with the same bytes, or it is zeros.
finds_back : {stands laid : ℕ → Place → Type 0} {a j result : ℕ} {x y : Image} → IsLedTo stands a j result x y → IsPlaced laid x → ((p : Place) → laid a p → IsInner p.kind) → GoesBack a j result x y → {p q : Spot} {s : Slot} {b : ℕ} (path : List ℕ) → ((c : ℕ) → target s ≡ Local c → laid c p.place) → Finds y p s path b q → IsOfRecords q → ((other : List ℕ) × (c : ℕ) × Finds x p s other c q × ((x c).bytes ≡ (y b).bytes)) ⊎ ((y b).bytes ≡ zero_bytes)
finds_back {stands} {laid} {a} {j} {result} {x} {y} led placed inner back {p} {q} {s} {b} path there finds of = ⊎_elim
    (λ copy.
    let turned : IsLedTo laid a j copy.below y x = record {
      bytes = λ d. sym (led.bytes d);
      slots = λ d k apart. sym (led.slots d k apart);
      here = copy.leads;
      inner = inner;
      placed = placed;
      came = inl (record { below = result; leads = led.here; same = same_back copy.same });
    } in
    ⊎_elim (λ f. inl (path, f.0, f.1, f.2)) (λ zeros. inr zeros) (finds_led turned path there finds of))
    (λ nowhere. inl (path, b, finds_kept (kept nowhere) path finds, led.bytes b))
    back
  where
    kept : ((c : ℕ) → target ((y a).slot j) ≢ Local c) → (d k c : ℕ) → target ((y d).slot k) ≡ Local c → (x d).slot k ≡ (y d).slot k
    kept nowhere d k c e = ⊎_elim
        (λ is_a. ⊎_elim
        (λ is_j. absurd (nowhere c (ap (λ z. target ((y z).slot j)) (sym is_a) ∙ ap (λ z. target ((y d).slot z)) (sym is_j) ∙ e)))
        (λ ne. led.slots d k (inr ne))
        (cases_eq k j))
        (λ ne. led.slots d k (inl ne))
        (cases_eq d a)

-- The same where the block of pointers may hang from block 1: then memory's slot led to what was copied, or nowhere.
pub alike_led_in_tree : {stands laid : ℕ → Place → Type 0} {now next : Image} {a j result at i : ℕ} {slot : Slot} {beside : Image → Type 0} {old new : Image → Type 0} → LedAside stands now a j result beside old new
    → AllPlaced laid new → ((image : Image) → new image → (p : Place) → laid a p → IsInner p.kind)
    → ((image : Image) → new image → (image a).slot j ≡ To (Local result) → old (with_slot image a j ((now a).slot j)) → GoesBack a j result image (with_slot image a j ((now a).slot j)))
    → at ≢ result → (at ≢ a) ⊎ (i ≢ j)
    → ((image : Image) → old image → (p : Place) (c : ℕ) → stands at p → target slot ≡ Local c → stands c (place_below p i slot)) → (next at).slot i ≡ (now at).slot i → LeadsAlike old now at i slot → LeadsAlike new next at i slot
alike_led_in_tree {stands} {laid} {now} {next} {a} {j} {result} {at} {i} {slot} {beside} {old} {new} w places inner back not_result other_slot tops stays alike = record {
  each = λ image p q path b is same found finds of. ⊎_elim
      (λ was. subst (λ s. Alike image p q i s b) (sym stays) (alike.each image p q path b was (same ∙ stays) found finds of))
      (λ h. by image p q path b is h.0 h.1 same found finds of)
      (w.images.each image is);
}
  where
    by : (image : Image) (p q : Spot) (path : List ℕ) (b : ℕ) → new image → (image a).slot j ≡ To (Local result) → old (with_slot image a j ((now a).slot j)) → (image at).slot i ≡ (next at).slot i → FoundAt active image at p → Finds image (spot_below p i slot) slot path b q → IsOfRecords q → Alike image p q i ((next at).slot i) b
    by image p q path b is put was same found finds of =
        let other : Image = with_slot image a j ((now a).slot j) in
        let led : IsLedTo stands a j result image other = led_by w image is put was in
        let there = found_led_too led (w.places.super_at other was) not_result found in
        let has : (other at).slot i ≡ (now at).slot i = sym (led.slots at i other_slot) ∙ same ∙ stays in
        let here : stands at p.place = found_stands (w.places.super_at other was) (w.places.each other was) there in
        let lies : laid at p.place = found_stands (places.super_at image is) (places.each image is) found in
        ⊎_elim
        (λ f. ⊎_elim
        (λ g.
        let of_now : (c : ℕ) → target ((now at).slot i) ≡ Local c → laid c (place_below p.place i ((now at).slot i)) = subst (λ s. (c : ℕ) → target s ≡ Local c → laid c (place_below p.place i s)) (same ∙ stays) (λ c e. (places.each image is).each at i c p.place lies e) in
        ⊎_elim
        (λ h. inl (h.0, h.1, subst (λ s. Finds image (spot_below p i s) s h.0 h.1 q) (sym stays) h.2, h.3 ∙ g.3 ∙ f.2))
        (λ zeros. inr (sym f.2 ∙ sym g.3 ∙ zeros))
        (finds_back led (places.each image is) (inner image is) (back image is put was) g.0 of_now g.2 of))
        (λ zeros. inr (sym f.2 ∙ zeros))
        (alike.each other p q path f.0 was has there f.1 of))
        (λ zeros. inr zeros)
        (finds_led led path (λ c e. tops other was p.place c here e) finds of)
