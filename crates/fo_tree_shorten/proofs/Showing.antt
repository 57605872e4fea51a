-- What images show once the entry of a source was put that is none of records.
use Rattle.std.proofs.Common.{◌≡◌, ◌≢◌, ◌⊎◌, ◌+◌, ◌-◌, ◌*◌, ◌%◌, ◌<◌, ℕ, zero, suc, false, List, [], ◌∷◌, inl, inr, ⊎_elim, refl, sym, ◌∙◌, ap, subst, arith}
use Rattle.std.proofs.lemmas.Bool.{cases_eq}
use Rattle.fo_image.specs.declared.types.Kind.{Kind}
use Rattle.fo_image.specs.declared.types.Kind.TheVariants.{Data}
use Rattle.fo_image.specs.declared.types.Score.{Score}
use Rattle.fo_image.specs.declared.types.Pointer.{Pointer}
use Rattle.fo_image.specs.declared.types.Pointer.TheVariants.{Nil, Local, Score as Held}
use Rattle.fo_crash.specs.declared.slot.Slot.{Slot}
use Rattle.fo_crash.specs.declared.place.Place.{Place}
use Rattle.fo_crash.specs.Images.{Image, target, local, walk, to_block, with_slot}
use Rattle.fo_crash.specs.Steps.{AddsSlot}
use Rattle.fo_crash.specs.Places.{place, super_place, place_below, IsPlaced, OnePlace}
use Rattle.fo_crash.specs.Spots.{Spot, FoundAt, FewSlots, spot_below, top_spot, spot_at, slots_of}
use Rattle.fo_crash.proofs.Reach.{lost}
use Rattle.fo_crash.proofs.Updates.{slot_bytes, slot_other}
use Rattle.fo_ports.specs.State.{State}
use Rattle.fo_tree_read.specs.declared.tree.Tree.{Tree}
use Rattle.fo_tree_read.specs.Tree.{Hangs, kind_at}
use Rattle.fo_tree_trim.specs.of_tree_own.Shown.{active, IsOfRecords, ShowsNoMore}

pub local_eq : {a b : ℕ} → Local a ≡ Local b → a ≡ b
local_eq e = cc

pub one_lower : (kind : Kind) (tag index r level j : ℕ) (s : Slot) → kind ≡ Data (suc level) → place_below (place kind tag index r) j s ≡ place (Data level) tag (409 * index + j) (r - 1)
one_lower kind tag index r level j s e = subst (λ k. place_below (place k tag index r) j s ≡ place (Data level) tag (409 * index + j) (r - 1)) (sym e) refl

pub data_level : (a b : ℕ) → Data a ≡ Data b → a ≡ b
data_level a b e = cc

pub nil_local : (b : ℕ) → Nil ≢ Local b
nil_local b e = cc

pub held_local : (score : Score) (b : ℕ) → Held score ≢ Local b
held_local score b e = cc

-- The top of a source of data stands at its place.
pub top_stands : {s : State} {rank : ℕ} (t : Tree) → t.dir ≡ false → t.rank ≡ rank → Hangs s t → s.tells → (b : ℕ) → t.top ≡ Local b → s.stands b (place (Data t.depth) t.tag 0 (rank + t.depth))
top_stands {s} {rank} t dir ranks hangs told b e = subst (λ r. s.stands b (place (Data t.depth) t.tag 0 (r + t.depth))) ranks (subst (λ d. s.stands b (place (kind_at d t.depth) t.tag 0 (t.rank + t.depth))) dir (hangs.told told b e).0)

-- The first image is the second one, but for a slot that leads to the top of a source of data whose leaves have this rank.
record IsPut (stands : ℕ → Place → Type 0) (at i rank : ℕ) (x y : Image) : Type 0 where
  bytes : (b : ℕ) → (x b).bytes ≡ (y b).bytes
  slots : (b j : ℕ) → (b ≢ at) ⊎ (j ≢ i) → (x b).slot j ≡ (y b).slot j
  top : (b : ℕ) → target ((x at).slot i) ≡ Local b → (tag depth index : ℕ) × stands b (place (Data depth) tag index (rank + depth))
  plain : rank % 32 ≢ 16
  placed : IsPlaced stands x
  few : FewSlots stands x
  one : OnePlace stands
  super_at : stands 1 super_place

module _ {stands : ℕ → Place → Type 0} {at i rank : ℕ} {x y : Image} (put : IsPut stands at i rank x y) where
  -- the slots lead to one block, at one spot
  record Same (s t : Slot) (p q : Spot) : Type 0 where
    is : target s ≡ target t
    spot : p ≡ q
    there : (b : ℕ) → target s ≡ Local b → stands b p.place

  -- the one leads to a block of a source of data
  record InData (s : Slot) (p : Spot) : Type 0 where
    level : ℕ
    kind : p.place.kind ≡ Data level
    high : p.place.rank ≡ rank + level
    there : (b : ℕ) → target s ≡ Local b → stands b p.place

  -- what two paths come to
  abbrev On : (s t : Slot) → (p q : Spot) → Type 0
  On s t p q = Same s t p q ⊎ InData s p

  abbrev Next : (j : ℕ) (u v : Pointer) → (p q : Spot) → Type 0
  Next j u v p q = ((b : ℕ) → target ((local x u).slot j) ≢ Local b) ⊎ On ((local x u).slot j) ((local y v).slot j) (spot_below p j ((local x u).slot j)) (spot_below q j ((local y v).slot j))

  below_there : (a j : ℕ) (p : Spot) → stands a p.place → (b : ℕ) → target ((x a).slot j) ≡ Local b → stands b (place_below p.place j ((x a).slot j))
  below_there a j p here b e = put.placed.each a j b p.place here e

  -- by the slot that was put
  by_slot : (p : Spot) → stands at p.place → (b : ℕ) → target ((x at).slot i) ≡ Local b → InData ((x at).slot i) (spot_below p i ((x at).slot i))
  by_slot p here b e =
      let top = put.top b e in
      let same = put.one.each b (place_below p.place i ((x at).slot i)) (place (Data top.1) top.0 top.2 (rank + top.1)) (below_there at i p here b e) top.3 in
      record {
        level = top.1;
        kind = ap (λ (q : Place). q.kind) same;
        high = ap (λ (q : Place). q.rank) same;
        there = λ c f. below_there at i p here c f;
      }

  at_slot : (p q : Spot) → stands at p.place → Next i (Local at) (Local at) p q
  at_slot p q here = by (target ((x at).slot i)) refl
    where
      by : (r : Pointer) → target ((x at).slot i) ≡ r → Next i (Local at) (Local at) p q
      by Nil e = inl (λ b f. nil_local b (sym e ∙ f))
      by (Held score) e = inl (λ b f. held_local score b (sym e ∙ f))
      by (Local b) e = inr (inr (by_slot p here b e))

  other_slot : (a j : ℕ) (p q : Spot) → p ≡ q → stands a p.place → (x a).slot j ≡ (y a).slot j → Next j (Local a) (Local a) p q
  other_slot a j p q e here same = inr (inl (record {
    is = ap target same;
    spot = ap (λ r. spot_below r j ((x a).slot j)) e ∙ ap (λ z. spot_below q j z) same;
    there = λ b f. below_there a j p here b f;
  }))

  from_block : (a j : ℕ) (p q : Spot) → p ≡ q → stands a p.place → Next j (Local a) (Local a) p q
  from_block a j p q e here = ⊎_elim
      (λ is_at. ⊎_elim
      (λ is_i. subst (λ z. Next z (Local a) (Local a) p q) (sym is_i) (subst (λ z. Next i (Local z) (Local z) p q) (sym is_at) (at_slot p q (subst (λ z. stands z p.place) is_at here))))
      (λ aside. other_slot a j p q e here (put.slots a j (inr aside)))
      (cases_eq j i))
      (λ apart. other_slot a j p q e here (put.slots a j (inl apart)))
      (cases_eq a at)

  from_same : (j : ℕ) (u : Pointer) (p q : Spot) → p ≡ q → ((b : ℕ) → u ≡ Local b → stands b p.place) → Next j u u p q
  from_same j Nil p q e there = inl (λ b f. nil_local b f)
  from_same j (Local a) p q e there = from_block a j p q e (there a refl)
  from_same j (Held score) p q e there = inl (λ b f. nil_local b f)

  data_block : (a j level : ℕ) (p : Spot) → p.place.kind ≡ Data level → p.place.rank ≡ rank + level → stands a p.place → ((b : ℕ) → target ((x a).slot j) ≢ Local b) ⊎ InData ((x a).slot j) (spot_below p j ((x a).slot j))
  data_block a j zero p kind high here = inl (λ b f. let lt : j < 0 = subst (λ k. j < slots_of k) kind (put.few.each a j b p.place here f) in omega (arith, lt))
  data_block a j (suc level) p kind high here =
      let is : place_below p.place j ((x a).slot j) ≡ place (Data level) p.place.tag (409 * p.place.index + j) (p.place.rank - 1) = one_lower p.place.kind p.place.tag p.place.index p.place.rank level j ((x a).slot j) kind in
      let low : (place_below p.place j ((x a).slot j)).rank ≡ p.place.rank - 1 = ap (λ (q : Place). q.rank) is in
      inr (record {
        level = level;
        kind = ap (λ (q : Place). q.kind) is;
        high = low ∙ (let e : p.place.rank - 1 ≡ rank + level = omega (arith, high) in e);
        there = λ b f. below_there a j p here b f;
      })

  from_data : (j : ℕ) (u v : Pointer) (level : ℕ) (p q : Spot) → p.place.kind ≡ Data level → p.place.rank ≡ rank + level → ((b : ℕ) → u ≡ Local b → stands b p.place) → Next j u v p q
  from_data j Nil v level p q kind high there = inl (λ b f. nil_local b f)
  from_data j (Local a) v level p q kind high there = ⊎_elim (λ none. inl none) (λ on. inr (inr on)) (data_block a j level p kind high (there a refl))
  from_data j (Held score) v level p q kind high there = inl (λ b f. nil_local b f)

  next : (j : ℕ) (s t : Slot) (p q : Spot) → On s t p q → Next j (target s) (target t) p q
  next j s t p q on = ⊎_elim
      (λ same. subst (λ v. Next j (target s) v p q) same.is (from_same j (target s) p q same.spot same.there))
      (λ inside. from_data j (target s) (target t) inside.level p q inside.kind inside.high inside.there)
      on

  -- what is found in the second image along the same path
  abbrev Shows : List ℕ → Slot → (q r : Spot) → ℕ → Type 0
  Shows path t q r b = (c : ℕ) × (target (walk y t path) ≡ Local c) × (spot_at y q t path ≡ r) × ((y c).bytes ≡ (x b).bytes)

  no_records : (s : Slot) (p : Spot) → InData s p → IsOfRecords p → ⊥
  no_records s p inside of =
      let low : inside.level ≡ 0 = data_level inside.level 0 (sym inside.kind ∙ of.0) in
      let high = inside.high in
      put.plain (sym (ap (λ r. r % 32) (let e : p.place.rank ≡ rank = omega (arith, high, low) in e)) ∙ of.1)

  along : (path : List ℕ) (s t : Slot) (p q : Spot) (b : ℕ) → On s t p q → target (walk x s path) ≡ Local b → IsOfRecords (spot_at x p s path) → Shows path t q (spot_at x p s path) b
  along [] s t p q b on e of = ⊎_elim
      (λ same. (b, sym same.is ∙ e, sym same.spot, sym (put.bytes b)))
      (λ inside. absurd (no_records s p inside of))
      on
  along (j ∷ path) s t p q b on e of = ⊎_elim
      (λ none. absurd (lost x path ((local x (target s)).slot j) none b e))
      (λ more. along path ((local x (target s)).slot j) ((local y (target t)).slot j) (spot_below p j ((local x (target s)).slot j)) (spot_below q j ((local y (target t)).slot j)) b more e of)
      (next j s t p q on)

  first : On (to_block 1) (to_block 1) (top_spot 1) (top_spot 1)
  first = inl (record { is = refl; spot = refl; there = λ b e. subst (λ z. stands z super_place) (local_eq e) put.super_at })

  found_put : {p : Spot} {b : ℕ} → IsOfRecords p → FoundAt active x b p → (c : ℕ) × FoundAt active y c p × ((y c).bytes ≡ (x b).bytes)
  found_put {p} {b} of found =
      let leads : target (walk x (to_block 1) found.path) ≡ Local b = subst (λ z. target (walk x (to_block z) found.path) ≡ Local b) found.is_top found.leads in
      let spot : spot_at x (top_spot 1) (to_block 1) found.path ≡ p = subst (λ z. spot_at x (top_spot z) (to_block z) found.path ≡ p) found.is_top found.spot in
      let h = along found.path (to_block 1) (to_block 1) (top_spot 1) (top_spot 1) b first leads (subst (λ r. IsOfRecords r) (sym spot) of) in
      (h.0, record { top = 1; is_top = refl; path = found.path; leads = h.1; spot = h.2 ∙ spot }, h.3)

-- A slot was put that leads to the top of a source of data whose leaves have this rank, if to a block.
pub record PutsData (stands : ℕ → Place → Type 0) (now : Image) (at i rank : ℕ) (s : Slot) (beside old new : Image → Type 0) : Type 0 where
  pub images : AddsSlot now at i s beside old new
  pub top : (image : Image) → new image → (b : ℕ) → target s ≡ Local b → (tag depth index : ℕ) × stands b (place (Data depth) tag index (rank + depth))
  pub plain : rank % 32 ≢ 16
  pub placed : (image : Image) → new image → IsPlaced stands image
  pub few : (image : Image) → new image → FewSlots stands image
  pub one : OnePlace stands
  pub super_at : (image : Image) → new image → stands 1 super_place

-- Where that is no source of records, nothing more is shown.
pub data_shows : {stands : ℕ → Place → Type 0} {now : Image} {at i rank : ℕ} {s : Slot} {beside old new : Image → Type 0} → PutsData stands now at i rank s beside old new → ShowsNoMore old new
data_shows {stands} {now} {at} {i} {rank} {s} {beside} {old} {new} w = record {
  each = λ p bytes of shown. inl (⊎_elim
      (λ was. record { image = shown.image; is = was; block = shown.block; found = shown.found; same = shown.same })
      (λ h.
      let image = shown.image in
      let put : IsPut stands at i rank image (with_slot image at i ((now at).slot i)) = record {
        bytes = λ b. sym (slot_bytes image at i ((now at).slot i) b);
        slots = λ b j apart. sym (slot_other image at i ((now at).slot i) b j apart);
        top = λ b e. w.top image shown.is b (ap target (sym h.0) ∙ e);
        plain = w.plain;
        placed = w.placed image shown.is;
        few = w.few image shown.is;
        one = w.one;
        super_at = w.super_at image shown.is;
      } in
      let there = found_put put of shown.found in
      record { image = with_slot image at i ((now at).slot i); is = h.1; block = there.0; found = there.1; same = there.2 ∙ shown.same })
      (w.images.each shown.image shown.is));
}
