-- What images show once a source was linked with a new top.
use Rattle.std.proofs.Common.{◌≡◌, ◌≢◌, ◌⊎◌, ◌+◌, ◌-◌, ◌*◌, ◌/◌, ◌%◌, ◌^◌, ◌<◌, ◌≤◌, ℕ, zero, suc, List, [], ◌∷◌, inl, inr, ⊎_elim, refl, sym, ◌∙◌, ap, subst, arith}
use Rattle.std.proofs.lemmas.Bool.{cases_eq}
use Rattle.std.proofs.Math.Nat.{pow-succ'}
use Rattle.fo_image.specs.declared.types.Kind.{Kind}
use Rattle.fo_image.specs.declared.types.Kind.TheVariants.{Data, Dir, Root}
use Rattle.fo_image.specs.declared.types.Pointer.{Pointer}
use Rattle.fo_image.specs.declared.types.Pointer.TheVariants.{Nil, Local, Score as Held}
use Rattle.fo_image.specs.Format.{kind_code}
use Rattle.fo_crash.specs.declared.slot.Slot.{Slot}
use Rattle.fo_crash.specs.declared.slot.Slot.TheVariants.{Entry as Head}
use Rattle.fo_crash.specs.declared.place.Place.{Place}
use Rattle.fo_crash.specs.Images.{Image, target, local, walk, to_block, with_slot}
use Rattle.fo_crash.specs.Steps.{AddsSlot}
use Rattle.fo_crash.specs.Places.{place, super_place, place_below, IsPlaced}
use Rattle.fo_crash.specs.Spots.{Spot, FoundAt, FewSlots, spot_below, top_spot, spot_at, slots_of}
use Rattle.fo_crash.proofs.Reach.{lost}
use Rattle.fo_ports.specs.State.{State}
use Rattle.fo_tree_read.specs.declared.tree.Tree.{Tree}
use Rattle.fo_tree_read.specs.Tree.{kind_down, below, block_at}
use Rattle.fo_tree_read.proofs.Walk.{held_apart}
use Rattle.fo_tree_link.specs.of_tree_down.Way.{IsWayIndex, StaysBeside, with_top}
use Rattle.fo_tree_link.specs.Link.{entry_of}
use Rattle.fo_tree_link.proofs.of_tree_down.Beside.{index_cases, index_top, index_within}
use Rattle.fo_tree_trim.proofs.Past.{index_few}
use Rattle.fo_tree_trim.specs.of_tree_own.Shown.{active, IsOfRecords, ShowsNoMore}
use Rattle.fo_tree_shorten.proofs.Showing.{local_eq, nil_local, held_local, data_level, one_lower}

-- one spot below, whichever slot leads there
spot_lower : (kind : Kind) (tag index r level j : ℕ) (trail : List ℕ) (s t : Slot) → kind ≡ Data level → spot_below (record { place = place kind tag index r; trail = trail }) j s ≡ spot_below (record { place = place kind tag index r; trail = trail }) j t
spot_lower kind tag index r level j trail s t e = subst (λ k. spot_below (record { place = place k tag index r; trail = trail }) j s ≡ spot_below (record { place = place k tag index r; trail = trail }) j t) (sym e) (by level)
  where
    by : (n : ℕ) → spot_below (record { place = place (Data n) tag index r; trail = trail }) j s ≡ spot_below (record { place = place (Data n) tag index r; trail = trail }) j t
    by zero = refl
    by (suc n) = refl

-- An entry with another top leads to the same spot.
pub entry_spot : (p : Spot) (i top generation other : ℕ) (t : Tree) → spot_below p i (Head (entry_of (with_top t top) generation)) ≡ spot_below p i (Head (entry_of t other))
entry_spot p i top generation other t = by p.place.kind p.place.tag p.place.index p.place.rank p.trail
  where
    by : (kind : Kind) (tag index r : ℕ) (trail : List ℕ) → spot_below (record { place = place kind tag index r; trail = trail }) i (Head (entry_of (with_top t top) generation)) ≡ spot_below (record { place = place kind tag index r; trail = trail }) i (Head (entry_of t other))
    by (Data zero) tag index r trail = refl
    by (Data (suc level)) tag index r trail = refl
    by (Dir zero) tag index r trail = refl
    by (Dir (suc level)) tag index r trail = refl
    by Root tag index r trail = refl

-- The blocks on the way to block k of those n steps below the top came, and have the slots that memory has in the first image; those that
-- were there have theirs in the second one. No leaf is on that way.
pub record IsCopied (s m : State) (t : Tree) (top n k : ℕ) (x y : Image) : Type 0 where
  pub few : k < 409 ^ n
  pub high : n < t.depth
  pub beside : StaysBeside s m t (with_top t top) n k
  pub new : (j a w : ℕ) → IsWayIndex n k j a → block_at m (with_top t top) j a ≡ Local w → (i : ℕ) → (x w).slot i ≡ (m.now w).slot i
  pub old : (j a w : ℕ) → j ≤ t.depth → block_at s t j a ≡ Local w → (i : ℕ) → (y w).slot i ≡ (s.now w).slot i

-- The first image is the second one, but for the slot with the source's entry: its top is the same block, or one that came.
pub record IsRelinked (stands : ℕ → Place → Type 0) (s m : State) (t : Tree) (top n k at i : ℕ) (x y : Image) : Type 0 where
  pub bytes : (b : ℕ) → (x b).bytes ≡ (y b).bytes
  pub slots : (b j : ℕ) → (b ≢ at) ⊎ (j ≢ i) → (x b).slot j ≡ (y b).slot j
  pub here : target ((x at).slot i) ≡ Local top
  pub there : target ((y at).slot i) ≡ t.top
  pub spot : (p : Spot) → stands at p.place → spot_below p i ((x at).slot i) ≡ spot_below p i ((y at).slot i)
  pub kind : (p : Spot) → stands at p.place → (place_below p.place i ((x at).slot i)).kind ≡ Data t.depth
  pub how : (t.top ≡ Local top) ⊎ IsCopied s m t top n k x y
  pub placed : IsPlaced stands x
  pub few : FewSlots stands x
  pub super_at : stands 1 super_place

module _ {stands : ℕ → Place → Type 0} {s m : State} {t : Tree} {top n k at i : ℕ} {x y : Image} (put : IsRelinked stands s m t top n k at i x y) where
  -- the slots lead to one block, at one spot
  record Same (u v : Slot) (p q : Spot) : Type 0 where
    is : target u ≡ target v
    spot : p ≡ q
    there : (b : ℕ) → target u ≡ Local b → stands b p.place

  -- the one leads to a block of the way that came, the other to the one that was there, if to any
  record OnWay (u v : Slot) (p q : Spot) : Type 0 where
    copied : IsCopied s m t top n k x y
    down : ℕ
    index : ℕ
    is_way : IsWayIndex n k down index
    is : target u ≡ block_at m (with_top t top) down index
    other : (b : ℕ) → block_at s t down index ≡ Local b → target v ≡ Local b
    spot : p ≡ q
    kind : p.place.kind ≡ Data (t.depth - down)
    there : (b : ℕ) → target u ≡ Local b → stands b p.place

  -- what two paths come to
  abbrev On : (u v : Slot) → (p q : Spot) → Type 0
  On u v p q = Same u v p q ⊎ OnWay u v p q

  abbrev Next : (j : ℕ) (u v : Pointer) → (p q : Spot) → Type 0
  Next j u v p q = ((b : ℕ) → target ((local x u).slot j) ≢ Local b) ⊎ On ((local x u).slot j) ((local y v).slot j) (spot_below p j ((local x u).slot j)) (spot_below q j ((local y v).slot j))

  below_there : (a j : ℕ) (p : Spot) → stands a p.place → (b : ℕ) → target ((x a).slot j) ≡ Local b → stands b (place_below p.place j ((x a).slot j))
  below_there a j p here b e = put.placed.each a j b p.place here e

  -- ---- by the slot that was put

  way_first : (p : Spot) → stands at p.place → IsCopied s m t top n k x y → OnWay ((x at).slot i) ((y at).slot i) (spot_below p i ((x at).slot i)) (spot_below p i ((y at).slot i))
  way_first p here copied = record {
    copied = copied;
    down = 0;
    index = 0;
    is_way = index_top n k copied.few;
    is = put.here;
    other = λ b e. put.there ∙ e;
    spot = put.spot p here;
    kind = put.kind p here ∙ ap (λ d. Data d) (let e : t.depth ≡ t.depth - 0 = omega arith in e);
    there = λ b f. below_there at i p here b f;
  }

  at_slot : (p q : Spot) → p ≡ q → stands at p.place → Next i (Local at) (Local at) p q
  at_slot p q e here = inr (subst (λ r. On ((x at).slot i) ((y at).slot i) (spot_below p i ((x at).slot i)) (spot_below r i ((y at).slot i))) e (⊎_elim
      (λ same. inl (record { is = put.here ∙ sym (put.there ∙ same); spot = put.spot p here; there = λ b f. below_there at i p here b f }))
      (λ copied. inr (way_first p here copied))
      put.how))

  other_slot : (a j : ℕ) (p q : Spot) → p ≡ q → stands a p.place → (x a).slot j ≡ (y a).slot j → Next j (Local a) (Local a) p q
  other_slot a j p q e here same = inr (inl (record {
    is = ap target same;
    spot = ap (λ r. spot_below r j ((x a).slot j)) e ∙ ap (λ z. spot_below q j z) same;
    there = λ b f. below_there a j p here b f;
  }))

  from_block : (a j : ℕ) (p q : Spot) → p ≡ q → stands a p.place → Next j (Local a) (Local a) p q
  from_block a j p q e here = ⊎_elim
      (λ is_at. ⊎_elim
      (λ is_i. subst (λ z. Next z (Local a) (Local a) p q) (sym is_i) (subst (λ z. Next i (Local z) (Local z) p q) (sym is_at) (at_slot p q e (subst (λ z. stands z p.place) is_at here))))
      (λ aside. other_slot a j p q e here (put.slots a j (inr aside)))
      (cases_eq j i))
      (λ apart. other_slot a j p q e here (put.slots a j (inl apart)))
      (cases_eq a at)

  from_same : (j : ℕ) (u : Pointer) (p q : Spot) → p ≡ q → ((b : ℕ) → u ≡ Local b → stands b p.place) → Next j u u p q
  from_same j Nil p q e there = inl (λ b f. nil_local b f)
  from_same j (Local a) p q e there = from_block a j p q e (there a refl)
  from_same j (Held score) p q e there = inl (λ b f. nil_local b f)

  -- ---- one step down the way

  module _ {u v : Slot} {p q : Spot} (w : OnWay u v p q) where
    within : w.down ≤ n
    within = index_within n k w.down w.index w.is_way

    deeper : t.depth - w.down ≡ suc (t.depth - suc w.down)
    deeper = let le = within in let high = w.copied.high in omega (arith, le, high)

    module _ (a j b : ℕ) (to : target u ≡ Local a) (e : target ((x a).slot j) ≡ Local b) where
      slot_few : j < 409
      slot_few = subst (λ z. j < slots_of z) (w.kind ∙ ap (λ d. Data d) deeper) (put.few.each a j b p.place (w.there a to) e)

      above_is : (409 * w.index + j) / 409 ≡ w.index
      above_is = let few = slot_few in omega (arith, few)

      rest_is : (409 * w.index + j) % 409 ≡ j
      rest_is = let few = slot_few in omega (arith, few)

      -- block j below in a tree is a block of the tree
      one_below : (z : State) (r : Tree) → block_at z r (suc w.down) (409 * w.index + j) ≡ below z (kind_down r w.down) (block_at z r w.down w.index) j
      one_below z r = ap (λ c. below z (kind_down r w.down) (block_at z r w.down c) ((409 * w.index + j) % 409)) above_is ∙ ap (λ c. below z (kind_down r w.down) (block_at z r w.down w.index) c) rest_is

      new_next : target ((x a).slot j) ≡ block_at m (with_top t top) (suc w.down) (409 * w.index + j)
      new_next =
          ap target (w.copied.new w.down w.index a w.is_way (sym w.is ∙ to) j)
          ∙ ap (λ c. below m (kind_down t w.down) c j) (sym (sym w.is ∙ to))
          ∙ sym (one_below m (with_top t top))

      old_from : (r : Pointer) → block_at s t w.down w.index ≡ r → (c : ℕ) → below s (kind_down t w.down) r j ≡ Local c → target ((local y (target v)).slot j) ≡ Local c
      old_from Nil is c f = absurd (nil_local c f)
      old_from (Held score) is c f = absurd (held_apart (s.held score (kind_code (kind_down t w.down))) j c f)
      old_from (Local d) is c f =
          let le = within in
          let high = w.copied.high in
          ap (λ z. target ((local y z).slot j)) (w.other d is) ∙ ap target (w.copied.old w.down w.index d (omega (arith, le, high)) is j) ∙ f

      old_next : (c : ℕ) → block_at s t (suc w.down) (409 * w.index + j) ≡ Local c → target ((local y (target v)).slot j) ≡ Local c
      old_next c f = old_from (block_at s t w.down w.index) refl c (sym (one_below s t) ∙ f)

      same_spot : spot_below p j ((x a).slot j) ≡ spot_below q j ((local y (target v)).slot j)
      same_spot = spot_lower p.place.kind p.place.tag p.place.index p.place.rank (t.depth - w.down) j p.trail ((x a).slot j) ((local y (target v)).slot j) w.kind ∙ ap (λ r. spot_below r j ((local y (target v)).slot j)) w.spot

      way_next : On ((x a).slot j) ((local y (target v)).slot j) (spot_below p j ((x a).slot j)) (spot_below q j ((local y (target v)).slot j))
      way_next = ⊎_elim
          (λ on. inr (record {
            copied = w.copied;
            down = suc w.down;
            index = 409 * w.index + j;
            is_way = on;
            is = new_next;
            other = λ c f. old_next c f;
            spot = same_spot;
            kind = ap (λ (z : Place). z.kind) (one_lower p.place.kind p.place.tag p.place.index p.place.rank (t.depth - suc w.down) j ((x a).slot j) (w.kind ∙ ap (λ d. Data d) deeper));
            there = λ c f. below_there a j p (w.there a to) c f;
          }))
          (λ off.
          let le = within in
          let high = w.copied.high in
          let few = slot_few in
          let room = index_few n k w.down w.index w.copied.few w.is_way in
          let more : 409 ^ suc w.down ≡ 409 * 409 ^ w.down = pow-succ' 409 w.down in
          let stays = w.copied.beside.each (suc w.down) (409 * w.index + j) (omega (arith, le, high)) (omega (arith, few, room, more)) off in
          inl (record {
            is = e ∙ sym (old_next b (sym stays ∙ sym new_next ∙ e));
            spot = same_spot;
            there = λ c f. below_there a j p (w.there a to) c f;
          }))
          (index_cases n k (suc w.down) (409 * w.index + j))

    by_target : (a j : ℕ) → target u ≡ Local a → (r : Pointer) → target ((x a).slot j) ≡ r → Next j (Local a) (target v) p q
    by_target a j to Nil e = inl (λ b f. nil_local b (sym e ∙ f))
    by_target a j to (Held score) e = inl (λ b f. held_local score b (sym e ∙ f))
    by_target a j to (Local b) e = inr (way_next a j b to e)

    from_way : (j : ℕ) (r : Pointer) → target u ≡ r → Next j r (target v) p q
    from_way j Nil e = inl (λ b f. nil_local b f)
    from_way j (Held score) e = inl (λ b f. nil_local b f)
    from_way j (Local a) e = by_target a j e (target ((x a).slot j)) refl

  next : (j : ℕ) (u v : Slot) (p q : Spot) → On u v p q → Next j (target u) (target v) p q
  next j u v p q on = ⊎_elim
      (λ same. subst (λ r. Next j (target u) r p q) same.is (from_same j (target u) p q same.spot same.there))
      (λ w. from_way w j (target u) refl)
      on

  -- what is found in the second image along the same path
  abbrev Shows : List ℕ → Slot → (q r : Spot) → ℕ → Type 0
  Shows path v q r b = (c : ℕ) × (target (walk y v path) ≡ Local c) × (spot_at y q v path ≡ r) × ((y c).bytes ≡ (x b).bytes)

  no_leaf : (u v : Slot) (p q : Spot) → OnWay u v p q → IsOfRecords p → ⊥
  no_leaf u v p q w of =
      let low : t.depth - w.down ≡ 0 = data_level (t.depth - w.down) 0 (sym w.kind ∙ of.0) in
      let up = deeper w in
      omega (arith, low, up)

  along : (path : List ℕ) (u v : Slot) (p q : Spot) (b : ℕ) → On u v p q → target (walk x u path) ≡ Local b → IsOfRecords (spot_at x p u path) → Shows path v q (spot_at x p u path) b
  along [] u v p q b on e of = ⊎_elim
      (λ same. (b, sym same.is ∙ e, sym same.spot, sym (put.bytes b)))
      (λ w. absurd (no_leaf u v p q w of))
      on
  along (j ∷ path) u v p q b on e of = ⊎_elim
      (λ none. absurd (lost x path ((local x (target u)).slot j) none b e))
      (λ more. along path ((local x (target u)).slot j) ((local y (target v)).slot j) (spot_below p j ((local x (target u)).slot j)) (spot_below q j ((local y (target v)).slot j)) b more e of)
      (next j u v p q on)

  first : On (to_block 1) (to_block 1) (top_spot 1) (top_spot 1)
  first = inl (record { is = refl; spot = refl; there = λ b e. subst (λ z. stands z super_place) (local_eq e) put.super_at })

  pub found_relinked : {p : Spot} {b : ℕ} → IsOfRecords p → FoundAt active x b p → (c : ℕ) × FoundAt active y c p × ((y c).bytes ≡ (x b).bytes)
  found_relinked {p} {b} of found =
      let leads : target (walk x (to_block 1) found.path) ≡ Local b = subst (λ z. target (walk x (to_block z) found.path) ≡ Local b) found.is_top found.leads in
      let spot : spot_at x (top_spot 1) (to_block 1) found.path ≡ p = subst (λ z. spot_at x (top_spot z) (to_block z) found.path ≡ p) found.is_top found.spot in
      let h = along found.path (to_block 1) (to_block 1) (top_spot 1) (top_spot 1) b first leads (subst (λ r. IsOfRecords r) (sym spot) of) in
      (h.0, record { top = 1; is_top = refl; path = found.path; leads = h.1; spot = h.2 ∙ spot }, h.3)

-- Where each image that has the slot is so, nothing more is shown.
pub relinked_shows : (stands : ℕ → Place → Type 0) (s m u : State) (t : Tree) (top n k : ℕ) {at i : ℕ} {slot : Slot} {beside : Image → Type 0} → AddsSlot m.now at i slot beside m.may_leave u.may_leave
    → ((image : Image) → u.may_leave image → (image at).slot i ≡ slot → m.may_leave (with_slot image at i ((m.now at).slot i)) → IsRelinked stands s m t top n k at i image (with_slot image at i ((m.now at).slot i)))
    → ShowsNoMore m.may_leave u.may_leave
relinked_shows stands s m u t top n k {at} {i} adds each = record {
  each = λ p bytes of shown. inl (⊎_elim
      (λ was. record { image = shown.image; is = was; block = shown.block; found = shown.found; same = shown.same })
      (λ h.
      let there = found_relinked {stands = stands} {s = s} {m = m} {t = t} {top = top} {n = n} {k = k} (each shown.image shown.is h.0 h.1) of shown.found in
      record { image = with_slot shown.image at i ((m.now at).slot i); is = h.1; block = there.0; found = there.1; same = there.2 ∙ shown.same })
      (adds.each shown.image shown.is));
}
