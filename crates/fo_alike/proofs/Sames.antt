-- Where another slot leads to the same as memory's does, it goes on so as blocks are given out and led to.
use Rattle.std.proofs.Common.{◌≡◌, ◌≢◌, ◌⊎◌, ℕ, zero, suc, Bool, true, false, cond, inl, inr, ⊎_elim, refl, sym, ◌∙◌, ap, subst}
use Rattle.fo_ports.specs.of_image.declared.types.Entry.{Entry}
use Rattle.fo_ports.specs.of_image.declared.types.Kind.{Kind}
use Rattle.fo_ports.specs.of_image.declared.types.Kind.TheVariants.{Data, Dir, Root}
use Rattle.fo_ports.specs.of_image.declared.types.Pointer.{Pointer}
use Rattle.fo_ports.specs.of_image.declared.types.Pointer.TheVariants.{Local}
use Rattle.fo_crash.specs.declared.slot.Slot.{Slot}
use Rattle.fo_crash.specs.declared.slot.Slot.TheVariants.{Entry as Head}
use Rattle.fo_crash.specs.declared.place.Place.{Place}
use Rattle.fo_crash.specs.Images.{Content, Image, SameContent, Reaches, target, to_block}
use Rattle.fo_crash.specs.Steps.{AddsNothing, AddsBlock, IsSure}
use Rattle.fo_crash.specs.Names.{SameUse}
use Rattle.fo_crash.specs.Places.{place, place_below}
use Rattle.fo_crash.specs.Spots.{Spot, FoundAt, spot_below}
use Rattle.fo_crash.proofs.Reach.{lost, reaches_joins, reaches_from, reaches_same}
use Rattle.fo_crash.proofs.Places.{stands_below}
use Rattle.fo_shown.specs.Shown.{active, IsOfRecords}
use Rattle.fo_shown.specs.Alike.{LeadsAlike}
use Rattle.fo_shown.proofs.Ways.{AllPlaced, found_stands, same_below}
use Rattle.fo_shown.proofs.Linking.{AllRanked}
use Rattle.fo_shown.proofs.Alikes.{Aside, Beside, beside_back, entry_raised, finds_of, found_aside, given_aside}
use Rattle.fo_alike.specs.Like.{IsOfEntries, IsZeros, NoneInUse, LeadsLike, LeadsSame}
use Rattle.fo_alike.proofs.Sorts.{of_entries}
use Rattle.fo_alike.proofs.Leads.{HoldsNone, leads_none, like_gone, leads_on, like_aside, like_back_aside, like_copied, like_joins, like_new, like_raised, like_same}

-- A slot that leads where memory's leads, to the same place, in the same use.
pub same_itself : {stands : ℕ → Place → Type 0} {images : Image → Type 0} {now : Image} {at i : ℕ} {slot : Slot} → AllPlaced stands images → target slot ≡ target ((now at).slot i) → ((p : Place) → stands at p → place_below p i slot ≡ place_below p i ((now at).slot i)) → SameUse slot ((now at).slot i) → LeadsSame images now at i slot
same_itself {now = now} {at = at} {i = i} {slot = slot} placed leads below use_same = record {
  in_use = use_same;
  each = λ image p is has found.
      like_same leads (same_below p i slot ((now at).slot i) (below p.place (found_stands (placed.super_at image is) (placed.each image is) found)));
}

-- No image was added.
pub same_later : {old new : Image → Type 0} {now next : Image} {at i : ℕ} {slot : Slot} → AddsNothing old new → (next at).slot i ≡ (now at).slot i → LeadsSame old now at i slot → LeadsSame new next at i slot
same_later {now = now} {next = next} {at = at} {i = i} {slot = slot} adds stays same = record {
  in_use = subst (λ z. SameUse slot z) (sym stays) same.in_use;
  each = λ image p is has found.
      subst (λ z. LeadsLike image (spot_below p i slot) slot image (spot_below p i z) z) (sym stays) (same.each image p (adds.each image is) (has ∙ stays) found);
}

-- Another slot leads in each image to what is like what the slot leads to.
pub same_by : {images : Image → Type 0} {now : Image} {at i : ℕ} {slot new : Slot} → SameUse new ((now at).slot i) → ((image : Image) (p : Spot) → images image → FoundAt active image at p → LeadsLike image (spot_below p i new) new image (spot_below p i slot) slot) → LeadsSame images now at i slot → LeadsSame images now at i new
same_by use_same like same = record {
  in_use = use_same;
  each = λ image p is has found. like_joins (like image p is found) (same.each image p is has found);
}

-- The slot leads to a copy of what the other one leads to.
pub same_copied : {stands : ℕ → Place → Type 0} {images : Image → Type 0} {now : Image} {at i below result : ℕ} {slot copied : Slot} → AllPlaced stands images → target slot ≡ Local below → target copied ≡ Local result → ((p : Place) → stands at p → place_below p i copied ≡ place_below p i slot) → ((image : Image) → images image → SameContent (image result) (image below)) → SameUse copied ((now at).slot i) → LeadsSame images now at i slot → LeadsSame images now at i copied
same_copied {stands} {images} {now} {at} {i} {below} {result} {slot} {copied} placed leads leads_copy places copy use_same same = same_by use_same
    (λ image p is found.
    let spot : spot_below p i copied ≡ spot_below p i slot = same_below p i copied slot (places p.place (found_stands (placed.super_at image is) (placed.each image is) found)) in
    like_copied leads_copy leads spot (copy image is) (λ j.
    let e : (image result).slot j ≡ (image below).slot j = (copy image is).slots j in
    like_same (ap target e) (ap (λ z. spot_below z j ((image result).slot j)) spot ∙ ap (λ z. spot_below (spot_below p i slot) j z) e)))
    same

-- The images differ in one block alone, to which no path leads in the second: a slot of a block that is found there leads in both to the same.
pub like_found_aside : {a at i : ℕ} {image other : Image} {p q : Spot} {s : Slot} → Beside a image other → (Reaches image (to_block 1) a → ⊥) → FoundAt active image at p → (image at).slot i ≡ s → LeadsLike other q s image q s
like_found_aside {a} {at} {i} {image} near apart found has =
    like_aside (beside_back near) (like_back_aside near (λ r. apart (reaches_joins (record { path = found.path; leads = (finds_of found).leads }) (reaches_from i (subst (λ z. Reaches image z a) (sym has) r)))))

-- A block changed, or was given out, to which no path leads, neither from block 1 nor from the slot.
pub same_aside : {old new : Image → Type 0} {now next : Image} {a at i : ℕ} {slot : Slot} → Aside a old new → ((image : Image) → new image → Reaches image slot a → ⊥) → (next at).slot i ≡ (now at).slot i → LeadsSame old now at i slot → LeadsSame new next at i slot
same_aside {old} {new} {now} {next} {a} {at} {i} {slot} aside below stays same = record {
  in_use = subst (λ z. SameUse slot z) (sym stays) same.in_use;
  each = λ image p is has found.
      let (other, was, near) = aside.before image is in
      let there = found_aside near (aside.apart image is) found in
      let has_there : (other at).slot i ≡ (now at).slot i = sym (there.1.slots i) ∙ has ∙ stays in
      like_joins (like_aside near (below image is))
      (like_joins
      (subst (λ z. LeadsLike other (spot_below p i slot) slot other (spot_below p i z) z) (sym stays) (same.each other p was has_there there.0))
      (like_found_aside near (aside.apart image is) found has));
}

-- A block changed, or was given out, that stood nowhere; what the slot leads to stands somewhere.
pub same_nowhere : {stands : ℕ → Place → Type 0} {a : ℕ} {old new : Image → Type 0} {now next : Image} {at i : ℕ} {slot : Slot} → AllRanked stands old → ((image : Image) → old image → (p : Place) → stands a p → ⊥) → ((image : Image) → old image → (c : ℕ) → target slot ≡ Local c → (p : Place) × stands c p) → Aside a old new → (next at).slot i ≡ (now at).slot i → LeadsSame old now at i slot → LeadsSame new next at i slot
same_nowhere {stands} {a} {old} {new} {slot = slot} ranked none somewhere aside stays same = same_aside aside below stays same
  where
    apart : (image : Image) → old image → Reaches image slot a → ⊥
    apart image was r = ⊎_elim
        (λ on.
        let top = somewhere image was on.0 on.1 in
        let here = stands_below top.0 (ranked.placed image was) (ranked.falls image was) top.1 (reaches_same {s = slot} {t = to_block on.0} on.1 r) in
        none image was here.0 here.1)
        (λ nowhere. lost image r.path slot nowhere a r.leads)
        (leads_on slot)

    below : (image : Image) → new image → Reaches image slot a → ⊥
    below image is r =
        let (other, was, near) = aside.before image is in
        like_back_aside (beside_back near) (apart other was) r

pub same_given : {stands : ℕ → Place → Type 0} {tops : ℕ → Type 0} {a : ℕ} {content : Content} {old new : Image → Type 0} {now next : Image} {at i : ℕ} {slot : Slot} → tops 1 → AllRanked stands old → ((image : Image) → old image → (p : Place) → stands a p → ⊥) → ((image : Image) → old image → (c : ℕ) → target slot ≡ Local c → (p : Place) × stands c p) → AddsBlock tops a content old new → (next at).slot i ≡ (now at).slot i → LeadsSame old now at i slot → LeadsSame new next at i slot
same_given top ranked none somewhere adds stays same = same_nowhere ranked none somewhere (given_aside top adds) stays same

-- In each image a new top leads by its slot 0 to what the source's slot led to, and by no other slot to a block. (An image in which slot 0 is
-- not written yet would lose the leaves of entries that memory's slot finds.)
pub same_raised : {images : Image → Type 0} {now : Image} {at i top : ℕ} {slot raised : Slot} → target raised ≡ Local top
    → ((image : Image) → images image → (target ((image top).slot 0) ≡ target slot) × ((j b : ℕ) → target ((image top).slot j) ≡ Local b → j ≡ 0))
    → ((image : Image) (p : Spot) → images image → FoundAt active image at p → (IsOfRecords (spot_below p i raised) → ⊥) × (IsOfEntries (spot_below p i raised) → ⊥) × ((s : Slot) → spot_below (spot_below p i raised) 0 s ≡ spot_below p i slot))
    → SameUse raised ((now at).slot i) → LeadsSame images now at i slot → LeadsSame images now at i raised
same_raised {top = top} leads only spots use_same same = same_by use_same
    (λ image p is found.
    let at_top = only image is in
    let spot = spots image p is found in
    like_raised leads spot.0 spot.1 at_top.1 at_top.0 (spot.2 ((image top).slot 0)))
    same

-- The block below an entry is one of its source's top.
pub entry_kind : (p : Place) (i : ℕ) (f : Entry) → (p.kind ≡ Dir 0) ⊎ (p.kind ≡ Root) → (place_below p i (Head f)).kind ≡ cond f.dir (Dir f.depth) (Data f.depth)
entry_kind p i f names = by p.kind p.tag p.index p.rank names
  where
    by : (kind : Kind) (tag index rank : ℕ) → (kind ≡ Dir 0) ⊎ (kind ≡ Root) → (place_below (place kind tag index rank) i (Head f)).kind ≡ cond f.dir (Dir f.depth) (Data f.depth)
    by (Data level) tag index rank h = absurd (⊎_elim (λ x. cc) (λ x. cc) h)
    by (Dir zero) tag index rank h = refl
    by (Dir (suc level)) tag index rank h = absurd (⊎_elim (λ x. cc) (λ x. cc) h)
    by Root tag index rank h = refl

-- An entry with one level more has a block of pointers below it: no leaf of records, and none of entries; and its slot 0 comes to where the
-- other entry did.
pub entry_raised_too : (p : Spot) (i : ℕ) (e f : Entry) → (p.place.kind ≡ Dir 0) ⊎ (p.place.kind ≡ Root) → f.dir ≡ e.dir → f.depth ≡ suc e.depth → f.tag ≡ e.tag → (IsOfRecords (spot_below p i (Head f)) → ⊥) × (IsOfEntries (spot_below p i (Head f)) → ⊥) × ((s : Slot) → spot_below (spot_below p i (Head f)) 0 s ≡ spot_below p i (Head e))
entry_raised_too p i e f names dir depth tag =
    let spots = entry_raised p i e f names dir depth tag in
    let is : (place_below p.place i (Head f)).kind ≡ cond f.dir (Dir (suc e.depth)) (Data (suc e.depth)) = entry_kind p.place i f names ∙ ap (λ d. cond f.dir (Dir d) (Data d)) depth in
    (spots.0, λ of. ⊎_elim (λ h. no_leaf f.dir (inl (sym is ∙ h))) (λ h. no_leaf f.dir (inr (sym is ∙ h))) of, spots.1)
  where
    no_leaf : (b : Bool) → (cond b (Dir (suc e.depth)) (Data (suc e.depth)) ≡ Dir 0) ⊎ (cond b (Dir (suc e.depth)) (Data (suc e.depth)) ≡ Root) → ⊥
    no_leaf true h = ⊎_elim (λ x. let y : Dir (suc e.depth) ≡ Dir 0 = x in cc) (λ x. let y : Dir (suc e.depth) ≡ Root = x in cc) h
    no_leaf false h = ⊎_elim (λ x. let y : Data (suc e.depth) ≡ Dir 0 = x in cc) (λ x. let y : Data (suc e.depth) ≡ Root = x in cc) h

-- Every image has the new top as memory has it, which leads by its slot 0 there, and by no other slot to a block.
pub raised_sure : {images : Image → Type 0} {next : Image} {top : ℕ} {z : Pointer} → IsSure next top images → target ((next top).slot 0) ≡ z → ((j b : ℕ) → target ((next top).slot j) ≡ Local b → j ≡ 0) → (image : Image) → images image → (target ((image top).slot 0) ≡ z) × ((j b : ℕ) → target ((image top).slot j) ≡ Local b → j ≡ 0)
raised_sure sure first only image is =
    let same = sure.each image is in
    (ap target (same.slots 0) ∙ first, λ j b e. only j b (ap target (sym (same.slots j)) ∙ e))

-- In each image the slot leads to a block that leads to no block, and is no leaf of records, or one of zeros, and no leaf of entries, or one
-- with nothing in use. Memory's slot leads to no block, or below data, where there are no entries.
pub same_bare : {stands : ℕ → Place → Type 0} {images : Image → Type 0} {now : Image} {at i result : ℕ} {slot : Slot} → AllPlaced stands images → target slot ≡ Local result
    → ((image : Image) → images image → (k b : ℕ) → target ((image result).slot k) ≢ Local b)
    → ((image : Image) (p : Spot) → images image → stands at p.place → IsOfRecords (spot_below p i slot) → IsZeros (image result))
    → ((image : Image) (p : Spot) → images image → stands at p.place → IsOfEntries (spot_below p i slot) → NoneInUse (image result))
    → ((p : Place) → stands at p → HoldsNone ((now at).slot i) (place_below p i ((now at).slot i)))
    → SameUse slot ((now at).slot i) → LeadsSame images now at i slot
same_bare placed leads none zeros unused holds use_same = record {
  in_use = use_same;
  each = λ image p is has found.
      let here = found_stands (placed.super_at image is) (placed.each image is) found in
      like_new leads (none image is) (zeros image p is here) (unused image p is here) (holds p.place here);
}

-- The slot leads to no block, and memory's holds no entries.
pub same_gone : {stands : ℕ → Place → Type 0} {images : Image → Type 0} {now : Image} {at i : ℕ} {slot : Slot} → AllPlaced stands images → ((c : ℕ) → target slot ≢ Local c) → ((p : Place) → stands at p → HoldsNone ((now at).slot i) (place_below p i ((now at).slot i))) → SameUse slot ((now at).slot i) → LeadsSame images now at i slot
same_gone placed none holds use_same = record {
  in_use = use_same;
  each = λ image p is has found. like_gone none (holds p.place (found_stands (placed.super_at image is) (placed.each image is) found));
}

-- Where neither slot holds entries, what leads to no more of leaves of records leads to the same.
pub same_data : {stands : ℕ → Place → Type 0} {images : Image → Type 0} {now : Image} {at i : ℕ} {slot : Slot} → AllPlaced stands images → ((p : Place) → stands at p → HoldsNone slot (place_below p i slot) × HoldsNone ((now at).slot i) (place_below p i ((now at).slot i))) → SameUse slot ((now at).slot i) → LeadsAlike images now at i slot → LeadsSame images now at i slot
same_data placed holds use_same alike = record {
  in_use = use_same;
  each = λ image p is has found.
      let held = holds p.place (found_stands (placed.super_at image is) (placed.each image is) found) in
      record {
        records = record {
          each = λ path b r of f. ⊎_elim
              (λ g. inl (g.0, g.1, g.2, sym g.3))
              (λ zeros. inr zeros)
              (alike.each image p r path b is has found f of);
        };
        from = leads_none of_entries held.0;
        onto = leads_none of_entries held.1;
      };
}

-- What leads to the same leads to no more of leaves of records.
pub same_alike : {images : Image → Type 0} {now : Image} {at i : ℕ} {slot : Slot} → LeadsSame images now at i slot → LeadsAlike images now at i slot
same_alike same = record {
  each = λ image p q path b is has found finds of. ⊎_elim
      (λ g. inl (g.0, g.1, g.2, sym g.3))
      (λ zeros. inr zeros)
      ((same.each image p is has found).records.each path b q of finds);
}
