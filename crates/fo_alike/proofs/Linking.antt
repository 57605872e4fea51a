-- A slot was put that leads to the same as memory's did.
use Rattle.std.proofs.Common.{◌≡◌, ◌≢◌, ◌⊎◌, ℕ, zero, suc, ⊎_elim, refl, sym, ◌∙◌, ap, subst, arith}
use Rattle.fo_ports.specs.of_image.declared.types.Kind.{Kind}
use Rattle.fo_ports.specs.of_image.declared.types.Kind.TheVariants.{Data, Dir, Root}
use Rattle.fo_ports.specs.of_image.declared.types.Pointer.TheVariants.{Local}
use Rattle.fo_crash.specs.declared.slot.Slot.{Slot}
use Rattle.fo_crash.specs.declared.slot.Slot.TheVariants.{Pointer as To}
use Rattle.fo_crash.specs.declared.place.Place.{Place}
use Rattle.fo_crash.specs.Images.{Image, SameContent, Reaches, target, with_slot}
use Rattle.fo_crash.specs.Steps.{AddsSlot, IsSure}
use Rattle.fo_crash.specs.Names.{IsInUse, SameUse}
use Rattle.fo_crash.specs.Places.{place, place_below, OnePlace}
use Rattle.fo_crash.specs.Spots.{Spot, FoundAt, spot_below}
use Rattle.fo_crash.proofs.Sure.{same_joins, same_back}
use Rattle.fo_crash.proofs.Updates.{slot_here}
use Rattle.fo_ports.specs.Blocks.{IsInner}
use Rattle.fo_shown.specs.Shown.{active, IsOfRecords}
use Rattle.fo_shown.proofs.Ways.{AllPlaced, found_stands, same_below}
use Rattle.fo_shown.proofs.Uses.{never_returns}
use Rattle.fo_shown.proofs.Linking.{AllRanked}
use Rattle.fo_shown.proofs.Alikes.{beside_slot}
use Rattle.fo_alike.specs.Like.{IsOfEntries, IsZeros, NoneInUse, ShowsSame, LeadsLike, LeadsSame}
use Rattle.fo_alike.proofs.Leads.{HoldsNone, like_aside, like_gone, like_copy, like_joins, like_new}
use Rattle.fo_alike.proofs.Likes.{differs_like, differs_put, like_itself}
use Rattle.fo_alike.proofs.Sames.{same_itself}

-- What is known of the places of images: a block stands at one, and they are ranked.
pub record Known (stands : ℕ → Place → Type 0) (images : Image → Type 0) : Type 0 where
  pub one : OnePlace stands
  pub ranked : AllRanked stands images

pub placed_of : {stands : ℕ → Place → Type 0} {images : Image → Type 0} → Known stands images → AllPlaced stands images
placed_of known = record { super_at = known.ranked.super_at; each = known.ranked.placed }

returns_not : {stands : ℕ → Place → Type 0} {images : Image → Type 0} {image : Image} {at i : ℕ} {s : Slot} {p : Spot} → Known stands images → images image → (image at).slot i ≡ s → FoundAt active image at p → Reaches image s at → ⊥
returns_not {image = image} {at = at} {i = i} known is put found = subst (λ z. Reaches image z at → ⊥) put (never_returns i known.one (known.ranked.super_at image is) (known.ranked.placed image is) (known.ranked.falls image is) found)

module _ {stands laid : ℕ → Place → Type 0} {now : Image} {at i : ℕ} {slot : Slot} {beside : Image → Type 0} {old new : Image → Type 0} (known : Known stands old) (then : Known laid new) (adds : AddsSlot now at i slot beside old new) where
  abbrev before : Image → Image
  before image = with_slot image at i ((now at).slot i)

  here : (image : Image) → (before image at).slot i ≡ (now at).slot i
  here image = slot_here image at i ((now at).slot i)

  -- Each new image is like the old one with memory's slot in its place, where the new slot leads to what is like what memory's leads to.
  shows_by : ((image : Image) (p : Spot) → IsOfEntries p → new image → old (before image) → FoundAt active (before image) at p → SameUse slot ((now at).slot i))
      → ((image : Image) (p : Spot) → new image → old (before image) → (image at).slot i ≡ slot → (Reaches image slot at → ⊥) → FoundAt active (before image) at p → LeadsLike image (spot_below p i slot) slot (before image) (spot_below p i ((now at).slot i)) ((now at).slot i))
      → ShowsSame old new
  shows_by uses leads = record {
    each = λ image is. ⊎_elim
        (λ was. (image, was, like_itself image))
        (λ h. (
          before image,
          h.1,
          differs_like {at = at} {i = i} {x = image} {y = before image} {s = slot} {o = (now at).slot i} (record {
            differs = differs_put image at i ((now at).slot i);
            put = h.0;
            here = here image;
            apart = λ p f. returns_not then is h.0 f;
            apart_there = λ p f. returns_not known h.1 (here image) f;
            uses = λ p of f. uses image p of is h.1 f;
            leads = λ p f g. leads image p is h.1 h.0 (returns_not then is h.0 f) g;
          }),
        ))
        (adds.each image is);
  }

  pub linked_same : LeadsSame old now at i slot → ShowsSame old new
  linked_same same = shows_by
      (λ image p of is was f. same.in_use)
      (λ image p is was put apart f. like_joins (like_aside (beside_slot image at i ((now at).slot i)) apart) (same.each (before image) p was (here image) f))

  -- A slot was put that leads where memory's led, to the same place, in the same use.
  pub stays_same : target slot ≡ target ((now at).slot i) → ((p : Place) → stands at p → place_below p i slot ≡ place_below p i ((now at).slot i)) → SameUse slot ((now at).slot i) → ShowsSame old new
  stays_same leads below use_same = linked_same (same_itself (placed_of known) leads below use_same)

  -- A slot was put that leads to no block, in place of one that holds no entries; in a leaf of entries it is in the same use.
  pub gone_same : ((c : ℕ) → target slot ≢ Local c) → ((p : Place) → stands at p → HoldsNone ((now at).slot i) (place_below p i ((now at).slot i))) → ((p : Place) → stands at p → (p.kind ≡ Dir 0) ⊎ (p.kind ≡ Root) → SameUse slot ((now at).slot i)) → ShowsSame old new
  gone_same none holds uses = shows_by
      (λ image p of is was f. uses p.place (stood image p was f) of)
      (λ image p is was put apart f. like_gone none (holds p.place (stood image p was f)))
    where
      stood : (image : Image) (p : Spot) → old (before image) → FoundAt active (before image) at p → stands at p.place
      stood image p was f = found_stands (known.ranked.super_at (before image) was) (known.ranked.placed (before image) was) f

-- ---- a slot of a block of pointers

-- One place lies below a slot of a block of pointers, whatever the slot.
pub inner_below : (p : Place) (i : ℕ) (s t : Slot) → IsInner p.kind → place_below p i s ≡ place_below p i t
inner_below p i s t inner = by p.kind p.tag p.index p.rank inner
  where
    by : (kind : Kind) (tag index rank : ℕ) → IsInner kind → place_below (place kind tag index rank) i s ≡ place_below (place kind tag index rank) i t
    by (Data zero) tag index rank inner = absurd (omega (arith, inner))
    by (Data (suc level)) tag index rank inner = refl
    by (Dir zero) tag index rank inner = absurd (omega (arith, inner))
    by (Dir (suc level)) tag index rank inner = refl
    by Root tag index rank inner = absurd inner

-- a block of pointers is no leaf of entries
pub inner_not : (p : Place) → IsInner p.kind → (p.kind ≡ Dir 0) ⊎ (p.kind ≡ Root) → ⊥
inner_not p inner of = ⊎_elim
    (λ e. let h : IsInner (Dir 0) = subst (λ k. IsInner k) e inner in omega (arith, h))
    (λ e. let h : IsInner Root = subst (λ k. IsInner k) e inner in absurd h)
    of

-- A slot of a block of pointers was led to a block that every new image has as memory has it.
pub record Leads (stands laid : ℕ → Place → Type 0) (now next : Image) (at i result : ℕ) (beside : Image → Type 0) (old new : Image → Type 0) : Type 0 where
  pub images : AddsSlot now at i (To (Local result)) beside old new
  pub sure : IsSure next result new
  pub inner : (image : Image) → old image → (p : Place) → stands at p → IsInner p.kind
  pub known : Known stands old
  pub then : Known laid new

module _ {stands laid : ℕ → Place → Type 0} {now next : Image} {at i result : ℕ} {beside : Image → Type 0} {old new : Image → Type 0} (w : Leads stands laid now next at i result beside old new) where
  abbrev was_before : Image → Image
  was_before image = with_slot image at i ((now at).slot i)

  is_inner : (image : Image) (p : Spot) → old image → FoundAt active image at p → IsInner p.place.kind
  is_inner image p was f = w.inner image was p.place (found_stands (w.known.ranked.super_at image was) (w.known.ranked.placed image was) f)

  led_same : ((image : Image) (p : Spot) → new image → old (was_before image) → (Reaches image (To (Local result)) at → ⊥) → FoundAt active (was_before image) at p → IsInner p.place.kind → LeadsLike image (spot_below p i (To (Local result))) (To (Local result)) (was_before image) (spot_below p i ((now at).slot i)) ((now at).slot i)) → ShowsSame old new
  led_same leads = shows_by w.known w.then w.images
      (λ image p of is was f. absurd (inner_not p.place (is_inner (was_before image) p was f) of))
      (λ image p is was put apart f. leads image p is was apart f (is_inner (was_before image) p was f))

  -- What came has what the block has to which the slot led, and that every old image has as memory has it.
  pub copy_same : (below : ℕ) → target ((now at).slot i) ≡ Local below → SameContent (next result) (now below) → IsSure now below old → ShowsSame old new
  copy_same below leads same sure = led_same (λ image p is was apart f inner.
      let o : Slot = (now at).slot i in
      let spot : spot_below p i (To (Local result)) ≡ spot_below p i o = same_below p i (To (Local result)) o (inner_below p.place i (To (Local result)) o inner) in
      let content : SameContent (image result) (was_before image below) = same_joins (w.sure.each image is) (same_joins same (same_back (sure.each (was_before image) was))) in
      like_copy (To (Local result)) o (beside_slot image at i o) apart refl leads spot content)

  -- What came leads to no block, and is no leaf of records, or one of zeros, and no leaf of entries, or one with nothing in use. The slot led
  -- to no block, or the block of pointers is one of data.
  pub new_same : ((j b : ℕ) → target ((next result).slot j) ≢ Local b)
      → ((p : Spot) → stands at p.place → IsOfRecords (spot_below p i (To (Local result))) → IsZeros (next result))
      → ((p : Spot) → stands at p.place → IsOfEntries (spot_below p i (To (Local result))) → NoneInUse (next result))
      → ((p : Place) → stands at p → HoldsNone ((now at).slot i) (place_below p i ((now at).slot i)))
      → ShowsSame old new
  new_same none zeros unused holds = led_same (λ image p is was apart f inner.
      let stood = found_stands (w.known.ranked.super_at (was_before image) was) (w.known.ranked.placed (was_before image) was) f in
      let sure = w.sure.each image is in
      like_new refl
      (λ j b e. none j b (ap target (sym (sure.slots j)) ∙ e))
      (λ of. sure.bytes ∙ zeros p stood of)
      (λ of j g used. unused p stood of j g (subst (λ (z : Slot). IsInUse z g) (sure.slots j) used))
      (holds p.place stood))
