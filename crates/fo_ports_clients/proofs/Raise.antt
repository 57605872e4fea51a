-- A new top may be raised over a source.
use Rattle.std.proofs.Common.{◌≡◌, ◌≢◌, ◌⊎◌, ◌+◌, ◌-◌, ◌%◌, ◌^◌, ◌<◌, ◌≤◌, ℕ, zero, suc, Bool, true, false, cond, nat_eq, inl, inr, ⊎_elim, refl, sym, ◌∙◌, ap, subst, arith, add-one}
use Rattle.std.proofs.lemmas.Bool.{cases_eq}
use Rattle.fo_image.specs.declared.types.Entry.{Entry}
use Rattle.fo_image.specs.declared.types.Kind.{Kind}
use Rattle.fo_image.specs.declared.types.Kind.TheVariants.{Data, Dir, Root}
use Rattle.fo_image.specs.declared.types.Pointer.TheVariants.{Nil, Local}
use Rattle.fo_image.specs.Format.{ActiveHolds, IsDepth}
use Rattle.fo_crash.specs.declared.slot.Slot.{Slot}
use Rattle.fo_crash.specs.declared.slot.Slot.TheVariants.{Pointer as To, Entry as Head, Prev}
use Rattle.fo_crash.specs.declared.place.Place.{Place}
use Rattle.fo_crash.specs.Images.{Content, Image, target, note, depth_of, with_slot, with_block}
use Rattle.fo_crash.specs.Names.{SameUse}
use Rattle.fo_crash.specs.Places.{place, place_below}
use Rattle.fo_crash.specs.Steps.{AddsSlot, AddsBlock}
use Rattle.fo_crash.proofs.Updates.{slot_bytes, slot_other, block_other}
use Rattle.fo_ports.specs.Blocks.{IsInner, IsLevel, IsEntry, SlotFits, blank, slot_count, dropped, cost}
use Rattle.fo_ports_clients.specs.Top.{raised, PutsOne}

-- ---- the entry

active : (is_active : Bool) (e : Entry) (size below to : ℕ) → e.top ≡ Local below → IsDepth size (e.depth + 1) → to < 2 ^ 32 - 1 → ActiveHolds is_active e → ActiveHolds is_active (record e { depth = e.depth + 1; size = size; top = Local to })
active true e size below to is least small holds = (least, small)
active false e size below to is least small holds = let both : Nil ≡ Local below = sym holds.4 ∙ is in absurd (cc)

pub raised_fits : (s : Slot) (size below to : ℕ) → IsEntry s → target s ≡ Local below → depth_of s < 4 → IsDepth size (depth_of s + 1) → to < 2 ^ 32 - 1 → IsEntry (raised s size to)
raised_fits (Head e) size below to fits leads shallow least small = (record { active_holds = active e.active e size below to leads least small fits.0.active_holds }, omega (arith, shallow))
raised_fits (To p) size below to fits leads shallow least small = absurd fits
raised_fits (Prev x y) size below to fits leads shallow least small = absurd fits

pub raised_target : (s : Slot) (size to : ℕ) → IsEntry s → target (raised s size to) ≡ Local to
raised_target (Head e) size to fits = refl
raised_target (To p) size to fits = absurd fits
raised_target (Prev x y) size to fits = absurd fits

pub raised_use : (s : Slot) (size to : ℕ) → SameUse (raised s size to) s
raised_use (Head e) size to = (refl, refl, refl, refl)
raised_use (To p) size to = refl
raised_use (Prev x y) size to = refl

pub raised_note : (s : Slot) (size a b : ℕ) → note (raised s size a) ≡ note (raised s size b)
raised_note (Head e) size a b = refl
raised_note (To p) size a b = refl
raised_note (Prev x y) size a b = refl

-- no level is lost
pub raised_drops : (s : Slot) (size to : ℕ) → dropped s (raised s size to) ≡ 0
raised_drops (Head e) size to = omega arith
raised_drops (To p) size to = refl
raised_drops (Prev x y) size to = refl

pub raised_cost : (s : Slot) (size below to : ℕ) → IsEntry s → target s ≡ Local below → cost s (raised s size to) ≡ 0
raised_cost (Head e) size below to fits leads = rw (leads, raised_drops (Head e) size to) refl
raised_cost (To p) size below to fits leads = absurd fits
raised_cost (Prev x y) size below to fits leads = absurd fits

-- ---- the place

-- Where a new top stands: one level above the old one.
pub record IsOver (p : Place) (i : ℕ) (s : Slot) (q : Place) : Type 0 where
  pub level : IsLevel q.kind
  pub inner : IsInner q.kind
  pub index : q.index ≡ 0
  pub falls : q.rank < p.rank
  pub below : (x : Slot) → place_below q 0 x ≡ place_below p i s
  pub lower : (x : Slot) → (place_below q 0 x).rank < q.rank

over_dir : (p : Place) (i d n t k : ℕ) → n ≡ suc d → n ≤ 4 → k + 4 < p.rank → (s : Slot) → place_below p i s ≡ place (Dir d) t 0 (k + d) → IsOver p i s (place (Dir n) t 0 (k + n))
over_dir p i d n t k is few room s under = subst (λ m. IsOver p i s (place (Dir m) t 0 (k + m))) (sym is) (record {
  level = omega (arith, is, few);
  inner = omega arith;
  index = refl;
  falls = omega (arith, is, few, room);
  below = λ x. let one : k + suc d - 1 ≡ k + d = omega arith in ap (λ r. place (Dir d) t 0 r) one ∙ sym under;
  lower = λ x. omega arith;
})

over_data : (p : Place) (i d n t k : ℕ) → n ≡ suc d → n ≤ 4 → k + 4 < p.rank → (s : Slot) → place_below p i s ≡ place (Data d) t 0 (k + d) → IsOver p i s (place (Data n) t 0 (k + n))
over_data p i d n t k is few room s under = subst (λ m. IsOver p i s (place (Data m) t 0 (k + m))) (sym is) (record {
  level = omega (arith, is, few);
  inner = omega arith;
  index = refl;
  falls = omega (arith, is, few, room);
  below = λ x. let one : k + suc d - 1 ≡ k + d = omega arith in ap (λ r. place (Data d) t 0 r) one ∙ sym under;
  lower = λ x. omega arith;
})

over_by : (p : Place) (i d n t r : ℕ) (s : Slot) (dir even : Bool) → n ≡ suc d → n ≤ 4 → 32 ≤ r → p.rank ≡ r → place_below p i s ≡ place (cond dir (Dir d) (Data d)) t 0 (cond dir (r - 32 + d) (cond even (r - 8 + d) (r - 24 + d))) → IsOver p i s (place (cond dir (Dir n) (Data n)) t 0 (cond dir (r - 32 + n) (cond even (r - 8 + n) (r - 24 + n))))
over_by p i d n t r s true even is few high rank under = over_dir p i d n t (r - 32) is few (omega (arith, high, rank)) s under
over_by p i d n t r s false true is few high rank under = over_data p i d n t (r - 8) is few (omega (arith, high, rank)) s under
over_by p i d n t r s false false is few high rank under = over_data p i d n t (r - 24) is few (omega (arith, high, rank)) s under

is_over_entry : (t n r i : ℕ) (s : Slot) (size to : ℕ) → IsEntry s → 32 ≤ r → depth_of s < 4 → IsOver (place (Dir 0) t n r) i s (place_below (place (Dir 0) t n r) i (raised s size to))
is_over_entry t n r i (Head e) size to fits high shallow = over_by (place (Dir 0) t n r) i e.depth (e.depth + 1) e.tag r (Head e) e.dir (nat_eq (i % 2) 0) (add-one e.depth) (omega (arith, shallow)) high refl refl
is_over_entry t n r i (To p) size to fits high shallow = absurd fits
is_over_entry t n r i (Prev x y) size to fits high shallow = absurd fits

pub is_over : (p : Place) (i : ℕ) (s : Slot) (size to : ℕ) → p.kind ≡ Dir 0 → IsEntry s → 32 ≤ p.rank → depth_of s < 4 → IsOver p i s (place_below p i (raised s size to))
is_over p i s size to is fits high shallow = subst (λ (k : Kind). IsOver (record p { kind = k }) i s (place_below (record p { kind = k }) i (raised s size to))) (sym is) (is_over_entry p.tag p.index p.rank i s size to fits high shallow)

-- ---- a block of pointers

pub inner_count : (k : Kind) → IsInner k → slot_count k ≡ 409
inner_count (Data zero) inner = absurd (omega (arith, inner))
inner_count (Data (suc level)) inner = refl
inner_count (Dir zero) inner = absurd (omega (arith, inner))
inner_count (Dir (suc level)) inner = refl
inner_count Root inner = absurd inner

pub inner_fits : (k : Kind) (i b : ℕ) → IsInner k → b < 2 ^ 32 - 1 → SlotFits k i (To (Local b))
inner_fits (Data zero) i b inner small = small
inner_fits (Data (suc level)) i b inner small = small
inner_fits (Dir zero) i b inner small = absurd (omega (arith, inner))
inner_fits (Dir (suc level)) i b inner small = small
inner_fits Root i b inner small = absurd inner

pub inner_blank : (k : Kind) (i : ℕ) → IsInner k → (blank k).slot i ≡ To Nil
inner_blank (Data zero) i inner = refl
inner_blank (Data (suc level)) i inner = refl
inner_blank (Dir zero) i inner = absurd (omega (arith, inner))
inner_blank (Dir (suc level)) i inner = refl
inner_blank Root i inner = absurd inner

-- ---- images

-- An image of now is one of before but for the new block, and may have the new slot.
pub puts_one : {tops : ℕ → Type 0} {at i top j : ℕ} {c : Content} {s u : Slot} {t_now u_now : Image} {one two : Image → Type 0} {old mid hung new : Image → Type 0} → AddsBlock tops top c old mid → AddsSlot t_now top j u one mid hung → AddsSlot u_now at i s two hung new → PutsOne at i s top old new
puts_one {at = at} {i = i} {top = top} {j = j} {s = s} {t_now = t_now} {u_now = u_now} {old = old} {mid = mid} {hung = hung} gives first second = record {
  each = λ image is. ⊎_elim
      (λ before. of_hung image image before (λ b. refl) (λ b k. inl refl))
      (λ h. of_hung image (with_slot image at i ((u_now at).slot i)) h.1 (λ b. sym (slot_bytes image at i ((u_now at).slot i) b)) (λ b k. in_slot image b k h.0))
      (second.each image is);
}
  where
    Put : Image → Image → ℕ → ℕ → Type 0
    Put image other b k = ((image b).slot k ≡ (other b).slot k) ⊎ ((b ≡ at) × (k ≡ i) × ((image b).slot k ≡ s))

    in_slot : (image : Image) (b k : ℕ) → (image at).slot i ≡ s → Put image (with_slot image at i ((u_now at).slot i)) b k
    in_slot image b k here = ⊎_elim
        (λ b_is. ⊎_elim
        (λ k_is. inr (b_is, k_is, ap (λ x. (image x).slot k) b_is ∙ ap (λ x. (image at).slot x) k_is ∙ here))
        (λ ne. inl (sym (slot_other image at i ((u_now at).slot i) b k (inr ne))))
        (cases_eq k i))
        (λ ne. inl (sym (slot_other image at i ((u_now at).slot i) b k (inl ne))))
        (cases_eq b at)

    Is : Image → Type 0
    Is image = (other : Image) × old other × ((b : ℕ) → b ≢ top → ((image b).bytes ≡ (other b).bytes) × ((k : ℕ) → Put image other b k))

    then : (image x y : Image) (b k : ℕ) → (x b).slot k ≡ (y b).slot k → Put image x b k → Put image y b k
    then image x y b k e put = ⊎_elim (λ same. inl (same ∙ e)) (λ h. inr h) put

    of_mid : (image w : Image) → mid w → ((b : ℕ) → b ≢ top → ((image b).bytes ≡ (w b).bytes) × ((k : ℕ) → Put image w b k)) → Is image
    of_mid image w is same =
        let (d, was) = gives.before w is in (
          with_block w top d,
          was,
          λ b ne.
              let e : w b ≡ with_block w top d b = sym (block_other w top d b ne) in
              ((same b ne).0 ∙ ap (λ (x : Content). x.bytes) e, λ k. then image w (with_block w top d) b k (ap (λ (x : Content). x.slot k) e) ((same b ne).1 k)),
        )

    of_hung : (image w : Image) → hung w → ((b : ℕ) → (image b).bytes ≡ (w b).bytes) → ((b k : ℕ) → Put image w b k) → Is image
    of_hung image w is bytes slots = ⊎_elim
        (λ before. of_mid image w before (λ b ne. (bytes b, λ k. slots b k)))
        (λ h.
        let was = (t_now top).slot j in
        of_mid image (with_slot w top j was) h.1 (λ b ne. (
          bytes b ∙ sym (slot_bytes w top j was b),
          λ k. then image w (with_slot w top j was) b k (sym (slot_other w top j was b k (inl ne))) (slots b k),
        )))
        (first.each w is)
