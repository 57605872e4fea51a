-- An entry is cleared, or waits to be, which no record has that an image with it shows.
use Rattle.std.proofs.Common.{◌≡◌, ◌⊎◌, inl, inr, ⊎_elim, ℕ, ◌+◌, ◌*◌, ◌/◌, ◌%◌, ◌<◌, true, false, List, Contains, refl, sym, ◌∙◌, ap, subst}
use Rattle.fo_image.specs.declared.types.Entry.{Entry}
use Rattle.fo_image.specs.declared.types.Kind.TheVariants.{Dir}
use Rattle.fo_image.specs.declared.record.Record.{Record}
use Rattle.fo_good.specs.Reading.{leaf_records}
use Rattle.fo_crash.specs.declared.slot.Slot.{Slot}
use Rattle.fo_crash.specs.declared.slot.Slot.TheVariants.{Pointer as To, Entry as Head, Prev}
use Rattle.fo_crash.specs.declared.place.Place.{Place}
use Rattle.fo_crash.specs.Images.{Image, Reaches, SameImage, target, to_block}
use Rattle.fo_crash.specs.Places.{super_place, IsPlaced}
use Rattle.fo_crash.specs.Spots.{Spot, FoundAt, FewSlots}
use Rattle.fo_crash.specs.Steps.{AddsSlot, HasBytes, PutsSlot, cleared}
use Rattle.fo_crash.proofs.Updates.{slot_bytes, slot_other}
use Rattle.fo_ports.specs.State.{State}
use Rattle.fo_ports.specs.Shown.{active}
use Rattle.fo_shown.proofs.Showing.{cleared_nowhere}
use Rattle.fo_shown.proofs.Ways.{found_stands}
use Rattle.fo_alike.specs.Like.{IsOfEntries}
use Rattle.fo_dir_pairs.specs.Pairs.{IsNamed, HasFirst, HasPairAt, ShowsRecord, PairsStand, entries_spot, entries_trail}
use Rattle.fo_dir_pairs.specs.Calls.{IsUnlisted}
use Rattle.fo_dir_pairs.proofs.Beside.{found_beside, named_beside, both_beside, which_pair}
use Rattle.fo_dir_pairs.proofs.Finding.{HasWays, reach_found, same_spot, same_block, there_found, named_on, pair_on}
use Rattle.fo_dir_pairs.proofs.Puts.{before, same_entry}
use Rattle.fo_dir_pairs.proofs.Still.{ClearsOne, still_found}

module _ {stands holds : ℕ → Place → Type 0} (image other : Image) (at j k : ℕ) (which : (j ≡ 2 * k) ⊎ (j ≡ 2 * k + 1)) (clears : ClearsOne at j image other) (few_slots : j < 204) (entries : (z : Spot) → FoundAt active image at z → IsOfEntries z)
    (super_at : stands 1 super_place) (placed : IsPlaced stands image) (few : FewSlots stands image) (super_too : holds 1 super_place) (placed_too : IsPlaced holds other) (few_too : FewSlots holds other) where
  -- a record of a directory that is named in the second image keeps its pair there, if it is not this one
  pub pair_still : (p : Spot) (r : Record) → HasFirst other p → (FoundAt active image at (entries_spot p (r.slot / 102)) → r.slot % 102 ≡ k → ⊥) → HasPairAt image p r → HasPairAt other p r
  pair_still p r named not h = record {
    block = h.block;
    found = still_found image other at j clears few_slots entries super_at placed few super_too placed_too few_too h.found named;
    both = ⊎_elim
        (λ is. absurd (not (subst (λ e. FoundAt active image e (entries_spot p (r.slot / 102))) is.0 h.found) is.1))
        (λ ne. both_beside image other at j k h.block r which clears.others ne h.both)
        (which_pair at k h.block r);
  }

-- the image before shows what the image with the cleared slot shows
module _ (image other : Image) (at j : ℕ) (clears : ClearsOne at j image other) (bytes : (b : ℕ) → (image b).bytes ≡ (other b).bytes) where
  back_named : (trail : List ℕ) (tag : ℕ) → IsNamed other trail tag → IsNamed image trail tag
  back_named trail tag n = ⊎_elim
      (λ h. h)
      (λ by. absurd (clears.unused by.entry by.is by.used.0))
      (named_beside other image at j clears.nil (λ b i ne. sym (clears.others b i ne)) trail tag n)

  back_shown : (p : Spot) (r : Record) → ShowsRecord other p r → ShowsRecord image p r
  back_shown p r s = record {
    of = s.of;
    block = s.block;
    found = found_beside other image at j clears.nil (λ b i ne. sym (clears.others b i ne)) s.found;
    listed = subst (λ xs. Contains (leaf_records xs) r) (sym (bytes s.block)) s.listed;
    first = back_named (entries_trail p.trail) p.place.tag s.first;
  }

pub cleared_unused : (s : Slot) (e : Entry) → cleared s ≡ Head e → e.active ≡ true → ⊥
cleared_unused (Head f) e is on = let off : e.active ≡ false = ap (λ (x : Entry). x.active) (sym (same_entry is)) in let no : true ≡ false = sym on ∙ off in cc
cleared_unused (To p) e is on = absurd (cc)
cleared_unused (Prev n a) e is on = absurd (cc)

clears_now : {at j : ℕ} {now next : Image} → PutsSlot at j (cleared ((now at).slot j)) now next → ClearsOne at j now next
clears_now {at} {j} {now} puts = record {
  nil = ap target puts.here ∙ cleared_nowhere ((now at).slot j);
  unused = λ e is on. cleared_unused ((now at).slot j) e (sym puts.here ∙ is) on;
  others = puts.others;
}

clears_image : (old : State) (at j : ℕ) (image : Image) → (image at).slot j ≡ cleared ((old.now at).slot j) → ClearsOne at j (before old at j image) image
clears_image old at j image put = record {
  nil = ap target put ∙ cleared_nowhere ((old.now at).slot j);
  unused = λ e is on. cleared_unused ((old.now at).slot j) e (sym put ∙ is) on;
  others = λ b i ne. sym (slot_other image at j ((old.now at).slot j) b i ne);
}

-- An old image shows the record, too.
record WasShown (old : State) (leaf : ℕ) (image : Image) (p : Spot) (r : Record) : Type 0 where
  other : Image
  is : old.may_leave other
  shows : ShowsRecord other p r
  bytes : (other leaf).bytes ≡ (image leaf).bytes

module _ (old new : State) (at j k leaf : ℕ) (which : (j ≡ 2 * k) ⊎ (j ≡ 2 * k + 1)) (few_slots : j < 204) (dir : (p : Place) → old.stands at p → p.kind ≡ Dir 0) (ways : HasWays old) (ways_too : HasWays new)
    (linked : Reaches old.now (to_block 1) at) (there : (image : Image) → old.may_leave image → Reaches image (to_block 1) leaf) (unlisted : IsUnlisted old k leaf at) (stand : PairsStand old) where
  -- an image with the leaf as memory has it shows no record of the pair
  none : (image : Image) (p : Spot) (r : Record) → old.may_leave image → (image leaf).bytes ≡ (old.now leaf).bytes → ShowsRecord image p r → FoundAt active old.now at (entries_spot p (r.slot / 102)) → r.slot % 102 ≡ k → ⊥
  none image p r is same s found pair =
      unlisted.elsewhere image p r is s found pair (λ at_leaf.
      let here = there_found ways (there image is) is at_leaf in
      let block : s.block ≡ leaf = same_block ways is s.found here in
      (unlisted.memory (entries_spot p (r.slot / 102)) found).each r (subst (λ xs. Contains (leaf_records xs) r) (ap (λ b. (image b).bytes) block ∙ same) s.listed) refl pair)

  holders : (image : Image) → old.may_leave image → (z : Spot) → FoundAt active image at z → IsOfEntries z
  holders image is z found = inl (dir z.place (found_stands ways.super_at (ways.placed image is) found))

  in_memory : (image : Image) (z : Spot) → old.may_leave image → FoundAt active image at z → FoundAt active old.now at z
  in_memory image z is found = let h = reach_found linked in subst (λ x. FoundAt active old.now at x) (same_spot ways ways.present is h.1 found) h.1

  module _ (adds : AddsSlot old.now at j (cleared ((old.now at).slot j)) (λ image. (image leaf).bytes ≡ (old.now leaf).bytes) old.may_leave new.may_leave) where
    here : (image : Image) (p : Spot) (r : Record) → new.may_leave image → (image at).slot j ≡ cleared ((old.now at).slot j) → old.may_leave (before old at j image) → (image leaf).bytes ≡ (old.now leaf).bytes → ShowsRecord image p r → HasPairAt image p r
    here image p r is put was same s =
        let other = before old at j image in
        let clears = clears_image old at j image put in
        let bytes = slot_bytes image at j ((old.now at).slot j) in
        let shows = back_shown other image at j clears bytes p r s in
        pair_still other image at j k which clears few_slots (holders other was) ways.super_at (ways.placed other was) (ways.few other was) ways_too.super_at (ways_too.placed image is) (ways_too.few image is) p r s.first
        (λ found pair. none other p r was (bytes leaf ∙ same) shows (in_memory other (entries_spot p (r.slot / 102)) was found) pair)
        ((stand.each other was).each p r shows)

    was_shown : (image : Image) (p : Spot) (r : Record) → new.may_leave image → ShowsRecord image p r → WasShown old leaf image p r
    was_shown image p r is s = ⊎_elim
        (λ was. record { other = image; is = was; shows = s; bytes = refl })
        (λ h. record { other = before old at j image; is = h.1; shows = back_shown (before old at j image) image at j (clears_image old at j image h.0) (slot_bytes image at j ((old.now at).slot j)) p r s; bytes = slot_bytes image at j ((old.now at).slot j) leaf })
        (adds.each image is)

    memory : (image : Image) (p : Spot) (r : Record) → new.may_leave image → (PutsSlot at j (cleared ((old.now at).slot j)) old.now new.now × HasBytes old.now leaf new.may_leave) ⊎ SameImage new.now old.now → ShowsRecord image p r → HasFirst new.now p → HasPairAt new.now p r
    memory image p r is (inl h) s named =
        let was = was_shown image p r is s in
        let clears = clears_now h.0 in
        let first = back_named old.now new.now at j clears (λ b. sym (h.0.bytes b)) (entries_trail p.trail) p.place.tag named in
        pair_still old.now new.now at j k which clears few_slots (holders old.now ways.present) ways.super_at (ways.placed old.now ways.present) (ways.few old.now ways.present) ways_too.super_at (ways_too.placed new.now ways_too.present) (ways_too.few new.now ways_too.present) p r named
        (λ found pair. none was.other p r was.is (was.bytes ∙ h.1.each image is) was.shows found pair)
        (stand.memory was.other p r was.is was.shows first)
    memory image p r is (inr same) s named =
        let was = was_shown image p r is s in
        pair_on (λ a i. sym ((same.each a).slots i)) (stand.memory was.other p r was.is was.shows (named_on (λ a i. (same.each a).slots i) named))

    pub clear_stand : (PutsSlot at j (cleared ((old.now at).slot j)) old.now new.now × HasBytes old.now leaf new.may_leave) ⊎ SameImage new.now old.now → PairsStand new
    clear_stand now = record {
      each = λ image is. record { each = λ p r s. ⊎_elim (λ was. (stand.each image was).each p r s) (λ h. here image p r is h.0 h.1 h.2 s) (adds.each image is) };
      memory = λ image p r is s named. memory image p r is now s named;
    }
