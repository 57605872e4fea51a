-- The two entries of a free pair are put: what a new image shows, an old one showed, and its pairs are those of the new image.
use Rattle.std.proofs.Common.{◌≡◌, ◌≢◌, ◌⊎◌, inl, inr, ⊎_elim, ℕ, suc, ◌+◌, ◌*◌, ◌/◌, ◌%◌, true, false, List, Contains, refl, sym, ◌∙◌, ap, subst, arith}
use Rattle.std.proofs.lemmas.Bool.{cases_eq}
use Rattle.fo_image.specs.declared.types.Entry.{Entry}
use Rattle.fo_image.specs.declared.types.Pointer.TheVariants.{Nil}
use Rattle.fo_image.specs.declared.record.Record.{Record}
use Rattle.fo_good.specs.Reading.{leaf_records}
use Rattle.fo_crash.specs.declared.slot.Slot.{Slot}
use Rattle.fo_crash.specs.declared.slot.Slot.TheVariants.{Entry as Head}
use Rattle.fo_crash.specs.Images.{Image, Reaches, target, to_block, with_slot}
use Rattle.fo_crash.specs.Names.{IsInUse}
use Rattle.fo_crash.specs.Spots.{Spot, FoundAt}
use Rattle.fo_crash.specs.Steps.{AddsSlot, PutsSlot}
use Rattle.fo_crash.proofs.Updates.{slot_bytes, slot_other, slot_here}
use Rattle.fo_ports.specs.State.{State}
use Rattle.fo_ports.specs.Shown.{active, IsOfRecords}
use Rattle.fo_dir_put.specs.Puts.{PutsPair}
use Rattle.fo_dir_pairs.specs.Pairs.{IsNamed, HasFirst, HasPairAt, ShowsRecord, PairsStand, entries_spot, entries_trail}
use Rattle.fo_dir_pairs.specs.Calls.{AddsPair, IsOfNamed, IsUnseen, MayHaveSlot}
use Rattle.fo_dir_pairs.proofs.Beside.{IsNamedBy, found_beside, named_beside}
use Rattle.fo_dir_pairs.proofs.Finding.{HasWays}
use Rattle.fo_dir_pairs.proofs.Puts.{free_none, free_unshown, found_now, pair_beside, same_entry}

-- Of two images that differ in one slot, where the second has an entry that leads nowhere and the first nothing: what the second shows, but
-- for the directory that the entry names, the first shows.
module _ (image other : Image) (at i : ℕ) (f : Entry) (put : (other at).slot i ≡ Head f) (empty : f.top ≡ Nil) (same : (b j : ℕ) → (b ≢ at) ⊎ (j ≢ i) → (other b).slot j ≡ (image b).slot j) where
  pub found_back : {b : ℕ} {p : Spot} → FoundAt active other b p → FoundAt active image b p
  found_back f = found_beside other image at i (ap target put ∙ empty) (λ b j ne. sym (same b j ne)) f

  pub named_back : (trail : List ℕ) (tag : ℕ) → (f.dir ≡ true → suc f.tag ≡ tag → ⊥) → IsNamed other trail tag → IsNamed image trail tag
  named_back trail tag not n = ⊎_elim
      (λ h. h)
      (λ (by : IsNamedBy other at i tag).
      let e : by.entry ≡ f = same_entry (sym by.is ∙ put) in
      absurd (not (ap (λ (x : Entry). x.dir) (sym e) ∙ by.used.1) (ap (λ (x : Entry). suc x.tag) (sym e) ∙ by.tag_is)))
      (named_beside other image at i (ap target put ∙ empty) (λ b j ne. sym (same b j ne)) trail tag n)

  pub shown_back : (p : Spot) (r : Record) → (f.dir ≡ true → suc f.tag ≡ p.place.tag → ⊥) → ((b : ℕ) → (image b).bytes ≡ (other b).bytes) → ShowsRecord other p r → ShowsRecord image p r
  shown_back p r not bytes s = record {
    of = s.of;
    block = s.block;
    found = found_back s.found;
    listed = subst (λ xs. Contains (leaf_records xs) r) (sym (bytes s.block)) s.listed;
    first = named_back (entries_trail p.trail) p.place.tag not s.first;
  }

-- Nobody uses the slot, and it leads nowhere.
pub record IsFree (now : Image) (at i : ℕ) : Type 0 where
  pub unused : (g : ℕ) → IsInUse ((now at).slot i) g → ⊥
  pub bare : target ((now at).slot i) ≡ Nil

-- An old image shows the record, and if it has its pair, so has this one.
pub record Traces (old : State) (image : Image) (p : Spot) (r : Record) : Type 0 where
  pub other : Image
  pub is : old.may_leave other
  pub shows : ShowsRecord other p r
  pub pair : HasPairAt other p r → HasPairAt image p r

module _ (old : State) (at k : ℕ) (first second : Entry) (free_first : IsFree old.now at (2 * k)) (free_second : IsFree old.now at (2 * k + 1)) (empty_first : first.top ≡ Nil) (empty_second : second.top ≡ Nil) (plain : second.dir ≡ false)
    (ways : HasWays old) (linked : Reaches old.now (to_block 1) at) (named : IsOfNamed old at) (unseen : first.dir ≡ true → IsUnseen old.may_leave first.tag) (stand : PairsStand old) where
  abbrev less : Image → Image
  less image = with_slot image at (2 * k) ((old.now at).slot (2 * k))

  abbrev least : Image → Image
  least image = with_slot image at (2 * k + 1) ((old.now at).slot (2 * k + 1))

  -- no old image shows a record of the pair
  apart : (image : Image) (p : Spot) (r : Record) → old.may_leave image → ShowsRecord image p r → FoundAt active image at (entries_spot p (r.slot / 102)) → r.slot % 102 ≡ k → ⊥
  apart image p r is s found pair = free_unshown ways stand named.each free_first.unused is s (found_now ways linked is found) pair

  not_second : second.dir ≡ true → {t : ℕ} → suc second.tag ≡ t → ⊥
  not_second dir e = let no : true ≡ false = sym dir ∙ plain in cc

  -- with the second entry, or not yet
  mid : (image : Image) (p : Spot) (r : Record) → MayHaveSlot old.now at (2 * k + 1) (Head second) old.may_leave image → ShowsRecord image p r → Traces old image p r
  mid image p r (inl is) s = record { other = image; is = is; shows = s; pair = λ h. h }
  mid image p r (inr h) s =
      let other = least image in
      let o = (old.now at).slot (2 * k + 1) in
      let shows = shown_back other image at (2 * k + 1) second h.0 empty_second (λ b j ne. sym (slot_other image at (2 * k + 1) o b j ne)) p r (λ dir e. not_second dir e) (slot_bytes image at (2 * k + 1) o) s in
      record {
        other = other;
        is = h.1;
        shows = shows;
        pair = pair_beside other image at (2 * k + 1) k (inr refl) (ap target (slot_here image at (2 * k + 1) o) ∙ free_second.bare) (λ b j ne. sym (slot_other image at (2 * k + 1) o b j ne)) p r (λ found pair both. apart other p r h.1 shows found pair);
      }

  -- an old image finds what one with the second entry finds
  mid_found : (image : Image) (b : ℕ) (p : Spot) → MayHaveSlot old.now at (2 * k + 1) (Head second) old.may_leave image → FoundAt active image b p → (other : Image) × old.may_leave other × FoundAt active other b p
  mid_found image b p (inl is) f = (image, is, f)
  mid_found image b p (inr h) f = (least image, h.1, found_back (least image) image at (2 * k + 1) second h.0 empty_second (λ b j ne. sym (slot_other image at (2 * k + 1) ((old.now at).slot (2 * k + 1)) b j ne)) f)

  not_first : (image : Image) (b : ℕ) (p : Spot) → MayHaveSlot old.now at (2 * k + 1) (Head second) old.may_leave image → FoundAt active image b p → IsOfRecords p → first.dir ≡ true → suc first.tag ≡ p.place.tag → ⊥
  not_first image b p is f of dir e = let h = mid_found image b p is f in (unseen dir).none h.0 b p h.1 h.2 of (sym e)

  pub traces : (image : Image) (p : Spot) (r : Record) → MayHaveSlot old.now at (2 * k) (Head first) (MayHaveSlot old.now at (2 * k + 1) (Head second) old.may_leave) image → ShowsRecord image p r → Traces old image p r
  traces image p r (inl is) s = mid image p r is s
  traces image p r (inr h) s =
      let other = less image in
      let o = (old.now at).slot (2 * k) in
      let same : (b j : ℕ) → (b ≢ at) ⊎ (j ≢ 2 * k) → (image b).slot j ≡ (other b).slot j = λ b j ne. sym (slot_other image at (2 * k) o b j ne) in
      let found = found_back other image at (2 * k) first h.0 empty_first same s.found in
      let shows = shown_back other image at (2 * k) first h.0 empty_first same p r (not_first other s.block p h.1 found s.of) (slot_bytes image at (2 * k) o) s in
      let before = mid other p r h.1 shows in
      record {
        other = before.other;
        is = before.is;
        shows = before.shows;
        pair = λ x. pair_beside other image at (2 * k) k (inl refl) (ap target (slot_here image at (2 * k) o) ∙ free_first.bare) same p r
            (λ at_home pair both. free_none {image = other} {r = r} (λ g used. free_first.unused g (subst (λ (t : Slot). IsInUse t g) (slot_here image at (2 * k) o) used)) pair both)
            (before.pair x);
      }

  -- memory, with the first entry taken back
  module _ (new : State) (puts : PutsPair at k first second old new) where
    abbrev between : Image
    between = less new.now

    between_put : (between at).slot (2 * k + 1) ≡ Head second
    between_put = slot_other new.now at (2 * k) ((old.now at).slot (2 * k)) at (2 * k + 1) (inr (λ e. omega (arith, e))) ∙ puts.second_is

    between_same : (b j : ℕ) → (b ≢ at) ⊎ (j ≢ 2 * k + 1) → (between b).slot j ≡ (old.now b).slot j
    between_same b j ne = ⊎_elim
        (λ is_at. ⊎_elim
        (λ is_k. ap (λ x. (between x).slot j) is_at ∙ ap (λ x. (between at).slot x) is_k ∙ slot_here new.now at (2 * k) ((old.now at).slot (2 * k)) ∙ ap (λ x. (old.now at).slot x) (sym is_k) ∙ ap (λ x. (old.now x).slot j) (sym is_at))
        (λ other. slot_other new.now at (2 * k) ((old.now at).slot (2 * k)) b j (inr other) ∙ puts.others b j (⊎_elim (λ n. inl n) (λ n. inr (other, n)) ne))
        (cases_eq j (2 * k)))
        (λ other. slot_other new.now at (2 * k) ((old.now at).slot (2 * k)) b j (inl other) ∙ puts.others b j (inl other))
        (cases_eq b at)

    last_same : (b j : ℕ) → (b ≢ at) ⊎ (j ≢ 2 * k) → (new.now b).slot j ≡ (between b).slot j
    last_same b j ne = sym (slot_other new.now at (2 * k) ((old.now at).slot (2 * k)) b j ne)

    pub memory_named : (p : Spot) → (first.dir ≡ true → suc first.tag ≡ p.place.tag → ⊥) → HasFirst new.now p → HasFirst old.now p
    memory_named p not n = named_back old.now between at (2 * k + 1) second between_put empty_second between_same (entries_trail p.trail) p.place.tag (λ dir e. not_second dir e)
        (named_back between new.now at (2 * k) first puts.first_is empty_first last_same (entries_trail p.trail) p.place.tag not n)

    pub memory_pair : (p : Spot) (r : Record) → HasPairAt old.now p r → HasPairAt new.now p r
    memory_pair p r h = pair_beside between new.now at (2 * k) k (inl refl) (ap target (slot_here new.now at (2 * k) ((old.now at).slot (2 * k))) ∙ free_first.bare) last_same p r
        (λ found pair both. free_none {image = between} {r = r} (λ g used. free_first.unused g (subst (λ (t : Slot). IsInUse t g) (slot_here new.now at (2 * k) ((old.now at).slot (2 * k))) used)) pair both)
        (pair_beside old.now between at (2 * k + 1) k (inr refl) free_second.bare between_same p r (λ found pair both. free_none {image = old.now} {r = r} free_first.unused pair both) h)

    pub pair_stands : AddsPair old.now at k first second old.may_leave new.may_leave → PairsStand new
    pair_stands adds = record {
      each = λ image is. record { each = λ p r s. let t = traces image p r (adds.each image is) s in t.pair ((stand.each t.other t.is).each p r t.shows) };
      memory = λ image p r is s n.
          let t = traces image p r (adds.each image is) s in
          memory_pair p r (stand.memory t.other p r t.is t.shows (memory_named p (λ dir e. (unseen dir).none t.other t.shows.block p t.is t.shows.found t.shows.of (sym e)) n));
    }

-- what the two calls of a put say
pub slots_add : {now next : Image} {at k : ℕ} {first second : Entry} {old mid new : Image → Type 0} → AddsSlot now at (2 * k + 1) (Head second) (λ image. Unit {0}) old mid → PutsSlot at (2 * k + 1) (Head second) now next → AddsSlot next at (2 * k) (Head first) (λ image. Unit {0}) mid new
    → AddsPair now at k first second old new
slots_add {now} {next} {at} {k} {first} {second} {old} {mid} one puts two = record {
  each = λ image is. ⊎_elim
      (λ was. inl (back image was))
      (λ h. inr (h.0, back (with_slot image at (2 * k) ((now at).slot (2 * k))) (subst (λ (s : Slot). mid (with_slot image at (2 * k) s)) (puts.others at (2 * k) (inr (λ e. omega (arith, e)))) h.1)))
      (two.each image is);
}
  where
    back : (image : Image) → mid image → MayHaveSlot now at (2 * k + 1) (Head second) old image
    back image is = ⊎_elim (λ was. inl was) (λ h. inr (h.0, h.1)) (one.each image is)
