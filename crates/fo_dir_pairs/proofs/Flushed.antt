-- Slots that waited are cleared in memory: pairs stand as they did.
use Rattle.std.proofs.Common.{◌≡◌, inl, inr, ⊎_elim, ℕ, suc, ◌+◌, ◌*◌, ◌/◌, ◌%◌, ◌<◌, List, [], ◌∷◌, ◌++◌, Contains, length, refl, sym, ◌∙◌, ap, subst, arith}
use Rattle.std.proofs.lemmas.Bool.{cases_eq}
use Rattle.fo_image.specs.declared.types.Kind.TheVariants.{Dir}
use Rattle.fo_image.specs.declared.record.Record.{Record}
use Rattle.fo_good.specs.Reading.{leaf_records}
use Rattle.fo_good.specs.Trees.{IsFirst, IsSecond}
use Rattle.fo_crash.specs.declared.slot.Slot.{Slot}
use Rattle.fo_crash.specs.declared.slot.Slot.TheVariants.{Entry as Head}
use Rattle.fo_crash.specs.Images.{Image, with_slot}
use Rattle.fo_crash.specs.Places.{place}
use Rattle.fo_crash.specs.Spots.{Spot, FoundAt, spot_below}
use Rattle.fo_crash.specs.Steps.{IsCleared, cleared}
use Rattle.fo_crash.proofs.Updates.{slot_bytes, slot_other, slot_here}
use Rattle.fo_ports.specs.State.{State, WasCleared}
use Rattle.fo_ports.specs.Shown.{active}
use Rattle.fo_shown.proofs.Uses.{UsesSlot, found_or_uses}
use Rattle.fo_dir_put.specs.Paired.{HasBoth}
use Rattle.fo_dir_pairs.specs.Pairs.{IsNamed, HasFirst, HasPairAt, ShowsRecord, PairsStand, entries_spot, entries_trail}
use Rattle.fo_dir_pairs.specs.Calls.{ClearsWaiting}
use Rattle.fo_dir_pairs.proofs.Finding.{HasWays, same_spot, same_block, there_found}
use Rattle.fo_dir_pairs.proofs.Still.{numbers, grows}
use Rattle.fo_dir_pairs.proofs.Trails.{length_less}
use Rattle.fo_dir_pairs.proofs.Walks.{named_before, found_after}

same_length : (xs : List ℕ) → length (entries_trail xs) ≡ length xs
same_length [] = refl
same_length (x ∷ xs) = refl

dir_below : (z : Spot) (i : ℕ) (s : Slot) → z.place.kind ≡ Dir 0 → (spot_below z i s).trail ≡ (204 * z.place.index + i) ∷ z.trail
dir_below z i s e = subst (λ k. (spot_below (record { place = place k z.place.tag z.place.index z.place.rank; trail = z.trail }) i s).trail ≡ (204 * z.place.index + i) ∷ z.trail) (sym e) refl

-- what is found by a slot of a leaf of entries has a longer trail
uses_longer : {image other : Image} {at j b : ℕ} {s : Slot} {q : Spot} {path : List ℕ} → (u : UsesSlot image other at j s b q path) → u.holder.place.kind ≡ Dir 0 → length u.holder.trail < length q.trail
uses_longer {image} {other} {at} {j} {b} {s} {q} u kind =
    let grown = grows image u.rest s (spot_below u.holder j s) in
    let whole : q.trail ≡ grown.0 ++ (204 * u.holder.place.index + j) ∷ u.holder.trail = ap (λ (x : Spot). x.trail) (sym u.goes.spot) ∙ grown.1 ∙ ap (λ t. grown.0 ++ t) (dir_below u.holder j s kind) in
    let less = length_less grown.0 (204 * u.holder.place.index + j) u.holder.trail in
    let same = ap length whole in
    omega (arith, less, same)

module _ (old new : State) (flush : ClearsWaiting old new) (ways : HasWays old) (stand : PairsStand old) (image : Image) (is : new.may_leave image) (p : Spot) (r : Record) (shows : ShowsRecord image p r) where
  abbrev home : Spot
  home = entries_spot p (r.slot / 102)

  -- an image in which a slot of the directory's entries is cleared, too, shows the record
  module _ (e j : ℕ) (found : FoundAt active old.now e home) where
    abbrev other : Image
    other = with_slot image e j (cleared ((old.now e).slot j))

    at_home : (z : Spot) → FoundAt active image e z → home ≡ z
    at_home z f = same_spot ways ways.present (flush.images.each image is) found f

    found_too : (b : ℕ) (q : Spot) → (length q.trail < suc (length p.trail)) → FoundAt active image b q → FoundAt active other b q
    found_too b q short f = ⊎_elim
        (λ h. h.found)
        (λ u.
        let same = at_home u.holder u.above in
        let longer = uses_longer u (ap (λ (z : Spot). z.place.kind) (sym same)) in
        let long : length home.trail ≡ length u.holder.trail = ap (λ (z : Spot). length z.trail) same in
        let all = same_length p.trail in
        absurd (omega (arith, longer, long, all, short)))
        (found_or_uses image e j ((image e).slot j) (cleared ((old.now e).slot j)) refl f)

    named_too : IsNamed other (entries_trail p.trail) p.place.tag
    named_too =
        let n = shows.first in
        let number = numbers n.at n.slot (Head n.entry) n.holds n.within in
        let trail : number.number ∷ n.at.trail ≡ entries_trail p.trail = sym number.trail_is ∙ n.trail_is in
        let long : suc (length n.at.trail) ≡ length (entries_trail p.trail) = ap length trail in
        let all = same_length p.trail in
        record {
          block = n.block;
          at = n.at;
          slot = n.slot;
          entry = n.entry;
          found = found_too n.block n.at (omega (arith, long, all)) n.found;
          holds = n.holds;
          within = n.within;
          is = slot_other image e j (cleared ((old.now e).slot j)) n.block n.slot (⊎_elim
              (λ here.
              let same = at_home n.at (subst (λ b. FoundAt active image b n.at) here n.found) in
              let twice : length (entries_trail p.trail) ≡ length n.at.trail = ap (λ (z : Spot). length z.trail) same in
              absurd (omega (arith, twice, long)))
              (λ ne. inl ne)
              (cases_eq n.block e)) ∙ n.is;
          used = n.used;
          trail_is = n.trail_is;
          tag_is = n.tag_is;
        }

    shows_too : ShowsRecord other p r
    shows_too = record {
      of = shows.of;
      block = shows.block;
      found = found_too shows.block p (omega arith) shows.found;
      listed = subst (λ xs. Contains (leaf_records xs) r) (sym (slot_bytes image e j (cleared ((old.now e).slot j)) shows.block)) shows.listed;
      first = named_too;
    }

    module _ (clears : WasCleared old new e j) where
      is_cleared : IsCleared (WasCleared old new) old.now image other
      is_cleared = record {
        bytes = slot_bytes image e j (cleared ((old.now e).slot j));
        each = λ b i. ⊎_elim
            (λ is_e. ⊎_elim
            (λ is_j. inr (subst (λ k. WasCleared old new k i) (sym is_e) (subst (λ k. WasCleared old new e k) (sym is_j) clears), ap (λ k. (other k).slot i) is_e ∙ ap (λ k. (other e).slot k) is_j ∙ slot_here image e j (cleared ((old.now e).slot j)) ∙ ap (λ k. cleared ((old.now e).slot k)) (sym is_j) ∙ ap (λ k. cleared ((old.now k).slot i)) (sym is_e)))
            (λ ne. inl (slot_other image e j (cleared ((old.now e).slot j)) b i (inr ne)))
            (cases_eq i j))
            (λ ne. inl (slot_other image e j (cleared ((old.now e).slot j)) b i (inl ne)))
            (cases_eq b e);
      }

      was : old.may_leave other
      was = flush.fills.each image other is is_cleared

      -- so the record has its pair with the slot cleared
      both_cleared : HasBoth e other r
      both_cleared =
          let h = (stand.each other was).each p r shows_too in
          let here = there_found ways (flush.hangs e j clears.0 other was) was found in
          subst (λ b. HasBoth b other r) (same_block ways was h.found here) h.both

      slot_is : (other e).slot j ≡ (new.now e).slot j
      slot_is = slot_here image e j (cleared ((old.now e).slot j)) ∙ sym clears.2

  -- memory keeps the record's pair
  pair_after : HasWays new → HasFirst new.now p → HasPairAt new.now p r
  pair_after ways_too named =
      let h = stand.memory image p r (flush.images.each image is) shows (named_before old new flush (entries_trail p.trail) p.place.tag named) in
      let after = found_after old new flush ways ways_too h.found named in
      record {
        block = h.block;
        found = after.0;
        both = record {
          first = ⊎_elim
              (λ k. subst (λ (s : Slot). IsFirst s r) (sym k.0) h.both.first)
              (λ w. subst (λ (s : Slot). IsFirst s r) (slot_is h.block (2 * (r.slot % 102)) h.found w) (both_cleared h.block (2 * (r.slot % 102)) h.found w).first)
              (flush.known h.block after.1 (2 * (r.slot % 102)));
          second = ⊎_elim
              (λ k. subst (λ (s : Slot). IsSecond s r) (sym k.0) h.both.second)
              (λ w. subst (λ (s : Slot). IsSecond s r) (slot_is h.block (2 * (r.slot % 102) + 1) h.found w) (both_cleared h.block (2 * (r.slot % 102) + 1) h.found w).second)
              (flush.known h.block after.1 (2 * (r.slot % 102) + 1));
        };
      }

pub flushed_stand : (old new : State) → ClearsWaiting old new → HasWays old → HasWays new → PairsStand old → PairsStand new
flushed_stand old new flush ways ways_too stand = record {
  each = λ image is. stand.each image (flush.images.each image is);
  memory = λ image p r is shows named. pair_after old new flush ways stand image is p r shows ways_too named;
}
