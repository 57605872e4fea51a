-- What the laws of the steps still want.
use Rattle.std.proofs.Common.{◌≡◌, ◌≢◌, inl, inr, ⊎_elim, ℕ, false, List, sym, ◌∙◌, subst}
use Rattle.std.specs.List.{Contains}
use Rattle.fo_image.specs.declared.types.Label.{Label}
use Rattle.fo_image.specs.declared.types.Pointer.TheVariants.{Local}
use Rattle.fo_crash.specs.declared.slot.Slot.{Slot}
use Rattle.fo_crash.specs.declared.place.Place.{Place}
use Rattle.fo_crash.specs.Images.{Content, Image, to_block}
use Rattle.fo_crash.specs.Places.{super_place}
use Rattle.fo_crash.specs.Steps.{AddsNothing, AddsSlot, Brings, Fills, HasBytes, IsOneOf, cleared}
use Rattle.fo_crash.proofs.Reach.{lost}
use Rattle.fo_crash.proofs.Sure.{same_if}
use Rattle.fo_cells.specs.Known.{Known, Wait, Clear, IsWait, IsClear, IsSince, IsLeft, Images, Remains, Stands}
use Rattle.fo_cells.specs.Writes.{Puts, Gives, Relabels, Fires}
use Rattle.fo_cells.specs.Calls.{IsSetLeaf, SuperStays}
use Rattle.fo_cells.specs.Safe.{super_top, IsLive, IsSafe}
use Rattle.fo_cells.proofs.Standing.{at_b, stands_top}
use Rattle.fo_cells.proofs.Settling.{Fewer, fewer_adds, same_seen}
use Rattle.fo_cells.proofs.Putting.{put_adds}
use Rattle.fo_cells.proofs.Filling.{fill_one}
use Rattle.fo_cells.proofs.Waiting.{cleared_leads, leaf_set}
use Rattle.fo_cells.proofs.Super.{remains_slot, super_fewer, whole_same}
use Rattle.fo_cells.proofs.Read.{rebuilt, here, rebuilt_may, rebuilt_same}

-- a cleared slot brings nothing
pub nothing_brought : (k : Known) {high : ℕ} (s : Slot) → Brings k.memory (cleared s) (λ b. IsLive high (k.label b))
nothing_brought k s = record { each = λ b r. absurd (lost k.memory r.path (cleared s) (λ c e. cleared_leads s c e) b r.leads) }

-- A SLOT IS CLEARED AT ONCE, where the leaf is set
pub removal_has : {at i leaf : ℕ} {s : Slot} {old new : Known} → Puts at i s old new → IsSetLeaf new leaf → HasBytes old.memory leaf (Remains new)
removal_has {leaf = leaf} u set = record { each = λ image r. (leaf_set set).each image r.cells ∙ u.memory.bytes leaf }

pub removal_adds : {at i leaf : ℕ} {s : Slot} {old new : Known} → Puts at i s old new → IsSetLeaf new leaf → at ≢ 1 → SuperStays old new → AddsSlot old.memory at i s (λ image. (image leaf).bytes ≡ (old.memory leaf).bytes) (Remains old) (Remains new)
removal_adds u set other stays =
    let adds = remains_slot other (put_adds u) stays in
    record { each = λ image r. ⊎_elim (λ was. inl was) (λ h. inr (h.0, h.1, (removal_has u set).each image r)) (adds.each image r) }

-- A BLOCK IS CLOSED: nothing that the images stand on changes
pub close_adds : {b : ℕ} {l : Label} {old new : Known} → Relabels b l old new → AddsNothing (Images old) (Images new)
close_adds {b} {l} {old} {new} r =
    let f : Fewer old new = record {
      memory = r.memory;
      stood = λ a c h. subst (λ (cs : List Content). Contains cs c) (same_seen old new r.memory r.device.newborn r.device.late r.device.versions a) h;
      waits = λ leaf on j h. inl (subst (λ (ws : List Wait). IsWait ws leaf on j) (sym r.waits) h);
      clears = λ a i leaf h. subst (λ (cs : List Clear). IsClear cs a i leaf) r.clears h;
      since = λ a i leaf bytes h. subst (λ (cs : List Clear). IsSince cs a i leaf bytes) r.clears h;
    } in
    fewer_adds f

-- A BLOCK IS GIVEN OUT
pub give_super : {at : ℕ} {c : Content} {p : Place} {old new : Known} → Gives at c p old new → at ≢ 1 → SuperStays old new
give_super g other = record {
  memory = g.memory.others 1 (λ e. other (sym e));
  versions = λ d h. inl (subst (λ (cs : List Content). Contains cs d) (at_b 1 g.versions) h);
}

-- A SLOT THAT WAITED IS CLEARED
pub one_fill : {at i leaf : ℕ} {old new : Known} → Fires at i leaf old new → at ≢ 1 → SuperStays old new → Fills (λ b j. (b ≡ at) × (j ≡ i)) old.memory (Remains old) (Remains new)
one_fill {at} {i} {leaf} {old} {new} r other stays = record {
  each = λ image next m c. record {
    cells = fill_one r image next m.cells c;
    super = whole_same old (record { bytes = c.bytes 1; slots = λ j. ⊎_elim (λ same. same) (λ n. absurd (other (sym n.0.0))) (c.each 1 j) }) (super_fewer stays (image 1) m.super);
  };
}

-- EVERY IMAGE OF THE DEVICE is one of these, as far as paths from the tops lead.
pub shown_from : {k : Known} {high : ℕ} {doubt : Content → Type 0} {image : Image} {labels : ℕ → Label} (tops : ℕ → Type 0) → IsSafe k high doubt → IsLeft k image labels → ((t : ℕ) → tops t → (p : Place) × Stands k t p × (k.newborn t ≡ false)) → IsOneOf tops (Remains k) image
shown_from {k} {high} {doubt} {image} {labels} tops safe left stand = record {
  other = rebuilt k image;
  is = record {
    cells = rebuilt_may safe left.each;
    super = inr (image 1, left.each 1 (safe.of_device.blocks 1 super_place one), same_if (here safe left.each 1 (record { place = super_place; stands = one; settled = safe.settled })));
  };
  same = record {
    each = λ t b is r.
        let top = stand t is in
        (rebuilt_same safe left.each (to_block t) (λ x e. let is_t : t ≡ x = same_local t x e in record {
          place = top.0;
          stands = subst (λ y. Stands k y top.0) is_t top.1;
          settled = subst (λ y. k.newborn y ≡ false) is_t top.2;
        })).there b r;
  };
}
  where
    one : Stands k 1 super_place
    one = stands_top super_top safe.top

    same_local : (a b : ℕ) → Local a ≡ Local b → a ≡ b
    same_local a b e = cc

pub shown : {k : Known} {high : ℕ} {doubt : Content → Type 0} {image : Image} {labels : ℕ → Label} (tops : List ℕ) → IsSafe k high doubt → IsLeft k image labels → ((t : ℕ) → Contains tops t → (p : Place) × Stands k t p × (k.newborn t ≡ false)) → IsOneOf (λ t. Contains tops t) (Remains k) image
shown tops safe left stand = shown_from (λ t. Contains tops t) safe left stand
