-- Which blocks are sure, and what super block there is, after each step.
use Rattle.std.proofs.Common.{◌≡◌, ◌≢◌, inl, inr, ⊎_elim, ℕ, List, refl, sym, ◌∙◌, ap}
use Rattle.fo_crash.specs.declared.slot.Slot.{Slot}
use Rattle.fo_crash.specs.Images.{Content, Image, SameContent, with_slot, with_bytes, with_block}
use Rattle.fo_crash.specs.Steps.{PutsBlock, AddsSlot, AddsBytes, AddsBlock, AddsNothing, AddsSuper, AllAre, IsSure, HasSuper}
use Rattle.fo_crash.proofs.Updates.{slot_bytes, slot_other, bytes_other, block_other}

pub same_content : (c : Content) → SameContent c c
same_content c = record { bytes = refl; slots = λ i. refl }

pub same_joins : {c d e : Content} → SameContent c d → SameContent d e → SameContent c e
same_joins p q = record { bytes = p.bytes ∙ q.bytes; slots = λ i. p.slots i ∙ q.slots i }

pub same_back : {c d : Content} → SameContent c d → SameContent d c
same_back p = record { bytes = sym p.bytes; slots = λ i. sym (p.slots i) }

pub same_if : {c d : Content} → c ≡ d → SameContent c d
same_if e = record { bytes = ap (λ (k : Content). k.bytes) e; slots = λ i. ap (λ (k : Content). k.slot i) e }

-- After a settling every block is sure.
pub all_sure : {now : Image} {images : Image → Type 0} (at : ℕ) → AllAre now images → IsSure now at images
all_sure at all = record { each = λ image is. (all.each image is).each at }

-- A sure block that memory does not change stays sure over each step.
pub sure_by : {now next : Image} {at : ℕ} {old new : Image → Type 0} → SameContent (now at) (next at) → ((image : Image) → new image → (other : Image) × old other × SameContent (image at) (other at)) → IsSure now at old → IsSure next at new
sure_by stays from sure = record {
  each = λ image is. let (other, is_old, same) = from image is in same_joins same (same_joins (sure.each other is_old) stays);
}

pub sure_still : {now next : Image} {at : ℕ} {old new : Image → Type 0} → SameContent (now at) (next at) → AddsNothing old new → IsSure now at old → IsSure next at new
sure_still {at = at} stays adds = sure_by stays (λ image is. (image, adds.each image is, same_content (image at)))

pub sure_beside_slot : {now next : Image} {b at i : ℕ} {s : Slot} {beside : Image → Type 0} {old new : Image → Type 0} → b ≢ at → SameContent (now b) (next b) → AddsSlot now at i s beside old new → IsSure now b old → IsSure next b new
sure_beside_slot {now} {next} {b} {at} {i} ne stays adds = sure_by stays (λ image is. ⊎_elim
    (λ is_old. (image, is_old, same_content (image b)))
    (λ h. (
      with_slot image at i ((now at).slot i),
      h.1,
      record {
        bytes = sym (slot_bytes image at i ((now at).slot i) b);
        slots = λ j. sym (slot_other image at i ((now at).slot i) b j (inl ne));
      },
    ))
    (adds.each image is))

pub sure_beside_bytes : {now next : Image} {b at : ℕ} {bytes : List ℕ} {beside : Image → Type 0} {old new : Image → Type 0} → b ≢ at → SameContent (now b) (next b) → AddsBytes now at bytes beside old new → IsSure now b old → IsSure next b new
sure_beside_bytes {now} {next} {b} {at} ne stays adds = sure_by stays (λ image is. ⊎_elim
    (λ is_old. (image, is_old, same_content (image b)))
    (λ h. (with_bytes image at ((now at).bytes), h.1, same_if (sym (bytes_other image at ((now at).bytes) b ne))))
    (adds.each image is))

pub sure_beside_block : {now next : Image} {b at : ℕ} {c : Content} {tops : ℕ → Type 0} {old new : Image → Type 0} → b ≢ at → SameContent (now b) (next b) → AddsBlock tops at c old new → IsSure now b old → IsSure next b new
sure_beside_block {b = b} {at = at} ne stays adds = sure_by stays (λ image is.
    let (d, is_old) = adds.before image is in (with_block image at d, is_old, same_if (sym (block_other image at d b ne))))

pub sure_beside_super : {now next : Image} {b : ℕ} {beside : Image → Type 0} {old new : Image → Type 0} → b ≢ 1 → SameContent (now b) (next b) → AddsSuper now beside old new → IsSure now b old → IsSure next b new
sure_beside_super {now} {next} {b} ne stays adds = sure_by stays (λ image is. ⊎_elim
    (λ is_old. (image, is_old, same_content (image b)))
    (λ h. (with_block image 1 (now 1), h.0, same_if (sym (block_other image 1 (now 1) b ne))))
    (adds.each image is))

-- A block that was given out is sure at first.
pub new_is_sure : {now next : Image} {at : ℕ} {c : Content} {tops : ℕ → Type 0} {old new : Image → Type 0} → PutsBlock at c now next → AddsBlock tops at c old new → IsSure next at new
new_is_sure puts adds = record { each = λ image is. same_joins (adds.holds image is) (same_back puts.here) }

-- The super block of every image is that of memory once all is settled; a super block that is tried is the doubt.
pub settled_super : {now : Image} {images : Image → Type 0} (doubt : Content → Type 0) → AllAre now images → HasSuper now doubt images
settled_super doubt all = record { each = λ image is. inl ((all.each image is).each 1) }

pub tried_super : {now : Image} {tried : Content} {old new : Image → Type 0} → IsSure now 1 old → AddsSuper now (λ image. SameContent (image 1) tried) old new → HasSuper now (λ c. SameContent tried c) new
tried_super {now} {tried} sure adds = record {
  each = λ image is. ⊎_elim
      (λ is_old. inl (sure.each image is_old))
      (λ h. inr (tried, same_content tried, h.1))
      (adds.each image is);
}

pub super_still : {now next : Image} {doubt : Content → Type 0} {old new : Image → Type 0} → SameContent (now 1) (next 1) → AddsNothing old new → HasSuper now doubt old → HasSuper next doubt new
super_still stays adds has = record {
  each = λ image is. ⊎_elim (λ same. inl (same_joins same stays)) (λ h. inr h) (has.each image (adds.each image is));
}
