-- What is as before where a slot is put, bytes are put or a block is replaced.
use Rattle.std.proofs.Common.{◌≡◌, ◌≢◌, ◌⊎◌, ℕ, true, false, cond, nat_eq, List, refl, arith}
use Rattle.std.proofs.lemmas.Grind.{common_steps}
use Rattle.fo_crash.specs.declared.slot.Slot.{Slot}
use Rattle.fo_crash.specs.Images.{Content, Image, with_slot, with_bytes, with_block}

pub slot_bytes : (image : Image) (at i : ℕ) (s : Slot) (b : ℕ) → (with_slot image at i s b).bytes ≡ (image b).bytes
slot_bytes image at i s b =
    elim (nat_eq b at) as (λ v. (cond v (record { bytes = (image b).bytes; slot = λ j. cond (nat_eq j i) s ((image b).slot j) }) (image b)).bytes ≡ (image b).bytes) [ true ↦ refl | false ↦ refl ]

pub slot_other : (image : Image) (at i : ℕ) (s : Slot) (b j : ℕ) → (b ≢ at) ⊎ (j ≢ i) → (with_slot image at i s b).slot j ≡ (image b).slot j
slot_other image at i s b j h = grind (arith, common_steps)

pub slot_here : (image : Image) (at i : ℕ) (s : Slot) → (with_slot image at i s at).slot i ≡ s
slot_here image at i s = grind (arith, common_steps)

pub bytes_other : (image : Image) (at : ℕ) (bytes : List ℕ) (b : ℕ) → b ≢ at → with_bytes image at bytes b ≡ image b
bytes_other image at bytes b ne = grind (arith, common_steps)

pub bytes_here : (image : Image) (at : ℕ) (bytes : List ℕ) → (with_bytes image at bytes at).bytes ≡ bytes
bytes_here image at bytes = grind (arith, common_steps)

pub bytes_slot : (image : Image) (at : ℕ) (bytes : List ℕ) (b j : ℕ) → (with_bytes image at bytes b).slot j ≡ (image b).slot j
bytes_slot image at bytes b j =
    elim (nat_eq b at) as (λ v. (cond v (record { bytes = bytes; slot = (image b).slot }) (image b)).slot j ≡ (image b).slot j) [ true ↦ refl | false ↦ refl ]

pub block_other : (image : Image) (at : ℕ) (c : Content) (b : ℕ) → b ≢ at → with_block image at c b ≡ image b
block_other image at c b ne = grind (arith, common_steps)

pub block_here : (image : Image) (at : ℕ) (c : Content) → with_block image at c at ≡ c
block_here image at c = grind (arith, common_steps)
