-- Bytes spell one pointer.
use Rattle.std.proofs.Common.{◌≡◌, ℕ, ◌+◌, ◌-◌, ◌<◌, ◌^◌, List, take, sym, ◌∙◌, ap, subst, arith}
use Rattle.std.proofs.lemmas.Nat.{from_be_bytes-to_be_bytes_4}
use Rattle.fo_image.specs.declared.types.Pointer.{Pointer}
use Rattle.fo_image.specs.declared.types.Pointer.TheVariants as pointer
use Rattle.fo_image.specs.Field.{Four, number_at}
use Rattle.fo_image.specs.Format.{IsScore, SpellsPointer, pointer_bytes}
use Rattle.fo_image.proofs.PointerLemmas.{pointer_is, only_score, only_nil, only_local}

zero_number : (bytes : List ℕ) → bytes ≡ pointer_bytes pointer.Nil → number_at Four 16 bytes ≡ 0
unfolding number_at
zero_number bytes e = ap (number_at Four 16) e

local_number : (bytes : List ℕ) (address : ℕ) → address < 2 ^ 32 - 1 → bytes ≡ pointer_bytes (pointer.Local address) → address + 1 ≡ number_at Four 16 bytes
unfolding number_at
local_number bytes address small e =
    let lt : address + 1 < 2 ^ 32 = omega (arith, small) in
    sym (ap (number_at Four 16) e ∙ from_be_bytes-to_be_bytes_4 (address + 1) lt)

pub once : (p q : Pointer) (bytes : List ℕ) → SpellsPointer p bytes → SpellsPointer q bytes → p ≡ q
once p pointer.Nil bytes sp sq =
    let e = pointer_is pointer.Nil bytes sq in
    only_nil p bytes (pointer_is p bytes sp) sp.holds (ap (take 16) e) (zero_number bytes e)
once p (pointer.Local address) bytes sp sq =
    let e = pointer_is (pointer.Local address) bytes sq in
    let back : address + 1 - 1 ≡ address = omega arith in
    only_local p bytes (address + 1) (pointer_is p bytes sp) sp.holds (ap (take 16) e) (local_number bytes address sq.holds e) (omega arith) ∙ ap (λ (n : ℕ). pointer.Local n) back
once p (pointer.Score score) bytes sp sq =
    let e = pointer_is (pointer.Score score) bytes sq in
    only_score p bytes score (pointer_is p bytes sp) (subst (λ (b : List ℕ). IsScore b) (sym e) sq.holds) (sym e)
