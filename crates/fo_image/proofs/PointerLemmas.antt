-- Pointers and their bytes.
use Rattle.std.proofs.Common.{◌≡◌, ℕ, ◌+◌, ◌-◌, ◌<◌, ◌^◌, true, false, eqb, List, ◌++◌, length, get_or, take, drop, refl, sym, ap, ◌∙◌, arith}
use Rattle.std.specs.Prelude.{replicate}
use Rattle.std.specs.List.{list_all}
use Rattle.std.specs.Int.{w32, to_be_bytes, from_be_bytes}
use Rattle.std.proofs.lemmas.List.{append-nil, take-append-drop, length-take, length-drop, get_or-drop, take_all}
use Rattle.std.proofs.lemmas.Nat.{be_bytes_4, from_be_bytes-to_be_bytes_4}
use Rattle.fo_image.specs.declared.types.Score.{Score}
use Rattle.fo_image.specs.declared.types.Pointer.{Pointer}
use Rattle.fo_image.specs.declared.types.Pointer.TheVariants as pointer
use Rattle.fo_image.specs.Field.{Four, zeros, padded, number, number_at, Spells}
use Rattle.fo_image.specs.Format.{pointer_bytes, IsScore, PointerHolds, pointer_fields}
use Rattle.fo_image.proofs.Padding.{zeros-from_all}

pub padded_whole : (bytes : List ℕ) (n : ℕ) → length bytes ≡ n → padded n bytes ≡ bytes
unfolding zeros
padded_whole bytes n e = let z : n - length bytes ≡ 0 = omega arith in rw z (append-nil bytes)

pub spells_pointer : (p : Pointer) (bytes : List ℕ) → PointerHolds p → length bytes ≡ 20 → bytes ≡ pointer_bytes p → Spells 20 pointer_fields PointerHolds p bytes
spells_pointer p bytes holds len e =
    let whole : length (pointer_bytes p) ≡ 20 = ap length (sym e) ∙ len in
    record {
      holds = holds;
      fit = (whole, tt);
      bytes_are = e ∙ sym (ap (padded 20) (append-nil (pointer_bytes p)) ∙ padded_whole (pointer_bytes p) 20 whole);
    }

pub pointer_is : (p : Pointer) (bytes : List ℕ) → Spells 20 pointer_fields PointerHolds p bytes → bytes ≡ pointer_bytes p
pointer_is p bytes s = s.bytes_are ∙ ap (padded 20) (append-nil (pointer_bytes p)) ∙ padded_whole (pointer_bytes p) 20 s.fit.0

pub sixteen_zeros : (bytes : List ℕ) → list_all (λ b. eqb b 0) (take 16 bytes) ≡ true → length bytes ≡ 20 → take 16 bytes ≡ replicate 16 0
unfolding zeros
sixteen_zeros bytes h len =
    let n : length (take 16 bytes) ≡ 16 = omega (arith, length-take 16 bytes) in
    zeros-from_all (take 16 bytes) h ∙ ap (λ k. replicate k 0) n

-- what begins with sixteen zeros is a number
pub zeros_and_number : (bytes : List ℕ) → length bytes ≡ 20 → ((i : ℕ) → get_or bytes i 0 < 256) → list_all (λ b. eqb b 0) (take 16 bytes) ≡ true
    → bytes ≡ replicate 16 0 ++ number Four (number_at Four 16 bytes)
unfolding zeros number_at
zeros_and_number bytes len fits h =
    let front : take 16 bytes ≡ replicate 16 0 = sixteen_zeros bytes h len in
    let short : take 4 (drop 16 bytes) ≡ drop 16 bytes = take_all 4 (drop 16 bytes) (omega (arith, length-drop 16 bytes)) in
    let back : to_be_bytes w32 (from_be_bytes w32 (take 4 (drop 16 bytes))) ≡ drop 16 bytes =
    rw short (be_bytes_4 (drop 16 bytes) _ (omega (arith, length-drop 16 bytes)) (λ i. rw get_or-drop (fits (16 + i))) refl) in
    sym (take-append-drop 16 bytes) ∙ ap (λ xs. xs ++ drop 16 bytes) front ∙ ap (λ xs. replicate 16 0 ++ xs) (sym back)

pub is_score_from : (bytes : List ℕ) → list_all (λ b. eqb b 0) (take 16 bytes) ≡ false → IsScore bytes
is_score_from bytes h e = let one : list_all (λ b. eqb b 0) (replicate 16 0) ≡ false = ap (list_all (λ b. eqb b 0)) (sym e) ∙ h in absurd cc

-- the one pointer of some bytes
pub only_score : (p : Pointer) (bytes : List ℕ) (read : Score) → bytes ≡ pointer_bytes p → IsScore bytes → read.0 ≡ bytes → p ≡ pointer.Score read
only_score pointer.Nil bytes read e is r = absurd (is (ap (take 16) e))
only_score (pointer.Local address) bytes read e is r = absurd (is (ap (take 16) e))
only_score (pointer.Score score) bytes read e is r = let same : read.0 ≡ score.0 = r ∙ e in rw same refl

pub only_nil : (p : Pointer) (bytes : List ℕ) → bytes ≡ pointer_bytes p → PointerHolds p → take 16 bytes ≡ replicate 16 0 → number_at Four 16 bytes ≡ 0 → p ≡ pointer.Nil
unfolding number_at
only_nil pointer.Nil bytes e holds z n = refl
only_nil (pointer.Local address) bytes e holds z n =
    let lt : address + 1 < 2 ^ 32 = omega arith in
    let read : number_at Four 16 bytes ≡ address + 1 = ap (number_at Four 16) e ∙ from_be_bytes-to_be_bytes_4 (address + 1) lt in
    absurd (omega arith)
only_nil (pointer.Score score) bytes e holds z n = absurd (holds (ap (take 16) (sym e) ∙ z))

pub only_local : (p : Pointer) (bytes : List ℕ) (place : ℕ) → bytes ≡ pointer_bytes p → PointerHolds p → take 16 bytes ≡ replicate 16 0 → place ≡ number_at Four 16 bytes → 0 < place → p ≡ pointer.Local (place - 1)
unfolding number_at
only_local pointer.Nil bytes place e holds z n some =
    let read : number_at Four 16 bytes ≡ 0 = ap (number_at Four 16) e in
    absurd (omega arith)
only_local (pointer.Local address) bytes place e holds z n some =
    let lt : address + 1 < 2 ^ 32 = omega arith in
    let read : number_at Four 16 bytes ≡ address + 1 = ap (number_at Four 16) e ∙ from_be_bytes-to_be_bytes_4 (address + 1) lt in
    ap pointer.Local (omega arith)
only_local (pointer.Score score) bytes place e holds z n some = absurd (holds (ap (take 16) (sym e) ∙ z))

pub nil_found : (bytes : List ℕ) (n : ℕ) → length bytes ≡ 20 → ((i : ℕ) → get_or bytes i 0 < 256) → list_all (λ b. eqb b 0) (take 16 bytes) ≡ true
    → n ≡ number_at Four 16 bytes → n ≡ 0 → Spells 20 pointer_fields PointerHolds pointer.Nil bytes
nil_found bytes n len fits h is none =
    let e : number_at Four 16 bytes ≡ 0 = sym is ∙ none in
    spells_pointer pointer.Nil bytes tt len (zeros_and_number bytes len fits h ∙ ap (λ k. replicate 16 0 ++ number Four k) e)

pub local_found : (bytes : List ℕ) (n : ℕ) → length bytes ≡ 20 → ((i : ℕ) → get_or bytes i 0 < 256) → list_all (λ b. eqb b 0) (take 16 bytes) ≡ true
    → n ≡ number_at Four 16 bytes → 0 < n → n < 2 ^ 32 → Spells 20 pointer_fields PointerHolds (pointer.Local (n - 1)) bytes
local_found bytes n len fits h is some lt =
    let e : number_at Four 16 bytes ≡ n - 1 + 1 = omega arith in
    spells_pointer (pointer.Local (n - 1)) bytes (omega arith) len (zeros_and_number bytes len fits h ∙ ap (λ k. replicate 16 0 ++ number Four k) e)
