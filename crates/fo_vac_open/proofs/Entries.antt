-- The entry that is read from 40 bytes is the one that they spell.
use Rattle.std.proofs.Common.{◌≡◌, ℕ, ◌+◌, ◌*◌, ◌/◌, ◌%◌, ◌<◌, ◌≤◌, ◌^◌, ◌⊎◌, inl, inr, Bool, true, false, nat_eq, List, slice_index_or, take, drop, refl, sym, subst, ◌∙◌, ap, arith}
use Rattle.std.proofs.lemmas.Nat.{from_be_bytes-to_be_bytes_2, from_be_bytes-to_be_bytes_4}
use Rattle.std.proofs.lemmas.List.{take_at, append_assoc}
use Rattle.fo_image.specs.declared.types.Score.{Score}
use Rattle.fo_image.specs.Field.{Two, Four, number_at}
use Rattle.fo_image.specs.Format.{flag_bits, IsDepth}
use Rattle.fo_vacput.specs.declared.types.VacEntry.{VacEntry}
use Rattle.fo_vacput.specs.Vac.{ActiveHolds, VacEntryHolds, SpellsVacEntry}
use Rattle.fo_vac_open.specs.Held.{entry_in}

small : (n : ℕ) → n < 2 ^ 8 → n % 256 ≡ n
small n lt = omega arith

-- what stands where
record EntryAt (bytes : List ℕ) (e : VacEntry) : Type 0 where
  generation : number_at Four 0 bytes ≡ e.generation
  flags : slice_index_or bytes 8 0 ≡ flag_bits e.active e.dir + 4 * e.depth
  high : number_at Two 14 bytes ≡ e.size / 2 ^ 32
  low : number_at Four 16 bytes ≡ e.size % 2 ^ 32
  score : take 20 (drop 20 bytes) ≡ e.score.0

entry_at : (bytes : List ℕ) (e : VacEntry) → SpellsVacEntry e bytes → EntryAt bytes e
unfolding number_at
entry_at bytes e s = subst (λ b. EntryAt b e) (sym s.bytes_are) (record {
  generation = from_be_bytes-to_be_bytes_4 e.generation s.fit.0;
  flags = small (flag_bits e.active e.dir + 4 * e.depth) s.fit.1.1.1.0;
  high = from_be_bytes-to_be_bytes_2 (e.size / 2 ^ 32) s.fit.1.1.1.1.1.1.0;
  low = from_be_bytes-to_be_bytes_4 (e.size % 2 ^ 32) s.fit.1.1.1.1.1.1.1.0;
  score = ap (take 20) (append_assoc e.score.0 _ _) ∙ take_at e.score.0 _ 20 s.fit.1.1.1.1.1.1.1.1.0;
})

active_read : (active dir : Bool) (depth flags : ℕ) → flags ≡ flag_bits active dir + 4 * depth → nat_eq (flags % 2) 1 ≡ active
active_read true true depth flags e = let m : flags % 2 ≡ 1 = omega arith in ap (λ n. nat_eq n 1) m
active_read true false depth flags e = let m : flags % 2 ≡ 1 = omega arith in ap (λ n. nat_eq n 1) m
active_read false true depth flags e = let m : flags % 2 ≡ 0 = omega arith in ap (λ n. nat_eq n 1) m
active_read false false depth flags e = let m : flags % 2 ≡ 0 = omega arith in ap (λ n. nat_eq n 1) m

dir_read : (active dir : Bool) (depth flags : ℕ) → flags ≡ flag_bits active dir + 4 * depth → nat_eq (flags / 2 % 2) 1 ≡ dir
dir_read true true depth flags e = let m : flags / 2 % 2 ≡ 1 = omega arith in ap (λ n. nat_eq n 1) m
dir_read true false depth flags e = let m : flags / 2 % 2 ≡ 0 = omega arith in ap (λ n. nat_eq n 1) m
dir_read false true depth flags e = let m : flags / 2 % 2 ≡ 1 = omega arith in ap (λ n. nat_eq n 1) m
dir_read false false depth flags e = let m : flags / 2 % 2 ≡ 0 = omega arith in ap (λ n. nat_eq n 1) m

depth_read : (active dir : Bool) (depth flags : ℕ) → flags ≡ flag_bits active dir + 4 * depth → flags / 4 ≡ depth
depth_read true true depth flags e = omega arith
depth_read true false depth flags e = omega arith
depth_read false true depth flags e = omega arith
depth_read false false depth flags e = omega arith

same_score : (a b : Score) → a.0 ≡ b.0 → a ≡ b
same_score a b e = rw e refl

pub entry_is_read : (bytes : List ℕ) (e : VacEntry) → SpellsVacEntry e bytes → entry_in bytes ≡ e
entry_is_read bytes e s =
    let at = entry_at bytes e s in
    let high = at.high in
    let low = at.low in
    let size : number_at Two 14 bytes * 2 ^ 32 + number_at Four 16 bytes ≡ e.size = omega (arith, high, low) in
    let score = same_score (record { 0 = take 20 (drop 20 bytes) }) e.score at.score in
    λ i. record {
      generation = at.generation i;
      active = active_read e.active e.dir e.depth _ at.flags i;
      dir = dir_read e.active e.dir e.depth _ at.flags i;
      depth = depth_read e.active e.dir e.depth _ at.flags i;
      size = size i;
      score = score i;
    }

below_or_not : (depth : ℕ) → (depth ≤ 5) ⊎ (5 < depth)
below_or_not depth = search arith

-- sizes of six bytes have at most five levels of pointers
shallow : (size depth : ℕ) → size < 2 ^ 48 → IsDepth size depth → depth ≤ 5
shallow size depth lt is = elim (below_or_not depth) [ inl le ↦ le | inr more ↦ let deep : 8192 * 409 ^ 5 < size = is.least 5 more in absurd (omega arith) ]

shallow_in : (active : Bool) (e : VacEntry) → ActiveHolds active e → e.depth ≤ 5
shallow_in true e h = shallow e.size e.depth h.0 h.1
shallow_in false e h = omega arith

pub shallow_entry : (e : VacEntry) → VacEntryHolds e → e.depth ≤ 5
shallow_entry e h = shallow_in e.active e h.active_holds
