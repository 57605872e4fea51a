-- Bytes that spell a slot mean that slot.
use Rattle.std.proofs.Common.{◌≡◌, ⊎_elim, ◌≤◌, ℕ, zero, suc, ◌+◌, ◌%◌, ◌<◌, ◌^◌, ◌++◌, append_assoc, Bool, true, false, List, take, drop, length, get_or, refl, sym, ap, subst, ◌∙◌, arith}
use Rattle.std.specs.Prelude.{◌==◌, ◌||◌}
use Rattle.std.specs.List.{list_all}
use Rattle.std.proofs.lemmas.List.{take_at, take_all, length-take, length-drop, take-append-drop, get_or-drop, get_or-take, get_or_past}
use Rattle.std.proofs.lemmas.Bool.{cases_lt}
use Rattle.std.proofs.lemmas.Nat.{from_be_bytes-to_be_bytes_4, from_be_bytes-to_be_bytes_8, be_bytes_4}
use Rattle.fo_image.specs.declared.types.Kind.{Kind}
use Rattle.fo_image.specs.declared.types.Kind.TheVariants.{Data, Dir, Root}
use Rattle.fo_image.specs.declared.types.Pointer.{Pointer}
use Rattle.fo_image.specs.declared.types.Pointer.TheVariants.{Nil, Local, Score as Held}
use Rattle.fo_image.specs.declared.types.Entry.{Entry}
use Rattle.fo_image.specs.Field.{Four, Eight, number, number_at}
use Rattle.fo_image.specs.Format.{SpellsPointer, SpellsEntry, PointerHolds, ActiveHolds, flag_bits, pointer_bytes}
use Rattle.fo_image.proofs.PointerLemmas.{pointer_is, sixteen_zeros}
use Rattle.fo_ports.specs.of_crash.declared.slot.Slot.{Slot}
use Rattle.fo_ports.specs.of_crash.declared.slot.Slot.TheVariants.{Pointer as To, Entry as Head, Prev}
use Rattle.fo_ports.specs.Blocks.{SlotFits, SpellsSlot, IsPointer, IsEntry, IsPrev, slot_size}
use Rattle.fo_slots.specs.Read.{local_from, pointer_from, entry_from, prev_from, slot_from, width, IsInRange}

-- ---- pointers

local_is : (n at : ℕ) → n ≡ at + 1 → local_from n ≡ Local at
local_is zero at e = absurd (omega arith)
local_is (suc n) at e = let same : n ≡ at = omega arith in ap Local same

not_true : (b : Bool) → (b ≡ true → ⊥) → b ≡ false
not_true true h = absurd (h refl)
not_true false h = refl

by_pointer : (p : Pointer) (bytes : List ℕ) → PointerHolds p → length (pointer_bytes p) ≡ 20 → bytes ≡ pointer_bytes p → pointer_from bytes ≡ p
unfolding number_at
by_pointer Nil bytes holds len is = ap pointer_from is
by_pointer (Local at) bytes holds len is =
    let lt : at + 1 < 2 ^ 32 = omega (arith, holds) in
    ap pointer_from is ∙ local_is _ at (from_be_bytes-to_be_bytes_4 (at + 1) lt)
by_pointer (Held score) bytes holds len is =
    let some : list_all (λ b. b == 0) (take 16 score.0) ≡ false = not_true _ (λ h. holds (sixteen_zeros score.0 h len)) in
    ap pointer_from is ∙ rw some refl

pub pointer_meant : (p : Pointer) (bytes : List ℕ) → SpellsPointer p bytes → pointer_from bytes ≡ p
pointer_meant p bytes s = by_pointer p bytes s.holds s.fit.0 (pointer_is p bytes s)

-- ---- entries

top_in : (active : Bool) (e : Entry) → ActiveHolds active e → PointerHolds e.top
top_in true e h = h.1
top_in false e h = subst PointerHolds (sym h.4) tt

-- what stands where in the bytes of an entry
record EntryAt (bytes : List ℕ) (e : Entry) : Type 0 where
  generation : number_at Four 0 bytes ≡ e.generation
  flags : get_or bytes 4 0 ≡ flag_bits e.active e.dir
  depth : get_or bytes 5 0 ≡ e.depth
  tag : number_at Four 8 bytes ≡ e.tag
  size : number_at Eight 12 bytes ≡ e.size
  top : take 20 (drop 20 bytes) ≡ pointer_bytes e.top

small : (n : ℕ) → n < 2 ^ 8 → n % 256 ≡ n
small n lt = omega arith

entry_at : (bytes : List ℕ) (e : Entry) → SpellsEntry e bytes → EntryAt bytes e
unfolding number_at
entry_at bytes e s = subst (λ b. EntryAt b e) (sym s.bytes_are) (record {
  generation = from_be_bytes-to_be_bytes_4 e.generation s.fit.0;
  flags = small (flag_bits e.active e.dir) s.fit.1.0;
  depth = small e.depth s.fit.1.1.0;
  tag = from_be_bytes-to_be_bytes_4 e.tag s.fit.1.1.1.1.0;
  size = from_be_bytes-to_be_bytes_8 e.size s.fit.1.1.1.1.1.0;
  top = ap (take 20) (append_assoc (pointer_bytes e.top) _ _) ∙ take_at (pointer_bytes e.top) _ 20 s.fit.1.1.1.1.1.1.0;
})

active_is : (n : ℕ) (a d : Bool) → n ≡ flag_bits a d → (n == 1 || n == 3) ≡ a
active_is n true true e = ap (λ k. k == 1 || k == 3) e
active_is n true false e = ap (λ k. k == 1 || k == 3) e
active_is n false true e = ap (λ k. k == 1 || k == 3) e
active_is n false false e = ap (λ k. k == 1 || k == 3) e

dir_is : (n : ℕ) (a d : Bool) → n ≡ flag_bits a d → (n == 2 || n == 3) ≡ d
dir_is n true true e = ap (λ k. k == 2 || k == 3) e
dir_is n true false e = ap (λ k. k == 2 || k == 3) e
dir_is n false true e = ap (λ k. k == 2 || k == 3) e
dir_is n false false e = ap (λ k. k == 2 || k == 3) e

pub entry_meant : (e : Entry) (bytes : List ℕ) → SpellsEntry e bytes → entry_from bytes ≡ e
entry_meant e bytes s =
    let at = entry_at bytes e s in
    rw (at.generation, active_is _ e.active e.dir at.flags, dir_is _ e.active e.dir at.flags, at.depth, at.tag, at.size, by_pointer e.top _ (top_in e.active e s.holds.active_holds) s.fit.1.1.1.1.1.1.0 at.top) refl

-- ---- slots

prev_meant : (epoch at : ℕ) (bytes : List ℕ) → epoch < 2 ^ 32 → at < 2 ^ 32 → SpellsSlot (Prev epoch at) bytes → prev_from bytes ≡ Prev epoch at
unfolding number_at
prev_meant epoch at bytes he ha is = ap prev_from is ∙ rw (from_be_bytes-to_be_bytes_4 epoch he, from_be_bytes-to_be_bytes_4 at ha) refl

pointer_slot : (s : Slot) (bytes : List ℕ) → IsPointer s → SpellsSlot s bytes → To (pointer_from bytes) ≡ s
pointer_slot (To p) bytes fits is = ap To (pointer_meant p bytes is)
pointer_slot (Head e) bytes fits is = absurd fits
pointer_slot (Prev epoch at) bytes fits is = absurd fits

entry_slot : (s : Slot) (bytes : List ℕ) → IsEntry s → SpellsSlot s bytes → Head (entry_from bytes) ≡ s
entry_slot (Head e) bytes fits is = ap Head (entry_meant e bytes is)
entry_slot (To p) bytes fits is = absurd fits
entry_slot (Prev epoch at) bytes fits is = absurd fits

prev_slot : (s : Slot) (bytes : List ℕ) → IsPrev s → IsInRange s → SpellsSlot s bytes → prev_from bytes ≡ s
prev_slot (Prev epoch at) bytes fits range is = prev_meant epoch at bytes range.0 range.1 is
prev_slot (To p) bytes fits range is = absurd fits
prev_slot (Head e) bytes fits range is = absurd fits

pub meant : (kind : Kind) (i : ℕ) (s : Slot) (bytes : List ℕ) → SlotFits kind i s → IsInRange s → SpellsSlot s bytes → slot_from kind i bytes ≡ s
meant (Data level) i s bytes fits range is = pointer_slot s bytes fits is
meant (Dir zero) i s bytes fits range is = entry_slot s bytes fits is
meant (Dir (suc level)) i s bytes fits range is = pointer_slot s bytes fits is
meant Root zero s bytes fits range is = entry_slot s bytes fits is
meant Root (suc zero) s bytes fits range is = entry_slot s bytes fits is
meant Root (suc (suc i)) s bytes fits range is = prev_slot s bytes fits range is

pointer_size : (s : Slot) → IsPointer s → slot_size s ≡ 20
pointer_size (To p) h = refl
pointer_size (Head e) h = absurd h
pointer_size (Prev epoch at) h = absurd h

entry_size : (s : Slot) → IsEntry s → slot_size s ≡ 40
entry_size (Head e) h = refl
entry_size (To p) h = absurd h
entry_size (Prev epoch at) h = absurd h

prev_size : (s : Slot) → IsPrev s → slot_size s ≡ 8
prev_size (Prev epoch at) h = refl
prev_size (To p) h = absurd h
prev_size (Head e) h = absurd h

pub size_is : (kind : Kind) (i : ℕ) (s : Slot) → SlotFits kind i s → slot_size s ≡ width kind i
size_is (Data level) i s fits = pointer_size s fits
size_is (Dir zero) i s fits = entry_size s fits
size_is (Dir (suc level)) i s fits = pointer_size s fits
size_is Root zero s fits = entry_size s fits
size_is Root (suc zero) s fits = entry_size s fits
size_is Root (suc (suc i)) s fits = prev_size s fits

pub fits_take : (n : ℕ) (bytes : List ℕ) → ((i : ℕ) → get_or bytes i 0 < 256) → (i : ℕ) → get_or (take n bytes) i 0 < 256
fits_take n bytes fits i = ⊎_elim
    (λ (lt : i < n). rw (get_or-take n bytes i 0 lt) (fits i))
    (λ (ge : n ≤ i). rw (get_or_past (take n bytes) i 0 (omega (arith, length-take n bytes, ge))) (omega arith))
    (cases_lt i n)

pub fits_drop : (n : ℕ) (bytes : List ℕ) → ((i : ℕ) → get_or bytes i 0 < 256) → (i : ℕ) → get_or (drop n bytes) i 0 < 256
fits_drop n bytes fits i = rw get_or-drop (fits (n + i))

-- two numbers as they are spelled
pub numbers_spelled : (bytes : List ℕ) → length bytes ≡ 8 → ((i : ℕ) → get_or bytes i 0 < 256) → bytes ≡ number Four (number_at Four 0 bytes) ++ number Four (number_at Four 4 bytes)
unfolding number_at
numbers_spelled bytes len fits =
    let first : number Four (number_at Four 0 bytes) ≡ take 4 bytes = be_bytes_4 (take 4 bytes) _ (omega (arith, length-take 4 bytes)) (fits_take 4 bytes fits) refl in
    let short : take 4 (drop 4 bytes) ≡ drop 4 bytes = take_all 4 (drop 4 bytes) (omega (arith, length-drop 4 bytes)) in
    let second : number Four (number_at Four 4 bytes) ≡ drop 4 bytes = rw short (be_bytes_4 (drop 4 bytes) _ (omega (arith, length-drop 4 bytes)) (λ i. rw get_or-drop (fits (4 + i))) refl) in
    sym (take-append-drop 4 bytes) ∙ ap (λ xs. xs ++ drop 4 bytes) (sym first) ∙ ap (λ xs. number Four (number_at Four 0 bytes) ++ xs) (sym second)
