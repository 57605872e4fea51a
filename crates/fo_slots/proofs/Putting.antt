-- Slots and other bytes are put, and the slots that are meant.
use Rattle.std.proofs.Common.{◌≡◌, ◌==◌, ◌≢◌, ◌⊎◌, inl, inr, ⊎_elim, ℕ, zero, suc, ◌+◌, ◌<◌, ◌≤◌, nat_lt, true, false, List, take, drop, length, refl, sym, ◌∙◌, ap, subst, arith, ◌++◌, ◌-◌}
use Rattle.std.specs.List.{list_all}
use Rattle.std.proofs.lemmas.Bool.{cases_eq, cases_lt, lt-ltb, le-ltb}
use Rattle.std.proofs.lemmas.List.{take_at, drop_at, drop-drop, length-take, length-drop, length-append}
use Rattle.fo_image.specs.declared.types.Kind.{Kind}
use Rattle.fo_image.specs.declared.types.Kind.TheVariants.{Data, Dir, Root}
use Rattle.fo_image.specs.Field.{zeros}
use Rattle.fo_ports.specs.of_crash.declared.slot.Slot.{Slot}
use Rattle.fo_ports.specs.of_crash.declared.slot.Slot.TheVariants.{Pointer as To, Entry as Head, Prev}
use Rattle.fo_ports.specs.of_crash.Images.{Content}
use Rattle.fo_ports.specs.Blocks.{slot_count, slot_start, slot_size, slots_from, slots_to, SlotFits, SpellsSlot, IsFormed, Reads, ReadsSlots, MayPut}
use Rattle.fo_slots.specs.Read.{width, slot_bytes, slot_from, slot_at, blanked, read, IsSlot, IsInRange, HasSpelling, HasNumbers, IsMeant, KeepsBeside, PutsInto}
use Rattle.fo_slots.proofs.Beside.{within, apart, kept, wider}
use Rattle.fo_slots.proofs.Meaning.{meant, size_is}

-- ---- slots that are meant

pub at_is : (kind : Kind) (bytes : List ℕ) (i : ℕ) → i < slot_count kind → slot_at kind bytes i ≡ slot_from kind i (slot_bytes kind i bytes)
at_is kind bytes i lt = let test : nat_lt i (slot_count kind) ≡ true = lt-ltb _ _ lt in rw test refl

same_slot : (kind : Kind) (j : ℕ) (old new : List ℕ) → (j < slot_count kind → slot_bytes kind j new ≡ slot_bytes kind j old) → slot_at kind new j ≡ slot_at kind old j
same_slot kind j old new same = ⊎_elim
    (λ lt. at_is kind new j lt ∙ ap (slot_from kind j) (same lt) ∙ sym (at_is kind old j lt))
    (λ ge. let test : nat_lt j (slot_count kind) ≡ false = le-ltb _ _ ge in rw test refl)
    (cases_lt j (slot_count kind))

-- a slot that is spelled is the one that is meant
is_meant : (kind : Kind) (bytes : List ℕ) (i : ℕ) (s : Slot) → i < slot_count kind → IsInRange s → IsSlot kind bytes i s → slot_at kind bytes i ≡ s
is_meant kind bytes i s lt range is = at_is kind bytes i lt ∙ meant kind i s (slot_bytes kind i bytes) is.fits range is.spelled

pub reads_slots : (kind : Kind) (bytes : List ℕ) → ((i : ℕ) → i < slot_count kind → IsSlot kind bytes i (slot_at kind bytes i)) → ReadsSlots kind (read kind bytes) bytes
reads_slots kind bytes each = record {
  fit = λ i lt. (each i lt).fits;
  spelled = λ i lt. subst (λ n. SpellsSlot (slot_at kind bytes i) (take n (drop (slot_start kind i) bytes))) (sym (size_is kind i (slot_at kind bytes i) (each i lt).fits)) (each i lt).spelled;
}

pub slot_read : (kind : Kind) (c : Content) (bytes : List ℕ) (i : ℕ) → ReadsSlots kind c bytes → i < slot_count kind → IsSlot kind bytes i (c.slot i)
slot_read kind c bytes i reads lt = record {
  fits = reads.fit i lt;
  spelled = subst (λ n. SpellsSlot (c.slot i) (take n (drop (slot_start kind i) bytes))) (size_is kind i (c.slot i) (reads.fit i lt)) (reads.spelled i lt);
}

pub only : (kind : Kind) (c : Content) (bytes : List ℕ) → HasNumbers kind c → ReadsSlots kind c bytes → IsMeant kind c bytes
only kind c bytes range reads = record {
  same = same;
  reads = reads_slots kind bytes (λ i lt. subst (IsSlot kind bytes i) (sym (same i lt)) (slot_read kind c bytes i reads lt));
}
  where
    same : (i : ℕ) → i < slot_count kind → slot_at kind bytes i ≡ c.slot i
    same i lt = is_meant kind bytes i (c.slot i) lt (range.each i lt) (slot_read kind c bytes i reads lt)

-- one more slot is spelled
pub one_more : (kind : Kind) (bytes : List ℕ) (i : ℕ) (s : Slot) → ((j : ℕ) → j < i → IsSlot kind bytes j (slot_at kind bytes j)) → s ≡ slot_at kind bytes i → IsSlot kind bytes i s → (j : ℕ) → j < i + 1 → IsSlot kind bytes j (slot_at kind bytes j)
one_more kind bytes i s so_far is here j less = ⊎_elim
    (λ e. subst (λ k. IsSlot kind bytes k (slot_at kind bytes k)) (sym e) (subst (IsSlot kind bytes i) is here))
    (λ ne. so_far j (omega (arith, less, ne)))
    (cases_eq j i)

-- ---- bytes beside slots

same_blanked : (kind : Kind) (old new : List ℕ) → KeepsBeside (slots_from kind) (slots_to kind) old new → blanked kind new ≡ blanked kind old
same_blanked kind old new beside = ap (λ xs. xs ++ (zeros (slots_to kind - slots_from kind) ++ drop (slots_to kind) new)) beside.before ∙ ap (λ xs. take (slots_from kind) old ++ (zeros (slots_to kind - slots_from kind) ++ xs)) beside.behind

record Bounds (kind : Kind) : Type 0 where
  in_order : slots_from kind ≤ slots_to kind
  in_block : slots_to kind ≤ 8192

bounds : (kind : Kind) → Bounds kind
bounds (Data zero) = record { in_order = omega arith; in_block = omega arith }
bounds (Data (suc level)) = record { in_order = omega arith; in_block = omega arith }
bounds (Dir zero) = record { in_order = omega arith; in_block = omega arith }
bounds (Dir (suc level)) = record { in_order = omega arith; in_block = omega arith }
bounds Root = record { in_order = omega arith; in_block = omega arith }

length-zeros : (n : ℕ) → length (zeros n) ≡ n
unfolding zeros
length-zeros zero = refl
length-zeros (suc n) = ap suc (length-zeros n)

blanked_beside : (kind : Kind) (bytes : List ℕ) → length bytes ≡ 8192 → KeepsBeside (slots_from kind) (slots_to kind) bytes (blanked kind bytes)
blanked_beside kind bytes len =
    let b = bounds kind in
    let from = slots_from kind in
    let to = slots_to kind in
    let front : length (take from bytes) ≡ from = omega (arith, length-take from bytes, b.in_order, b.in_block, len) in
    let far : from + (to - from) ≡ to = omega (arith, b.in_order) in
    let mid = zeros (to - from) ++ drop to bytes in
    record {
      before = take_at (take from bytes) mid from front;
      behind = ap (λ n. drop n (blanked kind bytes)) (sym far) ∙ sym (drop-drop (to - from) from (blanked kind bytes)) ∙ ap (drop (to - from)) (drop_at (take from bytes) mid from front) ∙ drop_at (zeros (to - from)) (drop to bytes) (to - from) (length-zeros (to - from));
    }

-- bytes mean a content as which they are read
pub reads_as : (kind : Kind) (bytes : List ℕ) → length bytes ≡ 8192 → Reads kind (read kind bytes) bytes
reads_as kind bytes len = let beside = blanked_beside kind bytes len in record { before = sym beside.before; behind = sym beside.behind }

-- ---- a slot is put

pub formed_read : (kind : Kind) (rank : ℕ) (old new : List ℕ) → KeepsBeside (slots_from kind) (slots_to kind) old new → length new ≡ 8192 → IsFormed kind rank old → IsFormed kind rank new
formed_read (Data zero) rank old new beside len formed = subst (λ x. IsFormed (Data 0) rank x) (sym beside.behind) formed
formed_read (Data (suc level)) rank old new beside len formed = (len, ap (list_all (λ b. b == 0)) beside.behind ∙ formed.1)
formed_read (Dir level) rank old new beside len formed = (len, ap (list_all (λ b. b == 0)) beside.behind ∙ formed.1)
formed_read Root rank old new beside len formed = (len, (formed.1.0, formed.1.1, formed.1.2, formed.1.3 ∙ sym beside.before, formed.1.4 ∙ sym beside.behind))

pub has_spelling : (kind : Kind) (i : ℕ) (s : Slot) → SlotFits kind i s → HasSpelling s
has_spelling (Data level) i (To p) fits = fits
has_spelling (Data level) i (Head e) fits = absurd fits
has_spelling (Data level) i (Prev epoch at) fits = tt
has_spelling (Dir zero) i (To p) fits = absurd fits
has_spelling (Dir zero) i (Head e) fits = fits.0
has_spelling (Dir zero) i (Prev epoch at) fits = tt
has_spelling (Dir (suc level)) i (To p) fits = fits
has_spelling (Dir (suc level)) i (Head e) fits = absurd fits
has_spelling (Dir (suc level)) i (Prev epoch at) fits = tt
has_spelling Root zero (To p) fits = absurd fits
has_spelling Root zero (Head e) fits = fits.0
has_spelling Root zero (Prev epoch at) fits = tt
has_spelling Root (suc zero) (To p) fits = absurd fits
has_spelling Root (suc zero) (Head e) fits = fits.0
has_spelling Root (suc zero) (Prev epoch at) fits = tt
has_spelling Root (suc (suc i)) (To p) fits = absurd fits
has_spelling Root (suc (suc i)) (Head e) fits = absurd fits
has_spelling Root (suc (suc i)) (Prev epoch at) fits = tt

pub fits_within : (kind : Kind) (i : ℕ) (s : Slot) → i < slot_count kind → SlotFits kind i s → slot_start kind i + slot_size s ≤ 8192
fits_within kind i s lt fits =
    let w = within kind i lt in
    omega (arith, w.up_to, w.in_block, size_is kind i s fits)

module _ (kind : Kind) (i : ℕ) (s : Slot) (old new : List ℕ) (lt : i < slot_count kind) (fits : SlotFits kind i s) (range : IsInRange s)
    (spelled : SpellsSlot s (take (slot_size s) (drop (slot_start kind i) new))) (beside : KeepsBeside (slot_start kind i) (slot_start kind i + slot_size s) old new) where
  size : slot_size s ≡ width kind i
  size = size_is kind i s fits

  is_slot : IsSlot kind new i s
  is_slot = record { fits = fits; spelled = subst (λ n. SpellsSlot s (take n (drop (slot_start kind i) new))) size spelled }

  part : KeepsBeside (slot_start kind i) (slot_start kind i + width kind i) old new
  part = subst (λ n. KeepsBeside (slot_start kind i) (slot_start kind i + n) old new) size beside

  bytes_stay : (j : ℕ) → j ≢ i → j < slot_count kind → slot_bytes kind j new ≡ slot_bytes kind j old
  bytes_stay j ne lj = kept (slot_start kind j) (width kind j) part (apart kind j i lj lt ne)

  here_is : slot_at kind new i ≡ s
  here_is = is_meant kind new i s lt range is_slot

  other_is : (j : ℕ) → j ≢ i → slot_at kind new j ≡ slot_at kind old j
  other_is j ne = same_slot kind j old new (bytes_stay j ne)

  reads_on : ReadsSlots kind (read kind old) old → ReadsSlots kind (read kind new) new
  reads_on reads = reads_slots kind new (λ j lj. ⊎_elim
      (λ is. subst (λ k. IsSlot kind new k (slot_at kind new k)) (sym is) (subst (IsSlot kind new i) (sym here_is) is_slot))
      (λ ne.
      let was = slot_read kind (read kind old) old j reads lj in
      subst (IsSlot kind new j) (sym (other_is j ne)) (record { fits = was.fits; spelled = subst (SpellsSlot (slot_at kind old j)) (sym (bytes_stay j ne lj)) was.spelled }))
      (cases_eq j i))

  wide : KeepsBeside (slots_from kind) (slots_to kind) old new
  wide = let w = within kind i lt in wider (slots_from kind) (slots_to kind) w.after w.up_to part

  pub puts_into : length new ≡ 8192 → PutsInto kind i s old new
  puts_into len = record {
    here = here_is;
    others = other_is;
    bytes = same_blanked kind old new wide;
    beside = wide;
    slots = reads_on;
    formed = λ rank formed. formed_read kind rank old new wide len formed;
  }

-- ---- bytes are put that spell no slot

beside_slots : (kind : Kind) (from end j : ℕ) → MayPut kind from end → j < slot_count kind → (slot_start kind j + width kind j ≤ from) ⊎ (end ≤ slot_start kind j)
beside_slots (Data zero) from end j may lt = let w = within (Data 0) j lt in inl (omega (arith, w.up_to, may))
beside_slots (Data (suc level)) from end j may lt = absurd may
beside_slots (Dir level) from end j may lt = absurd may
beside_slots Root from end j may lt =
    let w = within Root j lt in
    ⊎_elim (λ le. inr (omega (arith, le, w.after))) (λ rest. ⊎_elim (λ mid. inr (omega (arith, mid.1, w.after))) (λ far. inl (omega (arith, far, w.up_to))) rest) may

slot_stays : (kind : Kind) (from end : ℕ) (old new : List ℕ) → MayPut kind from end → KeepsBeside from end old new → (j : ℕ) → j < slot_count kind → slot_bytes kind j new ≡ slot_bytes kind j old
slot_stays kind from end old new may beside j lt = kept (slot_start kind j) (width kind j) beside (beside_slots kind from end j may lt)

pub bytes_put : (kind : Kind) (from end : ℕ) (old new : List ℕ) → MayPut kind from end → KeepsBeside from end old new → (j : ℕ) → slot_at kind new j ≡ slot_at kind old j
bytes_put kind from end old new may beside j = same_slot kind j old new (slot_stays kind from end old new may beside j)

pub reads_put : (kind : Kind) (from end : ℕ) (old new : List ℕ) → MayPut kind from end → KeepsBeside from end old new → ReadsSlots kind (read kind old) old → ReadsSlots kind (read kind new) new
reads_put kind from end old new may beside reads = reads_slots kind new (λ j lt.
    let was = slot_read kind (read kind old) old j reads lt in
    subst (IsSlot kind new j) (sym (bytes_put kind from end old new may beside j)) (record { fits = was.fits; spelled = subst (SpellsSlot (slot_at kind old j)) (sym (slot_stays kind from end old new may beside j lt)) was.spelled }))

-- what is read of other bytes beside slots
pub formed_blanked : (kind : Kind) (rank : ℕ) (bytes : List ℕ) → length bytes ≡ 8192 → (IsFormed kind rank bytes → IsFormed kind rank (blanked kind bytes)) × (IsFormed kind rank (blanked kind bytes) → IsFormed kind rank bytes)
formed_blanked kind rank bytes len =
    let b = blanked_beside kind bytes len in
    let bound = bounds kind in
    let whole : length (blanked kind bytes) ≡ 8192 = omega (arith, length-append (take (slots_from kind) bytes) (zeros (slots_to kind - slots_from kind) ++ drop (slots_to kind) bytes), length-append (zeros (slots_to kind - slots_from kind)) (drop (slots_to kind) bytes), length-zeros (slots_to kind - slots_from kind), length-take (slots_from kind) bytes, length-drop (slots_to kind) bytes, bound.in_order, bound.in_block, len) in
    (λ f. formed_read kind rank bytes (blanked kind bytes) b whole f, λ f. formed_read kind rank (blanked kind bytes) bytes (record { before = sym b.before; behind = sym b.behind }) len f)
