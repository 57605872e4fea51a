-- Slots that are spelled one after the other stay.
use Rattle.std.proofs.Common.{◌≡◌, ◌≢◌, ◌⊎◌, inl, inr, ⊎_elim, ℕ, zero, suc, ◌+◌, ◌-◌, ◌<◌, ◌≤◌, List, take, drop, refl, sym, ◌∙◌, ap, subst, arith}
use Rattle.std.proofs.lemmas.Bool.{cases_eq, cases_lt}
use Rattle.std.proofs.lemmas.List.{take-take, drop-drop, drop-take}
use Rattle.fo_image.specs.declared.types.Kind.{Kind}
use Rattle.fo_image.specs.declared.types.Kind.TheVariants.{Data, Dir, Root}
use Rattle.fo_crash.specs.declared.slot.Slot.{Slot}
use Rattle.fo_crash.specs.declared.slot.Slot.TheVariants.{Pointer as To, Entry as Head, Prev}
use Rattle.fo_ports.specs.Blocks.{slot_count, slot_start, slot_size, slots_from, slots_to, SlotFits, IsPointer, IsEntry, IsPrev, SpellsSlot}
use Rattle.fo_ports_plain.specs.Spell.{KeepsBeside}

-- how many bytes slot i of a block of this kind takes
width : Kind → ℕ → ℕ
width (Data level) i = 20
width (Dir zero) i = 40
width (Dir (suc level)) i = 20
width Root zero = 40
width Root (suc zero) = 40
width Root (suc (suc i)) = 8

pointer_size : (s : Slot) → IsPointer s → slot_size s ≡ 20
pointer_size (To p) h = refl
pointer_size (Head e) h = absurd h
pointer_size (Prev epoch at) h = absurd h

entry_size : (s : Slot) → IsEntry s → slot_size s ≡ 40
entry_size (Head e) h = refl
entry_size (To p) h = absurd h
entry_size (Prev epoch at) h = absurd h

prev_size : (s : Slot) → IsPrev s → slot_size s ≡ 8
prev_size (Prev epoch at) h = refl
prev_size (To p) h = absurd h
prev_size (Head e) h = absurd h

size_is : (kind : Kind) (i : ℕ) (s : Slot) → SlotFits kind i s → slot_size s ≡ width kind i
unfolding width
size_is (Data level) i s fits = pointer_size s fits
size_is (Dir zero) i s fits = entry_size s fits
size_is (Dir (suc level)) i s fits = pointer_size s fits
size_is Root zero s fits = entry_size s fits
size_is Root (suc zero) s fits = entry_size s fits
size_is Root (suc (suc i)) s fits = prev_size s fits

-- A slot stands among the bytes of slots, and these in the block.
record Within (kind : Kind) (i : ℕ) : Type 0 where
  after : slots_from kind ≤ slot_start kind i
  up_to : slot_start kind i + width kind i ≤ slots_to kind
  in_block : slots_to kind ≤ 8192

within : (kind : Kind) (i : ℕ) → i < slot_count kind → Within kind i
unfolding width
within (Data zero) i lt = absurd (omega arith)
within (Data (suc level)) i lt = record { after = omega arith; up_to = omega arith; in_block = omega arith }
within (Dir zero) i lt = record { after = omega arith; up_to = omega arith; in_block = omega arith }
within (Dir (suc level)) i lt = record { after = omega arith; up_to = omega arith; in_block = omega arith }
within Root zero lt = record { after = omega arith; up_to = omega arith; in_block = omega arith }
within Root (suc zero) lt = record { after = omega arith; up_to = omega arith; in_block = omega arith }
within Root (suc (suc i)) lt = record { after = omega arith; up_to = omega arith; in_block = omega arith }

-- Two slots of a block have no byte in common.
apart : (kind : Kind) (j i : ℕ) → j < slot_count kind → i < slot_count kind → j ≢ i → (slot_start kind j + width kind j ≤ slot_start kind i) ⊎ (slot_start kind i + width kind i ≤ slot_start kind j)
unfolding width
apart (Data zero) j i lj li ne = absurd (omega arith)
apart (Data (suc level)) j i lj li ne = ⊎_elim (λ lt. inl (omega (arith, lt))) (λ ge. inr (omega (arith, ge, ne))) (cases_lt j i)
apart (Dir zero) j i lj li ne = ⊎_elim (λ lt. inl (omega (arith, lt))) (λ ge. inr (omega (arith, ge, ne))) (cases_lt j i)
apart (Dir (suc level)) j i lj li ne = ⊎_elim (λ lt. inl (omega (arith, lt))) (λ ge. inr (omega (arith, ge, ne))) (cases_lt j i)
apart Root zero zero lj li ne = absurd (ne refl)
apart Root zero (suc zero) lj li ne = inl (omega arith)
apart Root zero (suc (suc i)) lj li ne = inr (omega arith)
apart Root (suc zero) zero lj li ne = inr (omega arith)
apart Root (suc zero) (suc zero) lj li ne = absurd (ne refl)
apart Root (suc zero) (suc (suc i)) lj li ne = inr (omega arith)
apart Root (suc (suc j)) zero lj li ne = inl (omega arith)
apart Root (suc (suc j)) (suc zero) lj li ne = inl (omega arith)
apart Root (suc (suc j)) (suc (suc i)) lj li ne = absurd (omega arith)

-- bytes that stay beside a part, stay in any part apart from it
kept : {from to : ℕ} {old new : List ℕ} (at len : ℕ) → KeepsBeside from to old new → (at + len ≤ from) ⊎ (to ≤ at) → take len (drop at new) ≡ take len (drop at old)
kept {from} {to} {old} {new} at len keeps which = ⊎_elim
    (λ le.
    let same : take (at + len) new ≡ take (at + len) old = sym (take-take (at + len) from new le) ∙ ap (λ (xs : List ℕ). take (at + len) xs) keeps.before ∙ take-take (at + len) from old le in
    sym (drop-take at len new) ∙ ap (λ (xs : List ℕ). drop at xs) same ∙ drop-take at len old)
    (λ le.
    let far : to + (at - to) ≡ at = omega (arith, le) in
    ap (λ (xs : List ℕ). take len xs) (later far new ∙ ap (λ (xs : List ℕ). drop (at - to) xs) keeps.behind ∙ sym (later far old)))
    which
  where
    later : to + (at - to) ≡ at → (xs : List ℕ) → drop at xs ≡ drop (at - to) (drop to xs)
    later far xs = ap (λ n. drop n xs) (sym far) ∙ sym (drop-drop (at - to) to xs)

-- bytes that stay beside a part, stay beside a wider one
wider : {from to : ℕ} {old new : List ℕ} (f t : ℕ) → f ≤ from → to ≤ t → KeepsBeside from to old new → KeepsBeside f t old new
wider {from} {to} {old} {new} f t lf lt keeps = record {
  before = sym (take-take f from new lf) ∙ ap (λ (xs : List ℕ). take f xs) keeps.before ∙ take-take f from old lf;
  behind = later new ∙ ap (λ (xs : List ℕ). drop (t - to) xs) keeps.behind ∙ sym (later old);
}
  where
    far : to + (t - to) ≡ t
    far = omega (arith, lt)

    later : (xs : List ℕ) → drop t xs ≡ drop (t - to) (drop to xs)
    later xs = ap (λ n. drop n xs) (sym far) ∙ sym (drop-drop (t - to) to xs)

-- The first slots of a block of this kind are spelled in the bytes, which stay beside the slots.
pub record SpellsUpTo (kind : Kind) (slot : ℕ → Slot) (n : ℕ) (old bytes : List ℕ) : Type 0 where
  pub beside : KeepsBeside (slots_from kind) (slots_to kind) old bytes
  pub each : (i : ℕ) → i < n → SpellsSlot (slot i) (take (slot_size (slot i)) (drop (slot_start kind i) bytes))

pub one_more_spelled : {kind : Kind} {old mid new : List ℕ} (slot : ℕ → Slot) (i : ℕ) → i < slot_count kind → ((j : ℕ) → j < slot_count kind → SlotFits kind j (slot j)) → SpellsUpTo kind slot i old mid → SpellsSlot (slot i) (take (slot_size (slot i)) (drop (slot_start kind i) new)) → KeepsBeside (slot_start kind i) (slot_start kind i + slot_size (slot i)) mid new → SpellsUpTo kind slot (i + 1) old new
one_more_spelled {kind} {old} {mid} {new} slot i lt fits so_far here beside = record {
  beside =
      let w = within kind i lt in
      let wide = wider (slots_from kind) (slots_to kind) w.after (omega (arith, w.up_to, size_is kind i (slot i) (fits i lt))) beside in
      record { before = wide.before ∙ so_far.beside.before; behind = wide.behind ∙ so_far.beside.behind };
  each = λ j less. ⊎_elim
      (λ is. subst (λ k. SpellsSlot (slot k) (take (slot_size (slot k)) (drop (slot_start kind k) new))) (sym is) here)
      (λ ne. let before : j < i = omega (arith, less, ne) in subst (λ (xs : List ℕ). SpellsSlot (slot j) xs) (sym (kept (slot_start kind j) (slot_size (slot j)) beside (beside_here j before))) (so_far.each j before))
      (cases_eq j i);
}
  where
    beside_here : (j : ℕ) → j < i → (slot_start kind j + slot_size (slot j) ≤ slot_start kind i) ⊎ (slot_start kind i + slot_size (slot i) ≤ slot_start kind j)
    beside_here j before =
        let count : j < slot_count kind = omega (arith, before, lt) in
        subst (λ n. (slot_start kind j + n ≤ slot_start kind i) ⊎ (slot_start kind i + slot_size (slot i) ≤ slot_start kind j)) (sym (size_is kind j (slot j) (fits j count)))
        (subst (λ n. (slot_start kind j + width kind j ≤ slot_start kind i) ⊎ (slot_start kind i + n ≤ slot_start kind j)) (sym (size_is kind i (slot i) (fits i lt)))
        (apart kind j i count lt (λ e. omega (arith, e, before))))
