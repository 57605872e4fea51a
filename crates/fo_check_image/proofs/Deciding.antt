-- Whether bytes spell an entry of at most four levels, which can be decided.
use Rattle.std.proofs.Common.{◌≡◌, ◌⊎◌, inl, inr, ⊎_elim, ℕ, zero, suc, ◌-◌, ◌*◌, ◌^◌, ◌<◌, ◌≤◌, Bool, true, false, List, [], ◌∷◌, length, take, refl, sym, subst, arith}
use Rattle.std.specs.Prelude.{replicate}
use Rattle.std.specs.List.{AllByRecursion}
use Rattle.std.proofs.lemmas.Bool.{cases_eq, cases_lt}
use Rattle.fo_image.specs.declared.types.Pointer.{Pointer}
use Rattle.fo_image.specs.declared.types.Pointer.TheVariants.{Nil, Local, Score as Held}
use Rattle.fo_image.specs.declared.types.Entry.{Entry}
use Rattle.fo_image.specs.Field.{Field, Number, Fixed, Text, FieldFits, limit, padded, spelling}
use Rattle.fo_image.specs.Format.{PointerHolds, IsDepth, ActiveHolds, entry_fields, SpellsEntry}
use Rattle.fo_slots.specs.Read.{entry_from}
use Rattle.fo_slots.proofs.Meaning.{entry_meant}

-- ---- decisions

abbrev pub Either : Type 0 → Type 0
Either P = P ⊎ (P → ⊥)

both : {P Q : Type 0} → Either P → Either Q → Either (P × Q)
both p q = ⊎_elim
    (λ yes_p. ⊎_elim (λ yes_q. inl (yes_p, yes_q)) (λ no_q. inr (λ h. no_q h.1)) q)
    (λ no_p. inr (λ h. no_p h.0))
    p

opposite : {P : Type 0} → Either P → Either (P → ⊥)
opposite p = ⊎_elim (λ holds. inr (λ h. h holds)) (λ none. inl none) p

less : (n m : ℕ) → Either (n < m)
less n m = ⊎_elim (λ lt. inl lt) (λ ge. inr (λ lt. omega (arith, lt, ge))) (cases_lt n m)

equal : (n m : ℕ) → Either (n ≡ m)
equal n m = ⊎_elim (λ e. inl e) (λ ne. inr (λ e. ne e)) (cases_eq n m)

at_most : (n m : ℕ) → Either (n ≤ m)
at_most n m = ⊎_elim (λ lt. inr (λ le. omega (arith, lt, le))) (λ ge. inl ge) (cases_lt m n)

first_is : {x y : ℕ} {xs ys : List ℕ} → x ∷ xs ≡ y ∷ ys → x ≡ y
first_is e = cc

rest_is : {x y : ℕ} {xs ys : List ℕ} → x ∷ xs ≡ y ∷ ys → xs ≡ ys
rest_is e = cc

none_some : {y : ℕ} {ys : List ℕ} → [] ≡ y ∷ ys → ⊥
none_some e = cc

pair_is : {x y : ℕ} {xs ys : List ℕ} → x ≡ y → xs ≡ ys → x ∷ xs ≡ y ∷ ys
pair_is e f = cc

same_list : (xs ys : List ℕ) → Either (xs ≡ ys)
same_list [] [] = inl refl
same_list [] (y ∷ ys) = inr (λ e. none_some e)
same_list (x ∷ xs) [] = inr (λ e. none_some (sym e))
same_list (x ∷ xs) (y ∷ ys) = ⊎_elim
    (λ first. ⊎_elim (λ rest. inl (pair_is first rest)) (λ no_rest. inr (λ e. no_rest (rest_is e))) (same_list xs ys))
    (λ no_first. inr (λ e. no_first (first_is e)))
    (equal x y)

-- below each number
each_below : (n : ℕ) (P : ℕ → Type 0) → ((k : ℕ) → Either (P k)) → Either ((k : ℕ) → k < n → P k)
each_below zero P each = inl (λ k lt. absurd (omega (arith, lt)))
each_below (suc n) P each = ⊎_elim
    (λ below. ⊎_elim
    (λ here. inl (λ k lt. ⊎_elim (λ e. subst P (sym e) here) (λ ne. below k (omega (arith, lt, ne))) (cases_eq k n)))
    (λ isnt. inr (λ all. isnt (all n (omega arith))))
    (each n))
    (λ isnt. inr (λ all. isnt (λ k lt. all k (omega (arith, lt)))))
    (each_below n P each)

-- ---- entries

field_fits : (f : Field) → Either (FieldFits f)
field_fits (Number size n) = less n (limit size)
field_fits (Fixed len bytes) = equal (length bytes) len
field_fits (Text bytes) = less (length bytes) (2 ^ 8)

fields_fit : (fs : List Field) → Either (AllByRecursion FieldFits fs)
fields_fit [] = inl tt
fields_fit (f ∷ fs) = both (field_fits f) (fields_fit fs)

is_depth : (size depth : ℕ) → Either (IsDepth size depth)
is_depth size depth = ⊎_elim
    (λ h. inl (record { room = h.0; least = h.1 }))
    (λ isnt. inr (λ h. isnt (h.room, h.least)))
    (both (at_most size (8192 * 409 ^ depth)) (each_below depth (λ k. 8192 * 409 ^ k < size) (λ k. less (8192 * 409 ^ k) size)))

holds_pointer : (p : Pointer) → Either (PointerHolds p)
holds_pointer Nil = inl tt
holds_pointer (Local address) = less address (2 ^ 32 - 1)
holds_pointer (Held score) = opposite (same_list (take 16 score.0) (replicate 16 0))

is_false : (b : Bool) → Either (b ≡ false)
is_false true = inr (λ e. cc)
is_false false = inl refl

is_nil : (p : Pointer) → Either (p ≡ Nil)
is_nil Nil = inl refl
is_nil (Local address) = inr (λ e. cc)
is_nil (Held score) = inr (λ e. cc)

unused : (e : Entry) → Either (ActiveHolds false e)
unused e = ⊎_elim
    (λ h. inl (h.0, h.1.0, h.1.1.0, h.1.1.1.0, h.1.1.1.1))
    (λ isnt. inr (λ h. isnt (h.0, (h.1, (h.2, (h.3, h.4))))))
    (both (is_false e.dir) (both (equal e.depth 0) (both (equal e.tag 0) (both (equal e.size 0) (is_nil e.top)))))

active_holds : (active : Bool) (e : Entry) → Either (ActiveHolds active e)
active_holds true e = both (is_depth e.size e.depth) (holds_pointer e.top)
active_holds false e = unused e

spells : (e : Entry) (bytes : List ℕ) → Either (SpellsEntry e bytes)
spells e bytes = ⊎_elim
    (λ h. inl (record { holds = record { active_holds = h.0 }; fit = h.1.0; bytes_are = h.1.1 }))
    (λ isnt. inr (λ s. isnt (s.holds.active_holds, (s.fit, s.bytes_are))))
    (both (active_holds e.active e) (both (fields_fit (entry_fields e)) (same_list bytes (padded 40 (spelling (entry_fields e))))))

-- Some entry of at most four levels is spelled.
pub record IsShort (bytes : List ℕ) : Type 0 where
  pub entry : Entry
  pub spelled : SpellsEntry entry bytes
  pub shallow : entry.depth ≤ 4

pub short : (bytes : List ℕ) → Either (IsShort bytes)
short bytes = ⊎_elim
    (λ h. inl (record { entry = entry_from bytes; spelled = h.0; shallow = h.1 }))
    (λ isnt. inr (λ s.
    let is : entry_from bytes ≡ s.entry = entry_meant s.entry bytes s.spelled in
    isnt (subst (λ (e : Entry). SpellsEntry e bytes × (e.depth ≤ 4)) (sym is) (s.spelled, s.shallow))))
    (both (spells (entry_from bytes) bytes) (at_most (entry_from bytes).depth 4))
