-- Whether bytes spell an entry can be decided.
use Rattle.std.proofs.Common.{◌≡◌, ◌≢◌, ◌⊎◌, ⊎_elim, inl, inr, ℕ, zero, suc, ◌-◌, ◌*◌, ◌^◌, ◌<◌, ◌≤◌, Bool, true, false, List, [], ◌∷◌, length, take, refl, sym, ap, ◌∙◌, subst, arith}
use Rattle.std.specs.Prelude.{replicate}
use Rattle.std.specs.List.{AllByRecursion}
use Rattle.std.proofs.lemmas.Bool.{cases_eq, cases_lt}
use Rattle.fo_image.specs.declared.types.Entry.{Entry}
use Rattle.fo_image.specs.declared.types.Pointer.{Pointer}
use Rattle.fo_image.specs.declared.types.Pointer.TheVariants.{Nil, Local, Score as Held}
use Rattle.fo_image.specs.Field.{Field, Number, Fixed, Text, limit, FieldFits, padded, spelling}
use Rattle.fo_image.specs.Format.{IsDepth, PointerHolds, ActiveHolds, EntryHolds, entry_fields, SpellsEntry}

-- It is so, or it is not.
abbrev pub Decided : Type 0 → Type 0
Decided A = A ⊎ (A → ⊥)

module _ {A B : Type 0} where
  both : Decided A → Decided B → Decided (A × B)
  both (inl a) (inl b) = inl (a, b)
  both (inl a) (inr b) = inr (λ (h : A × B). b h.1)
  both (inr a) b = inr (λ (h : A × B). a h.0)

numbers : (a b : ℕ) → Decided (a ≡ b)
numbers a b = cases_eq a b

below : (a b : ℕ) → Decided (a < b)
below a b = ⊎_elim (λ (lt : a < b). inl lt) (λ (ge : b ≤ a). inr (λ lt. omega (arith, lt, ge))) (cases_lt a b)

flags : (a b : Bool) → Decided (a ≡ b)
flags true true = inl refl
flags true false = inr (λ e. cc)
flags false true = inr (λ e. cc)
flags false false = inl refl

bytes : (a b : List ℕ) → Decided (a ≡ b)
bytes [] [] = inl refl
bytes [] (y ∷ b) = inr (λ e. cc)
bytes (x ∷ a) [] = inr (λ e. cc)
bytes (x ∷ a) (y ∷ b) = ⊎_elim
    (λ (same : x ≡ y). ⊎_elim
    (λ (rest : a ≡ b). inl (ap (λ (n : ℕ). n ∷ a) same ∙ ap (λ (xs : List ℕ). y ∷ xs) rest))
    (λ (apart : a ≡ b → ⊥). inr (λ e. let r : a ≡ b = cc in apart r))
    (bytes a b))
    (λ (apart : x ≢ y). inr (λ e. let h : x ≡ y = cc in apart h))
    (numbers x y)

fits : (f : Field) → Decided (FieldFits f)
fits (Number size n) = below n (limit size)
fits (Fixed len b) = numbers (length b) len
fits (Text b) = below (length b) (2 ^ 8)

all_fit : (fields : List Field) → Decided (AllByRecursion FieldFits fields)
all_fit [] = inl tt
all_fit (f ∷ fields) = both (fits f) (all_fit fields)

pointer : (p : Pointer) → Decided (PointerHolds p)
pointer Nil = inl tt
pointer (Local at) = below at (2 ^ 32 - 1)
pointer (Held score) = ⊎_elim (λ (zeros : take 16 score.0 ≡ replicate 16 0). inr (λ is. is zeros)) (λ (apart : take 16 score.0 ≡ replicate 16 0 → ⊥). inl apart) (bytes (take 16 score.0) (replicate 16 0))

least : (size depth : ℕ) → Decided ((less : ℕ) → less < depth → 8192 * 409 ^ less < size)
least size zero = inl (λ less lt. absurd (omega (arith, lt)))
least size (suc depth) = ⊎_elim
    (λ (some : (less : ℕ) → less < depth → 8192 * 409 ^ less < size). ⊎_elim
    (λ (last : 8192 * 409 ^ depth < size). inl (λ less lt. ⊎_elim (λ (same : less ≡ depth). subst (λ (n : ℕ). 8192 * 409 ^ n < size) (sym same) last) (λ (apart : less ≢ depth). some less (omega (arith, lt, apart))) (cases_eq less depth)))
    (λ (isnt : 8192 * 409 ^ depth < size → ⊥). inr (λ all. isnt (all depth (omega arith))))
    (below (8192 * 409 ^ depth) size))
    (λ (none : ((less : ℕ) → less < depth → 8192 * 409 ^ less < size) → ⊥). inr (λ all. none (λ less lt. all less (omega (arith, lt)))))
    (least size depth)

depths : (size depth : ℕ) → Decided (IsDepth size depth)
depths size depth = ⊎_elim
    (λ (over : 8192 * 409 ^ depth < size). inr (λ (d : IsDepth size depth). omega (arith, over, d.room)))
    (λ (room : size ≤ 8192 * 409 ^ depth). ⊎_elim
    (λ (l : (less : ℕ) → less < depth → 8192 * 409 ^ less < size). inl (record { room = room; least = l }))
    (λ (none : ((less : ℕ) → less < depth → 8192 * 409 ^ less < size) → ⊥). inr (λ (d : IsDepth size depth). none d.least))
    (least size depth))
    (cases_lt (8192 * 409 ^ depth) size)

nowhere : (p : Pointer) → Decided (p ≡ Nil)
nowhere Nil = inl refl
nowhere (Local at) = inr (λ e. cc)
nowhere (Held score) = inr (λ e. cc)

active : (a : Bool) (e : Entry) → Decided (ActiveHolds a e)
active true e = both (depths e.size e.depth) (pointer e.top)
active false e = same (both (flags e.dir false) (both (numbers e.depth 0) (both (numbers e.tag 0) (both (numbers e.size 0) (nowhere e.top)))))
  where
    same : Decided ((e.dir ≡ false) × ((e.depth ≡ 0) × ((e.tag ≡ 0) × ((e.size ≡ 0) × (e.top ≡ Nil))))) → Decided (ActiveHolds false e)
    same (inl h) = inl (h.0, h.1.0, h.1.1.0, h.1.1.1.0, h.1.1.1.1)
    same (inr none) = inr (λ h. none (h.0, (h.1, (h.2, (h.3, h.4)))))

holds : (e : Entry) → Decided (EntryHolds e)
holds e = ⊎_elim
    (λ (h : ActiveHolds e.active e). inl (record { active_holds = h }))
    (λ (none : ActiveHolds e.active e → ⊥). inr (λ (h : EntryHolds e). none h.active_holds))
    (active e.active e)

pub entry : (e : Entry) (b : List ℕ) → Decided (SpellsEntry e b)
entry e b = by (holds e) (all_fit (entry_fields e)) (bytes b (padded 40 (spelling (entry_fields e))))
  where
    by : Decided (EntryHolds e) → Decided (AllByRecursion FieldFits (entry_fields e)) → Decided (b ≡ padded 40 (spelling (entry_fields e))) → Decided (SpellsEntry e b)
    by (inl h) (inl f) (inl is) = inl (record { holds = h; fit = f; bytes_are = is })
    by (inr none) f is = inr (λ (s : SpellsEntry e b). none s.holds)
    by (inl h) (inr none) is = inr (λ (s : SpellsEntry e b). none s.fit)
    by (inl h) (inl f) (inr none) = inr (λ (s : SpellsEntry e b). none s.bytes_are)
