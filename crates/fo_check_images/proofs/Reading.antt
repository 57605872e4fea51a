-- What the bytes of a slot mean.
use Rattle.std.proofs.Common.{◌≡◌, ◌⊎◌, inl, inr, ℕ, zero, suc, ◌+◌, ◌-◌, ◌%◌, ◌^◌, ◌<◌, ◌≤◌, Bool, true, false, List, [], ◌∷◌, length, get_or, take, drop, refl, sym, ap, ◌∙◌, subst, arith}
use Rattle.std.specs.Prelude.{◌==◌, cond}
use Rattle.std.specs.List.{list_all}
use Rattle.std.specs.Int.{w32, from_be_bytes}
use Rattle.std.proofs.lemmas.Bool.{cases_lt}
use Rattle.std.proofs.lemmas.List.{length-take, length-drop}
use Rattle.fo_image.specs.declared.types.Kind.{Kind}
use Rattle.fo_image.specs.declared.types.Kind.TheVariants.{Data, Dir, Root}
use Rattle.fo_image.specs.declared.types.Label.{Label}
use Rattle.fo_image.specs.declared.types.State.{State}
use Rattle.fo_image.specs.declared.types.State.TheVariants.{Free, Live, Closed}
use Rattle.fo_image.specs.declared.types.Entry.{Entry}
use Rattle.fo_image.specs.declared.types.Pointer.TheVariants.{Nil, Local, Score as Held}
use Rattle.fo_image.specs.Field.{Four, number_at}
use Rattle.fo_image.specs.Format.{SpellsPointer, SpellsEntry, SpellsLabel, StateHolds, KindHolds, kind_code}
use Rattle.fo_image.proofs.PointerLemmas.{spells_pointer, is_score_from, nil_found, local_found}
use Rattle.fo_crash.specs.declared.slot.Slot.{Slot}
use Rattle.fo_crash.specs.declared.slot.Slot.TheVariants.{Pointer as To, Entry as Head}
use Rattle.fo_slots.specs.Read.{pointer_from, local_from, entry_from}
use Rattle.fo_check_images.proofs.Deciding.{Decided, entry as decides}

-- ---- bytes

pub small_take : (n : ℕ) (b : List ℕ) → ((i : ℕ) → get_or b i 0 < 256) → (i : ℕ) → get_or (take n b) i 0 < 256
small_take zero b small i = omega arith
small_take (suc n) [] small i = omega arith
small_take (suc n) (x ∷ b) small zero = small 0
small_take (suc n) (x ∷ b) small (suc i) = small_take n b (λ j. small (suc j)) i

pub small_drop : (n : ℕ) (b : List ℕ) → ((i : ℕ) → get_or b i 0 < 256) → (i : ℕ) → get_or (drop n b) i 0 < 256
small_drop zero b small i = small i
small_drop (suc n) [] small i = omega arith
small_drop (suc n) (x ∷ b) small i = small_drop n b (λ j. small (suc j)) i

-- ---- pointers

word_small : (b : List ℕ) → length b ≡ 4 → ((i : ℕ) → get_or b i 0 < 256) → from_be_bytes w32 b < 2 ^ 32
word_small b len small = omega (arith, small 0, small 1, small 2, small 3)

module _ (b : List ℕ) (len : length b ≡ 20) (small : (i : ℕ) → get_or b i 0 < 256) where
  number_small : number_at Four 16 b < 2 ^ 32
  unfolding number_at
  number_small = word_small (take 4 (drop 16 b)) (omega (arith, length-take 4 (drop 16 b), length-drop 16 b, len)) (small_take 4 (drop 16 b) (small_drop 16 b small))

  by_number : list_all (λ x. x == 0) (take 16 b) ≡ true → (n : ℕ) → number_at Four 16 b ≡ n → SpellsPointer (local_from n) b
  by_number zeros zero is = nil_found b 0 len small zeros (sym is) refl
  by_number zeros (suc n) is =
      let one : suc n - 1 ≡ n = omega arith in
      subst (λ (x : ℕ). SpellsPointer (Local x) b) one (local_found b (suc n) len small zeros (sym is) (omega arith) (omega (arith, is, number_small)))

  by_front : (t : Bool) → list_all (λ x. x == 0) (take 16 b) ≡ t → SpellsPointer (cond t (local_from (number_at Four 16 b)) (Held (record { 0 = b }))) b
  by_front true zeros = by_number zeros (number_at Four 16 b) refl
  by_front false some = spells_pointer (Held (record { 0 = b })) b (is_score_from b some) len refl

  pub pointer_spelled : SpellsPointer (pointer_from b) b
  pointer_spelled = by_front (list_all (λ x. x == 0) (take 16 b)) refl

-- ---- entries

-- an entry of at most four levels, or nothing
abbrev pub shallow_by : (e : Entry) → (4 < e.depth) ⊎ (e.depth ≤ 4) → Slot
shallow_by e (inl deep) = To Nil
shallow_by e (inr low) = Head e

abbrev pub shallow : Entry → Slot
shallow e = shallow_by e (cases_lt 4 e.depth)

abbrev pub entry_by : (e : Entry) (b : List ℕ) → Decided (SpellsEntry e b) → Slot
entry_by e b (inl spelled) = shallow e
entry_by e b (inr none) = To Nil

abbrev pub entry_slot : List ℕ → Slot
entry_slot b = entry_by (entry_from b) b (decides (entry_from b) b)

-- ---- kinds

abbrev pub kind_by : (n : ℕ) → (n < 8) ⊎ (8 ≤ n) → (n < 16) ⊎ (16 ≤ n) → Kind
kind_by n (inl low) c = Data n
kind_by n (inr high) (inl lower) = Dir (n - 8)
kind_by n (inr high) (inr higher) = Root

abbrev pub kind_from : ℕ → Kind
kind_from n = kind_by n (cases_lt n 8) (cases_lt n 16)

data_by : (n : ℕ) → n < 8 → (a : (n < 8) ⊎ (8 ≤ n)) (c : (n < 16) ⊎ (16 ≤ n)) → kind_by n a c ≡ Data n
data_by n lt (inl low) c = refl
data_by n lt (inr high) c = absurd (omega (arith, lt, high))

dir_by : (n level : ℕ) → n ≡ 8 + level → level ≤ 4 → (a : (n < 8) ⊎ (8 ≤ n)) (c : (n < 16) ⊎ (16 ≤ n)) → kind_by n a c ≡ Dir level
dir_by n level is le (inl low) c = absurd (omega (arith, low, is))
dir_by n level is le (inr high) (inl lower) = ap (λ (x : ℕ). Dir x) (omega (arith, is))
dir_by n level is le (inr high) (inr higher) = absurd (omega (arith, is, le, higher))

root_by : (a : (16 < 8) ⊎ (8 ≤ 16)) (c : (16 < 16) ⊎ (16 ≤ 16)) → kind_by 16 a c ≡ Root
root_by (inl low) c = absurd (omega (arith, low))
root_by (inr high) (inl lower) = absurd (omega (arith, lower))
root_by (inr high) (inr higher) = refl

kind_back : (k : Kind) → KindHolds k → kind_from (kind_code k) ≡ k
kind_back (Data level) le = data_by level (omega (arith, le)) (cases_lt level 8) (cases_lt level 16)
kind_back (Dir level) le = dir_by (8 + level) level refl le (cases_lt (8 + level) 8) (cases_lt (8 + level) 16)
kind_back Root le = root_by (cases_lt 16 8) (cases_lt 16 16)

kind_holds : (state : State) (l : Label) → StateHolds state l → KindHolds l.kind
kind_holds Free l h = subst (λ (k : Kind). KindHolds k) (sym h.0) (omega arith)
kind_holds Live l h = h.0
kind_holds Closed l h = h.0

small_code : (n : ℕ) → n < 2 ^ 8 → n % 256 ≡ n
small_code n lt = omega arith

code_at : (l : Label) (b : List ℕ) → SpellsLabel l b → get_or b 1 0 ≡ kind_code l.kind
code_at l b s = subst (λ (x : List ℕ). get_or x 1 0 ≡ kind_code l.kind) (sym s.bytes_are) (small_code (kind_code l.kind) s.fit.1.0)

pub label_kind : (l : Label) (b : List ℕ) → SpellsLabel l b → kind_from (get_or b 1 0) ≡ l.kind
label_kind l b s = ap (λ (n : ℕ). kind_from n) (code_at l b s) ∙ kind_back l.kind (kind_holds l.state l s.holds.state_holds)
