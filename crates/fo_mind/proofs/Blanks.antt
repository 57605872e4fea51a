-- Zeros are a block that leads nowhere.
use Rattle.std.proofs.Common.{◌≡◌, ⊎_elim, ℕ, zero, suc, ◌+◌, ◌-◌, ◌*◌, ◌<◌, ◌≤◌, nat_lt, cond, true, false, List, ◌++◌, take, drop, replicate, refl, sym, ◌∙◌, ap, subst, arith}
use Rattle.std.specs.List.{AllByRecursion}
use Rattle.std.proofs.lemmas.Bool.{cases_lt, lt-ltb, le-ltb}
use Rattle.std.proofs.lemmas.List.{take-replicate, drop-replicate, replicate-append-replicate}
use Rattle.fo_image.specs.declared.types.Kind.{Kind}
use Rattle.fo_image.specs.declared.types.Kind.TheVariants.{Data, Dir, Root}
use Rattle.fo_image.specs.declared.types.Pointer.TheVariants.{Nil, Local}
use Rattle.fo_image.specs.Field.{FieldFits, zeros}
use Rattle.fo_image.specs.Format.{SpellsPointer, SpellsEntry, entry_fields}
use Rattle.fo_crash.specs.declared.slot.Slot.TheVariants.{Pointer as To, Entry as Head}
use Rattle.fo_crash.specs.Images.{SameContent, target}
use Rattle.fo_ports.specs.Blocks.{AreZeros, IsEntry, IsLevel, ReadsSlots, SlotFits, SpellsSlot, blank, blank_slot, no_entry, slot_count, slot_size, slot_start, slots_to, zero_bytes}
use Rattle.fo_ports.proofs.Lengths.{length_zero_bytes}
use Rattle.fo_slots.specs.Read.{HasNumbers, IsInRange, IsMeant, blanked, read}
use Rattle.fo_bring.specs.Blocks.{Good, HasZeros}
use Rattle.fo_bring.proofs.Copying.{past_slots}

zero_is : zero_bytes ≡ replicate 8192 0
unfolding zero_bytes
zero_is = refl

part_of : (zs : List ℕ) (n w s : ℕ) → zs ≡ replicate n 0 → s + w ≤ n → take w (drop s zs) ≡ replicate w 0
part_of zs n w s is le = ap (λ (xs : List ℕ). take w (drop s xs)) is ∙ ap (take w) (drop-replicate s n 0) ∙ take-replicate w (n - s) 0 (omega (arith, le))

part : (w s : ℕ) → s + w ≤ 8192 → take w (drop s zero_bytes) ≡ replicate w 0
part w s le = part_of zero_bytes 8192 w s zero_is le

nil_spelled : SpellsPointer Nil (replicate 20 0)
unfolding zeros
nil_spelled = record { holds = tt; fit = (refl, tt); bytes_are = refl }

none_fit : AllByRecursion FieldFits (entry_fields no_entry)
none_fit = (omega arith, (omega arith, (omega arith, (omega arith, (omega arith, (omega arith, (refl, tt)))))))

none_spelled : SpellsEntry no_entry (replicate 40 0)
unfolding zeros
none_spelled = record { holds = record { active_holds = (refl, refl, refl, refl, refl) }; fit = none_fit; bytes_are = refl }

fits : (kind : Kind) (i : ℕ) → IsLevel kind → i < slot_count kind → SlotFits kind i (blank_slot kind i)
fits (Data level) i is lt = tt
fits (Dir zero) i is lt = subst (λ t. IsEntry (cond t (Head no_entry) (To Nil))) (sym (lt-ltb i 204 lt)) (record { active_holds = (refl, refl, refl, refl, refl) }, omega arith)
fits (Dir (suc level)) i is lt = tt
fits Root i is lt = absurd is

spells : (kind : Kind) (i : ℕ) → IsLevel kind → i < slot_count kind → SpellsSlot (blank_slot kind i) (take (slot_size (blank_slot kind i)) (drop (slot_start kind i) zero_bytes))
spells (Data zero) i is lt = absurd (omega (arith, lt))
spells (Data (suc level)) i is lt = subst (SpellsPointer Nil) (sym (part 20 (20 * i) (omega (arith, lt)))) nil_spelled
spells (Dir zero) i is lt = subst (λ t. SpellsSlot (cond t (Head no_entry) (To Nil)) (take (slot_size (cond t (Head no_entry) (To Nil))) (drop (40 * i) zero_bytes))) (sym (lt-ltb i 204 lt)) (subst (SpellsEntry no_entry) (sym (part 40 (40 * i) (omega (arith, lt)))) none_spelled)
spells (Dir (suc level)) i is lt = subst (SpellsPointer Nil) (sym (part 20 (20 * i) (omega (arith, lt)))) nil_spelled
spells Root i is lt = absurd is

pub blank_reads : (kind : Kind) → IsLevel kind → ReadsSlots kind (blank kind) zero_bytes
blank_reads kind is = record { fit = λ i lt. fits kind i is lt; spelled = λ i lt. spells kind i is lt }

in_range : (kind : Kind) (i : ℕ) → IsLevel kind → i < slot_count kind → IsInRange (blank_slot kind i)
in_range (Data level) i is lt = tt
in_range (Dir zero) i is lt = subst (λ t. IsInRange (cond t (Head no_entry) (To Nil))) (sym (lt-ltb i 204 lt)) tt
in_range (Dir (suc level)) i is lt = tt
in_range Root i is lt = absurd is

pub blank_numbers : (kind : Kind) → IsLevel kind → HasNumbers kind (blank kind)
blank_numbers kind is = record { each = λ i lt. in_range kind i is lt }

past_blank : (kind : Kind) (i : ℕ) → IsLevel kind → slot_count kind ≤ i → blank_slot kind i ≡ To Nil
past_blank (Data level) i is ge = refl
past_blank (Dir zero) i is ge = ap (λ t. cond t (Head no_entry) (To Nil)) (le-ltb i 204 ge)
past_blank (Dir (suc level)) i is ge = refl
past_blank Root i is ge = absurd is

none_of : (b : _) → target (cond b (Head no_entry) (To Nil)) ≡ Nil
none_of true = refl
none_of false = refl

leads_nowhere : (kind : Kind) (i : ℕ) → IsLevel kind → target (blank_slot kind i) ≡ Nil
leads_nowhere (Data level) i is = refl
leads_nowhere (Dir zero) i is = none_of (nat_lt i 204)
leads_nowhere (Dir (suc level)) i is = refl
leads_nowhere Root i is = absurd is

tail_of : (zs : List ℕ) (n m : ℕ) → zs ≡ replicate n 0 → m ≤ n → replicate m 0 ++ drop m zs ≡ zs
tail_of zs n m is le =
    let count : m + (n - m) ≡ n = omega (arith, le) in
    ap (λ (xs : List ℕ). replicate m 0 ++ drop m xs) is ∙ ap (λ xs. replicate m 0 ++ xs) (drop-replicate m n 0) ∙ replicate-append-replicate m (n - m) 0 ∙ ap (λ k. replicate k 0) count ∙ sym is

blank_bytes : (zs : List ℕ) (n : ℕ) (kind : Kind) → zs ≡ replicate n 0 → 8180 ≤ n → IsLevel kind → blanked kind zs ≡ zs
unfolding zeros
blank_bytes zs n (Data zero) e le is = refl
blank_bytes zs n (Data (suc level)) e le is = tail_of zs n 8180 e le
blank_bytes zs n (Dir zero) e le is = tail_of zs n 8160 e (omega (arith, le))
blank_bytes zs n (Dir (suc level)) e le is = tail_of zs n 8180 e le
blank_bytes zs n Root e le is = absurd is

slots_are : (kind : Kind) → IsLevel kind → IsMeant kind (blank kind) zero_bytes → (i : ℕ) → (read kind zero_bytes).slot i ≡ blank_slot kind i
slots_are kind is meant i = ⊎_elim
    (λ lt. meant.same i lt)
    (λ ge. past_slots kind zero_bytes i ge ∙ sym (past_blank kind i is ge))
    (cases_lt i (slot_count kind))

pub blank_content : (kind : Kind) → IsLevel kind → IsMeant kind (blank kind) zero_bytes → SameContent (read kind zero_bytes) (blank kind)
blank_content kind is meant = record {
  bytes = blank_bytes zero_bytes 8192 kind zero_is (omega arith) is;
  slots = slots_are kind is meant;
}

zeros_behind : (n m : ℕ) → AreZeros (drop m (replicate n 0))
zeros_behind zero zero = refl
zeros_behind zero (suc m) = refl
zeros_behind (suc n) zero = zeros_behind n zero
zeros_behind (suc n) (suc m) = zeros_behind n m

no_tail : (m : ℕ) → AreZeros (drop m zero_bytes)
no_tail m = subst (λ (xs : List ℕ). AreZeros (drop m xs)) (sym zero_is) (zeros_behind 8192 m)

has_zeros : (kind : Kind) → HasZeros kind zero_bytes
has_zeros (Data zero) = tt
has_zeros (Data (suc level)) = no_tail (slots_to (Data (suc level)))
has_zeros (Dir level) = no_tail (slots_to (Dir level))
has_zeros Root = tt

never : {x : ℕ} → Nil ≡ Local x → ⊥
never e = cc

pub blank_good : (first count : ℕ) (kind : Kind) → IsLevel kind → IsMeant kind (blank kind) zero_bytes → Good first count kind zero_bytes
blank_good first count kind is meant = record {
  long = length_zero_bytes;
  slots = meant.reads;
  within = record { each = λ j b e. absurd (never (sym (leads_nowhere kind j is) ∙ ap target (sym (slots_are kind is meant j)) ∙ e)) };
  zeros = has_zeros kind;
}
