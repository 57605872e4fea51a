-- Why a pair of entries is taken.
use Rattle.std.proofs.Common.{◌≡◌, ◌+◌, ◌*◌, ◌/◌, ◌%◌, ◌<◌, ◌≤◌, ◌⊎◌, ℕ, Bool, true, List, take, drop, Option, Some, None, MatchOption, refl, inl, inr, ⊎_elim, sym, ap, subst, ◌∙◌, arith}
use Rattle.fo_image.specs.declared.types.Entry.{Entry}
use Rattle.fo_image.specs.declared.types.Kind.TheVariants.{Dir}
use Rattle.fo_image.specs.Format.{SpellsEntry}
use Rattle.fo_ports.specs.of_crash.declared.slot.Slot.{Slot}
use Rattle.fo_ports.specs.of_crash.declared.slot.Slot.TheVariants.{Pointer as To, Entry as Head, Prev}
use Rattle.fo_ports.specs.of_crash.Names.{IsInUse}
use Rattle.fo_ports.specs.of_crash.Images.{Image, target}
use Rattle.fo_image.specs.declared.types.Pointer.TheVariants.{Local}
use Rattle.fo_ports.specs.Blocks.{no_entry, ReadsSlots, SlotFits, SpellsSlot, slot_size, slot_start}
use Rattle.fo_ports.specs.of_crash.Images.{SameImage}
use Rattle.fo_ports.specs.State.{State, WaitsInUse}
use Rattle.fo_ports.specs.Sources.{Leaves}
use Rattle.fo_dir_read.specs.Pairs.{PairTaken, TakenBelow, FreeIn, FreeAt, IsFree, AreTaken, IsPair, LeadsWithin}

-- An entry that is spelled is in use exactly where it is active.
pub record IsActive (s : Slot) (active : Bool) : Type 0 where
  pub used : active ≡ true → (g : ℕ) × IsInUse s g
  pub is : (g : ℕ) → IsInUse s g → active ≡ true

pub slot_active : (s : Slot) (leaf : List ℕ) (j : ℕ) (active : Bool) → SlotFits (Dir 0) j s → SpellsSlot s (take (slot_size s) (drop (slot_start (Dir 0) j) leaf)) → ((e : Entry) → SpellsEntry e (take 40 (drop (40 * j) leaf)) → active ≡ e.active) → IsActive s active
slot_active (Head e) leaf j active fits spells reads = record { used = λ a. (e.generation, (sym (reads e spells) ∙ a, refl)); is = λ g u. reads e spells ∙ u.0 }
slot_active (To p) leaf j active fits spells reads = absurd fits
slot_active (Prev epoch at) leaf j active fits spells reads = absurd fits

slot_is : (s : Slot) (leaf : List ℕ) (j : ℕ) (e : Entry) → SlotFits (Dir 0) j s → SpellsSlot s (take (slot_size s) (drop (slot_start (Dir 0) j) leaf)) → ((x : Entry) → SpellsEntry x (take 40 (drop (40 * j) leaf)) → e ≡ x) → s ≡ Head e
slot_is (Head x) leaf j e fits spells reads = ap Head (sym (reads x spells))
slot_is (To p) leaf j e fits spells reads = absurd fits
slot_is (Prev epoch at) leaf j e fits spells reads = absurd fits

-- the entries of a pair whose leaf was read
pub pair_is : (now : Image) (x : Leaves) (k b : ℕ) (first second : Entry) (leaf : List ℕ) → x.at (k / 102) ≡ Some b → ReadsSlots (Dir 0) (now b) leaf
    → ((e : Entry) → SpellsEntry e (take 40 (drop (40 * (2 * (k % 102))) leaf)) → first ≡ e) → ((e : Entry) → SpellsEntry e (take 40 (drop (40 * (2 * (k % 102) + 1)) leaf)) → second ≡ e) → IsPair now x k first second
pair_is now x k b first second leaf there reads one two = record {
  is = subst (λ o. MatchOption o ((first ≡ no_entry) × (second ≡ no_entry)) (λ c. ((now c).slot (2 * (k % 102)) ≡ Head first) × ((now c).slot (2 * (k % 102) + 1) ≡ Head second))) (sym there) (
    slot_is ((now b).slot (2 * (k % 102))) leaf (2 * (k % 102)) first (reads.fit (2 * (k % 102)) first_in) (reads.spelled (2 * (k % 102)) first_in) one,
    slot_is ((now b).slot (2 * (k % 102) + 1)) leaf (2 * (k % 102) + 1) second (reads.fit (2 * (k % 102) + 1) second_in) (reads.spelled (2 * (k % 102) + 1) second_in) two,
  );
}
  where
    first_in : 2 * (k % 102) < 204
    first_in = omega arith

    second_in : 2 * (k % 102) + 1 < 204
    second_in = omega arith

-- an entry of a leaf that was read leads to a data block, if to a block of the device
pub entry_leads : (s : State) (b j : ℕ) (e : Entry) (leaf : List ℕ) → j < 204 → ReadsSlots (Dir 0) (s.now b) leaf → ((i below : ℕ) → i < 204 → target ((s.now b).slot i) ≡ Local below → s.is_block below)
    → ((x : Entry) → SpellsEntry x (take 40 (drop (40 * j) leaf)) → e ≡ x) → LeadsWithin s e
entry_leads s b j e leaf within reads names is =
    let here : (s.now b).slot j ≡ Head e = slot_is ((s.now b).slot j) leaf j e (reads.fit j within) (reads.spelled j within) is in
    record {
      few = (subst (λ q. SlotFits (Dir 0) j q) here (reads.fit j within)).1;
      block = λ below leads. names j below within (ap target here ∙ leads);
    }

-- and so do both of a pair
pub pair_leads : (s : State) (b k : ℕ) (first second : Entry) (leaf : List ℕ) → ReadsSlots (Dir 0) (s.now b) leaf → ((i below : ℕ) → i < 204 → target ((s.now b).slot i) ≡ Local below → s.is_block below)
    → ((e : Entry) → SpellsEntry e (take 40 (drop (40 * (2 * (k % 102))) leaf)) → first ≡ e) → ((e : Entry) → SpellsEntry e (take 40 (drop (40 * (2 * (k % 102) + 1)) leaf)) → second ≡ e) → LeadsWithin s first × LeadsWithin s second
pair_leads s b k first second leaf reads names one two = (
  entry_leads s b (2 * (k % 102)) first leaf (omega arith) reads names one,
  entry_leads s b (2 * (k % 102) + 1) second leaf (omega arith) reads names two,
)

pub taken_more : {s : State} {b p : ℕ} → TakenBelow s b p → PairTaken s b p → TakenBelow s b (p + 1)
taken_more {s = s} {b = b} {p = p} below taken = record { each = λ q lt. ⊎_elim (λ before. below.each q before) (λ here. subst (λ k. PairTaken s b k) (sym here) taken) (last q lt) }
  where
    last : (q : ℕ) → q < p + 1 → (q < p) ⊎ (q ≡ p)
    last q lt = grind (arith, lt)

-- Of a pair that is taken an entry is in use in memory, as what waits is in use or stands beside such an entry.
taken_in_use : (s : State) (b p : ℕ) → WaitsInUse s → PairTaken s b p → ((g : ℕ) × IsInUse ((s.now b).slot (2 * p)) g) ⊎ ((g : ℕ) × IsInUse ((s.now b).slot (2 * p + 1)) g)
taken_in_use s b p w (inl (inl used)) = inl used
taken_in_use s b p w (inl (inr waits)) = inl (w.used b p waits)
taken_in_use s b p w (inr (inl used)) = inr used
taken_in_use s b p w (inr (inr waits)) = inl (w.used b p (w.first b p waits))

-- what is taken is so after a look
pair_on : (s t : State) (b p : ℕ) → WaitsInUse s → SameImage t.now s.now → PairTaken s b p → PairTaken t b p
pair_on s t b p w same taken = ⊎_elim (λ used. inl (inl (on (2 * p) used))) (λ used. inr (inl (on (2 * p + 1) used))) (taken_in_use s b p w taken)
  where
    on : (j : ℕ) → (g : ℕ) × IsInUse ((s.now b).slot j) g → (g : ℕ) × IsInUse ((t.now b).slot j) g
    on j used = (used.0, subst (λ (x : Slot). IsInUse x used.0) (sym ((same.each b).slots j)) used.1)

pub are_on : {s t : State} {x y : Leaves} {k : ℕ} → WaitsInUse s → SameImage t.now s.now → ((i : ℕ) → y.at i ≡ x.at i) → AreTaken s x k → AreTaken t y k
are_on {s = s} {t = t} w same there taken = record { each = λ j lt. let was = taken.each j lt in (was.0, there (j / 102) ∙ was.1, pair_on s t was.0 (j % 102) w same was.2) }

-- what is said where no leaf stands
abbrev is_first : Option ℕ → Type 0
is_first found = found ≡ Some 0

module _ (s : State) (x : Leaves) (i : ℕ) where
  -- the pairs of the leaves before, and those of this leaf below p
  are_below : (b p : ℕ) → p ≤ 102 → AreTaken s x (102 * i) → x.at i ≡ Some b → TakenBelow s b p → AreTaken s x (102 * i + p)
  are_below b p le before there below = record { each = λ j lt. ⊎_elim (λ low. before.each j low) (λ here. found j here lt) (apart j) }
    where
      apart : (j : ℕ) → (j < 102 * i) ⊎ (102 * i ≤ j)
      apart j = grind arith

      found : (j : ℕ) → 102 * i ≤ j → j < 102 * i + p → (c : ℕ) × (x.at (j / 102) ≡ Some c) × PairTaken s c (j % 102)
      found j from lt =
          let div : j / 102 ≡ i = omega (arith, from, lt, le) in
          (b, subst (λ q. x.at q ≡ Some b) (sym div) there, below.each (j % 102) (omega (arith, from, lt, le)))

  pub are_more : AreTaken s x (102 * i) → FreeAt s x i None → AreTaken s x (102 * (i + 1))
  are_more before free = more (x.at i) refl free.is
    where
      more : (o : Option ℕ) → x.at i ≡ o → MatchOption o (is_first None) (λ b. FreeIn s b None) → AreTaken s x (102 * (i + 1))
      more None e h = let is : is_first None = h in absurd (cc)
      more (Some b) e h = let long : 102 * i + 102 ≡ 102 * (i + 1) = omega arith in subst (λ k. AreTaken s x k) long (are_below b 102 (omega arith) before e h)

  pub are_part : (p : ℕ) → p < 102 → AreTaken s x (102 * i) → FreeAt s x i (Some p) → AreTaken s x (102 * i + p)
  are_part p lt before free = part (x.at i) refl free.is
    where
      part : (o : Option ℕ) → x.at i ≡ o → MatchOption o (is_first (Some p)) (λ b. FreeIn s b (Some p)) → AreTaken s x (102 * i + p)
      part None e h = let is : is_first (Some p) = h in let zero : p ≡ 0 = cc in subst (λ k. AreTaken s x k) (omega (arith, zero)) before
      part (Some b) e h = are_below b p (omega (arith, lt)) before e h.2

  pub part_free : (size p : ℕ) → p < 102 → FreeAt s x i (Some p) → IsFree s x size (102 * i + p)
  part_free size p lt free = record { is = inr (subst (λ q. MatchOption (x.at q) (Unit {0}) (λ b. PairTaken s b ((102 * i + p) % 102) → ⊥)) (sym div) (at_here (x.at i) free.is)) }
    where
      div : (102 * i + p) / 102 ≡ i
      div = omega (arith, lt)

      rest : (102 * i + p) % 102 ≡ p
      rest = omega (arith, lt)

      at_here : (o : Option ℕ) → MatchOption o (is_first (Some p)) (λ b. FreeIn s b (Some p)) → MatchOption o (Unit {0}) (λ b. PairTaken s b ((102 * i + p) % 102) → ⊥)
      at_here None e = tt
      at_here (Some b) f = λ t. f.1 (subst (λ q. PairTaken s b q) rest t)
