-- Lists of blocks in memory in which one block changes.
use Rattle.std.proofs.Common.{◌≡◌, ◌≢◌, ⊎_elim, ℕ, ◌+◌, ◌<◌, ◌≤◌, false, cond, nat_lt, zero, suc, List, [], ◌∷◌, length, get_or, set, refl, sym, ◌∙◌, ap, arith, get_or-set_other, get_or-set_same, length-set}
use Rattle.std.proofs.lemmas.Bool.{cases_eq, cases_lt, lt-ltb}
use Rattle.std.proofs.lemmas.Grind.{common_steps}
use Rattle.fo_image.specs.declared.types.Pointer.TheVariants.{Nil}
use Rattle.fo_crash.specs.declared.slot.Slot.{Slot}
use Rattle.fo_crash.specs.declared.slot.Slot.TheVariants.{Pointer as To}
use Rattle.fo_crash.specs.Steps.{PutsSlot}
use Rattle.fo_ports_plain.specs.declared.block.PlainBlock.{PlainBlock}
use Rattle.fo_ports_plain.specs.Plain.{no_block, block_at, slot_of, memory, Updates}

pub any_default : {X : Type 0} (xs : List X) (k : ℕ) (d e : X) → k < length xs → get_or xs k d ≡ get_or xs k e
any_default [] k d e lt = absurd (omega arith)
any_default (x ∷ xs) zero d e lt = refl
any_default (x ∷ xs) (suc k) d e lt = any_default xs k d e (omega arith)

-- a block that was read by its index
pub block_is : (blocks : List PlainBlock) (at : ℕ) (k : PlainBlock) → at < length blocks → k ≡ get_or blocks at k → k ≡ block_at blocks at
block_is blocks at k lt here = here ∙ any_default blocks at k no_block lt

pub updated : (blocks : List PlainBlock) (at : ℕ) (x : PlainBlock) → at < length blocks → Updates at x blocks (set blocks at x)
updated blocks at x lt = record {
  here = get_or-set_same blocks at x no_block lt;
  others = λ b ne. get_or-set_other blocks at b x no_block ne;
  as_long = length-set blocks at x;
}

set_cases : (xs : List Slot) (i j : ℕ) (v : Slot) → j ≢ i → get_or (set xs i v) j (To Nil) ≡ get_or xs j (To Nil)
set_cases xs i j v ne = get_or-set_other xs i j v (To Nil) ne

-- a slot of one block is put
pub puts_slot : {old new : List PlainBlock} {at i : ℕ} {s : Slot} {k x : PlainBlock} → Updates at x old new → k ≡ block_at old at → x.bytes ≡ k.bytes → x.slots ≡ set k.slots i s → slot_of x i ≡ s → PutsSlot at i s (memory old) (memory new)
puts_slot {old} {new} {at} {i} {s} {k} {x} up is bytes slots here = record {
  bytes = λ b. ⊎_elim
      (λ e. ap (λ c. (block_at new c).bytes) e ∙ ap (λ (y : PlainBlock). y.bytes) up.here ∙ bytes ∙ ap (λ (y : PlainBlock). y.bytes) is ∙ ap (λ c. (block_at old c).bytes) (sym e))
      (λ ne. ap (λ (y : PlainBlock). y.bytes) (up.others b ne))
      (cases_eq b at);
  here = ap (λ (y : PlainBlock). slot_of y i) up.here ∙ here;
  others = λ b j ne. ⊎_elim
      (λ e. ap (λ c. slot_of (block_at new c) j) e ∙ ap (λ (y : PlainBlock). slot_of y j) up.here ∙ ap (λ (ss : List Slot). get_or ss j (To Nil)) slots
      ∙ set_cases k.slots i j s (⊎_elim (λ nb. absurd (nb e)) (λ nj. nj) ne)
      ∙ ap (λ (y : PlainBlock). slot_of y j) is ∙ ap (λ c. slot_of (block_at old c) j) (sym e))
      (λ nb. ap (λ (y : PlainBlock). slot_of y j) (up.others b nb))
      (cases_eq b at);
}

-- what an update leaves of a part of each block
pub part_kept : {X : Type 0} (part : PlainBlock → X) {old new : List PlainBlock} {at : ℕ} {x : PlainBlock} → Updates at x old new → part x ≡ part (block_at old at) → (b : ℕ) → part (block_at new b) ≡ part (block_at old b)
part_kept part {old} {new} {at} {x} up same b = ⊎_elim
    (λ e. ap (λ c. part (block_at new c)) e ∙ ap part up.here ∙ same ∙ ap (λ c. part (block_at old c)) (sym e))
    (λ ne. ap part (up.others b ne))
    (cases_eq b at)

-- one more slot of an entry leaf of zeros
pub one_more : (slots : List Slot) (e d : Slot) (i : ℕ) → i < length slots → ((j : ℕ) → get_or slots j d ≡ cond (nat_lt j i) e d) → (j : ℕ) → get_or (set slots i e) j d ≡ cond (nat_lt j (i + 1)) e d
one_more slots e d i lt so_far j = ⊎_elim
    (λ is. ap (λ k. get_or (set slots i e) k d) is ∙ get_or-set_same slots i e d lt ∙ sym (ap (λ t. cond t e d) (lt-ltb j (i + 1) (omega (arith, is)))))
    (λ ne. get_or-set_other slots i j e d ne ∙ so_far j ∙ ap (λ t. cond t e d) (same_test j i ne))
    (cases_eq j i)
  where
    same_test : (j i : ℕ) → j ≢ i → nat_lt j i ≡ nat_lt j (i + 1)
    same_test j i ne = ⊎_elim
        (λ small. lt-ltb j i small ∙ sym (lt-ltb j (i + 1) (omega (arith, small))))
        (λ big. not_lt j i big ∙ sym (not_lt j (i + 1) (omega (arith, big, ne))))
        (cases_lt j i)
      where
        not_lt : (m n : ℕ) → n ≤ m → nat_lt m n ≡ false
        not_lt m n le = grind (arith, common_steps)
