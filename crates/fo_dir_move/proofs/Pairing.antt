-- Each record keeps its pair over a move.
use Rattle.std.proofs.Common.{◌≡◌, ◌≢◌, ◌⊎◌, inl, inr, ⊎_elim, ℕ, ◌+◌, ◌*◌, ◌/◌, ◌%◌, List, Contains, true, false, sym, ◌∙◌, ap, subst}
use Rattle.std.proofs.lemmas.Bool.{cases_eq}
use Rattle.fo_image.specs.declared.record.Record.{Record}
use Rattle.fo_dir_put.specs.of_good.Reading.{leaf_records}
use Rattle.fo_dir_put.specs.of_good.Trees.{IsFirst, IsSecond}
use Rattle.fo_crash.specs.Images.{Image, with_slot}
use Rattle.fo_crash.specs.Steps.{AddsNothing, PutsBytes, Fills, cleared}
use Rattle.fo_crash.specs.declared.slot.Slot.{Slot}
use Rattle.fo_crash.specs.declared.slot.Slot.TheVariants.{Pointer as To, Entry as Head, Prev}
use Rattle.fo_crash.proofs.Updates.{slot_bytes, slot_other, slot_here}
use Rattle.fo_ports.specs.State.{State, KeepsAll, Rests, StaysKnown, KeepsSlot, WasCleared, IsDoomed}
use Rattle.fo_dir_put.specs.Puts.{StaysCalm}
use Rattle.fo_dir_put.specs.Paired.{HasBoth, AllPaired, ArePaired}
use Rattle.fo_dir_put.proofs.Paired.{both_on, stood_on}
use Rattle.fo_dir_move.specs.Moves.{BacksBoth}

-- a slot of the leaf of entries stays over the settling, or it waited and was cleared
pub slots_over : {o a m : State} {from : ℕ} {one : List ℕ} (e : ℕ) → KeepsAll o a → StaysCalm o a → PutsBytes from one o.now a.now → Rests a m → ((b : ℕ) → a.pinned b → StaysKnown a m b) → o.pinned e ⊎ (IsDoomed o e → ⊥) → o.tells → (j : ℕ) → KeepsSlot a m e j
slots_over e all calm puts rests known stays told j = ⊎_elim
    (λ pinned. (known e ((calm.marks e).0 pinned)).slots j)
    (λ spared. (rests.blocks (all.still_tells.1 told) e (calm.spared e spared)).slots j)
    stays

-- a first entry that was cleared is nobody's
cleared_first : (s : Slot) (r : Record) → IsFirst (cleared s) r → ⊥
cleared_first (Head e) r h = let none : false ≡ true = h.0 in absurd (cc)
cleared_first (To p) r h = absurd h
cleared_first (Prev epoch at) r h = absurd h

module _ (a m : State) {n x e : ℕ} (fills : Fills (WasCleared a m) a.now a.may_leave m.may_leave) (all : AllPaired n x e a) (image : Image) (is : m.may_leave image) where
  -- An image that is left would, with a slot that was cleared, be one of before.
  before : (j : ℕ) → WasCleared a m e j → a.may_leave (with_slot image e j (cleared ((a.now e).slot j)))
  before j was = fills.each image (with_slot image e j s) is (record { bytes = λ b. slot_bytes image e j s b; each = λ b i. by b i (cases_eq b e) (cases_eq i j) })
    where
      s : Slot
      s = cleared ((a.now e).slot j)

      by : (b i : ℕ) → (b ≡ e) ⊎ (b ≢ e) → (i ≡ j) ⊎ (i ≢ j) → ((with_slot image e j s b).slot i ≡ (image b).slot i) ⊎ (WasCleared a m b i × ((with_slot image e j s b).slot i ≡ cleared ((a.now b).slot i)))
      by b i (inr ne) k = inl (slot_other image e j s b i (inl ne))
      by b i (inl f) (inr ne) = inl (slot_other image e j s b i (inr ne))
      by b i (inl f) (inl k) = inr (
        subst (λ y. WasCleared a m y i) (sym f) (subst (λ y. WasCleared a m e y) (sym k) was),
        ap (λ y. (with_slot image e j s y).slot i) f ∙ ap (λ y. (with_slot image e j s e).slot y) k ∙ slot_here image e j s ∙ ap (λ y. cleared ((a.now e).slot y)) (sym k) ∙ ap (λ y. cleared ((a.now y).slot i)) (sym f),
      )

  seen : (j : ℕ) → WasCleared a m e j → (r : Record) → Contains (leaf_records ((image x).bytes)) r → r.slot / 102 ≡ n → HasBoth e (with_slot image e j (cleared ((a.now e).slot j))) r
  seen j was r has slot = (all.each (with_slot image e j (cleared ((a.now e).slot j))) (before j was) r (subst (λ xs. Contains (leaf_records xs) r) (sym (slot_bytes image e j (cleared ((a.now e).slot j)) x)) has) slot).0

  -- So a record of such an image has its pair in memory still.
  pub both_left : (r : Record) → Contains (leaf_records ((image x).bytes)) r → r.slot / 102 ≡ n → KeepsSlot a m e (2 * (r.slot % 102)) → KeepsSlot a m e (2 * (r.slot % 102) + 1) → HasBoth e a.now r → HasBoth e m.now r
  both_left r has slot (inr was) two h =
      let j = 2 * (r.slot % 102) in
      absurd (cleared_first ((a.now e).slot j) r (subst (λ (t : Slot). IsFirst t r) (slot_here image e j (cleared ((a.now e).slot j))) (seen j was r has slot).first))
  both_left r has slot (inl one) (inl two) h = both_on one.0 two.0 h
  both_left r has slot (inl one) (inr was) h =
      let j = 2 * (r.slot % 102) + 1 in
      record {
        first = subst (λ (t : Slot). IsFirst t r) (sym one.0) h.first;
        second = subst (λ (t : Slot). IsSecond t r) (sym was.2) (subst (λ (t : Slot). IsSecond t r) (slot_here image e j (cleared ((a.now e).slot j))) (seen j was r has slot).second);
      }

-- over a settling
pub rests_paired : {a m : State} {n x e : ℕ} → AddsNothing a.may_leave m.may_leave → ((image : Image) → m.may_leave image → Fills (WasCleared a m) a.now a.may_leave m.may_leave × ((j : ℕ) → KeepsSlot a m e j)) → AllPaired n x e a → AllPaired n x e m
rests_paired {a = a} {m = m} adds keeps all = record {
  each = λ image is r has slot.
      let h = all.each image (adds.each image is) r has slot in
      let k = keeps image is in
      (h.0, both_left a m k.0 all image is r has slot (k.1 (2 * (r.slot % 102))) (k.1 (2 * (r.slot % 102) + 1)) h.1);
}

-- what backs the records before backs them after the first two calls
pub paired_later : {o m : State} {n leaf e entries : ℕ} {bytes others : List ℕ} → BacksBoth n e entries bytes others o → (m.now leaf).bytes ≡ others → ((j : ℕ) → (o.clearing entries j → ⊥) → ((m.now entries).slot j ≡ (o.now entries).slot j) × (m.clearing entries j → ⊥)) → ArePaired n leaf e entries bytes m
paired_later backs is same = record {
  each = λ r has slot. ⊎_elim
      (λ st. inl (stood_on is st))
      (λ h. let one = same (2 * (r.slot % 102)) h.2 in inr (h.0, both_on one.0 (same (2 * (r.slot % 102) + 1) h.3).0 h.1, one.1))
      (backs.each r has slot);
}
