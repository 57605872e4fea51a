-- An entry that no record of an image names is cleared at once; and whose pair nobody has once a record was taken out.
use Rattle.std.proofs.Common.{◌≡◌, ◌≢◌, ◌⊎◌, inl, inr, ⊎_elim, ℕ, ◌+◌, ◌*◌, ◌/◌, ◌%◌, ◌<◌, List, Contains, sym, ◌∙◌, ap, subst, arith}
use Rattle.std.proofs.lemmas.Bool.{cases_eq}
use Rattle.fo_image.specs.declared.record.Record.{Record}
use Rattle.fo_ports.specs.of_meta.Leaf.{SpellsLeaf, without}
use Rattle.fo_dir_change.specs.of_good.Reading.{leaf_records}
use Rattle.fo_dir_change.proofs.of_good.Leaf.{leaf_is_read}
use Rattle.fo_crash.specs.declared.slot.Slot.{Slot}
use Rattle.fo_crash.specs.Images.{Image}
use Rattle.fo_crash.specs.Steps.{AddsSlot, PutsSlot}
use Rattle.fo_ports.specs.State.{State}
use Rattle.fo_dir_change.specs.of_dir_put.Names.{AllApart, ShowsBytes}
use Rattle.fo_dir_change.specs.of_dir_put.Differ.{Distinct, AreDistinct, AllDiffer}
use Rattle.fo_dir_change.specs.of_dir_put.Paired.{AllPaired, LacksPair, IsUnnamed}
use Rattle.fo_dir_change.proofs.of_dir_put.Aparts.{slot_shows}
use Rattle.fo_dir_change.proofs.of_dir_put.Paired.{entry_paired, memory_aside}
use Rattle.fo_dir_change.proofs.Without.{Split, first, first_there, left_apart}
use Rattle.fo_dir_remove.specs.Removes.{NoneHas, HasPairOf, IsGone}

pub none_paired : (old new : State) (n a e : ℕ) {at j : ℕ} (k : ℕ) {slot : Slot} {beside : Image → Type 0} → (j ≡ 2 * k) ⊎ (j ≡ 2 * k + 1) → AddsSlot old.now at j slot beside old.may_leave new.may_leave → PutsSlot at j slot old.now new.now
    → (e ≡ at → NoneHas n k a old.may_leave) → AllPaired n a e old → AllPaired n a e new
none_paired old new n a e {at = at} k which adds puts free all = entry_paired old new n a e k which adds
    (λ image is. memory_aside old new n a e k which adds puts.others image (lacks image is))
    (λ image is b. lacks image is) all
  where
    lacks : (image : Image) → new.may_leave image → (e ≡ at) → LacksPair n k ((image a).bytes)
    lacks image is same = let h = (slot_shows adds).each image is in subst (λ xs. LacksPair n k xs) (sym (h.2 a)) ((free same).each h.0 h.1)

-- nor after images that show the same bytes
pub none_shows : {n k a : ℕ} {old new : Image → Type 0} → ShowsBytes old new → NoneHas n k a old → NoneHas n k a new
none_shows {n = n} {k = k} {a = a} shows none = record { each = λ image is. let h = shows.each image is in subst (λ xs. LacksPair n k xs) (sym (h.2 a)) (none.each h.0 h.1) }

-- A record was taken out of a leaf: no other of the leaf has its pair, nor one of another leaf in any image.
module _ {name : List ℕ} {rs : List Record} {old : List ℕ} {m p : ℕ} (s : Split name rs) (was : SpellsLeaf rs old) (pair : HasPairOf name old m p) (lt : p < 102) where
  slot_is : s.named.slot ≡ 102 * m + p
  slot_is = pair.each rs was s.named (first s)

  same_slot : (x : Record) → x.slot / 102 ≡ m → x.slot % 102 ≡ p → x.slot ≡ s.named.slot
  same_slot x div rest = whole x.slot div rest ∙ sym slot_is
    where
      whole : (k : ℕ) → k / 102 ≡ m → k % 102 ≡ p → k ≡ 102 * m + p
      whole k one two = omega (arith, one, two)

  pub left_lacks : {new : List ℕ} → Distinct rs → SpellsLeaf (without name rs) new → LacksPair m p new
  left_lacks {new = new} d left = record {
    each = λ x has div rest. left_apart s d x (subst (λ xs. Contains xs x) (leaf_is_read (without name rs) new left) has) (inr (inr (same_slot x div rest)));
  }

  pub others_lack : (leaf a : ℕ) (now : Image) (images : Image → Type 0) → (now leaf).bytes ≡ old → ((image : Image) → images image → images now) → AllApart leaf a images → NoneHas m p a images
  others_lack leaf a now images same present all = record {
    each = λ image is. record {
      each = λ x has div rest. all.each now image (present image is) is s.named x (subst (λ xs. Contains xs s.named) (sym (ap leaf_records same ∙ leaf_is_read rs old was)) (first_there s)) has (inr (inr (sym (same_slot x div rest))));
    };
  }

  module _ {new : List ℕ} (leaf a : ℕ) (leaves : List ℕ) (now : Image) (images : Image → Type 0) (t : State) (same : (now leaf).bytes ≡ old) (present : (image : Image) → images image → images now) (left : SpellsLeaf (without name rs) new) (here : (t.now leaf).bytes ≡ new)
      (shows : (image : Image) → t.may_leave image → (other : Image) × images other × ((b : ℕ) → b ≢ leaf → (image b).bytes ≡ (other b).bytes)) (in_leaf : Contains leaves leaf) (all : AllDiffer leaves images) (in_a : Contains leaves a) (there : images now) where
    lacks : LacksPair m p new
    lacks = left_lacks (subst Distinct (leaf_is_read rs old was) (subst AreDistinct same (all.within leaf in_leaf now there)).are) left

    others : a ≢ leaf → (image : Image) → t.may_leave image → LacksPair m p ((image a).bytes)
    others ne image is = let h = shows image is in subst (λ xs. LacksPair m p xs) (sym (h.2 a ne)) ((others_lack leaf a now images same present (all.between leaf a in_leaf in_a (λ e. ne (sym e)))).each h.0 h.1)

    -- so nobody has the pair
    pub left_unnamed : IsUnnamed m p a leaf t
    left_unnamed = ⊎_elim (λ e. inl (e, subst (λ xs. LacksPair m p xs) (sym here) lacks)) (λ ne. inr (others ne)) (cases_eq a leaf)

    -- nor once the first entry was cleared after the leaf
    pub is_gone : (entries : ℕ) → ((t.clearing entries (2 * p) → ⊥) → (image : Image) → t.may_leave image → (image leaf).bytes ≡ new) → IsGone m p a leaf entries t
    is_gone entries settled = record {
      waiting = λ h. left_unnamed;
      cleared = λ free. record { each = λ image is. ⊎_elim (λ e. subst (λ xs. LacksPair m p xs) (sym (ap (λ b. (image b).bytes) e ∙ settled free image is)) lacks) (λ ne. others ne image is) (cases_eq a leaf) };
    }
