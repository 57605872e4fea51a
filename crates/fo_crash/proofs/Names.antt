-- How the steps of a create and a remove keep names and entries together in every image.
use Rattle.std.proofs.Common.{◌≡◌, ◌≢◌, ◌⊎◌, inr, ⊎_elim, ℕ, false, List, refl, sym, ◌∙◌, ap, subst}
use Rattle.std.proofs.lemmas.Bool.{cases_eq}
use Rattle.fo_image.specs.declared.types.Pointer.TheVariants.{Nil}
use Rattle.fo_image.specs.declared.types.Entry.{Entry}
use Rattle.fo_crash.specs.declared.slot.Slot.{Slot}
use Rattle.fo_crash.specs.declared.slot.Slot.TheVariants.{Pointer as To, Entry as Head, Prev}
use Rattle.fo_crash.specs.Images.{Content, Image, note, with_slot, with_bytes}
use Rattle.fo_crash.specs.Steps.{AddsSlot, AddsBytes}
use Rattle.fo_crash.specs.Names.{IsInUse, SameUse, NamesFit, NamesDiffer, InAll}
use Rattle.fo_crash.proofs.Updates.{slot_bytes, slot_other, slot_here, bytes_other, bytes_slot, bytes_here}

same_use : (s t : Slot) (g : ℕ) → SameUse s t → IsInUse t g → IsInUse s g
same_use (Head e) (Head f) g h u = (h.1 ∙ u.0, h.0 ∙ u.1)
same_use (Head e) (To p) g h u = absurd u
same_use (Head e) (Prev n a) g h u = absurd u
same_use (To q) (Head f) g h u = absurd (cc)
same_use (To q) (To p) g h u = absurd u
same_use (To q) (Prev n a) g h u = absurd u
same_use (Prev m b) (Head f) g h u = absurd (cc)
same_use (Prev m b) (To p) g h u = absurd u
same_use (Prev m b) (Prev n a) g h u = absurd u

pub same_use_self : (s t : Slot) → s ≡ t → SameUse s t
same_use_self s t e = subst (λ (x : Slot). SameUse s x) e (self s)
  where
    self : (s : Slot) → SameUse s s
    self (Head e) = (refl, refl, refl, refl)
    self (To p) = refl
    self (Prev m b) = refl

module _ (Lists : List ℕ → ℕ → ℕ → Type 0) (leaf entries : ℕ) where
  Fit : Image → Type 0
  Fit = NamesFit Lists leaf entries

  -- An entry that is free in memory is put: no image has a record of it.
  pub free_entry_put : {now : Image} {i : ℕ} {s : Slot} {beside : Image → Type 0} {old new : Image → Type 0} → InAll (NamesFit Lists leaf entries) old → AddsSlot now entries i s beside old new → ((g : ℕ) → IsInUse ((now entries).slot i) g → ⊥) → InAll (NamesFit Lists leaf entries) new
  free_entry_put {now} {i} {s} {beside} {old} {new} all add free = record {
    each = λ image is. ⊎_elim
        (λ is_old. all.each image is_old)
        (λ h. record {
          each = λ j g lists.
              let in_use = (all.each (with_slot image entries i ((now entries).slot i)) h.1).each j g (subst (λ (bs : List ℕ). Lists bs j g) (sym (slot_bytes image entries i ((now entries).slot i) leaf)) lists) in
              ⊎_elim
              (λ e. absurd (free g (subst (λ (x : Slot). IsInUse x g) (ap (λ k. (with_slot image entries i ((now entries).slot i) entries).slot k) e ∙ slot_here image entries i ((now entries).slot i)) in_use)))
              (λ ne. subst (λ (x : Slot). IsInUse x g) (slot_other image entries i ((now entries).slot i) entries j (inr ne)) in_use)
              (cases_eq j i);
        })
        (add.each image is);
  }

  -- An entry in use is put with another size or top.
  pub used_entry_put : {now : Image} {i : ℕ} {s : Slot} {beside : Image → Type 0} {old new : Image → Type 0} → InAll (NamesFit Lists leaf entries) old → AddsSlot now entries i s beside old new → SameUse s ((now entries).slot i) → InAll (NamesFit Lists leaf entries) new
  used_entry_put {now} {i} {s} {beside} {old} {new} all add alike = record {
    each = λ image is. ⊎_elim
        (λ is_old. all.each image is_old)
        (λ h. record {
          each = λ j g lists.
              let in_use = (all.each (with_slot image entries i ((now entries).slot i)) h.1).each j g (subst (λ (bs : List ℕ). Lists bs j g) (sym (slot_bytes image entries i ((now entries).slot i) leaf)) lists) in
              ⊎_elim
              (λ e. subst (λ k. IsInUse ((image entries).slot k) g) (sym e) (subst (λ (x : Slot). IsInUse x g) (sym h.0) (same_use s ((now entries).slot i) g alike (subst (λ (x : Slot). IsInUse x g) (ap (λ k. (with_slot image entries i ((now entries).slot i) entries).slot k) e ∙ slot_here image entries i ((now entries).slot i)) in_use))))
              (λ ne. subst (λ (x : Slot). IsInUse x g) (slot_other image entries i ((now entries).slot i) entries j (inr ne)) in_use)
              (cases_eq j i);
        })
        (add.each image is);
  }

  -- Bytes are put into the leaf: each record of them stood there before, or the leaf waits for its entry.
  pub leaf_put : {now : Image} {bytes : List ℕ} {waits : ℕ → Type 0} {old new : Image → Type 0} → InAll (NamesFit Lists leaf entries) old → AddsBytes now leaf bytes (λ image. (j : ℕ) → waits j → SameUse ((image entries).slot j) ((now entries).slot j)) old new → ((j g : ℕ) → Lists bytes j g → Lists ((now leaf).bytes) j g ⊎ (waits j × IsInUse ((now entries).slot j) g)) → InAll (NamesFit Lists leaf entries) new
  leaf_put {now} {bytes} {waits} {old} {new} all add covered = record {
    each = λ image is. ⊎_elim
        (λ is_old. all.each image is_old)
        (λ h. record {
          each = λ j g lists. ⊎_elim
              (λ was. subst (λ (x : Slot). IsInUse x g) (bytes_slot image leaf ((now leaf).bytes) entries j) ((all.each (with_bytes image leaf ((now leaf).bytes)) h.1).each j g (subst (λ (bs : List ℕ). Lists bs j g) (sym (bytes_here image leaf ((now leaf).bytes))) was)))
              (λ w. same_use ((image entries).slot j) ((now entries).slot j) g (h.2 j w.0) w.1)
              (covered j g (subst (λ (bs : List ℕ). Lists bs j g) h.0 lists));
        })
        (add.each image is);
  }

  -- An entry is cleared after the leaf: an image with the cleared entry has the leaf as memory has it, and that has no record of the entry.
  pub entry_cleared : {now : Image} {i : ℕ} {s : Slot} {old new : Image → Type 0} → InAll (NamesFit Lists leaf entries) old → AddsSlot now entries i s (λ image. (image leaf).bytes ≡ (now leaf).bytes) old new → ((g : ℕ) → Lists ((now leaf).bytes) i g → ⊥) → InAll (NamesFit Lists leaf entries) new
  entry_cleared {now} {i} {s} {old} {new} all add none = record {
    each = λ image is. ⊎_elim
        (λ is_old. all.each image is_old)
        (λ h. record {
          each = λ j g lists. ⊎_elim
              (λ e. absurd (none g (subst (λ k. Lists ((now leaf).bytes) k g) e (subst (λ (bs : List ℕ). Lists bs j g) h.2 lists))))
              (λ ne. subst (λ (x : Slot). IsInUse x g) (slot_other image entries i ((now entries).slot i) entries j (inr ne)) ((all.each (with_slot image entries i ((now entries).slot i)) h.1).each j g (subst (λ (bs : List ℕ). Lists bs j g) (sym (slot_bytes image entries i ((now entries).slot i) leaf)) lists)))
              (cases_eq j i);
        })
        (add.each image is);
  }

-- A leaf gets a name that no other leaf has in any image, and keeps some of those that it has.
pub name_put : (HasName : List ℕ → List ℕ → Type 0) (leaves : ℕ → Type 0) {now : Image} {leaf : ℕ} {bytes : List ℕ} {beside : Image → Type 0} {old new : Image → Type 0} (name : List ℕ) → InAll (NamesDiffer HasName leaves) old → AddsBytes now leaf bytes beside old new → ((other : List ℕ) → HasName bytes other → HasName ((now leaf).bytes) other ⊎ (other ≡ name)) → ((image : Image) → old image → (b : ℕ) → leaves b → b ≢ leaf → HasName ((image b).bytes) name → ⊥) → leaves leaf → InAll (NamesDiffer HasName leaves) new
name_put HasName leaves {now} {leaf} {bytes} {beside} {old} {new} name all add grown apart is_leaf = record {
  each = λ image is. ⊎_elim
      (λ is_old. all.each image is_old)
      (λ h. record {
        each = λ n a b la lb ha hb. ⊎_elim
            (λ a_is. ⊎_elim
            (λ b_is. a_is ∙ sym b_is)
            (λ b_not. absurd (split image h.1 h.0 n b lb b_not (subst (λ k. HasName ((image k).bytes) n) a_is ha) hb))
            (cases_eq b leaf))
            (λ a_not. ⊎_elim
            (λ b_is. absurd (split image h.1 h.0 n a la a_not (subst (λ k. HasName ((image k).bytes) n) b_is hb) ha))
            (λ b_not. (all.each (with_bytes image leaf ((now leaf).bytes)) h.1).each n a b la lb (was image n a a_not ha) (was image n b b_not hb))
            (cases_eq b leaf))
            (cases_eq a leaf);
      })
      (add.each image is);
}
  where
    was : (image : Image) (n : List ℕ) (a : ℕ) → a ≢ leaf → HasName ((image a).bytes) n → HasName ((with_bytes image leaf ((now leaf).bytes) a).bytes) n
    was image n a ne h = subst (λ (c : Content). HasName (c.bytes) n) (sym (bytes_other image leaf ((now leaf).bytes) a ne)) h

    split : (image : Image) → old (with_bytes image leaf ((now leaf).bytes)) → (image leaf).bytes ≡ bytes → (n : List ℕ) (b : ℕ) → leaves b → b ≢ leaf → HasName ((image leaf).bytes) n → HasName ((image b).bytes) n → ⊥
    split image is_old here n b lb ne hl hb = ⊎_elim
        (λ before. ne (sym ((all.each (with_bytes image leaf ((now leaf).bytes)) is_old).each n leaf b is_leaf lb (subst (λ (bs : List ℕ). HasName bs n) (sym (bytes_here image leaf ((now leaf).bytes))) before) (was image n b ne hb))))
        (λ e. apart (with_bytes image leaf ((now leaf).bytes)) is_old b lb ne (subst (λ (m : List ℕ). HasName ((with_bytes image leaf ((now leaf).bytes) b).bytes) m) e (was image n b ne hb)))
        (grown n (subst (λ (bs : List ℕ). HasName bs n) here hl))

entry_in : Slot → Entry
entry_in (Head e) = e
entry_in (To p) = record { generation = 0; active = false; dir = false; depth = 0; tag = 0; size = 0; top = Nil }
entry_in (Prev m b) = record { generation = 0; active = false; dir = false; depth = 0; tag = 0; size = 0; top = Nil }

-- A slot with another target alone is in the same use.
pub same_use_note : (s t : Slot) (g : ℕ) → note s ≡ note t → IsInUse t g → SameUse s t
unfolding entry_in
same_use_note (Head e) (Head f) g n u = (ap (λ x. (entry_in x).generation) n, ap (λ x. (entry_in x).active) n, ap (λ x. (entry_in x).dir) n, ap (λ x. (entry_in x).tag) n)
same_use_note (To p) (Head f) g n u = absurd (cc)
same_use_note (Prev m b) (Head f) g n u = absurd (cc)
same_use_note s (To p) g n u = absurd u
same_use_note s (Prev m b) g n u = absurd u

pub same_use_joins : (s t u : Slot) → SameUse s t → SameUse t u → SameUse s u
same_use_joins (Head e) (Head f) (Head h) a b = (a.0 ∙ b.0, a.1 ∙ b.1, a.2 ∙ b.2, a.3 ∙ b.3)
same_use_joins (Head e) (Head f) (To p) a b = absurd (cc)
same_use_joins (Head e) (Head f) (Prev m n) a b = absurd (cc)
same_use_joins (Head e) (To p) u a b = absurd (cc)
same_use_joins (Head e) (Prev m n) u a b = absurd (cc)
same_use_joins (To p) t u a b = subst (λ (x : Slot). SameUse x u) (sym a) b
same_use_joins (Prev m n) t u a b = subst (λ (x : Slot). SameUse x u) (sym a) b
