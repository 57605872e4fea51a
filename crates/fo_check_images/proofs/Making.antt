-- The image of a device, block by block.
use Rattle.std.proofs.Common.{◌≡◌, ◌⊎◌, inl, inr, ℕ, zero, suc, ◌*◌, ◌<◌, ◌≤◌, List, length, get_or, take, drop, refl, sym, ap, ◌∙◌, subst, arith}
use Rattle.std.proofs.lemmas.Bool.{cases_lt}
use Rattle.std.proofs.lemmas.List.{length-take, length-drop}
use Rattle.fo_disk.specs.Disk.{Block}
use Rattle.fo_image.specs.declared.types.Kind.{Kind}
use Rattle.fo_image.specs.declared.types.Kind.TheVariants.{Data, Dir, Root}
use Rattle.fo_image.specs.declared.types.Entry.{Entry}
use Rattle.fo_image.specs.declared.types.Super.{Super}
use Rattle.fo_image.specs.declared.types.Pointer.TheVariants.{Nil}
use Rattle.fo_image.specs.declared.record.RootBlock.{RootBlock}
use Rattle.fo_image.specs.Format.{SpellsEntry}
use Rattle.fo_crash.specs.declared.slot.Slot.{Slot}
use Rattle.fo_crash.specs.declared.slot.Slot.TheVariants.{Pointer as To, Prev}
use Rattle.fo_crash.specs.Images.{Content, Image, target}
use Rattle.fo_sound.specs.Image.{block_of, label_bytes}
use Rattle.fo_sound.specs.Sound.{HasActiveRoot}
use Rattle.fo_good.specs.Means.{EndsAt, HasPointer}
use Rattle.fo_check_tree.specs.Answer.{IsShallow}
use Rattle.fo_check_tree.specs.Slots.{HasSlot, HasSlots}
use Rattle.fo_check_tree.specs.Slots.HasSlot.{entry as has_entry, other as has_other}
use Rattle.fo_slots.specs.Read.{pointer_from, entry_from}
use Rattle.fo_slots.proofs.Meaning.{entry_meant}
use Rattle.fo_check_images.specs.Images.{AreWhole, HasImage}
use Rattle.fo_check_images.proofs.Deciding.{Decided, entry as decides}
use Rattle.fo_check_images.proofs.Reading.{small_take, small_drop, pointer_spelled, shallow_by, shallow, entry_by, entry_slot, kind_from, label_kind}

-- ---- slots

abbrev pointer_at : (b : List ℕ) (i : ℕ) → (i < 409) ⊎ (409 ≤ i) → Slot
pointer_at b i (inl lt) = To (pointer_from (take 20 (drop (20 * i) b)))
pointer_at b i (inr ge) = To Nil

abbrev entry_at : (b : List ℕ) (i : ℕ) → (i < 204) ⊎ (204 ≤ i) → Slot
entry_at b i (inl lt) = entry_slot (take 40 (drop (40 * i) b))
entry_at b i (inr ge) = To Nil

abbrev root_slot : RootBlock → ℕ → Slot
root_slot root zero = shallow root.entries
root_slot root (suc zero) = shallow root.meta
root_slot root (suc (suc zero)) = Prev root.prev_epoch root.prev
root_slot root (suc (suc (suc i))) = To Nil

abbrev slot_in : Kind → RootBlock → List ℕ → ℕ → Slot
slot_in (Data zero) root b i = To Nil
slot_in (Data (suc level)) root b i = pointer_at b i (cases_lt i 409)
slot_in (Dir zero) root b i = entry_at b i (cases_lt i 204)
slot_in (Dir (suc level)) root b i = pointer_at b i (cases_lt i 409)
slot_in Root root b i = root_slot root i

abbrev content : Kind → RootBlock → List ℕ → Content
content kind root b = record { slot = slot_in kind root b; bytes = b }

abbrev image_of : List Block → RootBlock → Image
image_of device root at = content (kind_from (get_or (label_bytes device at) 1 0)) root (block_of device at)

-- ---- each slot is read

pointer_is : (b : List ℕ) (i : ℕ) → i < 409 → (c : (i < 409) ⊎ (409 ≤ i)) → pointer_at b i c ≡ To (pointer_from (take 20 (drop (20 * i) b)))
pointer_is b i lt (inl low) = refl
pointer_is b i lt (inr ge) = absurd (omega (arith, lt, ge))

pointer_end : (b : List ℕ) (i : ℕ) → 409 ≤ i → (c : (i < 409) ⊎ (409 ≤ i)) → target (pointer_at b i c) ≡ Nil
pointer_end b i ge (inl lt) = absurd (omega (arith, lt, ge))
pointer_end b i ge (inr high) = refl

entry_is : (b : List ℕ) (i : ℕ) → i < 204 → (c : (i < 204) ⊎ (204 ≤ i)) → entry_at b i c ≡ entry_slot (take 40 (drop (40 * i) b))
entry_is b i lt (inl low) = refl
entry_is b i lt (inr ge) = absurd (omega (arith, lt, ge))

entry_end : (b : List ℕ) (i : ℕ) → 204 ≤ i → (c : (i < 204) ⊎ (204 ≤ i)) → target (entry_at b i c) ≡ Nil
entry_end b i ge (inl lt) = absurd (omega (arith, lt, ge))
entry_end b i ge (inr high) = refl

module _ (c : Content) (b : List ℕ) (i : ℕ) where
  abbrev here : List ℕ
  here = take 40 (drop (40 * i) b)

  by_depth : SpellsEntry (entry_from here) here → (d : (4 < (entry_from here).depth) ⊎ ((entry_from here).depth ≤ 4)) → c.slot i ≡ shallow_by (entry_from here) d → HasSlot c b i
  by_depth spelled (inl deep) is = has_other is (λ e s. subst (λ (x : Entry). 4 < x.depth) (entry_meant e here s) deep)
  by_depth spelled (inr low) is = has_entry (record { entry = entry_from here; is = is; spelled = spelled; shallow = low })

  by_entry : (d : Decided (SpellsEntry (entry_from here) here)) → c.slot i ≡ entry_by (entry_from here) here d → HasSlot c b i
  by_entry (inl spelled) is = by_depth spelled (cases_lt 4 (entry_from here).depth) is
  by_entry (inr none) is = has_other is (λ e s. absurd (none (subst (λ (x : Entry). SpellsEntry x here) (sym (entry_meant e here s)) s)))

  slot_has : c.slot i ≡ entry_slot here → HasSlot c b i
  slot_has is = by_entry (decides (entry_from here) here) is

module _ (root : RootBlock) (b : List ℕ) (len : length b ≡ 8192) (small : (i : ℕ) → get_or b i 0 < 256) where
  pointer_has : (c : Content) (i : ℕ) → i < 409 → c.slot i ≡ pointer_at b i (cases_lt i 409) → HasPointer c b i
  pointer_has c i lt is = record {
    pointer = pointer_from (take 20 (drop (20 * i) b));
    is = is ∙ pointer_is b i lt (cases_lt i 409);
    spelled = pointer_spelled (take 20 (drop (20 * i) b)) (omega (arith, length-take 20 (drop (20 * i) b), length-drop (20 * i) b, len, lt)) (small_take 20 (drop (20 * i) b) (small_drop (20 * i) b small));
  }

  slots_are : (kind : Kind) → HasSlots kind (content kind root b) b
  slots_are (Data zero) = record { each = λ i ge. refl }
  slots_are (Data (suc level)) = (λ i lt. pointer_has (content (Data (suc level)) root b) i lt refl, record { each = λ i ge. pointer_end b i ge (cases_lt i 409) })
  slots_are (Dir zero) = (λ i lt. slot_has (content (Dir zero) root b) b i (entry_is b i lt (cases_lt i 204)), record { each = λ i ge. entry_end b i ge (cases_lt i 204) })
  slots_are (Dir (suc level)) = (λ i lt. pointer_has (content (Dir (suc level)) root b) i lt refl, record { each = λ i ge. pointer_end b i ge (cases_lt i 409) })
  slots_are Root = tt

-- ---- the root

shallow_is : (c : Content) (i : ℕ) (e : Entry) → (d : (4 < e.depth) ⊎ (e.depth ≤ 4)) → c.slot i ≡ shallow_by e d → IsShallow c i e
shallow_is c i e (inl deep) is = inr (is, deep)
shallow_is c i e (inr low) is = inl (is, low)

root_end : (root : RootBlock) (i : ℕ) → 3 ≤ i → target (root_slot root i) ≡ Nil
root_end root zero ge = absurd (omega (arith, ge))
root_end root (suc zero) ge = absurd (omega (arith, ge))
root_end root (suc (suc zero)) ge = absurd (omega (arith, ge))
root_end root (suc (suc (suc i))) ge = refl

pub made : (device : List Block) (s : Super) (root : RootBlock) → AreWhole device → HasActiveRoot device s root → HasImage device s root
made device s root whole active = record {
  image = image_of device root;
  holds = record {
    empty = λ kind score. refl;
    active = active;
    at = refl;
    bytes = λ at. refl;
    slots = λ path at label leads place has. subst (λ (kind : Kind). HasSlots label.kind (content kind root (block_of device at)) (block_of device at)) (sym (label_kind label (label_bytes device at) has.spelled))
        (slots_are root (block_of device at) (whole.long at place) (whole.bytes at place) label.kind);
    entries = subst (λ (kind : Kind). IsShallow (content kind root (block_of device s.active)) 0 root.entries) (sym is_root) (shallow_is (content Root root (block_of device s.active)) 0 root.entries (cases_lt 4 root.entries.depth) refl);
    meta = subst (λ (kind : Kind). IsShallow (content kind root (block_of device s.active)) 1 root.meta) (sym is_root) (shallow_is (content Root root (block_of device s.active)) 1 root.meta (cases_lt 4 root.meta.depth) refl);
    before = ap (λ (kind : Kind). slot_in kind root (block_of device s.active) 2) is_root;
    ends = subst (λ (kind : Kind). EndsAt 3 (content kind root (block_of device s.active))) (sym is_root) (record { each = λ i ge. root_end root i ge });
  };
}
  where
    is_root : kind_from (get_or (label_bytes device s.active) 1 0) ≡ Root
    is_root = label_kind _ (label_bytes device s.active) active.label.spelled
