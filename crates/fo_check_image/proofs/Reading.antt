-- The image that a device with an active root is read as, whatever its blocks hold.
use Rattle.std.proofs.Common.{◌≡◌, ◌≢◌, inl, inr, ⊎_elim, ℕ, zero, suc, ◌+◌, ◌-◌, ◌*◌, ◌%◌, ◌^◌, ◌<◌, ◌≤◌, nat_lt, eqb, true, false, List, length, get_or, take, drop, refl, sym, ◌∙◌, ap, subst, arith}
use Rattle.std.specs.Prelude.{cond}
use Rattle.std.specs.List.{list_all}
use Rattle.std.proofs.lemmas.Bool.{cases_eq, cases_lt, cases_Bool, lt-ltb, le-ltb}
use Rattle.std.proofs.lemmas.List.{length-take, length-drop}
use Rattle.fo_disk.specs.Disk.{Block}
use Rattle.fo_image.specs.declared.types.Kind.{Kind}
use Rattle.fo_image.specs.declared.types.Kind.TheVariants.{Data, Dir, Root}
use Rattle.fo_image.specs.declared.types.State.{State}
use Rattle.fo_image.specs.declared.types.State.TheVariants.{Free, Live, Closed}
use Rattle.fo_image.specs.declared.types.Label.{Label}
use Rattle.fo_image.specs.declared.types.Super.{Super}
use Rattle.fo_image.specs.declared.types.Entry.{Entry}
use Rattle.fo_image.specs.declared.types.Pointer.{Pointer}
use Rattle.fo_image.specs.declared.types.Pointer.TheVariants.{Nil, Score as Held}
use Rattle.fo_image.specs.declared.record.RootBlock.{RootBlock}
use Rattle.fo_image.specs.Field.{Four, number_at}
use Rattle.fo_image.specs.Format.{kind_code, KindHolds, StateHolds, SpellsPointer}
use Rattle.fo_image.proofs.PointerLemmas.{spells_pointer, is_score_from, nil_found, local_found}
use Rattle.fo_crash.specs.declared.slot.Slot.{Slot}
use Rattle.fo_crash.specs.declared.slot.Slot.TheVariants.{Pointer as To, Entry as Head, Prev}
use Rattle.fo_crash.specs.Images.{Content, Image, Arena, target, nothing, to_block, with_block}
use Rattle.fo_crash.proofs.Updates.{block_other, block_here}
use Rattle.fo_slots.specs.Read.{local_from, pointer_from}
use Rattle.fo_slots.proofs.Meaning.{fits_take, fits_drop}
use Rattle.fo_sound.specs.Image.{block_of, label_bytes, IsDataBlock, HasLabel}
use Rattle.fo_sound.specs.Sound.{HasActiveRoot, root_label}
use Rattle.fo_good.specs.Means.{EndsAt, HasPointer, IsRootBlock}
use Rattle.fo_good.specs.Trees.{LeadsTo}
use Rattle.fo_good.specs.Sound.{Kept}
use Rattle.fo_check_tree.specs.Slots.{HasSlot, HasSlots}
use Rattle.fo_check_tree.specs.Slots.HasSlot.{entry, other}
use Rattle.fo_check_tree.specs.Answer.{HoldsAny, IsShallow}
use Rattle.fo_check_image.proofs.Deciding.{Either, IsShort, short}

-- ---- the kind that a label says

kind_from : ℕ → Kind
kind_from n = cond (nat_lt n 8) (Data n) (cond (nat_lt n 16) (Dir (n - 8)) Root)

kind_is : (k : Kind) → KindHolds k → kind_from (kind_code k) ≡ k
unfolding kind_from
kind_is (Data level) h = let low : nat_lt level 8 ≡ true = lt-ltb level 8 (omega (arith, h)) in rw low refl
kind_is (Dir level) h =
    let high : nat_lt (8 + level) 8 ≡ false = le-ltb (8 + level) 8 (omega arith) in
    let low : nat_lt (8 + level) 16 ≡ true = lt-ltb (8 + level) 16 (omega (arith, h)) in
    let is : 8 + level - 8 ≡ level = omega arith in
    rw (high, low) (ap Dir is)
kind_is Root h = refl

holds_kind : (s : State) (l : Label) → StateHolds s l → KindHolds l.kind
holds_kind Free l h = subst KindHolds (sym h.0) (omega arith)
holds_kind Live l h = h.0
holds_kind Closed l h = h.0

small : (n : ℕ) → n < 2 ^ 8 → n % 256 ≡ n
small n lt = omega arith

label_kind : List Block → ℕ → Kind
label_kind device at = kind_from (get_or (label_bytes device at) 1 0)

label_says : (device : List Block) (at : ℕ) (l : Label) → HasLabel device at l → label_kind device at ≡ l.kind
unfolding label_kind
label_says device at l has =
    let byte : get_or (label_bytes device at) 1 0 ≡ kind_code l.kind = ap (λ (b : List ℕ). get_or b 1 0) has.spelled.bytes_are ∙ small (kind_code l.kind) has.spelled.fit.1.0 in
    ap kind_from byte ∙ kind_is l.kind (holds_kind l.state l has.spelled.holds.state_holds)

-- ---- contents

plain : Block → Content
plain bytes = record { bytes = bytes; slot = λ i. To Nil }

pointer_here : Block → ℕ → Slot
pointer_here bytes i = To (pointer_from (take 20 (drop (20 * i) bytes)))

pointers : Block → Content
pointers bytes = record { bytes = bytes; slot = λ i. cond (nat_lt i 409) (pointer_here bytes i) (To Nil) }

by_short : {bytes : List ℕ} → Either (IsShort bytes) → Slot
by_short (inl is) = Head is.entry
by_short (inr none) = To Nil

entry_here : Block → ℕ → Slot
entry_here bytes i = by_short (short (take 40 (drop (40 * i) bytes)))

entries : Block → Content
entries bytes = record { bytes = bytes; slot = λ i. cond (nat_lt i 204) (entry_here bytes i) (To Nil) }

content_of : Kind → Block → Content
content_of (Data zero) bytes = plain bytes
content_of (Data (suc level)) bytes = pointers bytes
content_of (Dir zero) bytes = entries bytes
content_of (Dir (suc level)) bytes = pointers bytes
content_of Root bytes = plain bytes

bytes_of : (kind : Kind) (bytes : Block) → (content_of kind bytes).bytes ≡ bytes
unfolding content_of plain pointers entries
bytes_of (Data zero) bytes = refl
bytes_of (Data (suc level)) bytes = refl
bytes_of (Dir zero) bytes = refl
bytes_of (Dir (suc level)) bytes = refl
bytes_of Root bytes = refl

-- ---- pointers

by_number : (bytes : List ℕ) (n : ℕ) → length bytes ≡ 20 → ((i : ℕ) → get_or bytes i 0 < 256) → list_all (λ b. eqb b 0) (take 16 bytes) ≡ true → n ≡ number_at Four 16 bytes → n < 2 ^ 32 → SpellsPointer (local_from n) bytes
by_number bytes zero len fits zeros is lt = nil_found bytes zero len fits zeros is refl
by_number bytes (suc n) len fits zeros is lt =
    let one : suc n - 1 ≡ n = omega arith in
    subst (λ (k : ℕ). SpellsPointer (Pointer.Local k) bytes) one (local_found bytes (suc n) len fits zeros is (omega arith) lt)

number_fits : (bytes : List ℕ) → ((i : ℕ) → get_or bytes i 0 < 256) → number_at Four 16 bytes < 2 ^ 32
unfolding number_at
number_fits bytes fits =
    let part : (i : ℕ) → get_or (take 4 (drop 16 bytes)) i 0 < 256 = fits_take 4 (drop 16 bytes) (fits_drop 16 bytes fits) in
    omega (arith, part 0, part 1, part 2, part 3)

pointer_spelled : (bytes : List ℕ) → length bytes ≡ 20 → ((i : ℕ) → get_or bytes i 0 < 256) → SpellsPointer (pointer_from bytes) bytes
pointer_spelled bytes len fits = ⊎_elim
    (λ zeros. rw zeros (by_number bytes (number_at Four 16 bytes) len fits zeros refl (number_fits bytes fits)))
    (λ some. rw some (spells_pointer (Held (record { 0 = bytes })) bytes (is_score_from bytes some) len refl))
    (cases_Bool (list_all (λ b. eqb b 0) (take 16 bytes)))

module _ (bytes : Block) (len : length bytes ≡ 8192) (fits : (i : ℕ) → get_or bytes i 0 < 256) where
  has_pointer : (i : ℕ) → i < 409 → HasPointer (pointers bytes) bytes i
  unfolding pointers pointer_here
  has_pointer i lt =
      let test : nat_lt i 409 ≡ true = lt-ltb i 409 lt in
      record {
        pointer = pointer_from (take 20 (drop (20 * i) bytes));
        is = rw test refl;
        spelled = pointer_spelled (take 20 (drop (20 * i) bytes)) (omega (arith, length-take 20 (drop (20 * i) bytes), length-drop (20 * i) bytes, len, lt)) (fits_take 20 (drop (20 * i) bytes) (fits_drop (20 * i) bytes fits));
      }

pointers_end : (bytes : Block) → EndsAt 409 (pointers bytes)
unfolding pointers
pointers_end bytes = record { each = λ i ge. let test : nat_lt i 409 ≡ false = le-ltb i 409 ge in rw test refl }

-- ---- entries

is_short : (c : Content) (bytes : Block) (i : ℕ) (d : Either (IsShort (take 40 (drop (40 * i) bytes)))) → c.slot i ≡ by_short d → HasSlot c bytes i
unfolding by_short
is_short c bytes i (inl is) here = entry (record { entry = is.entry; is = here; spelled = is.spelled; shallow = is.shallow })
is_short c bytes i (inr none) here = other here (λ e spelled. ⊎_elim (λ deep. deep) (λ shallow. absurd (none (record { entry = e; spelled = spelled; shallow = shallow }))) (cases_lt 4 e.depth))

has_entry : (bytes : Block) (i : ℕ) → i < 204 → HasSlot (entries bytes) bytes i
unfolding entries entry_here
has_entry bytes i lt =
    let test : nat_lt i 204 ≡ true = lt-ltb i 204 lt in
    is_short (entries bytes) bytes i (short (take 40 (drop (40 * i) bytes))) (rw test refl)

entries_end : (bytes : Block) → EndsAt 204 (entries bytes)
unfolding entries
entries_end bytes = record { each = λ i ge. let test : nat_lt i 204 ≡ false = le-ltb i 204 ge in rw test refl }

has_slots : (kind : Kind) (bytes : Block) → length bytes ≡ 8192 → ((i : ℕ) → get_or bytes i 0 < 256) → HasSlots kind (content_of kind bytes) bytes
unfolding content_of plain
has_slots (Data zero) bytes len fits = record { each = λ i ge. refl }
has_slots (Data (suc level)) bytes len fits = (has_pointer bytes len fits, pointers_end bytes)
has_slots (Dir zero) bytes len fits = (has_entry bytes, entries_end bytes)
has_slots (Dir (suc level)) bytes len fits = (has_pointer bytes len fits, pointers_end bytes)
has_slots Root bytes len fits = tt

-- ---- the active root

head_slot : Entry → Slot
head_slot e = cond (nat_lt 4 e.depth) (To Nil) (Head e)

root_slot : RootBlock → ℕ → Slot
root_slot r zero = head_slot r.entries
root_slot r (suc zero) = head_slot r.meta
root_slot r (suc (suc zero)) = Prev r.prev_epoch r.prev
root_slot r (suc (suc (suc i))) = To Nil

root_content : RootBlock → Block → Content
root_content r bytes = record { bytes = bytes; slot = root_slot r }

is_shallow : (c : Content) (i : ℕ) (e : Entry) → c.slot i ≡ head_slot e → IsShallow c i e
unfolding head_slot
is_shallow c i e is = ⊎_elim
    (λ deep. let test : nat_lt 4 e.depth ≡ true = lt-ltb 4 e.depth deep in inr (is ∙ rw test refl, deep))
    (λ shallow. let test : nat_lt 4 e.depth ≡ false = le-ltb 4 e.depth shallow in inl (is ∙ rw test refl, shallow))
    (cases_lt 4 e.depth)

root_end : (r : RootBlock) (i : ℕ) → 3 ≤ i → root_slot r i ≡ To Nil
unfolding root_slot
root_end r zero ge = absurd (omega (arith, ge))
root_end r (suc zero) ge = absurd (omega (arith, ge))
root_end r (suc (suc zero)) ge = absurd (omega (arith, ge))
root_end r (suc (suc (suc i))) ge = refl

-- ---- the whole device

abbrev pub empty : Arena
empty kind score = nothing

by_labels : List Block → Image
by_labels device at = content_of (label_kind device at) (block_of device at)

super_content : List Block → Super → Content
super_content device s = record { bytes = block_of device 1; slot = λ i. to_block s.active }

pub reading : List Block → Super → RootBlock → Image
reading device s root = with_block (with_block (by_labels device) s.active (root_content root (block_of device s.active))) 1 (super_content device s)

module _ (device : List Block) (s : Super) (root : RootBlock) where
  abbrev pub kept : Kept
  kept = record { at = s.active; root = root }

  image : Image
  image = reading device s root

  pub super_here : (reading device s root 1).slot 0 ≡ to_block s.active
  unfolding reading super_content
  super_here = ap (λ (c : Content). c.slot 0) (block_here (with_block (by_labels device) s.active (root_content root (block_of device s.active))) 1 (super_content device s))

  module _ (apart : s.active ≢ 1) where
    root_here : image s.active ≡ root_content root (block_of device s.active)
    unfolding image reading
    root_here =
        block_other (with_block (by_labels device) s.active (root_content root (block_of device s.active))) 1 (super_content device s) s.active apart
        ∙ block_here (by_labels device) s.active (root_content root (block_of device s.active))

    other_here : (at : ℕ) → at ≢ 1 → at ≢ s.active → image at ≡ content_of (label_kind device at) (block_of device at)
    unfolding image reading by_labels
    other_here at one active =
        block_other (with_block (by_labels device) s.active (root_content root (block_of device s.active))) 1 (super_content device s) at one
        ∙ block_other (by_labels device) s.active (root_content root (block_of device s.active)) at active

    bytes_here : (at : ℕ) → (image at).bytes ≡ block_of device at
    unfolding image reading super_content root_content by_labels
    bytes_here at = ⊎_elim
        (λ (one : at ≡ 1). subst (λ (n : ℕ). (reading device s root n).bytes ≡ block_of device n) (sym one) (ap (λ (c : Content). c.bytes) (block_here (with_block (by_labels device) s.active (root_content root (block_of device s.active))) 1 (super_content device s))))
        (λ not_one. ⊎_elim
        (λ (here : at ≡ s.active). subst (λ (n : ℕ). (reading device s root n).bytes ≡ block_of device n) (sym here) (ap (λ (c : Content). c.bytes) root_here))
        (λ elsewhere. ap (λ (c : Content). c.bytes) (other_here at not_one elsewhere) ∙ bytes_of (label_kind device at) (block_of device at))
        (cases_eq at s.active))
        (cases_eq at 1)

    root_slot_is : (i : ℕ) → (image s.active).slot i ≡ root_slot root i
    unfolding root_content
    root_slot_is i = ap (λ (c : Content). c.slot i) root_here

-- The device with this active root has such a reading, where its blocks have the slots of their labels.
pub holds_by : (device : List Block) (s : Super) (root : RootBlock) → HasActiveRoot device s root
    → ((path : List ℕ) (at : ℕ) (label : Label) → LeadsTo empty (reading device s root) s.active path at → IsDataBlock (length device) at → HasLabel device at label → at ≢ s.active → HasSlots label.kind (reading device s root at) (block_of device at))
    → HoldsAny empty device (reading device s root) s (kept device s root)
unfolding image root_slot
holds_by device s root active others = record {
  empty = λ kind score. refl;
  active = active;
  at = refl;
  bytes = bytes_here device s root apart;
  slots = λ path at label leads place has. ⊎_elim
      (λ (here : at ≡ s.active). as_root at label here has)
      (λ elsewhere. others path at label leads place has elsewhere)
      (cases_eq at s.active);
  entries = is_shallow (reading device s root s.active) 0 root.entries (root_slot_is device s root apart 0);
  meta = is_shallow (reading device s root s.active) 1 root.meta (root_slot_is device s root apart 1);
  before = root_slot_is device s root apart 2;
  ends = record { each = λ i ge. ap target (root_slot_is device s root apart i ∙ root_end root i ge) };
}
  where
    apart : s.active ≢ 1
    apart e = let from = active.place.from in omega (arith, e, from)

    as_root : (at : ℕ) (label : Label) → at ≡ s.active → HasLabel device at label → HasSlots label.kind (reading device s root at) (block_of device at)
    as_root at label here has =
        let is : label.kind ≡ Root = sym (label_says device at label has) ∙ ap (label_kind device) here ∙ label_says device s.active (root_label s) active.label in
        subst (λ (k : Kind). HasSlots k (reading device s root at) (block_of device at)) (sym is) tt

-- The blocks of an image hold bytes: numbers below 256.
pub record HoldsBytes (image : List Block) : Type 0 where
  pub each : (at i : ℕ) → get_or (block_of image at) i 0 < 256

-- It has where blocks have 8192 bytes.
pub holds_any : (device : List Block) (s : Super) (root : RootBlock) → HasActiveRoot device s root → HoldsBytes device → ((at : ℕ) → at < length device → length (block_of device at) ≡ 8192)
    → HoldsAny empty device (reading device s root) s (kept device s root)
unfolding image
holds_any device s root active bytes whole = holds_by device s root active (λ path at label leads place has elsewhere.
    let apart : s.active ≢ 1 = λ e. let from = active.place.from in omega (arith, e, from) in
    let not_one : at ≢ 1 = λ e. let from = place.from in omega (arith, e, from) in
    let is : reading device s root at ≡ content_of label.kind (block_of device at) = other_here device s root apart at not_one elsewhere ∙ ap (λ (k : Kind). content_of k (block_of device at)) (label_says device at label has) in
    subst (λ (c : Content). HasSlots label.kind c (block_of device at)) (sym is) (has_slots label.kind (block_of device at) (whole at place.to) (bytes.each at)))

-- The slots of the active root whose sources have no blocks.
pub bare_slots : (device : List Block) (s : Super) (root : RootBlock) → s.active ≢ 1 → root.entries.top ≡ Nil → root.meta.top ≡ Nil → (i : ℕ) → target ((reading device s root s.active).slot i) ≡ Nil
unfolding image root_slot head_slot
bare_slots device s root apart entries meta i = ap target (root_slot_is device s root apart i) ∙ tops i
  where
    head : (e : Entry) → e.top ≡ Nil → target (head_slot e) ≡ Nil
    head e nil = ⊎_elim
        (λ deep. let test : nat_lt 4 e.depth ≡ true = lt-ltb 4 e.depth deep in rw test refl)
        (λ shallow. let test : nat_lt 4 e.depth ≡ false = le-ltb 4 e.depth shallow in rw test nil)
        (cases_lt 4 e.depth)

    tops : (i : ℕ) → target (root_slot root i) ≡ Nil
    tops zero = head root.entries entries
    tops (suc zero) = head root.meta meta
    tops (suc (suc zero)) = refl
    tops (suc (suc (suc i))) = refl

-- The active root is read as what it is.
pub root_read : (device : List Block) (s : Super) (root : RootBlock) → HasActiveRoot device s root → root.entries.depth ≤ 4 → root.meta.depth ≤ 4 → IsRootBlock (reading device s root s.active) (block_of device s.active)
unfolding image root_slot head_slot
root_read device s root active de dm = record {
  root = root;
  spelled = active.block;
  entries = (root_slot_is device s root apart 0 ∙ shallow root.entries de, de);
  meta = (root_slot_is device s root apart 1 ∙ shallow root.meta dm, dm);
  before = root_slot_is device s root apart 2;
  ends = record { each = λ i ge. ap target (root_slot_is device s root apart i ∙ root_end root i ge) };
  own = ap (drop 104) (bytes_here device s root apart s.active);
}
  where
    apart : s.active ≢ 1
    apart e = let from = active.place.from in omega (arith, e, from)

    shallow : (e : Entry) → e.depth ≤ 4 → cond (nat_lt 4 e.depth) (To Nil) (Head e) ≡ Head e
    shallow e le = let test : nat_lt 4 e.depth ≡ false = le-ltb 4 e.depth le in rw test refl
