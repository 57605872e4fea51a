-- The names of any directory, once the whole tree was walked.
use Rattle.std.proofs.Common.{◌≡◌, ◌⊎◌, ⊎_elim, ℕ, zero, suc, ◌+◌, ◌*◌, ◌/◌, ◌%◌, ◌<◌, ◌≤◌, List, [], ◌∷◌, ◌++◌, append-nil, append_assoc, Option, refl, sym, ap, ◌∙◌, subst, arith}
use Rattle.std.proofs.lemmas.Bool.{cases_eq, cases_lt}
use Rattle.fo_disk.specs.Disk.{Block}
use Rattle.fo_image.specs.declared.types.Kind.{Kind}
use Rattle.fo_image.specs.declared.types.Kind.TheVariants.{Data, Dir, Root}
use Rattle.fo_image.specs.declared.types.Entry.{Entry}
use Rattle.fo_image.specs.declared.types.Label.{Label}
use Rattle.fo_image.specs.declared.types.Super.{Super}
use Rattle.fo_image.specs.declared.types.Score.{Score}
use Rattle.fo_image.specs.declared.types.Pointer.{Pointer}
use Rattle.fo_image.specs.declared.types.Pointer.TheVariants.{Nil, Local, Score as Held}
use Rattle.fo_crash.specs.declared.slot.Slot.{Slot}
use Rattle.fo_crash.specs.declared.slot.Slot.TheVariants.{Entry as Head}
use Rattle.fo_crash.specs.Images.{Content, Image, Arena, Link, target, found, step, leaf_path, kind_below, kind_of_top, from_block}
use Rattle.fo_sound.specs.Image.{block_of}
use Rattle.fo_good.specs.Trees.{IsEntries, IsRecords, HoldsEntries, LeadsTo, at_path}
use Rattle.fo_good.specs.Sound.{Kept}
use Rattle.fo_check_labels.specs.declared.labels.Known.{Known}
use Rattle.fo_check_tree.specs.declared.broken.Broken.{Broken}
use Rattle.fo_check_tree.specs.Answer.{HoldsAny, HasOwnNames, AreRecordsOf}
use Rattle.fo_check_tree.specs.Dirs.{link_at}
use Rattle.fo_check_tree.specs.Slots.{HasSlot, HasSlots}
use Rattle.fo_check_tree.specs.Slots.HasSlot.{entry as slot_entry, other as slot_other}
use Rattle.fo_check_tree.specs.Walking.{Reached, Goes}
use Rattle.fo_check_tree.proofs.Directories.{block_of_records}
use Rattle.fo_check_tree.proofs.Ending.{whole, has_of}
use Rattle.fo_check_tree.proofs.Leaves.{goes_join, lost}
use Rattle.fo_check_tree.proofs.Paths.{goes_end, slot_end, found_is}
use Rattle.fo_check_tree.proofs.Sprouting.{top_not_root}

nil_local : {a : ℕ} → Nil ≡ Local a → ⊥
nil_local e = cc

held_local : {a : ℕ} {x : Score} → Held x ≡ Local a → ⊥
held_local e = cc

local_is : {a b : ℕ} → Local a ≡ Local b → a ≡ b
local_is e = cc

head_kind : (s : Slot) (e : Entry) → s ≡ Head e → kind_of_top s ≡ Root → ⊥
head_kind s e is h = top_not_root e.dir e.depth (sym (ap kind_of_top is) ∙ h)

data_root : (level : ℕ) → Data level ≡ Root → ⊥
data_root level e = cc

dir_root : (level : ℕ) → Dir level ≡ Root → ⊥
dir_root level e = cc

below_data : (level : ℕ) (s : Slot) → kind_below (Data level) s ≡ Root → ⊥
below_data zero s e = data_root 0 e
below_data (suc level) s e = data_root level e

below_dir : (level : ℕ) (s : Slot) → kind_below (Dir (suc level)) s ≡ Root → ⊥
below_dir level s e = dir_root level e

module _ (arena : Arena) (device : List Block) (image : Image) (s : Super) (k : Kept) (holds : HoldsAny arena device image s k) (known : List Known) (noted : Option Broken) (n : ℕ → ℕ → ℕ)
    (g : Goes arena device image s k known noted n) (none : (b j : ℕ) → n b j ≡ 0) where
  -- what a slot of the active root leads to
  root_slot : (i a : ℕ) → target ((image k.at).slot i) ≡ Local a → kind_of_top ((image k.at).slot i) ≡ Root → ⊥
  root_slot zero a leads h = ⊎_elim (λ low. head_kind ((image k.at).slot 0) k.root.entries low.0 h) (λ high. nil_local (sym (ap target high.0) ∙ leads)) holds.entries
  root_slot (suc zero) a leads h = ⊎_elim (λ low. head_kind ((image k.at).slot 1) k.root.meta low.0 h) (λ high. nil_local (sym (ap target high.0) ∙ leads)) holds.meta
  root_slot (suc (suc zero)) a leads h = nil_local (sym (ap target holds.before) ∙ leads)
  root_slot (suc (suc (suc i))) a leads h = nil_local (sym (holds.ends.each (suc (suc (suc i))) (omega arith)) ∙ leads)

  leaf_slot : (c : Content) (bytes : Block) (i a : ℕ) → HasSlot c bytes i → target (c.slot i) ≡ Local a → kind_of_top (c.slot i) ≡ Root → ⊥
  leaf_slot c bytes i a (slot_entry e) leads h = head_kind (c.slot i) e.entry e.is h
  leaf_slot c bytes i a (slot_other is deep) leads h = nil_local (sym (ap target is) ∙ leads)

  -- Below the active root no block is read as a root.
  next : (done : List ℕ) (i at a : ℕ) → LeadsTo arena image k.at done at → ((at_path arena image k.at done).kind ≡ Root → at ≡ k.at) → LeadsTo arena image k.at (done ++ i ∷ []) a → (at_path arena image k.at (done ++ i ∷ [])).kind ≡ Root → ⊥
  next done i at a leads first leads' is =
      let st = whole arena device image s k holds.empty known noted n g none done at leads in
      let has = has_of arena device image s k holds.empty known noted n g none at st.label st.is in
      let slots : HasSlots st.label.kind (image at) (block_of device at) = holds.slots done at st.label leads has.0 has.1 in
      let there : target ((image at).slot i) ≡ Local a = sym (ap target (slot_end arena image done (from_block k.at) i at leads)) ∙ leads' in
      let kind : kind_below st.label.kind ((image at).slot i) ≡ Root =
      ap (λ (d : Kind). kind_below d ((image at).slot i)) (sym st.link)
      ∙ ap (λ (c : Content). kind_below (at_path arena image k.at done).kind (c.slot i)) (sym (found_is arena image (at_path arena image k.at done) at leads))
      ∙ sym (ap (λ (u : Link). u.kind) (goes_end arena image done (from_block k.at) i))
      ∙ is in
      by st.label.kind st.link slots there kind
    where
      by : (d : Kind) → (at_path arena image k.at done).kind ≡ d → HasSlots d (image at) (block_of device at) → target ((image at).slot i) ≡ Local a → kind_below d ((image at).slot i) ≡ Root → ⊥
      by (Data level) e slots there kind = below_data level ((image at).slot i) kind
      by (Dir zero) e slots there kind = ⊎_elim
          (λ (lt : i < 204). leaf_slot (image at) (block_of device at) i a (slots.0 i lt) there kind)
          (λ (ge : 204 ≤ i). nil_local (sym (slots.1.each i ge) ∙ there))
          (cases_lt i 204)
      by (Dir (suc level)) e slots there kind = below_dir level ((image at).slot i) kind
      by Root e slots there kind =
          let here : at ≡ k.at = first e in
          root_slot i a (subst (λ (b : ℕ). target ((image b).slot i) ≡ Local a) here there) (subst (λ (b : ℕ). kind_of_top ((image b).slot i) ≡ Root) here kind)

  only_root : (rest done : List ℕ) (at below : ℕ) → LeadsTo arena image k.at done at → ((at_path arena image k.at done).kind ≡ Root → at ≡ k.at) → LeadsTo arena image k.at (done ++ rest) below → (at_path arena image k.at (done ++ rest)).kind ≡ Root → below ≡ k.at
  only_root [] done at below leads first e kind =
      let same : done ++ [] ≡ done = append-nil done in
      local_is (sym e ∙ ap (λ (p : List ℕ). target ((at_path arena image k.at p).slot)) same ∙ leads) ∙ first (ap (λ (p : List ℕ). (at_path arena image k.at p).kind) (sym same) ∙ kind)
  only_root (i ∷ rest) done at below leads first e kind = by (target ((at_path arena image k.at (done ++ i ∷ [])).slot)) refl
      (λ a leads' first' e' kind'. only_root rest (done ++ i ∷ []) a below leads' first' e' kind')
    where
      longer : (done ++ i ∷ []) ++ rest ≡ done ++ i ∷ rest
      longer = append_assoc done (i ∷ []) rest

      down : LeadsTo arena image k.at ((done ++ i ∷ []) ++ rest) below
      down = ap (λ (p : List ℕ). target ((at_path arena image k.at p).slot)) longer ∙ e

      off : ((a : ℕ) → target ((at_path arena image k.at (done ++ i ∷ [])).slot) ≡ Local a → ⊥) → ⊥
      off isnt = lost arena image holds.empty rest (at_path arena image k.at (done ++ i ∷ [])) isnt below (ap (λ (u : Link). target u.slot) (sym (goes_join arena image holds.empty (done ++ i ∷ []) rest (from_block k.at))) ∙ down)

      by : (p : Pointer) → target ((at_path arena image k.at (done ++ i ∷ [])).slot) ≡ p → ((a : ℕ) → LeadsTo arena image k.at (done ++ i ∷ []) a → ((at_path arena image k.at (done ++ i ∷ [])).kind ≡ Root → a ≡ k.at) → LeadsTo arena image k.at ((done ++ i ∷ []) ++ rest) below → (at_path arena image k.at ((done ++ i ∷ []) ++ rest)).kind ≡ Root → below ≡ k.at) → below ≡ k.at
      by Nil is on = absurd (off (λ a h. nil_local (sym is ∙ h)))
      by (Held x) is on = absurd (off (λ a h. held_local (sym is ∙ h)))
      by (Local a) is on = on a is (λ root. absurd (next done i at a leads first is root)) down (ap (λ (p : List ℕ). (at_path arena image k.at p).kind) longer ∙ kind)

  root_at : (path : List ℕ) (at : ℕ) → LeadsTo arena image k.at path at → (at_path arena image k.at path).kind ≡ Root → at ≡ k.at
  root_at path at leads kind = only_root path [] k.at at refl (λ e. refl) leads kind

  -- A source without blocks has no records.
  no_names : (w : Link) → ((a : ℕ) → target w.slot ≡ Local a → ⊥) → HasOwnNames arena image k w
  no_names w isnt = record { each = λ a i b j r q h g x y same. absurd (lost arena image holds.empty (leaf_path w.slot a) w isnt x.block x.leads) }

  -- a block of entries, or the root
  entries_below : (d : Kind) (x : Slot) → HoldsEntries d → kind_below d x ≡ kind_of_top x
  entries_below (Data level) x h = absurd h
  entries_below (Dir zero) x h = refl
  entries_below (Dir (suc level)) x h = absurd h
  entries_below Root x h = refl

  module _ (top : IsRecords ((image k.at).slot 1) → HasOwnNames arena image k (link_at image k.at 1))
      (pairs : (at p : ℕ) (l : Label) → Reached known at l → l.kind ≡ Dir zero → p < 102 → IsEntries ((image at).slot (2 * p)) → IsRecords ((image at).slot (2 * p + 1)) → HasOwnNames arena image k (link_at image at (2 * p + 1))) where
    pub all_names : (meta : Link) → AreRecordsOf arena image k meta → HasOwnNames arena image k meta
    all_names meta w =
        let h : Link = at_path arena image k.at w.path in
        let below : at_path arena image k.at (w.path ++ (w.first + 1) ∷ []) ≡ step arena image h (w.first + 1) = goes_end arena image w.path (from_block k.at) (w.first + 1) in
        let b = block_of_records arena image holds.empty h (w.first + 1) (subst (λ (u : Link). IsRecords u.slot) below w.names.records) in
        let found' : found arena image h ≡ image b.0 = found_is arena image h b.0 b.1 in
        let st = whole arena device image s k holds.empty known noted n g none w.path b.0 b.1 in
        let here : at_path arena image k.at (w.path ++ (w.first + 1) ∷ []) ≡ link_at image b.0 (w.first + 1) =
        below
        ∙ ap (λ (c : Content). record { kind = kind_below h.kind (c.slot (w.first + 1)); slot = c.slot (w.first + 1) }) found'
        ∙ ap (λ (d : Kind). record { kind = d; slot = (image b.0).slot (w.first + 1) }) (entries_below h.kind ((image b.0).slot (w.first + 1)) w.names.holder) in
        subst (λ (u : Link). HasOwnNames arena image k u) (sym (w.is ∙ here))
        (by b.0 b.1 st.label st.is st.link (subst (λ (d : Kind). HoldsEntries d) st.link w.names.holder) (subst (λ (u : Link). IsRecords u.slot) here w.names.records) st.label.kind refl)
      where
        odd : (w.first + 1) % 2 ≡ 1
        odd = w.names.second

        by : (at : ℕ) → LeadsTo arena image k.at w.path at → (l : Label) → Reached known at l → (at_path arena image k.at w.path).kind ≡ l.kind → HoldsEntries l.kind → IsRecords ((image at).slot (w.first + 1)) → (d : Kind) → l.kind ≡ d → HasOwnNames arena image k (link_at image at (w.first + 1))
        by at leads l is link holder records (Data level) e = absurd (subst (λ (d : Kind). HoldsEntries d) e holder)
        by at leads l is link holder records (Dir (suc level)) e = absurd (subst (λ (d : Kind). HoldsEntries d) e holder)
        by at leads l is link holder records Root e =
            let same : at ≡ k.at = root_at w.path at leads (link ∙ e) in
            subst (λ (c : ℕ). HasOwnNames arena image k (link_at image c (w.first + 1))) (sym same) (⊎_elim
            (λ (first : w.first ≡ 0). subst (λ (f : ℕ). HasOwnNames arena image k (link_at image k.at (f + 1))) (sym first) (top (subst (λ (f : ℕ). IsRecords ((image k.at).slot (f + 1))) first (subst (λ (c : ℕ). IsRecords ((image c).slot (w.first + 1))) same records))))
            (λ (other : w.first ≡ 0 → ⊥). no_names (link_at image k.at (w.first + 1)) (λ a lead. nil_local (sym (holds.ends.each (w.first + 1) (omega (arith, odd, other))) ∙ lead)))
            (cases_eq w.first 0))
        by at leads l is link holder records (Dir zero) e =
            let has = has_of arena device image s k holds.empty known noted n g none at l is in
            let slots : HasSlots (Dir zero) (image at) (block_of device at) = subst (λ (d : Kind). HasSlots d (image at) (block_of device at)) e (holds.slots w.path at l leads has.0 has.1) in
            let half : w.first ≡ 2 * (w.first / 2) = omega (arith, odd) in
            ⊎_elim
            (λ (lt : w.first / 2 < 102).
            subst (λ (f : ℕ). HasOwnNames arena image k (link_at image at (f + 1))) (sym half)
            (pairs at (w.first / 2) l is e lt (subst (λ (f : ℕ). IsEntries ((image at).slot f)) half (first_is (link ∙ e) at leads w.pair)) (subst (λ (f : ℕ). IsRecords ((image at).slot (f + 1))) half records)))
            (λ (ge : 102 ≤ w.first / 2). no_names (link_at image at (w.first + 1)) (λ a lead. nil_local (sym (slots.1.each (w.first + 1) (omega (arith, ge))) ∙ lead)))
            (cases_lt (w.first / 2) 102)
          where
            root_dir : Root ≡ Dir zero → ⊥
            root_dir e = cc

            first_is : (at_path arena image k.at w.path).kind ≡ Dir zero → (at : ℕ) → LeadsTo arena image k.at w.path at → (w.path ≡ []) ⊎ IsEntries ((at_path arena image k.at (w.path ++ w.first ∷ [])).slot) → IsEntries ((image at).slot w.first)
            first_is kind at leads p = ⊎_elim
                (λ (none' : w.path ≡ []). absurd (root_dir (ap (λ (p : List ℕ). (at_path arena image k.at p).kind) (sym none') ∙ kind)))
                (λ (x : IsEntries ((at_path arena image k.at (w.path ++ w.first ∷ [])).slot)). subst (λ (x : Slot). IsEntries x) (slot_end arena image w.path (from_block k.at) w.first at leads) x)
                p
