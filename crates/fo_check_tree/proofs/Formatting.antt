-- Which leaves of records are of the format or left, with one step more of the walk.
use Rattle.std.proofs.Common.{◌≡◌, ◌≢◌, ◌⊎◌, ⊎_elim, inl, inr, ℕ, zero, suc, ◌+◌, ◌-◌, ◌*◌, ◌/◌, ◌%◌, ◌^◌, ◌<◌, ◌≤◌, Bool, true, false, not, List, [], ◌∷◌, ◌++◌, length, append-nil, append_assoc, Option, Some, None, refl, sym, ap, ◌∙◌, subst, arith}
use Rattle.std.specs.Prelude.{◌&&◌, cond, min}
use Rattle.std.proofs.lemmas.Bool.{cases_eq, cases_lt}
use Rattle.fo_disk.specs.Disk.{Block}
use Rattle.fo_image.specs.declared.types.Kind.{Kind}
use Rattle.fo_image.specs.declared.types.Kind.TheVariants.{Data, Dir, Root}
use Rattle.fo_image.specs.declared.types.Entry.{Entry}
use Rattle.fo_image.specs.declared.types.Label.{Label}
use Rattle.fo_image.specs.declared.types.Super.{Super}
use Rattle.fo_image.specs.declared.types.Score.{Score}
use Rattle.fo_image.specs.declared.types.Pointer.{Pointer}
use Rattle.fo_image.specs.declared.types.Pointer.TheVariants.{Nil, Local, Score as Held}
use Rattle.fo_crash.specs.declared.slot.Slot.{Slot}
use Rattle.fo_crash.specs.declared.slot.Slot.TheVariants.{Entry as Head}
use Rattle.fo_crash.specs.Images.{Content, Image, Arena, Link, target, found, goes, step as step_to, kind_below, kind_of_top}
use Rattle.fo_meta.specs.Leaf.{IsLeaf}
use Rattle.fo_sound.specs.Image.{block_of, IsDataBlock, HasLabel}
use Rattle.fo_good.specs.Means.{EndsAt}
use Rattle.fo_good.specs.Trees.{IsRecords, HoldsEntries}
use Rattle.fo_good.specs.Sound.{Kept}
use Rattle.fo_check_names.specs.Pairs.{is_folder, is_source, records_of}
use Rattle.fo_check_tree.specs.declared.broken.Broken.{Broken}
use Rattle.fo_check_labels.specs.declared.labels.Known.{Known}
use Rattle.fo_check_tree.specs.declared.walk.Folder.{Folder}
use Rattle.fo_check_tree.specs.declared.walk.Holder.{Holder}
use Rattle.fo_check_tree.specs.declared.walk.Holds.TheVariants.{Records}
use Rattle.fo_check_tree.specs.declared.walk.Step.{Step}
use Rattle.fo_check_tree.specs.declared.walk.Walk.{Walk}
use Rattle.fo_check_tree.specs.Answer.{IsAlone}
use Rattle.fo_check_tree.specs.Dirs.{link_at, HasMeta}
use Rattle.fo_check_tree.specs.Follows.{Puts, Reaches, Follows}
use Rattle.fo_check_tree.specs.Follows.Reaches.{again, enters}
use Rattle.fo_check_tree.specs.Follows.Follows.{nowhere, held, local}
use Rattle.fo_check_tree.specs.Formats.{IsRecordsWay, IsFormed, AreFormed}
use Rattle.fo_check_tree.specs.Listing.{SomeOf}
use Rattle.fo_check_tree.specs.Lower.{lower, level}
use Rattle.fo_check_tree.specs.Slots.{HasSlots, entry_of, top_step, step_below, steps_by, steps_below, steps_by_pairs, steps_of, first_steps, second_steps, pair_steps, pair_folders, folders_by, AreFolders, AddsFolders}
use Rattle.fo_check_tree.specs.Slots.AreFolders.{none, more}
use Rattle.fo_check_tree.specs.Walking.{Reached, Walking}
use Rattle.fo_check_tree.specs.Pairing.{Grows}
use Rattle.fo_check_tree.proofs.Alone.{twice_behind}
use Rattle.fo_check_tree.proofs.Judging.{Entry', records_is, puts_more}
use Rattle.fo_check_tree.proofs.Leaves.{some_left, some_right, some_parts, goes_join, lost}
use Rattle.fo_check_tree.proofs.Levels.{level-lower}
use Rattle.fo_check_tree.proofs.Paths.{slot_end, goes_end}
use Rattle.fo_check_tree.proofs.Reaching.{same_label, reached_cases, table_kept, reached_new}
use Rattle.fo_check_tree.proofs.Slots.{one_below, one_pair}
use Rattle.fo_check_tree.proofs.Stepping.{again_breaks, taken_of, slots_on}

-- ---- one of the steps or folders by the slots of a block

pub some_slot : (P : Step → Type 0) (step : Step) (kind : Kind) (here : Holder) (c : Content) (n j a : ℕ) → j < n → target (c.slot j) ≡ Local a → P (step_below step kind here j (Local a)) → SomeOf P (steps_below step kind here c n)
some_slot P step kind here c zero j a lt leads w = absurd (omega (arith, lt))
some_slot P step kind here c (suc n) j a lt leads w = subst (λ (s : List Step). SomeOf P s) (sym (one_below step kind here c n)) (⊎_elim
    (λ (same : j ≡ n). some_right P (steps_below step kind here c n) (steps_by step kind here n (target (c.slot n)))
    (subst (λ (p : Pointer). SomeOf P (steps_by step kind here n p)) (sym leads ∙ ap (λ (i : ℕ). target (c.slot i)) same)
    (inl (subst (λ (i : ℕ). P (step_below step kind here i (Local a))) same w))))
    (λ (apart : j ≢ n). some_left P (steps_below step kind here c n) (steps_by step kind here n (target (c.slot n))) (some_slot P step kind here c n j a (omega (arith, lt, apart)) leads w))
    (cases_eq j n))

module _ (here : Holder) (c : Content) where
  abbrev steps_at : ℕ → List Step
  steps_at i = pair_steps here (entry_of (c.slot (2 * i))) (entry_of (c.slot (2 * i + 1)))

  some_pair : (P : Step → Type 0) (n i : ℕ) → i < n → SomeOf P (steps_at i) → SomeOf P (steps_by_pairs here c n)
  some_pair P zero i lt w = absurd (omega (arith, lt))
  some_pair P (suc n) i lt w = subst (λ (s : List Step). SomeOf P s) (sym (one_pair here c n)) (⊎_elim
      (λ (same : i ≡ n). some_right P (steps_by_pairs here c n) (steps_at n) (subst (λ (j : ℕ). SomeOf P (steps_at j)) same w))
      (λ (apart : i ≢ n). some_left P (steps_by_pairs here c n) (steps_at n) (some_pair P n i (omega (arith, lt, apart)) w))
      (cases_eq i n))

  abbrev folders_at : ℕ → ℕ → Bool → List Folder
  folders_at i depth named = pair_folders here (entry_of (c.slot (2 * i))) (entry_of (c.slot (2 * i + 1))) depth named

  pub some_folder : (P : Folder → Type 0) (depth : ℕ) (named : Bool) (n : ℕ) (folders : List Folder) → AreFolders here c depth named n folders → (i : ℕ) → i < n → ((t : Bool) → SomeOf P (folders_at i depth t)) → SomeOf P folders
  some_folder P depth named n folders none i lt w = absurd (omega (arith, lt))
  some_folder P depth named n folders (more k found' old are) i lt w =
      let t : Bool = named && found' in
      ⊎_elim
      (λ (same : i ≡ k). some_right P old (folders_at k depth t) (subst (λ (j : ℕ). SomeOf P (folders_at j depth t)) same (w t)))
      (λ (apart : i ≢ k). some_left P old (folders_at k depth t) (some_folder P depth named k old are i (omega (arith, lt, apart)) w))
      (cases_eq i k)

-- ---- kinds below a source of records

record IsData (kind : Kind) : Type 0 where
  level : ℕ
  is : kind ≡ Data level

below_data : (kind : Kind) (s : Slot) → IsData kind → IsData (kind_below kind s)
below_data kind s w = by w.level w.is
  where
    by : (level : ℕ) → kind ≡ Data level → IsData (kind_below kind s)
    by zero e = record { level = 0; is = ap (λ (d : Kind). kind_below d s) e }
    by (suc level) e = record { level = level; is = ap (λ (d : Kind). kind_below d s) e }

data_down : (arena : Arena) (image : Image) (path : List ℕ) (v : Link) → IsData v.kind → IsData ((goes arena image v path).kind)
data_down arena image [] v w = w
data_down arena image (i ∷ path) v w = data_down arena image path (step_to arena image v i) (below_data v.kind ((found arena image v).slot i) w)

top_data : (s : Slot) → IsRecords s → IsData (kind_of_top s)
top_data s h = let e = records_is s h in record { level = e.entry.depth; is = ap kind_of_top e.slot ∙ ap (λ (d : Bool). cond d (Dir e.entry.depth) (Data e.entry.depth)) e.flag }

-- ---- a leaf of entries that is reached now

both : (a b : Bool) → a ≡ true → b ≡ true → (a && b) ≡ true
both a b p q = ap (λ (x : Bool). x && b) p ∙ q

module _ (arena : Arena) (image : Image) (at : ℕ) (here : Holder) (i : ℕ) (records : IsRecords ((image at).slot (2 * i + 1))) where
  abbrev one : Entry
  one = entry_of ((image at).slot (2 * i))

  m : Entry' ((image at).slot (2 * i + 1)) false
  m = records_is ((image at).slot (2 * i + 1)) records

  is_second : entry_of ((image at).slot (2 * i + 1)) ≡ m.entry
  is_second = ap entry_of m.slot

  source : is_source m.entry ≡ true
  source = both m.entry.active (not m.entry.dir) m.active (ap not m.flag)

  in_folder : is_folder one ≡ true → (depth : ℕ) (named : Bool) → SomeOf (HasMeta image at (2 * i + 1)) (folders_at here (image at) i depth named)
  in_folder folder depth named =
      let records' : records_of one m.entry ≡ Some m.entry = ap (λ (x : Bool). cond (x && is_source m.entry) (Some m.entry) None) folder ∙ ap (λ (x : Bool). cond x (Some m.entry) None) source in
      let f : Folder = record { entries = one; records = Some m.entry; holder = here; depth = depth; named = named } in
      let only : folders_by here one (records_of one m.entry) depth named ≡ f ∷ [] = ap (λ (r : Option Entry). folders_by here one r depth named) records' ∙ ap (λ (x : Bool). cond x (f ∷ []) []) folder in
      let has : HasMeta image at (2 * i + 1) f = record { entry = m.entry; is = refl; slot = m.slot } in
      subst (λ (y : Entry). SomeOf (HasMeta image at (2 * i + 1)) (pair_folders here one y depth named)) (sym is_second)
      (some_left (HasMeta image at (2 * i + 1)) (folders_by here one (records_of one m.entry) depth named) (folders_by here m.entry None depth false)
      (subst (λ (fs : List Folder). SomeOf (HasMeta image at (2 * i + 1)) fs) (sym only) (inl has)))

  in_step : is_folder one ≡ false → (path : List ℕ) → SomeOf (IsRecordsWay arena image (link_at image at (2 * i + 1)) path) (steps_at here (image at) i)
  in_step folder path =
      let s : Step = record (top_step m.entry Records here) { size = 0 } in
      let only : second_steps here (is_folder one) m.entry ≡ s ∷ [] = ap (λ (x : Bool). cond (is_source m.entry && not x) (s ∷ []) []) folder ∙ ap (λ (x : Bool). cond (x && true) (s ∷ []) []) source in
      let way' : IsRecordsWay arena image (link_at image at (2 * i + 1)) path s = record { front = []; rest = path; is = refl; pointer = sym (ap target m.slot); kind = sym (ap kind_of_top m.slot); holds = refl } in
      subst (λ (y : Entry). SomeOf (IsRecordsWay arena image (link_at image at (2 * i + 1)) path) (pair_steps here one y)) (sym is_second)
      (some_right (IsRecordsWay arena image (link_at image at (2 * i + 1)) path) (first_steps here one) (second_steps here (is_folder one) m.entry)
      (subst (λ (xs : List Step). SomeOf (IsRecordsWay arena image (link_at image at (2 * i + 1)) path) xs) (sym only) (inl way')))

-- ---- lists that grow

module _ (arena : Arena) (image : Image) where
  more_folders : (P : Folder → Type 0) (others folders folders' added : List Folder) → folders' ≡ folders ++ added → SomeOf P (others ++ folders) → SomeOf P (others ++ folders')
  more_folders P others folders folders' added is h = subst (λ (fs : List Folder). SomeOf P (others ++ fs)) (sym is) (⊎_elim
      (λ (a : SomeOf P others). some_left P others (folders ++ added) a)
      (λ (b : SomeOf P folders). some_right P others (folders ++ added) (some_left P folders added b))
      (some_parts P others folders h))

  more_formed : (steps added : List Step) (others folders folders' fresh : List Folder) (at i : ℕ) (path : List ℕ) (b : ℕ) → folders' ≡ folders ++ fresh → IsFormed arena image steps (others ++ folders) at i path b → IsFormed arena image (steps ++ added) (others ++ folders') at i path b
  more_formed steps added others folders folders' fresh at i path b is w = ⊎_elim
      (λ (leaf : IsLeaf ((image b).bytes)). inl leaf)
      (λ (left : SomeOf (IsRecordsWay arena image (link_at image at i) path) steps ⊎ SomeOf (HasMeta image at i) (others ++ folders)). inr (⊎_elim
      (λ (a : SomeOf (IsRecordsWay arena image (link_at image at i) path) steps). inl (some_left (IsRecordsWay arena image (link_at image at i) path) steps added a))
      (λ (f : SomeOf (HasMeta image at i) (others ++ folders)). inr (more_folders (HasMeta image at i) others folders folders' fresh is f))
      left))
      w

  pub formed_like : (k : Kept) (known known' : List Known) (noted noted' : Option Broken) (steps steps' : List Step) (folders folders' : List Folder) → known' ≡ known → level noted' ≤ level noted → steps' ≡ steps → folders' ≡ folders
      → AreFormed arena image k known noted steps folders → AreFormed arena image k known' noted' steps' folders'
  formed_like k known known' noted noted' steps steps' folders folders' a low b c w = record {
    each = λ quiet at i l r holds odd records path block kind leads alone.
        subst (λ (s : List Step). IsFormed arena image s folders' at i path block) (sym b) (subst (λ (fs : List Folder). IsFormed arena image steps fs at i path block) (sym c)
        (w.each (omega (arith, quiet, low)) at i l (subst (λ (ks : List Known). Reached ks at l) a r) holds odd records path block kind leads alone));
  }

  -- one step more is left
  pub formed_push : (k : Kept) (known : List Known) (noted : Option Broken) (steps added : List Step) (folders : List Folder) → AreFormed arena image k known noted steps folders → AreFormed arena image k known noted (steps ++ added) folders
  formed_push k known noted steps added folders w = record {
    each = λ quiet at i l r holds odd records path block kind leads alone. ⊎_elim
        (λ (leaf : IsLeaf ((image block).bytes)). inl leaf)
        (λ (left : SomeOf (IsRecordsWay arena image (link_at image at i) path) steps ⊎ SomeOf (HasMeta image at i) folders). inr (⊎_elim
        (λ (a : SomeOf (IsRecordsWay arena image (link_at image at i) path) steps). inl (some_left (IsRecordsWay arena image (link_at image at i) path) steps added a))
        (λ (f : SomeOf (HasMeta image at i) folders). inr f)
        left))
        (w.each quiet at i l r holds odd records path block kind leads alone);
  }

  -- a folder is opened
  pub formed_open : (k : Kept) (known : List Known) (noted : Option Broken) (steps : List Step) (folders others : List Folder) (f : Folder) → folders ≡ others ++ f ∷ [] → AreFormed arena image k known noted steps folders → AreFormed arena image k known noted steps (f ∷ others)
  formed_open k known noted steps folders others f is w = record {
    each = λ quiet at i l r holds odd records path block kind leads alone. ⊎_elim
        (λ (leaf : IsLeaf ((image block).bytes)). inl leaf)
        (λ (left : SomeOf (IsRecordsWay arena image (link_at image at i) path) steps ⊎ SomeOf (HasMeta image at i) folders). inr (⊎_elim
        (λ (a : SomeOf (IsRecordsWay arena image (link_at image at i) path) steps). inl a)
        (λ (g : SomeOf (HasMeta image at i) folders). inr (⊎_elim
        (λ (a : SomeOf (HasMeta image at i) others). inr a)
        (λ (b : SomeOf (HasMeta image at i) (f ∷ [])). ⊎_elim (λ (h : HasMeta image at i f). inl h) (λ (no' : ⊥). absurd no') b)
        (some_parts (HasMeta image at i) others (f ∷ []) (subst (λ (fs : List Folder). SomeOf (HasMeta image at i) fs) is g))))
        left))
        (w.each quiet at i l r holds odd records path block kind leads alone);
  }

  some_is : (a b : Entry) → Some a ≡ Some b → a ≡ b
  some_is a b e = cc

  none_some : (a : Entry) → None ≡ Some a → ⊥
  none_some a e = cc

  -- The folder in course has no records.
  pub formed_alone : (k : Kept) (known : List Known) (noted : Option Broken) (steps : List Step) (f : Folder) (folders : List Folder) → f.records ≡ None → AreFormed arena image k known noted steps (f ∷ folders) → AreFormed arena image k known noted steps folders
  formed_alone k known noted steps f folders is w = record {
    each = λ quiet at i l r holds odd records path block kind leads alone. ⊎_elim
        (λ (leaf : IsLeaf ((image block).bytes)). inl leaf)
        (λ (left : SomeOf (IsRecordsWay arena image (link_at image at i) path) steps ⊎ SomeOf (HasMeta image at i) (f ∷ folders)). inr (⊎_elim
        (λ (a : SomeOf (IsRecordsWay arena image (link_at image at i) path) steps). inl a)
        (λ (g : SomeOf (HasMeta image at i) (f ∷ folders)). ⊎_elim
        (λ (h : HasMeta image at i f). absurd (none_some h.entry (sym is ∙ h.is)))
        (λ (h : SomeOf (HasMeta image at i) folders). inr h)
        g)
        left))
        (w.each quiet at i l r holds odd records path block kind leads alone);
  }

  -- The records of the folder in course are left in a step.
  pub formed_top : (k : Kept) (known : List Known) (noted : Option Broken) (steps : List Step) (f : Folder) (e : Entry) (folders : List Folder) → f.records ≡ Some e → AreFormed arena image k known noted steps (f ∷ folders)
      → AreFormed arena image k known noted (steps ++ top_step e Records f.holder ∷ []) folders
  formed_top k known noted steps f e folders is w = record {
    each = λ quiet at i l r holds odd records path block kind leads alone. ⊎_elim
        (λ (leaf : IsLeaf ((image block).bytes)). inl leaf)
        (λ (left : SomeOf (IsRecordsWay arena image (link_at image at i) path) steps ⊎ SomeOf (HasMeta image at i) (f ∷ folders)). inr (⊎_elim
        (λ (a : SomeOf (IsRecordsWay arena image (link_at image at i) path) steps). inl (some_left (IsRecordsWay arena image (link_at image at i) path) steps (top_step e Records f.holder ∷ []) a))
        (λ (g : SomeOf (HasMeta image at i) (f ∷ folders)). ⊎_elim
        (λ (h : HasMeta image at i f).
        let same : e ≡ h.entry = some_is e h.entry (sym is ∙ h.is) in
        let slot : (image at).slot i ≡ Head e = h.slot ∙ ap (λ (x : Entry). Head x) (sym same) in
        inl (some_right (IsRecordsWay arena image (link_at image at i) path) steps (top_step e Records f.holder ∷ [])
        (inl (record { front = []; rest = path; is = refl; pointer = sym (ap target slot); kind = sym (ap kind_of_top slot); holds = refl }))))
        (λ (h : SomeOf (HasMeta image at i) folders). inr h)
        g)
        left))
        (w.each quiet at i l r holds odd records path block kind leads alone);
  }

-- ---- a step that was followed

module _ (arena : Arena) (device : List Block) (image : Image) (s : Super) (k : Kept) (rest : List Step) (step : Step) (old new : Walk) (w : Walking arena device image s k (step ∷ rest) old) where
  local_is : (a b : ℕ) → Local a ≡ Local b → a ≡ b
  local_is a b e = cc

  data_is : (a b : ℕ) → Data a ≡ Data b → a ≡ b
  data_is a b e = cc

  module _ (link : Link) (path : List ℕ) (b : ℕ) (v : IsRecordsWay arena image link path step) (kind : (goes arena image link path).kind ≡ Data 0) (leads : target ((goes arena image link path).slot) ≡ Local b) where
    leads_on : target ((goes arena image (goes arena image link v.front) v.rest).slot) ≡ Local b
    leads_on = ap (λ (u : Link). target u.slot) (sym (goes_join arena image w.holds.empty v.front v.rest link)) ∙ ap (λ (p : List ℕ). target ((goes arena image link p).slot)) (sym v.is) ∙ leads

    -- Nothing is behind a step that leads to no block.
    off_way : ((a : ℕ) → step.pointer ≢ Local a) → ⊥
    off_way isnt = lost arena image w.holds.empty v.rest (goes arena image link v.front) (λ a e. isnt a (v.pointer ∙ e)) b leads_on

    module _ (at : ℕ) (is : step.pointer ≡ Local at) where
      leads_here : target ((goes arena image link v.front).slot) ≡ Local at
      leads_here = sym v.pointer ∙ is

      top : (j : ℕ) → target ((goes arena image link (v.front ++ j ∷ [])).slot) ≡ target ((image at).slot j)
      top j = ap target (slot_end arena image v.front link j at leads_here)

      longer : (j : ℕ) (more' : List ℕ) → v.rest ≡ j ∷ more' → path ≡ (v.front ++ j ∷ []) ++ more'
      longer j more' e = v.is ∙ ap (λ (r : List ℕ). v.front ++ r) e ∙ sym (append_assoc v.front (j ∷ []) more')

      off_slot : (j : ℕ) (more' : List ℕ) → v.rest ≡ j ∷ more' → ((a : ℕ) → target ((image at).slot j) ≢ Local a) → ⊥
      off_slot j more' e isnt = lost arena image w.holds.empty more' (goes arena image link (v.front ++ j ∷ [])) (λ a h. isnt a (sym (top j) ∙ h)) b
          (ap (λ (u : Link). target u.slot) (sym (goes_join arena image w.holds.empty (v.front ++ j ∷ []) more' link)) ∙ ap (λ (p : List ℕ). target ((goes arena image link p).slot)) (sym (longer j more' e)) ∙ leads)

      ends_here : v.rest ≡ [] → b ≡ at
      ends_here e = local_is b at (sym leads ∙ ap (λ (p : List ℕ). target ((goes arena image link p).slot)) (v.is ∙ ap (λ (r : List ℕ). v.front ++ r) e ∙ append-nil v.front) ∙ leads_here)

      not_nil : (a : ℕ) → Nil ≡ Local a → ⊥
      not_nil a e = cc

      not_held : {x : Score} → (a : ℕ) → Held x ≡ Local a → ⊥
      not_held a e = cc

      kind_on : (level j : ℕ) → step.kind ≡ Data (suc level) → Data level ≡ (goes arena image link (v.front ++ j ∷ [])).kind
      kind_on level j is' = sym (ap (λ (u : Link). u.kind) (goes_end arena image v.front link j)
          ∙ ap (λ (d : Kind). kind_below d ((found arena image (goes arena image link v.front)).slot j)) (sym v.kind ∙ is'))

      by_slot : (level : ℕ) → step.kind ≡ Data (suc level) → (here : Holder) → EndsAt 409 (image at) → (j : ℕ) (more' : List ℕ) → v.rest ≡ j ∷ more' → (p : Pointer) → target ((image at).slot j) ≡ p → SomeOf (IsRecordsWay arena image link path) (steps_below step (Data level) here (image at) 409)
      by_slot level is' here ends j more' e Nil h = absurd (off_slot j more' e (λ a x. not_nil a (sym h ∙ x)))
      by_slot level is' here ends j more' e (Held y) h = absurd (off_slot j more' e (λ a x. not_held a (sym h ∙ x)))
      by_slot level is' here ends j more' e (Local a) h = ⊎_elim
          (λ (lt : j < 409). some_slot (IsRecordsWay arena image link path) step (Data level) here (image at) 409 j a lt h
          (record { front = v.front ++ j ∷ []; rest = more'; is = longer j more' e; pointer = sym (top j ∙ h); kind = kind_on level j is'; holds = v.holds }))
          (λ (ge : 409 ≤ j). absurd (not_nil a (sym (ends.each j ge) ∙ h)))
          (cases_lt j 409)

      through : (level : ℕ) → step.kind ≡ Data level → (here : Holder) → HasSlots step.kind (image at) (block_of device at) → (step.kind ≡ Data 0 → step.holds ≡ Records → IsLeaf (block_of device at))
          → (r : List ℕ) → v.rest ≡ r → IsLeaf ((image b).bytes) ⊎ SomeOf (IsRecordsWay arena image link path) (steps_of step here (image at) step.kind)
      through zero is' here slots leaf [] e = inl (subst (λ (x : Block). IsLeaf x) (sym (ap (λ (a : ℕ). (image a).bytes) (ends_here e) ∙ w.holds.bytes at)) (leaf is' v.holds))
      through zero is' here slots leaf (j ∷ more') e =
          let ends : EndsAt 0 (image at) = subst (λ (d : Kind). HasSlots d (image at) (block_of device at)) is' slots in
          absurd (off_slot j more' e (λ a x. not_nil a (sym (ends.each j (omega arith)) ∙ x)))
      through (suc level) is' here slots leaf [] e =
          let same : step.kind ≡ Data 0 = v.kind ∙ ap (λ (p : List ℕ). (goes arena image link p).kind) (sym (v.is ∙ ap (λ (r : List ℕ). v.front ++ r) e ∙ append-nil v.front)) ∙ kind in
          absurd (omega (arith, data_is (suc level) 0 (sym is' ∙ same)))
      through (suc level) is' here slots leaf (j ∷ more') e =
          let inner : HasSlots (Data (suc level)) (image at) (block_of device at) = subst (λ (d : Kind). HasSlots d (image at) (block_of device at)) is' slots in
          inr (subst (λ (d : Kind). SomeOf (IsRecordsWay arena image link path) (steps_of step here (image at) d)) (sym is') (by_slot level is' here inner.1 j more' e (target ((image at).slot j)) refl))

  module _ (others : List Folder) (j : AreFormed arena image k old.labels.known.items old.noted (old.steps.items ++ step ∷ []) (others ++ old.folders.items)) (depth : ℕ) (named : Bool) (low : level new.noted ≤ level old.noted) where
    -- where it is left: by another step, or by this one
    parts : (link : Link) (path : List ℕ) → SomeOf (IsRecordsWay arena image link path) (old.steps.items ++ step ∷ []) → SomeOf (IsRecordsWay arena image link path) old.steps.items ⊎ IsRecordsWay arena image link path step
    parts link path x = ⊎_elim (λ (a : SomeOf (IsRecordsWay arena image link path) old.steps.items). inl a) (λ (b : SomeOf (IsRecordsWay arena image link path) (step ∷ [])). ⊎_elim (λ (v : IsRecordsWay arena image link path step). inr v) (λ (no' : ⊥). absurd no') b)
        (some_parts (IsRecordsWay arena image link path) old.steps.items (step ∷ []) x)

    -- A step was taken behind which no leaf is.
    shorter : ((link : Link) (path : List ℕ) (b : ℕ) → IsAlone arena image k b → IsRecordsWay arena image link path step → (goes arena image link path).kind ≡ Data 0 → target ((goes arena image link path).slot) ≡ Local b → ⊥)
        → AreFormed arena image k old.labels.known.items old.noted old.steps.items (others ++ old.folders.items)
    shorter none' = record {
      each = λ quiet at i l r holds odd records path b kind leads alone. ⊎_elim
          (λ (leaf : IsLeaf ((image b).bytes)). inl leaf)
          (λ (left : SomeOf (IsRecordsWay arena image (link_at image at i) path) (old.steps.items ++ step ∷ []) ⊎ SomeOf (HasMeta image at i) (others ++ old.folders.items)). inr (⊎_elim
          (λ (x : SomeOf (IsRecordsWay arena image (link_at image at i) path) (old.steps.items ++ step ∷ [])). ⊎_elim
          (λ (a : SomeOf (IsRecordsWay arena image (link_at image at i) path) old.steps.items). inl a)
          (λ (v : IsRecordsWay arena image (link_at image at i) path step). absurd (none' (link_at image at i) path b alone v kind leads))
          (parts (link_at image at i) path x))
          (λ (f : SomeOf (HasMeta image at i) (others ++ old.folders.items)). inr f)
          left))
          (j.each quiet at i l r holds odd records path b kind leads alone);
    }

    after_none : ((a : ℕ) → step.pointer ≢ Local a) → AreFormed arena image k old.labels.known.items old.noted old.steps.items (others ++ old.folders.items)
    after_none isnt = shorter (λ link path b alone v kind leads. off_way link path b v kind leads isnt)

    after_block : (at : ℕ) → step.pointer ≡ Local at → Reaches device image depth named step at old new → AreFormed arena image k new.labels.known.items new.noted new.steps.items (others ++ new.folders.items)
    after_block at is (again m allowed marks same same' noted kept) =
        formed_like arena image k old.labels.known.items new.labels.known.items old.noted new.noted old.steps.items new.steps.items (others ++ old.folders.items) (others ++ new.folders.items) marks.same low same (ap (λ (fs : List Folder). others ++ fs) same')
        (shorter (λ link path b alone v kind leads. twice_behind arena image w.holds.empty k at (again_breaks arena device image s k rest step old new w at m is marks.none allowed.known) (goes arena image link v.front) (sym v.pointer ∙ is) v.rest b
        (ap (λ (u : Link). target u.slot) (sym (goes_join arena image w.holds.empty v.front v.rest link)) ∙ ap (λ (p : List ℕ). target ((goes arena image link p).slot)) (sym v.is) ∙ leads) alone))
    after_block at is (enters m allowed marks steps folders notes read adds leafs seeks bytes deeps clean asks eights heads) = record {
      each = λ quiet c i l r holds odd records path b kind leads alone. subst (λ (xs : List Step). IsFormed arena image xs (others ++ new.folders.items) c i path b) (sym (steps slots)) (⊎_elim
          (λ (same : c ≡ at). now quiet c i l same r holds odd records path b kind leads)
          (λ (before : Reached known c l). ⊎_elim
          (λ (leaf : IsLeaf ((image b).bytes)). inl leaf)
          (λ (left : SomeOf (IsRecordsWay arena image (link_at image c i) path) (old.steps.items ++ step ∷ []) ⊎ SomeOf (HasMeta image c i) (others ++ old.folders.items)). ⊎_elim
          (λ (x : SomeOf (IsRecordsWay arena image (link_at image c i) path) (old.steps.items ++ step ∷ [])). ⊎_elim
          (λ (a : SomeOf (IsRecordsWay arena image (link_at image c i) path) old.steps.items). inr (inl (some_left (IsRecordsWay arena image (link_at image c i) path) old.steps.items added a)))
          (λ (v : IsRecordsWay arena image (link_at image c i) path step). behind quiet (link_at image c i) (top_data ((image c).slot i) records) path b v kind leads c i refl)
          (parts (link_at image c i) path x))
          (λ (f : SomeOf (HasMeta image c i) (others ++ old.folders.items)). inr (inr (more_folders arena image (HasMeta image c i) others old.folders.items new.folders.items grows.added grows.is f)))
          left)
          (j.each (omega (arith, quiet, low)) c i l before holds odd records path b kind leads alone))
          (reached_cases known new.labels.known.items at w.goes.table.up marks c l r));
    }
      where
        known : List Known
        known = old.labels.known.items

        here : Holder
        here = record { block = at; label = m }

        added : List Step
        added = steps_of step (record { block = at; label = m }) (image at) step.kind

        t : IsDataBlock (length device) at × HasLabel device at m
        t = taken_of device known at m w.goes.table allowed.known

        slots : HasSlots step.kind (image at) (block_of device at)
        slots = subst (λ (d : Kind). HasSlots d (image at) (block_of device at)) allowed.may.kind (slots_on arena device image s k rest step old new w at m is t)

        grows : Grows old.folders.items new.folders.items
        grows = puts_more (record { block = at; label = m }) (image at) depth named step.kind old.folders.items new.folders.items (folders slots)

        behind : 5 < level new.noted → (link : Link) → IsData link.kind → (path : List ℕ) (b : ℕ) → IsRecordsWay arena image link path step → (goes arena image link path).kind ≡ Data 0 → target ((goes arena image link path).slot) ≡ Local b
            → (c i : ℕ) → link ≡ link_at image c i → IsFormed arena image (old.steps.items ++ steps_of step (record { block = at; label = m }) (image at) step.kind) (others ++ new.folders.items) c i path b
        behind quiet link leafy path b v kind leads c i is' =
            let d = data_down arena image v.front link leafy in
            let a = through link path b v kind leads at is d.level (v.kind ∙ d.is) (record { block = at; label = m }) slots (λ e h. leafs e h quiet) v.rest refl in
            ⊎_elim
            (λ (leaf : IsLeaf ((image b).bytes)). inl leaf)
            (λ (x : SomeOf (IsRecordsWay arena image link path) (steps_of step (record { block = at; label = m }) (image at) step.kind)).
            inr (inl (subst (λ (u : Link). SomeOf (IsRecordsWay arena image u path) (old.steps.items ++ steps_of step (record { block = at; label = m }) (image at) step.kind)) is'
            (some_right (IsRecordsWay arena image link path) old.steps.items (steps_of step (record { block = at; label = m }) (image at) step.kind) x))))
            a

        entries_kind : (d : Kind) → HoldsEntries d → (d ≡ Root → ⊥) → d ≡ Dir zero
        entries_kind (Data level) h isnt = absurd h
        entries_kind (Dir zero) h isnt = refl
        entries_kind (Dir (suc level)) h isnt = absurd h
        entries_kind Root h isnt = absurd (isnt refl)

        now : 5 < level new.noted → (c i : ℕ) (l : Label) → c ≡ at → Reached new.labels.known.items c l → HoldsEntries l.kind → i % 2 ≡ 1 → IsRecords ((image c).slot i) → (path : List ℕ) (b : ℕ) → (goes arena image (link_at image c i) path).kind ≡ Data 0
            → target ((goes arena image (link_at image c i) path).slot) ≡ Local b → IsFormed arena image (old.steps.items ++ steps_of step (record { block = at; label = m }) (image at) step.kind) (others ++ new.folders.items) c i path b
        now quiet c i l same r holds odd records path b kind leads =
            let r' : Reached new.labels.known.items at l = subst (λ (x : ℕ). Reached new.labels.known.items x l) same r in
            let mine : m ≡ l = same_label new.labels.known.items at m l (table_kept known new.labels.known.items at w.goes.table.up marks device w.goes.table).up (reached_new known new.labels.known.items at w.goes.table.up marks m allowed.known) r' in
            let entries : HoldsEntries step.kind = subst (λ (d : Kind). HoldsEntries d) (ap (λ (x : Label). x.kind) (sym mine) ∙ allowed.may.kind) holds in
            let dir : step.kind ≡ Dir zero = entries_kind step.kind entries w.others_fit.is.not_root in
            let ends : EndsAt 204 (image at) = (subst (λ (d : Kind). HasSlots d (image at) (block_of device at)) dir slots).1 in
            let half : i ≡ 2 * (i / 2) + 1 = omega (arith, odd) in
            let put : AddsFolders (record { block = at; label = m }) (image at) (min (depth + 1) (2 ^ 32 - 1)) named 102 old.folders.items new.folders.items = subst (λ (d : Kind). Puts (record { block = at; label = m }) (image at) depth named d old.folders.items new.folders.items) dir (folders slots) in
            subst (λ (x : ℕ). IsFormed arena image (old.steps.items ++ steps_of step (record { block = at; label = m }) (image at) step.kind) (others ++ new.folders.items) x i path b) (sym same)
            (subst (λ (x : ℕ). IsFormed arena image (old.steps.items ++ steps_of step (record { block = at; label = m }) (image at) step.kind) (others ++ new.folders.items) at x path b) (sym half)
            (⊎_elim
            (λ (lt : i / 2 < 102). by_first put lt (subst (λ (x : ℕ). IsRecords ((image at).slot x)) half (subst (λ (x : ℕ). IsRecords ((image x).slot i)) same records)) path b dir (is_folder (entry_of ((image at).slot (2 * (i / 2))))) refl)
            (λ (ge : 102 ≤ i / 2). absurd (lost arena image w.holds.empty path (link_at image c i) (λ a e.
            let nil : target ((image c).slot i) ≡ Nil = subst (λ (x : ℕ). target ((image x).slot i) ≡ Nil) (sym same) (ends.each i (omega (arith, ge, odd))) in
            nil_is a (sym nil ∙ e)) b leads))
            (cases_lt (i / 2) 102)))
          where
            nil_is : (a : ℕ) → Nil ≡ Local a → ⊥
            nil_is a e = cc

            by_first : AddsFolders (record { block = at; label = m }) (image at) (min (depth + 1) (2 ^ 32 - 1)) named 102 old.folders.items new.folders.items → i / 2 < 102 → IsRecords ((image at).slot (2 * (i / 2) + 1)) → (path : List ℕ) (b : ℕ) → step.kind ≡ Dir zero
                → (t : Bool) → is_folder (entry_of ((image at).slot (2 * (i / 2)))) ≡ t → IsFormed arena image (old.steps.items ++ steps_of step (record { block = at; label = m }) (image at) step.kind) (others ++ new.folders.items) at (2 * (i / 2) + 1) path b
            by_first put lt records path b dir true folder =
                let x = some_folder (record { block = at; label = m }) (image at) (HasMeta image at (2 * (i / 2) + 1)) (min (depth + 1) (2 ^ 32 - 1)) named 102 put.added put.are (i / 2) lt
                (λ u. in_folder arena image at (record { block = at; label = m }) (i / 2) records folder (min (depth + 1) (2 ^ 32 - 1)) u) in
                inr (inr (some_right (HasMeta image at (2 * (i / 2) + 1)) others new.folders.items (subst (λ (fs : List Folder). SomeOf (HasMeta image at (2 * (i / 2) + 1)) fs) (sym put.behind)
                (some_right (HasMeta image at (2 * (i / 2) + 1)) old.folders.items put.added x))))
            by_first put lt records path b dir false folder =
                let x = some_pair (record { block = at; label = m }) (image at) (IsRecordsWay arena image (link_at image at (2 * (i / 2) + 1)) path) 102 (i / 2) lt
                (in_step arena image at (record { block = at; label = m }) (i / 2) records folder path) in
                inr (inl (some_right (IsRecordsWay arena image (link_at image at (2 * (i / 2) + 1)) path) old.steps.items (steps_of step (record { block = at; label = m }) (image at) step.kind)
                (subst (λ (d : Kind). SomeOf (IsRecordsWay arena image (link_at image at (2 * (i / 2) + 1)) path) (steps_of step (record { block = at; label = m }) (image at) d)) (sym dir) x)))

    pub formed_on : Follows device image depth named step old new → AreFormed arena image k new.labels.known.items new.noted new.steps.items (others ++ new.folders.items)
    formed_on (nowhere nil same) = subst (λ (v : Walk). AreFormed arena image k v.labels.known.items v.noted v.steps.items (others ++ v.folders.items)) (sym same) (after_none (λ a e. let n : Nil ≡ Local a = sym nil ∙ e in cc))
    formed_on (held x is same) = subst (λ (v : Walk). AreFormed arena image k v.labels.known.items v.noted v.steps.items (others ++ v.folders.items)) (sym same)
        (formed_like arena image k old.labels.known.items old.labels.known.items old.noted (lower old.noted 9 step.holder.block) old.steps.items old.steps.items (others ++ old.folders.items) (others ++ old.folders.items) refl (level-lower old.noted 9 step.holder.block (omega arith)).0 refl refl
        (after_none (λ a e. let n : Held x ≡ Local a = sym is ∙ e in cc)))
    formed_on (local at is r) = after_block at is r
