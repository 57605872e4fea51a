-- The sources of entries below one, with a step that was followed.
use Rattle.std.proofs.Common.{◌≡◌, ◌-◌, ◌≢◌, ◌⊎◌, ⊎_elim, inl, inr, ℕ, zero, suc, ◌+◌, ◌*◌, ◌/◌, ◌%◌, ◌^◌, ◌<◌, ◌≤◌, Bool, true, false, List, [], ◌∷◌, ◌++◌, length, length-append, append-nil, append_assoc, Option, None, refl, sym, ap, ◌∙◌, subst, arith}
use Rattle.std.specs.Prelude.{◌&&◌, cond, min}
use Rattle.std.proofs.lemmas.Bool.{cases_eq, cases_lt}
use Rattle.fo_disk.specs.Disk.{Block}
use Rattle.fo_image.specs.declared.types.Kind.{Kind}
use Rattle.fo_image.specs.declared.types.Kind.TheVariants.{Data, Dir, Root}
use Rattle.fo_image.specs.declared.types.Entry.{Entry}
use Rattle.fo_image.specs.declared.types.Super.{Super}
use Rattle.fo_image.specs.declared.types.Score.{Score}
use Rattle.fo_image.specs.declared.types.Pointer.{Pointer}
use Rattle.fo_image.specs.declared.types.Pointer.TheVariants.{Nil, Local, Score as Held}
use Rattle.fo_crash.specs.declared.slot.Slot.{Slot}
use Rattle.fo_crash.specs.declared.slot.Slot.TheVariants.{Entry as Head}
use Rattle.fo_crash.specs.Images.{Content, Image, Arena, Link, target, meant, found, goes, leaf_path, depth_of, kind_below, kind_of_top, from_block, nothing, step as link_below, entry_of as entry_at}
use Rattle.fo_sound.specs.Image.{block_of}
use Rattle.fo_good.specs.Means.{EndsAt, AreEntries}
use Rattle.fo_good.specs.Trees.{IsTree, IsEntries, InTree}
use Rattle.fo_good.specs.Trees.InTree.{top as tree_top, below as tree_below}
use Rattle.fo_good.specs.Sound.{Kept}
use Rattle.fo_check_names.specs.Pairs.{is_folder, records_of}
use Rattle.fo_check_tree.specs.declared.broken.Broken.{Broken}
use Rattle.fo_check_tree.specs.declared.walk.Folder.{Folder}
use Rattle.fo_check_tree.specs.declared.walk.Holder.{Holder}
use Rattle.fo_check_tree.specs.declared.walk.Holds.{Holds}
use Rattle.fo_check_tree.specs.declared.walk.Step.{Step}
use Rattle.fo_check_tree.specs.declared.walk.Walk.{Walk}
use Rattle.fo_check_tree.specs.Depths.{Deepens, IsSourceOf, IsSpread, IsEntriesWay, AreSpread, IsAbove, AreAbove}
use Rattle.fo_check_tree.specs.Depths.IsAbove.{here, below}
use Rattle.fo_check_tree.specs.Dirs.{link_at}
use Rattle.fo_check_tree.specs.Follows.{Puts, Reads, Reaches, Follows}
use Rattle.fo_check_tree.specs.Follows.Reaches.{again, enters}
use Rattle.fo_check_tree.specs.Follows.Follows.{nowhere, held, local}
use Rattle.fo_check_tree.specs.Listing.{SomeOf}
use Rattle.fo_check_tree.specs.Lower.{lower, level}
use Rattle.fo_check_tree.specs.Pairing.{Grows}
use Rattle.fo_check_tree.specs.Slots.{HasSlots, entry_of, top_step, folders_by, pair_folders, AddsFolders, steps_below, steps_of}
use Rattle.fo_check_tree.specs.Walking.{Walking}
use Rattle.fo_check_tree.proofs.Directories.{leaf_kind}
use Rattle.fo_check_tree.proofs.Formatting.{some_slot, some_folder}
use Rattle.fo_check_tree.proofs.Judging.{entries_is, puts_more}
use Rattle.fo_check_tree.proofs.Leaves.{some_left, some_right, some_parts, goes_join, lost, way_long}
use Rattle.fo_check_tree.proofs.Levels.{level-lower}
use Rattle.fo_check_tree.proofs.Alone.{not_once}
use Rattle.fo_check_tree.proofs.Paths.{slot_end, goes_end, found_is}
use Rattle.fo_check_tree.proofs.Stepping.{again_breaks, taken_of, slots_on}

both_true : (a b : Bool) → a ≡ true → b ≡ true → (a && b) ≡ true
both_true a b p q = ap (λ (x : Bool). x && b) p ∙ q

no_items : (xs : List ℕ) → length xs ≡ 0 → xs ≡ []
no_items [] e = refl
no_items (x ∷ xs) e = absurd (omega (arith, e))

head_is : (a b : Entry) → Head a ≡ Head b → a ≡ b
head_is a b e = cc

-- ---- the folders of a leaf

module _ (image : Image) (at deep : ℕ) (here' : Holder) (bytes : Block) (read : AreEntries (image at) bytes) (low : (i : ℕ) → i < 204 → is_folder (entry_of ((image at).slot i)) ≡ true → deep ≤ 64) where
  source_is : (i : ℕ) → i < 204 → IsEntries ((image at).slot i) → (f : Folder) → f.entries ≡ entry_of ((image at).slot i) → f.depth ≡ deep → IsSourceOf deep (link_at image at i) f
  source_is i lt h f entries depth =
      let e = entries_is ((image at).slot i) h in
      let same : f.entries ≡ e.entry = entries ∙ ap entry_of e.slot in
      let folder : is_folder (entry_of ((image at).slot i)) ≡ true = ap (λ (s : Slot). is_folder (entry_of s)) e.slot ∙ both_true e.entry.active e.entry.dir e.active e.flag in
      record {
        slot = e.slot ∙ ap (λ (x : Entry). Head x) (sym same);
        dir = ap (λ (x : Entry). x.dir) same ∙ e.flag;
        kind = ap kind_of_top e.slot ∙ ap (λ (d : Bool). cond d (Dir e.entry.depth) (Data e.entry.depth)) e.flag ∙ ap (λ (x : Entry). Dir x.depth) (sym same);
        depth = depth;
        low = low i lt folder;
      }

  folder_yes : (i : ℕ) → IsEntries ((image at).slot i) → is_folder (entry_of ((image at).slot i)) ≡ true
  folder_yes i h = let e = entries_is ((image at).slot i) h in ap (λ (s : Slot). is_folder (entry_of s)) e.slot ∙ both_true e.entry.active e.entry.dir e.active e.flag

  one_folder : (i : ℕ) → i < 204 → IsEntries ((image at).slot i) → (records : Option Entry) (t : Bool) → SomeOf (IsSourceOf deep (link_at image at i)) (folders_by here' (entry_of ((image at).slot i)) records deep t)
  one_folder i lt h records t =
      let f : Folder = record { entries = entry_of ((image at).slot i); records = records; holder = here'; depth = deep; named = t } in
      subst (λ (b : Bool). SomeOf (IsSourceOf deep (link_at image at i)) (cond b (f ∷ []) [])) (sym (folder_yes i h)) (inl (source_is i lt h f refl refl))

  at_pair : (p i : ℕ) → p < 102 → (i ≡ 2 * p) ⊎ (i ≡ 2 * p + 1) → IsEntries ((image at).slot i) → (t : Bool) → SomeOf (IsSourceOf deep (link_at image at i)) (pair_folders here' (entry_of ((image at).slot (2 * p))) (entry_of ((image at).slot (2 * p + 1))) deep t)
  at_pair p i lt which h t = ⊎_elim
      (λ (first : i ≡ 2 * p). subst (λ (j : ℕ). SomeOf (IsSourceOf deep (link_at image at j)) (pair_folders here' (entry_of ((image at).slot (2 * p))) (entry_of ((image at).slot (2 * p + 1))) deep t)) (sym first)
      (some_left (IsSourceOf deep (link_at image at (2 * p))) (folders_by here' (entry_of ((image at).slot (2 * p))) (records_of (entry_of ((image at).slot (2 * p))) (entry_of ((image at).slot (2 * p + 1)))) deep t) (folders_by here' (entry_of ((image at).slot (2 * p + 1))) None deep false)
      (one_folder (2 * p) (omega (arith, lt)) (subst (λ (j : ℕ). IsEntries ((image at).slot j)) first h) (records_of (entry_of ((image at).slot (2 * p))) (entry_of ((image at).slot (2 * p + 1)))) t)))
      (λ (second : i ≡ 2 * p + 1). subst (λ (j : ℕ). SomeOf (IsSourceOf deep (link_at image at j)) (pair_folders here' (entry_of ((image at).slot (2 * p))) (entry_of ((image at).slot (2 * p + 1))) deep t)) (sym second)
      (some_right (IsSourceOf deep (link_at image at (2 * p + 1))) (folders_by here' (entry_of ((image at).slot (2 * p))) (records_of (entry_of ((image at).slot (2 * p))) (entry_of ((image at).slot (2 * p + 1)))) deep t) (folders_by here' (entry_of ((image at).slot (2 * p + 1))) None deep false)
      (one_folder (2 * p + 1) (omega (arith, lt)) (subst (λ (j : ℕ). IsEntries ((image at).slot j)) second h) None false)))
      which

  which_of : (i : ℕ) → (i ≡ 2 * (i / 2)) ⊎ (i ≡ 2 * (i / 2) + 1)
  which_of i = ⊎_elim (λ (even : i % 2 ≡ 0). inl (omega (arith, even))) (λ (odd : i % 2 ≢ 0). inr (omega (arith, odd))) (cases_eq (i % 2) 0)

  spread_leaf : (named : Bool) (old new : List Folder) → AddsFolders here' (image at) deep named 102 old new → IsSpread image at deep new
  spread_leaf named old new put = record {
    each = λ i lt h.
        subst (λ (fs : List Folder). SomeOf (IsSourceOf deep (link_at image at i)) fs) (sym put.behind)
        (some_right (IsSourceOf deep (link_at image at i)) old put.added
        (some_folder here' (image at) (IsSourceOf deep (link_at image at i)) deep named 102 put.added put.are (i / 2) (omega (arith, lt)) (λ t. at_pair (i / 2) i (omega (arith, lt)) (which_of i) h t)));
  }

spread_more : (image : Image) (at deep : ℕ) (old new : List Folder) → Grows old new → IsSpread image at deep old → IsSpread image at deep new
spread_more image at deep old new g s = record { each = λ i lt h. subst (λ (fs : List Folder). SomeOf (IsSourceOf deep (link_at image at i)) fs) (sym g.is) (some_left (IsSourceOf deep (link_at image at i)) old g.added (s.each i lt h)) }

-- ---- a step that was followed

module _ (arena : Arena) (device : List Block) (image : Image) (s : Super) (k : Kept) (rest : List Step) (step : Step) (old new : Walk) (w : Walking arena device image s k (step ∷ rest) old) where
  local_is : (a b : ℕ) → Local a ≡ Local b → a ≡ b
  local_is a b e = cc

  not_nil : (a : ℕ) → Nil ≡ Local a → ⊥
  not_nil a e = cc

  not_held : {x : Score} → (a : ℕ) → Held x ≡ Local a → ⊥
  not_held a e = cc

  dir_is : (a b : ℕ) → Dir a ≡ Dir b → a ≡ b
  dir_is a b e = cc

  module _ (link : Link) (path : List ℕ) (b : ℕ) (v : IsEntriesWay arena image link path step) (long : length path ≡ depth_of link.slot) (leads : target ((goes arena image link path).slot) ≡ Local b) where
    rest_long : length v.rest ≡ v.level
    rest_long = let e : length path ≡ length v.front + length v.rest = ap (λ (p : List ℕ). length p) v.is ∙ length-append v.front v.rest in omega (arith, e, long, v.depth)

    leads_on : target ((goes arena image (goes arena image link v.front) v.rest).slot) ≡ Local b
    leads_on = ap (λ (u : Link). target u.slot) (sym (goes_join arena image w.holds.empty v.front v.rest link)) ∙ ap (λ (p : List ℕ). target ((goes arena image link p).slot)) (sym v.is) ∙ leads

    off_way : ((a : ℕ) → step.pointer ≢ Local a) → ⊥
    off_way isnt = lost arena image w.holds.empty v.rest (goes arena image link v.front) (λ a e. isnt a (v.pointer ∙ e)) b leads_on

    module _ (at : ℕ) (is : step.pointer ≡ Local at) where
      leads_here : target ((goes arena image link v.front).slot) ≡ Local at
      leads_here = sym v.pointer ∙ is

      top : (j : ℕ) → target ((goes arena image link (v.front ++ j ∷ [])).slot) ≡ target ((image at).slot j)
      top j = ap target (slot_end arena image v.front link j at leads_here)

      longer : (j : ℕ) (more' : List ℕ) → v.rest ≡ j ∷ more' → path ≡ (v.front ++ j ∷ []) ++ more'
      longer j more' e = v.is ∙ ap (λ (r : List ℕ). v.front ++ r) e ∙ sym (append_assoc v.front (j ∷ []) more')

      off_slot : (j : ℕ) (more' : List ℕ) → v.rest ≡ j ∷ more' → ((a : ℕ) → target ((image at).slot j) ≢ Local a) → ⊥
      off_slot j more' e isnt = lost arena image w.holds.empty more' (goes arena image link (v.front ++ j ∷ [])) (λ a h. isnt a (sym (top j) ∙ h)) b
          (ap (λ (u : Link). target u.slot) (sym (goes_join arena image w.holds.empty (v.front ++ j ∷ []) more' link)) ∙ ap (λ (p : List ℕ). target ((goes arena image link p).slot)) (sym (longer j more' e)) ∙ leads)

      ends_here : v.level ≡ 0 → b ≡ at
      ends_here e =
          let none' : v.rest ≡ [] = no_items v.rest (omega (arith, e, rest_long)) in
          local_is b at (sym leads ∙ ap (λ (p : List ℕ). target ((goes arena image link p).slot)) (v.is ∙ ap (λ (r : List ℕ). v.front ++ r) none' ∙ append-nil v.front) ∙ leads_here)

      front_long : (j : ℕ) → length (v.front ++ j ∷ []) ≡ length v.front + 1
      front_long j = length-append v.front (j ∷ [])

      by_slot : (level' : ℕ) → v.level ≡ suc level' → (here' : Holder) → EndsAt 409 (image at) → (j : ℕ) (more' : List ℕ) → v.rest ≡ j ∷ more' → (p : Pointer) → target ((image at).slot j) ≡ p → SomeOf (IsEntriesWay arena image link path) (steps_below step (Dir level') here' (image at) 409)
      by_slot level' is' here' ends j more' e Nil h = absurd (off_slot j more' e (λ a x. not_nil a (sym h ∙ x)))
      by_slot level' is' here' ends j more' e (Held y) h = absurd (off_slot j more' e (λ a x. not_held a (sym h ∙ x)))
      by_slot level' is' here' ends j more' e (Local a) h = ⊎_elim
          (λ (lt : j < 409). some_slot (IsEntriesWay arena image link path) step (Dir level') here' (image at) 409 j a lt h
          (record { front = v.front ++ j ∷ []; rest = more'; level = level'; is = longer j more' e; pointer = sym (top j ∙ h); kind = refl; depth = omega (arith, front_long j, v.depth, is') }))
          (λ (ge : 409 ≤ j). absurd (not_nil a (sym (ends.each j ge) ∙ h)))
          (cases_lt j 409)

      through : (level' : ℕ) → v.level ≡ suc level' → (here' : Holder) → EndsAt 409 (image at) → (r : List ℕ) → v.rest ≡ r → SomeOf (IsEntriesWay arena image link path) (steps_below step (Dir level') here' (image at) 409)
      through level' is' here' ends [] e = let none' : length v.rest ≡ 0 = ap (λ (r : List ℕ). length r) e in absurd (omega (arith, none', rest_long, is'))
      through level' is' here' ends (j ∷ more') e = by_slot level' is' here' ends j more' e (target ((image at).slot j)) refl

  module _ (link : Link) (deep : ℕ) (a : AreSpread arena image k link deep old.noted (old.steps.items ++ step ∷ []) old.folders.items) (depth : ℕ) (named : Bool) (deep_is : deep ≡ min (depth + 1) (2 ^ 32 - 1)) (low : level new.noted ≤ level old.noted) where
    parts : (path : List ℕ) → SomeOf (IsEntriesWay arena image link path) (old.steps.items ++ step ∷ []) → SomeOf (IsEntriesWay arena image link path) old.steps.items ⊎ IsEntriesWay arena image link path step
    parts path x = ⊎_elim (λ (l : SomeOf (IsEntriesWay arena image link path) old.steps.items). inl l) (λ (r : SomeOf (IsEntriesWay arena image link path) (step ∷ [])). ⊎_elim (λ (v : IsEntriesWay arena image link path step). inr v) (λ (no' : ⊥). absurd no') r)
        (some_parts (IsEntriesWay arena image link path) old.steps.items (step ∷ []) x)

    -- what is said once the step was taken, by what is behind it
    spread_by : (noted : Option Broken) (steps added : List Step) (folders : List Folder) → level noted ≤ level old.noted → steps ≡ old.steps.items ++ added → Grows old.folders.items folders
        → (8 < level noted → IsTree arena image k.at → (path : List ℕ) (b : ℕ) → length path ≡ depth_of link.slot → target ((goes arena image link path).slot) ≡ Local b → IsEntriesWay arena image link path step → SomeOf (IsEntriesWay arena image link path) added ⊎ IsSpread image b deep folders)
        → AreSpread arena image k link deep noted steps folders
    spread_by noted steps added folders low' is g behind = record {
      whole = λ quiet tree path b long leads. ⊎_elim
          (λ (x : SomeOf (IsEntriesWay arena image link path) (old.steps.items ++ step ∷ [])). ⊎_elim
          (λ (l : SomeOf (IsEntriesWay arena image link path) old.steps.items). inl (subst (λ (xs : List Step). SomeOf (IsEntriesWay arena image link path) xs) (sym is) (some_left (IsEntriesWay arena image link path) old.steps.items added l)))
          (λ (v : IsEntriesWay arena image link path step). ⊎_elim
          (λ (r : SomeOf (IsEntriesWay arena image link path) added). inl (subst (λ (xs : List Step). SomeOf (IsEntriesWay arena image link path) xs) (sym is) (some_right (IsEntriesWay arena image link path) old.steps.items added r)))
          (λ (d : IsSpread image b deep folders). inr d)
          (behind quiet tree path b long leads v))
          (parts path x))
          (λ (d : IsSpread image b deep old.folders.items). inr (spread_more image b deep old.folders.items folders g d))
          (a.whole (omega (arith, quiet, low')) tree path b long leads);
    }

    none_added : Grows old.folders.items old.folders.items
    none_added = record { added = []; is = sym (append-nil old.folders.items) }

    after_block : (at : ℕ) → step.pointer ≡ Local at → Reaches device image depth named step at old new → AreSpread arena image k link deep new.noted new.steps.items new.folders.items
    after_block at is (again m allowed marks same same' noted kept) = spread_by new.noted new.steps.items [] new.folders.items low (same ∙ sym (append-nil old.steps.items)) (record { added = []; is = same' ∙ sym (append-nil old.folders.items) })
        (λ quiet tree path b long leads v. absurd (not_once arena image k at (again_breaks arena device image s k rest step old new w at m is marks.none allowed.known) tree))
    after_block at is (enters m allowed marks steps folders notes read adds leafs seeks bytes deeps clean asks eights heads) = spread_by new.noted new.steps.items (steps_of step here' (image at) step.kind) new.folders.items low (steps slots) grown
        (λ quiet tree path b long leads v. by quiet path b long leads v v.level refl)
      where
        here' : Holder
        here' = record { block = at; label = m }

        slots : HasSlots step.kind (image at) (block_of device at)
        slots = let t = taken_of device old.labels.known.items at m w.goes.table allowed.known in subst (λ (d : Kind). HasSlots d (image at) (block_of device at)) allowed.may.kind (slots_on arena device image s k rest step old new w at m is t)

        grown : Grows old.folders.items new.folders.items
        grown = puts_more here' (image at) depth named step.kind old.folders.items new.folders.items (folders slots)

        leaf_at : 8 < level new.noted → step.kind ≡ Dir zero → IsSpread image at deep new.folders.items
        leaf_at quiet kind =
            let read' : AreEntries (image at) (block_of device at) = subst (λ (x : Kind). Reads x (image at) (block_of device at) new.noted) kind read (λ e. let no' : Dir zero ≡ Root = e in cc) (subst (λ (x : Kind). HasSlots x (image at) (block_of device at)) kind slots) (w.holds.bytes at) (omega (arith, quiet)) in
            let deeps' : 8 < level new.noted → (i : ℕ) → i < 204 → is_folder (entry_of ((image at).slot i)) ≡ true → deep ≤ 64 = subst (λ (n : ℕ). Deepens (image at) n (Dir zero) new.noted) (sym deep_is) (subst (λ (x : Kind). Deepens (image at) (min (depth + 1) (2 ^ 32 - 1)) x new.noted) kind (deeps slots)) in
            let put : AddsFolders here' (image at) deep named 102 old.folders.items new.folders.items = subst (λ (n : ℕ). AddsFolders here' (image at) n named 102 old.folders.items new.folders.items) (sym deep_is) (subst (λ (d : Kind). Puts here' (image at) depth named d old.folders.items new.folders.items) kind (folders slots)) in
            spread_leaf image at deep here' (block_of device at) read' (deeps' quiet) named old.folders.items new.folders.items put

        by : 8 < level new.noted → (path : List ℕ) (b : ℕ) → length path ≡ depth_of link.slot → target ((goes arena image link path).slot) ≡ Local b → (v : IsEntriesWay arena image link path step) → (level' : ℕ) → v.level ≡ level'
            → SomeOf (IsEntriesWay arena image link path) (steps_of step here' (image at) step.kind) ⊎ IsSpread image b deep new.folders.items
        by quiet path b long leads v zero e = inr (subst (λ (n : ℕ). IsSpread image n deep new.folders.items) (sym (ends_here link path b v long leads at is e)) (leaf_at quiet (v.kind ∙ ap (λ (n : ℕ). Dir n) e)))
        by quiet path b long leads v (suc level') e =
            let kind : step.kind ≡ Dir (suc level') = v.kind ∙ ap (λ (n : ℕ). Dir n) e in
            let inner : HasSlots (Dir (suc level')) (image at) (block_of device at) = subst (λ (d : Kind). HasSlots d (image at) (block_of device at)) kind slots in
            inl (subst (λ (d : Kind). SomeOf (IsEntriesWay arena image link path) (steps_of step here' (image at) d)) (sym kind) (through link path b v long leads at is level' e here' inner.1 v.rest refl))

    pub spread_on : Follows device image depth named step old new → AreSpread arena image k link deep new.noted new.steps.items new.folders.items
    spread_on (nowhere nil same) = subst (λ (v : Walk). AreSpread arena image k link deep v.noted v.steps.items v.folders.items) (sym same)
        (spread_by old.noted old.steps.items [] old.folders.items (omega arith) (sym (append-nil old.steps.items)) none_added (λ quiet tree path b long leads v. absurd (off_way link path b v long leads (λ a' e. not_nil a' (sym nil ∙ e)))))
    spread_on (held x is same) = subst (λ (v : Walk). AreSpread arena image k link deep v.noted v.steps.items v.folders.items) (sym same)
        (spread_by (lower old.noted 9 step.holder.block) old.steps.items [] old.folders.items (level-lower old.noted 9 step.holder.block (omega arith)).0 (sym (append-nil old.steps.items)) none_added (λ quiet tree path b long leads v. absurd (off_way link path b v long leads (λ a' e. not_held a' (sym is ∙ e)))))
    spread_on (local at is r) = after_block at is r

-- ---- one source

pub spread_first : (arena : Arena) (image : Image) (k : Kept) (deep deep' : ℕ) (w : Link) (f : Folder) → IsSourceOf deep w f → (holds : Holds) (noted : Option Broken) (folders : List Folder) → AreSpread arena image k w deep' noted (top_step f.entries holds f.holder ∷ []) folders
spread_first arena image k deep deep' w f h holds noted folders = record {
  whole = λ quiet tree path at long leads. inl (inl (record {
    front = [];
    rest = path;
    level = f.entries.depth;
    is = refl;
    pointer = sym (ap target h.slot);
    kind = ap (λ (d : Bool). cond d (Dir f.entries.depth) (Data f.entries.depth)) h.dir;
    depth = let e : depth_of w.slot ≡ f.entries.depth = ap depth_of h.slot in omega (arith, e);
  }));
}

module _ (arena : Arena) (image : Image) (empty : (kind : Kind) (score : Score) → arena kind score ≡ nothing) (k : Kept) where
  -- the leaf of an entry that names entries
  in_block : (w : Link) (i : ℕ) → IsEntries ((found arena image w).slot i) → (at : ℕ) × (target w.slot ≡ Local at)
  in_block w i h = by (target w.slot) refl
    where
      by : (p : Pointer) → target w.slot ≡ p → (at : ℕ) × (target w.slot ≡ Local at)
      by Nil e = absurd (subst (λ (p : Pointer). IsEntries ((meant arena image w.kind p).slot i)) e h)
      by (Held x) e = absurd (subst (λ (c : Content). IsEntries (c.slot i)) (empty w.kind x) (subst (λ (p : Pointer). IsEntries ((meant arena image w.kind p).slot i)) e h))
      by (Local a) e = (a, e)

  pub spread_whole : (w : Link) (deep : ℕ) (noted : Option Broken) (folders : List Folder) → w.kind ≡ Dir (depth_of w.slot) → AreSpread arena image k w deep noted [] folders → 8 < level noted → IsTree arena image k.at → (j : ℕ) → IsEntries (entry_at arena image w j).slot → SomeOf (IsSourceOf deep (entry_at arena image w j)) folders
  spread_whole w deep noted folders kind a quiet tree j h =
      let path : List ℕ = leaf_path w.slot (j / 204) in
      let end : entry_at arena image w j ≡ link_below arena image (goes arena image w path) (j % 204) = goes_end arena image path w (j % 204) in
      let h' : IsEntries ((found arena image (goes arena image w path)).slot (j % 204)) = subst (λ (u : Link). IsEntries u.slot) end h in
      let b = in_block (goes arena image w path) (j % 204) h' in
      let here' : entry_at arena image w j ≡ link_at image b.0 (j % 204) =
      end
      ∙ ap (λ (d : Kind). record { kind = kind_below d ((found arena image (goes arena image w path)).slot (j % 204)); slot = (found arena image (goes arena image w path)).slot (j % 204) }) (leaf_kind arena image empty (j / 204) w kind)
      ∙ ap (λ (c : Content). record { kind = kind_of_top (c.slot (j % 204)); slot = c.slot (j % 204) }) (found_is arena image (goes arena image w path) b.0 b.1) in
      let long : length path ≡ depth_of w.slot = let e : length path ≡ depth_of w.slot + 0 = way_long (depth_of w.slot) (j / 204) [] in omega (arith, e) in
      let spread : IsSpread image b.0 deep folders = ⊎_elim (λ (no' : ⊥). absurd no') (λ (d : IsSpread image b.0 deep folders). d) (a.whole quiet tree path b.0 long b.1) in
      subst (λ (u : Link). SomeOf (IsSourceOf deep u) folders) (sym here') (spread.each (j % 204) (omega arith) (subst (λ (u : Link). IsEntries u.slot) here' h))

-- ---- all sources

module _ (arena : Arena) (image : Image) (k : Kept) where
  none_above : (deep : ℕ) (w : Link) → IsAbove arena image [] deep w → ⊥
  none_above deep w (here d v h) = h
  none_above deep w (below d v j l h) = none_above d v l

  pub tree_depths : (noted : Option Broken) → AreAbove arena image k noted [] → 8 < level noted → IsTree arena image k.at → (deep : ℕ) (w : Link) → InTree arena image k.at deep w → deep ≤ 64
  tree_depths noted a quiet tree deep w t = ⊎_elim (λ (l : IsAbove arena image [] deep w). absurd (none_above deep w l)) (λ (low : deep ≤ 64). low) (a.each quiet tree deep w t)

  pub above_like : (old new : Option Broken) (folders folders' : List Folder) → level new ≤ level old → folders' ≡ folders → AreAbove arena image k old folders → AreAbove arena image k new folders'
  above_like old new folders folders' low is a = subst (λ (fs : List Folder). AreAbove arena image k new fs) (sym is) (record { each = λ quiet tree deep w t. a.each (omega (arith, quiet, low)) tree deep w t })

  -- The root's folder is left.
  pub above_first : (noted : Option Broken) (folders : List Folder) → (8 < level noted → SomeOf (IsSourceOf 0 (link_below arena image (from_block k.at) 0)) folders) → AreAbove arena image k noted folders
  above_first noted folders h = record { each = λ quiet tree deep w t. inl (go quiet deep w t) }
    where
      go : 8 < level noted → (deep : ℕ) (w : Link) → InTree arena image k.at deep w → IsAbove arena image folders deep w
      go quiet deep w tree_top = here 0 (link_below arena image (from_block k.at) 0) (h quiet)
      go quiet deep w (tree_below d v j t e) = below d v j (go quiet d v t) e

  still_above : (rest folders : List Folder) (f : Folder) → Grows rest folders → ((deep : ℕ) (w : Link) → IsSourceOf deep w f → (j : ℕ) → IsEntries (entry_at arena image w j).slot → SomeOf (IsSourceOf (suc deep) (entry_at arena image w j)) folders)
      → (deep : ℕ) (w : Link) → IsAbove arena image (rest ++ f ∷ []) deep w → IsAbove arena image folders deep w ⊎ IsSourceOf deep w f
  still_above rest folders f g now deep w (here d v h) = ⊎_elim
      (λ (a : SomeOf (IsSourceOf d v) rest). inl (here d v (subst (λ (fs : List Folder). SomeOf (IsSourceOf d v) fs) (sym g.is) (some_left (IsSourceOf d v) rest g.added a))))
      (λ (b : SomeOf (IsSourceOf d v) (f ∷ [])). ⊎_elim (λ (x : IsSourceOf d v f). inr x) (λ (no' : ⊥). absurd no') b)
      (some_parts (IsSourceOf d v) rest (f ∷ []) h)
  still_above rest folders f g now deep w (below d v j l e) = ⊎_elim
      (λ (a : IsAbove arena image folders d v). inl (below d v j a e))
      (λ (x : IsSourceOf d v f). inl (here (suc d) (entry_at arena image v j) (now d v x j e)))
      (still_above rest folders f g now d v l)

  -- A folder was walked.
  pub above_on : (old new : Option Broken) (rest folders all : List Folder) (f : Folder) → all ≡ rest ++ f ∷ [] → Grows rest folders → level new ≤ level old
      → ((deep : ℕ) (w : Link) → IsSourceOf deep w f → 8 < level new → IsTree arena image k.at → (j : ℕ) → IsEntries (entry_at arena image w j).slot → SomeOf (IsSourceOf (suc deep) (entry_at arena image w j)) folders)
      → AreAbove arena image k old all → AreAbove arena image k new folders
  above_on old new rest folders all f is g low now a = record {
    each = λ quiet tree deep w t. ⊎_elim
        (λ (l : IsAbove arena image all deep w). ⊎_elim
        (λ (x : IsAbove arena image folders deep w). inl x)
        (λ (h : IsSourceOf deep w f). inr h.low)
        (still_above rest folders f g (λ d v h j e. now d v h quiet tree j e) deep w (subst (λ (fs : List Folder). IsAbove arena image fs deep w) is l)))
        (λ (x : deep ≤ 64). inr x)
        (a.each (omega (arith, quiet, low)) tree deep w t);
  }
