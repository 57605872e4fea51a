-- The pairs of a directory, with one step more through its entries.
use Rattle.std.proofs.Common.{◌≡◌, ◌⊎◌, ⊎_elim, inl, inr, ℕ, zero, suc, ◌+◌, ◌*◌, ◌/◌, ◌%◌, ◌^◌, ◌<◌, ◌≤◌, Bool, true, false, not, List, [], ◌∷◌, ◌++◌, length, length-append, append-nil, append_assoc, get_or, Option, refl, sym, ap, ◌∙◌, subst, arith}
use Rattle.std.specs.Prelude.{◌&&◌, cond}
use Rattle.std.proofs.Math.Nat.{pow-succ'}
use Rattle.std.specs.List.{AllByRecursion}
use Rattle.std.proofs.lemmas.Bool.{false≢true}
use Rattle.fo_disk.specs.Disk.{Block}
use Rattle.fo_image.specs.declared.types.Kind.{Kind}
use Rattle.fo_image.specs.declared.types.Kind.TheVariants.{Data, Dir, Root}
use Rattle.fo_image.specs.declared.types.Entry.{Entry}
use Rattle.fo_image.specs.declared.types.Label.{Label}
use Rattle.fo_image.specs.declared.types.Super.{Super}
use Rattle.fo_image.specs.declared.types.Score.{Score}
use Rattle.fo_image.specs.declared.types.Pointer.{Pointer}
use Rattle.fo_image.specs.declared.types.Pointer.TheVariants.{Nil, Local, Score as Held}
use Rattle.fo_image.specs.declared.record.Record.{Record}
use Rattle.fo_crash.specs.declared.slot.Slot.{Slot}
use Rattle.fo_crash.specs.declared.slot.Slot.TheVariants.{Entry as Head}
use Rattle.fo_crash.specs.Images.{Content, Image, Arena, Link, target, found, goes, way, leaf_path, depth_of, kind_below, kind_of_top, nothing, entry_of as entry_at}
use Rattle.fo_world.specs.Step.{is_dir_mode}
use Rattle.fo_sound.specs.Image.{block_of, IsDataBlock, HasLabel}
use Rattle.fo_good.specs.Means.{HasEntry, AreEntries}
use Rattle.fo_good.specs.Trees.{IsFirst, IsSecond}
use Rattle.fo_good.specs.Sound.{Kept}
use Rattle.fo_check_names.specs.Finds.{Misses}
use Rattle.fo_check_names.specs.Pairs.{is_folder, is_source}
use Rattle.fo_check_names.specs.declared.names.Named.{Named}
use Rattle.fo_check_tree.specs.declared.broken.Broken.{Broken}
use Rattle.fo_check_tree.specs.declared.walk.Folder.{Folder}
use Rattle.fo_check_tree.specs.declared.walk.Holder.{Holder}
use Rattle.fo_check_tree.specs.declared.walk.Holds.{Holds}
use Rattle.fo_check_tree.specs.declared.walk.Holds.TheVariants.{Bytes, Records}
use Rattle.fo_check_tree.specs.declared.walk.Step.{Step}
use Rattle.fo_check_tree.specs.declared.walk.Walk.{Walk}
use Rattle.fo_check_tree.specs.Dirs.{link_at}
use Rattle.fo_check_tree.specs.Follows.{Puts, Reads, Reaches, Follows}
use Rattle.fo_check_tree.specs.Follows.Reaches.{again, enters}
use Rattle.fo_check_tree.specs.Follows.Follows.{nowhere, held, local}
use Rattle.fo_check_tree.specs.Listing.{SomeOf, AddsNamed, Adds}
use Rattle.fo_check_tree.specs.Listing.AddsNamed.{none as added_none, some as added_some}
use Rattle.fo_check_tree.specs.Lower.{lower, level}
use Rattle.fo_check_tree.specs.Pairing.{SameRecords, IsMissedBy, MissesBy, IsOfPair, pair_number, HasPairHere, Searches, Seeks, IsHeadOf, IsInEntries, IsQuiet, IsEntriesStep, IsFound, AreSought, IsLedHere, IsLedBy, Grows}
use Rattle.fo_check_tree.specs.Slots.{HasSlots, index_below, step_below, steps_by, steps_below, steps_of, steps_by_pairs, pair_steps, first_steps, second_steps, top_step, entry_of}
use Rattle.fo_check_tree.specs.Walking.{Walking}
use Rattle.fo_check_tree.proofs.Directories.{leaf_kind}
use Rattle.fo_check_tree.proofs.Judging.{holds_active, puts_more}
use Rattle.fo_check_tree.proofs.Leaves.{all_join, all_front, all_back, all_by, some_left}
use Rattle.fo_check_tree.proofs.Levels.{level-lower}
use Rattle.fo_check_tree.proofs.Paths.{goes_end, slot_end, found_is}
use Rattle.fo_check_tree.proofs.Searching.{same_refl, same_then}
use Rattle.fo_check_tree.proofs.Slots.{none_below, one_below, no_pairs, one_pair}
use Rattle.fo_check_tree.proofs.Stepping.{taken_of, slots_on}

pub pow_small : (n : ℕ) → n ≤ 4 → 409 ^ n ≤ 27982932961
pow_small zero le = omega arith
pow_small (suc zero) le = omega arith
pow_small (suc (suc zero)) le = omega arith
pow_small (suc (suc (suc zero))) le = omega arith
pow_small (suc (suc (suc (suc zero)))) le = omega arith
pow_small (suc (suc (suc (suc (suc n))))) le = absurd (omega (arith, le))

dir_level : {a b : ℕ} → Dir a ≡ Dir b → a ≡ b
dir_level e = cc

data_level : {a b : ℕ} → Data a ≡ Data b → a ≡ b
data_level e = cc

dir_data : {a b : ℕ} → Dir a ≡ Data b → ⊥
dir_data e = cc

some_by : {X : Type 0} (P Q : X → Type 0) → ((x : X) → P x → Q x) → (xs : List X) → SomeOf P xs → SomeOf Q xs
some_by P Q f [] h = absurd h
some_by P Q f (x ∷ xs) h = ⊎_elim (λ (a : P x). inl (f x a)) (λ (b : SomeOf P xs). inr (some_by P Q f xs b)) h

pub same_missed : (row count : ℕ) (old new : List Named) → Misses row count old new → SameRecords old new
same_missed row count old new m = record { long = m.long; each = λ i d lt. (m.same i d lt).0; leaves = λ i d lt. (m.same i d lt).1 }

pub grows_none : (folders : List Folder) → Grows folders folders
grows_none folders = record { added = []; is = sym (append-nil folders) }

pub grows_then : (a b c : List Folder) → Grows a b → Grows b c → Grows a c
grows_then a b c v w = record { added = v.added ++ w.added; is = w.is ∙ ap (λ (fs : List Folder). fs ++ w.added) v.is ∙ append_assoc a v.added w.added }

pub grows_like : (a b c : List Folder) → c ≡ b → Grows a b → Grows a c
grows_like a b c is w = record { added = w.added; is = is ∙ w.is }

-- ---- steps of which nothing is listed

quiet_by : (step : Step) (level : ℕ) (here : Holder) (i : ℕ) (p : Pointer) → (step.holds ≡ Bytes) ⊎ (step.size ≡ 0) → AllByRecursion IsQuiet (steps_by step (Data level) here i p)
quiet_by step level here i Nil q = tt
quiet_by step level here i (Local a) q = (record { level = level; kind = refl; quiet = q }, tt)
quiet_by step level here i (Held x) q = (record { level = level; kind = refl; quiet = q }, tt)

quiet_below : (step : Step) (level : ℕ) (here : Holder) (c : Content) → (step.holds ≡ Bytes) ⊎ (step.size ≡ 0) → (n : ℕ) → AllByRecursion IsQuiet (steps_below step (Data level) here c n)
quiet_below step level here c q zero = subst (λ (s : List Step). AllByRecursion IsQuiet s) (sym (none_below step (Data level) here c)) tt
quiet_below step level here c q (suc n) = subst (λ (s : List Step). AllByRecursion IsQuiet s) (sym (one_below step (Data level) here c n))
    (all_join IsQuiet (steps_below step (Data level) here c n) (steps_by step (Data level) here n (target (c.slot n))) (quiet_below step level here c q n) (quiet_by step level here n (target (c.slot n)) q))

source_file : (a b : Bool) → (a && not b) ≡ true → b ≡ false
source_file true true e = absurd (false≢true e)
source_file true false e = refl
source_file false b e = absurd (false≢true e)

front_true : (a b : Bool) → (a && b) ≡ true → a ≡ true
front_true true b e = refl
front_true false b e = absurd (false≢true e)

quiet_cond : (t : Bool) (step : Step) → (t ≡ true → IsQuiet step) → AllByRecursion IsQuiet (cond t (step ∷ []) [])
quiet_cond true step f = (f refl, tt)
quiet_cond false step f = tt

quiet_first : (here : Holder) (e : Entry) → AllByRecursion IsQuiet (first_steps here e)
quiet_first here e = quiet_cond (is_source e) (top_step e Bytes here) (λ yes. record { level = e.depth; kind = ap (λ (d : Bool). cond d (Dir e.depth) (Data e.depth)) (source_file e.active e.dir yes); quiet = inl refl })

quiet_second : (here : Holder) (together : Bool) (e : Entry) → AllByRecursion IsQuiet (second_steps here together e)
quiet_second here together e = quiet_cond (is_source e && not together) (record (top_step e Records here) { size = 0 })
    (λ yes. record { level = e.depth; kind = ap (λ (d : Bool). cond d (Dir e.depth) (Data e.depth)) (source_file e.active e.dir (front_true (is_source e) (not together) yes)); quiet = inr refl })

pub quiet_pairs : (here : Holder) (c : Content) (n : ℕ) → AllByRecursion IsQuiet (steps_by_pairs here c n)
quiet_pairs here c zero = subst (λ (s : List Step). AllByRecursion IsQuiet s) (sym (no_pairs here c)) tt
quiet_pairs here c (suc k) = subst (λ (s : List Step). AllByRecursion IsQuiet s) (sym (one_pair here c k))
    (all_join IsQuiet (steps_by_pairs here c k) (pair_steps here (entry_of (c.slot (2 * k))) (entry_of (c.slot (2 * k + 1)))) (quiet_pairs here c k)
    (all_join IsQuiet (first_steps here (entry_of (c.slot (2 * k)))) (second_steps here (is_folder (entry_of (c.slot (2 * k)))) (entry_of (c.slot (2 * k + 1)))) (quiet_first here (entry_of (c.slot (2 * k)))) (quiet_second here (is_folder (entry_of (c.slot (2 * k)))) (entry_of (c.slot (2 * k + 1))))))

-- ---- one source of entries

module _ (arena : Arena) (image : Image) (entries : Link) where
  all_quiet : (steps : List Step) → AllByRecursion IsQuiet steps → AllByRecursion (IsEntriesStep arena image entries) steps
  all_quiet steps a = all_by IsQuiet (IsEntriesStep arena image entries) (λ x q. inr q) steps a

  found_more : (folders added : List Folder) (r : Record) → IsFound arena image entries folders r → IsFound arena image entries (folders ++ added) r
  found_more folders added r h = record {
    first = h.first;
    second = h.second;
    folder = λ dir. some_left (IsHeadOf (entry_at arena image entries (2 * r.slot)) (entry_at arena image entries (2 * r.slot + 1))) folders added (h.folder dir);
  }

  -- ---- a block of pointers

  module _ (step : Step) (level below : ℕ) (here : Holder) (s : IsInEntries arena image entries step) (inner : step.kind ≡ Dir (suc level)) (leads : target ((goes arena image entries s.path).slot) ≡ Local below) (shallow : depth_of entries.slot ≤ 4) where
    pub level_is : s.level ≡ suc level
    level_is = dir_level (sym s.kind ∙ inner)

    pub long_is : (i : ℕ) → length (s.path ++ i ∷ []) ≡ suc (length s.path)
    long_is i = let e : length (s.path ++ i ∷ []) ≡ length s.path + 1 = length-append s.path (i ∷ []) in omega (arith, e)

    index_is : (i : ℕ) → i < 409 → index_below step.index i ≡ step.index * 409 + i
    index_is i lt =
        let few : step.index < 27982932961 = omega (arith, s.few, pow_small (length s.path) (omega (arith, s.depth, shallow))) in
        omega (arith, few, lt)

    pub index_on : (i : ℕ) → i < 409 → (more : List ℕ) → way (length (s.path ++ i ∷ [])) (index_below step.index i) more ≡ (s.path ++ i ∷ []) ++ more
    index_on i lt more =
        let div : (step.index * 409 + i) / 409 ≡ step.index = omega (arith, lt) in
        let rem : (step.index * 409 + i) % 409 ≡ i = omega (arith, lt) in
        ap (λ (d : ℕ). way d (index_below step.index i) more) (long_is i)
        ∙ ap (λ (x : ℕ). way (length s.path) (x / 409) (x % 409 ∷ more)) (index_is i lt)
        ∙ ap (λ (x : ℕ). way (length s.path) x ((step.index * 409 + i) % 409 ∷ more)) div
        ∙ ap (λ (x : ℕ). way (length s.path) step.index (x ∷ more)) rem
        ∙ s.index (i ∷ more)
        ∙ sym (append_assoc s.path (i ∷ []) more)

    pub few_on : (i : ℕ) → i < 409 → index_below step.index i < 409 ^ length (s.path ++ i ∷ [])
    few_on i lt =
        let up : 409 ^ suc (length s.path) ≡ 409 * 409 ^ length s.path = pow-succ' 409 (length s.path) in
        let low : index_below step.index i < 409 ^ suc (length s.path) = omega (arith, up, s.few, lt, index_is i lt) in
        subst (λ (d : ℕ). index_below step.index i < 409 ^ d) (sym (long_is i)) low

    abbrev pub source_on : (i : ℕ) (p : Pointer) → i < 409 → target ((image below).slot i) ≡ p → IsInEntries arena image entries (step_below step (Dir level) here i p)
    source_on i p lt is = record {
      path = s.path ++ i ∷ [];
      level = level;
      kind = refl;
      pointer = sym (ap target (slot_end arena image s.path entries i below leads) ∙ is);
      depth = omega (arith, s.depth, level_is, long_is i);
      index = index_on i lt;
      few = few_on i lt;
    }

    by_pointer : (i : ℕ) (p : Pointer) → i < 409 → target ((image below).slot i) ≡ p → AllByRecursion (IsEntriesStep arena image entries) (steps_by step (Dir level) here i p)
    by_pointer i Nil lt is = tt
    by_pointer i (Local a) lt is = (inl (source_on i (Local a) lt is), tt)
    by_pointer i (Held x) lt is = (inl (source_on i (Held x) lt is), tt)

    pub all_below : (n : ℕ) → n ≤ 409 → AllByRecursion (IsEntriesStep arena image entries) (steps_below step (Dir level) here (image below) n)
    all_below zero le = subst (λ (x : List Step). AllByRecursion (IsEntriesStep arena image entries) x) (sym (none_below step (Dir level) here (image below))) tt
    all_below (suc n) le = subst (λ (x : List Step). AllByRecursion (IsEntriesStep arena image entries) x) (sym (one_below step (Dir level) here (image below) n))
        (all_join (IsEntriesStep arena image entries) (steps_below step (Dir level) here (image below) n) (steps_by step (Dir level) here n (target ((image below).slot n)))
        (all_below n (omega (arith, le))) (by_pointer n (target ((image below).slot n)) (omega (arith, le)) refl))

  -- ---- a leaf

  module _ (empty : (kind : Kind) (score : Score) → arena kind score ≡ nothing) (step : Step) (at : ℕ) (s : IsInEntries arena image entries step) (leaf : step.kind ≡ Dir zero) (leads : target ((goes arena image entries s.path).slot) ≡ Local at) (shallow : depth_of entries.slot ≤ 4) (kind : entries.kind ≡ Dir (depth_of entries.slot)) where
    full : length s.path ≡ depth_of entries.slot
    full = let none' : s.level ≡ 0 = dir_level (sym s.kind ∙ leaf) in omega (arith, none', s.depth)

    pub path_here : leaf_path entries.slot step.index ≡ s.path
    path_here = ap (λ (d : ℕ). way d step.index []) (sym full) ∙ s.index [] ∙ append-nil s.path

    leaf_is : (goes arena image entries s.path).kind ≡ Dir zero
    leaf_is = ap (λ (p : List ℕ). (goes arena image entries p).kind) (sym path_here) ∙ leaf_kind arena image empty step.index entries kind

    pub number_is : (pair : ℕ) → pair < 102 → pair_number step.index pair ≡ step.index * 102 + pair
    number_is pair lt =
        let few : step.index < 27982932961 = omega (arith, s.few, pow_small (length s.path) (omega (arith, full, shallow))) in
        omega (arith, few, lt)

    pub entry_is : (j i : ℕ) → j / 204 ≡ step.index → j % 204 ≡ i → entry_at arena image entries j ≡ link_at image at i
    entry_is j i div rem =
        ap (λ (n : ℕ). goes arena image entries (leaf_path entries.slot n ++ (j % 204) ∷ [])) div
        ∙ ap (λ (n : ℕ). goes arena image entries (leaf_path entries.slot step.index ++ n ∷ [])) rem
        ∙ ap (λ (p : List ℕ). goes arena image entries (p ++ i ∷ [])) path_here
        ∙ goes_end arena image s.path entries i
        ∙ ap (λ (d : Kind). record { kind = kind_below d ((found arena image (goes arena image entries s.path)).slot i); slot = (found arena image (goes arena image entries s.path)).slot i }) leaf_is
        ∙ ap (λ (c : Content). record { kind = kind_of_top (c.slot i); slot = c.slot i }) (found_is arena image (goes arena image entries s.path) at leads)

    first_link : (r : Record) (pair : ℕ) → pair < 102 → r.slot ≡ pair_number step.index pair → entry_at arena image entries (2 * r.slot) ≡ link_at image at (2 * pair)
    first_link r pair lt slot = let n : r.slot ≡ step.index * 102 + pair = slot ∙ number_is pair lt in entry_is (2 * r.slot) (2 * pair) (omega (arith, n, lt)) (omega (arith, n, lt))

    second_link : (r : Record) (pair : ℕ) → pair < 102 → r.slot ≡ pair_number step.index pair → entry_at arena image entries (2 * r.slot + 1) ≡ link_at image at (2 * pair + 1)
    second_link r pair lt slot = let n : r.slot ≡ step.index * 102 + pair = slot ∙ number_is pair lt in entry_is (2 * r.slot + 1) (2 * pair + 1) (omega (arith, n, lt)) (omega (arith, n, lt))

    module _ (bytes : Block) (read : AreEntries (image at) bytes) where
      is_head : (pair : ℕ) → pair < 102 → (r : Record) → is_dir_mode r.mode ≡ true → (a : HasEntry (image at) bytes (2 * pair)) (b : HasEntry (image at) bytes (2 * pair + 1)) → IsFirst (Head a.entry) r → IsSecond (Head b.entry) r → (f : Folder) → IsOfPair a.entry b.entry f
          → IsHeadOf (link_at image at (2 * pair)) (link_at image at (2 * pair + 1)) f
      is_head pair lt r dir a b x y f o =
          let active : b.entry.active ≡ true = y.0 ∙ dir in
          let flag : a.entry.dir ≡ true = x.2 ∙ dir in
          record {
            named = o.named;
            slot = a.is ∙ ap (λ (e : Entry). Head e) (sym o.entries);
            dir = ap (λ (e : Entry). e.dir) o.entries ∙ flag;
            kind = ap kind_of_top a.is ∙ ap (λ (d : Bool). cond d (Dir a.entry.depth) (Data a.entry.depth)) flag ∙ ap (λ (e : Entry). Dir e.depth) (sym o.entries);
            shallow = subst (λ (e : Entry). e.depth ≤ 4) (sym o.entries) a.shallow;
            room = subst (λ (e : Entry). e.size ≤ 8192 * 409 ^ e.depth) (sym o.entries) (holds_active a.entry a.entry.active x.0 a.spelled.holds.active_holds);
            records = record {
              entry = b.entry;
              is = o.records;
              slot = b.is;
              file = y.1;
              kind = ap kind_of_top b.is ∙ ap (λ (d : Bool). cond d (Dir b.entry.depth) (Data b.entry.depth)) y.1;
              room = holds_active b.entry b.entry.active active b.spelled.holds.active_holds;
              shallow = b.shallow;
            };
          }

      pub found_leaf : (folders : List Folder) (r : Record) → HasPairHere step.index (image at) true 102 folders r → IsFound arena image entries folders r
      found_leaf folders r h =
          let a : HasEntry (image at) bytes (2 * h.pair) = read.each (2 * h.pair) (omega (arith, h.within)) in
          let b : HasEntry (image at) bytes (2 * h.pair + 1) = read.each (2 * h.pair + 1) (omega (arith, h.within)) in
          let one : entry_at arena image entries (2 * r.slot) ≡ link_at image at (2 * h.pair) = first_link r h.pair h.within h.slot in
          let two : entry_at arena image entries (2 * r.slot + 1) ≡ link_at image at (2 * h.pair + 1) = second_link r h.pair h.within h.slot in
          let first : IsFirst (Head a.entry) r = subst (λ (x : Slot). IsFirst (Head (entry_of x)) r) a.is h.first in
          let second : IsSecond (Head b.entry) r = subst (λ (x : Slot). IsSecond (Head (entry_of x)) r) b.is h.second in
          record {
            first = subst (λ (w : Link). IsFirst w.slot r) (sym one) (subst (λ (x : Slot). IsFirst x r) (sym a.is) first);
            second = subst (λ (w : Link). IsSecond w.slot r) (sym two) (subst (λ (x : Slot). IsSecond x r) (sym b.is) second);
            folder = λ dir.
                let left : SomeOf (IsOfPair a.entry b.entry) folders = subst (λ (x : Slot). SomeOf (IsOfPair (entry_of x) b.entry) folders) a.is (subst (λ (x : Slot). SomeOf (IsOfPair (entry_of ((image at).slot (2 * h.pair))) (entry_of x)) folders) b.is (h.folder refl dir)) in
                subst (λ (w : Link). SomeOf (IsHeadOf w (entry_at arena image entries (2 * r.slot + 1))) folders) (sym one)
                (subst (λ (w : Link). SomeOf (IsHeadOf (link_at image at (2 * h.pair)) w) folders) (sym two)
                (some_by (IsOfPair a.entry b.entry) (IsHeadOf (link_at image at (2 * h.pair)) (link_at image at (2 * h.pair + 1))) (is_head h.pair h.within r dir a b first second) folders left));
          }

      pub led_leaf : (names : List Named) (f : Folder) → IsLedHere step.index (image at) 102 names f → IsLedBy arena image entries names f
      led_leaf names f h =
          let a : HasEntry (image at) bytes (2 * h.pair) = read.each (2 * h.pair) (omega (arith, h.within)) in
          let b : HasEntry (image at) bytes (2 * h.pair + 1) = read.each (2 * h.pair + 1) (omega (arith, h.within)) in
          let first : IsFirst (Head a.entry) h.has = subst (λ (x : Slot). IsFirst (Head (entry_of x)) h.has) a.is h.first in
          let second : IsSecond (Head b.entry) h.has = subst (λ (x : Slot). IsSecond (Head (entry_of x)) h.has) b.is h.second in
          let of : IsOfPair a.entry b.entry f = subst (λ (x : Slot). IsOfPair (entry_of x) b.entry f) a.is (subst (λ (x : Slot). IsOfPair (entry_of ((image at).slot (2 * h.pair))) (entry_of x) f) b.is h.folder) in
          record {
            has = h.has;
            dir = h.dir;
            listed = h.listed;
            head = subst (λ (w : Link). IsHeadOf w (entry_at arena image entries (2 * h.has.slot + 1)) f) (sym (first_link h.has h.pair h.within h.slot))
                (subst (λ (w : Link). IsHeadOf (link_at image at (2 * h.pair)) w f) (sym (second_link h.has h.pair h.within h.slot)) (is_head h.pair h.within h.has h.dir a b first second f of));
          }

-- ---- before any entry was read

pub sought_first : (arena : Arena) (image : Image) (entries meta : Link) (f : Folder) → IsHeadOf entries meta f → (holds : Holds) (names : List Named) (noted : Option Broken) (folders : List Folder) → ((i : ℕ) (d : Named) → i < length names → (get_or names i d).found ≡ false)
    → AreSought arena image entries names noted (top_step f.entries holds f.holder ∷ []) names folders
sought_first arena image entries meta f h holds names noted folders fresh =
    let deep : depth_of entries.slot ≡ f.entries.depth = ap depth_of h.slot in
    record {
      shallow = omega (arith, deep, h.shallow);
      kind = h.kind ∙ ap (λ (n : ℕ). Dir n) (sym deep);
      same = same_refl names;
      sources = (
        inl (record {
          path = [];
          level = f.entries.depth;
          kind = ap (λ (d : Bool). cond d (Dir f.entries.depth) (Data f.entries.depth)) h.dir;
          pointer = sym (ap target h.slot);
          depth = omega (arith, deep);
          index = λ more. refl;
          few = omega arith;
        }),
        tt,
      );
      found = λ quiet i d lt yes. absurd (false≢true (sym (fresh i d lt) ∙ yes));
    }

-- ---- one step more

module _ (arena : Arena) (device : List Block) (image : Image) (s : Super) (k : Kept) (rest : List Step) (step : Step) (old new : Walk) (w : Walking arena device image s k (step ∷ rest) old) (low : level new.noted ≤ level old.noted) (depth : ℕ) where
  abbrev here : ℕ → Label → Holder
  here at m = record { block = at; label = m }

  slots_at : (at : ℕ) (m : Label) → step.pointer ≡ Local at → IsDataBlock (length device) at × HasLabel device at m → m.kind ≡ step.kind → HasSlots step.kind (image at) (block_of device at)
  slots_at at m is t kind = subst (λ (d : Kind). HasSlots d (image at) (block_of device at)) kind (slots_on arena device image s k rest step old new w at m is t)

  module _ (named : Bool) where
    block_grows : (at : ℕ) → step.pointer ≡ Local at → Reaches device image depth named step at old new → Grows old.folders.items new.folders.items
    block_grows at is (again m allowed marks same same' noted kept) = record { added = []; is = same' ∙ sym (append-nil old.folders.items) }
    block_grows at is (enters m allowed marks steps folders notes read adds leafs seeks bytes deeps clean asks eights heads) =
        puts_more (here at m) (image at) depth named step.kind old.folders.items new.folders.items (folders (slots_at at m is (taken_of device old.labels.known.items at m w.goes.table allowed.known) allowed.may.kind))

    pub grows_on : Follows device image depth named step old new → Grows old.folders.items new.folders.items
    grows_on (nowhere nil same) = subst (λ (v : Walk). Grows old.folders.items v.folders.items) (sym same) (record { added = []; is = sym (append-nil old.folders.items) })
    grows_on (held x is same) = subst (λ (v : Walk). Grows old.folders.items v.folders.items) (sym same) (record { added = []; is = sym (append-nil old.folders.items) })
    grows_on (local at is r) = block_grows at is r

  module _ (entries : Link) (names : List Named) (a : AreSought arena image entries names old.noted (old.steps.items ++ step ∷ []) old.named.items old.folders.items) where
    left : AllByRecursion (IsEntriesStep arena image entries) old.steps.items
    left = all_front (IsEntriesStep arena image entries) old.steps.items (step ∷ []) a.sources

    this : IsEntriesStep arena image entries step
    this = (all_back (IsEntriesStep arena image entries) old.steps.items (step ∷ []) a.sources).0

    -- nothing was found, and these steps are left
    same_names : (noted : Option Broken) (steps added : List Step) (named : List Named) (folders : List Folder) → level noted ≤ level old.noted → steps ≡ old.steps.items ++ added → AllByRecursion (IsEntriesStep arena image entries) added → named ≡ old.named.items → folders ≡ old.folders.items
        → AreSought arena image entries names noted steps named folders
    same_names noted steps added named folders low' is all same same' =
        subst (λ (xs : List Named). AreSought arena image entries names noted steps xs folders) (sym same)
        (subst (λ (fs : List Folder). AreSought arena image entries names noted steps old.named.items fs) (sym same') (record {
          shallow = a.shallow;
          kind = a.kind;
          same = a.same;
          sources = subst (λ (xs : List Step). AllByRecursion (IsEntriesStep arena image entries) xs) (sym is) (all_join (IsEntriesStep arena image entries) old.steps.items added left all);
          found = λ quiet i d lt yes. a.found (omega (arith, quiet, low')) i d lt yes;
        }))

    none_left : (steps : List Step) → steps ≡ old.steps.items → steps ≡ old.steps.items ++ []
    none_left steps is = is ∙ sym (append-nil old.steps.items)

    leaf_found : (at : ℕ) (m : Label) (v : IsInEntries arena image entries step) → step.pointer ≡ Local at → step.kind ≡ Dir zero → HasSlots step.kind (image at) (block_of device at) → Reads step.kind (image at) (block_of device at) new.noted
        → new.steps.items ≡ old.steps.items ++ steps_by_pairs (here at m) (image at) 102 → Grows old.folders.items new.folders.items → Searches step.index (image at) true 102 old.named.items new.named.items new.folders.items
        → AreSought arena image entries names new.noted new.steps.items new.named.items new.folders.items
    leaf_found at m v is kind slots read steps grown found' = record {
      shallow = a.shallow;
      kind = a.kind;
      same = same_then names old.named.items new.named.items a.same found'.same;
      sources = subst (λ (xs : List Step). AllByRecursion (IsEntriesStep arena image entries) xs) (sym steps) (all_join (IsEntriesStep arena image entries) old.steps.items (steps_by_pairs (here at m) (image at) 102) left (all_quiet arena image entries (steps_by_pairs (here at m) (image at) 102) (quiet_pairs (here at m) (image at) 102)));
      found = λ quiet i d lt yes.
          let areentries : AreEntries (image at) (block_of device at) = subst (λ (x : Kind). Reads x (image at) (block_of device at) new.noted) kind read (λ e. let no' : Dir zero ≡ Root = e in cc) (subst (λ (x : Kind). HasSlots x (image at) (block_of device at)) kind slots) (w.holds.bytes at) quiet in
          ⊎_elim
          (λ (before : (get_or old.named.items i d).found ≡ true).
          let f : IsFound arena image entries old.folders.items (get_or old.named.items i d).listed = a.found (omega (arith, quiet, low)) i d (omega (arith, lt, found'.same.long)) before in
          subst (λ (r : Record). IsFound arena image entries new.folders.items r) (sym (found'.same.each i d lt))
          (subst (λ (fs : List Folder). IsFound arena image entries fs (get_or old.named.items i d).listed) (sym grown.is) (found_more arena image entries old.folders.items grown.added (get_or old.named.items i d).listed f)))
          (λ (h : HasPairHere step.index (image at) true 102 new.folders.items (get_or new.named.items i d).listed).
          found_leaf arena image entries w.holds.empty step at v kind (sym v.pointer ∙ is) a.shallow a.kind (block_of device at) areentries new.folders.items (get_or new.named.items i d).listed h)
          (found'.each i d lt yes);
    }

    pub no_names : (at : ℕ) → (step.holds ≡ Bytes) ⊎ (step.size ≡ 0) → step.kind ≡ Data 0 → (step.kind ≡ Data 0 → step.holds ≡ Bytes → new.named.items ≡ old.named.items) → AddsNamed step at (block_of device at) old.named.items new.named.items → new.named.items ≡ old.named.items
    no_names at q kind bytes (added_none same past) = same
    no_names at q kind bytes (added_some records spelled within grown) = ⊎_elim (λ (file : step.holds ≡ Bytes). bytes kind file) (λ (none' : step.size ≡ 0). absurd (omega (arith, within, none'))) q

    after_block : (at : ℕ) → step.pointer ≡ Local at → Reaches device image depth true step at old new → AreSought arena image entries names new.noted new.steps.items new.named.items new.folders.items
    after_block at is (again m allowed marks same same' noted kept) = ⊎_elim
        (λ (v : IsInEntries arena image entries step).
        let m : IsMissedBy step v.level old.named.items new.named.items = subst (λ (d : Kind). MissesBy step d old.named.items new.named.items) v.kind kept in
        record {
          shallow = a.shallow;
          kind = a.kind;
          same = same_then names old.named.items new.named.items a.same (same_missed step.index m.count old.named.items new.named.items m.misses);
          sources = subst (λ (xs : List Step). AllByRecursion (IsEntriesStep arena image entries) xs) (sym same) left;
          found = λ quiet i d lt found'.
              let s = m.misses.same i d lt in
              subst (λ (r : Record). IsFound arena image entries new.folders.items r) (sym s.0) (subst (λ (fs : List Folder). IsFound arena image entries fs (get_or old.named.items i d).listed) (sym same')
              (a.found (omega (arith, quiet, low)) i d (omega (arith, lt, m.misses.long)) (sym s.2 ∙ found')));
        })
        (λ (q : IsQuiet step). same_names new.noted new.steps.items [] new.named.items new.folders.items low (none_left new.steps.items same) tt (subst (λ (d : Kind). MissesBy step d old.named.items new.named.items) q.kind kept) same')
        this
    after_block at is (enters m allowed marks steps folders notes read adds leafs seeks bytes deeps clean asks eights heads) = ⊎_elim (λ (v : IsInEntries arena image entries step). inside v v.level v.kind) (λ (q : IsQuiet step). outside q q.level q.kind) this
      where
        slots : HasSlots step.kind (image at) (block_of device at)
        slots = slots_at at m is (taken_of device old.labels.known.items at m w.goes.table allowed.known) allowed.may.kind

        steps_are : (kind : Kind) → step.kind ≡ kind → new.steps.items ≡ old.steps.items ++ steps_of step (here at m) (image at) kind
        steps_are kind e = steps slots ∙ ap (λ (d : Kind). old.steps.items ++ steps_of step (here at m) (image at) d) e

        inside : (v : IsInEntries arena image entries step) (level' : ℕ) → step.kind ≡ Dir level' → AreSought arena image entries names new.noted new.steps.items new.named.items new.folders.items
        inside v zero kind = leaf_found at m v is kind slots read (steps_are (Dir zero) kind)
            (puts_more (here at m) (image at) depth true step.kind old.folders.items new.folders.items (folders slots))
            (subst (λ (d : Kind). Seeks step (image at) true d old.named.items new.named.items new.folders.items) kind (seeks slots))
        inside v (suc level') kind = same_names new.noted new.steps.items (steps_below step (Dir level') (here at m) (image at) 409) new.named.items new.folders.items low (steps_are (Dir (suc level')) kind)
            (all_below arena image entries step level' at (here at m) v kind (sym v.pointer ∙ is) a.shallow 409 (omega arith))
            (subst (λ (d : Kind). Seeks step (image at) true d old.named.items new.named.items new.folders.items) kind (seeks slots))
            (subst (λ (d : Kind). Puts (here at m) (image at) depth true d old.folders.items new.folders.items) kind (folders slots))

        outside : (q : IsQuiet step) (level' : ℕ) → step.kind ≡ Data level' → AreSought arena image entries names new.noted new.steps.items new.named.items new.folders.items
        outside q zero kind = same_names new.noted new.steps.items [] new.named.items new.folders.items low (steps_are (Data zero) kind) tt
            (no_names at q.quiet kind bytes (subst (λ (d : Kind). Adds step at (block_of device at) d old.named.items new.named.items) kind adds))
            (subst (λ (d : Kind). Puts (here at m) (image at) depth true d old.folders.items new.folders.items) kind (folders slots))
        outside q (suc level') kind = same_names new.noted new.steps.items (steps_below step (Data level') (here at m) (image at) 409) new.named.items new.folders.items low (steps_are (Data (suc level')) kind)
            (all_quiet arena image entries (steps_below step (Data level') (here at m) (image at) 409) (quiet_below step level' (here at m) (image at) q.quiet 409))
            (subst (λ (d : Kind). Adds step at (block_of device at) d old.named.items new.named.items) kind adds)
            (subst (λ (d : Kind). Puts (here at m) (image at) depth true d old.folders.items new.folders.items) kind (folders slots))

    pub sought_on : Follows device image depth true step old new → AreSought arena image entries names new.noted new.steps.items new.named.items new.folders.items
    sought_on (nowhere nil same) = subst (λ (v : Walk). AreSought arena image entries names v.noted v.steps.items v.named.items v.folders.items) (sym same) (same_names old.noted old.steps.items [] old.named.items old.folders.items (omega arith) (none_left old.steps.items refl) tt refl refl)
    sought_on (held x is same) = subst (λ (v : Walk). AreSought arena image entries names v.noted v.steps.items v.named.items v.folders.items) (sym same) (same_names (lower old.noted 9 step.holder.block) old.steps.items [] old.named.items old.folders.items (level-lower old.noted 9 step.holder.block (omega arith)).0 (none_left old.steps.items refl) tt refl refl)
    sought_on (local at is r) = after_block at is r
