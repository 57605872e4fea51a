-- Rule 5 is broken where it is noted: what one step more through a tree keeps.
use Rattle.std.proofs.Common.{◌≡◌, ◌≢◌, ◌⊎◌, ⊎_elim, inl, inr, ℕ, zero, suc, ◌+◌, ◌*◌, ◌^◌, ◌<◌, ◌≤◌, Bool, true, false, not, List, [], ◌∷◌, ◌++◌, append_assoc, Option, Some, None, refl, sym, ap, ◌∙◌, subst, arith}
use Rattle.std.specs.Prelude.{◌&&◌, cond}
use Rattle.std.specs.List.{AllByRecursion}
use Rattle.std.proofs.lemmas.Bool.{false≢true, cases_eq}
use Rattle.fo_disk.specs.Disk.{Block}
use Rattle.fo_image.specs.declared.types.Kind.{Kind}
use Rattle.fo_image.specs.declared.types.Kind.TheVariants.{Data, Dir, Root}
use Rattle.fo_image.specs.declared.types.Entry.{Entry}
use Rattle.fo_image.specs.declared.types.Label.{Label}
use Rattle.fo_image.specs.declared.types.Super.{Super}
use Rattle.fo_image.specs.declared.types.Pointer.{Pointer}
use Rattle.fo_image.specs.declared.types.Pointer.TheVariants.{Nil, Local, Score as Held}
use Rattle.fo_image.specs.Format.{ActiveHolds}
use Rattle.fo_crash.specs.declared.slot.Slot.{Slot}
use Rattle.fo_crash.specs.declared.slot.Slot.TheVariants.{Pointer as To, Entry as Head, Prev}
use Rattle.fo_crash.specs.Images.{Content, Image, Arena, Link, target, found, kind_below, kind_of_top, from_block}
use Rattle.fo_meta.specs.Leaf.{IsLeaf}
use Rattle.fo_sound.specs.Image.{block_of}
use Rattle.fo_good.specs.Means.{IsRead, EndsAt}
use Rattle.fo_good.specs.Trees.{NamesRecords, IsEntries, IsRecords, HoldsEntries, at_path}
use Rattle.fo_good.specs.Sound.{Kept}
use Rattle.fo_check_names.specs.Pairs.{is_folder, is_source, records_of}
use Rattle.fo_check_tree.specs.declared.broken.Broken.{Broken}
use Rattle.fo_check_tree.specs.declared.walk.Folder.{Folder}
use Rattle.fo_check_tree.specs.declared.walk.Holder.{Holder}
use Rattle.fo_check_tree.specs.declared.walk.Holds.{Holds}
use Rattle.fo_check_tree.specs.declared.walk.Holds.TheVariants.{Bytes, Records, Entries}
use Rattle.fo_check_tree.specs.declared.walk.Step.{Step}
use Rattle.fo_check_tree.specs.declared.walk.Walk.{Walk}
use Rattle.fo_check_tree.specs.Answer.{BreaksFormats, NamesFormats}
use Rattle.fo_check_tree.specs.Answer.BreaksFormats.{block, leaf}
use Rattle.fo_check_tree.specs.Dirs.{link_at}
use Rattle.fo_check_tree.specs.Follows.{Puts, Clean, Reaches, Follows}
use Rattle.fo_check_tree.specs.Follows.Reaches.{again, enters}
use Rattle.fo_check_tree.specs.Follows.Follows.{nowhere, held, local}
use Rattle.fo_check_tree.specs.Grounds.{IsAtRecords, IsPlaced, IsRecordsOf, HasRecordsOf, HasGrounds}
use Rattle.fo_check_tree.specs.Lower.{lower}
use Rattle.fo_check_tree.specs.Notes.{NotesAt, KeepsFormats, KeepsPairs}
use Rattle.fo_check_tree.specs.Notes.NotesAt.{same as note_same, format as note_format, deep as note_deep}
use Rattle.fo_check_tree.specs.Slots.{HasSlot, HasSlots, AreFolders, steps_by, step_below, steps_below, steps_of, steps_by_pairs, pair_steps, first_steps, second_steps, pair_folders, folders_by, top_step, entry_of}
use Rattle.fo_check_tree.specs.Slots.HasSlot.{entry, other}
use Rattle.fo_check_tree.specs.Slots.AreFolders.{none, more}
use Rattle.fo_check_tree.specs.Walking.{HasPath, Walking}
use Rattle.fo_check_tree.proofs.Leaves.{all_join, all_front, all_back}
use Rattle.fo_check_tree.proofs.Noting.{lowered, keeps_lower, pairs_same, pairs_lower, pairs_at}
use Rattle.fo_check_tree.proofs.Paths.{goes_end, slot_end, found_is}
use Rattle.fo_check_tree.proofs.Reaching.{reached_new}
use Rattle.fo_check_tree.proofs.Slots.{none_below, one_below, no_pairs, one_pair}
use Rattle.fo_check_tree.proofs.Stepping.{taken_of, slots_on}

-- ---- what is noted

is_some : (x b : Broken) → Some x ≡ Some b → x ≡ b
is_some x b e = cc

none_some : (b : Broken) → None ≡ Some b → ⊥
none_some b e = cc

same_broken : (a b : Broken) → a.rule ≡ b.rule → a.block ≡ b.block → a ≡ b
same_broken a b e f = λ j. record { rule = e j; block = f j }

is_or : (o : Option Broken) (b : Broken) → (o ≡ Some b) ⊎ (o ≡ Some b → ⊥)
is_or None b = inr (none_some b)
is_or (Some o) b = ⊎_elim
    (λ (r : o.rule ≡ b.rule). ⊎_elim
    (λ (e : o.block ≡ b.block). inl (ap (λ (x : Broken). Some x) (same_broken o b r e)))
    (λ (apart : o.block ≢ b.block). inr (λ e. apart (ap (λ (x : Broken). x.block) (is_some o b e))))
    (cases_eq o.block b.block))
    (λ (apart : o.rule ≢ b.rule). inr (λ e. apart (ap (λ (x : Broken). x.rule) (is_some o b e))))
    (cases_eq o.rule b.rule)

module _ (arena : Arena) (image : Image) (k : Kept) where
  pub formats_kept : (old new : Option Broken) → KeepsFormats old new → NamesFormats arena image k old → NamesFormats arena image k new
  formats_kept old new w h = record { each = λ b e five. h.each b (w.same b e five) five }

  pub formats_lower : (old new : Option Broken) (at : ℕ) → new ≡ lower old 5 at → BreaksFormats arena image k at → NamesFormats arena image k old → NamesFormats arena image k new
  formats_lower old new at is breaks h = record {
    each = λ b e five. ⊎_elim
        (λ (before : old ≡ Some b). h.each b before five)
        (λ now. subst (λ (n : ℕ). BreaksFormats arena image k n) now.1 breaks)
        (lowered old 5 at b (sym is ∙ e));
  }

  by_five : (at : ℕ) (b : Broken) → Some (record { rule = 5; block = at }) ≡ Some b → at ≡ b.block
  by_five at b e = ap (λ (x : Broken). x.block) (is_some (record { rule = 5; block = at }) b e)

  by_eight : (at : ℕ) (b : Broken) → Some (record { rule = 8; block = at }) ≡ Some b → b.rule ≡ 5 → ⊥
  by_eight at b e five = let r : 8 ≡ b.rule = ap (λ (x : Broken). x.rule) (is_some (record { rule = 8; block = at }) b e) in omega (arith, r, five)

  -- Rule 5 is noted for the block only where it is broken.
  pub formats_at : (at : ℕ) (old new : Option Broken) → NotesAt at old new → ((KeepsFormats old new → ⊥) → BreaksFormats arena image k at) → NamesFormats arena image k old → NamesFormats arena image k new
  formats_at at old new (note_same is) breaks h = subst (λ (o : Option Broken). NamesFormats arena image k o) (sym is) h
  formats_at at old new (note_deep is) breaks h = record { each = λ b e five. absurd (by_eight at b (sym is ∙ e) five) }
  formats_at at old new (note_format is) breaks h = ⊎_elim
      (λ (before : old ≡ Some (record { rule = 5; block = at })). subst (λ (o : Option Broken). NamesFormats arena image k o) (before ∙ sym is) h)
      (λ (isnt : old ≡ Some (record { rule = 5; block = at }) → ⊥). record {
        each = λ b e five. subst (λ (n : ℕ). BreaksFormats arena image k n) (by_five at b (sym is ∙ e)) (breaks (λ w. isnt (w.same (record { rule = 5; block = at }) is refl)));
      })
      (is_or old (record { rule = 5; block = at }))

-- ---- entries

two_true : (a b : Bool) → (a && b) ≡ true → (a ≡ true) × (b ≡ true)
two_true true b e = (refl, e)
two_true false b e = absurd (false≢true e)

not_true : (b : Bool) → not b ≡ true → b ≡ false
not_true true e = absurd (false≢true e)
not_true false e = refl

records_by : (s : Slot) → is_source (entry_of s) ≡ true → IsRecords s
records_by (Head e) yes' = let t = two_true e.active (not e.dir) yes' in (t.0, not_true e.dir t.1)
records_by (To p) yes' = absurd (false≢true yes')
records_by (Prev epoch at) yes' = absurd (false≢true yes')

entries_by : (s : Slot) → is_folder (entry_of s) ≡ true → IsEntries s
entries_by (Head e) yes' = two_true e.active e.dir yes'
entries_by (To p) yes' = absurd (false≢true yes')
entries_by (Prev epoch at) yes' = absurd (false≢true yes')

head_by : (s : Slot) → is_source (entry_of s) ≡ true → s ≡ Head (entry_of s)
head_by (Head e) yes' = refl
head_by (To p) yes' = absurd (false≢true yes')
head_by (Prev epoch at) yes' = absurd (false≢true yes')

top_by : (s : Slot) → is_source (entry_of s) ≡ true → (entry_of s).top ≡ target s
top_by (Head e) yes' = refl
top_by (To p) yes' = absurd (false≢true yes')
top_by (Prev epoch at) yes' = absurd (false≢true yes')

kind_by : (s : Slot) → is_source (entry_of s) ≡ true → kind_of_top s ≡ cond (entry_of s).dir (Dir (entry_of s).depth) (Data (entry_of s).depth)
kind_by (Head e) yes' = refl
kind_by (To p) yes' = absurd (false≢true yes')
kind_by (Prev epoch at) yes' = absurd (false≢true yes')

pub room_of : (e : Entry) (a : Bool) → ActiveHolds a e → e.size ≤ 8192 * 409 ^ e.depth
room_of e true h = h.0.room
room_of e false h = omega (arith, h.3)

-- ---- the slots of a block that was reached

module _ (arena : Arena) (image : Image) (k : Kept) (at : ℕ) (m : Label) (q : HasPath arena image k at m) where
  abbrev here : Holder
  here = record { block = at; label = m }

  abbrev placed : Step → Type 0
  placed = IsPlaced arena image k

  -- ---- of a block of pointers

  bytes_records : Bytes ≡ Records → ⊥
  bytes_records e = cc

  bytes_entries : Bytes ≡ Entries → ⊥
  bytes_entries e = cc

  records_entries : Records ≡ Entries → ⊥
  records_entries e = cc

  dir_data : (a b : ℕ) → Dir a ≡ Data b → ⊥
  dir_data a b e = cc

  module _ (step : Step) (w : IsPlaced arena image k step) (is : step.pointer ≡ Local at) where
    nil_local : Nil ≡ Local at → ⊥
    nil_local e = cc

    some_pointer : step.pointer ≡ Nil → ⊥
    some_pointer e = nil_local (sym e ∙ is)

    data_on : (level i : ℕ) (p : Pointer) → step.kind ≡ Data (suc level) → target ((image at).slot i) ≡ p → IsPlaced arena image k (step_below step (Data level) here i p)
    data_on level i p kind leads = record {
      records = λ holds level' kind' some.
          let h : IsAtRecords arena image k step = w.records holds (suc level) kind some_pointer in
          let front : List ℕ = h.path ++ h.slot ∷ h.more in
          let same : h.path ++ h.slot ∷ (h.more ++ i ∷ []) ≡ front ++ i ∷ [] = sym (append_assoc h.path (h.slot ∷ h.more) (i ∷ [])) in
          record {
            path = h.path;
            slot = h.slot;
            more = h.more ++ i ∷ [];
            names = h.names;
            pointer = sym leads ∙ sym (ap target (slot_end arena image front (from_block k.at) i at (sym h.pointer ∙ is))) ∙ ap (λ (p' : List ℕ). target ((at_path arena image k.at p').slot)) (sym same);
            kind = ap (λ (p' : List ℕ). (at_path arena image k.at p').kind) same ∙ ap (λ (v : Link). v.kind) (goes_end arena image front (from_block k.at) i)
                ∙ ap (λ (d : Kind). kind_below d ((found arena image (at_path arena image k.at front)).slot i)) (h.kind ∙ kind);
          };
      entries = λ holds level' kind'. w.entries holds (suc level) kind;
    }

    dir_on : (level i : ℕ) (p : Pointer) → IsPlaced arena image k (step_below step (Dir level) here i p)
    dir_on level i p = record { records = λ holds level' kind some. absurd (dir_data level level' kind); entries = λ holds level' kind. dir_data level level' kind }

    data_by : (level i : ℕ) (p : Pointer) → step.kind ≡ Data (suc level) → target ((image at).slot i) ≡ p → AllByRecursion (IsPlaced arena image k) (steps_by step (Data level) here i p)
    data_by level i Nil kind leads = tt
    data_by level i (Local a) kind leads = (data_on level i (Local a) kind leads, tt)
    data_by level i (Held x) kind leads = (data_on level i (Held x) kind leads, tt)

    dir_by : (level i : ℕ) (p : Pointer) → AllByRecursion (IsPlaced arena image k) (steps_by step (Dir level) here i p)
    dir_by level i Nil = tt
    dir_by level i (Local a) = (dir_on level i (Local a), tt)
    dir_by level i (Held x) = (dir_on level i (Held x), tt)

    all_data : (level n : ℕ) → step.kind ≡ Data (suc level) → AllByRecursion (IsPlaced arena image k) (steps_below step (Data level) here (image at) n)
    all_data level zero kind = subst (λ (x : List Step). AllByRecursion (IsPlaced arena image k) x) (sym (none_below step (Data level) here (image at))) tt
    all_data level (suc n) kind = subst (λ (x : List Step). AllByRecursion (IsPlaced arena image k) x) (sym (one_below step (Data level) here (image at) n))
        (all_join (IsPlaced arena image k) (steps_below step (Data level) here (image at) n) (steps_by step (Data level) here n (target ((image at).slot n))) (all_data level n kind) (data_by level n (target ((image at).slot n)) kind refl))

    all_dir : (level n : ℕ) → AllByRecursion (IsPlaced arena image k) (steps_below step (Dir level) here (image at) n)
    all_dir level zero = subst (λ (x : List Step). AllByRecursion (IsPlaced arena image k) x) (sym (none_below step (Dir level) here (image at))) tt
    all_dir level (suc n) = subst (λ (x : List Step). AllByRecursion (IsPlaced arena image k) x) (sym (one_below step (Dir level) here (image at) n))
        (all_join (IsPlaced arena image k) (steps_below step (Dir level) here (image at) n) (steps_by step (Dir level) here n (target ((image at).slot n))) (all_dir level n) (dir_by level n (target ((image at).slot n))))

  -- ---- of a leaf of entries

  module _ (kind : m.kind ≡ Dir zero) where
    link_is : (i : ℕ) → at_path arena image k.at (q.path ++ i ∷ []) ≡ link_at image at i
    link_is i = goes_end arena image q.path (from_block k.at) i
        ∙ ap (λ (d : Kind). record { kind = kind_below d ((found arena image (at_path arena image k.at q.path)).slot i); slot = (found arena image (at_path arena image k.at q.path)).slot i }) (q.link ∙ kind)
        ∙ ap (λ (c : Content). record { kind = kind_of_top (c.slot i); slot = c.slot i }) (found_is arena image (at_path arena image k.at q.path) at q.leads)

    names_at : (j : ℕ) → is_source (entry_of ((image at).slot (2 * j + 1))) ≡ true → NamesRecords arena image k.at q.path (2 * j + 1)
    names_at j yes' = record {
      holder = subst (λ (d : Kind). HoldsEntries d) (sym (q.link ∙ kind)) tt;
      second = omega arith;
      records = subst (λ (v : Link). IsRecords v.slot) (sym (link_is (2 * j + 1))) (records_by ((image at).slot (2 * j + 1)) yes');
    }

    second_on : (j : ℕ) → is_source (entry_of ((image at).slot (2 * j + 1))) ≡ true → IsPlaced arena image k (record (top_step (entry_of ((image at).slot (2 * j + 1))) Records here) { size = 0 })
    second_on j yes' = record {
      records = λ holds level kind' some. record {
        path = q.path;
        slot = 2 * j + 1;
        more = [];
        names = names_at j yes';
        pointer = top_by ((image at).slot (2 * j + 1)) yes' ∙ sym (ap (λ (v : Link). target v.slot) (link_is (2 * j + 1)));
        kind = ap (λ (v : Link). v.kind) (link_is (2 * j + 1)) ∙ kind_by ((image at).slot (2 * j + 1)) yes';
      };
      entries = λ holds level kind'. records_entries holds;
    }

    first_on : (e : Entry) → IsPlaced arena image k (top_step e Bytes here)
    first_on e = record { records = λ holds level kind' some. absurd (bytes_records holds); entries = λ holds level kind'. bytes_entries holds }

    step_if : (t : Bool) (s : Step) → (t ≡ true → IsPlaced arena image k s) → AllByRecursion (IsPlaced arena image k) (cond t (s ∷ []) [])
    step_if true s f = (f refl, tt)
    step_if false s f = tt

    all_pairs : (n : ℕ) → AllByRecursion (IsPlaced arena image k) (steps_by_pairs here (image at) n)
    all_pairs zero = subst (λ (x : List Step). AllByRecursion (IsPlaced arena image k) x) (sym (no_pairs here (image at))) tt
    all_pairs (suc j) = subst (λ (x : List Step). AllByRecursion (IsPlaced arena image k) x) (sym (one_pair here (image at) j))
        (all_join (IsPlaced arena image k) (steps_by_pairs here (image at) j) (pair_steps here (entry_of ((image at).slot (2 * j))) (entry_of ((image at).slot (2 * j + 1)))) (all_pairs j)
        (all_join (IsPlaced arena image k) (first_steps here (entry_of ((image at).slot (2 * j)))) (second_steps here (is_folder (entry_of ((image at).slot (2 * j)))) (entry_of ((image at).slot (2 * j + 1))))
        (step_if (is_source (entry_of ((image at).slot (2 * j)))) (top_step (entry_of ((image at).slot (2 * j))) Bytes here) (λ yes'. first_on (entry_of ((image at).slot (2 * j)))))
        (step_if (is_source (entry_of ((image at).slot (2 * j + 1))) && not (is_folder (entry_of ((image at).slot (2 * j))))) (record (top_step (entry_of ((image at).slot (2 * j + 1))) Records here) { size = 0 })
        (λ yes'. second_on j (two_true (is_source (entry_of ((image at).slot (2 * j + 1)))) (not (is_folder (entry_of ((image at).slot (2 * j))))) yes').0))))

    -- ---- folders

    entry_fits : (bytes : Block) (i : ℕ) → HasSlot (image at) bytes i → ((entry_of ((image at).slot i)).depth ≤ 4) × ((entry_of ((image at).slot i)).size ≤ 8192 * 409 ^ (entry_of ((image at).slot i)).depth)
    entry_fits bytes i (entry h) = subst (λ (e : Entry). (e.depth ≤ 4) × (e.size ≤ 8192 * 409 ^ e.depth)) (sym (ap entry_of h.is)) (h.shallow, room_of h.entry h.entry.active h.spelled.holds.active_holds)
    entry_fits bytes i (other is deep) = subst (λ (e : Entry). (e.depth ≤ 4) × (e.size ≤ 8192 * 409 ^ e.depth)) (sym (ap entry_of is)) (omega arith, omega arith)

    head_link : (s : Slot) (e : Entry) → s ≡ Head e → e.dir ≡ false → ◌≡◌ {A = Link} (record { kind = Data e.depth; slot = Head e }) (record { kind = kind_of_top s; slot = s })
    head_link s e is file = ap (λ (d : Bool). record { kind = cond d (Dir e.depth) (Data e.depth); slot = Head e }) (sym file) ∙ ap (λ (x : Slot). record { kind = kind_of_top x; slot = x }) (sym is)

    pair_records : (bytes : Block) (j : ℕ) → HasSlot (image at) bytes (2 * j + 1) → is_folder (entry_of ((image at).slot (2 * j))) ≡ true → is_source (entry_of ((image at).slot (2 * j + 1))) ≡ true → IsRecordsOf arena image k (entry_of ((image at).slot (2 * j + 1)))
    pair_records bytes j slot folder source =
        let fits = entry_fits bytes (2 * j + 1) slot in
        record {
          shallow = fits.0;
          room = fits.1;
          source = λ file. inr (record {
            path = q.path;
            first = 2 * j;
            is = head_link ((image at).slot (2 * j + 1)) (entry_of ((image at).slot (2 * j + 1))) (head_by ((image at).slot (2 * j + 1)) source) file ∙ sym (link_is (2 * j + 1));
            names = names_at j source;
            pair = inr (subst (λ (v : Link). IsEntries v.slot) (sym (link_is (2 * j))) (entries_by ((image at).slot (2 * j)) folder));
          });
        }

    entry_some : (x y : Entry) → Some x ≡ Some y → x ≡ y
    entry_some x y e = cc

    none_entry : (y : Entry) → None ≡ Some y → ⊥
    none_entry y e = cc

    by_cond : (t : Bool) (x : Entry) → (t ≡ true → IsRecordsOf arena image k x) → (e : Entry) → cond t (Some x) None ≡ Some e → IsRecordsOf arena image k e
    by_cond true x f e is = subst (λ (y : Entry). IsRecordsOf arena image k y) (entry_some x e is) (f refl)
    by_cond false x f e is = absurd (none_entry e is)

    folder_if : (t : Bool) (f : Folder) → HasRecordsOf arena image k f → AllByRecursion (HasRecordsOf arena image k) (cond t (f ∷ []) [])
    folder_if true f h = (h, tt)
    folder_if false f h = tt

    pair_all : (bytes : Block) (j depth : ℕ) (named : Bool) → HasSlot (image at) bytes (2 * j + 1) → AllByRecursion (HasRecordsOf arena image k) (pair_folders here (entry_of ((image at).slot (2 * j))) (entry_of ((image at).slot (2 * j + 1))) depth named)
    pair_all bytes j depth named slot =
        let first : Entry = entry_of ((image at).slot (2 * j)) in
        let second : Entry = entry_of ((image at).slot (2 * j + 1)) in
        all_join (HasRecordsOf arena image k) (folders_by here first (records_of first second) depth named) (folders_by here second None depth false)
        (folder_if (is_folder first) (record { entries = first; records = records_of first second; holder = here; depth = depth; named = named })
        (record { each = λ e is. by_cond (is_folder first && is_source second) second (λ both. let t = two_true (is_folder first) (is_source second) both in pair_records bytes j slot t.0 t.1) e is }))
        (folder_if (is_folder second) (record { entries = second; records = None; holder = here; depth = depth; named = false }) (record { each = λ e is. absurd (none_entry e is) }))

    folders_all : (bytes : Block) (depth : ℕ) (named : Bool) (n : ℕ) (folders : List Folder) → ((i : ℕ) → i < 2 * n → HasSlot (image at) bytes i) → AreFolders here (image at) depth named n folders → AllByRecursion (HasRecordsOf arena image k) folders
    folders_all bytes depth named n folders each none = tt
    folders_all bytes depth named n folders each (more j found old are) =
        all_join (HasRecordsOf arena image k) old (pair_folders here (entry_of ((image at).slot (2 * j))) (entry_of ((image at).slot (2 * j + 1))) depth (named && found))
        (folders_all bytes depth named j old (λ i lt. each i (omega (arith, lt))) are) (pair_all bytes j depth (named && found) (each (2 * j + 1) (omega arith)))

-- ---- a step that was followed

module _ (arena : Arena) (device : List Block) (image : Image) (s : Super) (k : Kept) (rest : List Step) (step : Step) (old new : Walk) (w : Walking arena device image s k (step ∷ rest) old) (v : Walking arena device image s k rest new) (depth : ℕ) (named : Bool)
    (g : HasGrounds arena image k old.noted (old.steps.items ++ step ∷ []) old.folders.items) where
  front : AllByRecursion (IsPlaced arena image k) old.steps.items
  front = all_front (IsPlaced arena image k) old.steps.items (step ∷ []) g.ways

  this : IsPlaced arena image k step
  this = (all_back (IsPlaced arena image k) old.steps.items (step ∷ []) g.ways).0

  -- nothing is left that was not before
  fewer : (noted : Option Broken) (steps : List Step) (folders : List Folder) → steps ≡ old.steps.items → folders ≡ old.folders.items → KeepsFormats old.noted noted → HasGrounds arena image k noted steps folders
  fewer noted steps folders is is' keeps = record {
    formats = formats_kept arena image k old.noted noted keeps g.formats;
    ways = subst (λ (xs : List Step). AllByRecursion (IsPlaced arena image k) xs) (sym is) front;
    sources = subst (λ (fs : List Folder). AllByRecursion (HasRecordsOf arena image k) fs) (sym is') g.sources;
  }

  module _ (at : ℕ) (is : step.pointer ≡ Local at) (m : Label) (q : HasPath arena image k at m) (kind : m.kind ≡ step.kind) (slots : HasSlots step.kind (image at) (block_of device at)) where
    abbrev holder : Holder
    holder = record { block = at; label = m }

    ways_by : (d : Kind) → step.kind ≡ d → AllByRecursion (IsPlaced arena image k) (steps_of step holder (image at) d)
    ways_by (Data zero) e = tt
    ways_by (Data (suc level)) e = all_data arena image k at m q step this is level 409 e
    ways_by (Dir zero) e = all_pairs arena image k at m q (kind ∙ e) 102
    ways_by (Dir (suc level)) e = all_dir arena image k at m q step this is level 409
    ways_by Root e = tt

    same_sources : (folders : List Folder) → folders ≡ old.folders.items → AllByRecursion (HasRecordsOf arena image k) folders
    same_sources folders is' = subst (λ (fs : List Folder). AllByRecursion (HasRecordsOf arena image k) fs) (sym is') g.sources

    sources_by : (d : Kind) → step.kind ≡ d → (folders : List Folder) → Puts holder (image at) depth named d old.folders.items folders → AllByRecursion (HasRecordsOf arena image k) folders
    sources_by (Data level) e folders p = same_sources folders p
    sources_by (Dir zero) e folders p =
        let inner : HasSlots (Dir zero) (image at) (block_of device at) = subst (λ (d : Kind). HasSlots d (image at) (block_of device at)) e slots in
        subst (λ (fs : List Folder). AllByRecursion (HasRecordsOf arena image k) fs) (sym p.behind) (all_join (HasRecordsOf arena image k) old.folders.items p.added g.sources
        (folders_all arena image k at m q (kind ∙ e) (block_of device at) _ named 102 p.added (λ i lt. inner.0 i (omega (arith, lt))) p.are))
    sources_by (Dir (suc level)) e folders p = same_sources folders p
    sources_by Root e folders p = same_sources folders p

    module _ (clean : Clean step (image at) (block_of device at) old.noted new.noted) (isnt : KeepsFormats old.noted new.noted → ⊥) where
      -- a block of this kind is not of its format
      by_read : ((d : step.kind ≡ Data 0) → ⊥) → BreaksFormats arena image k at
      by_read other' = block q.path at q.leads (λ read.
          isnt (clean (subst (λ (b : Block). IsRead step.kind (image at) b) (w.holds.bytes at) (subst (λ (d : Kind). IsRead d (image at) ((image at).bytes)) (q.link ∙ kind) read)) (λ e holds. absurd (other' e))))

      leaf_read : step.kind ≡ Data 0 → IsRead step.kind (image at) (block_of device at)
      leaf_read e =
          let ends : EndsAt 0 (image at) = subst (λ (d : Kind). HasSlots d (image at) (block_of device at)) e slots in
          subst (λ (d : Kind). IsRead d (image at) (block_of device at)) (sym e) (record { bytes_are = w.holds.bytes at; ends = ends })

      not_nil : step.pointer ≡ Nil → ⊥
      not_nil e = let x : Nil ≡ Local at = sym e ∙ is in cc

      by_holds : (h : Holds) → step.holds ≡ h → step.kind ≡ Data 0 → BreaksFormats arena image k at
      by_holds Bytes e d = absurd (isnt (clean (leaf_read d) (λ e' no'. absurd (no' e))))
      by_holds Entries e d = absurd (this.entries e 0 d)
      by_holds Records e d =
          let h : IsAtRecords arena image k step = this.records e 0 d not_nil in
          leaf h.path h.more h.slot at h.names (h.kind ∙ d) (sym h.pointer ∙ is) (λ l. isnt (clean (leaf_read d) (λ e' no'. subst (λ (b : Block). IsLeaf b) (w.holds.bytes at) l)))

      dir_leaf : (a : ℕ) → Dir a ≡ Data 0 → ⊥
      dir_leaf a e = cc

      root_leaf : Root ≡ Data 0 → ⊥
      root_leaf e = cc

      inner_leaf : (a : ℕ) → Data (suc a) ≡ Data 0 → ⊥
      inner_leaf a e = cc

      by_kind : (d : Kind) → step.kind ≡ d → BreaksFormats arena image k at
      by_kind (Data zero) e = by_holds step.holds refl e
      by_kind (Data (suc level)) e = by_read (λ leaf'. inner_leaf level (sym e ∙ leaf'))
      by_kind (Dir level) e = by_read (λ leaf'. dir_leaf level (sym e ∙ leaf'))
      by_kind Root e = by_read (λ leaf'. root_leaf (sym e ∙ leaf'))

  after_block : (at : ℕ) → step.pointer ≡ Local at → Reaches device image depth named step at old new → HasGrounds arena image k new.noted new.steps.items new.folders.items
  after_block at is (again m allowed marks same same' noted kept) = fewer new.noted new.steps.items new.folders.items same same' (keeps_lower old.noted new.noted 7 at (λ e. omega (arith, e)) noted)
  after_block at is (enters m allowed marks steps folders notes read adds leafs seeks bytes deeps clean asks eights heads) =
      let known = old.labels.known.items in
      let t = taken_of device known at m w.goes.table allowed.known in
      let slots : HasSlots step.kind (image at) (block_of device at) = subst (λ (d : Kind). HasSlots d (image at) (block_of device at)) allowed.may.kind (slots_on arena device image s k rest step old new w at m is t) in
      let q : HasPath arena image k at m = v.goes.paths at m (reached_new known new.labels.known.items at w.goes.table.up marks m allowed.known) in
      record {
        formats = formats_at arena image k at old.noted new.noted notes (λ isnt. by_kind at is m q allowed.may.kind slots clean isnt step.kind refl) g.formats;
        ways = subst (λ (xs : List Step). AllByRecursion (IsPlaced arena image k) xs) (sym (steps slots)) (all_join (IsPlaced arena image k) old.steps.items (steps_of step (record { block = at; label = m }) (image at) step.kind) front (ways_by at is m q allowed.may.kind slots step.kind refl));
        sources = sources_by at is m q allowed.may.kind slots step.kind refl new.folders.items (folders slots);
      }

  pub grounds_on : Follows device image depth named step old new → HasGrounds arena image k new.noted new.steps.items new.folders.items
  grounds_on (nowhere nil same) = subst (λ (x : Walk). HasGrounds arena image k x.noted x.steps.items x.folders.items) (sym same) (fewer old.noted old.steps.items old.folders.items refl refl (record { same = λ b e five. e }))
  grounds_on (held x is same) = subst (λ (y : Walk). HasGrounds arena image k y.noted y.steps.items y.folders.items) (sym same)
      (fewer (lower old.noted 9 step.holder.block) old.steps.items old.folders.items refl refl (keeps_lower old.noted (lower old.noted 9 step.holder.block) 9 step.holder.block (λ e. omega (arith, e)) refl))
  grounds_on (local at is r) = after_block at is r

-- ---- rule 6

pub follow_keeps : (device : List Block) (image : Image) (depth : ℕ) (named : Bool) (step : Step) (old new : Walk) → Follows device image depth named step old new → KeepsPairs old.noted new.noted
follow_keeps device image depth named step old new (nowhere nil same) = pairs_same old.noted new.noted (ap (λ (x : Walk). x.noted) same)
follow_keeps device image depth named step old new (held x is same) = pairs_lower old.noted new.noted 9 step.holder.block (λ e. omega (arith, e)) (ap (λ (y : Walk). y.noted) same)
follow_keeps device image depth named step old new (local at is (again m allowed marks same same' noted kept)) = pairs_lower old.noted new.noted 7 at (λ e. omega (arith, e)) noted
follow_keeps device image depth named step old new (local at is (enters m allowed marks steps folders notes read adds leafs seeks bytes deeps clean asks eights heads)) = pairs_at at old.noted new.noted notes
