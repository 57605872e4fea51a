-- Sources of entries, with a step that was followed: one that is too deep is noted, and the folders that came are those of the next.
use Rattle.std.proofs.Common.{◌≡◌, ⊎_elim, inl, inr, ℕ, zero, suc, ◌+◌, ◌*◌, ◌/◌, ◌-◌, ◌^◌, ◌<◌, ◌≤◌, Bool, true, false, List, [], ◌∷◌, ◌++◌, Option, Some, None, refl, sym, ap, ◌∙◌, subst, arith}
use Rattle.std.specs.Prelude.{◌&&◌, not, cond, min}
use Rattle.std.specs.List.{AllByRecursion}
use Rattle.std.proofs.lemmas.Bool.{false≢true}
use Rattle.fo_disk.specs.Disk.{Block}
use Rattle.fo_image.specs.declared.types.Kind.{Kind}
use Rattle.fo_image.specs.declared.types.Kind.TheVariants.{Data, Dir, Root}
use Rattle.fo_image.specs.declared.types.Entry.{Entry}
use Rattle.fo_image.specs.declared.types.Super.{Super}
use Rattle.fo_image.specs.declared.types.Pointer.{Pointer}
use Rattle.fo_image.specs.declared.types.Pointer.TheVariants.{Nil, Local, Score as Held}
use Rattle.fo_crash.specs.declared.slot.Slot.{Slot}
use Rattle.fo_crash.specs.declared.slot.Slot.TheVariants.{Pointer as To, Entry as Head, Prev}
use Rattle.fo_crash.specs.Images.{Content, Image, Arena, Link, target, goes, leaf_path, depth_of, kind_of_top, entry_of as entry_at}
use Rattle.fo_sound.specs.Image.{block_of}
use Rattle.fo_good.specs.Means.{HasEntry, AreEntries}
use Rattle.fo_good.specs.Trees.{IsEntries}
use Rattle.fo_good.specs.Trees.InTree.{below as tree_below}
use Rattle.fo_good.specs.Sound.{Kept}
use Rattle.fo_check_names.specs.Pairs.{is_folder, is_source, records_of}
use Rattle.fo_check_tree.specs.declared.broken.Broken.{Broken}
use Rattle.fo_check_tree.specs.declared.walk.Folder.{Folder}
use Rattle.fo_check_tree.specs.declared.walk.Holder.{Holder}
use Rattle.fo_check_tree.specs.declared.walk.Holds.{Holds}
use Rattle.fo_check_tree.specs.declared.walk.Step.{Step}
use Rattle.fo_check_tree.specs.declared.walk.Walk.{Walk}
use Rattle.fo_check_tree.specs.Answer.{BreaksNumbers}
use Rattle.fo_check_tree.specs.Answer.BreaksNumbers.{deep as breaks_deep}
use Rattle.fo_check_tree.specs.Depths.{HasFolder, NotesDepths}
use Rattle.fo_check_tree.specs.Dirs.{link_at}
use Rattle.fo_check_tree.specs.Follows.{Puts, Reads, Reaches, Follows}
use Rattle.fo_check_tree.specs.Follows.Reaches.{again, enters}
use Rattle.fo_check_tree.specs.Follows.Follows.{nowhere, held, local}
use Rattle.fo_check_tree.specs.Lower.{lower, level}
use Rattle.fo_check_tree.specs.Notes.{KeepsNumbers, IsDeep, NotesFolders}
use Rattle.fo_check_tree.specs.Numbers.{IsDataStep, IsWay, AreBelow, IsSourceIn, HasSources}
use Rattle.fo_check_tree.specs.Pairing.{IsInEntries, IsQuiet, IsEntriesStep}
use Rattle.fo_check_tree.specs.Slots.{HasSlots, steps_by, steps_below, steps_by_pairs, steps_of, entry_of, top_step, folders_by, pair_folders, AreFolders, AddsFolders}
use Rattle.fo_check_tree.specs.Slots.AreFolders.{none, more}
use Rattle.fo_check_tree.specs.Walking.{Walking}
use Rattle.fo_check_tree.proofs.Leaves.{all_join, all_front, all_back, all_by}
use Rattle.fo_check_tree.proofs.Levels.{level-lower}
use Rattle.fo_check_tree.proofs.Noting.{numbers_same, numbers_lower}
use Rattle.fo_check_tree.proofs.Seeking.{all_below, entry_is, path_here, quiet_pairs}
use Rattle.fo_check_tree.proofs.Slots.{none_below, one_below}
use Rattle.fo_check_tree.proofs.Stepping.{taken_of, slots_on}

front_true : (a b : Bool) → (a && b) ≡ true → a ≡ true
front_true true b e = refl
front_true false b e = absurd (false≢true e)

back_true : (a b : Bool) → (a && b) ≡ true → b ≡ true
back_true true b e = e
back_true false b e = absurd (false≢true e)

not_true : (b : Bool) → not b ≡ true → b ≡ false
not_true true e = absurd (false≢true e)
not_true false e = refl

data_dir : (a b : ℕ) → Data a ≡ Dir b → ⊥
data_dir a b e = cc

entry_some : (a b : Entry) → Some a ≡ Some b → a ≡ b
entry_some a b e = cc

none_some : {b : Entry} → None ≡ Some b → ⊥
none_some e = cc

-- ---- slots that name sources of entries

entries_of : (s : Slot) → is_folder (entry_of s) ≡ true → IsEntries s
entries_of (Head e) h = (front_true e.active e.dir h, back_true e.active e.dir h)
entries_of (To p) h = absurd (false≢true h)
entries_of (Prev epoch at) h = absurd (false≢true h)

all_cond : (Q : Folder → Type 0) (t : Bool) (f : Folder) → (t ≡ true → Q f) → AllByRecursion Q (cond t (f ∷ []) [])
all_cond Q true f h = (h refl, tt)
all_cond Q false f h = tt

-- the records of a pair are no entries
records_file : (first second e : Entry) → records_of first second ≡ Some e → e.dir ≡ false
records_file first second e is = by (is_folder first && is_source second) refl is
  where
    by : (t : Bool) → (is_folder first && is_source second) ≡ t → cond t (Some second) None ≡ Some e → e.dir ≡ false
    by true h x = ap (λ (d : Entry). d.dir) (sym (entry_some second e x)) ∙ not_true second.dir (back_true second.active (not second.dir) (back_true (is_folder first) (is_source second) h))
    by false h x = absurd (none_some x)

-- What is so of each folder by an entry of the leaf is so of all.
module _ (here : Holder) (c : Content) (deep : ℕ) (Q : Folder → Type 0) (q : (i : ℕ) → i < 204 → is_folder (entry_of (c.slot i)) ≡ true → (f : Folder) → f.entries ≡ entry_of (c.slot i) → f.depth ≡ deep → ((e : Entry) → f.records ≡ Some e → e.dir ≡ false) → Q f) where
  pair_all : (k : ℕ) → k < 102 → (t : Bool) → AllByRecursion Q (pair_folders here (entry_of (c.slot (2 * k))) (entry_of (c.slot (2 * k + 1))) deep t)
  pair_all k lt t =
      let first : Entry = entry_of (c.slot (2 * k)) in
      let second : Entry = entry_of (c.slot (2 * k + 1)) in
      let f : Folder = record { entries = first; records = records_of first second; holder = here; depth = deep; named = t } in
      let g : Folder = record { entries = second; records = None; holder = here; depth = deep; named = false } in
      all_join Q (folders_by here first (records_of first second) deep t) (folders_by here second None deep false)
      (all_cond Q (is_folder first) f (λ folder. q (2 * k) (omega (arith, lt)) folder f refl refl (λ e is. records_file first second e is)))
      (all_cond Q (is_folder second) g (λ folder. q (2 * k + 1) (omega (arith, lt)) folder g refl refl (λ e is. absurd (none_some is))))

  folders_all : (named : Bool) (n : ℕ) (folders : List Folder) → n ≤ 102 → AreFolders here c deep named n folders → AllByRecursion Q folders
  folders_all named n folders le none = tt
  folders_all named n folders le (more k found' old are) = all_join Q old (pair_folders here (entry_of (c.slot (2 * k))) (entry_of (c.slot (2 * k + 1))) deep (named && found'))
      (folders_all named k old (omega (arith, le)) are) (pair_all k (omega (arith, le)) (named && found'))

-- ---- steps to blocks of other sources

data_by : (step : Step) (down : ℕ) (here : Holder) (i : ℕ) (p : Pointer) → AllByRecursion IsDataStep (steps_by step (Data down) here i p)
data_by step down here i Nil = tt
data_by step down here i (Local a) = (record { down = down; kind = refl }, tt)
data_by step down here i (Held x) = (record { down = down; kind = refl }, tt)

data_below : (step : Step) (down : ℕ) (here : Holder) (c : Content) (n : ℕ) → AllByRecursion IsDataStep (steps_below step (Data down) here c n)
data_below step down here c zero = subst (λ (s : List Step). AllByRecursion IsDataStep s) (sym (none_below step (Data down) here c)) tt
data_below step down here c (suc n) = subst (λ (s : List Step). AllByRecursion IsDataStep s) (sym (one_below step (Data down) here c n))
    (all_join IsDataStep (steps_below step (Data down) here c n) (steps_by step (Data down) here n (target (c.slot n))) (data_below step down here c n) (data_by step down here n (target (c.slot n))))

quiet_data : (s : Step) → IsQuiet s → IsDataStep s
quiet_data s q = record { down = q.level; kind = q.kind }

-- ---- one step more

module _ (arena : Arena) (device : List Block) (image : Image) (s : Super) (k : Kept) (rest : List Step) (step : Step) (old new : Walk) (w : Walking arena device image s k (step ∷ rest) old) (low : level new.noted ≤ level old.noted) (depth : ℕ) (named : Bool) (numbers : ℕ)
    (b : 8 < level old.noted → AreBelow arena image k depth (old.steps.items ++ step ∷ [])) (h : HasSources arena image k numbers old.noted old.folders.items) where
  -- the rest of the walk
  abbrev Both : Option Broken → List Step → List Folder → Type 0
  Both noted steps folders = (8 < level noted → AreBelow arena image k depth steps) × HasSources arena image k numbers noted folders

  after_none : (noted : Option Broken) (steps : List Step) (folders : List Folder) → level noted ≤ level old.noted → KeepsNumbers old.noted noted → steps ≡ old.steps.items → folders ≡ old.folders.items → Both noted steps folders
  after_none noted steps folders low' kept is is' = (
    λ above.
        let a = b (omega (arith, above, low')) in
        record {
          above = a.above;
          source = a.source;
          tree = a.tree;
          least = a.least;
          shallow = a.shallow;
          kind = a.kind;
          ways = subst (λ (xs : List Step). AllByRecursion (IsWay arena image a.source) xs) (sym is) (all_front (IsWay arena image a.source) old.steps.items (step ∷ []) a.ways);
        },
    record {
      names = record { each = λ x e eight. h.names.each x (kept.same x e eight) eight };
      sources = λ above. subst (λ (fs : List Folder). AllByRecursion (IsSourceIn arena image k) fs) (sym is') (h.sources (omega (arith, above, low')));
    },
  )

  module _ (a : AreBelow arena image k depth (old.steps.items ++ step ∷ [])) where
    this : IsWay arena image a.source step
    this = (all_back (IsWay arena image a.source) old.steps.items (step ∷ []) a.ways).0

    module _ (at : ℕ) (is : step.pointer ≡ Local at) (here : Holder) where
      added_ways : (kind : Kind) → step.kind ≡ kind → AllByRecursion (IsWay arena image a.source) (steps_of step here (image at) kind)
      added_ways (Data zero) e = tt
      added_ways (Data (suc down)) e = all_by IsDataStep (IsWay arena image a.source) (λ x d. inr d) (steps_below step (Data down) here (image at) 409) (data_below step down here (image at) 409)
      added_ways (Dir zero) e = all_by IsQuiet (IsWay arena image a.source) (λ x q. inr (quiet_data x q)) (steps_by_pairs here (image at) 102) (quiet_pairs here (image at) 102)
      added_ways (Dir (suc down)) e = ⊎_elim
          (λ (v : IsInEntries arena image a.source step). all_by (IsEntriesStep arena image a.source) (IsWay arena image a.source) (λ x y. ⊎_elim (λ (i : IsInEntries arena image a.source x). inl i) (λ (q : IsQuiet x). inr (quiet_data x q)) y) (steps_below step (Dir down) here (image at) 409)
          (all_below arena image a.source step down at here v e (sym v.pointer ∙ is) a.shallow 409 (omega arith)))
          (λ (d : IsDataStep step). absurd (data_dir d.down (suc down) (sym d.kind ∙ e)))
          this
      added_ways Root e = tt

      module _ (leaf : step.kind ≡ Dir zero) where
        in_entries : IsInEntries arena image a.source step
        in_entries = ⊎_elim (λ (v : IsInEntries arena image a.source step). v) (λ (d : IsDataStep step). absurd (data_dir d.down zero (sym d.kind ∙ leaf))) this

        leads_here : target ((goes arena image a.source in_entries.path).slot) ≡ Local at
        leads_here = sym in_entries.pointer ∙ is

        abbrev place : ℕ → ℕ
        place i = step.index * 204 + i

        div_is : (i : ℕ) → i < 204 → place i / 204 ≡ step.index
        div_is i lt = omega (arith, lt)

        link_is : (i : ℕ) → i < 204 → entry_at arena image a.source (place i) ≡ link_at image at i
        link_is i lt = entry_is arena image a.source w.holds.empty step at in_entries leaf leads_here a.shallow a.kind (place i) i (div_is i lt) (omega (arith, lt))

        entries_is : (i : ℕ) → i < 204 → is_folder (entry_of ((image at).slot i)) ≡ true → IsEntries (entry_at arena image a.source (place i)).slot
        entries_is i lt folder = subst (λ (u : Link). IsEntries u.slot) (sym (link_is i lt)) (entries_of ((image at).slot i) folder)

        too_deep : (f : HasFolder (image at)) → 64 < min (depth + 1) (2 ^ 32 - 1) → BreaksNumbers arena image k numbers at
        too_deep f less = breaks_deep a.above a.source (place f.slot) at a.tree (omega (arith, less, a.least)) (entries_is f.slot f.within f.folder)
            (ap (λ (n : ℕ). target ((goes arena image a.source (leaf_path a.source.slot n)).slot)) (div_is f.slot f.within)
            ∙ ap (λ (p : List ℕ). target ((goes arena image a.source p).slot)) (path_here arena image a.source w.holds.empty step at in_entries leaf leads_here a.shallow a.kind) ∙ leads_here)

        source_in : (bytes : Block) → AreEntries (image at) bytes → (i : ℕ) → i < 204 → is_folder (entry_of ((image at).slot i)) ≡ true → (f : Folder) → f.entries ≡ entry_of ((image at).slot i) → f.depth ≡ min (depth + 1) (2 ^ 32 - 1) → ((e : Entry) → f.records ≡ Some e → e.dir ≡ false)
            → IsSourceIn arena image k f
        source_in bytes read i lt folder f entries deep records =
            let e : HasEntry (image at) bytes i = read.each i lt in
            let same : f.entries ≡ e.entry = entries ∙ ap entry_of e.is in
            let dir : e.entry.dir ≡ true = back_true e.entry.active e.entry.dir (ap (λ (x : Slot). is_folder (entry_of x)) (sym e.is) ∙ folder) in
            record {
              above = suc a.above;
              source = entry_at arena image a.source (place i);
              tree = tree_below a.above a.source (place i) a.tree (entries_is i lt folder);
              least = omega (arith, deep, a.least);
              slot = ap (λ (u : Link). u.slot) (link_is i lt) ∙ e.is ∙ ap (λ (x : Entry). Head x) (sym same);
              dir = ap (λ (x : Entry). x.dir) same ∙ dir;
              kind = ap (λ (u : Link). u.kind) (link_is i lt) ∙ ap kind_of_top e.is ∙ ap (λ (d : Bool). cond d (Dir e.entry.depth) (Data e.entry.depth)) dir ∙ ap (λ (x : Entry). Dir x.depth) (sym same);
              shallow = subst (λ (x : Entry). x.depth ≤ 4) (sym same) e.shallow;
              records = records;
            }

  after_block : (at : ℕ) → step.pointer ≡ Local at → Reaches device image depth named step at old new → Both new.noted new.steps.items new.folders.items
  after_block at is (again m allowed marks same same' noted kept) = after_none new.noted new.steps.items new.folders.items low (numbers_lower old.noted new.noted 7 at (λ e. absurd (omega (arith, e))) noted) same same'
  after_block at is (enters m allowed marks steps folders notes read adds leafs seeks bytes deeps clean asks eights heads) = (
    λ above.
        let a = b (omega (arith, above, low)) in
        record {
          above = a.above;
          source = a.source;
          tree = a.tree;
          least = a.least;
          shallow = a.shallow;
          kind = a.kind;
          ways = subst (λ (xs : List Step). AllByRecursion (IsWay arena image a.source) xs) (sym (steps slots))
              (all_join (IsWay arena image a.source) old.steps.items (steps_of step here (image at) step.kind) (all_front (IsWay arena image a.source) old.steps.items (step ∷ []) a.ways) (added_ways a at is here step.kind refl));
        },
    record { names = record { each = names_by step.kind refl }; sources = λ above. sources_by above step.kind refl },
  )
    where
      here : Holder
      here = record { block = at; label = m }

      slots : HasSlots step.kind (image at) (block_of device at)
      slots = let t = taken_of device old.labels.known.items at m w.goes.table allowed.known in subst (λ (d : Kind). HasSlots d (image at) (block_of device at)) allowed.may.kind (slots_on arena device image s k rest step old new w at m is t)

      depths : (kind : Kind) → step.kind ≡ kind → NotesDepths (image at) (min (depth + 1) (2 ^ 32 - 1)) at kind old.noted new.noted
      depths kind e = subst (λ (d : Kind). NotesDepths (image at) (min (depth + 1) (2 ^ 32 - 1)) at d old.noted new.noted) e (eights slots)

      puts : (kind : Kind) → step.kind ≡ kind → Puts here (image at) depth named kind old.folders.items new.folders.items
      puts kind e = subst (λ (d : Kind). Puts here (image at) depth named d old.folders.items new.folders.items) e (folders slots)

      kept_by : KeepsNumbers old.noted new.noted → (x : Broken) → new.noted ≡ Some x → x.rule ≡ 8 → BreaksNumbers arena image k numbers x.block
      kept_by v x e eight = h.names.each x (v.same x e eight) eight

      names_by : (kind : Kind) → step.kind ≡ kind → (x : Broken) → new.noted ≡ Some x → x.rule ≡ 8 → BreaksNumbers arena image k numbers x.block
      names_by (Data down) kind x e eight = kept_by (depths (Data down) kind) x e eight
      names_by (Dir zero) kind x e eight =
          let v : NotesFolders (HasFolder (image at)) (min (depth + 1) (2 ^ 32 - 1)) at old.noted new.noted = depths (Dir zero) kind in
          ⊎_elim
          (λ (before : old.noted ≡ Some x). h.names.each x before eight)
          (λ (d : IsDeep (HasFolder (image at)) (min (depth + 1) (2 ^ 32 - 1)) at old.noted x). subst (λ (n : ℕ). BreaksNumbers arena image k numbers n) d.here (too_deep (b d.above) at is here kind d.folder d.low))
          (v.each x e eight)
      names_by (Dir (suc down)) kind x e eight = kept_by (depths (Dir (suc down)) kind) x e eight
      names_by Root kind x e eight = kept_by (depths Root kind) x e eight

      same_by : 8 < level new.noted → new.folders.items ≡ old.folders.items → AllByRecursion (IsSourceIn arena image k) new.folders.items
      same_by above e = subst (λ (fs : List Folder). AllByRecursion (IsSourceIn arena image k) fs) (sym e) (h.sources (omega (arith, above, low)))

      sources_by : 8 < level new.noted → (kind : Kind) → step.kind ≡ kind → AllByRecursion (IsSourceIn arena image k) new.folders.items
      sources_by above (Data down) kind = same_by above (puts (Data down) kind)
      sources_by above (Dir zero) kind =
          let p : AddsFolders here (image at) (min (depth + 1) (2 ^ 32 - 1)) named 102 old.folders.items new.folders.items = puts (Dir zero) kind in
          let a = b (omega (arith, above, low)) in
          let read' : AreEntries (image at) (block_of device at) = subst (λ (x : Kind). Reads x (image at) (block_of device at) new.noted) kind read (λ e. let no' : Dir zero ≡ Root = e in cc) (subst (λ (x : Kind). HasSlots x (image at) (block_of device at)) kind slots) (w.holds.bytes at) (omega (arith, above)) in
          subst (λ (fs : List Folder). AllByRecursion (IsSourceIn arena image k) fs) (sym p.behind)
          (all_join (IsSourceIn arena image k) old.folders.items p.added (h.sources (omega (arith, above, low)))
          (folders_all here (image at) (min (depth + 1) (2 ^ 32 - 1)) (IsSourceIn arena image k) (λ i lt folder f entries deep records. source_in a at is here kind (block_of device at) read' i lt folder f entries deep records) named 102 p.added (omega arith) p.are))
      sources_by above (Dir (suc down)) kind = same_by above (puts (Dir (suc down)) kind)
      sources_by above Root kind = same_by above (puts Root kind)

  pub deepens_on : Follows device image depth named step old new → Both new.noted new.steps.items new.folders.items
  deepens_on (nowhere nil same) = subst (λ (v : Walk). Both v.noted v.steps.items v.folders.items) (sym same) (after_none old.noted old.steps.items old.folders.items (omega arith) (numbers_same old.noted old.noted refl) refl refl)
  deepens_on (held x is same) = subst (λ (v : Walk). Both v.noted v.steps.items v.folders.items) (sym same)
      (after_none (lower old.noted 9 step.holder.block) old.steps.items old.folders.items (level-lower old.noted 9 step.holder.block (omega arith)).0 (numbers_lower old.noted (lower old.noted 9 step.holder.block) 9 step.holder.block (λ e. absurd (omega (arith, e))) refl) refl refl)
  deepens_on (local at is r) = after_block at is r

-- ---- the steps to the tops of a folder

module _ (arena : Arena) (image : Image) (k : Kept) (numbers : ℕ) where
  pub sources_like : (old new : Option Broken) (folders folders' : List Folder) → level new ≤ level old → KeepsNumbers old new → folders' ≡ folders → HasSources arena image k numbers old folders → HasSources arena image k numbers new folders'
  sources_like old new folders folders' low kept is h = record {
    names = record { each = λ x e eight. h.names.each x (kept.same x e eight) eight };
    sources = λ above. subst (λ (fs : List Folder). AllByRecursion (IsSourceIn arena image k) fs) (sym is) (h.sources (omega (arith, above, low)));
  }

  pub sources_open : (noted : Option Broken) (all rest : List Folder) (f : Folder) → all ≡ rest ++ f ∷ [] → HasSources arena image k numbers noted all → (8 < level noted → IsSourceIn arena image k f) × HasSources arena image k numbers noted rest
  sources_open noted all rest f is h =
      let both : 8 < level noted → AllByRecursion (IsSourceIn arena image k) (rest ++ f ∷ []) = λ above. subst (λ (fs : List Folder). AllByRecursion (IsSourceIn arena image k) fs) is (h.sources above) in
      (λ above. (all_back (IsSourceIn arena image k) rest (f ∷ []) (both above)).0, record { names = h.names; sources = λ above. all_front (IsSourceIn arena image k) rest (f ∷ []) (both above) })

pub below_records : (arena : Arena) (image : Image) (k : Kept) (f : Folder) (e : Entry) (holds : Holds) → f.records ≡ Some e → IsSourceIn arena image k f → AreBelow arena image k f.depth (top_step e holds f.holder ∷ [])
below_records arena image k f e holds is h = record {
  above = h.above;
  source = h.source;
  tree = h.tree;
  least = h.least;
  shallow = let same : depth_of h.source.slot ≡ f.entries.depth = ap depth_of h.slot in omega (arith, same, h.shallow);
  kind = h.kind ∙ ap (λ (n : ℕ). Dir n) (sym (ap depth_of h.slot));
  ways = (inr (record { down = e.depth; kind = ap (λ (d : Bool). cond d (Dir e.depth) (Data e.depth)) (h.records e is) }), tt);
}

pub below_entries : (arena : Arena) (image : Image) (k : Kept) (f : Folder) (holds : Holds) → IsSourceIn arena image k f → AreBelow arena image k f.depth (top_step f.entries holds f.holder ∷ [])
below_entries arena image k f holds h =
    let same : depth_of h.source.slot ≡ f.entries.depth = ap depth_of h.slot in
    record {
      above = h.above;
      source = h.source;
      tree = h.tree;
      least = h.least;
      shallow = omega (arith, same, h.shallow);
      kind = h.kind ∙ ap (λ (n : ℕ). Dir n) (sym same);
      ways = (
        inl (record {
          path = [];
          level = f.entries.depth;
          kind = ap (λ (d : Bool). cond d (Dir f.entries.depth) (Data f.entries.depth)) h.dir;
          pointer = sym (ap target h.slot);
          depth = omega (arith, same);
          index = λ more. refl;
          few = omega arith;
        }),
        tt,
      );
    }
