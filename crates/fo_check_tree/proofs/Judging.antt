-- Which directories are left or judged, with one step more of the walk.
use Rattle.std.proofs.Common.{◌≡◌, ◌≢◌, ⊎_elim, inl, inr, ℕ, zero, suc, ◌+◌, ◌-◌, ◌*◌, ◌^◌, ◌<◌, ◌≤◌, Bool, true, false, not, List, [], ◌∷◌, ◌++◌, length, append-nil, Option, Some, None, refl, sym, ap, ◌∙◌, subst, arith}
use Rattle.std.specs.Prelude.{◌&&◌, cond, min}
use Rattle.std.proofs.lemmas.Bool.{cases_eq}
use Rattle.fo_disk.specs.Disk.{Block}
use Rattle.fo_image.specs.declared.types.Kind.{Kind}
use Rattle.fo_image.specs.declared.types.Kind.TheVariants.{Data, Dir, Root}
use Rattle.fo_image.specs.declared.types.Entry.{Entry}
use Rattle.fo_image.specs.declared.types.Label.{Label}
use Rattle.fo_image.specs.declared.types.Super.{Super}
use Rattle.fo_image.specs.declared.types.Pointer.TheVariants.{Nil, Local}
use Rattle.fo_image.specs.Format.{ActiveHolds}
use Rattle.fo_crash.specs.declared.slot.Slot.{Slot}
use Rattle.fo_crash.specs.declared.slot.Slot.TheVariants.{Pointer as To, Entry as Head, Prev}
use Rattle.fo_crash.specs.Images.{Content, Image, Arena, Link, kind_of_top}
use Rattle.fo_sound.specs.Image.{block_of, IsDataBlock, HasLabel}
use Rattle.fo_good.specs.Means.{IsRead, HasEntry, AreEntries}
use Rattle.fo_good.specs.Trees.{IsEntries, IsRecords}
use Rattle.fo_good.specs.Sound.{Kept}
use Rattle.fo_check_names.specs.Pairs.{is_folder, is_source, records_of}
use Rattle.fo_check_tree.specs.declared.broken.Broken.{Broken}
use Rattle.fo_check_labels.specs.declared.labels.Known.{Known}
use Rattle.fo_check_tree.specs.declared.walk.Folder.{Folder}
use Rattle.fo_check_tree.specs.declared.walk.Holder.{Holder}
use Rattle.fo_check_tree.specs.declared.walk.Step.{Step}
use Rattle.fo_check_tree.specs.declared.walk.Walk.{Walk}
use Rattle.fo_check_tree.specs.Answer.{HasOwnNames}
use Rattle.fo_check_tree.specs.Dirs.{link_at, HasMeta, IsJudged, AreJudged}
use Rattle.fo_check_tree.specs.Follows.{Puts, Reaches, Follows}
use Rattle.fo_check_tree.specs.Follows.Reaches.{again, enters}
use Rattle.fo_check_tree.specs.Follows.Follows.{nowhere, held, local}
use Rattle.fo_check_tree.specs.Listing.{SomeOf, IsMetaOf}
use Rattle.fo_check_tree.specs.Lower.{lower, level}
use Rattle.fo_check_tree.specs.Pairing.{Grows}
use Rattle.fo_check_tree.specs.Slots.{HasSlots, entry_of, pair_folders, folders_by, AreFolders, AddsFolders}
use Rattle.fo_check_tree.specs.Slots.AreFolders.{none, more}
use Rattle.fo_check_tree.specs.Walking.{Reached, Walking}
use Rattle.fo_check_tree.proofs.Leaves.{some_left, some_right, some_parts}
use Rattle.fo_check_tree.proofs.Levels.{level-lower}
use Rattle.fo_check_tree.proofs.Reaching.{same_label, reached_cases, table_kept, reached_new}
use Rattle.fo_check_tree.proofs.Stepping.{taken_of, slots_on}

-- ---- entries

pub record Entry' (s : Slot) (dir : Bool) : Type 0 where
  pub entry : Entry
  pub slot : s ≡ Head entry
  pub active : entry.active ≡ true
  pub flag : entry.dir ≡ dir

pub entries_is : (s : Slot) → IsEntries s → Entry' s true
entries_is (Head e) h = record { entry = e; slot = refl; active = h.0; flag = h.1 }
entries_is (To p) h = absurd h
entries_is (Prev epoch at) h = absurd h

pub records_is : (s : Slot) → IsRecords s → Entry' s false
records_is (Head e) h = record { entry = e; slot = refl; active = h.0; flag = h.1 }
records_is (To p) h = absurd h
records_is (Prev epoch at) h = absurd h

both : (a b : Bool) → a ≡ true → b ≡ true → (a && b) ≡ true
both a b p q = ap (λ (x : Bool). x && b) p ∙ q

module _ (image : Image) (at : ℕ) (here : Holder) (depth : ℕ) where
  -- The folder of a pair has the records of its second entry.
  in_pair : (k : ℕ) (named : Bool) → IsEntries ((image at).slot (2 * k)) → IsRecords ((image at).slot (2 * k + 1)) → SomeOf (HasMeta image at (2 * k + 1)) (pair_folders here (entry_of ((image at).slot (2 * k))) (entry_of ((image at).slot (2 * k + 1))) depth named)
  in_pair k named a b =
      let e = entries_is ((image at).slot (2 * k)) a in
      let m = records_is ((image at).slot (2 * k + 1)) b in
      let folder : is_folder e.entry ≡ true = both e.entry.active e.entry.dir e.active e.flag in
      let source : is_source m.entry ≡ true = both m.entry.active (not m.entry.dir) m.active (ap not m.flag) in
      let records : records_of e.entry m.entry ≡ Some m.entry = ap (λ (x : Bool). cond (x && is_source m.entry) (Some m.entry) None) folder ∙ ap (λ (x : Bool). cond x (Some m.entry) None) source in
      let f : Folder = record { entries = e.entry; records = Some m.entry; holder = here; depth = depth; named = named } in
      let one : folders_by here e.entry (records_of e.entry m.entry) depth named ≡ f ∷ [] = ap (λ (r : Option Entry). folders_by here e.entry r depth named) records ∙ ap (λ (x : Bool). cond x (f ∷ []) []) folder in
      let has : HasMeta image at (2 * k + 1) f = record { entry = m.entry; is = refl; slot = m.slot } in
      subst (λ (x : Entry). SomeOf (HasMeta image at (2 * k + 1)) (pair_folders here x (entry_of ((image at).slot (2 * k + 1))) depth named)) (sym (ap entry_of e.slot))
      (subst (λ (y : Entry). SomeOf (HasMeta image at (2 * k + 1)) (pair_folders here e.entry y depth named)) (sym (ap entry_of m.slot))
      (some_left (HasMeta image at (2 * k + 1)) (folders_by here e.entry (records_of e.entry m.entry) depth named) (folders_by here m.entry None depth false)
      (subst (λ (fs : List Folder). SomeOf (HasMeta image at (2 * k + 1)) fs) (sym one) (inl has))))

  in_folders : (named : Bool) (n : ℕ) (folders : List Folder) → AreFolders here (image at) depth named n folders → (p : ℕ) → p < n → IsEntries ((image at).slot (2 * p)) → IsRecords ((image at).slot (2 * p + 1)) → SomeOf (HasMeta image at (2 * p + 1)) folders
  in_folders named n folders none p lt a b = absurd (omega (arith, lt))
  in_folders named n folders (more k found old are) p lt a b =
      let added : List Folder = pair_folders here (entry_of ((image at).slot (2 * k))) (entry_of ((image at).slot (2 * k + 1))) depth (named && found) in
      ⊎_elim
      (λ (same : p ≡ k). some_right (HasMeta image at (2 * p + 1)) old added (subst (λ (i : ℕ). SomeOf (HasMeta image at (2 * i + 1)) added) (sym same)
      (in_pair k (named && found) (subst (λ (i : ℕ). IsEntries ((image at).slot (2 * i))) same a) (subst (λ (i : ℕ). IsRecords ((image at).slot (2 * i + 1))) same b))))
      (λ (apart : p ≢ k). some_left (HasMeta image at (2 * p + 1)) old added (in_folders named k old are p (omega (arith, lt, apart)) a b))
      (cases_eq p k)

pub puts_more : (here : Holder) (c : Content) (depth : ℕ) (named : Bool) (kind : Kind) (old new : List Folder) → Puts here c depth named kind old new → Grows old new
puts_more here c depth named (Data level) old new w = record { added = []; is = w ∙ sym (append-nil old) }
puts_more here c depth named (Dir zero) old new w = record { added = w.added; is = w.behind }
puts_more here c depth named (Dir (suc level)) old new w = record { added = []; is = w ∙ sym (append-nil old) }
puts_more here c depth named Root old new w = record { added = []; is = w ∙ sym (append-nil old) }

pub holds_active : (e : Entry) → (a : Bool) → a ≡ true → ActiveHolds a e → e.size ≤ 8192 * 409 ^ e.depth
holds_active e true is h = h.0.room
holds_active e false is h = absurd (cc)

module _ (arena : Arena) (device : List Block) (image : Image) (s : Super) (k : Kept) where
  -- ---- folders that are added

  judged_more : (others folders folders' added : List Folder) (at i : ℕ) → folders' ≡ folders ++ added → IsJudged arena image k (others ++ folders) at i → IsJudged arena image k (others ++ folders') at i
  judged_more others folders folders' added at i is w = subst (λ (fs : List Folder). IsJudged arena image k (others ++ fs) at i) (sym is) (⊎_elim
      (λ (h : SomeOf (HasMeta image at i) (others ++ folders)). inl (⊎_elim
      (λ (a : SomeOf (HasMeta image at i) others). some_left (HasMeta image at i) others (folders ++ added) a)
      (λ (b : SomeOf (HasMeta image at i) folders). some_right (HasMeta image at i) others (folders ++ added) (some_left (HasMeta image at i) folders added b))
      (some_parts (HasMeta image at i) others folders h)))
      (λ (n : HasOwnNames arena image k (link_at image at i)). inr n)
      w)

  pub judged_like : (others : List Folder) (old new : Walk) → new.labels.known.items ≡ old.labels.known.items → new.folders.items ≡ old.folders.items → level new.noted ≤ level old.noted → AreJudged arena image k others old → AreJudged arena image k others new
  judged_like others old new known folders low w = record {
    top = λ records quiet. subst (λ (fs : List Folder). IsJudged arena image k (others ++ fs) k.at 1) (sym folders) (w.top records (omega (arith, quiet, low)));
    pairs = λ quiet at p l r leaf lt a b. subst (λ (fs : List Folder). IsJudged arena image k (others ++ fs) at (2 * p + 1)) (sym folders)
        (w.pairs (omega (arith, quiet, low)) at p l (subst (λ (ks : List Known). Reached ks at l) known r) leaf lt a b);
  }

  module _ (rest : List Step) (step : Step) (old new : Walk) (w : Walking arena device image s k (step ∷ rest) old) (others : List Folder) (j : AreJudged arena image k others old) (depth : ℕ) (named : Bool) (lower' : level new.noted ≤ level old.noted) where
    after_block : (at : ℕ) → step.pointer ≡ Local at → Reaches device image depth named step at old new → AreJudged arena image k others new
    after_block at is (again m allowed marks same same' noted kept) = judged_like others old new marks.same same' lower' j
    after_block at is (enters m allowed marks steps folders notes read adds leafs seeks bytes deeps clean asks eights heads) = record {
      top = λ records quiet. judged_more others old.folders.items new.folders.items grows.added k.at 1 grows.is (j.top records (omega (arith, quiet, lower')));
      pairs = λ quiet b p l r leaf lt x y. ⊎_elim
          (λ (same : b ≡ at).
          let r' : Reached new.labels.known.items at l = subst (λ (c : ℕ). Reached new.labels.known.items c l) same r in
          let mine : m ≡ l = same_label new.labels.known.items at m l (table_kept known new.labels.known.items at w.goes.table.up marks device w.goes.table).up (reached_new known new.labels.known.items at w.goes.table.up marks m allowed.known) r' in
          let kind : step.kind ≡ Dir zero = sym allowed.may.kind ∙ ap (λ (x : Label). x.kind) mine ∙ leaf in
          let put : AddsFolders here (image at) (min (depth + 1) (2 ^ 32 - 1)) named 102 old.folders.items new.folders.items = subst (λ (d : Kind). Puts here (image at) depth named d old.folders.items new.folders.items) kind (folders slots) in
          let some' : SomeOf (HasMeta image at (2 * p + 1)) put.added = in_folders image at here (min (depth + 1) (2 ^ 32 - 1)) named 102 put.added put.are p lt
          (subst (λ (c : ℕ). IsEntries ((image c).slot (2 * p))) same x) (subst (λ (c : ℕ). IsRecords ((image c).slot (2 * p + 1))) same y) in
          subst (λ (c : ℕ). IsJudged arena image k (others ++ new.folders.items) c (2 * p + 1)) (sym same) (inl
          (some_right (HasMeta image at (2 * p + 1)) others new.folders.items (subst (λ (fs : List Folder). SomeOf (HasMeta image at (2 * p + 1)) fs) (sym put.behind)
          (some_right (HasMeta image at (2 * p + 1)) old.folders.items put.added some')))))
          (λ (before : Reached known b l). judged_more others old.folders.items new.folders.items grows.added b (2 * p + 1) grows.is (j.pairs (omega (arith, quiet, lower')) b p l before leaf lt x y))
          (reached_cases known new.labels.known.items at w.goes.table.up marks b l r);
    }
      where
        known : List Known
        known = old.labels.known.items

        here : Holder
        here = record { block = at; label = m }

        t : IsDataBlock (length device) at × HasLabel device at m
        t = taken_of device known at m w.goes.table allowed.known

        slots : HasSlots step.kind (image at) (block_of device at)
        slots = subst (λ (d : Kind). HasSlots d (image at) (block_of device at)) allowed.may.kind (slots_on arena device image s k rest step old new w at m is t)

        grows : Grows old.folders.items new.folders.items
        grows = puts_more here (image at) depth named step.kind old.folders.items new.folders.items (folders slots)

    pub judged_on : Follows device image depth named step old new → AreJudged arena image k others new
    judged_on (nowhere nil same) = subst (λ (v : Walk). AreJudged arena image k others v) (sym same) j
    judged_on (held x is same) = subst (λ (v : Walk). AreJudged arena image k others v) (sym same) (judged_like others old (record old { noted = lower old.noted 9 step.holder.block }) refl refl (level-lower old.noted 9 step.holder.block (omega arith)).0 j)
    judged_on (local at is r) = after_block at is r

  -- ---- a folder that is opened, and one that was judged

  pub judged_open : (old new : Walk) (f : Folder) → new.labels.known.items ≡ old.labels.known.items → new.noted ≡ old.noted → old.folders.items ≡ new.folders.items ++ f ∷ [] → AreJudged arena image k [] old → AreJudged arena image k (f ∷ []) new
  judged_open old new f known noted folders w = record {
    top = λ records quiet. turned k.at 1 (w.top records (subst (λ (o : Option Broken). 5 < level o) noted quiet));
    pairs = λ quiet at p l r leaf lt a b. turned at (2 * p + 1) (w.pairs (subst (λ (o : Option Broken). 5 < level o) noted quiet) at p l (subst (λ (ks : List Known). Reached ks at l) known r) leaf lt a b);
  }
    where
      turned : (at i : ℕ) → IsJudged arena image k old.folders.items at i → IsJudged arena image k (f ∷ new.folders.items) at i
      turned at i h = ⊎_elim
          (λ (x : SomeOf (HasMeta image at i) old.folders.items). ⊎_elim
          (λ (a : SomeOf (HasMeta image at i) new.folders.items). inl (inr a))
          (λ (b : SomeOf (HasMeta image at i) (f ∷ [])). ⊎_elim (λ (y : HasMeta image at i f). inl (inl y)) (λ (no' : ⊥). absurd no') b)
          (some_parts (HasMeta image at i) new.folders.items (f ∷ []) (subst (λ (fs : List Folder). SomeOf (HasMeta image at i) fs) folders x)))
          (λ (n : HasOwnNames arena image k (link_at image at i)). inr n)
          h

  head_is : (a b : Entry) → Head a ≡ Head b → a ≡ b
  head_is a b e = cc

  top_kind : (e : Entry) → e.dir ≡ false → kind_of_top (Head e) ≡ Data e.depth
  top_kind e file = ap (λ (d : Bool). cond d (Dir e.depth) (Data e.depth)) file

  meta_of : (at i : ℕ) (f : Folder) (h : HasMeta image at i f) → h.entry.dir ≡ false → h.entry.size ≤ 8192 * 409 ^ h.entry.depth → h.entry.depth ≤ 4 → IsMetaOf f (link_at image at i)
  meta_of at i f h file room low = record { entry = h.entry; is = h.is; slot = h.slot; file = file; kind = ap kind_of_top h.slot ∙ top_kind h.entry file; room = room; shallow = low }

  pub judged_folder : (new : Walk) (f : Folder) → Walking arena device image s k [] new → ((meta : Link) → IsMetaOf f meta → 5 < level new.noted → HasOwnNames arena image k meta) → AreJudged arena image k (f ∷ []) new → AreJudged arena image k [] new
  judged_folder new f w names j = record {
    top = λ records quiet. closed k.at 1 (j.top records quiet) (λ h. names (link_at image k.at 1) (top_meta records h) quiet);
    pairs = λ quiet at p l r leaf lt a b. closed at (2 * p + 1) (j.pairs quiet at p l r leaf lt a b) (λ h. names (link_at image at (2 * p + 1)) (pair_meta quiet at p l r leaf lt b h) quiet);
  }
    where
      closed : (at i : ℕ) → IsJudged arena image k (f ∷ new.folders.items) at i → (HasMeta image at i f → HasOwnNames arena image k (link_at image at i)) → IsJudged arena image k new.folders.items at i
      closed at i h now = ⊎_elim
          (λ (x : SomeOf (HasMeta image at i) (f ∷ new.folders.items)). ⊎_elim (λ (y : HasMeta image at i f). inr (now y)) (λ (z : SomeOf (HasMeta image at i) new.folders.items). inl z) x)
          (λ (n : HasOwnNames arena image k (link_at image at i)). inr n)
          h

      top_meta : IsRecords ((image k.at).slot 1) → HasMeta image k.at 1 f → IsMetaOf f (link_at image k.at 1)
      top_meta records h =
          ⊎_elim
          (λ low.
          let m = records_is ((image k.at).slot 1) records in
          let same : h.entry ≡ k.root.meta = head_is h.entry k.root.meta (sym h.slot ∙ low.0) in
          let same' : h.entry ≡ m.entry = head_is h.entry m.entry (sym h.slot ∙ m.slot) in
          let active : k.root.meta.active ≡ true = ap (λ (e : Entry). e.active) (sym same ∙ same') ∙ m.active in
          meta_of k.at 1 f h (ap (λ (e : Entry). e.dir) same' ∙ m.flag)
          (subst (λ (e : Entry). e.size ≤ 8192 * 409 ^ e.depth) (sym same) (holds_active k.root.meta k.root.meta.active active w.holds.active.block.holds.meta_holds.active_holds))
          (subst (λ (e : Entry). e.depth ≤ 4) (sym same) low.1))
          (λ high. let no : To Nil ≡ Head h.entry = sym high.0 ∙ h.slot in absurd (cc))
          w.holds.meta

      pair_meta : 5 < level new.noted → (at p : ℕ) (l : Label) → Reached new.labels.known.items at l → l.kind ≡ Dir zero → p < 102 → IsRecords ((image at).slot (2 * p + 1)) → HasMeta image at (2 * p + 1) f → IsMetaOf f (link_at image at (2 * p + 1))
      pair_meta quiet at p l r leaf lt b h =
          let read : AreEntries (image at) (block_of device at) = subst (λ (d : Kind). IsRead d (image at) (block_of device at)) leaf (w.goes.read quiet at l r) in
          let e : HasEntry (image at) (block_of device at) (2 * p + 1) = read.each (2 * p + 1) (omega (arith, lt)) in
          let m = records_is ((image at).slot (2 * p + 1)) b in
          let same : h.entry ≡ e.entry = head_is h.entry e.entry (sym h.slot ∙ e.is) in
          let same' : h.entry ≡ m.entry = head_is h.entry m.entry (sym h.slot ∙ m.slot) in
          let active : e.entry.active ≡ true = ap (λ (x : Entry). x.active) (sym same ∙ same') ∙ m.active in
          meta_of at (2 * p + 1) f h (ap (λ (x : Entry). x.dir) same' ∙ m.flag)
          (subst (λ (x : Entry). x.size ≤ 8192 * 409 ^ x.depth) (sym same) (holds_active e.entry e.entry.active active e.spelled.holds.active_holds))
          (subst (λ (x : Entry). x.depth ≤ 4) (sym same) e.shallow)
