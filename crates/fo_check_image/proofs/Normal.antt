-- A sound tree is sound as it is read with the device's own bytes and over an arena that holds nothing.
use Rattle.std.proofs.Common.{◌≡◌, inl, ℕ, zero, suc, ◌+◌, ◌*◌, ◌/◌, ◌%◌, ◌≤◌, cond, Bool, true, List, [], ◌∷◌, ◌++◌, length, take, drop, refl, sym, ◌∙◌, ap, subst, arith}
use Rattle.fo_disk.specs.Disk.{Block}
use Rattle.fo_image.specs.declared.types.Kind.{Kind}
use Rattle.fo_image.specs.declared.types.Kind.TheVariants.{Data, Dir, Root}
use Rattle.fo_image.specs.declared.types.Entry.{Entry}
use Rattle.fo_image.specs.declared.types.Pointer.{Pointer}
use Rattle.fo_image.specs.declared.types.Pointer.TheVariants.{Nil, Local, Score as Held}
use Rattle.fo_image.specs.declared.types.Score.{Score}
use Rattle.fo_image.specs.declared.record.Record.{Record}
use Rattle.fo_image.specs.declared.record.RootBlock.{RootBlock}
use Rattle.fo_image.specs.declared.types.Super.{Super}
use Rattle.fo_image.specs.Format.{SpellsEntry}
use Rattle.fo_image.specs.Record.{SpellsRoot}
use Rattle.fo_image.proofs.RecordLemmas.{root_at}
use Rattle.fo_crash.specs.declared.slot.Slot.{Slot}
use Rattle.fo_crash.specs.declared.slot.Slot.TheVariants.{Pointer as To, Entry as Head, Prev}
use Rattle.fo_crash.specs.declared.place.Place.{Place}
use Rattle.fo_crash.specs.Images.{Content, Image, Arena, Link, target, meant, found, kind_below, kind_of_top, step, goes, way, depth_of, leaf_path, entry_of, bytes_at, from_block}
use Rattle.fo_crash.specs.Places.{place_below, root_place}
use Rattle.fo_meta.specs.Leaf.{IsLeaf, SpellsLeaf}
use Rattle.fo_world.specs.Step.{is_dir_mode}
use Rattle.fo_slots.proofs.Meaning.{entry_meant}
use Rattle.fo_sound.specs.Image.{block_of}
use Rattle.fo_sound.specs.Sound.{HasActiveRoot}
use Rattle.fo_good.specs.Means.{EndsAt, IsBytes, IsRead, IsRootBlock, Means}
use Rattle.fo_good.specs.Trees.{LeadsTo, IsEntries, IsRecords, IsFirst, IsSecond, NamesRecords, HoldsEntries, InTree, HasRecords, Lists, IsDir, HasTreeLabels, HasLabelBelow, HasLeaves, HasPairs, HasNumbers, place_along, at_path}
use Rattle.fo_good.specs.Trees.InTree.{top as source_top, below as source_below}
use Rattle.fo_good.specs.Trees.HasRecords.{top as records_top, pair as records_pair}
use Rattle.fo_good.specs.Trees.IsDir.{top as dir_top, below as dir_below}
use Rattle.fo_good.specs.Sound.{Kept, IsSoundTree}
use Rattle.fo_check_tree.specs.Answer.{HoldsRoot}
use Rattle.fo_check_image.proofs.Reading.{empty}

-- the image with the device's own bytes
abbrev pub as_read : List Block → Image → Image
as_read device image = λ at. record { bytes = block_of device at; slot = (image at).slot }

-- ---- paths

goes_join : (arena : Arena) (image : Image) (w : Link) (p q : List ℕ) → goes arena image w (p ++ q) ≡ goes arena image (goes arena image w p) q
goes_join arena image w [] q = refl
goes_join arena image w (i ∷ p) q = goes_join arena image (step arena image w i) p q

meant_slot : (arena : Arena) (device : List Block) (image : Image) (kind : Kind) (p : Pointer) → ((score : Score) → p ≡ Held score → ⊥) → (i : ℕ) → (meant empty (as_read device image) kind p).slot i ≡ (meant arena image kind p).slot i
meant_slot arena device image kind Nil none i = refl
meant_slot arena device image kind (Local at) none i = refl
meant_slot arena device image kind (Held score) none i = absurd (none score refl)

meant_bytes : (arena : Arena) (device : List Block) (image : Image) (kind : Kind) (p : Pointer) → ((score : Score) → p ≡ Held score → ⊥) → ((at : ℕ) → p ≡ Local at → (image at).bytes ≡ block_of device at) → (meant empty (as_read device image) kind p).bytes ≡ (meant arena image kind p).bytes
meant_bytes arena device image kind Nil none same = refl
meant_bytes arena device image kind (Local at) none same = sym (same at refl)
meant_bytes arena device image kind (Held score) none same = absurd (none score refl)

-- No path from a link leads to a score.
abbrev Free : Arena → Image → Link → Type 0
Free arena image w = (path : List ℕ) (score : Score) → target ((goes arena image w path).slot) ≡ Held score → ⊥

abbrev by_slot : Kind → Slot → Link
by_slot kind s = record { kind = kind_below kind s; slot = s }

step_same : (arena : Arena) (device : List Block) (image : Image) (w : Link) → Free arena image w → (i : ℕ) → step empty (as_read device image) w i ≡ step arena image w i
step_same arena device image w free i = ap (λ (s : Slot). by_slot w.kind s) (meant_slot arena device image w.kind (target w.slot) (free []) i)

goes_same : (arena : Arena) (device : List Block) (image : Image) (path : List ℕ) (w : Link) → Free arena image w → goes empty (as_read device image) w path ≡ goes arena image w path
goes_same arena device image [] w free = refl
goes_same arena device image (i ∷ path) w free =
    ap (λ (v : Link). goes empty (as_read device image) v path) (step_same arena device image w free i)
    ∙ goes_same arena device image path (step arena image w i) (λ p. free (i ∷ p))

place_same : (arena : Arena) (device : List Block) (image : Image) (path : List ℕ) (p : Place) (w : Link) → Free arena image w → place_along empty (as_read device image) p w path ≡ place_along arena image p w path
place_same arena device image [] p w free = refl
place_same arena device image (i ∷ path) p w free =
    ap (λ (s : Slot). place_along empty (as_read device image) (place_below p i s) (by_slot w.kind s) path) (meant_slot arena device image w.kind (target w.slot) (free []) i)
    ∙ place_same arena device image path (place_below p i ((found arena image w).slot i)) (step arena image w i) (λ q. free (i ∷ q))

-- ---- kinds down to a leaf

data_falls : (arena : Arena) (image : Image) (path : List ℕ) (w : Link) → w.kind ≡ Data (length path) → (goes arena image w path).kind ≡ Data 0
data_falls arena image [] w is = is
data_falls arena image (i ∷ path) w is = data_falls arena image path (step arena image w i) (ap (λ (kind : Kind). kind_below kind ((found arena image w).slot i)) is)

dir_falls : (arena : Arena) (image : Image) (path : List ℕ) (w : Link) → w.kind ≡ Dir (length path) → (goes arena image w path).kind ≡ Dir 0
dir_falls arena image [] w is = is
dir_falls arena image (i ∷ path) w is = dir_falls arena image path (step arena image w i) (ap (λ (kind : Kind). kind_below kind ((found arena image w).slot i)) is)

way_long : (depth n : ℕ) (path : List ℕ) → length (way depth n path) ≡ depth + length path
way_long zero n path = omega arith
way_long (suc depth) n path = let e = way_long depth (n / 409) (n % 409 ∷ path) in omega (arith, e)

leaf_long : (s : Slot) (n : ℕ) → length (leaf_path s n) ≡ depth_of s
leaf_long s n = let e = way_long (depth_of s) n [] in omega (arith, e)

entries_kind : (s : Slot) → IsEntries s → kind_of_top s ≡ Dir (depth_of s)
entries_kind (Head e) is = ap (λ (dir : Bool). cond dir (Dir e.depth) (Data e.depth)) is.1
entries_kind (To p) is = absurd is
entries_kind (Prev epoch at) is = absurd is

records_kind : (s : Slot) → IsRecords s → kind_of_top s ≡ Data (depth_of s)
records_kind (Head e) is = ap (λ (dir : Bool). cond dir (Dir e.depth) (Data e.depth)) is.1
records_kind (To p) is = absurd is
records_kind (Prev epoch at) is = absurd is

first_entries : (s : Slot) (r : Record) → is_dir_mode r.mode ≡ true → IsFirst s r → IsEntries s
first_entries (Head e) r folder h = (h.0, h.2 ∙ folder)
first_entries (To p) r folder h = h
first_entries (Prev epoch at) r folder h = h

second_records : (s : Slot) (r : Record) → is_dir_mode r.mode ≡ true → IsSecond s r → IsRecords s
second_records (Head e) r folder h = (h.0 ∙ folder, h.1)
second_records (To p) r folder h = h
second_records (Prev epoch at) r folder h = h

bytes_of_leaf : (kind : Kind) (c : Content) (b : Block) → kind ≡ Data 0 → IsRead kind c b → c.bytes ≡ b
bytes_of_leaf kind c b is h = let leaf : IsBytes c b = subst (λ (x : Kind). IsRead x c b) is h in leaf.bytes_are

-- ---- the root

entry_is : (e other : Entry) (bytes : List ℕ) → SpellsEntry e bytes → SpellsEntry other bytes → e ≡ other
entry_is e other bytes s t = sym (entry_meant e bytes s) ∙ entry_meant other bytes t

-- what a root block says of its slots
record SlotsOf (c : Content) (root : RootBlock) : Type 0 where
  entries : (c.slot 0 ≡ Head root.entries) × (root.entries.depth ≤ 4)
  meta : (c.slot 1 ≡ Head root.meta) × (root.meta.depth ≤ 4)
  before : c.slot 2 ≡ Prev root.prev_epoch root.prev
  ends : EndsAt 3 c

root_slots : (root : RootBlock) (c : Content) (b : Block) → SpellsRoot root b → IsRootBlock c b → SlotsOf c root
root_slots root c b spelled h =
    let mine = root_at b root spelled in
    let other = root_at b h.root h.spelled in
    let e : h.root.entries ≡ root.entries = entry_is h.root.entries root.entries (take 40 (drop 24 b)) other.entries mine.entries in
    let m : h.root.meta ≡ root.meta = entry_is h.root.meta root.meta (take 40 (drop 64 b)) other.meta mine.meta in
    record {
      entries = (h.entries.0 ∙ ap Head e, subst (λ (x : Entry). x.depth ≤ 4) e h.entries.1);
      meta = (h.meta.0 ∙ ap Head m, subst (λ (x : Entry). x.depth ≤ 4) m h.meta.1);
      before = h.before ∙ ap (λ (n : ℕ). Prev n h.root.prev) (sym other.prev_epoch ∙ mine.prev_epoch) ∙ ap (λ (n : ℕ). Prev root.prev_epoch n) (sym other.prev ∙ mine.prev);
      ends = h.ends;
    }

-- ---- blocks

module _ (c : Content) (b : Block) where
  abbrev with_bytes : Content
  with_bytes = record { bytes = b; slot = c.slot }

  read_like : (kind : Kind) → IsRead kind c b → IsRead kind (record { bytes = b; slot = c.slot }) b
  read_like (Data zero) h = record { bytes_are = refl; ends = record { each = h.ends.each } }
  read_like (Data (suc level)) h = record { each = λ i lt. let p = h.each i lt in record { pointer = p.pointer; is = p.is; spelled = p.spelled }; ends = record { each = h.ends.each }; rest = h.rest }
  read_like (Dir zero) h = record { each = λ i lt. let e = h.each i lt in record { entry = e.entry; is = e.is; spelled = e.spelled; shallow = e.shallow }; ends = record { each = h.ends.each }; rest = h.rest }
  read_like (Dir (suc level)) h = record { each = λ i lt. let p = h.each i lt in record { pointer = p.pointer; is = p.is; spelled = p.spelled }; ends = record { each = h.ends.each }; rest = h.rest }
  read_like Root h = record { root = h.root; spelled = h.spelled; entries = h.entries; meta = h.meta; before = h.before; ends = record { each = h.ends.each }; own = refl }

-- ---- the tree

module _ (arena : Arena) (device : List Block) (image : Image) (s : Super) (k : Kept) (active : HasActiveRoot device s k.root) (at_is : k.at ≡ s.active) (sound : IsSoundTree arena device image s.numbers true k) where
  abbrev other : Image
  other = as_read device image

  spelled : SpellsRoot k.root (block_of device k.at)
  spelled = subst (λ (n : ℕ). SpellsRoot k.root (block_of device n)) (sym at_is) active.block

  root_is : SlotsOf (image k.at) k.root
  root_is = root_slots k.root (image k.at) (block_of device k.at) spelled (sound.read.each [] k.at refl)

  -- A path from the root comes to the link.
  record OnTree (w : Link) : Type 0 where
    path : List ℕ
    is : w ≡ at_path arena image k.at path

  on_path : (w : Link) (o : OnTree w) (path : List ℕ) → at_path arena image k.at (o.path ++ path) ≡ goes arena image w path
  on_path w o path = goes_join arena image (from_block k.at) o.path path ∙ ap (λ (v : Link). goes arena image v path) (sym o.is)

  free_root : Free arena image (from_block k.at)
  free_root path score e = sound.scores.none path score e

  free : (w : Link) → OnTree w → Free arena image w
  free w o path score e = sound.scores.none (o.path ++ path) score (ap (λ (v : Link). target v.slot) (on_path w o path) ∙ e)

  farther : (w : Link) → OnTree w → (path : List ℕ) → OnTree (goes arena image w path)
  farther w o path = record { path = o.path ++ path; is = sym (on_path w o path) }

  path_same : (path : List ℕ) → at_path empty (as_read device image) k.at path ≡ at_path arena image k.at path
  path_same path = goes_same arena device image path (from_block k.at) free_root

  entry_same : (w : Link) → OnTree w → (j : ℕ) → entry_of empty (as_read device image) w j ≡ entry_of arena image w j
  entry_same w o j = goes_same arena device image (leaf_path w.slot (j / 204) ++ (j % 204) ∷ []) w (free w o)

  entry_on : (w : Link) → OnTree w → (j : ℕ) → OnTree (entry_of arena image w j)
  entry_on w o j = farther w o (leaf_path w.slot (j / 204) ++ (j % 204) ∷ [])

  entry_kind : (w : Link) → w.kind ≡ Dir (depth_of w.slot) → (j : ℕ) → (entry_of arena image w j).kind ≡ kind_of_top (entry_of arena image w j).slot
  entry_kind w is j =
      let leaf = leaf_path w.slot (j / 204) in
      let v = goes arena image w leaf in
      let kind : v.kind ≡ Dir 0 = dir_falls arena image leaf w (is ∙ ap Dir (sym (leaf_long w.slot (j / 204)))) in
      let here : entry_of arena image w j ≡ step arena image v (j % 204) = goes_join arena image w leaf (j % 204 ∷ []) in
      ap (λ (u : Link). u.kind) here ∙ ap (λ (x : Kind). kind_below x ((found arena image v).slot (j % 204))) kind ∙ sym (ap (λ (u : Link). kind_of_top u.slot) here)

  -- bytes of leaves of records
  leaf_bytes : (w : Link) → OnTree w → w.kind ≡ Data (depth_of w.slot) → (n : ℕ) → bytes_at empty (as_read device image) w (leaf_path w.slot n) ≡ bytes_at arena image w (leaf_path w.slot n)
  leaf_bytes w o is n =
      let leaf = leaf_path w.slot n in
      let v = goes arena image w leaf in
      let kind : v.kind ≡ Data 0 = data_falls arena image leaf w (is ∙ ap Data (sym (leaf_long w.slot n))) in
      let on = farther w o leaf in
      ap (λ (u : Link). (found empty (as_read device image) u).bytes) (goes_same arena device image leaf w (free w o))
      ∙ meant_bytes arena device image v.kind (target v.slot) (free v on []) (λ at leads.
      let there : LeadsTo arena image k.at on.path at = ap (λ (u : Link). target u.slot) (sym on.is) ∙ leads in
      bytes_of_leaf v.kind (image at) (block_of device at) kind (subst (λ (u : Link). IsRead u.kind (image at) (block_of device at)) (sym on.is) (sound.read.each on.path at there)))

  lists : (w : Link) → OnTree w → w.kind ≡ Data (depth_of w.slot) → (n j : ℕ) (r : Record) → Lists empty (as_read device image) w n j r → Lists arena image w n j r
  lists w o is n j r l = record {
    within = l.within;
    before = l.before;
    after = l.after;
    spelled = subst (λ (b : List ℕ). SpellsLeaf (l.before ++ r ∷ l.after) b) (leaf_bytes w o is n) l.spelled;
    place = l.place;
  }

  -- ---- the two sources of the root

  root_on : (i : ℕ) → OnTree (step arena image (from_block k.at) i)
  root_on i = record { path = i ∷ []; is = refl }

  root_entries : IsEntries ((step arena image (from_block k.at) 0).slot)
  root_entries = subst IsEntries (sym root_is.entries.0) (sound.entries.entries_active, sound.entries.entries_dir)

  root_records : IsRecords ((step arena image (from_block k.at) 1).slot)
  root_records = subst IsRecords (sym root_is.meta.0) (sound.entries.meta_active, sound.entries.meta_dir)

  root_same : (i : ℕ) → step empty (as_read device image) (from_block k.at) i ≡ step arena image (from_block k.at) i
  root_same i = step_same arena device image (from_block k.at) free_root i

  -- a source of entries of the tree
  record IsSource (depth : ℕ) (w : Link) : Type 0 where
    on : OnTree w
    source : InTree arena image k.at depth w
    kind : w.kind ≡ Dir (depth_of w.slot)

  in_tree : (depth : ℕ) (w : Link) → InTree empty (as_read device image) k.at depth w → IsSource depth w
  in_tree depth w source_top = subst (λ (v : Link). IsSource 0 v) (sym (root_same 0)) (record {
    on = root_on 0;
    source = source_top;
    kind = entries_kind ((step arena image (from_block k.at) 0).slot) root_entries;
  })
  in_tree depth w (source_below d v j up is) =
      let above = in_tree d v up in
      let same = entry_same v above.on j in
      let entries : IsEntries (entry_of arena image v j).slot = subst (λ (u : Link). IsEntries u.slot) same is in
      subst (λ (u : Link). IsSource (suc d) u) (sym same) (record {
        on = entry_on v above.on j;
        source = source_below d v j above.source entries;
        kind = entry_kind v above.kind j ∙ entries_kind (entry_of arena image v j).slot entries;
      })

  -- records of a directory of the tree
  record AreMeta (w : Link) : Type 0 where
    on : OnTree w
    records : HasRecords arena image k.at w
    kind : w.kind ≡ Data (depth_of w.slot)

  has_records : (w : Link) → HasRecords empty (as_read device image) k.at w → AreMeta w
  has_records w records_top = subst (λ (v : Link). AreMeta v) (sym (root_same 1)) (record {
    on = root_on 1;
    records = records_top;
    kind = records_kind ((step arena image (from_block k.at) 1).slot) root_records;
  })
  has_records w (records_pair d v n up first second) =
      let above = in_tree d v up in
      let same = entry_same v above.on (2 * n + 1) in
      let entries : IsEntries (entry_of arena image v (2 * n)).slot = subst (λ (u : Link). IsEntries u.slot) (entry_same v above.on (2 * n)) first in
      let records : IsRecords (entry_of arena image v (2 * n + 1)).slot = subst (λ (u : Link). IsRecords u.slot) same second in
      subst (λ (u : Link). AreMeta u) (sym same) (record {
        on = entry_on v above.on (2 * n + 1);
        records = records_pair d v n above.source entries records;
        kind = entry_kind v above.kind (2 * n + 1) ∙ records_kind (entry_of arena image v (2 * n + 1)).slot records;
      })

  -- a directory to which names lead
  record IsFolder (trail : List ℕ) (entries meta : Link) : Type 0 where
    entries_on : OnTree entries
    meta_on : OnTree meta
    dir : IsDir arena image k.at trail entries meta
    entries_kind_is : entries.kind ≡ Dir (depth_of entries.slot)
    meta_kind_is : meta.kind ≡ Data (depth_of meta.slot)

  listed : {trail : List ℕ} {entries meta : Link} → IsFolder trail entries meta → (n j : ℕ) (r : Record) → Lists empty (as_read device image) meta n j r → Lists arena image meta n j r
  listed {trail} {entries} {meta} f n j r l = lists meta f.meta_on f.meta_kind_is n j r l

  is_dir : (trail : List ℕ) (entries meta : Link) → IsDir empty (as_read device image) k.at trail entries meta → IsFolder trail entries meta
  is_dir trail entries meta dir_top = subst (λ (v : Link). IsFolder [] v (step empty (as_read device image) (from_block k.at) 1)) (sym (root_same 0)) (subst (λ (v : Link). IsFolder [] (step arena image (from_block k.at) 0) v) (sym (root_same 1)) (record {
    entries_on = root_on 0;
    meta_on = root_on 1;
    dir = dir_top;
    entries_kind_is = entries_kind ((step arena image (from_block k.at) 0).slot) root_entries;
    meta_kind_is = records_kind ((step arena image (from_block k.at) 1).slot) root_records;
  }))
  is_dir trail entries meta (dir_below up e m n j r dir lists_it folder) =
      let above = is_dir up e m dir in
      let l = listed above n j r lists_it in
      let pair = sound.pairs.fit up e m n j r above.dir l in
      let same = entry_same e above.entries_on (2 * r.slot) in
      let same' = entry_same e above.entries_on (2 * r.slot + 1) in
      let first = first_entries (entry_of arena image e (2 * r.slot)).slot r folder pair.first in
      let second = second_records (entry_of arena image e (2 * r.slot + 1)).slot r folder pair.second in
      let here : IsFolder (up ++ r.slot ∷ []) (entry_of arena image e (2 * r.slot)) (entry_of arena image e (2 * r.slot + 1)) = record {
        entries_on = entry_on e above.entries_on (2 * r.slot);
        meta_on = entry_on e above.entries_on (2 * r.slot + 1);
        dir = dir_below up e m n j r above.dir l folder;
        entries_kind_is = entry_kind e above.entries_kind_is (2 * r.slot) ∙ entries_kind (entry_of arena image e (2 * r.slot)).slot first;
        meta_kind_is = entry_kind e above.entries_kind_is (2 * r.slot + 1) ∙ records_kind (entry_of arena image e (2 * r.slot + 1)).slot second;
      } in
      subst (λ (v : Link). IsFolder (up ++ r.slot ∷ []) v (entry_of empty (as_read device image) e (2 * r.slot + 1))) (sym same) (subst (λ (v : Link). IsFolder (up ++ r.slot ∷ []) (entry_of arena image e (2 * r.slot)) v) (sym same') here)

  -- ---- the rules

  leads : (path : List ℕ) (at : ℕ) → LeadsTo empty (as_read device image) k.at path at → LeadsTo arena image k.at path at
  leads path at h = ap (λ (v : Link). target v.slot) (sym (path_same path)) ∙ h

  names_records : (path : List ℕ) (i : ℕ) → NamesRecords empty (as_read device image) k.at path i → NamesRecords arena image k.at path i
  names_records path i n = record {
    holder = subst (λ (v : Link). HoldsEntries v.kind) (path_same path) n.holder;
    second = n.second;
    records = subst (λ (v : Link). IsRecords v.slot) (path_same (path ++ i ∷ [])) n.records;
  }

  same_labels : HasTreeLabels empty device (as_read device image) k.at k.root.epoch true
  same_labels = record {
    each = λ path i at below above up has down.
        subst (λ (p : Place). HasLabelBelow device k.root.epoch true p above below) (sym (place_same arena device image (path ++ i ∷ []) root_place (from_block k.at) free_root))
        (sound.labels.each path i at below above (leads path at up) has (leads (path ++ i ∷ []) below down));
  }

  same_read : Means empty device (as_read device image) (from_block k.at)
  same_read = record {
    each = λ path at h.
        subst (λ (v : Link). IsRead v.kind (as_read device image at) (block_of device at)) (sym (path_same path))
        (read_like (image at) (block_of device at) (at_path arena image k.at path).kind (sound.read.each path at (leads path at h)));
  }

  same_leaves : HasLeaves empty (as_read device image) k.at
  same_leaves = record {
    leaves = λ path more i at n kind h.
        let kind' : (at_path arena image k.at (path ++ i ∷ more)).kind ≡ Data 0 = ap (λ (v : Link). v.kind) (sym (path_same (path ++ i ∷ more))) ∙ kind in
        let h' = leads (path ++ i ∷ more) at h in
        subst IsLeaf (bytes_of_leaf (at_path arena image k.at (path ++ i ∷ more)).kind (image at) (block_of device at) kind' (sound.read.each (path ++ i ∷ more) at h')) (sound.leaves.leaves path more i at (names_records path i n) kind' h');
    names = λ meta n j m i r q has l l' same.
        let a = has_records meta has in
        sound.leaves.names meta n j m i r q a.records (lists meta a.on a.kind n j r l) (lists meta a.on a.kind m i q l') same;
  }

  same_pairs : HasPairs empty (as_read device image) k.at
  same_pairs = record {
    fit = λ trail entries meta n j r dir l.
        let f = is_dir trail entries meta dir in
        let pair = sound.pairs.fit trail entries meta n j r f.dir (listed f n j r l) in
        record {
          within = pair.within;
          first = subst (λ (v : Link). IsFirst v.slot r) (sym (entry_same entries f.entries_on (2 * r.slot))) pair.first;
          second = subst (λ (v : Link). IsSecond v.slot r) (sym (entry_same entries f.entries_on (2 * r.slot + 1))) pair.second;
        };
    differ = λ trail entries meta n j m i r q dir l l' same.
        let f = is_dir trail entries meta dir in
        sound.pairs.differ trail entries meta n j m i r q f.dir (listed f n j r l) (listed f m i q l') same;
  }

  same_numbers : HasNumbers empty (as_read device image) k.at s.numbers
  same_numbers = record {
    differ = λ trail trail' entries meta entries' meta' n j m i r q dir dir' l l' same.
        let f = is_dir trail entries meta dir in
        let f' = is_dir trail' entries' meta' dir' in
        sound.named.differ trail trail' entries meta entries' meta' n j m i r q f.dir f'.dir (listed f n j r l) (listed f' m i q l') same;
    below = λ trail entries meta n j r dir l.
        let f = is_dir trail entries meta dir in
        sound.named.below trail entries meta n j r f.dir (listed f n j r l);
    depths = λ depth w up. sound.named.depths depth w (in_tree depth w up).source;
  }

  pub same_tree : IsSoundTree empty device (as_read device image) s.numbers true k
  same_tree = record {
    labels = same_labels;
    read = same_read;
    leaves = same_leaves;
    entries = sound.entries;
    pairs = same_pairs;
    once = record { once = λ p q at h h'. sound.once.once p q at (leads p at h) (leads q at h') };
    named = same_numbers;
    scores = record { none = λ path score e. sound.scores.none path score (ap (λ (v : Link). target v.slot) (sym (path_same path)) ∙ e) };
  }

  pub same_root : HoldsRoot empty device (as_read device image) s k
  same_root = record {
    empty = λ kind score. refl;
    active = active;
    at = at_is;
    bytes = λ at. refl;
    entries = inl root_is.entries;
    meta = inl root_is.meta;
    before = root_is.before;
    ends = record { each = root_is.ends.each };
  }
