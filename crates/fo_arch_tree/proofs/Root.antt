-- The archive that is held is that of the root block's tree.
use Rattle.std.proofs.Common.{◌≡◌, ◌∙◌, ℕ, ◌-◌, ◌≤◌, true, false, List, [], ◌∷◌, ◌++◌, length, take, drop, refl, sym, ap, subst, arith, if◌then◌else◌}
use Rattle.std.specs.Prelude.{Some}
use Rattle.std.specs.BTreeMap.{get}
use Rattle.std.proofs.lemmas.List.{length-append, length-take, take_all}
use Rattle.fo_image.specs.declared.types.Score.{Score}
use Rattle.fo_image.specs.declared.types.Entry.{Entry}
use Rattle.fo_image.specs.declared.types.Kind.TheVariants.{Root}
use Rattle.fo_image.specs.declared.record.RootBlock.{RootBlock}
use Rattle.fo_image.specs.Field.{zeros, padded, spelling}
use Rattle.fo_image.specs.Format.{SpellsEntry}
use Rattle.fo_image.specs.Record.{record_len, record_fields, SpellsRoot}
use Rattle.fo_image.proofs.Padding.{length-zeros}
use Rattle.fo_image.proofs.RecordLemmas.{length-record, root_at}
use Rattle.fo_crash.specs.declared.slot.Slot.{Slot}
use Rattle.fo_crash.specs.declared.slot.Slot.TheVariants.{Entry as Head}
use Rattle.fo_crash.specs.Images.{kind_of_top, from_block}
use Rattle.fo_slots.proofs.Meaning.{entry_meant}
use Rattle.fo_world.specs.declared.tree.Body.TheVariants.{Dir}
use Rattle.fo_world.specs.Tree.{node_of}
use Rattle.fo_sound.specs.Image.{block_of}
use Rattle.fo_good.specs.Means.{IsRootBlock}
use Rattle.fo_good.specs.Reading.{is_allowed, record_at, no_record, own_record, stat_in, dir_in, levels, tree_of}
use Rattle.fo_good.specs.Sound.{Kept}
use Rattle.fo_good.specs.Trees.{IsRecords}
use Rattle.fo_good.specs.Trees.IsDir.{top as dir_top}
use Rattle.fo_good.proofs.Leaf.{own_is_read}
use Rattle.fo_vacput.specs.declared.types.Tail.TheVariants.{Zeros}
use Rattle.fo_vacput.specs.declared.types.VacEntry.{VacEntry}
use Rattle.fo_vacput.specs.declared.types.VacTop.{VacTop}
use Rattle.fo_vacput.specs.Cut.{grown}
use Rattle.fo_vacput.specs.Top.{VacTopHolds, SpellsVacTop}
use Rattle.venti_store.specs.Names.{name_cmp}
use Rattle.venti_store.specs.Arena.{lines_of}
use Rattle.venti_store.specs.declared.shelf.Shelf.{Shelf}
use Rattle.fo_vac_open.specs.Laws.{AreApart}
use Rattle.fo_vac_open.specs.Open.{HasTop}
use Rattle.fo_vac_open.specs.Tree.{no_image, link_to, top_tree}
use Rattle.fo_arch_hash.specs.Form.{archived}
use Rattle.fo_arch_form.specs.Entries.{code_of}
use Rattle.fo_arch_form.specs.Stored.{found, score_under}
use Rattle.fo_arch_form.specs.Root.{IsTop}
use Rattle.fo_arch_walk.specs.Forms.{HasHead, IsTopForm}
use Rattle.fo_arch_tree.specs.Forms.{IsStoredAt}
use Rattle.fo_arch_tree.specs.Tree.{IsReadable, StoredIsTree}
use Rattle.fo_arch_tree.proofs.Sides.{Sides, Holds, archive, link, down, IsClean, AreEntries}
use Rattle.fo_arch_tree.proofs.Steps.{clean_below}
use Rattle.fo_arch_tree.proofs.Sources.{same_head}
use Rattle.fo_arch_tree.proofs.Leaves.{leaf_kind}
use Rattle.fo_arch_tree.proofs.Dirs.{AreDirs, same_dir, leaves_of}
use Rattle.fo_arch_tree.proofs.Top.{own_at, entry_whole, joined, top_spelled}

-- ---- the root block

same_entry : (e f : Entry) (bytes : List ℕ) → SpellsEntry e bytes → SpellsEntry f bytes → e ≡ f
same_entry e f bytes se sf = sym (entry_meant e bytes se) ∙ entry_meant f bytes sf

-- a block spells one root
entries_same : (r q : RootBlock) (block : List ℕ) → SpellsRoot r block → SpellsRoot q block → r.entries ≡ q.entries
entries_same r q block sr sq = same_entry r.entries q.entries (take 40 (drop 24 block)) (root_at block r sr).entries (root_at block q sq).entries

meta_same : (r q : RootBlock) (block : List ℕ) → SpellsRoot r block → SpellsRoot q block → r.meta ≡ q.meta
meta_same r q block sr sq = same_entry r.meta q.meta (take 40 (drop 64 block)) (root_at block r sr).meta (root_at block q sq).meta

-- what stands behind both entries has 8088 bytes
rest_is : (r : RootBlock) (block bytes : List ℕ) → SpellsRoot r block → drop 104 bytes ≡ drop 104 block → take 8088 (drop 104 bytes) ≡ spelling (record_fields r.own) ++ zeros (8088 - record_len r.own)
rest_is r block bytes s same =
    let n : ℕ = 8088 - record_len r.own in
    let O : List ℕ = spelling (record_fields r.own) in
    let short = (root_at block r s).short in
    let long : length (O ++ zeros n) ≤ 8088 = omega (arith, length-append O (zeros n), length-zeros n, length-record r.own, short) in
    ap (take 8088) (same ∙ own_at r block s) ∙ take_all 8088 (O ++ zeros n) long

-- ---- the top block

taken_short : (n : ℕ) (xs : List ℕ) → length (take n xs) ≤ n
taken_short n xs = let e = length-take n xs in omega (arith, e)

padded_long : (bytes : List ℕ) → length bytes ≤ 8192 → length (padded 8192 bytes) ≡ 8192
padded_long bytes le =
    let n : ℕ = 8192 - length bytes in
    length-append bytes (zeros n) ∙ omega (arith, length-zeros n, le)

top_long : (entries meta : VacEntry) (rest form : List ℕ) → IsTop entries meta rest form → length rest ≤ 8088 → length form ≡ 8192
top_long entries meta rest form is le =
    let first = entry_whole entries is.first is.first_is in
    let second = entry_whole meta is.second is.second_is in
    let all : List ℕ = is.first ++ (is.second ++ (rest ++ [])) in
    let long : length (padded 8192 all) ≡ 8192 = padded_long all (omega (arith, length-append is.first (is.second ++ (rest ++ [])), length-append is.second (rest ++ []), length-append rest [], first, second, le)) in
    ap length is.is ∙ ap (λ xs. length (padded 8192 xs)) (joined is.first is.second rest []) ∙ long

module _ (s : Sides) (h : Holds s) (k : Kept) (r : IsReadable s.arena s.device s.image k) (score : Score) (known : found s.done k.at 17 ≡ Some score) where
  abbrev block : IsRootBlock (s.image k.at) (block_of s.device k.at)
  block = r.read.each [] k.at refl

  abbrev stored : IsStoredAt s.done s.image s.lines s.stored k.at Root score
  stored = h.forms.each k.at Root score tt known

  abbrev form : IsTopForm s.done (s.image k.at) stored.is.form
  form = stored.is.is

  clean : IsClean s (from_block k.at)
  clean = record { none = r.scores.none; read = r.read.each }

  first_active : block.root.entries.active ≡ true
  first_active = ap (λ (e : Entry). e.active) (entries_same block.root k.root (block_of s.device k.at) block.spelled r.spelled) ∙ r.entries.entries_active

  first_dir : block.root.entries.dir ≡ true
  first_dir = ap (λ (e : Entry). e.dir) (entries_same block.root k.root (block_of s.device k.at) block.spelled r.spelled) ∙ r.entries.entries_dir

  second_active : block.root.meta.active ≡ true
  second_active = ap (λ (e : Entry). e.active) (meta_same block.root k.root (block_of s.device k.at) block.spelled r.spelled) ∙ r.entries.meta_active

  second_dir : block.root.meta.dir ≡ false
  second_dir = ap (λ (e : Entry). e.dir) (meta_same block.root k.root (block_of s.device k.at) block.spelled r.spelled) ∙ r.entries.meta_dir

  -- slot i of the root block and its archived entry
  record Heads (i : ℕ) (e : Entry) (v : VacEntry) : Type 0 where
    had : HasHead s.done (s.image k.at) i v
    here : (s.image k.at).slot i ≡ Head e
    active : e.active ≡ true
    shallow : e.depth ≤ 4

  entry_is : (i : ℕ) (e : Entry) (v : VacEntry) (q : Heads i e v) → q.had.entry ≡ e
  entry_is i e v q = same_head q.had.entry e (sym q.had.slot_is ∙ q.here)

  archived_is : (i : ℕ) (e : Entry) (v : VacEntry) (q : Heads i e v) → v ≡ archived e q.had.score
  archived_is i e v q = q.had.is ∙ ap (λ (x : Entry). archived x q.had.score) (entry_is i e v q)

  heads_both : (i : ℕ) (e : Entry) (v : VacEntry) → Heads i e v → AreEntries s e (down s (from_block k.at) i) (link_to v)
  heads_both i e v q = record {
    here = ap (λ (x : Slot). link (kind_of_top x) x) q.here;
    active = q.active;
    shallow = q.shallow;
    score = q.had.score;
    known = subst (λ (x : Entry). score_under s.done (code_of x) x.top ≡ Some q.had.score) (entry_is i e v q) q.had.stored;
    there = ap link_to (archived_is i e v q);
  }

  abbrev first : Heads 0 block.root.entries form.entries
  first = record { had = form.entries_are; here = block.entries.0; active = first_active; shallow = block.entries.1 }

  abbrev second : Heads 1 block.root.meta form.meta
  second = record { had = form.meta_are; here = block.meta.0; active = second_active; shallow = block.meta.1 }

  abbrev top : VacTop
  top = record { entries = form.entries; meta = form.meta; own = block.root.own }

  top_holds : VacTopHolds top
  top_holds = record {
    entries_hold = form.is.first_is.holds;
    meta_holds = form.is.second_is.holds;
    entries_active = ap (λ (v : VacEntry). v.active) (archived_is 0 block.root.entries form.entries first) ∙ first_active;
    entries_dir = ap (λ (v : VacEntry). v.dir) (archived_is 0 block.root.entries form.entries first) ∙ first_dir;
    meta_active = ap (λ (v : VacEntry). v.active) (archived_is 1 block.root.meta form.meta second) ∙ second_active;
    meta_dir = ap (λ (v : VacEntry). v.dir) (archived_is 1 block.root.meta form.meta second) ∙ second_dir;
    own_holds = block.spelled.holds.own_holds;
  }

  -- the archive's top block is held under the score of the root block
  made : grown Zeros 8192 stored.bytes ≡ stored.is.form
  made =
      let top_is : IsTop form.entries form.meta (take 8088 (drop 104 (s.image k.at).bytes)) stored.is.form = form.is in
      ap (grown Zeros 8192) stored.is.stored.bytes_are
      ∙ ap (λ n. grown Zeros n (take stored.is.stored.left stored.is.form)) (sym (top_long form.entries form.meta (take 8088 (drop 104 (s.image k.at).bytes)) stored.is.form top_is (taken_short 8088 (drop 104 (s.image k.at).bytes))))
      ∙ stored.is.stored.cut.again

  has_top : HasTop s.lines s.stored score.0 top
  has_top = record {
    bytes = stored.bytes;
    held = stored.held;
    spelled = subst (SpellsVacTop top) (sym made) (top_spelled top form.is.first form.is.second (take 8088 (drop 104 (s.image k.at).bytes)) stored.is.form (record {
      first_is = form.is.first_is;
      second_is = form.is.second_is;
      own_fit = (root_at (block_of s.device k.at) block.root block.spelled).own.fit;
      short = (root_at (block_of s.device k.at) block.root block.spelled).short;
      rest_is = rest_is block.root (block_of s.device k.at) ((s.image k.at).bytes) block.spelled block.own;
      holds = top_holds;
      is = form.is.is;
    }));
  }

  -- ---- the tree

  root_dirs : AreDirs s k.at [] block.root.entries block.root.meta (down s (from_block k.at) 0) (down s (from_block k.at) 1) (link_to form.entries) (link_to form.meta)
  root_dirs =
      let one = heads_both 1 block.root.meta form.meta second in
      let meta_clean = clean_below s (from_block k.at) 1 clean in
      let records : IsRecords ((s.image k.at).slot 1) = subst IsRecords (sym block.meta.0) (second_active, second_dir) in record {
        dir = dir_top;
        first = heads_both 0 block.root.entries form.entries first;
        first_dir = first_dir;
        first_clean = clean_below s (from_block k.at) 0 clean;
        second = one;
        second_dir = second_dir;
        second_clean = meta_clean;
        place = 0 ∷ [];
        stands = refl;
        leaves = leaves_of s h k.at r.leaves r.pairs [] 1 (down s (from_block k.at) 1) refl tt refl records (leaf_kind s h block.root.meta (down s (from_block k.at) 1) (link_to form.meta) one second_dir meta_clean);
      }

  own_is : own_record ((s.image k.at).bytes) ≡ block.root.own
  own_is = ap (λ xs. if is_allowed (record_at xs) then record_at xs else no_record) block.own ∙ own_is_read block.root (block_of s.device k.at) block.spelled

  names_are : dir_in levels s.arena s.image (down s (from_block k.at) 0) (down s (from_block k.at) 1) ≡ dir_in levels (archive s) no_image (link_to form.entries) (link_to form.meta)
  names_are = same_dir s h k.at r.leaves r.pairs levels [] block.root.entries block.root.meta (down s (from_block k.at) 0) (down s (from_block k.at) 1) (link_to form.entries) (link_to form.meta) root_dirs

  tree_is : top_tree (archive s) top ≡ tree_of s.arena s.image k.at
  tree_is = sym (λ i. record { root = node_of (stat_in (own_is i)) (Dir (names_are i)) })

-- ---- the law

pub stored_is : StoredIsTree
stored_is done arena device image k lines stored_bytes head score bytes r apart forms known spelled held_root =
    let s : Sides = record { arena = arena; device = device; image = image; done = done; lines = lines; stored = stored_bytes } in
    let h : Holds s = record { apart = apart; forms = forms } in
    let tree : top_tree (archive s) (top s h k r head.top known) ≡ tree_of arena image k.at = tree_is s h k r head.top known in record {
      found = record { root = head; top = top s h k r head.top known };
      has = record { root = record { bytes = bytes; held = held_root; spelled = spelled }; top = has_top s h k r head.top known };
      is = λ i. record { epoch = head.epoch; time = head.time; score = score; tree = tree i };
    }

some_same : (a b : ℕ) → Some a ≡ Some b → a ≡ b
some_same a b e = cc

-- no two places of an index have one score and kind
pub apart_lines : (s : Shelf) → AreApart (lines_of s)
apart_lines s one other lt used same =
    let e : Some one ≡ Some other = sym (s.index.found one (omega (arith, lt, used))) ∙ ap (get name_cmp s.index.places) same ∙ s.index.found other used in
    let is = some_same one other e in
    omega (arith, lt, is)
