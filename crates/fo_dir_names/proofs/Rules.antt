-- An image keeps the rules on names where records stand once and it keeps the rest.
use Rattle.std.proofs.Common.{◌≡◌, ◌≢◌, inl, inr, ⊎_elim, ℕ, zero, suc, ◌+◌, ◌*◌, ◌/◌, ◌%◌, ◌^◌, ◌<◌, ◌≤◌, true, List, [], ◌∷◌, ◌++◌, length, refl, sym, ◌∙◌, ap, subst, arith}
use Rattle.std.proofs.Math.Nat.{pow-succ'}
use Rattle.fo_image.specs.declared.record.Record.{Record}
use Rattle.fo_image.specs.declared.types.Score.{Score}
use Rattle.fo_image.specs.declared.types.Pointer.TheVariants.{Score as Held}
use Rattle.fo_crash.specs.declared.slot.Slot.{Slot}
use Rattle.fo_crash.specs.declared.slot.Slot.TheVariants.{Pointer as To, Entry as Head, Prev}
use Rattle.fo_crash.specs.Images.{Image, Arena, Link, IsArena, target, goes, step, way, depth_of, leaf_path, entry_of, file_link, from_block, to_block}
use Rattle.fo_crash.specs.Places.{super_place}
use Rattle.fo_crash.proofs.Equal.{lists}
use Rattle.fo_good.specs.of_world.Step.{is_dir_mode}
use Rattle.fo_good.specs.Trees.{IsDir, IsFirst, IsSecond, IsEntries, IsRecords, InTree, HasRecords, Lists, IsWithin, IsSamePlace, size_of}
use Rattle.fo_good.specs.Trees.IsDir.{top as dir_top, below as dir_below}
use Rattle.fo_good.specs.Trees.InTree.{top as tree_top, below as tree_below}
use Rattle.fo_good.specs.Trees.HasRecords.{top as records_top_of, pair as records_pair}
use Rattle.fo_ports.specs.State.{State}
use Rattle.fo_dir_put.specs.Once.{StandOnce}
use Rattle.fo_dir_images.specs.Leaves.{HasWay}
use Rattle.fo_dir_images.proofs.Trailing.{link_of, Rooms, goes_joins}
use Rattle.fo_dir_images.proofs.Siding.{entries_top, records_top, entries_begin, records_begin}
use Rattle.fo_dir_images.proofs.Same.{reads_dirs}
use Rattle.fo_dir_names.specs.Names.{IsOfData, IsPlainDir, NamesDiffer}
use Rattle.fo_dir_names.specs.Rules.{IsSoundBeside, HasNames, KeepsNames}
use Rattle.fo_dir_names.proofs.Ranks.{FromRoot}
use Rattle.fo_dir_names.proofs.Sources.{IsRanked, IsSource, one_source}
use Rattle.fo_dir_names.proofs.Listed.{names_stand}

-- ---- entries

first_entries : (s : Slot) (r : Record) → IsFirst s r → is_dir_mode r.mode ≡ true → IsEntries s
first_entries (Head e) r first dir = (first.0, first.2 ∙ dir)
first_entries (To p) r first dir = first
first_entries (Prev epoch at) r first dir = first

second_records : (s : Slot) (r : Record) → IsSecond s r → is_dir_mode r.mode ≡ true → IsRecords s
second_records (Head e) r second dir = (second.0 ∙ dir, second.1)
second_records (To p) r second dir = second
second_records (Prev epoch at) r second dir = second

records_data : (s : Slot) → IsRecords s → IsOfData s
records_data (Head e) records = records.1
records_data (To p) records = records
records_data (Prev epoch at) records = records

-- ---- numbers within a depth

-- leaf k of a source of this depth, by the number that lies within it
abbrev reduced : ℕ → ℕ → ℕ
reduced zero k = 0
reduced (suc depth) k = 409 * reduced depth (k / 409) + k % 409

reduced_less : (depth k : ℕ) → reduced depth k < 409 ^ depth
reduced_less zero k = omega arith
reduced_less (suc depth) k =
    let less = reduced_less depth (k / 409) in
    let up : 409 ^ suc depth ≡ 409 * 409 ^ depth = pow-succ' 409 depth in
    omega (arith, less, up)

same_way : (depth k : ℕ) (path : List ℕ) → way depth (reduced depth k) path ≡ way depth k path
same_way zero k path = refl
same_way (suc depth) k path =
    let up : (409 * reduced depth (k / 409) + k % 409) / 409 ≡ reduced depth (k / 409) = omega arith in
    let low : (409 * reduced depth (k / 409) + k % 409) % 409 ≡ k % 409 = omega arith in
    ap (λ x. way depth x ((409 * reduced depth (k / 409) + k % 409) % 409 ∷ path)) up
    ∙ ap (λ x. way depth (reduced depth (k / 409)) (x ∷ path)) low
    ∙ same_way depth (k / 409) (k % 409 ∷ path)

-- entry j of a source of this depth, likewise
abbrev entry_in : ℕ → ℕ → ℕ
entry_in depth j = 204 * reduced depth (j / 204) + j % 204

same_entry : (arena : Arena) (image : Image) (w : Link) (j : ℕ) → entry_of arena image w (entry_in (depth_of w.slot) j) ≡ entry_of arena image w j
same_entry arena image w j =
    let d = depth_of w.slot in
    let leaf : entry_in d j / 204 ≡ reduced d (j / 204) = omega arith in
    let place : entry_in d j % 204 ≡ j % 204 = omega arith in
    ap (λ x. goes arena image w (leaf_path w.slot x ++ entry_in d j % 204 ∷ [])) leaf
    ∙ ap (λ x. goes arena image w (leaf_path w.slot (reduced d (j / 204)) ++ x ∷ [])) place
    ∙ ap (λ x. goes arena image w (x ++ j % 204 ∷ [])) (same_way d (j / 204) [])

module _ (arena : Arena) (image : Image) (root : ℕ) where
  -- ---- paths

  -- a path of the tree comes to this link
  record IsReached (w : Link) : Type 0 where
    path : List ℕ
    is : goes arena image (from_block root) path ≡ w

  further : (w : Link) → IsReached w → (path : List ℕ) → IsReached (goes arena image w path)
  further w reached path = record { path = reached.path ++ path; is = goes_joins arena image (from_block root) reached.path path ∙ ap (λ x. goes arena image x path) reached.is }

  tree_reached : (depth : ℕ) (w : Link) → InTree arena image root depth w → IsReached w
  tree_reached depth w tree_top = record { path = 0 ∷ []; is = refl }
  tree_reached depth w (tree_below d v j up entries) = further v (tree_reached d v up) (leaf_path v.slot (j / 204) ++ (j % 204) ∷ [])

  records_reached : (meta : Link) → HasRecords arena image root meta → IsReached meta
  records_reached meta records_top_of = record { path = 1 ∷ []; is = refl }
  records_reached meta (records_pair d w k up entries records) = further w (tree_reached d w up) (leaf_path w.slot ((2 * k + 1) / 204) ++ ((2 * k + 1) % 204) ∷ [])

  module _ (sound : IsSoundBeside arena image root) where
    unheld : (meta : Link) → HasRecords arena image root meta → (k : ℕ) (score : Score) → IsWithin meta.slot k → target ((goes arena image meta (leaf_path meta.slot k)).slot) ≢ Held score
    unheld meta records k score within = λ e.
        let reached = further meta (records_reached meta records) (leaf_path meta.slot k) in
        sound.scores.none reached.path score (ap (λ (x : Link). target x.slot) reached.is ∙ e)

    records_flag : (meta : Link) → HasRecords arena image root meta → IsOfData meta.slot
    records_flag meta records_top_of = sound.of_data
    records_flag meta (records_pair d w k up entries records) = records_data meta.slot records

    -- ---- directories that names lead to

    -- the two sources of such a directory, and its pairs lie within the depths on the way
    record IsTreeDir (trail : List ℕ) (entries meta : Link) : Type 0 where
      in_tree : InTree arena image root (length trail) entries
      records : HasRecords arena image root meta
      way_in : HasWay arena image (step arena image (from_block root) 0) trail

    longer : (trail : List ℕ) (pair : ℕ) → length (trail ++ pair ∷ []) ≡ suc (length trail)
    longer [] pair = refl
    longer (next ∷ trail) pair = ap suc (longer trail pair)

    way_more : (trail : List ℕ) (pair : ℕ) (w : Link) → HasWay arena image w trail → pair / 102 < 409 ^ depth_of (file_link arena image w trail).slot → HasWay arena image w (trail ++ pair ∷ [])
    way_more [] pair w within last = (last, tt)
    way_more (next ∷ trail) pair w within last = (within.0, way_more trail pair (entry_of arena image w (2 * next)) within.1 last)

    pair_in : (size pair depth : ℕ) → 8192 * (pair / 102) < size → size ≤ 8192 * 409 ^ depth → pair / 102 < 409 ^ depth
    pair_in size pair depth lt le = omega (arith, lt, le)

    tree_dir : (trail : List ℕ) (entries meta : Link) → IsDir arena image root trail entries meta → IsTreeDir trail entries meta
    tree_dir trail entries meta dir_top = record { in_tree = tree_top; records = records_top_of; way_in = tt }
    tree_dir trail entries meta (dir_below up e m k j r dir listed folder) =
        let above = tree_dir up e m dir in
        let fit = sound.fit up e m k j r dir listed in
        let first = first_entries (entry_of arena image e (2 * r.slot)).slot r fit.first folder in
        let read = ((reads_dirs arena image root).each up e m dir).0 in
        let last = pair_in (size_of e.slot) r.slot (depth_of e.slot) fit.within (sound.entries_room (length up) e above.in_tree) in
        record {
          in_tree = subst (λ n. InTree arena image root n (entry_of arena image e (2 * r.slot))) (sym (longer up r.slot)) (tree_below (length up) e (2 * r.slot) above.in_tree first);
          records = records_pair (length up) e r.slot above.in_tree first (second_records (entry_of arena image e (2 * r.slot + 1)).slot r fit.second folder);
          way_in = way_more up r.slot (step arena image (from_block root) 0) above.way_in (subst (λ (w : Link). r.slot / 102 < 409 ^ depth_of w.slot) (sym read) last);
        }

    plain_dir : (trail : List ℕ) (entries meta : Link) → IsDir arena image root trail entries meta → IsPlainDir arena image root trail meta
    plain_dir trail entries meta dir =
        let tree = tree_dir trail entries meta dir in
        record {
          deep = sound.depths (length trail) entries tree.in_tree;
          way = tree.way_in;
          of_data = records_flag meta tree.records;
          room = sound.records_room meta tree.records;
          unheld = unheld meta tree.records;
        }

    -- ---- directories of the tree, whether or not a name leads to them

    module _ (named : (image 1).slot 0 ≡ to_block root) where
      -- a source of entries is that at the end of a trail of entries
      record Trailed (depth : ℕ) (w : Link) : Type 0 where
        next : ℕ
        rest : List ℕ
        link : link_of arena image (next ∷ rest) ≡ w
        rooms : Rooms arena image (next ∷ rest)
        begins : FromRoot (next ∷ rest)
        long : length rest ≡ suc depth

      -- one entry more
      entry_more : (depth : ℕ) (w : Link) (j : ℕ) (up : Trailed depth w) → link_of arena image (entry_in (depth_of w.slot) j ∷ up.next ∷ up.rest) ≡ entry_of arena image w j
      entry_more depth w j up = ap (λ x. entry_of arena image x (entry_in (depth_of w.slot) j)) up.link ∙ same_entry arena image w j

      room_more : (depth : ℕ) (w : Link) (j : ℕ) (up : Trailed depth w) → Rooms arena image (entry_in (depth_of w.slot) j ∷ up.next ∷ up.rest)
      room_more depth w j up =
          let less = reduced_less (depth_of w.slot) (j / 204) in
          let leaf : entry_in (depth_of w.slot) j / 204 ≡ reduced (depth_of w.slot) (j / 204) = omega arith in
          (subst (λ (x : Link). entry_in (depth_of w.slot) j / 204 < 409 ^ depth_of x.slot) (sym up.link) (subst (λ n. n < 409 ^ depth_of w.slot) (sym leaf) less), up.rooms)

      trailed : (depth : ℕ) (w : Link) → InTree arena image root depth w → Trailed depth w
      trailed depth w tree_top = record { next = 0; rest = 0 ∷ []; link = entries_top arena image root named; rooms = entries_begin arena image root named; begins = refl; long = refl }
      trailed depth w (tree_below d v j above entries) =
          let up = trailed d v above in
          record {
            next = entry_in (depth_of v.slot) j;
            rest = up.next ∷ up.rest;
            link = entry_more d v j up;
            rooms = room_more d v j up;
            begins = up.begins;
            long = ap suc up.long;
          }

      hidden_source : (meta : Link) → HasRecords arena image root meta → (way : List ℕ) × IsSource arena image way meta
      hidden_source meta records_top_of = (
        1 ∷ 0 ∷ [],
        record {
          link = sym (records_top arena image root named);
          rooms = records_begin arena image root named;
          pairs = 0;
          shape = record { entry = 1; next = 0; rest = []; is = refl; odd = refl; begins = refl; long = refl };
          deep = omega arith;
          of_data = sound.of_data;
          room = sound.records_room meta records_top_of;
          unheld = unheld meta records_top_of;
        },
      )
      hidden_source meta (records_pair d w k above entries records) =
          let up = trailed d w above in
          let odd : entry_in (depth_of w.slot) (2 * k + 1) % 2 ≡ 1 = omega arith in (
            entry_in (depth_of w.slot) (2 * k + 1) ∷ up.next ∷ up.rest,
            record {
              link = sym (entry_more d w (2 * k + 1) up);
              rooms = room_more d w (2 * k + 1) up;
              pairs = suc d;
              shape = record { entry = entry_in (depth_of w.slot) (2 * k + 1); next = up.next; rest = up.rest; is = refl; odd = odd; begins = up.begins; long = up.long };
              deep = sound.depths (suc d) (entry_of arena image w (2 * k)) (tree_below d w (2 * k) above entries);
              of_data = records_data meta.slot records;
              room = sound.records_room meta (records_pair d w k above entries records);
              unheld = unheld meta (records_pair d w k above entries records);
            },
          )

-- ---- the rules

module _ {s : State} (super_at : s.stands 1 super_place) (ranked : (image : Image) → s.may_leave image → IsRanked s image) (once : StandOnce s.may_leave) (arena : Arena) (image : Image) (root : ℕ) (is : IsArena arena) (may : s.may_leave image) (named : (image 1).slot 0 ≡ to_block root) (sound : IsSoundBeside arena image root) where
  differ : NamesDiffer s
  differ = names_stand s super_at ranked once

  one_number : (trail other : List ℕ) (entries meta below beside : Link) (k j m n : ℕ) (r q : Record) → IsDir arena image root trail entries meta
      → IsDir arena image root other below beside → Lists arena image meta k j r → Lists arena image beside m n q → r.number ≡ q.number → IsSamePlace trail k j other m n
  one_number trail other entries meta below beside k j m n r q dir aside l t number = ⊎_elim
      (λ e.
      let same : beside ≡ meta = sym ((reads_dirs arena image root).each other below beside aside).1 ∙ ((reads_dirs arena image root).each other entries meta (subst (λ x. IsDir arena image root x entries meta) e dir)).1 in
      let place = differ.within arena image root k j m n trail entries meta r q is may named dir (plain_dir arena image root sound trail entries meta dir) l (subst (λ w. Lists arena image w m n q) same t) (inr (inl number)) in
      (e, place.0, place.1))
      (λ ne. absurd (differ.between arena image root k j m n trail other entries meta below beside r q is may named dir (plain_dir arena image root sound trail entries meta dir) aside (plain_dir arena image root sound other below beside aside) ne l t number))
      (lists trail other)

  names_hold : HasNames arena image root
  names_hold = record {
    names = λ meta k j m n r q records l t same. one_source {s = s} {arena = arena} {image = image} super_at (ranked image may) is root named may once (hidden_source arena image root sound named meta records).1 l t (inl same);
    pairs = λ trail entries meta k j m n r q dir l t same. differ.within arena image root k j m n trail entries meta r q is may named dir (plain_dir arena image root sound trail entries meta dir) l t (inr (inr same));
    numbers = one_number;
  }

pub keeps_names : (s : State) → s.stands 1 super_place → ((image : Image) → s.may_leave image → IsRanked s image) → StandOnce s.may_leave → KeepsNames s
keeps_names s super_at ranked once = record { each = λ arena image root is may named sound. names_hold {s = s} super_at ranked once arena image root is may named sound }
