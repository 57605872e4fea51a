-- An image keeps the rule on pairs where those of the records that it shows stand, and it keeps the rest.
use Rattle.std.proofs.Common.{◌≡◌, ◌≢◌, ℕ, suc, ◌+◌, ◌*◌, ◌/◌, ◌%◌, ◌^◌, ◌<◌, true, List, [], ◌∷◌, ◌++◌, length, refl, sym, ◌∙◌, ap, subst, arith}
use Rattle.fo_image.specs.declared.record.Record.{Record}
use Rattle.fo_image.specs.declared.types.Score.{Score}
use Rattle.fo_image.specs.declared.types.Pointer.TheVariants.{Score as Held}
use Rattle.fo_crash.specs.declared.slot.Slot.{Slot}
use Rattle.fo_crash.specs.declared.slot.Slot.TheVariants.{Pointer as To, Entry as Head, Prev}
use Rattle.fo_crash.specs.Images.{Image, Arena, Link, IsArena, target, goes, step, depth_of, leaf_path, entry_of, file_link, from_block, to_block}
use Rattle.fo_crash.specs.Places.{super_place, tag_of_top}
use Rattle.fo_good.specs.of_world.Step.{is_dir_mode}
use Rattle.fo_good.specs.Trees.{IsDir, IsEntries, IsSecond, IsRecords, InTree, HasRecords, Lists, IsWithin}
use Rattle.fo_good.specs.Trees.IsDir.{top as dir_top, below as dir_below}
use Rattle.fo_good.specs.Trees.InTree.{top as tree_top, below as tree_below}
use Rattle.fo_good.specs.Trees.HasRecords.{top as records_top, pair as records_pair}
use Rattle.fo_ports.specs.State.{State}
use Rattle.fo_dir_pairs.specs.Pairs.{IsPaired}
use Rattle.fo_dir_images.specs.Leaves.{HasWay}
use Rattle.fo_dir_images.specs.Whole.{HasEntries}
use Rattle.fo_dir_images.proofs.Same.{reads_dirs}
use Rattle.fo_dir_images.proofs.Trailing.{goes_joins}
use Rattle.fo_dir_names.specs.Names.{IsOfData, IsPlainDir}
use Rattle.fo_dir_names.specs.Rules.{IsSoundBeside, KeepsNames}
use Rattle.fo_dir_names.proofs.Sources.{IsRanked}
use Rattle.fo_dir_fit.specs.Fit.{IsPairOfDir, IsRootDir}
use Rattle.fo_dir_fit.specs.Rules.{IsSoundApart, HasLengths, KeepsPairs, KeepsBoth, IsSoundRoot}
use Rattle.fo_dir_fit.proofs.Listed.{pair_of_record, listed_fits}

-- ---- entries

second_records : (s : Slot) (r : Record) → IsSecond s r → is_dir_mode r.mode ≡ true → IsRecords s
second_records (Head e) r second dir = (second.0 ∙ dir, second.1)
second_records (To p) r second dir = second
second_records (Prev epoch at) r second dir = second

records_data : (s : Slot) → IsRecords s → IsOfData s
records_data (Head e) records = records.1
records_data (To p) records = records
records_data (Prev epoch at) records = records

longer : (trail : List ℕ) (pair : ℕ) → length (trail ++ pair ∷ []) ≡ suc (length trail)
longer [] pair = refl
longer (next ∷ trail) pair = ap suc (longer trail pair)

module _ {s : State} (super_at : s.stands 1 super_place) (arena : Arena) (image : Image) (root : ℕ) (ranked : IsRanked s image) (paired : IsPaired image) (is : IsArena arena) (named : (image 1).slot 0 ≡ to_block root) (sound : IsSoundApart arena image root) where
  -- ---- paths

  -- a path of the tree comes to this link
  record IsReached (w : Link) : Type 0 where
    path : List ℕ
    is_there : goes arena image (from_block root) path ≡ w

  further : (w : Link) → IsReached w → (path : List ℕ) → IsReached (goes arena image w path)
  further w reached path = record { path = reached.path ++ path; is_there = goes_joins arena image (from_block root) reached.path path ∙ ap (λ x. goes arena image x path) reached.is_there }

  tree_reached : (depth : ℕ) (w : Link) → InTree arena image root depth w → IsReached w
  tree_reached depth w tree_top = record { path = 0 ∷ []; is_there = refl }
  tree_reached depth w (tree_below d v j up entries) = further v (tree_reached d v up) (leaf_path v.slot (j / 204) ++ (j % 204) ∷ [])

  records_reached : (meta : Link) → HasRecords arena image root meta → IsReached meta
  records_reached meta records_top = record { path = 1 ∷ []; is_there = refl }
  records_reached meta (records_pair d w k up entries records) = further w (tree_reached d w up) (leaf_path w.slot ((2 * k + 1) / 204) ++ ((2 * k + 1) % 204) ∷ [])

  unheld : (meta : Link) → HasRecords arena image root meta → (k : ℕ) (score : Score) → IsWithin meta.slot k → target ((goes arena image meta (leaf_path meta.slot k)).slot) ≢ Held score
  unheld meta records k score within = λ e.
      let reached = further meta (records_reached meta records) (leaf_path meta.slot k) in
      sound.scores.none reached.path score (ap (λ (x : Link). target x.slot) reached.is_there ∙ e)

  records_flag : (meta : Link) → HasRecords arena image root meta → IsOfData meta.slot
  records_flag meta records_top = sound.of_data
  records_flag meta (records_pair d w k up entries records) = records_data meta.slot records

  way_more : (trail : List ℕ) (pair : ℕ) (w : Link) → HasWay arena image w trail → pair / 102 < 409 ^ depth_of (file_link arena image w trail).slot → HasWay arena image w (trail ++ pair ∷ [])
  way_more [] pair w within last = (last, tt)
  way_more (next ∷ trail) pair w within last = (within.0, way_more trail pair (entry_of arena image w (2 * next)) within.1 last)

  -- ---- directories that names lead to

  -- the two sources of such a directory, whose pair is in use; and the pairs on the way lie within the depths
  record IsTreeDir (trail : List ℕ) (entries meta : Link) : Type 0 where
    in_tree : InTree arena image root (length trail) entries
    records : HasRecords arena image root meta
    way_in : HasWay arena image (step arena image (from_block root) 0) trail
    of_dir : IsPairOfDir entries meta

  plain_dir : (trail : List ℕ) (entries meta : Link) → IsTreeDir trail entries meta → IsPlainDir arena image root trail meta
  plain_dir trail entries meta tree = record {
    deep = sound.depths (length trail) entries tree.in_tree;
    way = tree.way_in;
    of_data = records_flag meta tree.records;
    room = sound.records_room meta tree.records;
    unheld = unheld meta tree.records;
  }

  -- each record that such a directory lists has its pair
  fits : (trail : List ℕ) (entries meta : Link) (k j : ℕ) (r : Record) → IsDir arena image root trail entries meta → IsTreeDir trail entries meta → Lists arena image meta k j r → HasEntries arena image entries r
  fits trail entries meta k j r dir tree l = listed_fits {s = s} {arena = arena} {image = image} super_at ranked paired is root named k j trail entries meta r dir (plain_dir trail entries meta tree) tree.of_dir l

  tree_dir : (trail : List ℕ) (entries meta : Link) → IsDir arena image root trail entries meta → IsTreeDir trail entries meta
  tree_dir trail entries meta dir_top = record { in_tree = tree_top; records = records_top; way_in = tt; of_dir = sound.in_use }
  tree_dir trail entries meta (dir_below up e m k j r dir listed folder) =
      let above = tree_dir up e m dir in
      let fit = fits up e m k j r dir above listed in
      let of_dir = pair_of_record fit folder in
      let read = ((reads_dirs arena image root).each up e m dir).0 in
      record {
        in_tree = subst (λ n. InTree arena image root n (entry_of arena image e (2 * r.slot))) (sym (longer up r.slot)) (tree_below (length up) e (2 * r.slot) above.in_tree of_dir.in_use);
        records = records_pair (length up) e r.slot above.in_tree of_dir.in_use (second_records (entry_of arena image e (2 * r.slot + 1)).slot r fit.second folder);
        way_in = way_more up r.slot (step arena image (from_block root) 0) above.way_in (subst (λ (w : Link). r.slot / 102 < 409 ^ depth_of w.slot) (sym read) fit.room);
        of_dir = of_dir;
      }

  tree_fits : (trail : List ℕ) (entries meta : Link) (k j : ℕ) (r : Record) → IsDir arena image root trail entries meta → Lists arena image meta k j r → HasEntries arena image entries r
  tree_fits trail entries meta k j r dir l = fits trail entries meta k j r dir (tree_dir trail entries meta dir) l

  sound_beside : HasLengths arena image root → IsSoundBeside arena image root
  sound_beside lengths = record {
    of_data = sound.of_data;
    entries_room = lengths.entries_room;
    records_room = sound.records_room;
    fit = λ trail entries meta k j r dir l.
        let has = tree_fits trail entries meta k j r dir l in
        record { within = lengths.reaches trail entries meta k j r dir l; first = has.first; second = has.second };
    depths = sound.depths;
    scores = sound.scores;
  }

pub keeps_pairs : (s : State) → s.stands 1 super_place → ((image : Image) → s.may_leave image → IsRanked s image) → ((image : Image) → s.may_leave image → IsPaired image) → KeepsPairs s
keeps_pairs s super_at ranked paired = record {
  each = λ arena image root is may named sound trail entries meta k j r dir l. tree_fits {s = s} super_at arena image root (ranked image may) (paired image may) is named sound trail entries meta k j r dir l;
  beside = λ arena image root is may named sound lengths. sound_beside {s = s} super_at arena image root (ranked image may) (paired image may) is named sound lengths;
}

pub keeps_both : (s : State) → KeepsNames s → KeepsPairs s → KeepsBoth s
keeps_both s names pairs = record {
  each = λ arena image root is may named sound lengths.
      let beside = pairs.beside arena image root is may named sound lengths in
      let has = names.each arena image root is may named beside in (
        record { fit = beside.fit; differ = has.pairs },
        has,
      );
}

-- ---- the root block

pub sound_root : (arena : Arena) (image : Image) (root : ℕ) → IsSoundRoot image root → IsRootDir arena image root × IsOfData (step arena image (from_block root) 1).slot
sound_root arena image root r = (
  record {
    in_use = subst IsEntries (sym r.entries) (r.sound.entries_active, r.sound.entries_dir);
    tags =
        let one = r.sound.entries_tag in
        let two = r.sound.meta_tag in
        ap tag_of_top r.meta ∙ (let next : r.block.meta.tag ≡ r.block.entries.tag + 1 = omega (arith, one, two) in next) ∙ ap (λ t. tag_of_top t + 1) (sym r.entries);
  },
  subst IsOfData (sym r.meta) r.sound.meta_dir,
)
