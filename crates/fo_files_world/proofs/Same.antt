-- The tree that an image shows is a function of the records of its directories and the bytes of its files, and these of what paths find:
-- addresses don't count.
use Rattle.std.proofs.Common.{◌≡◌, ◌∙◌, ℕ, zero, suc, ◌+◌, ◌*◌, ◌/◌, ◌%◌, Bool, true, false, cond, List, [], ◌∷◌, ◌++◌, refl, sym, ap, subst}
use Rattle.std.specs.List.{AllByRecursion, flat_map, range_with_len}
use Rattle.std.specs.Prelude.{map, slice_index_or}
use Rattle.fo_image.specs.declared.record.Record.{Record}
use Rattle.fo_crash.specs.declared.slot.Slot.{Slot}
use Rattle.fo_crash.specs.declared.slot.Slot.TheVariants.{Pointer as To, Entry as Head, Prev}
use Rattle.fo_crash.specs.Images.{Arena, Image, Link, step, goes, found, note, bytes_at, leaf_path, way, depth_of, entry_of, from_block, SameTree}
use Rattle.fo_world.specs.declared.tree.Body.TheVariants.{File, Dir}
use Rattle.fo_world.specs.Tree.{node_of, put_name}
use Rattle.fo_world.specs.Step.{is_dir_mode}
use Rattle.fo_good.specs.Trees.{size_of}
use Rattle.fo_good.specs.Reading.{dir_in, dir_records, names_in, body_in, source_in, leaf_records, leaves_in, stat_in, own_record, root_node, levels}
use Rattle.fo_files_world.specs.Same.{OneOf, SameFile, SameDir}

-- ---- names by records

module _ (arena : Arena) (image other : Image) where
  same_body : (n : ℕ) → ((e m e' m' : Link) → SameDir arena image other n e m e' m' → dir_in n arena image e m ≡ dir_in n arena other e' m')
      → (e e' : Link) (r : Record) → SameFile (SameDir arena image other n) arena image other e e' r
      → body_in (dir_in n arena image) arena image e r ≡ body_in (dir_in n arena other) arena other e' r
  same_body n same e e' r file = by (is_dir_mode r.mode) file
    where
      by : (d : Bool) → OneOf d (SameDir arena image other n (entry_of arena image e (2 * r.slot)) (entry_of arena image e (2 * r.slot + 1)) (entry_of arena other e' (2 * r.slot)) (entry_of arena other e' (2 * r.slot + 1))) (source_in arena image (entry_of arena image e (2 * r.slot)) ≡ source_in arena other (entry_of arena other e' (2 * r.slot)))
          → cond d (Dir (dir_in n arena image (entry_of arena image e (2 * r.slot)) (entry_of arena image e (2 * r.slot + 1)))) (File (source_in arena image (entry_of arena image e (2 * r.slot)))) ≡ cond d (Dir (dir_in n arena other (entry_of arena other e' (2 * r.slot)) (entry_of arena other e' (2 * r.slot + 1)))) (File (source_in arena other (entry_of arena other e' (2 * r.slot))))
      by true dirs = ap Dir (same _ _ _ _ dirs)
      by false bytes = ap File bytes

  pub same_names : (n : ℕ) → ((e m e' m' : Link) → SameDir arena image other n e m e' m' → dir_in n arena image e m ≡ dir_in n arena other e' m')
      → (e e' : Link) (rs : List Record) → AllByRecursion (SameFile (SameDir arena image other n) arena image other e e') rs
      → names_in (dir_in n arena image) arena image e rs ≡ names_in (dir_in n arena other) arena other e' rs
  same_names n same e e' [] all = refl
  same_names n same e e' (r ∷ rs) all =
      let body = same_body n same e e' r all.0 in
      let rest = same_names n same e e' rs all.1 in
      λ k. put_name r.name (node_of (stat_in r) (body k)) (rest k)

  -- what shows the same records and files is the same directory
  pub same_dir : (n : ℕ) (e m e' m' : Link) → SameDir arena image other n e m e' m' → dir_in n arena image e m ≡ dir_in n arena other e' m'
  unfolding dir_in
  same_dir zero e m e' m' same = refl
  same_dir (suc n) e m e' m' same = same_names n (same_dir n) e e' (dir_records arena image m) same.1 ∙ ap (names_in (dir_in n arena other) arena other e') same.0

  pub same_root : (root root' : ℕ) → (image root).bytes ≡ (other root').bytes
      → SameDir arena image other levels (step arena image (from_block root) 0) (step arena image (from_block root) 1) (step arena other (from_block root') 0) (step arena other (from_block root') 1)
      → root_node arena image root ≡ root_node arena other root'
  same_root root root' bytes dirs =
      let names = same_dir levels _ _ _ _ dirs in
      λ k. node_of (stat_in (own_record (bytes k))) (Dir (names k))

-- ---- records and bytes by paths

pub goes_join : (arena : Arena) (image : Image) (p q : List ℕ) (w : Link) → goes arena image w (p ++ q) ≡ goes arena image (goes arena image w p) q
goes_join arena image [] q w = refl
goes_join arena image (i ∷ p) q w = goes_join arena image p q (step arena image w i)

size_note : (s : Slot) → size_of (note s) ≡ size_of s
size_note (To p) = refl
size_note (Head e) = refl
size_note (Prev epoch at) = refl

depth_note : (s : Slot) → depth_of (note s) ≡ depth_of s
depth_note (To p) = refl
depth_note (Head e) = refl
depth_note (Prev epoch at) = refl

module _ (arena : Arena) (image other : Image) where
  pub same_below : (p : List ℕ) (w v : Link) → SameTree arena image w other v → SameTree arena image (goes arena image w p) other (goes arena other v p)
  same_below p w v same = record {
    each = λ q. record {
      notes = sym (ap (λ (l : Link). note l.slot) (goes_join arena image p q w)) ∙ (same.each (p ++ q)).notes ∙ ap (λ (l : Link). note l.slot) (goes_join arena other p q v);
      bytes = sym (ap (λ (l : Link). (found arena image l).bytes) (goes_join arena image p q w)) ∙ (same.each (p ++ q)).bytes ∙ ap (λ (l : Link). (found arena other l).bytes) (goes_join arena other p q v);
    };
  }

  same_size : (w v : Link) → SameTree arena image w other v → size_of w.slot ≡ size_of v.slot
  same_size w v same = sym (size_note w.slot) ∙ ap size_of (same.each []).notes ∙ size_note v.slot

  same_path : (w v : Link) (k : ℕ) → SameTree arena image w other v → leaf_path w.slot k ≡ leaf_path v.slot k
  same_path w v k same = ap (λ d. way d k []) (sym (depth_note w.slot) ∙ ap depth_of (same.each []).notes ∙ depth_note v.slot)

  same_leaf : (w v : Link) (k : ℕ) → SameTree arena image w other v → bytes_at arena image w (leaf_path w.slot k) ≡ bytes_at arena other v (leaf_path v.slot k)
  same_leaf w v k same = (same.each (leaf_path w.slot k)).bytes ∙ ap (bytes_at arena other v) (same_path w v k same)

  pub tree_records : (w v : Link) → SameTree arena image w other v → dir_records arena image w ≡ dir_records arena other v
  tree_records w v same =
      let size = same_size w v same in
      λ t. flat_map (λ k. leaf_records (same_leaf w v k same t)) (range_with_len 0 (leaves_in (size t)))

  pub tree_source : (w v : Link) → SameTree arena image w other v → source_in arena image w ≡ source_in arena other v
  tree_source w v same =
      let size = same_size w v same in
      λ t. map (λ j. slice_index_or (same_leaf w v (j / 8192) same t) (j % 8192) 0) (range_with_len 0 (size t))

  pub tree_entry : (w v : Link) (j : ℕ) → SameTree arena image w other v → SameTree arena image (entry_of arena image w j) other (entry_of arena other v j)
  tree_entry w v j same =
      subst (λ p. SameTree arena image (goes arena image w (leaf_path w.slot (j / 204) ++ (j % 204) ∷ [])) other (goes arena other v (p ++ (j % 204) ∷ [])))
      (same_path w v (j / 204) same) (same_below (leaf_path w.slot (j / 204) ++ (j % 204) ∷ []) w v same)

  every_file : (n : ℕ) → ((e m e' m' : Link) → SameTree arena image e other e' → SameTree arena image m other m' → SameDir arena image other n e m e' m')
      → (e e' : Link) → SameTree arena image e other e' → (rs : List Record) → AllByRecursion (SameFile (SameDir arena image other n) arena image other e e') rs
  every_file n dirs e e' same [] = tt
  every_file n dirs e e' same (r ∷ rs) = (by (is_dir_mode r.mode), every_file n dirs e e' same rs)
    where
      by : (d : Bool) → OneOf d (SameDir arena image other n (entry_of arena image e (2 * r.slot)) (entry_of arena image e (2 * r.slot + 1)) (entry_of arena other e' (2 * r.slot)) (entry_of arena other e' (2 * r.slot + 1))) (source_in arena image (entry_of arena image e (2 * r.slot)) ≡ source_in arena other (entry_of arena other e' (2 * r.slot)))
      by true = dirs _ _ _ _ (tree_entry e e' (2 * r.slot) same) (tree_entry e e' (2 * r.slot + 1) same)
      by false = tree_source _ _ (tree_entry e e' (2 * r.slot) same)

  -- directories of which all paths find the same are the same
  pub tree_dir : (n : ℕ) (e m e' m' : Link) → SameTree arena image e other e' → SameTree arena image m other m' → SameDir arena image other n e m e' m'
  tree_dir zero e m e' m' entries records = tt
  tree_dir (suc n) e m e' m' entries records = (tree_records m m' records, every_file n (tree_dir n) e e' entries (dir_records arena image m))

  -- the world is a function of what paths find
  pub tree_root : (root root' : ℕ) → (image root).bytes ≡ (other root').bytes
      → SameTree arena image (step arena image (from_block root) 0) other (step arena other (from_block root') 0)
      → SameTree arena image (step arena image (from_block root) 1) other (step arena other (from_block root') 1)
      → root_node arena image root ≡ root_node arena other root'
  tree_root root root' bytes entries records = same_root arena image other root root' bytes (tree_dir levels _ _ _ _ entries records)
