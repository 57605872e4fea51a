-- Directories that are alike have the same names, and below each name the same is read.
use Rattle.std.proofs.Common.{◌≡◌, ◌∙◌, ℕ, zero, suc, ◌+◌, ◌*◌, ◌/◌, ◌%◌, Bool, true, false, cond, List, [], ◌∷◌, ◌++◌, length, refl, sym, ap, subst, append_assoc, arith}
use Rattle.std.specs.List.{AllByRecursion}
use Rattle.fo_image.specs.declared.types.Entry.{Entry}
use Rattle.fo_image.specs.declared.types.Kind.TheVariants.{Data, Dir as DirKind}
use Rattle.fo_image.specs.declared.record.Record.{Record}
use Rattle.fo_crash.specs.declared.slot.Slot.{Slot}
use Rattle.fo_crash.specs.declared.slot.Slot.TheVariants.{Pointer as To, Entry as Head, Prev}
use Rattle.fo_crash.specs.Images.{Arena, Image, Link, target, leaf_path, entry_of, from_block}
use Rattle.fo_world.specs.declared.tree.Body.TheVariants.{File, Dir}
use Rattle.fo_world.specs.Names.{Names}
use Rattle.fo_world.specs.Tree.{node_of, put_name}
use Rattle.fo_world.specs.Step.{is_dir_mode}
use Rattle.fo_good.specs.Trees.{HoldsEntries, IsRecords, IsDir, IsFirst, IsSecond, HasPair, HasPairs, HasLeaves, Lists}
use Rattle.fo_good.specs.Trees.IsDir.{below as dir_below}
use Rattle.fo_good.specs.Reading.{dir_in, dir_records, names_in, body_in, source_in, stat_in}
use Rattle.fo_vac_open.specs.Tree.{no_image}
use Rattle.fo_arch_tree.proofs.Sides.{Sides, Holds, archive, along, IsClean, AreEntries}
use Rattle.fo_arch_tree.proofs.Steps.{goes_join}
use Rattle.fo_arch_tree.proofs.Sources.{leaf_comes, entry_both, clean_along}
use Rattle.fo_arch_tree.proofs.Leaves.{LeafAt, same_source, same_records_in, leaf_kind, records_all, dir_all}

-- ---- what a record's pair says

record FirstIs (slot : Slot) (r : Record) : Type 0 where
  entry : Entry
  is : slot ≡ Head entry
  active : entry.active ≡ true
  dir : entry.dir ≡ is_dir_mode r.mode

first_is : (slot : Slot) (r : Record) → IsFirst slot r → FirstIs slot r
first_is (Head e) r p = record { entry = e; is = refl; active = p.0; dir = p.2 }
first_is (To q) r p = absurd p
first_is (Prev epoch at) r p = absurd p

record SecondIs (slot : Slot) : Type 0 where
  entry : Entry
  is : slot ≡ Head entry
  active : entry.active ≡ true
  dir : entry.dir ≡ false

second_is : (slot : Slot) (r : Record) → IsSecond slot r → is_dir_mode r.mode ≡ true → SecondIs slot
second_is (Head e) r p dir = record { entry = e; is = refl; active = p.0 ∙ dir; dir = p.1 }
second_is (To q) r p dir = absurd p
second_is (Prev epoch at) r p dir = absurd p

-- ---- names by records

same_names : (arena other : Arena) (image image' : Image) (f g : Link → Link → Names) (e e' : Link) (rs : List Record) → AllByRecursion (λ (r : Record). body_in f arena image e r ≡ body_in g other image' e' r) rs
    → names_in f arena image e rs ≡ names_in g other image' e' rs
same_names arena other image image' f g e e' [] all = refl
same_names arena other image image' f g e e' (r ∷ rs) all =
    let body = all.0 in
    let rest = same_names arena other image image' f g e e' rs all.1 in
    λ k. put_name r.name (node_of (stat_in r) (body k)) (rest k)

-- ---- directories

-- the directory at this trail, and its archived one
pub record AreDirs (s : Sides) (root : ℕ) (trail : List ℕ) (e m : Entry) (entries meta entries' meta' : Link) : Type 0 where
  pub dir : IsDir s.arena s.image root trail entries meta
  pub first : AreEntries s e entries entries'
  pub first_dir : e.dir ≡ true
  pub first_clean : IsClean s entries
  pub second : AreEntries s m meta meta'
  pub second_dir : m.dir ≡ false
  pub second_clean : IsClean s meta
  pub place : List ℕ
  pub stands : entries ≡ along s (from_block root) place
  pub leaves : (k : ℕ) → LeafAt s (along s meta (leaf_path meta.slot k))

module _ (s : Sides) (h : Holds s) (root : ℕ) (formed : HasLeaves s.arena s.image root) (pairs : HasPairs s.arena s.image root) where
  are_records : (m : Entry) (w v : Link) → AreEntries s m w v → m.dir ≡ false → IsRecords w.slot
  are_records m w v a dir = subst (λ (x : Link). IsRecords x.slot) (sym a.here) (a.active, dir)

  -- leaves of records are of their format
  pub leaves_of : (path : List ℕ) (i : ℕ) (meta : Link) → meta ≡ along s (from_block root) (path ++ i ∷ []) → HoldsEntries ((along s (from_block root) path).kind) → i % 2 ≡ 1 → IsRecords meta.slot
      → ((k : ℕ) → (along s meta (leaf_path meta.slot k)).kind ≡ Data 0) → (k : ℕ) → LeafAt s (along s meta (leaf_path meta.slot k))
  leaves_of path i meta is holder odd records kinds k at leads =
      let more = leaf_path meta.slot k in
      let here : along s (from_block root) (path ++ i ∷ more) ≡ along s meta more =
      goes_join s.arena s.image path (i ∷ more) (from_block root) ∙ ap (λ (x : Link). along s x more) (sym (is ∙ goes_join s.arena s.image path (i ∷ []) (from_block root))) in
      formed.leaves path more i at
      (record { holder = holder; second = odd; records = subst (λ (x : Link). IsRecords x.slot) is records })
      (ap (λ (x : Link). x.kind) here ∙ kinds k)
      (ap (λ (x : Link). target x.slot) here ∙ leads)

  module _ {trail : List ℕ} {e m : Entry} {entries meta entries' meta' : Link} (d : AreDirs s root trail e m entries meta entries' meta') where
    -- where entry j stands
    path_to : ℕ → List ℕ
    path_to j = d.place ++ leaf_path entries.slot (j / 204)

    entry_at_path : (j : ℕ) → entry_of s.arena s.image entries j ≡ along s (from_block root) (path_to j ++ (j % 204) ∷ [])
    unfolding path_to
    entry_at_path j =
        ap (λ (x : Link). along s x (leaf_path entries.slot (j / 204) ++ (j % 204) ∷ [])) d.stands
        ∙ sym (goes_join s.arena s.image d.place (leaf_path entries.slot (j / 204) ++ (j % 204) ∷ []) (from_block root))
        ∙ ap (along s (from_block root)) (sym (append_assoc d.place (leaf_path entries.slot (j / 204)) ((j % 204) ∷ [])))

    holder_is : (j : ℕ) → HoldsEntries ((along s (from_block root) (path_to j)).kind)
    unfolding path_to
    holder_is j =
        let leaf = along s entries (leaf_path entries.slot (j / 204)) in
        let here : along s (from_block root) (path_to j) ≡ leaf = goes_join s.arena s.image d.place (leaf_path entries.slot (j / 204)) (from_block root) ∙ ap (λ (x : Link). along s x (leaf_path entries.slot (j / 204))) (sym d.stands) in
        let kind : leaf.kind ≡ DirKind 0 = (leaf_comes s h e entries entries' (j / 204) d.first d.first_clean).both.here ∙ ap (λ b. cond b (DirKind 0) (Data 0)) d.first_dir in
        subst HoldsEntries (sym (ap (λ (x : Link). x.kind) here ∙ kind)) tt

    entry_clean : (j : ℕ) → IsClean s (entry_of s.arena s.image entries j)
    entry_clean j = clean_along s (leaf_path entries.slot (j / 204) ++ (j % 204) ∷ []) entries d.first_clean

    -- a directory below
    dirs_below : (k j : ℕ) (r : Record) → Lists s.arena s.image meta k j r → is_dir_mode r.mode ≡ true → (f : FirstIs ((entry_of s.arena s.image entries (2 * r.slot)).slot) r) (g : SecondIs ((entry_of s.arena s.image entries (2 * r.slot + 1)).slot))
        → AreDirs s root (trail ++ r.slot ∷ []) f.entry g.entry (entry_of s.arena s.image entries (2 * r.slot)) (entry_of s.arena s.image entries (2 * r.slot + 1)) (entry_of (archive s) no_image entries' (2 * r.slot)) (entry_of (archive s) no_image entries' (2 * r.slot + 1))
    dirs_below k j r lists mode f g =
        let first = entry_both s h e f.entry entries entries' (2 * r.slot) d.first d.first_dir d.first_clean f.is f.active in
        let second = entry_both s h e g.entry entries entries' (2 * r.slot + 1) d.first d.first_dir d.first_clean g.is g.active in
        let odd : (2 * r.slot + 1) % 204 % 2 ≡ 1 = omega arith in record {
          dir = dir_below trail entries meta k j r d.dir lists mode;
          first = first;
          first_dir = f.dir ∙ mode;
          first_clean = entry_clean (2 * r.slot);
          second = second;
          second_dir = g.dir;
          second_clean = entry_clean (2 * r.slot + 1);
          place = path_to (2 * r.slot) ++ (2 * r.slot % 204) ∷ [];
          stands = entry_at_path (2 * r.slot);
          leaves = leaves_of (path_to (2 * r.slot + 1)) ((2 * r.slot + 1) % 204) (entry_of s.arena s.image entries (2 * r.slot + 1)) (entry_at_path (2 * r.slot + 1)) (holder_is (2 * r.slot + 1)) odd
              (are_records g.entry (entry_of s.arena s.image entries (2 * r.slot + 1)) (entry_of (archive s) no_image entries' (2 * r.slot + 1)) second g.dir)
              (leaf_kind s h g.entry (entry_of s.arena s.image entries (2 * r.slot + 1)) (entry_of (archive s) no_image entries' (2 * r.slot + 1)) second g.dir (entry_clean (2 * r.slot + 1)));
        }

    -- what stands below a record's name
    same_body : (n : ℕ) → ((trail : List ℕ) (e m : Entry) (entries meta entries' meta' : Link) → AreDirs s root trail e m entries meta entries' meta' → dir_in n s.arena s.image entries meta ≡ dir_in n (archive s) no_image entries' meta')
        → (k j : ℕ) (r : Record) → Lists s.arena s.image meta k j r → body_in (dir_in n s.arena s.image) s.arena s.image entries r ≡ body_in (dir_in n (archive s) no_image) (archive s) no_image entries' r
    same_body n same k j r lists = by (is_dir_mode r.mode) refl
      where
        pair : HasPair s.arena s.image entries r
        pair = pairs.fit trail entries meta k j r d.dir lists

        f : FirstIs ((entry_of s.arena s.image entries (2 * r.slot)).slot) r
        f = first_is ((entry_of s.arena s.image entries (2 * r.slot)).slot) r pair.first

        by : (b : Bool) → is_dir_mode r.mode ≡ b
            → cond b (Dir (dir_in n s.arena s.image (entry_of s.arena s.image entries (2 * r.slot)) (entry_of s.arena s.image entries (2 * r.slot + 1)))) (File (source_in s.arena s.image (entry_of s.arena s.image entries (2 * r.slot))))
            ≡ cond b (Dir (dir_in n (archive s) no_image (entry_of (archive s) no_image entries' (2 * r.slot)) (entry_of (archive s) no_image entries' (2 * r.slot + 1)))) (File (source_in (archive s) no_image (entry_of (archive s) no_image entries' (2 * r.slot))))
        by true mode =
            let g = second_is ((entry_of s.arena s.image entries (2 * r.slot + 1)).slot) r pair.second mode in
            ap Dir (same (trail ++ r.slot ∷ []) f.entry g.entry _ _ _ _ (dirs_below k j r lists mode f g))
        by false mode =
            ap File (same_source s h f.entry (entry_of s.arena s.image entries (2 * r.slot)) (entry_of (archive s) no_image entries' (2 * r.slot)) (entry_both s h e f.entry entries entries' (2 * r.slot) d.first d.first_dir d.first_clean f.is f.active) (f.dir ∙ mode) (entry_clean (2 * r.slot)))

    every_body : (n : ℕ) → ((trail : List ℕ) (e m : Entry) (entries meta entries' meta' : Link) → AreDirs s root trail e m entries meta entries' meta' → dir_in n s.arena s.image entries meta ≡ dir_in n (archive s) no_image entries' meta')
        → AllByRecursion (λ (r : Record). body_in (dir_in n s.arena s.image) s.arena s.image entries r ≡ body_in (dir_in n (archive s) no_image) (archive s) no_image entries' r) (dir_records s.arena s.image meta)
    every_body n same =
        let P : Record → Type 0 = λ (r : Record). body_in (dir_in n s.arena s.image) s.arena s.image entries r ≡ body_in (dir_in n (archive s) no_image) (archive s) no_image entries' r in
        dir_all s meta P (λ k lt. records_all s (along s meta (leaf_path meta.slot k)) P (clean_along s (leaf_path meta.slot k) meta d.second_clean) (d.leaves k)
        (λ before after r spells. same_body n same k (length before) r (record { within = omega (arith, lt); before = before; after = after; spelled = spells; place = refl })))

    records_are : dir_records s.arena s.image meta ≡ dir_records (archive s) no_image meta'
    records_are = same_records_in s h m meta meta' d.second d.second_dir d.second_clean d.leaves

  pub same_dir : (n : ℕ) (trail : List ℕ) (e m : Entry) (entries meta entries' meta' : Link) → AreDirs s root trail e m entries meta entries' meta' → dir_in n s.arena s.image entries meta ≡ dir_in n (archive s) no_image entries' meta'
  unfolding dir_in
  same_dir zero trail e m entries meta entries' meta' d = refl
  same_dir (suc n) trail e m entries meta entries' meta' d =
      same_names s.arena (archive s) s.image no_image (dir_in n s.arena s.image) (dir_in n (archive s) no_image) entries entries' (dir_records s.arena s.image meta) (every_body d n (same_dir n))
      ∙ ap (names_in (dir_in n (archive s) no_image) (archive s) no_image entries') (records_are d)
