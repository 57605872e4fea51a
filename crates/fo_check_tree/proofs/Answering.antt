-- What is answered of the walk, once nothing is left.
use Rattle.std.proofs.Common.{◌≡◌, ◌≤◌, ◌⊎◌, ⊎_elim, ℕ, zero, suc, ◌+◌, ◌*◌, ◌/◌, ◌%◌, ◌<◌, Bool, List, [], ◌∷◌, ◌++◌, append_assoc, true, Option, Some, None, refl, sym, ap, ◌∙◌, subst, arith}
use Rattle.std.specs.Prelude.{cond, MatchOption}
use Rattle.fo_disk.specs.Disk.{Block}
use Rattle.fo_image.specs.declared.types.Kind.{Kind}
use Rattle.fo_image.specs.declared.types.Kind.TheVariants.{Data, Dir, Root}
use Rattle.fo_image.specs.declared.types.Super.{Super}
use Rattle.fo_crash.specs.declared.slot.Slot.{Slot}
use Rattle.fo_crash.specs.declared.slot.Slot.TheVariants.{Entry as Head}
use Rattle.fo_crash.specs.Images.{Content, Image, Arena, Link, target, found, step, goes, leaf_path, depth_of, entry_of, from_block, kind_below, kind_of_top}
use Rattle.fo_sound.specs.Sound.{HasRootEntries}
use Rattle.fo_good.specs.Trees.{HasNumbers, HasPairs, HasNoScores, HasTreeLabels, IsTree, IsEntries, IsRecords, HoldsEntries, NamesRecords, InTree, HasRecords, HasLeaves, LeadsTo, at_path}
use Rattle.fo_good.specs.Trees.HasRecords.{top as root_records, pair as pair_records}
use Rattle.fo_good.specs.Means.{Means}
use Rattle.fo_good.specs.Sound.{Kept, IsSoundTree}
use Rattle.fo_check_tree.specs.declared.broken.Broken.{Broken}
use Rattle.fo_check_tree.specs.declared.tree.Found.{Found}
use Rattle.fo_check_tree.specs.declared.walk.Folder.{Folder}
use Rattle.fo_check_tree.specs.declared.walk.Step.{Step}
use Rattle.fo_check_tree.specs.declared.walk.Walk.{Walk}
use Rattle.fo_meta.specs.Leaf.{IsLeaf}
use Rattle.fo_check_tree.specs.Formats.{IsRecordsWay, IsFormed, AreFormed}
use Rattle.fo_check_tree.specs.Answer.{IsAlone, HasOwnNames, IsOwnDir, AreRecordsOf, HoldsAny, IsNamed, NamesFormats, NamesPairs, NamesNumbers, IsWalked}
use Rattle.fo_check_tree.specs.Dirs.{link_at, IsJudged, HasMeta, AreJudged}
use Rattle.fo_check_tree.specs.Listing.{SomeOf}
use Rattle.fo_check_tree.specs.Lower.{level, JudgesRoot}
use Rattle.fo_check_labels.specs.Known.{reached, leaked}
use Rattle.fo_check_tree.specs.Walking.{Goes, Fits, all_tops, Walking}
use Rattle.std.specs.List.{All}
use Rattle.fo_check_names.specs.Names.{number_of, Differ, IsFileNumber}
use Rattle.fo_check_names.specs.declared.names.Number.{Number}
use Rattle.fo_check_tree.specs.Pairing.{HasOwnPairs, AreCounted, AreSettled}
use Rattle.fo_check_tree.proofs.Numbers.{tag_at, own_numbers}
use Rattle.fo_check_tree.proofs.Alone.{alone_in}
use Rattle.fo_check_tree.proofs.Directories.{source_of, block_of_entry, block_of_records, leaf_kind}
use Rattle.fo_check_tree.proofs.Fitting.{stands_in, tree_pairs, whole_counted}
use Rattle.fo_check_tree.proofs.Owning.{all_names}
use Rattle.fo_check_tree.proofs.Settling.{own_pairs}
use Rattle.fo_check_tree.proofs.Ending.{whole, tree_labels, tree_formats, tree_once, tree_scores, tree_used, tree_leaked}
use Rattle.fo_check_tree.proofs.Leaves.{goes_join}
use Rattle.fo_check_tree.proofs.Paths.{goes_end, found_is}

pub closed : (arena : Arena) (image : Image) (k : Kept) (folders : List Folder) → folders ≡ [] → (at i : ℕ) → IsJudged arena image k folders at i → HasOwnNames arena image k (link_at image at i)
closed arena image k folders none at i w = ⊎_elim
    (λ (x : SomeOf (HasMeta image at i) folders). let no : ⊥ = subst (λ (fs : List Folder). SomeOf (HasMeta image at i) fs) none x in absurd no)
    (λ (h : HasOwnNames arena image k (link_at image at i)). h)
    w

module _ (arena : Arena) (device : List Block) (image : Image) (s : Super) (k : Kept) (holds : HoldsAny arena device image s k) (walk : Walk) (n : ℕ → ℕ → ℕ)
    (g : Goes arena device image s k walk.labels.known.items walk.noted n) (none : (b j : ℕ) → n b j ≡ 0)
    (judged : JudgesRoot k.root walk.noted) (no_steps : walk.steps.items ≡ []) (no_folders : walk.folders.items ≡ []) (j : AreJudged arena image k [] walk)
    (formed : AreFormed arena image k walk.labels.known.items walk.noted walk.steps.items walk.folders.items)
    (quiet : 5 < level walk.noted) where
  first_kind : HasRootEntries k.root → (step arena image (from_block k.at) 0).kind ≡ Dir (depth_of (step arena image (from_block k.at) 0).slot)
  first_kind entries = ⊎_elim
      (λ low.
      let top : kind_of_top (Head k.root.entries) ≡ Dir k.root.entries.depth = ap (λ (d : Bool). cond d (Dir k.root.entries.depth) (Data k.root.entries.depth)) entries.entries_dir in
      subst (λ (x : Slot). kind_of_top x ≡ Dir (depth_of x)) (sym low.0) top)
      (λ high. absurd (omega (arith, quiet, judged.first high.1)))
      holds.entries

  of_pair : HasRootEntries k.root → (depth p : ℕ) (w : Link) → InTree arena image k.at depth w → IsEntries (entry_of arena image w (2 * p)).slot → IsRecords (entry_of arena image w (2 * p + 1)).slot → HasOwnNames arena image k (entry_of arena image w (2 * p + 1))
  of_pair entries depth p w inside a b =
      let src = source_of arena image holds.empty k.at depth w (first_kind entries) inside in
      let q : ℕ = p % 102 in
      let path : List ℕ = leaf_path w.slot (2 * p / 204) in
      let h : Link = goes arena image w path in
      let even : 2 * p % 204 ≡ 2 * (p % 102) = omega arith in
      let odd : (2 * p + 1) % 204 ≡ 2 * (p % 102) + 1 = omega arith in
      let leaf : (2 * p + 1) / 204 ≡ 2 * p / 204 = omega arith in
      let lt : p % 102 < 102 = omega arith in
      let first : entry_of arena image w (2 * p) ≡ step arena image h (2 * p % 204) = goes_end arena image path w (2 * p % 204) in
      let at = block_of_entry arena image holds.empty h (2 * p % 204) (subst (λ (u : Link). IsEntries u.slot) first a) in
      let found' : found arena image h ≡ image at.0 = found_is arena image h at.0 at.1 in
      let kind : h.kind ≡ Dir zero = leaf_kind arena image holds.empty (2 * p / 204) w src.kind in
      let way' : at_path arena image k.at (src.path ++ path) ≡ h = goes_join arena image holds.empty src.path path (from_block k.at) ∙ ap (λ (u : Link). goes arena image u path) src.is in
      let leads : LeadsTo arena image k.at (src.path ++ path) at.0 = ap (λ (u : Link). target u.slot) way' ∙ at.1 in
      let st = whole arena device image s k holds.empty walk.labels.known.items walk.noted n g none (src.path ++ path) at.0 leads in
      let dir : st.label.kind ≡ Dir zero = sym st.link ∙ ap (λ (u : Link). u.kind) way' ∙ kind in
      let second : entry_of arena image w (2 * p + 1) ≡ link_at image at.0 (2 * (p % 102) + 1) =
      ap (λ (x : ℕ). goes arena image w (leaf_path w.slot x ++ (2 * p + 1) % 204 ∷ [])) leaf
      ∙ ap (λ (i : ℕ). goes arena image w (path ++ i ∷ [])) odd
      ∙ goes_end arena image path w (2 * (p % 102) + 1)
      ∙ ap (λ (c : Content). record { kind = kind_below h.kind (c.slot (2 * (p % 102) + 1)); slot = c.slot (2 * (p % 102) + 1) }) found'
      ∙ ap (λ (d : Kind). record { kind = kind_below d ((image at.0).slot (2 * (p % 102) + 1)); slot = (image at.0).slot (2 * (p % 102) + 1) }) kind in
      let x : IsEntries ((image at.0).slot (2 * (p % 102))) = subst (λ (i : ℕ). IsEntries ((image at.0).slot i)) even (subst (λ (c : Content). IsEntries (c.slot (2 * p % 204))) found' (subst (λ (u : Link). IsEntries u.slot) first a)) in
      let y : IsRecords ((image at.0).slot (2 * (p % 102) + 1)) = subst (λ (u : Link). IsRecords u.slot) second b in
      subst (λ (u : Link). HasOwnNames arena image k u) (sym second) (closed arena image k walk.folders.items no_folders at.0 (2 * (p % 102) + 1) (j.pairs quiet at.0 (p % 102) st.label st.is dir lt x y))

  second_names : HasRootEntries k.root → IsRecords ((image k.at).slot 1)
  second_names entries = ⊎_elim
      (λ low. subst (λ (x : Slot). IsRecords x) (sym low.0) (entries.meta_active, entries.meta_dir))
      (λ high. absurd (omega (arith, quiet, judged.second high.1)))
      holds.meta

  by_records : HasRootEntries k.root → (meta : Link) → HasRecords arena image k.at meta → HasOwnNames arena image k meta
  by_records entries meta root_records = closed arena image k walk.folders.items no_folders k.at 1 (j.top (second_names entries) quiet)
  by_records entries meta (pair_records depth w p inside a b) = of_pair entries depth p w inside a b

  -- ---- leaves of records

  entries_below : (d : Kind) (x : Slot) → HoldsEntries d → kind_below d x ≡ kind_of_top x
  entries_below (Data level) x h = absurd h
  entries_below (Dir zero) x h = refl
  entries_below (Dir (suc level)) x h = absurd h
  entries_below Root x h = refl

  formed_leaf : (at i : ℕ) (path : List ℕ) (b : ℕ) → IsFormed arena image walk.steps.items walk.folders.items at i path b → IsLeaf ((image b).bytes)
  formed_leaf at i path b w = ⊎_elim
      (λ (leaf : IsLeaf ((image b).bytes)). leaf)
      (λ (left : SomeOf (IsRecordsWay arena image (link_at image at i) path) walk.steps.items ⊎ SomeOf (HasMeta image at i) walk.folders.items). ⊎_elim
      (λ (x : SomeOf (IsRecordsWay arena image (link_at image at i) path) walk.steps.items). let no : ⊥ = subst (λ (xs : List Step). SomeOf (IsRecordsWay arena image (link_at image at i) path) xs) no_steps x in absurd no)
      (λ (x : SomeOf (HasMeta image at i) walk.folders.items). let no : ⊥ = subst (λ (fs : List Folder). SomeOf (HasMeta image at i) fs) no_folders x in absurd no)
      left)
      w

  pub leaf_at : (path more : List ℕ) (i at : ℕ) → NamesRecords arena image k.at path i → (at_path arena image k.at (path ++ i ∷ more)).kind ≡ Data 0 → LeadsTo arena image k.at (path ++ i ∷ more) at → IsAlone arena image k at → IsLeaf ((image at).bytes)
  leaf_at path more i at w kind leads alone =
      let h : Link = at_path arena image k.at path in
      let below : at_path arena image k.at (path ++ i ∷ []) ≡ step arena image h i = goes_end arena image path (from_block k.at) i in
      let b = block_of_records arena image holds.empty h i (subst (λ (u : Link). IsRecords u.slot) below w.records) in
      let found' : found arena image h ≡ image b.0 = found_is arena image h b.0 b.1 in
      let st = whole arena device image s k holds.empty walk.labels.known.items walk.noted n g none path b.0 b.1 in
      let entries' : HoldsEntries st.label.kind = subst (λ (d : Kind). HoldsEntries d) st.link w.holder in
      let here : at_path arena image k.at (path ++ i ∷ []) ≡ link_at image b.0 i =
      below
      ∙ ap (λ (c : Content). record { kind = kind_below h.kind (c.slot i); slot = c.slot i }) found'
      ∙ ap (λ (d : Kind). record { kind = d; slot = (image b.0).slot i }) (entries_below h.kind ((image b.0).slot i) w.holder) in
      let all : at_path arena image k.at (path ++ i ∷ more) ≡ goes arena image (link_at image b.0 i) more =
      ap (λ (p : List ℕ). at_path arena image k.at p) (sym (append_assoc path (i ∷ []) more))
      ∙ goes_join arena image holds.empty (path ++ i ∷ []) more (from_block k.at)
      ∙ ap (λ (u : Link). goes arena image u more) here in
      formed_leaf b.0 i more at (formed.each quiet b.0 i st.label st.is entries' w.second (subst (λ (u : Link). IsRecords u.slot) here w.records) more at
      (ap (λ (u : Link). u.kind) (sym all) ∙ kind) (ap (λ (u : Link). target u.slot) (sym all) ∙ leads) alone)

  pub tree_leaves : IsTree arena image k.at → HasRootEntries k.root → HasLeaves arena image k.at
  tree_leaves tree entries = record {
    leaves = λ path more i at w kind leads. leaf_at path more i at w kind leads (alone_in arena image k tree at);
    names = λ meta a i b l r q has first second same. (by_records entries meta has).each a i b l r q first second (stands_in arena image holds.empty k tree meta a i r first) (stands_in arena image holds.empty k tree meta b l q second) same;
  }

-- ---- the whole answer

fits_empty : (device : List Block) (image : Image) (steps : List Step) (n : ℕ → ℕ → ℕ) → steps ≡ [] → Fits device image steps n → (b j : ℕ) → n b j ≡ 0
fits_empty device image steps n is fits = (subst (λ (xs : List Step). Fits device image xs n) is fits).each

named_or : (o : Option Broken) (P : Type 0) (Q : Broken → Type 0) → (9 < level o → P) → MatchOption o (Unit {0}) Q → MatchOption o P Q
named_or None P Q f m = f (omega arith)
named_or (Some b) P Q f m = m

pub walked : (arena : Arena) (device : List Block) (image : Image) (s : Super) (k : Kept) (walk : Walk) (found : Found) → NamesFormats arena image k walk.noted → NamesPairs arena image k walk.noted → NamesNumbers arena image k s.numbers walk.noted → walk.steps.items ≡ [] → walk.folders.items ≡ []
    → found.broken ≡ walk.noted → found.used ≡ reached walk.labels.known.items → found.leaked ≡ leaked s.low walk.labels.known.items → JudgesRoot k.root walk.noted → AreJudged arena image k [] walk → AreFormed arena image k walk.labels.known.items walk.noted walk.steps.items walk.folders.items → (numbers : List Number) → AreSettled arena image k walk.noted walk.folders.items numbers → (8 < level walk.noted → Differ number_of numbers × All (IsFileNumber s.numbers) numbers) → ((quiet : 8 < level walk.noted) → IsTree arena image k.at → (depth : ℕ) (w : Link) → InTree arena image k.at depth w → depth ≤ 64) → Walking arena device image s k [] walk → IsWalked arena device image s k found
walked arena device image s k walk found five six eight steps folders broken used leaks judged dirs formed numbers settled checked depths w =
    let known = walk.labels.known.items in
    let n : ℕ → ℕ → ℕ = λ b j. w.others b j + w.steps b j + w.folders b j in
    let none : (b j : ℕ) → w.others b j + w.steps b j + w.folders b j ≡ 0 = λ b j. omega (
      arith,
      w.others_fit.each b j,
      fits_empty device image walk.steps.items w.steps steps w.steps_fit b j,
      fits_empty device image (all_tops walk.folders.items) w.folders (ap (λ (fs : List Folder). all_tops fs) folders) w.folders_fit b j,
    ) in
    let counted : 6 < level walk.noted → AreCounted arena image k [] numbers = λ quiet. subst (λ (fs : List Folder). AreCounted arena image k fs numbers) folders (settled.counts quiet) in
    let root_tag : 6 < level walk.noted → tag_at ((image k.at).slot 0) ≡ 32 = λ quiet.
    ⊎_elim
    (λ shallow. ap tag_at shallow.0 ∙ (judged.entries quiet).entries_tag)
    (λ deep. absurd (omega (arith, quiet, judged.first deep.1)))
    w.holds.entries in
    let labels : HasTreeLabels arena device image k.at k.root.epoch true = tree_labels arena device image s k w.holds.empty known walk.noted n w.goes none in
    let formats : 5 < level walk.noted → Means arena device image (from_block k.at) = λ quiet. tree_formats arena device image s k w.holds.empty known walk.noted n w.goes none quiet in
    let once : 7 < level walk.noted → IsTree arena image k.at = λ quiet. tree_once arena device image s k w.holds.empty known walk.noted n w.goes none quiet in
    let scores : 9 < level walk.noted → HasNoScores arena image k.at = λ quiet. tree_scores arena device image s k w.holds.empty known walk.noted n w.goes none quiet in
    let leaves : 5 < level walk.noted → IsTree arena image k.at → HasRootEntries k.root → HasLeaves arena image k.at = λ quiet tree entries. tree_leaves arena device image s k w.holds walk n w.goes none judged steps folders dirs formed quiet tree entries in
    let pairs : 6 < level walk.noted → IsTree arena image k.at → HasPairs arena image k.at = λ quiet tree. tree_pairs arena image w.holds.empty k tree numbers (counted quiet) in
    let judged_at : (at i : ℕ) → IsJudged arena image k walk.folders.items at i → HasOwnNames arena image k (link_at image at i) = closed arena image k walk.folders.items folders in
    let own_leaves : 5 < level walk.noted → (path more : List ℕ) (i at : ℕ) → NamesRecords arena image k.at path i → (at_path arena image k.at (path ++ i ∷ more)).kind ≡ Data 0 → LeadsTo arena image k.at (path ++ i ∷ more) at → IsAlone arena image k at → IsLeaf ((image at).bytes) =
    λ quiet. leaf_at arena device image s k w.holds walk n w.goes none judged steps folders dirs formed quiet in
    let own_names : 5 < level walk.noted → (meta : Link) → AreRecordsOf arena image k meta → HasOwnNames arena image k meta = λ quiet.
    all_names arena device image s k w.holds known walk.noted n w.goes none (λ records. judged_at k.at 1 (dirs.top records quiet)) (λ at p l r leaf lt x y. judged_at at (2 * p + 1) (dirs.pairs quiet at p l r leaf lt x y)) in
    let own : 6 < level walk.noted → (trail : List ℕ) (entries meta : Link) → IsOwnDir arena image k trail entries meta → HasOwnPairs arena image k entries meta = λ quiet. own_pairs arena image k numbers (counted quiet) in
    let numbers' : 8 < level walk.noted → IsTree arena image k.at → HasNumbers arena image k.at s.numbers =
    λ quiet tree. own_numbers arena image k s.numbers numbers (whole_counted arena image w.holds.empty k tree numbers (counted (omega (arith, quiet)))) (root_tag (omega (arith, quiet))) (checked quiet).0 (checked quiet).1 (depths quiet tree) in
    let sound : 9 < level walk.noted → IsSoundTree arena device image s.numbers true k = λ quiet.
    let tree : IsTree arena image k.at = once (omega (arith, quiet)) in
    let entries : HasRootEntries k.root = judged.entries (omega (arith, quiet)) in
    record {
      labels = labels;
      read = formats (omega (arith, quiet));
      leaves = leaves (omega (arith, quiet)) tree entries;
      entries = entries;
      pairs = pairs (omega (arith, quiet)) tree;
      once = tree;
      named = numbers' (omega (arith, quiet)) tree;
      scores = scores quiet;
    } in
    record {
      labels = labels;
      formats = λ quiet. formats (subst (λ (o : Option Broken). 5 < level o) broken quiet);
      entries = λ quiet. judged.entries (subst (λ (o : Option Broken). 6 < level o) broken quiet);
      once = λ quiet. once (subst (λ (o : Option Broken). 7 < level o) broken quiet);
      scores = λ quiet. scores (subst (λ (o : Option Broken). 9 < level o) broken quiet);
      leaves = λ quiet tree entries. leaves (subst (λ (o : Option Broken). 5 < level o) broken quiet) tree entries;
      pairs = λ quiet tree. pairs (subst (λ (o : Option Broken). 6 < level o) broken quiet) tree;
      numbers = λ quiet tree. numbers' (subst (λ (o : Option Broken). 8 < level o) broken quiet) tree;
      own_leaves = λ quiet. own_leaves (subst (λ (o : Option Broken). 5 < level o) broken quiet);
      own_names = λ quiet. own_names (subst (λ (o : Option Broken). 5 < level o) broken quiet);
      own_slots = λ quiet trail entries meta dir. (own (subst (λ (o : Option Broken). 6 < level o) broken quiet) trail entries meta dir).differ;
      own_pairs = λ quiet trail entries meta a j r dir h stands clear. (own (subst (λ (o : Option Broken). 6 < level o) broken quiet) trail entries meta dir).fit a j r h stands clear;
      named = subst (λ (o : Option Broken). MatchOption o (IsSoundTree arena device image s.numbers true k) (IsNamed arena image k)) (sym broken) (named_or walk.noted (IsSoundTree arena device image s.numbers true k) (IsNamed arena image k) sound w.goes.notes);
      five = subst (λ (o : Option Broken). NamesFormats arena image k o) (sym broken) five;
      six = subst (λ (o : Option Broken). NamesPairs arena image k o) (sym broken) six;
      eight = subst (λ (o : Option Broken). NamesNumbers arena image k s.numbers o) (sym broken) eight;
      used = tree_used arena device image s k w.holds.empty known walk.noted n w.goes none found.used used;
      leaked = tree_leaked arena device image s k w.holds.empty known walk.noted n w.goes none found.leaked leaks;
    }
