-- The records of a directory whose entries were walked: each has its pair, and the folder of each directory is left.
use Rattle.std.proofs.Common.{◌≡◌, ⊎_elim, ℕ, zero, suc, ◌+◌, ◌*◌, ◌/◌, ◌%◌, ◌^◌, ◌<◌, ◌≤◌, true, List, [], ◌∷◌, ◌++◌, length, get_or, Option, MatchOption, refl, sym, ap, ◌∙◌, subst, arith}
use Rattle.std.specs.List.{All, Any}
use Rattle.fo_image.specs.declared.types.Kind.{Kind}
use Rattle.fo_image.specs.declared.types.Score.{Score}
use Rattle.fo_image.specs.declared.types.Pointer.TheVariants.{Local}
use Rattle.fo_image.specs.declared.record.Record.{Record}
use Rattle.fo_crash.specs.Images.{Image, Arena, Link, target, goes, leaf_path, depth_of, nothing, entry_of as entry_at}
use Rattle.fo_world.specs.Step.{is_dir_mode}
use Rattle.fo_good.specs.Trees.{IsTree, IsDir, IsWithin, IsFirst, Lists, HasPair, HasPairs, size_of}
use Rattle.fo_good.specs.Trees.IsDir.{top as all_top, below as all_below}
use Rattle.fo_good.specs.Sound.{Kept}
use Rattle.fo_check_names.specs.Finds.{leaf_for}
use Rattle.fo_check_names.specs.Names.{IsPaired, IsUnpaired, named_in}
use Rattle.fo_check_names.specs.declared.names.Named.{Named}
use Rattle.fo_check_names.specs.declared.names.Number.{Number}
use Rattle.fo_check_tree.specs.declared.broken.Broken.{Broken}
use Rattle.fo_check_tree.specs.declared.walk.Folder.{Folder}
use Rattle.fo_check_tree.specs.Answer.{StandsAlone, IsClear, IsOwnDir}
use Rattle.fo_check_tree.specs.Answer.IsOwnDir.{top as dir_top, below as dir_below}
use Rattle.fo_check_tree.specs.Listing.{SomeOf}
use Rattle.fo_check_tree.specs.Lower.{level}
use Rattle.fo_check_tree.specs.Notes.{NotesLeaf}
use Rattle.fo_check_tree.specs.Pairing.{IsHeadOf, IsFound, AreSought, IsNamedIn, AreInOrder, AreAsked, IsHidden, AreHidden, IsSettled, IsLeft, Counted, IsCounted, AreCounted, IsWhole, AreWhole}
use Rattle.fo_check_tree.proofs.Alone.{alone_in, not_alone, twice_behind}
use Rattle.fo_check_tree.proofs.Asked.{either}
use Rattle.fo_check_tree.proofs.Lacking.{in_block, was_seen}
use Rattle.fo_check_tree.proofs.Leaves.{all_by, goes_join}
use Rattle.fo_check_tree.proofs.Paths.{goes_end}
use Rattle.fo_check_tree.proofs.Naming.{in_block as records_in_block}
use Rattle.fo_check_tree.proofs.Settling.{quiet_leaf, no_left, own_pairs}

local_is : (a b : ℕ) → Local a ≡ Local b → a ≡ b
local_is a b e = cc

get_other : (xs : List Named) (i : ℕ) (d e : Named) → i < length xs → get_or xs i d ≡ get_or xs i e
get_other [] i d e lt = absurd (omega (arith, lt))
get_other (x ∷ xs) zero d e lt = refl
get_other (x ∷ xs) (suc i) d e lt = get_other xs i d e (omega (arith, lt))

-- ---- one directory

module _ (arena : Arena) (image : Image) (empty : (kind : Kind) (score : Score) → arena kind score ≡ nothing) (k : Kept) (entries meta : Link) (folders : List Folder) (names named : List Named) (before old new : Option Broken)
    (o : AreInOrder arena image k meta true before names) (a : AreSought arena image entries names old [] named folders) (size : ℕ) (size_is : size ≡ size_of entries.slot) (room : size_of entries.slot ≤ 8192 * 409 ^ depth_of entries.slot) (asked : AreAsked arena image entries [] named)
    (hidden : AreHidden arena image k entries named) (alone : Option ℕ) (answer : MatchOption alone (All (IsPaired size) named) (λ leaf. Any (IsUnpaired size leaf) named)) (noted : NotesLeaf 6 alone old new) (low : level old ≤ level before) (low' : level new ≤ level old) where
  module _ (n j : ℕ) (r : Record) (h : Lists arena image meta n j r) (stands : StandsAlone arena image k meta n) where
    abbrev here' : IsNamedIn names r
    here' = o.whole n j r h stands

    at_place : here'.at < length named
    at_place = omega (arith, here'.within, a.same.long)

    abbrev one : Named
    one = get_or named here'.at (named_in 0 r)

    record_is : one.listed ≡ r
    record_is = a.same.each here'.at (named_in 0 r) at_place ∙ here'.is (named_in 0 r)

    found_is : 6 < level new → one.found ≡ true → IsFound arena image entries folders r
    found_is quiet f = subst (λ (x : Record). IsFound arena image entries folders x) record_is (a.found (omega (arith, quiet, low')) here'.at (named_in 0 r) at_place f)

    few_leaves : IsWithin entries.slot (r.slot / 102) → leaf_for one < 409 ^ depth_of entries.slot
    few_leaves within = let low'' : 8192 * (r.slot / 102) < size_of entries.slot = within in omega (arith, low'', room, ap (λ (x : Record). x.slot / 102) record_is)

    hidden_is : IsWithin entries.slot (r.slot / 102) → one.missed ≡ true → IsHidden arena image k entries (r.slot / 102)
    hidden_is within is = subst (λ (x : ℕ). IsHidden arena image k entries x) (ap (λ (x : Record). x.slot / 102) record_is) (hidden.each here'.at (named_in 0 r) at_place is (few_leaves within))

    -- The way to its pair is clear.
    fits : 6 < level new → IsClear arena image k entries (r.slot / 102) → HasPair arena image entries r
    fits quiet clear =
        let every : All (IsPaired size) named = quiet_leaf 6 (omega arith) alone old new noted quiet (All (IsPaired size) named) (λ leaf. Any (IsUnpaired size leaf) named) answer in
        let p : IsPaired size one = every here'.at (named_in 0 r) at_place in
        let within : 8192 * (one.listed.slot / 102) < size = p.within in
        let within' : IsWithin entries.slot (r.slot / 102) = omega (arith, within, size_is, ap (λ (x : Record). x.slot) record_is) in
        let f : IsFound arena image entries folders r = either one.found one.missed (IsFound arena image entries folders r) p.found (λ found. found_is quiet found)
        (λ missed. let h = hidden_is within' missed in absurd (not_alone arena image k h.block h.twice (clear.each h.front h.rest h.block h.is h.leads))) in
        record { within = within'; first = f.first; second = f.second }

    -- The pair is at one place.
    leads_on : 6 < level new → is_dir_mode r.mode ≡ true → HasPair arena image entries r → StandsAlone arena image k entries (r.slot / 102) → SomeOf (IsHeadOf (entry_at arena image entries (2 * r.slot)) (entry_at arena image entries (2 * r.slot + 1))) folders
    leads_on quiet dir pair own =
        let same : one ≡ get_or named here'.at one = get_other named here'.at (named_in 0 r) one at_place in
        let pair' : HasPair arena image entries one.listed = subst (λ (x : Record). HasPair arena image entries x) (sym record_is) pair in
        let seen = was_seen arena image empty k entries meta a.kind room named asked here'.at one at_place (sym same) pair' in
        let f : IsFound arena image entries folders r = either one.found one.missed (IsFound arena image entries folders r) seen (λ found. found_is quiet found)
        (λ missed.
        let h = hidden_is pair.within missed in
        let leads : target ((goes arena image (goes arena image entries h.front) h.rest).slot) ≡ Local own.block = ap (λ (u : Link). target u.slot) (sym (goes_join arena image empty h.front h.rest entries)) ∙ ap (λ (p : List ℕ). target ((goes arena image entries p).slot)) (sym h.is) ∙ own.leads in
        absurd (twice_behind arena image empty k h.block h.twice (goes arena image entries h.front) h.leads h.rest own.block leads own.alone)) in
        f.folder dir

  pub settled : 6 < level new → IsSettled arena image k entries meta names folders
  settled quiet = record {
    whole = λ n j r h stands. o.whole n j r h stands;
    fit = λ n j r h stands clear. fits n j r h stands quiet clear;
    differ = o.differ refl (omega (arith, quiet, low, low'));
    below = λ n j r h stands dir pair own. leads_on n j r h stands quiet dir pair own;
  }

-- ---- a whole tree

module _ (arena : Arena) (image : Image) (empty : (kind : Kind) (score : Score) → arena kind score ≡ nothing) (k : Kept) (tree : IsTree arena image k.at) where
  all_clear : (w : Link) (n : ℕ) → IsClear arena image k w n
  all_clear w n = record { each = λ front rest at is leads. alone_in arena image k tree at }

  pub stands_in : (meta : Link) (n j : ℕ) (r : Record) → Lists arena image meta n j r → StandsAlone arena image k meta n
  stands_in meta n j r h = let b = records_in_block arena image empty k meta (h.before ++ r ∷ h.after) n h.spelled in record { block = b.0; leads = b.1; alone = alone_in arena image k tree b.0 }

  pair_stands : (entries : Link) (r : Record) → HasPair arena image entries r → StandsAlone arena image k entries (r.slot / 102)
  pair_stands entries r h =
      let w : Link = goes arena image entries (leaf_path entries.slot (2 * r.slot / 204)) in
      let b = in_block arena image empty k entries entries w (2 * r.slot % 204) r (subst (λ (u : Link). IsFirst u.slot r) (goes_end arena image (leaf_path entries.slot (2 * r.slot / 204)) entries (2 * r.slot % 204)) h.first) in
      let e : r.slot / 102 ≡ 2 * r.slot / 204 = omega arith in
      record { block = b.0; leads = ap (λ (m : ℕ). target ((goes arena image entries (leaf_path entries.slot m)).slot)) e ∙ b.1; alone = alone_in arena image k tree b.0 }

  module _ (numbers : List Number) (a : AreCounted arena image k [] numbers) where
    own_dir : (trail : List ℕ) (entries meta : Link) → IsDir arena image k.at trail entries meta → IsOwnDir arena image k trail entries meta
    own_dir trail entries meta all_top = dir_top
    own_dir trail entries meta (all_below t e m n j r dir h mode) =
        let d : IsOwnDir arena image k t e m = own_dir t e m dir in
        let pair : HasPair arena image e r = (own_pairs arena image k numbers a t e m d).fit n j r h (stands_in m n j r h) (all_clear e (r.slot / 102)) in
        dir_below t e m n j r d h (stands_in m n j r h) mode pair (pair_stands e r pair)

    whole_one : (c : Counted) → IsCounted arena image k c → IsWhole arena image c
    whole_one c w = record {
      whole = λ entries meta head n j r h. w.whole entries meta head n j r h (stands_in meta n j r h);
      own = λ entries meta head.
          let p = w.own entries meta head in
          record {
            fit = λ n j r h. p.fit n j r h (stands_in meta n j r h) (all_clear entries (r.slot / 102));
            differ = λ n j m i r q h g same. p.differ.each n j m i r q h g (stands_in meta n j r h) (stands_in meta m i q g) same;
          };
    }

    pub whole_counted : AreWhole arena image k numbers
    whole_counted = record {
      counted = a.counted;
      numbers_are = a.numbers_are;
      right = all_by (IsCounted arena image k) (IsWhole arena image) whole_one a.counted a.right;
      each = λ trail entries meta dir. ⊎_elim
          (λ (l : IsLeft arena image k [] entries meta). absurd (no_left arena image k entries meta l))
          (λ (s : SomeOf (λ (c : Counted). IsHeadOf entries meta c.folder) a.counted). s)
          (a.each trail entries meta (own_dir trail entries meta dir));
    }

    pub tree_pairs : HasPairs arena image k.at
    tree_pairs = record {
      fit = λ trail entries meta n j r dir h. (own_pairs arena image k numbers a trail entries meta (own_dir trail entries meta dir)).fit n j r h (stands_in meta n j r h) (all_clear entries (r.slot / 102));
      differ = λ trail entries meta n j m i r q dir h g same. (own_pairs arena image k numbers a trail entries meta (own_dir trail entries meta dir)).differ.each n j m i r q h g (stands_in meta n j r h) (stands_in meta m i q g) same;
    }
