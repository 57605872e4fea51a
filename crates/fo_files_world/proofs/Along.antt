-- Where a trail leads in the tree that an image shows: to the file that the records of its directories name.
use Rattle.std.proofs.Common.{◌≡◌, ◌∙◌, ℕ, zero, suc, Bool, true, false, cond, List, [], ◌∷◌, Option, Some, None, refl, ap}
use Rattle.std.specs.Prelude.{option_and_then}
use Rattle.std.specs.Option.{option_map}
use Rattle.fo_image.specs.declared.record.Record.{Record}
use Rattle.fo_crash.specs.Images.{Arena, Image, Link}
use Rattle.fo_world.specs.declared.tree.Body.TheVariants.{File, Dir}
use Rattle.fo_world.specs.Tree.{first, child, along}
use Rattle.fo_world.specs.Dated.{slash}
use Rattle.fo_good.specs.Reading.{dir_in, dir_records, source_in, levels, root_node}
use Rattle.fo_files_world.specs.Choice.{least}
use Rattle.fo_files_world.specs.Spots.{Spot, spot_of, root_spot, has_number, found_below, spot_along, left_below, body_of, node_at}
use Rattle.fo_files_world.proofs.Order.{named_node, named_in, first_in}

module _ (arena : Arena) (image : Image) where
  -- a record of a directory is the file that it names
  same_node : (n : ℕ) (entries : Link) (r : Record) → named_node (dir_in n arena image) arena image entries r ≡ node_at arena image n (spot_of arena image entries r)
  same_node n entries r = refl

  -- in a directory with at least one level a test finds the file of the record that is chosen
  pub first_below : (test : List ℕ → ℕ → Bool) (n : ℕ) (entries meta : Link) → first test (dir_in (suc n) arena image entries meta) ≡ option_map (node_at arena image n) (option_map (spot_of arena image entries) (least test (dir_records arena image meta)))
  unfolding dir_in
  first_below test n entries meta = first_in test (dir_in n arena image) arena image entries (dir_records arena image meta) ∙ twice (least test (dir_records arena image meta))
    where
      twice : (found : Option Record) → named_in (dir_in n arena image) arena image entries found ≡ option_map (node_at arena image n) (option_map (spot_of arena image entries) found)
      twice None = refl
      twice (Some r) = refl

  -- with none left nothing is found
  pub none_below : (test : List ℕ → ℕ → Bool) (entries meta : Link) → first test (dir_in zero arena image entries meta) ≡ None
  unfolding dir_in
  none_below test entries meta = refl

  -- the file directly below with this number
  child_none : (k : ℕ) (s : Spot) → child k (body_of arena image zero s) ≡ None
  child_none k s = by s.dir
    where
      by : (d : Bool) → child k (cond d (Dir (dir_in zero arena image s.first s.second)) (File (source_in arena image s.first))) ≡ None
      by true = none_below (has_number k) s.first s.second
      by false = refl

  pub child_is : (k n : ℕ) (s : Spot) → child k (body_of arena image (suc n) s) ≡ option_map (node_at arena image n) (found_below arena image (has_number k) s)
  child_is k n s = by s.dir
    where
      by : (d : Bool) → child k (cond d (Dir (dir_in (suc n) arena image s.first s.second)) (File (source_in arena image s.first))) ≡ option_map (node_at arena image n) (cond d (option_map (spot_of arena image s.first) (least (has_number k) (dir_records arena image s.second))) None)
      by true = first_below (has_number k) n s.first s.second
      by false = refl

  -- a trail leads to the file to which the records lead
  pub along_is : (trail : List ℕ) (n : ℕ) (s : Spot) → along trail (node_at arena image n s) ≡ option_map (node_at arena image (left_below n trail)) (spot_along arena image n trail s)
  along_is [] n s = refl
  along_is (k ∷ ks) zero s = ap (option_and_then (along ks)) (child_none k s)
  along_is (k ∷ ks) (suc n) s = ap (option_and_then (along ks)) (child_is k n s) ∙ by (along_is ks n) (found_below arena image (has_number k) s)
    where
      by : ((below : Spot) → along ks (node_at arena image n below) ≡ option_map (node_at arena image (left_below n ks)) (spot_along arena image n ks below))
          → (found : Option Spot) → option_and_then (along ks) (option_map (node_at arena image n) found) ≡ option_map (node_at arena image (left_below n ks)) (option_and_then (spot_along arena image n ks) found)
      by ih None = refl
      by ih (Some below) = ih below

  -- the root's node is that of the root directory
  pub root_is : (root : ℕ) → (slash, root_node arena image root) ≡ node_at arena image levels (root_spot arena image root)
  root_is root = refl

  pub root_along : (root : ℕ) (trail : List ℕ) → along trail (slash, root_node arena image root) ≡ option_map (node_at arena image (left_below levels trail)) (spot_along arena image levels trail (root_spot arena image root))
  root_along root trail = along_is trail levels (root_spot arena image root)
