-- What the file step tells on the active tree that an image shows is read off the records of its directories.
use Rattle.std.proofs.Common.{◌≡◌, ◌∙◌, ℕ, zero, suc, ◌+◌, Bool, true, false, cond, List, length, take, drop, Option, Some, None, Result, Ok, refl, ap}
use Rattle.std.specs.Prelude.{map}
use Rattle.std.specs.List.{range_with_len}
use Rattle.std.specs.Option.{option_map, ok_or}
use Rattle.fo_image.specs.declared.record.Record.{Record}
use Rattle.fo_crash.specs.Images.{Arena, Image, Link, source_byte}
use Rattle.fo_world.specs.declared.error.FileError.{FileError}
use Rattle.fo_world.specs.declared.error.FileError.TheVariants as error
use Rattle.fo_world.specs.declared.tree.Node.{Node}
use Rattle.fo_world.specs.declared.tree.Body.TheVariants.{File, Dir}
use Rattle.fo_world.specs.Chain.{and_then}
use Rattle.fo_world.specs.Tree.{first, along, length_of}
use Rattle.fo_world.specs.Step.{reached, info, find, next_name, read, info_of, file_found, next_found, as_dir, as_file}
use Rattle.fo_world.specs.Dated.{slash}
use Rattle.fo_world.specs.World.{World}
use Rattle.fo_good.specs.Trees.{size_of}
use Rattle.fo_good.specs.Reading.{dir_in, source_in, root_node, levels}
use Rattle.fo_files_world.specs.Spots.{Spot, left_below, body_of, node_at}
use Rattle.fo_files_world.specs.Looks.{active_at, spot_at, has_name, comes_after, node_below, info_told, find_told, next_told, read_told}
use Rattle.fo_files_world.proofs.Along.{first_below, none_below, root_along}

-- a source has as many bytes as its entry says
counted : (f : ℕ → ℕ) (a n : ℕ) → length (map f (range_with_len a n)) ≡ n
counted f a zero = refl
counted f a (suc n) = ap suc (counted f (a + 1) n)

pub source_length : (arena : Arena) (image : Image) (w : Link) → length (source_in arena image w) ≡ size_of w.slot
source_length arena image w = counted (λ j. source_byte arena image w j) 0 (size_of w.slot)

-- the length that is told of a file
pub length_told : (arena : Arena) (image : Image) (n : ℕ) (s : Spot) → length_of (body_of arena image n s) ≡ cond s.dir 0 (size_of s.first.slot)
length_told arena image n s = by s.dir
  where
    by : (d : Bool) → length_of (cond d (Dir (dir_in n arena image s.first s.second)) (File (source_in arena image s.first))) ≡ cond d 0 (size_of s.first.slot)
    by true = refl
    by false = source_length arena image s.first

module _ (arena : Arena) (image : Image) (root : ℕ) (w : World) (is : w.active.root ≡ root_node arena image root) where
  -- the file at a place
  pub reached_is : (whole : Bool) (trail : List ℕ) → reached whole w (active_at trail) ≡ ok_or (option_map (node_at arena image (left_below levels trail)) (spot_at arena image root trail)) error.Gone
  reached_is whole trail = ap (λ (r : Node). ok_or (along trail (slash, r)) error.Gone) is ∙ ap (λ f. ok_or f error.Gone) (root_along arena image root trail)

  pub info_is : (whole : Bool) (trail : List ℕ) → info whole w (active_at trail) ≡ info_told arena image w trail (spot_at arena image root trail)
  info_is whole trail = ap (λ (f : Result (List ℕ × Node) FileError). and_then f (λ g. Ok (info_of (active_at trail) g, w))) (reached_is whole trail) ∙ by (spot_at arena image root trail)
    where
      by : (s : Option Spot) → and_then (ok_or (option_map (node_at arena image (left_below levels trail)) s) error.Gone) (λ g. Ok (info_of (active_at trail) g, w)) ≡ info_told arena image w trail s
      by None = refl
      by (Some s) = refl

  -- what a test finds directly below a directory
  pub below_is : (test : List ℕ → ℕ → Bool) (n : ℕ) (named : Record) (e m : Link) → first test (dir_in n arena image e m) ≡ node_below arena image test n (record { named = named; dir = true; first = e; second = m })
  below_is test zero named e m = none_below arena image test e m
  below_is test (suc n) named e m = first_below arena image test n e m

  pub find_is : (whole : Bool) (trail name : List ℕ) → find whole w (active_at trail) name ≡ find_told arena image w trail name (spot_at arena image root trail)
  unfolding find
  find_is whole trail name = ap (λ (f : Result (List ℕ × Node) FileError). and_then f (λ g. and_then (as_dir g.1.body) (λ names. file_found w (active_at trail) (first (has_name name) names)))) (reached_is whole trail) ∙ by (spot_at arena image root trail)
    where
      inner : (named : Record) (d : Bool) (e m : Link) → and_then (as_dir (body_of arena image (left_below levels trail) (record { named = named; dir = d; first = e; second = m }))) (λ names. file_found w (active_at trail) (first (has_name name) names)) ≡ find_told arena image w trail name (Some (record { named = named; dir = d; first = e; second = m }))
      inner named true e m = ap (file_found w (active_at trail)) (below_is (has_name name) (left_below levels trail) named e m)
      inner named false e m = refl

      by : (s : Option Spot) → and_then (ok_or (option_map (node_at arena image (left_below levels trail)) s) error.Gone) (λ g. and_then (as_dir g.1.body) (λ names. file_found w (active_at trail) (first (has_name name) names))) ≡ find_told arena image w trail name s
      by None = refl
      by (Some s) = inner s.named s.dir s.first s.second

  pub next_is : (whole : Bool) (trail : List ℕ) (after : Option (List ℕ)) → next_name whole w (active_at trail) after ≡ next_told arena image w trail after (spot_at arena image root trail)
  unfolding next_name
  next_is whole trail after = ap (λ (f : Result (List ℕ × Node) FileError). and_then f (λ g. and_then (as_dir g.1.body) (λ names. next_found w (active_at trail) (first (comes_after after) names)))) (reached_is whole trail) ∙ by (spot_at arena image root trail)
    where
      inner : (named : Record) (d : Bool) (e m : Link) → and_then (as_dir (body_of arena image (left_below levels trail) (record { named = named; dir = d; first = e; second = m }))) (λ names. next_found w (active_at trail) (first (comes_after after) names)) ≡ next_told arena image w trail after (Some (record { named = named; dir = d; first = e; second = m }))
      inner named true e m = ap (next_found w (active_at trail)) (below_is (comes_after after) (left_below levels trail) named e m)
      inner named false e m = refl

      by : (s : Option Spot) → and_then (ok_or (option_map (node_at arena image (left_below levels trail)) s) error.Gone) (λ g. and_then (as_dir g.1.body) (λ names. next_found w (active_at trail) (first (comes_after after) names))) ≡ next_told arena image w trail after s
      by None = refl
      by (Some s) = inner s.named s.dir s.first s.second

  pub read_is : (whole : Bool) (trail : List ℕ) (offset count : ℕ) → read whole w (active_at trail) offset count ≡ read_told arena image w offset count (spot_at arena image root trail)
  unfolding read
  read_is whole trail offset count = ap (λ (f : Result (List ℕ × Node) FileError). and_then f (λ g. and_then (as_file g.1.body) (λ bytes. Ok (take count (drop offset bytes), w)))) (reached_is whole trail) ∙ by (spot_at arena image root trail)
    where
      inner : (named : Record) (d : Bool) (e m : Link) → and_then (as_file (body_of arena image (left_below levels trail) (record { named = named; dir = d; first = e; second = m }))) (λ bytes. Ok (take count (drop offset bytes), w)) ≡ read_told arena image w offset count (Some (record { named = named; dir = d; first = e; second = m }))
      inner named true e m = refl
      inner named false e m = refl

      by : (s : Option Spot) → and_then (ok_or (option_map (node_at arena image (left_below levels trail)) s) error.Gone) (λ g. and_then (as_file g.1.body) (λ bytes. Ok (take count (drop offset bytes), w))) ≡ read_told arena image w offset count s
      by None = refl
      by (Some s) = inner s.named s.dir s.first s.second
