-- Files of an image's tree, by the records of its directories: where a trail of file numbers comes to.
use Rattle.std.specs.Prelude.{ℕ, ◌+◌, ◌*◌, zero, suc, Bool, true, nat_eq, List, [], ◌∷◌, Option, Some, None, option_and_then, if◌then◌else◌}
use Rattle.std.specs.Option.{option_map}
use Rattle.fo_image.specs.declared.record.Record.{Record}
use Rattle.fo_crash.specs.Images.{Image, Arena, Link, step, entry_of, from_block}
use Rattle.fo_world.specs.declared.tree.Node.{Node}
use Rattle.fo_world.specs.declared.tree.Body.{Body}
use Rattle.fo_world.specs.declared.tree.Body.TheVariants.{File, Dir}
use Rattle.fo_world.specs.Tree.{node_of}
use Rattle.fo_world.specs.Step.{is_dir_mode}
use Rattle.fo_world.specs.Dated.{slash}
use Rattle.fo_good.specs.Reading.{dir_in, dir_records, source_in, stat_in, own_record}
use Rattle.fo_files_world.specs.Choice.{least}

-- A file of a tree: its record, whether it is a directory, and the two entries of its pair. Those of a directory name its entries and
-- its records; the first of a file names its bytes.
pub record Spot : Type 0 where
  pub named : Record
  pub dir : Bool
  pub first : Link
  pub second : Link

-- the file of a record, in a directory with these entries
abbrev pub spot_of : Arena → Image → Link → Record → Spot
spot_of arena image entries r = record {
  named = r;
  dir = is_dir_mode r.mode;
  first = entry_of arena image entries (2 * r.slot);
  second = entry_of arena image entries (2 * r.slot + 1);
}

-- the root directory of the root block at this address
abbrev pub root_spot : Arena → Image → ℕ → Spot
root_spot arena image root = record {
  named = record (own_record ((image root).bytes)) { name = slash };
  dir = true;
  first = step arena image (from_block root) 0;
  second = step arena image (from_block root) 1;
}

-- a test on a number, as a trail asks
abbrev pub has_number : ℕ → List ℕ → ℕ → Bool
has_number k name number = nat_eq number k

-- the file directly below a directory that a test on name and number asks for
abbrev pub found_below : Arena → Image → (List ℕ → ℕ → Bool) → Spot → Option Spot
found_below arena image test s = if s.dir then option_map (spot_of arena image s.first) (least test (dir_records arena image s.second)) else None

-- where a trail of file numbers comes to from a file below which so many levels of directories are read
abbrev pub spot_along : Arena → Image → ℕ → List ℕ → Spot → Option Spot
spot_along arena image n [] s = Some s
spot_along arena image zero (k ∷ ks) s = None
spot_along arena image (suc n) (k ∷ ks) s = option_and_then (spot_along arena image n ks) (found_below arena image (has_number k) s)

-- how many levels are left behind a trail
abbrev pub left_below : ℕ → List ℕ → ℕ
left_below n [] = n
left_below zero (k ∷ ks) = zero
left_below (suc n) (k ∷ ks) = left_below n ks

-- what a file has, with so many levels of directories from it on
abbrev pub body_of : Arena → Image → ℕ → Spot → Body
body_of arena image n s = if s.dir then Dir (dir_in n arena image s.first s.second) else File (source_in arena image s.first)

-- a file as a name with its node
abbrev pub node_at : Arena → Image → ℕ → Spot → List ℕ × Node
node_at arena image n s = (s.named.name, node_of (stat_in s.named) (body_of arena image n s))
