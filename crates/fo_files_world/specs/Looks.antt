-- What the file step tells on the active tree, by the records of directories.
use Rattle.std.specs.Prelude.{ℕ, zero, suc, List, Bool, Option, Some, None, Result, Ok, Err, take, drop, if◌then◌else◌}
use Rattle.std.specs.Option.{option_map}
use Rattle.std.specs.Str.{bytes_eq}
use Rattle.fo_crash.specs.Images.{Image, Arena}
use Rattle.fo_world.specs.declared.error.FileError.{FileError}
use Rattle.fo_world.specs.declared.error.FileError.TheVariants as error
use Rattle.fo_world.specs.declared.place.Place.{Place}
use Rattle.fo_world.specs.declared.place.Info.{Info}
use Rattle.fo_world.specs.declared.place.View.TheVariants.{Active}
use Rattle.fo_world.specs.declared.tree.Node.{Node}
use Rattle.fo_world.specs.Step.{info_of, file_found, next_found, is_above}
use Rattle.fo_world.specs.World.{World}
use Rattle.fo_good.specs.Reading.{source_in, levels}
use Rattle.fo_files_world.specs.Spots.{Spot, root_spot, found_below, spot_along, left_below, node_at}

-- a place in the active tree
abbrev pub active_at : List ℕ → Place
active_at trail = record { view = Active; trail = trail }

-- the file at a place of the tree of a root block
abbrev pub spot_at : Arena → Image → ℕ → List ℕ → Option Spot
spot_at arena image root trail = spot_along arena image levels trail (root_spot arena image root)

-- the tests on a name and a number that the file step makes
abbrev pub has_name : List ℕ → List ℕ → ℕ → Bool
has_name name other number = bytes_eq other name

abbrev pub comes_after : Option (List ℕ) → List ℕ → ℕ → Bool
comes_after after name number = is_above after name

-- what a directory has directly below it, with so many levels left
abbrev pub node_below : Arena → Image → (List ℕ → ℕ → Bool) → ℕ → Spot → Option (List ℕ × Node)
node_below arena image test zero s = None
node_below arena image test (suc n) s = option_map (node_at arena image n) (found_below arena image test s)

abbrev pub info_told : Arena → Image → World → List ℕ → Option Spot → Result (Info × World) FileError
info_told arena image w trail None = Err error.Gone
info_told arena image w trail (Some s) = Ok (info_of (active_at trail) (node_at arena image (left_below levels trail) s), w)

abbrev pub find_told : Arena → Image → World → List ℕ → List ℕ → Option Spot → Result (Info × World) FileError
find_told arena image w trail name None = Err error.Gone
find_told arena image w trail name (Some s) = if s.dir then file_found w (active_at trail) (node_below arena image (has_name name) (left_below levels trail) s) else Err error.NotDir

abbrev pub next_told : Arena → Image → World → List ℕ → Option (List ℕ) → Option Spot → Result (Option Info × World) FileError
next_told arena image w trail after None = Err error.Gone
next_told arena image w trail after (Some s) = if s.dir then next_found w (active_at trail) (node_below arena image (comes_after after) (left_below levels trail) s) else Err error.NotDir

abbrev pub read_told : Arena → Image → World → ℕ → ℕ → Option Spot → Result (List ℕ × World) FileError
read_told arena image w offset count None = Err error.Gone
read_told arena image w offset count (Some s) = if s.dir then Err error.IsDir else Ok (take count (drop offset (source_in arena image s.first)), w)
