-- Directories of an archive over what an arena holds: their records and names, and what is broken of them.
use Rattle.std.specs.Prelude.{◌≡◌, ◌⊎◌, ℕ, ◌-◌, ◌<◌, Bool, List, [], ◌∷◌, Option, Some, None}
use Rattle.std.specs.Option.{option_map}
use Rattle.fo_image.specs.declared.record.Record.{Record}
use Rattle.fo_crash.specs.Images.{Arena, Image, Link}
use Rattle.fo_meta.specs.Leaf.{IsLeaf}
use Rattle.fo_world.specs.declared.tree.Node.{Node}
use Rattle.fo_world.specs.Names.{Names}
use Rattle.fo_world.specs.Tree.{node_of, first}
use Rattle.fo_good.specs.Trees.{size_of}
use Rattle.fo_good.specs.Reading.{stat_in, body_in, dir_in, dir_records, leaves_in}
use Rattle.fo_vac_open.specs.Tree.{no_image}
use Rattle.fo_vac_walk.specs.declared.error.WalkError.{WalkError}
use Rattle.fo_vac_walk.specs.declared.error.WalkError.TheVariants.{Damaged, ArenaRead, Memory}
use Rattle.fo_vac_walk.specs.Walk.{Holding, blocks_of, leaf_of, HasLeaf, Breaks}

-- a record as a name with its node, by what is read in directories below
abbrev pub named_node : (Link → Link → Names) → Arena → Image → Link → Record → List ℕ × Node
named_node names arena image entries r = (r.name, node_of (stat_in r) (body_in names arena image entries r))

abbrev pub named_in : (Link → Link → Names) → Arena → Image → Link → Option Record → Option (List ℕ × Node)
named_in names arena image entries found = option_map (named_node names arena image entries) found

-- what is found in a directory of so many levels
abbrev pub found_in : Holding → ℕ → Link → Option Record → Option (List ℕ × Node)
found_in h levels entries found = named_in (dir_in (levels - 1) (blocks_of h) no_image) (blocks_of h) no_image entries found

abbrev pub names_of : Holding → ℕ → Link → Link → Names
names_of h levels entries meta = dir_in levels (blocks_of h) no_image entries meta

abbrev pub records_of : Holding → Link → List Record
records_of h meta = dir_records (blocks_of h) no_image meta

-- A leaf within the size of a source of records is not one of records. The arena's block `at` has it.
pub record BadLeaf (h : Holding) (w : Link) (holder at : ℕ) : Type 0 where
  pub k : ℕ
  pub within : k < leaves_in (size_of w.slot)
  pub dir : Bool
  pub block : List ℕ
  pub has : HasLeaf h w holder dir (leaf_of h w k) block at
  pub none : ¬ IsLeaf block

-- why no record is found
abbrev pub Spoiled : Holding → Link → ℕ → WalkError → Type 0
Spoiled h w holder (Damaged at) = Breaks h holder w at ⊎ BadLeaf h w holder at
Spoiled h w holder ArenaRead = Unit {0}
Spoiled h w holder Memory = Unit {0}

-- a record is one of these
abbrev pub IsAmong : List Record → Record → Type 0
IsAmong [] r = ⊥
IsAmong (x ∷ rs) r = (x ≡ r) ⊎ IsAmong rs r

-- a record that is found is one of these
abbrev pub IsOneOf : List Record → Option Record → Type 0
IsOneOf rs None = Unit {0}
IsOneOf rs (Some r) = IsAmong rs r

-- What is found: the first name of the directory's that passes a test.
pub record Finds (h : Holding) (test : List ℕ → ℕ → Bool) (levels : ℕ) (entries meta : Link) (found : Option Record) : Type 0 where
  pub is : first test (names_of h levels entries meta) ≡ found_in h levels entries found
  pub one : IsOneOf (records_of h meta) found
  pub below : found ≡ None ⊎ (0 < levels)
