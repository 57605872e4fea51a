-- What is told of a file that was reached, by its record.
use Rattle.std.specs.Prelude.{◌≡◌, ℕ, Bool, true, false, List, Option, Some, None, Result, Ok, MatchResult}
use Rattle.fo_world.specs.declared.tree.Node.{Node}
use Rattle.fo_world.specs.declared.place.Place.{Place}
use Rattle.fo_world.specs.declared.place.Info.{Info}
use Rattle.fo_world.specs.declared.error.FileError.{FileError}
use Rattle.fo_world.specs.Chain.{and_then}
use Rattle.fo_world.specs.World.{World}
use Rattle.fo_world.specs.Tree.{is_dir, first}
use Rattle.fo_world.specs.Step.{path_of, below, reached, as_dir, next_found}
use Rattle.fo_vac_walk.specs.Walk.{Holding}
use Rattle.fo_vac_files.specs.Causes.{IsSaid}
use Rattle.fo_vac_files.specs.Stands.{Stands}
use Rattle.fo_vac_files.specs.declared.opened.Opened.{Opened}
use Rattle.fo_vac_files.specs.declared.reach.Inside.{Inside}
use Rattle.fo_vac_files.specs.declared.reach.Inside.TheVariants as inside
use Rattle.fo_vac_files.specs.declared.reach.Reached.{Reached}

-- a file's length; a directory has none
abbrev pub length_in : Inside → ℕ
length_in (inside.File source) = source.entry.size
length_in (inside.Dir folder) = 0

abbrev pub is_dir_in : Inside → Bool
is_dir_in (inside.File source) = false
is_dir_in (inside.Dir folder) = true

-- the root directory of an archive that is open
pub record IsOwn (o : Opened) (f : Reached) : Type 0 where
  pub named : f.named ≡ o.found.top.own
  pub has : f.inside ≡ inside.Dir o.root

abbrev pub told_of : Place → Reached → Info
told_of at f = record { place = at; name = f.named.name; path = path_of at.view f.named.number; vers = f.named.vers; mode = f.named.mode; atime = f.named.atime; mtime = f.named.mtime; length = length_in f.inside; uid = f.named.uid; gid = f.named.gid; muid = f.named.muid }

-- what is told of a file directly below a place
abbrev pub told_next : Place → Option Reached → Option Info
told_next at None = None
told_next at (Some f) = Some (told_of (below at f.named.number) f)

-- what is told of the first file in a directory that passes a test
abbrev pub next_in : (List ℕ → ℕ → Bool) → World → Place → Result (Option Info × World) FileError
next_in test w at = and_then (reached false w at) (λ f. and_then (as_dir f.1.body) (λ names. next_found w at (first test names)))

-- the place leads to the file that was reached
pub record LeadsHere (h : Holding) (o : Opened) (where_to : Result (List ℕ × Node) FileError) (f : Reached) : Type 0 where
  pub node : List ℕ × Node
  pub is : where_to ≡ Ok node
  pub stands : Stands h o f node

-- What a place leads to is the file that was reached, or none, or it was not read.
abbrev pub Reaches : Holding → Opened → Result (List ℕ × Node) FileError → Result Reached FileError → Type 0
Reaches h o where_to r = MatchResult r (LeadsHere h o where_to) (IsSaid h o where_to)

-- the place leads to a directory, or to a file
pub record HasKind (where_to : Result (List ℕ × Node) FileError) (dir : Bool) : Type 0 where
  pub node : List ℕ × Node
  pub is : where_to ≡ Ok node
  pub kind : is_dir node.1.body ≡ dir

abbrev pub KindIs : Holding → Opened → Result (List ℕ × Node) FileError → Result Bool FileError → Type 0
KindIs h o where_to r = MatchResult r (HasKind where_to) (IsSaid h o where_to)
