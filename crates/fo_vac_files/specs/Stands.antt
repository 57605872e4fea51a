-- Files of an archive that were reached, as its tree has them.
use Rattle.std.specs.Prelude.{◌≡◌, ◌⊎◌, ℕ, ◌-◌, List, Option, Some, None}
use Rattle.fo_image.specs.declared.record.Record.{Record}
use Rattle.fo_crash.specs.Images.{Link}
use Rattle.fo_world.specs.declared.tree.Node.{Node}
use Rattle.fo_world.specs.declared.tree.Body.{Body}
use Rattle.fo_world.specs.declared.tree.Body.TheVariants.{File, Dir}
use Rattle.fo_world.specs.declared.error.FileError.{FileError}
use Rattle.fo_world.specs.declared.error.FileError.TheVariants.{Gone}
use Rattle.fo_world.specs.Tree.{node_of, along}
use Rattle.fo_good.specs.Reading.{stat_in, dir_in, source_in}
use Rattle.fo_vac_open.specs.Tree.{no_image}
use Rattle.fo_vac_walk.specs.declared.source.Source.{Source}
use Rattle.fo_vac_walk.specs.Walk.{Holding, blocks_of, IsSourceOf, Breaks}
use Rattle.fo_vac_dir.specs.declared.folder.Folder.{Folder}
use Rattle.fo_vac_dir.specs.Dir.{named_node, names_of}
use Rattle.fo_vac_files.specs.declared.opened.Opened.{Opened}
use Rattle.fo_vac_files.specs.Broken.{IsFolder, IsBroken}
use Rattle.fo_vac_files.specs.Causes.{IsLoss}
use Rattle.fo_vac_files.specs.declared.reach.Inside.{Inside}
use Rattle.fo_vac_files.specs.declared.reach.Inside.TheVariants as inside
use Rattle.fo_vac_files.specs.declared.reach.Reached.{Reached}

-- This source is that of a link of the archive.
pub record SourceIs (h : Holding) (o : Opened) (w : Link) (source : Source) : Type 0 where
  pub is : IsSourceOf w source.entry
  pub chain : (at : ℕ) → Breaks h source.holder w at → IsBroken h o at

-- This folder is a directory of the archive.
pub record DirIs (h : Holding) (o : Opened) (folder : Folder) (entries meta : Link) : Type 0 where
  pub entries_are : SourceIs h o entries folder.entries
  pub meta_is : SourceIs h o meta folder.meta
  pub is : IsFolder h o.found.top entries meta

pub record FileBody (h : Holding) (o : Opened) (source : Source) (body : Body) : Type 0 where
  pub link : Link
  pub is : SourceIs h o link source
  pub bytes : body ≡ File (source_in (blocks_of h) no_image link)

pub record DirBody (h : Holding) (o : Opened) (folder : Folder) (body : Body) : Type 0 where
  pub entries : Link
  pub meta : Link
  pub is : DirIs h o folder entries meta
  pub names : body ≡ Dir (names_of h folder.levels entries meta)

-- This is inside of a file or a directory of the archive.
abbrev pub HasInside : Holding → Opened → Inside → Body → Type 0
HasInside h o (inside.File source) body = FileBody h o source body
HasInside h o (inside.Dir folder) body = DirBody h o folder body

-- What was reached is this file of the archive's tree.
pub record Stands (h : Holding) (o : Opened) (f : Reached) (n : List ℕ × Node) : Type 0 where
  pub body : Body
  pub is : n ≡ (f.named.name, node_of (stat_in f.named) body)
  pub has : HasInside h o f.inside body

-- What was reached is the file of this record of a directory.
abbrev pub NodeAt : Holding → Opened → Folder → Link → Record → Reached → Type 0
NodeAt h o folder entries r f = Stands h o f (named_node (dir_in (folder.levels - 1) (blocks_of h) no_image) (blocks_of h) no_image entries r)

-- What was picked is what the tree has.
abbrev pub Picks : Holding → Opened → Option (List ℕ × Node) → Option Reached → Type 0
Picks h o None None = Unit {0}
Picks h o (Some n) (Some f) = Stands h o f n
Picks h o None (Some f) = ⊥
Picks h o (Some n) None = ⊥

-- What was reached is the file that the tree has.
abbrev pub Comes : Holding → Opened → Option (List ℕ × Node) → Reached → Type 0
Comes h o there f = Picks h o there (Some f)

-- The tree has no file, or it was not read.
abbrev pub Fails : Holding → Opened → Option (List ℕ × Node) → FileError → Type 0
Fails h o there e = ((there ≡ None) × (e ≡ Gone)) ⊎ IsLoss h o e

-- The rest of a trail leads on from the file that was reached.
pub record Along (h : Holding) (o : Opened) (whole : Option (List ℕ × Node)) (rest : List ℕ) (f : Reached) : Type 0 where
  pub node : List ℕ × Node
  pub same : whole ≡ along rest node
  pub stands : Stands h o f node
