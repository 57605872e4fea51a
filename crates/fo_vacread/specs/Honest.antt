-- Where the files of an archive are honest: the arena tells what it holds, and the archive is sound in it.
use Rattle.std.specs.Prelude.{◌≡◌, ◌≢◌, ℕ, ◌<◌, List}
use Rattle.fo_disk.specs.Disk.{DiskState}
use Rattle.fo_image.specs.declared.types.Score.{Score}
use Rattle.fo_image.specs.declared.types.Kind.{Kind}
use Rattle.fo_image.specs.declared.types.Pointer.TheVariants.{Nil, Score as ToScore}
use Rattle.fo_image.specs.Format.{kind_code}
use Rattle.fo_crash.specs.Images.{Link, target}
use Rattle.fo_meta.specs.Leaf.{IsLeaf}
use Rattle.fo_good.specs.Trees.{size_of}
use Rattle.fo_good.specs.Reading.{leaves_in}
use Rattle.fo_vacput.specs.declared.types.VacTop.{VacTop}
use Rattle.venti_store.specs.Held.{IsNamed}
use Rattle.venti_store.specs.Arena.{lines_of, IsDamaged}
use Rattle.venti_store.specs.declared.shelf.Shelf.{Shelf}
use Rattle.fo_vac_open.specs.Held.{held}
use Rattle.fo_vac_open.specs.Stored.{stored_in}
use Rattle.fo_vac_open.specs.Tree.{link_to}
use Rattle.fo_vac_walk.specs.Walk.{Holding, IsTold, follows, bytes_of, leaf_of, IsForm}
use Rattle.fo_vac_files.specs.Broken.{IsFolder}

-- what the device of an arena holds, where it tells
abbrev pub holding_of : Shelf → DiskState → Holding
holding_of shelf s = record { lines = lines_of shelf; stored = stored_in shelf s.holds }

-- A block that is named under this kind and score is held, hashes to its score, and is of its form.
pub record IsBlock (h : Holding) (kind : Kind) (score : List ℕ) : Type 0 where
  pub named : IsNamed h.lines score (kind_code kind)
  pub hashes : ¬ IsDamaged h.lines h.stored score (kind_code kind)
  pub form : IsForm kind (held h.lines h.stored score (kind_code kind))

-- So is each block to which a path from this link leads.
abbrev pub IsIntact : Holding → Link → Type 0
IsIntact h w = (path : List ℕ) (score : Score) → target (follows h w path).slot ≡ ToScore score → IsBlock h (follows h w path).kind score.0

-- Each leaf of a directory is one of records, or is nowhere.
abbrev pub HasLeaves : Holding → Link → Type 0
HasLeaves h meta = (k : ℕ) → k < leaves_in (size_of meta.slot) → target (leaf_of h meta k).slot ≢ Nil → IsLeaf (bytes_of h (leaf_of h meta k))

-- Each block of the archive below a top block is intact, and its directories have leaves of records.
pub record IsSound (h : Holding) (top : VacTop) : Type 0 where
  pub entries : IsIntact h (link_to top.entries)
  pub meta : IsIntact h (link_to top.meta)
  pub leaves : (entries meta : Link) → IsFolder h top entries meta → HasLeaves h meta

-- The arena tells that it holds this, and the archive is sound in it.
pub record Holds (h : Holding) (top : VacTop) (shelf : Shelf) (s : DiskState) : Type 0 where
  pub told : IsTold h shelf s
  pub sound : IsSound h top

abbrev pub IsHonest : Shelf → DiskState → VacTop → Type 0
IsHonest shelf s top = Holds (holding_of shelf s) top shelf s
