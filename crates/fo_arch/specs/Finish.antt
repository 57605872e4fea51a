-- What a call that finishes an archive does.
use Rattle.std.specs.Prelude.{◌≡◌, ◌⊎◌, ℕ, List, length, Some}
use Rattle.sha1.specs.Sha1.{sha1}
use Rattle.fo_disk.specs.Disk.{Block, Content, DiskState, Since}
use Rattle.fo_image.specs.declared.types.Score.{Score}
use Rattle.fo_image.specs.declared.types.ArenaLine.{ArenaLine}
use Rattle.fo_image.specs.Format.{IsScore}
use Rattle.fo_crash.specs.Images.{Arena, Image}
use Rattle.fo_good.specs.Reading.{tree_of}
use Rattle.fo_good.specs.Sound.{Kept}
use Rattle.fo_vacput.specs.declared.types.VacRoot.{VacRoot}
use Rattle.fo_vacput.specs.Vac.{SpellsVacRoot}
use Rattle.venti_store.specs.Held.{IsNamed, IsHeld, Recovers}
use Rattle.venti_store.specs.Arena.{lines_of, Keeps, Settled, PutsLine, PutRefuses, IsWriteOrSync}
use Rattle.venti_store.specs.declared.shelf.Shelf.{Shelf}
use Rattle.venti_store.specs.declared.error.ArenaError.{ArenaError}
use Rattle.fo_arch_form.specs.Stored.{found}
use Rattle.fo_arch.specs.declared.archive.Archive.{Archive}
use Rattle.fo_arch_tree.specs.Forms.{StoresForms}
use Rattle.fo_arch_tree.specs.Tree.{IsReadable, IsArchiveOf}
use Rattle.fo_arch.specs.Stores.{IsMore, HeldRefuses}

-- the root of an archive whose top block has this score
abbrev pub root_of : Archive → Score → VacRoot
root_of a top = record { epoch = a.epoch; time = a.time; top = top; prev = a.prev }

-- These bytes spell the root of the archive, with the score under which the root block was stored.
pub record IsRootOf (a : Archive) (bytes : List ℕ) : Type 0 where
  pub top : Score
  pub top_is : found a.done a.root 17 ≡ Some top
  pub spelled : SpellsVacRoot (root_of a top) bytes

-- Over any device: the score is the hash of the bytes that spell the root, and the index names it. The root takes no place where it is
-- held, else the next, and nothing else does.
pub record Finishes (a : Archive) (old new : List ArenaLine) (score : Score) : Type 0 where
  pub bytes : List ℕ
  pub root : IsRootOf a bytes
  pub line : PutsLine 16 bytes old new
  pub hash : sha1 bytes ≡ score.0
  pub real : IsScore score.0
  pub named : IsNamed new score.0 16

-- The root was refused, and nothing was put; or it was put, and could not be settled.
pub record FinishRefused (a : Archive) (old new : Shelf) (s t : DiskState) (e : ArenaError) : Type 0 where
  pub bytes : List ℕ
  pub root : IsRootOf a bytes
  pub puts : ((lines_of new ≡ lines_of old) × PutRefuses old.blocks (lines_of old) 16 bytes e) ⊎ (PutsLine 16 bytes (lines_of old) (lines_of new) × IsWriteOrSync e)
  pub told : (stored : List (List ℕ)) (synced : ℕ) → Keeps old stored synced s → HeldRefuses 16 bytes new stored synced t e

-- Over an arena that tells what it holds: it is quiet, and holds the root and all that it held, also the forms of all that was stored. Of
-- each image whose forms these are, and in which the tree of the root block is readable, it holds the archive: what is read by the score
-- alone is the archive's epoch and time, and that tree.
pub record IsFinished (a : Archive) (old new : Shelf) (stored : List (List ℕ)) (synced : ℕ) (before : List Content) (s : DiskState) (score : Score) : Type 0 where
  pub held : List (List ℕ)
  pub more : IsMore stored held
  pub keeps : Keeps new held (length held) s
  pub settled : Settled (lines_of new) held s.holds
  pub since : Since before s.moments (Recovers synced (lines_of new) held)
  pub forms : (image : Image) → StoresForms a.done image (lines_of old) stored → StoresForms a.done image (lines_of new) held
  pub bytes : List ℕ
  pub root : IsRootOf a bytes
  pub holds_root : IsHeld (lines_of new) held score.0 16 bytes
  pub archive : (arena : Arena) (device : List Block) (image : Image) (k : Kept) → k.at ≡ a.root → IsReadable arena device image k → StoresForms a.done image (lines_of old) stored
      → IsArchiveOf (lines_of new) held score.0 a.epoch a.time (tree_of arena image a.root)
