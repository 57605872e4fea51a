-- An archive is that of a snapshot: the plain tree that is read by its score is the one that the image shows below the root block.
use Rattle.std.specs.Prelude.{◌≡◌, ℕ, Bool, List, Some}
use Rattle.fo_disk.specs.Disk.{Block}
use Rattle.fo_image.specs.declared.types.ArenaLine.{ArenaLine}
use Rattle.fo_image.specs.Record.{SpellsRoot}
use Rattle.fo_crash.specs.Images.{Image, Arena, from_block}
use Rattle.fo_world.specs.declared.tree.Tree.{Tree}
use Rattle.fo_sound.specs.Image.{block_of}
use Rattle.fo_sound.specs.Sound.{HasRootEntries}
use Rattle.fo_good.specs.Means.{Means}
use Rattle.fo_good.specs.Trees.{HasLeaves, HasPairs, HasNoScores}
use Rattle.fo_good.specs.Reading.{tree_of}
use Rattle.fo_good.specs.Sound.{Kept, IsSoundTree}
use Rattle.fo_vacput.specs.declared.types.VacRoot.{VacRoot}
use Rattle.fo_vacput.specs.Vac.{SpellsVacRoot}
use Rattle.venti_store.specs.Held.{IsHeld}
use Rattle.fo_vac_open.specs.declared.types.Archived.{Archived}
use Rattle.fo_vac_open.specs.Laws.{AreApart}
use Rattle.fo_vac_open.specs.Open.{HasArchive}
use Rattle.fo_vac_open.specs.Tree.{archive_of}
use Rattle.fo_arch_form.specs.declared.stored.Stored.{Stored}
use Rattle.fo_arch_form.specs.Stored.{found}
use Rattle.fo_arch_tree.specs.Forms.{StoresForms}

-- An arena holds an archive under this score, and what is read by the score alone is this epoch, this time and this tree.
pub record IsArchiveOf (lines : List ArenaLine) (stored : List (List ℕ)) (score : List ℕ) (epoch time : ℕ) (tree : Tree) : Type 0 where
  pub found : Archived
  pub has : HasArchive lines stored score found
  pub is : archive_of lines stored score found ≡ record { epoch = epoch; time = time; score = score; tree = tree }

-- The rules of a sound tree that speak of what is read below its root block: the formats, the records, their pairs, and that no block
-- is one of an archive. The device has the blocks of the tree as the image shows them.
pub record IsReadable (arena : Arena) (device : List Block) (image : Image) (k : Kept) : Type 0 where
  pub spelled : SpellsRoot k.root (block_of device k.at)
  pub entries : HasRootEntries k.root
  pub read : Means arena device image (from_block k.at)
  pub leaves : HasLeaves arena image k.at
  pub pairs : HasPairs arena image k.at
  pub scores : HasNoScores arena image k.at

-- Where an arena holds the forms of all that was stored, and a root of an archive whose top is the score of this root block, that is
-- an archive of the root block's tree.
abbrev pub StoredIsTree : Type 0
StoredIsTree = (done : Stored) (arena : Arena) (device : List Block) (image : Image) (k : Kept) (lines : List ArenaLine) (stored : List (List ℕ)) (head : VacRoot) (score bytes : List ℕ)
    → IsReadable arena device image k → AreApart lines → StoresForms done image lines stored → found done k.at 17 ≡ Some head.top → SpellsVacRoot head bytes → IsHeld lines stored score 16 bytes
    → IsArchiveOf lines stored score head.epoch head.time (tree_of arena image k.at)

abbrev pub SoundIsReadable : Type 0
SoundIsReadable = (arena : Arena) (device : List Block) (image : Image) (numbers : ℕ) (active : Bool) (k : Kept)
    → IsSoundTree arena device image numbers active k → SpellsRoot k.root (block_of device k.at) → IsReadable arena device image k
