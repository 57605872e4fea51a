-- The archived entries of a root block.
use Rattle.std.specs.Prelude.{◌≡◌, ◌⊎◌, ℕ, ◌≤◌, List, [], ◌++◌, take, drop, Some, None}
use Rattle.fo_image.specs.Field.{padded}
use Rattle.fo_image.specs.declared.types.Score.{Score}
use Rattle.fo_image.specs.declared.types.Entry.{Entry}
use Rattle.fo_image.specs.declared.types.Pointer.TheVariants.{Local}
use Rattle.fo_image.specs.Format.{SpellsEntry}
use Rattle.fo_vacput.specs.declared.types.VacEntry.{VacEntry}
use Rattle.fo_vacput.specs.Vac.{VacEntryHolds, SpellsVacEntry}
use Rattle.fo_arch_hash.specs.Form.{archived}
use Rattle.fo_arch_form.specs.declared.stored.Stored.{Stored}
use Rattle.fo_arch_form.specs.declared.entries.Missing.{Missing}
use Rattle.fo_arch_form.specs.Stored.{found, score_under}
use Rattle.fo_arch_form.specs.Entries.{code_of}

-- the 40 bytes from a place on
abbrev pub part_at : List ℕ → ℕ → List ℕ
part_at block from = take 40 (drop from block)

-- An entry of at most four levels is spelled from a place on.
pub record HasEntryFrom (from : ℕ) (block : List ℕ) : Type 0 where
  pub entry : Entry
  pub spelled : SpellsEntry entry (part_at block from)
  pub shallow : entry.depth ≤ 4

-- The archived entry of the one that is spelled there, with the score under which its top was stored.
pub record ArchivedFrom (done : Stored) (from : ℕ) (block : List ℕ) (v : VacEntry) : Type 0 where
  pub entry : Entry
  pub score : Score
  pub spelled : SpellsEntry entry (part_at block from)
  pub stored : score_under done (code_of entry) entry.top ≡ Some score
  pub is : v ≡ archived entry score
  pub holds : VacEntryHolds v

-- The entry that is spelled there, whose top isn't stored.
pub record MissesFrom (done : Stored) (from : ℕ) (block : List ℕ) (e : Entry) : Type 0 where
  pub spelled : SpellsEntry e (part_at block from)
  pub at : ℕ
  pub top : e.top ≡ Local at
  pub none : found done at (code_of e) ≡ None

-- A top block of these entries, with these bytes behind them, and zeros.
pub record IsTop (entries meta : VacEntry) (rest top : List ℕ) : Type 0 where
  pub first : List ℕ
  pub second : List ℕ
  pub first_is : SpellsVacEntry entries first
  pub second_is : SpellsVacEntry meta second
  pub is : top ≡ padded 8192 (first ++ second ++ rest ++ [])

-- The top block of a root block: both entries with the scores under which their tops were stored, and the bytes from 104 on.
pub record IsRootForm (done : Stored) (block top : List ℕ) : Type 0 where
  pub entries : VacEntry
  pub meta : VacEntry
  pub entries_are : ArchivedFrom done 24 block entries
  pub meta_are : ArchivedFrom done 64 block meta
  pub is : IsTop entries meta (take 8088 (drop 104 block)) top

-- One of both entries has a top that isn't stored.
abbrev pub MissesOfRoot : Stored → List ℕ → Missing → Type 0
MissesOfRoot done block m = ((m.i ≡ 0) × MissesFrom done 24 block m.entry) ⊎ ((m.i ≡ 1) × MissesFrom done 64 block m.entry)
