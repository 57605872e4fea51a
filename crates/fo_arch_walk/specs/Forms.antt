-- The form of a block of each kind, by what memory has of it.
use Rattle.std.specs.Prelude.{◌≡◌, ℕ, zero, suc, List, take, drop, Some}
use Rattle.fo_image.specs.declared.types.Kind.{Kind}
use Rattle.fo_image.specs.declared.types.Kind.TheVariants.{Data, Dir, Root}
use Rattle.fo_image.specs.declared.types.Score.{Score}
use Rattle.fo_image.specs.declared.types.Entry.{Entry}
use Rattle.fo_crash.specs.declared.slot.Slot.TheVariants.{Entry as Head}
use Rattle.fo_crash.specs.Images.{Content}
use Rattle.fo_vacput.specs.declared.types.VacEntry.{VacEntry}
use Rattle.fo_arch_hash.specs.Form.{archived}
use Rattle.fo_arch_form.specs.declared.stored.Stored.{Stored}
use Rattle.fo_arch_form.specs.Stored.{score_under}
use Rattle.fo_arch_form.specs.Entries.{code_of}
use Rattle.fo_arch_form.specs.Root.{IsTop}
use Rattle.fo_arch_walk.specs.Pointers.{IsPointersForm}
use Rattle.fo_arch_walk.specs.Entries.{IsEntriesForm}

-- the archived entry of slot i, with the score under which its top was stored
pub record HasHead (done : Stored) (c : Content) (i : ℕ) (v : VacEntry) : Type 0 where
  pub entry : Entry
  pub score : Score
  pub slot_is : c.slot i ≡ Head entry
  pub stored : score_under done (code_of entry) entry.top ≡ Some score
  pub is : v ≡ archived entry score

-- The top block of a root block: the archived entries of both sources, and its bytes from 104 on.
pub record IsTopForm (done : Stored) (c : Content) (form : List ℕ) : Type 0 where
  pub entries : VacEntry
  pub meta : VacEntry
  pub entries_are : HasHead done c 0 entries
  pub meta_are : HasHead done c 1 meta
  pub is : IsTop entries meta (take 8088 (drop 104 c.bytes)) form

-- A leaf of data is its own form.
pub record IsSame (c : Content) (form : List ℕ) : Type 0 where
  pub bytes : form ≡ c.bytes

abbrev pub IsForm : Stored → Kind → Content → List ℕ → Type 0
IsForm done (Data zero) c form = IsSame c form
IsForm done (Data (suc level)) c form = IsPointersForm done (Data (suc level)) c form
IsForm done (Dir zero) c form = IsEntriesForm done c form
IsForm done (Dir (suc level)) c form = IsPointersForm done (Dir (suc level)) c form
IsForm done Root c form = IsTopForm done c form
