-- The form of a leaf of entries, by what memory has of it.
use Rattle.std.specs.Prelude.{◌≡◌, ℕ, ◌<◌, ◌≤◌, List, length, drop, Some, None}
use Rattle.fo_image.specs.declared.types.Score.{Score}
use Rattle.fo_image.specs.declared.types.Entry.{Entry}
use Rattle.fo_image.specs.declared.types.Pointer.TheVariants.{Local}
use Rattle.fo_crash.specs.declared.slot.Slot.TheVariants.{Entry as Head}
use Rattle.fo_crash.specs.Images.{Content}
use Rattle.fo_vacput.specs.Vac.{SpellsVacEntry}
use Rattle.fo_arch_hash.specs.Form.{archived}
use Rattle.fo_arch_form.specs.declared.stored.Stored.{Stored}
use Rattle.fo_arch_form.specs.declared.entries.Missing.{Missing}
use Rattle.fo_arch_form.specs.Stored.{found, score_under}
use Rattle.fo_arch_form.specs.Entries.{entry_at, code_of}

-- Slot i of the form spells the archived entry of slot i of the block, with the score under which its top was stored.
pub record HasEntrySlot (done : Stored) (c : Content) (i : ℕ) (form : List ℕ) : Type 0 where
  pub entry : Entry
  pub score : Score
  pub slot_is : c.slot i ≡ Head entry
  pub stored : score_under done (code_of entry) entry.top ≡ Some score
  pub here : SpellsVacEntry (archived entry score) (entry_at form i)

-- The form of a leaf of entries: archived entries in all slots, and behind them what the block has.
pub record IsEntriesForm (done : Stored) (c : Content) (form : List ℕ) : Type 0 where
  pub each : (i : ℕ) → i < 204 → HasEntrySlot done c i form
  pub behind : drop 8160 form ≡ drop 8160 c.bytes
  pub length_is : length form ≡ 8192

-- A slot has this entry, whose top isn't stored.
pub record NamesTop (done : Stored) (c : Content) (m : Missing) : Type 0 where
  pub within : m.i < 204
  pub slot_is : c.slot m.i ≡ Head m.entry
  pub shallow : m.entry.depth ≤ 4
  pub at : ℕ
  pub leads : m.entry.top ≡ Local at
  pub none : found done at (code_of m.entry) ≡ None
