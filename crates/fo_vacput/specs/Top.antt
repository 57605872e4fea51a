-- Top blocks of archives, by their fields in their order and the condition on their values.
use Rattle.std.specs.Prelude.{◌≡◌, ℕ, true, false, List, ◌++◌, Result, IfOk, IfErr, MatchResult}
use Rattle.fo_image.specs.Field.{Field, Spells}
use Rattle.fo_image.specs.Record.{RootRecordHolds, record_fields}
use Rattle.fo_vacput.specs.declared.types.VacTop.{VacTop}
use Rattle.fo_vacput.specs.declared.types.VacTopError.{VacTopError}
use Rattle.fo_vacput.specs.declared.types.VacTopError.TheVariants.{Bad, Memory}
use Rattle.fo_vacput.specs.Vac.{VacEntryHolds, vac_entry_fields}

-- both entries are active, and the first alone is that of a directory
pub record VacTopHolds (t : VacTop) : Type 0 where
  pub entries_hold : VacEntryHolds t.entries
  pub meta_holds : VacEntryHolds t.meta
  pub entries_active : t.entries.active ≡ true
  pub entries_dir : t.entries.dir ≡ true
  pub meta_active : t.meta.active ≡ true
  pub meta_dir : t.meta.dir ≡ false
  pub own_holds : RootRecordHolds t.own

abbrev pub vac_top_fields : VacTop → List Field
vac_top_fields t = vac_entry_fields t.entries ++ (vac_entry_fields t.meta ++ record_fields t.own)

abbrev pub SpellsVacTop : VacTop → List ℕ → Type 0
SpellsVacTop = Spells 8192 vac_top_fields VacTopHolds

-- what a refusal says of the block
abbrev pub IsNoTop : List ℕ → VacTopError → Type 0
IsNoTop block Bad = (t : VacTop) → ¬ SpellsVacTop t block
IsNoTop block Memory = Unit {0}

-- What a call that reads a top block answers: the one value that the block spells; a refusal exactly where it spells none; or want of memory.
pub record ReadsVacTop (block : List ℕ) (result : Result VacTop VacTopError) : Type 0 where
  pub found : IfOk result (λ t. SpellsVacTop t block)
  pub only : (t : VacTop) → SpellsVacTop t block → MatchResult result (λ read. read ≡ t) (λ e. e ≡ Memory)
  pub refused : IfErr result (IsNoTop block)
