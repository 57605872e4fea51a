-- Archived entries and roots, each by its fields in their order and the condition on its values.
use Rattle.std.specs.Prelude.{◌≡◌, ℕ, ◌+◌, ◌*◌, ◌/◌, ◌%◌, ◌^◌, ◌<◌, Bool, true, false, List, [], ◌∷◌, ◌++◌, codes, decimal, replicate, Option, Some, None, if◌then◌else◌}
use Rattle.fo_image.specs.declared.types.Score.{Score}
use Rattle.fo_image.specs.Field.{One, Two, Four, Field, Number, Fixed, padded, Spells}
use Rattle.fo_image.specs.Format.{IsEpoch, IsScore, IsDepth, flag_bits, last_bytes}
use Rattle.fo_vacput.specs.declared.types.BadVac.{BadVac}
use Rattle.fo_vacput.specs.declared.types.VacEntry.{VacEntry}
use Rattle.fo_vacput.specs.declared.types.VacRoot.{VacRoot}

-- the one refusal of a reader
abbrev pub bad_vac : BadVac
bad_vac = record {}

-- ---- entries

-- an entry that is not active keeps its generation alone
abbrev pub ActiveHolds : Bool → VacEntry → Type 0
ActiveHolds true e = (e.size < 2 ^ 48) × IsDepth e.size e.depth × IsScore e.score.0
ActiveHolds false e = (e.dir ≡ false) × (e.depth ≡ 0) × (e.size ≡ 0) × (e.score.0 ≡ replicate 20 0)

pub record VacEntryHolds (e : VacEntry) : Type 0 where
  pub active_holds : ActiveHolds e.active e

-- the bytes of pointers in a block, and those of a block of data, which stand where the entry is active
abbrev pub sizes_are : Bool → ℕ → ℕ
sizes_are active size = if active then size else 0

-- a size takes six bytes
abbrev pub vac_entry_fields : VacEntry → List Field
vac_entry_fields e =
    Number Four e.generation ∷ Number Two (sizes_are e.active 8180) ∷ Number Two (sizes_are e.active 8192) ∷ Number One (flag_bits e.active e.dir + 4 * e.depth) ∷ Number One 0 ∷ Number Four 0
    ∷ Number Two (e.size / 2 ^ 32) ∷ Number Four (e.size % 2 ^ 32) ∷ Fixed 20 e.score.0 ∷ []

abbrev pub SpellsVacEntry : VacEntry → List ℕ → Type 0
SpellsVacEntry = Spells 40 vac_entry_fields VacEntryHolds

-- ---- roots

abbrev pub PrevHolds : Option Score → Type 0
PrevHolds None = Unit {0}
PrevHolds (Some score) = IsScore score.0

pub record VacRootHolds (r : VacRoot) : Type 0 where
  pub epoch_is : IsEpoch r.epoch
  pub time_fits : r.time < 2 ^ 32
  pub top_is : IsScore r.top.0
  pub prev_is : PrevHolds r.prev

abbrev pub name_text : ℕ → ℕ → List ℕ
name_text epoch time = codes "epoch " ++ (decimal epoch ++ (codes " time " ++ decimal time))

abbrev pub kind_text : List ℕ
kind_text = codes "fossil"

abbrev pub vac_root_fields : VacRoot → List Field
vac_root_fields r = Number Two 2 ∷ Fixed 128 (padded 128 (name_text r.epoch r.time)) ∷ Fixed 128 (padded 128 kind_text) ∷ Fixed 20 r.top.0 ∷ Number Two 8192 ∷ Fixed 20 (last_bytes r.prev) ∷ []

abbrev pub SpellsVacRoot : VacRoot → List ℕ → Type 0
SpellsVacRoot = Spells 300 vac_root_fields VacRootHolds
