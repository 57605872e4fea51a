-- Why a device is not opened.
use Rattle.std.specs.Prelude.{◌≡◌, ◌<◌, ◌≤◌, ℕ, true, List}
use Rattle.fo_base.specs.Cause.{Rose}
use Rattle.fo_disk.specs.Disk.{Content as Holds}
use Rattle.fo_disk.specs.declared.disk.DiskFault.TheVariants.{Read}
use Rattle.fo_image.specs.declared.types.Super.{Super}
use Rattle.fo_image.specs.Format.{SpellsHeader, SpellsSuper}
use Rattle.fo_image.specs.Place.{first_data, label_blocks}
use Rattle.fo_image.specs.Usable.{is_usable}
use Rattle.fo_labels.specs.Region.{Region}
use Rattle.fo_labels.specs.Spelled.{SpellsLabels}
use Rattle.fo_mind.specs.Parts.{count_of, label_at}
use Rattle.fo_sound.specs.Sizes.{IsMainSize}
use Rattle.fo_opening.specs.declared.error.Why.{Why}
use Rattle.fo_opening.specs.declared.error.Why.TheVariants.{Size, Header, Super as NoSuper, Label as NoLabels, Root, Fault, Memory}
use Rattle.fo_opening.specs.Opens.{HasHeader, HasSuper, HasTable, IsRead, IsTable, Stands}

-- What was read of block 0 is no header of a device of so many blocks.
pub record IsNoHeader (holds : Holds) (count : ℕ) : Type 0 where
  pub bytes : List ℕ
  pub read : IsRead holds 0 bytes
  pub none : SpellsHeader (record { blocks = count }) bytes → ⊥

-- What was read of block 1 is no super block that leads to a data block, with epochs in order.
pub record IsNoSuper (holds : Holds) (count : ℕ) : Type 0 where
  pub bytes : List ℕ
  pub read : IsRead holds 1 bytes
  pub none : (one : Super) → SpellsSuper one bytes → Stands count one → ⊥

-- What was read of this block of the label table spells no labels of so many blocks.
pub record IsNoTable (holds : Holds) (count block : ℕ) : Type 0 where
  pub from : 2 ≤ block
  pub to : block < first_data count
  pub bytes : List ℕ
  pub read : IsRead holds block bytes
  pub none : (r : Region) → r.first ≡ first_data count → count_of r ≡ count → SpellsLabels r block bytes → ⊥

-- By what was read, the root may be given out.
pub record IsNoRoot (holds : Holds) (count : ℕ) (one : Super) : Type 0 where
  pub region : Region
  pub labels : IsTable count region
  pub table : HasTable holds (label_blocks count) region
  pub usable : is_usable one.low (label_at region one.active) ≡ true

-- ---- a step

abbrev pub RefusesSize : ℕ → Why → Type 0
RefusesSize size Size = IsMainSize size → ⊥
RefusesSize size Header = ⊥
RefusesSize size NoSuper = ⊥
RefusesSize size (NoLabels b) = ⊥
RefusesSize size Root = ⊥
RefusesSize size (Fault which) = Unit {0}
RefusesSize size Memory = ⊥

abbrev pub RefusesHeader : ℕ → Holds → Why → Type 0
RefusesHeader count holds Size = ⊥
RefusesHeader count holds Header = IsNoHeader holds count
RefusesHeader count holds NoSuper = ⊥
RefusesHeader count holds (NoLabels b) = ⊥
RefusesHeader count holds Root = ⊥
RefusesHeader count holds (Fault which) = Unit {0}
RefusesHeader count holds Memory = ⊥

abbrev pub RefusesSuper : ℕ → Holds → Why → Type 0
RefusesSuper count holds Size = ⊥
RefusesSuper count holds Header = ⊥
RefusesSuper count holds NoSuper = IsNoSuper holds count
RefusesSuper count holds (NoLabels b) = ⊥
RefusesSuper count holds Root = ⊥
RefusesSuper count holds (Fault which) = Unit {0}
RefusesSuper count holds Memory = Unit {0}

abbrev pub RefusesTable : ℕ → Holds → Why → Type 0
RefusesTable count holds Size = ⊥
RefusesTable count holds Header = ⊥
RefusesTable count holds NoSuper = ⊥
RefusesTable count holds (NoLabels b) = IsNoTable holds count b
RefusesTable count holds Root = ⊥
RefusesTable count holds (Fault which) = Unit {0}
RefusesTable count holds Memory = Unit {0}

-- ---- the whole

-- the size is in range, and there is a header
abbrev pub Begins : ℕ → Holds → Type 0
Begins size holds = IsMainSize size × HasHeader holds size

-- and there is this super block
pub record Leads (size : ℕ) (holds : Holds) (one : Super) : Type 0 where
  pub begins : Begins size holds
  pub bytes : List ℕ
  pub has : HasSuper holds size one bytes

-- Why a device of so many blocks is refused: the first of these that is so. Of faults it is said elsewhere that they come only where the
-- device's count rose. Where the blocks could not be counted, nothing is known of their number.
abbrev pub Refuses : ℕ → Holds → Why → Type 0
Refuses size holds Size = IsMainSize size → ⊥
Refuses size holds Header = IsMainSize size × IsNoHeader holds size
Refuses size holds NoSuper = Begins size holds × IsNoSuper holds size
Refuses size holds (NoLabels b) = (one : Super) × Leads size holds one × IsNoTable holds size b
Refuses size holds Root = (one : Super) × Leads size holds one × IsNoRoot holds size one
Refuses size holds (Fault which) = Unit {0}
Refuses size holds Memory = Begins size holds

-- A fault is one of a read, and is answered only where the device's count rose.
abbrev pub Blames : ℕ → ℕ → Why → Type 0
Blames before now (Fault which) = (which ≡ Read) × Rose before now
Blames before now _ = Unit {0}
