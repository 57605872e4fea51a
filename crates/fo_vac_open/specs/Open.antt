-- What is found of an archive by the score of its root, and why none is.
use Rattle.std.specs.Prelude.{◌≡◌, ◌⊎◌, ℕ, ◌≤◌, List, Result, IfErr}
use Rattle.sha1.specs.Sha1.{sha1}
use Rattle.fo_image.specs.declared.types.ArenaLine.{ArenaLine}
use Rattle.fo_vacput.specs.declared.types.Tail.TheVariants.{Zeros}
use Rattle.fo_vacput.specs.declared.types.VacRoot.{VacRoot}
use Rattle.fo_vacput.specs.declared.types.VacTop.{VacTop}
use Rattle.fo_vacput.specs.Cut.{grown}
use Rattle.fo_vacput.specs.Vac.{SpellsVacRoot}
use Rattle.fo_vacput.specs.Top.{SpellsVacTop}
use Rattle.venti_store.specs.Held.{IsNamed, IsHeld}
use Rattle.venti_store.specs.Arena.{LookRefuses, GetRefuses, RefusesHeld, Blames}
use Rattle.venti_store.specs.declared.error.ArenaError.TheVariants as why
use Rattle.fo_vac_open.specs.declared.types.Archived.{Archived}
use Rattle.fo_vac_open.specs.declared.types.VacError.{VacError}
use Rattle.fo_vac_open.specs.declared.types.VacError.TheVariants as vac

-- the top block of which these bytes are stored
abbrev pub SpellsTop : List ℕ → VacTop → Type 0
SpellsTop bytes top = SpellsVacTop top (grown Zeros 8192 bytes)

-- why these bytes give no top block
abbrev pub LacksTop : List ℕ → VacError → Type 0
LacksTop bytes vac.BadVac = (top : VacTop) → ¬ SpellsTop bytes top
LacksTop bytes (vac.Arena why.Memory) = Unit {0}
LacksTop bytes (vac.Arena _) = ⊥

-- ---- over any device

-- a root that hashes to this score
pub record RootHashes (lines : List ArenaLine) (score : List ℕ) (root : VacRoot) : Type 0 where
  pub bytes : List ℕ
  pub named : IsNamed lines score 16
  pub hash : sha1 bytes ≡ score
  pub spelled : SpellsVacRoot root bytes

-- a top block that hashes to this score
pub record TopHashes (lines : List ArenaLine) (score : List ℕ) (top : VacTop) : Type 0 where
  pub bytes : List ℕ
  pub named : IsNamed lines score 17
  pub hash : sha1 bytes ≡ score
  pub spelled : SpellsTop bytes top

pub record ArchiveHashes (lines : List ArenaLine) (score : List ℕ) (a : Archived) : Type 0 where
  pub root : RootHashes lines score a.root
  pub top : TopHashes lines a.root.top.0 a.top

abbrev pub RootRefused : List ArenaLine → List ℕ → VacError → Type 0
RootRefused lines score (vac.Arena e) = GetRefuses lines score 16 e
RootRefused lines score vac.BadVac = IsNamed lines score 16

abbrev pub TopRefused : List ArenaLine → List ℕ → VacError → Type 0
TopRefused lines score (vac.Arena e) = LookRefuses lines score 17 e
TopRefused lines score vac.BadVac = Unit {0}

-- a refusal of the top block of a root that hashes to this score
pub record TopOfRootRefused (lines : List ArenaLine) (score : List ℕ) (e : VacError) : Type 0 where
  pub root : VacRoot
  pub hashes : RootHashes lines score root
  pub refused : TopRefused lines root.top.0 e

-- Why no archive is found: `Absent` exactly where no root is held; else the arena refused the root or its top block.
abbrev pub ArchiveRefused : List ArenaLine → List ℕ → VacError → Type 0
ArchiveRefused lines score (vac.Arena why.Absent) = ¬ IsNamed lines score 16
ArchiveRefused lines score (vac.Arena e) = LookRefuses lines score 16 e ⊎ TopOfRootRefused lines score (vac.Arena e)
ArchiveRefused lines score vac.BadVac = IsNamed lines score 16

-- ---- over a device that tells what it holds

-- this root is held under this score
pub record HasRoot (lines : List ArenaLine) (stored : List (List ℕ)) (score : List ℕ) (root : VacRoot) : Type 0 where
  pub bytes : List ℕ
  pub held : IsHeld lines stored score 16 bytes
  pub spelled : SpellsVacRoot root bytes

-- this top block is held under this score
pub record HasTop (lines : List ArenaLine) (stored : List (List ℕ)) (score : List ℕ) (top : VacTop) : Type 0 where
  pub bytes : List ℕ
  pub held : IsHeld lines stored score 17 bytes
  pub spelled : SpellsTop bytes top

pub record HasArchive (lines : List ArenaLine) (stored : List (List ℕ)) (score : List ℕ) (a : Archived) : Type 0 where
  pub root : HasRoot lines stored score a.root
  pub top : HasTop lines stored a.root.top.0 a.top

-- what is held under this score is no root
pub record HoldsNoRoot (lines : List ArenaLine) (stored : List (List ℕ)) (score : List ℕ) : Type 0 where
  pub bytes : List ℕ
  pub held : IsHeld lines stored score 16 bytes
  pub none : (root : VacRoot) → ¬ SpellsVacRoot root bytes

-- what is held under this score is no top block
pub record HoldsNoTop (lines : List ArenaLine) (stored : List (List ℕ)) (score : List ℕ) : Type 0 where
  pub bytes : List ℕ
  pub held : IsHeld lines stored score 17 bytes
  pub none : (top : VacTop) → ¬ SpellsTop bytes top

abbrev pub RootLacks : List ArenaLine → List (List ℕ) → List ℕ → VacError → Type 0
RootLacks lines stored score (vac.Arena e) = RefusesHeld lines stored score 16 e
RootLacks lines stored score vac.BadVac = HoldsNoRoot lines stored score

abbrev pub TopLacks : List ArenaLine → List (List ℕ) → List ℕ → VacError → Type 0
TopLacks lines stored score (vac.Arena e) = RefusesHeld lines stored score 17 e
TopLacks lines stored score vac.BadVac = (¬ IsNamed lines score 17) ⊎ HoldsNoTop lines stored score

-- what is so of the top block of the root that is held
pub record TopOfRootLacks (lines : List ArenaLine) (stored : List (List ℕ)) (score : List ℕ) (e : VacError) : Type 0 where
  pub root : VacRoot
  pub has : HasRoot lines stored score root
  pub lacks : TopLacks lines stored root.top.0 e

-- What is so of an archive that is not found: `BadVac` where the root that is held is not of its format, or its top block is not held
-- or not of its format.
abbrev pub ArchiveLacks : List ArenaLine → List (List ℕ) → List ℕ → VacError → Type 0
ArchiveLacks lines stored score e = RootLacks lines stored score e ⊎ TopOfRootLacks lines stored score e

-- What may be answered where an archive is held: damage, a fault, want of memory.
abbrev pub IsLost : VacError → Type 0
IsLost (vac.Arena (why.Damaged at)) = Unit {0}
IsLost (vac.Arena why.ArenaRead) = Unit {0}
IsLost (vac.Arena why.Memory) = Unit {0}
IsLost e = ⊥

-- ---- faults

abbrev pub VacBlames : ℕ → ℕ → VacError → Type 0
VacBlames before now (vac.Arena e) = Blames before now e
VacBlames before now vac.BadVac = Unit {0}

-- The count of faults never falls, and a fault is answered only where it rose.
pub record HasVacCauses {T : Type 0} (before now : ℕ) (result : Result T VacError) : Type 0 where
  pub later : before ≤ now
  pub failed : IfErr result (VacBlames before now)
