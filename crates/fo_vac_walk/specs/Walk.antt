-- Sources of an archive over what an arena holds: what a look at one finds, and what is broken below it.
use Rattle.std.specs.Prelude.{◌≡◌, ◌≢◌, ◌⊎◌, ℕ, zero, suc, ◌-◌, ◌*◌, ◌%◌, ◌<◌, ◌≤◌, Bool, false, List, [], length, take, drop, Option, Some, None, Result, IfErr, if◌then◌else◌}
use Rattle.fo_base.specs.Cause.{Rose}
use Rattle.fo_disk.specs.Disk.{DiskState}
use Rattle.fo_image.specs.declared.types.Score.{Score}
use Rattle.fo_image.specs.declared.types.Kind.{Kind}
use Rattle.fo_image.specs.declared.types.Kind.TheVariants.{Data, Dir, Root}
use Rattle.fo_image.specs.declared.types.Pointer.{Pointer}
use Rattle.fo_image.specs.declared.types.Pointer.TheVariants.{Nil, Score as ToScore}
use Rattle.fo_image.specs.declared.types.ArenaLine.{ArenaLine}
use Rattle.fo_image.specs.Field.{zeros}
use Rattle.fo_image.specs.Format.{kind_code}
use Rattle.fo_crash.specs.Images.{Arena, Link, target, found, step, goes, way, leaf_path, entry_of, depth_of, source_byte}
use Rattle.fo_good.specs.Trees.{size_of}
use Rattle.fo_vacput.specs.declared.types.TheConstants.{EMPTY}
use Rattle.fo_vacput.specs.declared.types.Tail.TheVariants.{Zeros}
use Rattle.fo_vacput.specs.declared.types.VacEntry.{VacEntry}
use Rattle.fo_vacput.specs.Cut.{grown}
use Rattle.fo_vacput.specs.Vac.{SpellsVacEntry}
use Rattle.venti_store.specs.Held.{HasName, IsNamed}
use Rattle.venti_store.specs.Arena.{lines_of, Keeps, IsPlaceOf, IsDamaged}
use Rattle.venti_store.specs.declared.shelf.Shelf.{Shelf}
use Rattle.fo_vac_open.specs.Held.{held, pointer_to, arena_of}
use Rattle.fo_vac_open.specs.Tree.{no_image}
use Rattle.fo_vac_walk.specs.declared.block.Spot.{Spot}
use Rattle.fo_vac_walk.specs.declared.block.Got.{Got}
use Rattle.fo_vac_walk.specs.declared.error.WalkError.{WalkError}
use Rattle.fo_vac_walk.specs.declared.error.WalkError.TheVariants.{Damaged, ArenaRead, Memory}

-- ---- what an arena holds

-- the used places of an arena, and their bytes
pub record Holding : Type 0 where
  pub lines : List ArenaLine
  pub stored : List (List ℕ)

-- The device of an arena tells what it holds, and that is this.
pub record IsTold (h : Holding) (shelf : Shelf) (s : DiskState) : Type 0 where
  pub lines_are : h.lines ≡ lines_of shelf
  pub synced : ℕ
  pub keeps : Keeps shelf h.stored synced s

-- the blocks that archives may name
abbrev pub blocks_of : Holding → Arena
blocks_of h = arena_of h.lines h.stored

-- where a path leads, and what is there
abbrev pub follows : Holding → Link → List ℕ → Link
follows h w path = goes (blocks_of h) no_image w path

abbrev pub bytes_of : Holding → Link → List ℕ
bytes_of h w = (found (blocks_of h) no_image w).bytes

abbrev pub next : Holding → Link → ℕ → Link
next h w i = step (blocks_of h) no_image w i

abbrev pub leaf_of : Holding → Link → ℕ → Link
leaf_of h w k = follows h w (leaf_path w.slot k)

abbrev pub entry_at : Holding → Link → ℕ → Link
entry_at h w j = entry_of (blocks_of h) no_image w j

abbrev pub byte_of : Holding → Link → ℕ → ℕ
byte_of h w j = source_byte (blocks_of h) no_image w j

-- ---- sources

-- the kind of a block of a source at a level
abbrev pub kind_at : Bool → ℕ → Kind
kind_at dir level = if dir then Dir level else Data level

-- where the source of an entry begins
abbrev pub top_of : VacEntry → Pointer
top_of e = if e.active then pointer_to e.score.0 else Nil

-- the entry of a slot where none stands
abbrev pub no_entry : VacEntry
no_entry = record { generation = 0; active = false; dir = false; depth = 0; size = 0; score = EMPTY }

-- This link leads to the source of this entry.
pub record IsSourceOf (w : Link) (e : VacEntry) : Type 0 where
  pub leads : target w.slot ≡ top_of e
  pub depth : depth_of w.slot ≡ e.depth
  pub size : size_of w.slot ≡ e.size
  pub kind : top_of e ≢ Nil → w.kind ≡ kind_at e.dir e.depth

-- ---- what is broken

-- The arena's block that has a block of an archive. The empty block takes no place: for it, it is the one that names it.
abbrev pub StandsIn : List ArenaLine → ℕ → List ℕ → ℕ → ℕ → Type 0
StandsIn lines holder score kind at = IsPlaceOf lines score kind at ⊎ (((place : ℕ) → ¬ HasName lines score kind place) × (at ≡ holder))

abbrev pub StandsAt : Holding → ℕ → List ℕ → ℕ → ℕ → Type 0
StandsAt h holder score kind at = StandsIn h.lines holder score kind at

-- what is stored of pointers: whole ones, at most 409
abbrev pub IsPointers : List ℕ → Type 0
IsPointers bytes = (length bytes ≤ 8180) × (length bytes % 20 ≡ 0)

-- each slot of a block of entries has one
abbrev pub AreEntries : List ℕ → Type 0
AreEntries block = (i : ℕ) → i < 204 → (e : VacEntry) × SpellsVacEntry e (take 40 (drop (40 * i) block))

-- what is stored of a block of this kind
abbrev pub IsForm : Kind → List ℕ → Type 0
IsForm (Data zero) bytes = Unit {0}
IsForm (Data (suc level)) bytes = IsPointers bytes
IsForm (Dir zero) bytes = AreEntries (grown Zeros 8192 bytes)
IsForm (Dir (suc level)) bytes = IsPointers bytes
IsForm Root bytes = Unit {0}

-- A block that is held doesn't hash to its score, or is not of its form.
abbrev pub IsBad : Holding → Kind → List ℕ → Type 0
IsBad h kind score = IsDamaged h.lines h.stored score (kind_code kind) ⊎ ¬ IsForm kind (held h.lines h.stored score (kind_code kind))

-- Below a link that stands in the arena's block `holder`, a block is lost that is named in block `at`, or block `at` is bad.
pub data Breaks (h : Holding) : ℕ → Link → ℕ → Type 0 where
  lost : (holder : ℕ) (w : Link) (score : Score) → target w.slot ≡ ToScore score → ¬ IsNamed h.lines score.0 (kind_code w.kind) → Breaks h holder w holder
  bad : (holder at : ℕ) (w : Link) (score : Score) → target w.slot ≡ ToScore score → StandsAt h holder score.0 (kind_code w.kind) at → IsBad h w.kind score.0 → Breaks h holder w at
  below : (holder here i at : ℕ) (w : Link) (score : Score) → target w.slot ≡ ToScore score → StandsAt h holder score.0 (kind_code w.kind) here → Breaks h here (next h w i) at → Breaks h holder w at

-- What is broken below the second link is broken below the first.
abbrev pub Leads : Holding → ℕ → Link → ℕ → Link → Type 0
Leads h holder w here v = (at : ℕ) → Breaks h here v at → Breaks h holder w at

-- ---- what is found

-- so many levels down, where block `k` is
pub record Found (h : Holding) (w : Link) (holder : ℕ) (e : VacEntry) (down k : ℕ) (spot : Spot) : Type 0 where
  pub leads : target (follows h w (way down k [])).slot ≡ pointer_to spot.score.0
  pub kind : pointer_to spot.score.0 ≢ Nil → (follows h w (way down k [])).kind ≡ kind_at e.dir (e.depth - down)
  pub chain : Leads h holder w spot.holder (follows h w (way down k []))

-- a leaf that the arena's block `at` has
pub record HasLeaf (h : Holding) (w : Link) (holder : ℕ) (dir : Bool) (leaf : Link) (block : List ℕ) (at : ℕ) : Type 0 where
  pub score : Score
  pub leads : target leaf.slot ≡ ToScore score
  pub kind : leaf.kind ≡ kind_at dir 0
  pub bytes : block ≡ bytes_of h leaf
  pub below : (i : ℕ) → Leads h holder w at (next h leaf i)
  pub bad : ¬ IsForm leaf.kind (held h.lines h.stored score.0 (kind_code leaf.kind)) → Breaks h holder w at

-- a leaf that is nowhere reads as zeros
pub record HasNone (leaf : Link) (block : List ℕ) : Type 0 where
  pub leads : target leaf.slot ≡ Nil
  pub bytes : block ≡ zeros 8192

abbrev pub FillsWith : Holding → Link → ℕ → Bool → Link → List ℕ → Option ℕ → Type 0
FillsWith h w holder dir leaf block None = HasNone leaf block
FillsWith h w holder dir leaf block (Some at) = HasLeaf h w holder dir leaf block at

-- leaf `k` in a block, and the arena's block that has it
abbrev pub FillsLeaf : Holding → Link → ℕ → VacEntry → ℕ → List ℕ → Option ℕ → Type 0
FillsLeaf h w holder e k block found = FillsWith h w holder e.dir (leaf_of h w k) block found

-- ---- refusals

abbrev pub Spoils : Holding → Link → ℕ → WalkError → Type 0
Spoils h w holder (Damaged at) = Breaks h holder w at
Spoils h w holder ArenaRead = Unit {0}
Spoils h w holder Memory = Unit {0}

abbrev pub WalkBlames : ℕ → ℕ → WalkError → Type 0
WalkBlames before now (Damaged at) = Unit {0}
WalkBlames before now ArenaRead = Rose before now
WalkBlames before now Memory = Unit {0}

-- The count of faults never falls, and a fault is answered only where it rose.
pub record HasWalkCauses {T : Type 0} (before now : ℕ) (result : Result T WalkError) : Type 0 where
  pub later : before ≤ now
  pub failed : IfErr result (WalkBlames before now)

-- ---- single blocks

-- what is stored under a score and a kind
pub record GotIs (h : Holding) (holder : ℕ) (score : List ℕ) (kind : ℕ) (got : Got) : Type 0 where
  pub bytes : got.bytes.items ≡ held h.lines h.stored score kind
  pub at : StandsAt h holder score kind got.at

abbrev pub GetSpoils : Holding → ℕ → List ℕ → ℕ → WalkError → Type 0
GetSpoils h holder score kind (Damaged at) = (¬ IsNamed h.lines score kind × (at ≡ holder)) ⊎ (StandsAt h holder score kind at × IsDamaged h.lines h.stored score kind)
GetSpoils h holder score kind ArenaRead = Unit {0}
GetSpoils h holder score kind Memory = Unit {0}

-- ---- entries

-- this source is that of a link, and what is broken below it is broken below the first link
pub record Leading (h : Holding) (w : Link) (holder : ℕ) (v : Link) (e : VacEntry) (here : ℕ) : Type 0 where
  pub is : IsSourceOf v e
  pub chain : Leads h holder w here v
