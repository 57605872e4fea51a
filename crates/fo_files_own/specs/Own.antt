-- A directory's own record, and the block that has it.
use Rattle.std.specs.Prelude.{◌≡◌, ◌≢◌, ◌⊎◌, ℕ, List, length, Option, Some, None}
use Rattle.fo_image.specs.declared.record.Record.{Record}
use Rattle.fo_image.specs.declared.types.Kind.TheVariants.{Data, Root}
use Rattle.fo_image.specs.declared.types.State.TheVariants.{Live}
use Rattle.fo_image.specs.Record.{RecordHolds, RootRecordHolds}
use Rattle.fo_meta.specs.Leaf.{IsLeaf}
use Rattle.fo_ports.specs.State.{State, Looks}
use Rattle.fo_files_record.specs.of_dir_change.Changes.{HasChanged}
use Rattle.fo_files_dir.specs.declared.dir.DirAt.{DirAt}
use Rattle.fo_files_dir.specs.Dir.{IsDirAt}
use Rattle.fo_files_record.specs.Leaf.{IsEntriesAt}
use Rattle.fo_files_record.specs.Own.{HasOwn, HasRoot, IsRootAt}
use Rattle.fo_files_record.specs.Stays.{Rewrites, no_slot}
use Rattle.fo_files_ready.specs.of_files_change.Records.{AltersRecords}
use Rattle.fo_files_ready.specs.Ready.{IsLeafOf, MadeReady}
use Rattle.fo_files_own.specs.declared.at.OwnAt.{OwnAt}
use Rattle.fo_files_own.specs.declared.at.OwnAt.TheVariants as place
use Rattle.fo_files_own.specs.declared.at.Below.{Below}
use Rattle.fo_files_own.specs.declared.at.ReadyOwn.{ReadyOwn}

-- ---- where it stands

abbrev pub IsLive : State → ℕ → Type 0
IsLive s b = (s.label b).state ≡ Live

-- A root block that may be changed; or a directory whose records may, and the leaf of entries with the pair.
abbrev pub IsOwnAt : State → OwnAt → Type 0
IsOwnAt s (place.Root root) = IsRootAt s root × IsLive s root
IsOwnAt s (place.Below b) = IsDirAt s b.dir × IsEntriesAt s b.entries

-- Where the own record of a directory stands: in leaf `leaf` of the records of the directory above it, or in its root block.
abbrev pub own_of : DirAt → Option DirAt → (leaf spare : ℕ) → OwnAt
own_of dir None leaf spare = place.Root dir.at
own_of dir (Some above) leaf spare = place.Below (record { dir = above; entries = dir.at; leaf = leaf; spare = spare })

-- A root block has the pair of the directory; or that has another number than the directory above it.
abbrev pub IsApartFrom : DirAt → OwnAt → Type 0
IsApartFrom dir (place.Root root) = root ≡ dir.at
IsApartFrom dir (place.Below b) = (b.entries ≡ dir.at) × (b.dir.number ≢ dir.number)

-- such a record may stand there
abbrev pub MayOwn : OwnAt → Record → Type 0
MayOwn (place.Root root) named = RootRecordHolds named
MayOwn (place.Below b) named = RecordHolds named

-- what making ready may take
abbrev pub blocks_for : OwnAt → ℕ
blocks_for (place.Root root) = 0
blocks_for (place.Below b) = 11

abbrev pub pins_for : OwnAt → ℕ
pins_for (place.Root root) = 0
pins_for (place.Below b) = 60

abbrev pub removals_for : OwnAt → ℕ
removals_for (place.Root root) = 0
removals_for (place.Below b) = 1637

-- ---- the bytes made ready

-- What is made ready may be put, a whole block: into a data block that is whole, pinned, live and of the current epoch, a leaf of records, or a root block from byte
-- 104 on.
pub record MayPutOwn (s : State) (r : ReadyOwn) : Type 0 where
  pub is_one : s.is_block r.at
  pub is_pinned : s.pinned r.at
  pub live : IsLive s r.at
  pub current : (s.label r.at).epoch ≡ s.high
  pub kind_is : ((r.from ≡ 0) × ((s.label r.at).kind ≡ Data 0)) ⊎ ((r.from ≡ 104) × ((s.label r.at).kind ≡ Root))
  pub whole : length ((s.now r.at).bytes) ≡ 8192
  pub long : length r.bytes ≡ 8192

-- it is for this root block; for a leaf of this directory's records
abbrev pub IsOfRoot : ℕ → ReadyOwn → Type 0
IsOfRoot root r = (r.at ≡ root) × (r.from ≡ 104)

abbrev pub IsOfLeaf : State → DirAt → ReadyOwn → Type 0
IsOfLeaf s d r = IsLeafOf d s r.at × (r.from ≡ 0)

abbrev pub IsBlockOf : State → OwnAt → ReadyOwn → Type 0
IsBlockOf s (place.Root root) r = IsOfRoot root r
IsBlockOf s (place.Below b) r = IsOfLeaf s b.dir r

-- These bytes are those of a root block with this record of its own.
pub record HasOwnRoot (s : State) (root : ℕ) (named : Record) (new : List ℕ) : Type 0 where
  pub old : List ℕ
  pub had : HasRoot s root old
  pub own : HasOwn named old new

-- These bytes are those of a leaf with this record in the place of the first of its name.
pub record HasOwnLeaf (named : Record) (old new : List ℕ) : Type 0 where
  pub was_leaf : IsLeaf old
  pub is_leaf : IsLeaf new
  pub changed : HasChanged named.name named old new

-- what is made ready is what its block has in memory, with this record
abbrev pub HasReady : State → OwnAt → Record → ReadyOwn → Type 0
HasReady s (place.Root root) named r = HasOwnRoot s root named r.bytes
HasReady s (place.Below b) named r = HasOwnLeaf named ((s.now r.at).bytes) r.bytes

-- ---- what making ready does

-- Leaf `leaf` was made ready, to which the record of this name moved as it is where it had to, and then read.
abbrev pub WasReadied : (B : Type 0) (state : B → State) (old new : B) → Below → (name : List ℕ) (leaf : ℕ) → Type 0
WasReadied B state old new b name leaf = (u : B) × MadeReady B state old u b.dir b.leaf b.spare leaf name × Looks (state u) (state new)

-- so it was; of a root block all was looked at
abbrev pub StepsTo : (B : Type 0) (state : B → State) (old new : B) → OwnAt → (name : List ℕ) (leaf : ℕ) → Type 0
StepsTo B state old new (place.Root root) name leaf = Looks (state old) (state new)
StepsTo B state old new (place.Below b) name leaf = WasReadied B state old new b name leaf

-- What stays, whatever is answered: leaves of the directory's records may be made ready, and a record may move between them.
abbrev pub AltersOwn : (B : Type 0) (state : B → State) (keeps : B → B → Type 0) (old new : B) → OwnAt → Type 0
AltersOwn B state keeps old new (place.Root root) = Looks (state old) (state new)
AltersOwn B state keeps old new (place.Below b) = (m : B) × AltersRecords b.dir (state old) (state m) × keeps old m × keeps m new × Rewrites (IsLeafOf b.dir (state m)) no_slot (state m) (state new)

-- What stays where it is refused: no leaf of records that was there has other bytes; or a leaf was made ready, and then read in vain.
abbrev pub LeavesBelow : (B : Type 0) (state : B → State) (old new : B) → Below → (name : List ℕ) → Type 0
LeavesBelow B state old new b name =
    ((m : B) × AltersRecords b.dir (state old) (state m) × Rewrites (λ x. ⊥) no_slot (state m) (state new))
    ⊎ ((leaf : ℕ) × WasReadied B state old new b name leaf)

abbrev pub LeavesOwn : (B : Type 0) (state : B → State) (old new : B) → OwnAt → (name : List ℕ) → Type 0
LeavesOwn B state old new (place.Root root) name = Looks (state old) (state new)
LeavesOwn B state old new (place.Below b) name = LeavesBelow B state old new b name

-- ---- what a put does

-- A root block got this record of its own, and keeps all else that spells one.
pub record ChangesRoot (s u : State) (root : ℕ) (named : Record) : Type 0 where
  pub old : List ℕ
  pub had : HasRoot s root old
  pub new : List ℕ
  pub has : HasRoot u root new
  pub own : HasOwn named old new

-- A directory's own record is this one then: in its root block, or in the leaf that has it.
abbrev pub ChangesOwn : (s u : State) → OwnAt → Record → (block : ℕ) → Type 0
ChangesOwn s u (place.Root root) named block = ChangesRoot s u root named
ChangesOwn s u (place.Below b) named block = HasChanged named.name named ((s.now block).bytes) ((u.now block).bytes)

-- the block that it is given to put into, which may be others then
abbrev pub block_of : OwnAt → ℕ
block_of (place.Root root) = root
block_of (place.Below b) = b.dir.at
