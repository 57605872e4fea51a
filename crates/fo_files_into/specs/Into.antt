-- A file's data changed, and its record.
use Rattle.std.specs.Prelude.{◌≡◌, ◌⊎◌, ◌+◌, ◌-◌, ◌*◌, ℕ, List, length, get_or, max, Option, Some, None, IfSome}
use Rattle.fo_image.specs.declared.record.Record.{Record}
use Rattle.fo_image.specs.declared.types.Kind.{Kind}
use Rattle.fo_ports.specs.State.{State, Looks}
use Rattle.fo_dir_change.specs.Changes.{HasChanged}
use Rattle.fo_files_along.specs.of_files_at.declared.at.Step.{Step}
use Rattle.fo_files_along.specs.of_files_at.declared.at.Way.{Way}
use Rattle.fo_files_dir.specs.declared.dir.DirAt.{DirAt}
use Rattle.fo_files_dir.specs.declared.dir.FileAt.{FileAt}
use Rattle.fo_files_record.specs.Stays.{Rewrites, no_slot}
use Rattle.fo_files_ready.specs.of_files_change.Records.{AltersRecords}
use Rattle.fo_files_cut.specs.of_files_write.Alters.{Alters, any_kind, is_above}
use Rattle.fo_files_cut.specs.of_files_write.Data.{HasData, PutsPiece}
use Rattle.fo_files_cut.specs.Cut.{KeepsUse, CutsBy}
use Rattle.fo_files_along.specs.Along.{GoesAlong}
use Rattle.fo_files_ready.specs.Ready.{IsLeafOf, IsReadyFor, MadeReady}

-- A way was planned and owned, to a file whose record stands in the leaf that its last step names.
pub record OwnsFile (s u : State) (root : ℕ) (trail : List ℕ) (way : Way) : Type 0 where
  pub dir : DirAt
  pub file : FileAt
  pub above : Option DirAt
  pub along : GoesAlong s u root trail way dir file above
  pub last : Step
  pub last_is : last ≡ get_or way.steps.items (length trail - 1) last

-- A leaf was being made ready for a file's record, up to `ready`, and of the file's data blocks of these kinds were put into: the file has the length
-- that it had. Of leaves of records these alone may have other bytes.
pub record Leaves (B : Type 0) (state : B → State) (old ready new : B) (dir : DirAt) (file : FileAt) (kinds : Kind → Type 0) (changed : State → ℕ → Type 0) : Type 0 where
  pub owned : B
  pub readied : AltersRecords dir (state old) (state owned)
  pub moved : Rewrites (changed (state owned)) no_slot (state owned) (state ready)
  pub looked : B
  pub looks : Looks (state ready) (state looked)
  pub alters : Alters file.at file.slot (32 + 2 * file.number) kinds (state looked) (state new)
  pub stays : (generation size : ℕ) → HasData (state looked) file generation size → HasData (state new) file generation size

-- so it is where a write is refused: before the leaf was ready, with no record moved, or after; no leaf of data was put into
abbrev pub LeftBy : (B : Type 0) (state : B → State) (old new : B) (dir : DirAt) (file : FileAt) (i spare : ℕ) (name : List ℕ) → Type 0
LeftBy B state old new dir file i spare name =
    Leaves B state old new new dir file is_above (λ s b. ⊥)
    ⊎ ((ready : B) × (leaf : ℕ) × MadeReady B state old ready dir i spare leaf name × Leaves B state old ready new dir file is_above (IsLeafOf dir))

-- A leaf was made ready, then n bytes were put into the file's data at an offset, and last this record into the place of the one of its name.
pub record Puts (B : Type 0) (state : B → State) (old new : B) (dir : DirAt) (file : FileAt) (i spare : ℕ) (named : Record) (offset n : ℕ) : Type 0 where
  pub leaf : ℕ
  pub owned : B
  pub readied : AltersRecords dir (state old) (state owned)
  pub ready : B
  pub moved : Rewrites (IsLeafOf dir (state owned)) no_slot (state owned) (state ready)
  pub steps : MadeReady B state old ready dir i spare leaf named.name
  pub fits : IsReadyFor (state ready) dir leaf named.name named
  pub looked : B
  pub looks : Looks (state ready) (state looked)
  pub generation : ℕ
  pub size : ℕ
  pub was : HasData (state looked) file generation size
  pub trimmed : B
  pub trims : Alters file.at file.slot (32 + 2 * file.number) is_above (state looked) (state trimmed)
  pub written : B
  pub piece : PutsPiece (state trimmed) (state written) file offset n
  pub alters : Alters file.at file.slot (32 + 2 * file.number) any_kind (state looked) (state written)
  pub has : HasData (state new) file generation (max size (offset + n))
  pub changed : HasChanged named.name named (((state ready).now leaf).bytes) (((state new).now leaf).bytes)
  pub stays : Rewrites (λ b. b ≡ leaf) no_slot (state written) (state new)

-- A file got this length, where one is given; or nothing was done.
abbrev pub MayCut : (B : Type 0) (state : B → State) (old new : B) (file : FileAt) → Option ℕ → Type 0
MayCut B state old new file None = new ≡ old
MayCut B state old new file (Some n) = (new ≡ old) ⊎ CutsBy B state old new file n

-- A leaf was made ready, and then the file didn't get the length that is given.
pub record Uncut (B : Type 0) (state : B → State) (old ready new : B) (dir : DirAt) (file : FileAt) (given : Option ℕ) : Type 0 where
  pub leaves : Leaves B state old ready new dir file any_kind (IsLeafOf dir)
  pub cuts : MayCut B state leaves.looked new file given

-- so it is where a change is refused: before the leaf was ready, with no record moved, or after
abbrev pub UnchangedBy : (B : Type 0) (state : B → State) (old new : B) (dir : DirAt) (file : FileAt) (i spare : ℕ) (name : List ℕ) → Option ℕ → Type 0
UnchangedBy B state old new dir file i spare name given =
    Leaves B state old new new dir file is_above (λ s b. ⊥)
    ⊎ ((ready : B) × (leaf : ℕ) × MadeReady B state old ready dir i spare leaf name × Uncut B state old ready new dir file given)

-- A leaf was made ready, then the file got the length that is given, and last this record came into the place of the first of the name.
pub record Edits (B : Type 0) (state : B → State) (old new : B) (dir : DirAt) (file : FileAt) (i spare : ℕ) (name : List ℕ) (named : Record) (given : Option ℕ) : Type 0 where
  pub leaf : ℕ
  pub owned : B
  pub readied : AltersRecords dir (state old) (state owned)
  pub ready : B
  pub moved : Rewrites (IsLeafOf dir (state owned)) no_slot (state owned) (state ready)
  pub steps : MadeReady B state old ready dir i spare leaf name
  pub fits : IsReadyFor (state ready) dir leaf name named
  pub looked : B
  pub looks : Looks (state ready) (state looked)
  pub cut : B
  pub cuts : MayCut B state looked cut file given
  pub alters : Alters file.at file.slot (32 + 2 * file.number) any_kind (state looked) (state cut)
  pub uses : KeepsUse (state looked) (state new) file.at file.slot
  pub sized : IfSome given (λ n. (generation : ℕ) × HasData (state new) file generation n)
  pub changed : HasChanged name named (((state ready).now leaf).bytes) (((state new).now leaf).bytes)
  pub stays : Rewrites (λ b. b ≡ leaf) no_slot (state cut) (state new)
