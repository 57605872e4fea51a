-- A file that was found is changed, but for its name.
use Rattle.std.specs.Prelude.{◌⊎◌, ℕ, List, [], Option, codes}
use Rattle.fo_image.specs.declared.record.Record.{Record}
use Rattle.fo_ports.specs.State.{State, Looks}
use Rattle.fo_files_into.specs.of_files_at.declared.at.Way.{Way}
use Rattle.fo_files_dir.specs.declared.dir.DirAt.{DirAt}
use Rattle.fo_files_record.specs.Own.{PutsOwn}
use Rattle.fo_files_into.specs.of_files_along.Along.{GoesToDir}
use Rattle.fo_files_into.specs.Into.{OwnsFile, Edits, UnchangedBy}

-- The way was owned, and then the file at its end changed: it got the length that is given, where one is, and then the record that the way has, in the
-- place of the one of this name.
pub record EditsFile (B : Type 0) (state : B → State) (old new : B) (root : ℕ) (trail : List ℕ) (way : Way) (name : List ℕ) (given : Option ℕ) : Type 0 where
  pub looked : B
  pub looks : Looks (state old) (state looked)
  pub owned : B
  pub owns : OwnsFile (state looked) (state owned) root trail way
  pub spare : ℕ
  pub edits : Edits B state owned new owns.dir owns.file owns.last.leaf spare name way.file.named given

-- The way was owned, and then a refusal left this.
pub record StaysFile (B : Type 0) (state : B → State) (old new : B) (root : ℕ) (trail : List ℕ) (way : Way) (name : List ℕ) (given : Option ℕ) : Type 0 where
  pub looked : B
  pub looks : Looks (state old) (state looked)
  pub owned : B
  pub owns : OwnsFile (state looked) (state owned) root trail way
  pub spare : ℕ
  pub left : UnchangedBy B state owned new owns.dir owns.file owns.last.leaf spare name given

-- so it is where all was only looked at, too
abbrev pub IsLeft : (B : Type 0) (state : B → State) (old new : B) (root : ℕ) (trail : List ℕ) → Way → List ℕ → Option ℕ → Type 0
IsLeft B state old new root trail way name given = Looks (state old) (state new) ⊎ StaysFile B state old new root trail way name given

-- a record as a root block has it
abbrev pub as_root : Record → Record
as_root r = record r { name = codes "/"; number = 0; slot = 0; generation = 0 }

-- The root block was owned, as the way to the root directory.
pub record OwnsRoot (s u : State) (root : ℕ) (way : Way) : Type 0 where
  pub dir : DirAt
  pub above : Option DirAt
  pub goes : GoesToDir s u root [] way dir above

-- So it was, and then the root directory got the record of the way.
pub record EditsRoot (B : Type 0) (state : B → State) (old new : B) (root : ℕ) (way : Way) : Type 0 where
  pub looked : B
  pub looks : Looks (state old) (state looked)
  pub owned : B
  pub owns : OwnsRoot (state looked) (state owned) root way
  pub read : B
  pub puts : PutsOwn (state owned) (state read) (state new) root (as_root way.file.named)

-- all was only looked at, or the root block was owned besides
abbrev pub RootLeft : (B : Type 0) (state : B → State) (old new : B) (root : ℕ) → Way → Type 0
RootLeft B state old new root way = Looks (state old) (state new) ⊎ ((looked owned : B) × Looks (state old) (state looked) × OwnsRoot (state looked) (state owned) root way × Looks (state owned) (state new))
