-- What two images show alike of a directory, and what differs after a change of one file.
use Rattle.std.specs.Prelude.{◌≡◌, ℕ, ◌+◌, ◌*◌, ◌%◌, ◌^◌, zero, suc, Bool, true, false, nat_eq, List, [], ◌∷◌, ◌++◌}
use Rattle.std.specs.List.{AllByRecursion}
use Rattle.std.specs.Str.{bytes_eq}
use Rattle.fo_image.specs.declared.record.Record.{Record}
use Rattle.fo_crash.specs.Images.{Image, Arena, Link, entry_of}
use Rattle.fo_world.specs.declared.tree.Node.{Node}
use Rattle.fo_world.specs.Names.{Stat}
use Rattle.fo_world.specs.Step.{is_dir_mode}
use Rattle.fo_good.specs.Reading.{dir_records, source_in, stat_in}
use Rattle.fo_files_world.specs.Spots.{Spot, spot_of, node_at}

abbrev pub OneOf : Bool → Type 0 → Type 0 → Type 0
OneOf true A B = A
OneOf false A B = B

-- The file of a record is the same in two images: its bytes, or what a directory shows, which the first argument says of its entries and
-- records in both.
abbrev pub SameFile : (Link → Link → Link → Link → Type 0) → Arena → Image → Image → Link → Link → Record → Type 0
SameFile same arena image other e e' r =
    OneOf (is_dir_mode r.mode)
    (same (entry_of arena image e (2 * r.slot)) (entry_of arena image e (2 * r.slot + 1)) (entry_of arena other e' (2 * r.slot)) (entry_of arena other e' (2 * r.slot + 1)))
    (source_in arena image (entry_of arena image e (2 * r.slot)) ≡ source_in arena other (entry_of arena other e' (2 * r.slot)))

-- A directory is the same in two images, down so many levels: it has the same records, and the file of each is the same.
abbrev pub SameDir : Arena → Image → Image → ℕ → Link → Link → Link → Link → Type 0
SameDir arena image other zero e m e' m' = Unit {0}
SameDir arena image other (suc n) e m e' m' =
    (dir_records arena image m ≡ dir_records arena other m') × AllByRecursion (SameFile (SameDir arena image other n) arena image other e e') (dir_records arena image m)

-- these records have not this name; they have not this number
abbrev pub LackName : List ℕ → List Record → Type 0
LackName name rs = AllByRecursion (λ q. bytes_eq q.name name ≡ false) rs

abbrev pub LackNumber : ℕ → List Record → Type 0
LackNumber k rs = AllByRecursion (λ q. nat_eq q.number k ≡ false) rs

-- In a directory one record was changed or moved, and keeps its name; the others are the same, in the same order, and so are their
-- files. It alone has its number and its name.
pub record ChangesOne (arena : Arena) (image other : Image) (n k : ℕ) (s t : Spot) (old new : Record) : Type 0 where
  pub before : List Record
  pub after : List Record
  pub front : List Record
  pub back : List Record
  pub was : dir_records arena image s.second ≡ before ++ old ∷ after
  pub is : dir_records arena other t.second ≡ front ++ new ∷ back
  pub rest : before ++ after ≡ front ++ back
  pub same : AllByRecursion (SameFile (SameDir arena image other n) arena image other s.first t.first) (before ++ after)
  pub name : new.name ≡ old.name
  pub number : nat_eq old.number k ≡ true
  pub alone : LackNumber k (before ++ after)
  pub apart : LackName old.name (before ++ after)

-- The file at the end of a trail became what a function makes of it, and all else stays: on the way each directory has one record
-- that may have changed.
pub data Changed (arena : Arena) (image other : Image) (f : Node → Node) : ℕ → List ℕ → Spot → Spot → Type 0 where
  here : (n : ℕ) (s t : Spot) → (node_at arena other n t).1 ≡ f ((node_at arena image n s).1) → Changed arena image other f n [] s t
  below : (n k : ℕ) (ks : List ℕ) (s t : Spot) (old new : Record) → s.dir ≡ true → t.dir ≡ true → stat_in s.named ≡ stat_in t.named
      → ChangesOne arena image other n k s t old new → Changed arena image other f n ks (spot_of arena image s.first old) (spot_of arena other t.first new)
      → Changed arena image other f (suc n) (k ∷ ks) s t

-- what is said of a directory after someone changed its names at a moment
abbrev pub touched_stat : List ℕ → ℕ → Stat → Stat
touched_stat who now s = record s { vers = (s.vers + 1) % 2 ^ 32; mtime = now; muid = who }

-- A record was added to a directory; none before it has its name, and the other records and their files are the same.
pub record AddsRecord (arena : Arena) (image other : Image) (n : ℕ) (s t : Spot) (new : Record) : Type 0 where
  pub front : List Record
  pub back : List Record
  pub was : dir_records arena image s.second ≡ front ++ back
  pub is : dir_records arena other t.second ≡ front ++ new ∷ back
  pub same : AllByRecursion (SameFile (SameDir arena image other n) arena image other s.first t.first) (front ++ back)
  pub apart : LackName new.name front

-- A record was taken out of a directory; no other has its name, and the other records and their files are the same.
pub record TakesRecord (arena : Arena) (image other : Image) (n : ℕ) (s t : Spot) (old : Record) : Type 0 where
  pub before : List Record
  pub after : List Record
  pub was : dir_records arena image s.second ≡ before ++ old ∷ after
  pub is : dir_records arena other t.second ≡ before ++ after
  pub same : AllByRecursion (SameFile (SameDir arena image other n) arena image other s.first t.first) (before ++ after)
  pub apart : LackName old.name (before ++ after)
