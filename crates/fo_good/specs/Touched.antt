-- Which files a change touches. A file is named by its file numbers from the root; it never leaves its directory.
use Rattle.std.specs.Prelude.{◌≡◌, ℕ, ◌+◌, Bool, true, false, not, ◌&&◌, ◌||◌, nat_eq, nat_lt, List, length, take, Option, Some, None}
use Rattle.std.specs.List.{list_any, range_with_len}
use Rattle.std.specs.Str.{bytes_eq}
use Rattle.fo_world.specs.declared.tree.Node.{Node}
use Rattle.fo_world.specs.declared.tree.Body.{Body}
use Rattle.fo_world.specs.declared.tree.Body.TheVariants.{File, Dir}
use Rattle.fo_world.specs.Tree.{along}
use Rattle.fo_world.specs.Dated.{slash}

-- A set of files. It tests, so that what quantifies over all of them stays small.
abbrev pub Files : Type 0
Files = List ℕ → Bool

-- the file at the end of a trail, with its name
abbrev pub file_at : Node → List ℕ → Option (List ℕ × Node)
file_at root trail = along trail (slash, root)

-- The bytes of two files are the same; of two directories nothing is asked.
abbrev pub same_bytes : Body → Body → Bool
same_bytes (File a) (File b) = bytes_eq a b
same_bytes (Dir a) (Dir b) = true
same_bytes (File a) (Dir b) = false
same_bytes (Dir a) (File b) = false

-- the fields of a stat record (stat(5) of the Plan 9 manual)
abbrev pub same_stat : Node → Node → Bool
same_stat a b = nat_eq a.number b.number && nat_eq a.vers b.vers && nat_eq a.mode b.mode && nat_eq a.atime b.atime && nat_eq a.mtime b.mtime && bytes_eq a.uid b.uid && bytes_eq a.gid b.gid && bytes_eq a.muid b.muid

-- the same name, stat fields and bytes
abbrev pub same_file : List ℕ × Node → List ℕ × Node → Bool
same_file f g = bytes_eq f.0 g.0 && same_stat f.1 g.1 && same_bytes f.1.body g.1.body

-- Both are there and are the same, or neither is there.
abbrev pub same_there : Option (List ℕ × Node) → Option (List ℕ × Node) → Bool
same_there None None = true
same_there (Some f) (Some g) = same_file f g
same_there None (Some g) = false
same_there (Some f) None = false

-- how long the texts of a file's record are
abbrev pub record_size : List ℕ × Node → ℕ
record_size f = length f.0 + length f.1.uid + length f.1.gid + length f.1.muid

abbrev pub is_longer : Option (List ℕ × Node) → Option (List ℕ × Node) → Bool
is_longer (Some f) (Some g) = nat_lt (record_size f) (record_size g)
is_longer None g = false
is_longer (Some f) None = false

-- A directory other than the root, above the file, gets a longer record.
abbrev pub is_below_longer : Node → Node → List ℕ → Bool
is_below_longer old new trail = list_any (λ n. is_longer (file_at old (take n trail)) (file_at new (take n trail)) && nat_lt n (length trail)) (range_with_len 1 (length trail))

-- A change from one tree to another touches a file where it differs in them, or is below a directory whose record gets longer, since
-- that record may then be for a moment in no leaf.
abbrev pub touched : Node → Node → Files
touched old new trail = not (same_there (file_at old trail) (file_at new trail)) || is_below_longer old new trail

abbrev pub either : Files → Files → Files
either a b trail = a trail || b trail

abbrev pub no_file : Files
no_file trail = false

-- Each file of one set is in another.
pub record AreAmong (fewer more : Files) : Type 0 where
  pub each : (trail : List ℕ) → fewer trail ≡ true → more trail ≡ true

-- Each file that is not stale is in both trees the same, or in neither: none is lost, and none that was removed is back.
pub record KeepsFiles (stale : Files) (root other : Node) : Type 0 where
  pub each : (trail : List ℕ) → stale trail ≡ false → same_there (file_at root trail) (file_at other trail) ≡ true
