-- The plain tree that an image shows below a root block: a directory's names are its records, a file's bytes are those of its source
-- (fossil(4) of the Plan 9 manual). It is a function, so that a state of files can be read off its memory; over an image that is not
-- sound it gives some tree whose names and users are within the limits.
use Rattle.std.specs.Prelude.{ℕ, ◌+◌, ◌*◌, ◌/◌, zero, suc, Bool, ◌&&◌, nat_le, nat_lt, List, [], ◌∷◌, length, map, take, drop, codes, ◌^◌, if◌then◌else◌}
use Rattle.std.specs.List.{flat_map, filter, range_with_len}
use Rattle.fo_world.specs.of_base.Text.{is_text}
use Rattle.fo_image.specs.declared.record.Record.{Record}
use Rattle.fo_image.specs.Field.{One, Two, Four, number_at}
use Rattle.fo_crash.specs.Images.{Image, Arena, Link, step, bytes_at, leaf_path, entry_of, source_byte, from_block}
use Rattle.fo_world.specs.declared.tree.Node.{Node}
use Rattle.fo_world.specs.declared.tree.Tree.{Tree}
use Rattle.fo_world.specs.declared.tree.Body.{Body}
use Rattle.fo_world.specs.declared.tree.Body.TheVariants.{File, Dir}
use Rattle.fo_world.specs.Names.{Stat, Names, no_names}
use Rattle.fo_world.specs.Tree.{node_of, put_name}
use Rattle.fo_world.specs.Step.{is_dir_mode}
use Rattle.fo_good.specs.Trees.{size_of}

-- ---- records

-- a text with its length before it, and what comes after it
abbrev pub text_at : List ℕ → List ℕ
text_at bytes = take (number_at One 0 bytes) (drop 1 bytes)

abbrev pub after_text : List ℕ → List ℕ
after_text bytes = drop (1 + number_at One 0 bytes) bytes

-- the record at the front of these bytes
abbrev pub record_at : List ℕ → Record
record_at bytes = record {
  name = text_at (drop 30 bytes);
  number = number_at Four 2 bytes;
  slot = number_at Four 6 bytes;
  generation = number_at Four 10 bytes;
  vers = number_at Four 14 bytes;
  mode = number_at Four 18 bytes;
  atime = number_at Four 22 bytes;
  mtime = number_at Four 26 bytes;
  uid = text_at (after_text (drop 30 bytes));
  gid = text_at (after_text (after_text (drop 30 bytes)));
  muid = text_at (after_text (after_text (after_text (drop 30 bytes))));
}

-- texts within the limits
abbrev pub is_text_within : ℕ → List ℕ → Bool
is_text_within limit bytes = nat_lt 0 (length bytes) && nat_le (length bytes) limit && is_text bytes

abbrev pub is_allowed : Record → Bool
is_allowed r = is_text_within 255 r.name && is_text_within 64 r.uid && is_text_within 64 r.gid && is_text_within 64 r.muid

-- so many records, one after the other
abbrev pub records_from : ℕ → List ℕ → List Record
records_from zero bytes = []
records_from (suc n) bytes = record_at bytes ∷ records_from n (drop (number_at Two 0 bytes) bytes)

-- the records of a leaf
abbrev pub leaf_records : List ℕ → List Record
leaf_records leaf = filter is_allowed (records_from (number_at Two 0 leaf) (drop 4 leaf))

-- how many leaves lie within so many bytes
abbrev pub leaves_in : ℕ → ℕ
leaves_in size = (size + 8191) / 8192

-- the records of a directory, leaf by leaf, within the size of their source
abbrev pub dir_records : Arena → Image → Link → List Record
dir_records arena image meta = flat_map (λ k. leaf_records (bytes_at arena image meta (leaf_path meta.slot k))) (range_with_len 0 (leaves_in (size_of meta.slot)))

-- ---- trees

abbrev pub stat_in : Record → Stat
stat_in r = record { number = r.number; vers = r.vers; mode = r.mode; atime = r.atime; mtime = r.mtime; uid = r.uid; gid = r.gid; muid = r.muid }

-- the bytes of a source
abbrev pub source_in : Arena → Image → Link → List ℕ
source_in arena image w = map (λ j. source_byte arena image w j) (range_with_len 0 (size_of w.slot))

-- what a record's slot pair holds, by what is read in a directory below
abbrev pub body_in : (Link → Link → Names) → Arena → Image → Link → Record → Body
body_in names arena image entries r =
    if is_dir_mode r.mode then Dir (names (entry_of arena image entries (2 * r.slot)) (entry_of arena image entries (2 * r.slot + 1)))
    else File (source_in arena image (entry_of arena image entries (2 * r.slot)))

-- the records as names, in ascending order
abbrev pub names_in : (Link → Link → Names) → Arena → Image → Link → List Record → Names
names_in names arena image entries [] = no_names
names_in names arena image entries (r ∷ rs) = put_name r.name (node_of (stat_in r) (body_in names arena image entries r)) (names_in names arena image entries rs)

-- the names of a directory, with at most so many levels of directories
unfoldable pub dir_in : ℕ → Arena → Image → Link → Link → Names
dir_in zero arena image entries meta = no_names
dir_in (suc levels) arena image entries meta = names_in (dir_in levels arena image) arena image entries (dir_records arena image meta)

-- directories of depth 0 to 64
abbrev pub levels : ℕ
levels = 65

-- the record of a root directory where none stands that is within the limits
abbrev pub no_record : Record
no_record = record { name = codes "/"; number = 0; slot = 0; generation = 0; vers = 0; mode = 2 ^ 31; atime = 0; mtime = 0; uid = codes "adm"; gid = codes "adm"; muid = codes "adm" }

-- the root directory's own record, from byte 104 of its block on
abbrev pub own_record : List ℕ → Record
own_record block = if is_allowed (record_at (drop 104 block)) then record_at (drop 104 block) else no_record

abbrev pub root_node : Arena → Image → ℕ → Node
root_node arena image at = node_of (stat_in (own_record ((image at).bytes))) (Dir (dir_in levels arena image (step arena image (from_block at) 0) (step arena image (from_block at) 1)))

-- the tree of the root block at this address
abbrev pub tree_of : Arena → Image → ℕ → Tree
tree_of arena image at = record { root = root_node arena image at }
