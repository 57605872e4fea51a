-- Nodes, and what a trail of file numbers leads to.
use Rattle.std.specs.Prelude.{ℕ, ◌+◌, ◌-◌, ◌%◌, ◌^◌, List, [], ◌∷◌, length, take, slice_index, Bool, true, false, nat_eq, nat_lt, Option, Some, None, option_and_then, if◌then◌else◌}
use Rattle.std.specs.Str.{bytes_eq}
use Rattle.std.specs.Ordering.{nat_cmp, is_lt}
use Rattle.std.specs.Cmp.Lexicographic.{slice_cmp}
use Rattle.fo_sparse.specs.Written.{written, resized}
use Rattle.fo_world.specs.declared.tree.Node.{Node}
use Rattle.fo_world.specs.declared.tree.Body.{Body}
use Rattle.fo_world.specs.declared.tree.Body.TheVariants.{File, Dir}
use Rattle.fo_world.specs.Names.{Stat, Names, no_names, file, folder}

-- what is said of a node beside its body
abbrev pub stat_of : Node → Stat
stat_of n = record { number = n.number; vers = n.vers; mode = n.mode; atime = n.atime; mtime = n.mtime; uid = n.uid; gid = n.gid; muid = n.muid }

abbrev pub node_of : Stat → Body → Node
node_of s body = record { number = s.number; vers = s.vers; mode = s.mode; atime = s.atime; mtime = s.mtime; uid = s.uid; gid = s.gid; muid = s.muid; body = body }

-- a name with its node, before the others
abbrev pub and_body : List ℕ → Stat → Body → Names → Names
and_body name stat (File bytes) rest = file name stat bytes rest
and_body name stat (Dir inside) rest = folder name stat inside rest

abbrev pub and_node : List ℕ → Node → Names → Names
and_node name node rest = and_body name (stat_of node) node.body rest

-- the pairs that a directory keeps
abbrev pub names_of : List (List ℕ × Node) → Names
names_of [] = no_names
names_of (p ∷ ps) = and_node p.0 p.1 (names_of ps)

-- the first that passes a test on its name and its number, with its name
abbrev pub first : (List ℕ → ℕ → Bool) → Names → Option (List ℕ × Node)
first p no_names = None
first p (file name stat bytes rest) = if p name stat.number then Some (name, node_of stat (File bytes)) else first p rest
first p (folder name stat inside rest) = if p name stat.number then Some (name, node_of stat (Dir inside)) else first p rest

-- what a name stands for
abbrev pub named : List ℕ → Names → Option (List ℕ × Node)
named name = first (λ other _. bytes_eq other name)

-- the file with this number, directly below
abbrev pub child : ℕ → Body → Option (List ℕ × Node)
child k (File bytes) = None
child k (Dir names) = first (λ _ number. nat_eq number k) names

-- where a trail of file numbers leads to from a node that has a name
abbrev pub along : List ℕ → List ℕ × Node → Option (List ℕ × Node)
along [] from = Some from
along (k ∷ ks) from = option_and_then (along ks) (child k from.1.body)

-- a file's length; a directory has none (stat(5))
abbrev pub length_of : Body → ℕ
length_of (File bytes) = length bytes
length_of (Dir names) = 0

-- how many names there are
abbrev pub name_count : Names → ℕ
name_count no_names = 0
name_count (file name stat bytes rest) = name_count rest + 1
name_count (folder name stat inside rest) = name_count rest + 1

abbrev pub has_names : Body → Bool
has_names (File bytes) = false
has_names (Dir names) = nat_lt 0 (name_count names)

abbrev pub is_dir : Body → Bool
is_dir (File bytes) = false
is_dir (Dir names) = true

-- the trail of the directory that holds a file, and the file's number
abbrev pub front : List ℕ → List ℕ
front trail = take (length trail - 1) trail

abbrev pub last : List ℕ → ℕ
last trail = slice_index trail (length trail - 1)

-- names in the order of their bytes
abbrev pub comes_before : List ℕ → List ℕ → Bool
comes_before a b = is_lt (slice_cmp nat_cmp a b)

-- ---- changes of names

-- the names with one more, before the first that comes after it
abbrev pub put_name : List ℕ → Node → Names → Names
put_name k n no_names = and_node k n no_names
put_name k n (file name stat bytes rest) = if comes_before k name then and_node k n (file name stat bytes rest) else file name stat bytes (put_name k n rest)
put_name k n (folder name stat inside rest) = if comes_before k name then and_node k n (folder name stat inside rest) else folder name stat inside (put_name k n rest)

-- the names without this one
abbrev pub without : List ℕ → Names → Names
without k no_names = no_names
without k (file name stat bytes rest) = if bytes_eq name k then rest else file name stat bytes (without k rest)
without k (folder name stat inside rest) = if bytes_eq name k then rest else folder name stat inside (without k rest)

-- the names with the first file of this number changed
abbrev pub change_first : ℕ → (Node → Node) → Names → Names
change_first k f no_names = no_names
change_first k f (file name stat bytes rest) = if nat_eq stat.number k then and_node name (f (node_of stat (File bytes))) rest else file name stat bytes (change_first k f rest)
change_first k f (folder name stat inside rest) = if nat_eq stat.number k then and_node name (f (node_of stat (Dir inside))) rest else folder name stat inside (change_first k f rest)

-- the names with a file changed and under another name
abbrev pub rename_found : List ℕ → List ℕ → (Node → Node) → Names → Option (List ℕ × Node) → Names
rename_found old name f names None = names
rename_found old name f names (Some g) = put_name name (f g.1) (without old names)

abbrev pub rename : List ℕ → List ℕ → (Node → Node) → Names → Names
rename old name f names = rename_found old name f names (named old names)

-- ---- changes of nodes

-- the names of a directory changed
abbrev pub change_names : (Names → Names) → Body → Body
change_names f (File bytes) = File bytes
change_names f (Dir names) = Dir (f names)

-- the bytes of a file changed
abbrev pub change_bytes : (List ℕ → List ℕ) → Body → Body
change_bytes f (File bytes) = File (f bytes)
change_bytes f (Dir names) = Dir names

-- the tree with the node changed that a trail leads to
abbrev pub change_along : List ℕ → (Node → Node) → Node → Node
change_along [] f node = f node
change_along (k ∷ ks) f node = record node { body = change_names (change_first k (change_along ks f)) node.body }

-- the node after someone changed its bytes or its names at a moment (stat(5)); vers wraps at 2^32
abbrev pub touched : List ℕ → ℕ → Node → Node
touched who now node = record node { vers = (node.vers + 1) % 2 ^ 32; mtime = now; muid = who }

-- a file after a write
abbrev pub with_bytes : ℕ → List ℕ → List ℕ → ℕ → Node → Node
with_bytes offset bytes who now node = touched who now (record node { body = change_bytes (λ old. written old offset bytes) node.body })

-- a directory after a name was added, taken out, or changed
abbrev pub with_name : List ℕ → Node → List ℕ → ℕ → Node → Node
with_name name new who now node = touched who now (record node { body = change_names (put_name name new) node.body })

abbrev pub without_name : List ℕ → List ℕ → ℕ → Node → Node
without_name name who now node = touched who now (record node { body = change_names (without name) node.body })

abbrev pub with_renamed : List ℕ → List ℕ → (Node → Node) → List ℕ → ℕ → Node → Node
with_renamed old name f who now node = touched who now (record node { body = change_names (rename old name f) node.body })

-- a node with the fields that are given
abbrev pub with_length : Option ℕ → List ℕ → ℕ → Node → Node
with_length None who now node = node
with_length (Some n) who now node = if is_dir node.body then node else touched who now (record node { body = change_bytes (λ old. resized old n) node.body })

abbrev pub with_mode : Option ℕ → Node → Node
with_mode None node = node
with_mode (Some mode) node = record node { mode = mode }

abbrev pub with_gid : Option (List ℕ) → Node → Node
with_gid None node = node
with_gid (Some gid) node = record node { gid = gid }

abbrev pub with_mtime : Option ℕ → Node → Node
with_mtime None node = node
with_mtime (Some mtime) node = record node { mtime = mtime }
