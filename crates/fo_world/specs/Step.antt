-- The file step: what each call on files answers in a plain world, and the world after it (section 5 of the Plan 9 manual; fossil(4)).
use Rattle.std.specs.Prelude.{ℕ, ◌+◌, ◌-◌, ◌*◌, ◌/◌, ◌^◌, ◌<◌, ⊤, List, [], ◌∷◌, ◌++◌, length, take, drop, Bool, true, false, not, ◌&&◌, ◌||◌, nat_eq, nat_lt, nat_le, Option, Some, None, is_some, is_none, option_and_then, Result, Ok, Err, if◌then◌else◌}
use Rattle.std.specs.Str.{bytes_eq}
use Rattle.std.specs.Option.{ok_or, option_map, option_map_or}
use Rattle.fo_world.specs.declared.tree.Node.{Node}
use Rattle.fo_world.specs.declared.place.View.{View}
use Rattle.fo_world.specs.declared.place.View.TheVariants.{Active, Snap, Archive, Dated}
use Rattle.fo_world.specs.declared.place.Place.{Place}
use Rattle.fo_world.specs.declared.place.Info.{Info}
use Rattle.fo_world.specs.declared.place.Change.{Change}
use Rattle.fo_world.specs.declared.tree.Body.{Body}
use Rattle.fo_world.specs.declared.tree.Body.TheVariants.{File, Dir}
use Rattle.fo_world.specs.declared.error.FileError.{FileError}
use Rattle.fo_world.specs.declared.error.FileError.TheVariants as error
use Rattle.fo_world.specs.Chain.{and_then, refuse_if}
use Rattle.fo_world.specs.Names.{Names, no_names}
use Rattle.fo_world.specs.Date.{date_of, monthday_of}
use Rattle.fo_world.specs.Tree.{first, named, along, length_of, front, comes_before, name_count, has_names, is_dir, change_along, with_bytes, with_name, without_name, with_renamed, with_length, with_mode, with_gid, with_mtime}
use Rattle.fo_world.specs.World as plain
use Rattle.fo_world.specs.World.{World}
use Rattle.fo_world.specs.Dated.{Taken, taken_of, taken_at, dated_name, dated_dir_name, dated_node, is_dated, is_listed, entry_name, slash}

-- ---- places

abbrev pub snap_at : ℕ → List plain.Snap → Option Node
snap_at e [] = None
snap_at e (s ∷ rest) = if nat_eq s.epoch e then Some s.tree.root else snap_at e rest

abbrev pub archive_at : ℕ → List plain.Archive → Option Node
archive_at e [] = None
archive_at e (a ∷ rest) = if nat_eq a.epoch e then Some a.tree.root else archive_at e rest

abbrev pub dated_root : World → Bool → ℕ → ℕ → Option Node
dated_root w archive year monthday = if is_dated (taken_of archive w) year monthday then Some (dated_node year monthday) else None

-- the root of a view, where it is there
abbrev pub root_of : World → View → Option Node
root_of w Active = Some w.active.root
root_of w (Snap e) = snap_at e w.snaps
root_of w (Archive e) = archive_at e w.archives
root_of w (Dated archive year monthday) = dated_root w archive year monthday

-- the dated name of the archive or the snapshot of an epoch
abbrev pub taken_name : World → Bool → ℕ → List ℕ
taken_name w archive e = option_map_or (dated_name (taken_of archive w)) (taken_at e (taken_of archive w)) slash

-- The name of the root of a view: a snapshot or an archive has its dated name where dated directories are served, else `/`.
abbrev pub root_name : Bool → World → View → List ℕ
root_name whole w Active = slash
root_name whole w (Snap e) = if whole then taken_name w false e else slash
root_name whole w (Archive e) = if whole then taken_name w true e else slash
root_name whole w (Dated archive year monthday) = dated_dir_name year monthday

-- the file at a place, with its name
abbrev pub reached_from : List ℕ → Option Node → List ℕ → Result (List ℕ × Node) FileError
reached_from name root trail = ok_or (option_and_then (λ node. along trail (name, node)) root) error.Gone

abbrev pub reached : Bool → World → Place → Result (List ℕ × Node) FileError
reached whole w at = reached_from (root_name whole w at.view) (root_of w at.view) at.trail

-- The qid path of a file of a view: its number, with the epoch above it in a snapshot, and bit 63 in all that belongs to archives.
abbrev pub path_of : View → ℕ → ℕ
path_of Active number = number
path_of (Snap e) number = e * 2 ^ 32 + number
path_of (Archive e) number = 2 ^ 63 + e * 2 ^ 32 + number
path_of (Dated archive year monthday) number = (if archive then 2 ^ 63 else 0) + number

-- an epoch is below 2^31
abbrev pub HasEpoch : View → Type 0
HasEpoch Active = ⊤
HasEpoch (Snap e) = e < 2 ^ 31
HasEpoch (Archive e) = e < 2 ^ 31
HasEpoch (Dated archive year monthday) = ⊤

-- what is told of a file that has a name
abbrev pub info_of : Place → List ℕ × Node → Info
info_of at f = record { place = at; name = f.0; path = path_of at.view f.1.number; vers = f.1.vers; mode = f.1.mode; atime = f.1.atime; mtime = f.1.mtime; length = length_of f.1.body; uid = f.1.uid; gid = f.1.gid; muid = f.1.muid }

-- ---- kinds and views

abbrev pub as_dir : Body → Result Names FileError
as_dir (File bytes) = Err error.NotDir
as_dir (Dir names) = Ok names

abbrev pub as_file : Body → Result (List ℕ) FileError
as_file (File bytes) = Ok bytes
as_file (Dir names) = Err error.IsDir

abbrev pub is_active : View → Bool
is_active Active = true
is_active (Snap e) = false
is_active (Archive e) = false
is_active (Dated archive year monthday) = false

-- something for the trees, and something else for dated directories
abbrev pub by_view : {A : Type 0} → View → A → (Bool → ℕ → ℕ → A) → A
by_view Active tree dated = tree
by_view (Snap e) tree dated = tree
by_view (Archive e) tree dated = tree
by_view (Dated archive year monthday) tree dated = dated archive year monthday

-- the root of a view
abbrev pub root_at : View → Place
root_at view = record { view = view; trail = [] }

-- the place of a file directly below
abbrev pub below : Place → ℕ → Place
below at number = record { view = at.view; trail = at.trail ++ number ∷ [] }

-- the view that an entry of a dated directory leads to
abbrev pub entry_view : Bool → ℕ → ℕ → Taken → View
entry_view archive year monthday t =
    if nat_eq year 0 then Dated archive (date_of t.time).year 0
    else (if nat_eq monthday 0 then Dated archive year (monthday_of (date_of t.time))
    else (if archive then Archive t.epoch else Snap t.epoch))

-- what a dated directory lists, of some of those that were taken: names, with the views that they lead to
abbrev pub dated_entries : Bool → ℕ → ℕ → List Taken → List Taken → List (List ℕ × View)
dated_entries archive year monthday all [] = []
dated_entries archive year monthday all (t ∷ rest) =
    if is_listed year monthday t then (entry_name year monthday all t, entry_view archive year monthday t) ∷ dated_entries archive year monthday all rest
    else dated_entries archive year monthday all rest

abbrev pub entries_of : World → Bool → ℕ → ℕ → List (List ℕ × View)
entries_of w archive year monthday = dated_entries archive year monthday (taken_of archive w) (taken_of archive w)

-- the first entry with a name
abbrev pub entry_named : List ℕ → List (List ℕ × View) → Option View
entry_named name [] = None
entry_named name (e ∷ es) = if bytes_eq e.0 name then Some e.1 else entry_named name es

-- a name comes after the one given, or none is given
abbrev pub is_above : Option (List ℕ) → List ℕ → Bool
is_above None name = true
is_above (Some after) name = comes_before after name

-- the one with the lesser name, of an entry and of the best before it
abbrev pub lesser : List ℕ × View → Option (List ℕ × View) → Option (List ℕ × View)
lesser e None = Some e
lesser e (Some best) = if comes_before e.0 best.0 then Some e else Some best

abbrev pub least_from : Option (List ℕ) → Option (List ℕ × View) → List (List ℕ × View) → Option (List ℕ × View)
least_from after best [] = best
least_from after best (e ∷ es) = least_from after (if is_above after e.0 then lesser e best else best) es

-- the view of the entry with the least name above
abbrev pub least_above : Option (List ℕ) → List (List ℕ × View) → Option View
least_above after es = option_map (λ e. e.1) (least_from after None es)

-- the least name above, in a directory's names, which ascend
abbrev pub next_above : Option (List ℕ) → Names → Option (List ℕ × Node)
next_above after = first (λ name _. is_above after name)

-- The place of the directory above. The roots of the active tree and of the dated names are their own parents. A snapshot or an archive stands in the directory that has its dated name, where dated directories are served; else its root is its own parent.
abbrev pub dated_parent : Bool → View → Option Taken → View
dated_parent archive view None = view
dated_parent archive view (Some t) = Dated archive (date_of t.time).year (monthday_of (date_of t.time))

abbrev pub view_above : Bool → World → View → View
view_above whole w Active = Active
view_above whole w (Snap e) = if whole then dated_parent false (Snap e) (taken_at e (taken_of false w)) else Snap e
view_above whole w (Archive e) = if whole then dated_parent true (Archive e) (taken_at e (taken_of true w)) else Archive e
view_above whole w (Dated archive year monthday) = if nat_eq monthday 0 then Dated archive 0 0 else Dated archive year 0

abbrev pub above : Bool → World → Place → Place
above whole w at = if nat_eq (length at.trail) 0 then root_at (view_above whole w at.view) else record { view = at.view; trail = front at.trail }

-- the world with another active tree
abbrev pub with_active : World → Node → World
with_active w root = record w { active = record { root = root } }

-- ---- the calls that look, for an implementer that answers for all views (`whole`) or for one tree alone

-- `info`: what is told of the file at a place
abbrev pub info : Bool → World → Place → Result (Info × World) FileError
info whole w at = and_then (reached whole w at) (λ f. Ok (info_of at f, w))

-- `find`: what is told of the file with a name in a directory
abbrev pub file_found : World → Place → Option (List ℕ × Node) → Result (Info × World) FileError
file_found w at None = Err error.Absent
file_found w at (Some g) = Ok (info_of (below at g.1.number) g, w)

abbrev pub view_found : Bool → World → Option View → Result (Info × World) FileError
view_found whole w None = Err error.Absent
view_found whole w (Some view) = info whole w (root_at view)

unfoldable pub find : Bool → World → Place → List ℕ → Result (Info × World) FileError
find whole w at name =
    and_then (reached whole w at) (λ f. and_then (as_dir f.1.body) (λ names.
    by_view at.view (file_found w at (named name names)) (λ archive year monthday. view_found whole w (entry_named name (entries_of w archive year monthday)))))

-- `parent`: what is told of the directory above
unfoldable pub parent : Bool → World → Place → Result (Info × World) FileError
parent whole w at = and_then (reached whole w at) (λ f. info whole w (above whole w at))

-- `next_name`: what is told of the file with the least name above the one given, or the least of all
abbrev pub next_found : World → Place → Option (List ℕ × Node) → Result (Option Info × World) FileError
next_found w at None = Ok (None, w)
next_found w at (Some g) = Ok (Some (info_of (below at g.1.number) g), w)

abbrev pub next_view_found : Bool → World → Option View → Result (Option Info × World) FileError
next_view_found whole w None = Ok (None, w)
next_view_found whole w (Some view) = and_then (info whole w (root_at view)) (λ i. Ok (Some i.0, w))

unfoldable pub next_name : Bool → World → Place → Option (List ℕ) → Result (Option Info × World) FileError
next_name whole w at after =
    and_then (reached whole w at) (λ f. and_then (as_dir f.1.body) (λ names.
    by_view at.view (next_found w at (next_above after names)) (λ archive year monthday. next_view_found whole w (least_above after (entries_of w archive year monthday)))))

-- `read`: the bytes of a file from an offset on, as many as are asked for and exist (read(5))
unfoldable pub read : Bool → World → Place → ℕ → ℕ → Result (List ℕ × World) FileError
read whole w at offset count =
    and_then (reached whole w at) (λ f. and_then (as_file f.1.body) (λ bytes. Ok (take count (drop offset bytes), w)))

-- ---- the calls that change, by someone at a moment

abbrev pub after_write : World → Place → ℕ → List ℕ → List ℕ → ℕ → World
after_write w at offset bytes who now = with_active w (change_along at.trail (with_bytes offset bytes who now) w.active.root)

-- `write`: bytes at an offset of a file (write(5)); a write of none changes nothing
unfoldable pub write : Bool → ℕ → World → Place → ℕ → List ℕ → List ℕ → ℕ → Result (Unit {0} × World) FileError
write whole largest w at offset bytes who now =
    and_then (reached whole w at) (λ f. and_then (as_file f.1.body) (λ old.
    refuse_if (not (is_active at.view)) error.ReadOnly (
    if nat_eq (length bytes) 0 then Ok (tt, w) else (
    refuse_if (nat_lt largest (offset + length bytes)) error.TooBig (
    refuse_if w.halted error.Halted (
    Ok (tt, after_write w at offset bytes who now)))))))

-- the mode has DMDIR, bit 31 (stat(5))
abbrev pub is_dir_mode : ℕ → Bool
is_dir_mode mode = nat_le (2 ^ 31) mode

abbrev pub new_body : ℕ → Body
new_body mode = if is_dir_mode mode then Dir no_names else File []

abbrev pub new_node : ℕ → ℕ → List ℕ → List ℕ → List ℕ → ℕ → Node
new_node number mode who uid gid now = record { number = number; vers = 0; mode = mode; atime = now; mtime = now; uid = uid; gid = gid; muid = who; body = new_body mode }

abbrev pub after_create : World → Place → List ℕ → ℕ → List ℕ → List ℕ → List ℕ → ℕ → Info × World
after_create w at name mode who uid gid now = (
  info_of (below at w.next) (name, new_node w.next mode who uid gid now),
  record w { active = record { root = change_along at.trail (with_name name (new_node w.next mode who uid gid now) who now) w.active.root }; next = w.next + 1 },
)

-- `create`: a new file or directory in a directory (open(5))
unfoldable pub create : Bool → World → Place → List ℕ → ℕ → List ℕ → List ℕ → List ℕ → ℕ → Result (Info × World) FileError
create whole w at name mode who uid gid now =
    and_then (reached whole w at) (λ f. and_then (as_dir f.1.body) (λ names.
    refuse_if (not (is_active at.view)) error.ReadOnly (
    refuse_if (is_some (named name names)) error.Exists (
    refuse_if w.halted error.Halted (
    refuse_if (is_dir_mode mode && nat_le 64 (length at.trail)) error.TooDeep (
    refuse_if (nat_le (2 ^ 20) (name_count names)) error.DirFull (
    refuse_if (nat_le (2 ^ 30) w.next) error.NoNumbers (
    Ok (after_create w at name mode who uid gid now)))))))))

abbrev pub after_remove : World → Place → List ℕ → List ℕ → ℕ → World
after_remove w at name who now = with_active w (change_along (front at.trail) (without_name name who now) w.active.root)

-- `remove`: takes a file or an empty directory out of its directory (remove(5)); not for a root
unfoldable pub remove : Bool → World → Place → List ℕ → ℕ → Result (Unit {0} × World) FileError
remove whole w at who now =
    and_then (reached whole w at) (λ f.
    refuse_if (not (is_active at.view)) error.ReadOnly (
    refuse_if (has_names f.1.body) error.NotEmpty (
    refuse_if w.halted error.Halted (
    Ok (tt, after_remove w at f.0 who now)))))

-- the name that is given, where it is another than the present one
abbrev pub new_name : Option (List ℕ) → List ℕ → Option (List ℕ)
new_name None old = None
new_name (Some name) old = if bytes_eq name old then None else Some name

-- a directory has no length but 0
abbrev pub gives_length : Option ℕ → Body → Bool
gives_length None body = false
gives_length (Some n) body = is_dir body && nat_lt 0 n

abbrev pub exceeds : ℕ → Option ℕ → Bool
exceeds largest None = false
exceeds largest (Some n) = nat_lt largest n

-- nothing is given, or only what changes nothing: the present name, and length 0 of a directory
abbrev pub changes_nothing : Change → List ℕ → Body → Bool
changes_nothing what name body = is_none what.mode && is_none what.mtime && is_none what.gid && is_none (new_name what.name name) && (is_none what.length || is_dir body)

-- the node after all that is given but its name; mtime is set last
abbrev pub with_fields : Change → List ℕ → ℕ → Node → Node
with_fields what who now node = with_mtime what.mtime (with_gid what.gid (with_mode what.mode (with_length what.length who now node)))

-- the names in a directory
abbrev pub inside : Body → Names
inside (File bytes) = no_names
inside (Dir names) = names

abbrev pub names_in : Option (List ℕ × Node) → Names
names_in None = no_names
names_in (Some f) = inside f.1.body

-- the names beside a file of the active tree, its own among them
abbrev pub siblings : World → Place → Names
siblings w at = names_in (along (front at.trail) (slash, w.active.root))

-- another file beside it has the name
abbrev pub is_taken : Option (List ℕ) → Names → Bool
is_taken None names = false
is_taken (Some name) names = is_some (named name names)

-- the tree after a change, where the file gets a new name or keeps its own
abbrev pub changed_tree : Option (List ℕ) → Place → List ℕ → (Node → Node) → List ℕ → ℕ → Node → Node
changed_tree None at old f who now root = change_along at.trail f root
changed_tree (Some name) at old f who now root = change_along (front at.trail) (with_renamed old name f who now) root

abbrev pub after_change : World → Place → Change → List ℕ → List ℕ → ℕ → World
after_change w at what old who now = with_active w (changed_tree (new_name what.name old) at old (with_fields what who now) who now w.active.root)

-- `change`: all that is given, or nothing (stat(5)); it gives no name to a root
unfoldable pub change : Bool → ℕ → World → Place → Change → List ℕ → ℕ → Result (Unit {0} × World) FileError
change whole largest w at what who now =
    and_then (reached whole w at) (λ f.
    refuse_if (gives_length what.length f.1.body) error.IsDir (
    refuse_if (not (is_active at.view)) error.ReadOnly (
    refuse_if (is_taken (new_name what.name f.0) (siblings w at)) error.Exists (
    refuse_if (exceeds largest what.length) error.TooBig (
    if changes_nothing what f.0 f.1.body then Ok (tt, w) else (
    refuse_if w.halted error.Halted (
    Ok (tt, after_change w at what f.0 who now))))))))

-- `sync`: changes nothing
abbrev pub sync : World → Result (Unit {0} × World) FileError
sync w = Ok (tt, w)

-- ---- the usable blocks that a call needs, where it changes a tree

-- to grow by this many bytes, in a directory of this depth
abbrev pub need : ℕ → ℕ → ℕ
need depth bytes = 6 * depth + 40 + bytes / 8192 + bytes / 2 ^ 21

-- to become shorter, or to change alone what is said of a file
abbrev pub give : ℕ → ℕ
give depth = 5 * depth + 36

-- the depth of the directory that holds a file; the root, of depth 0, stands for its own
abbrev pub depth_of : Place → ℕ
depth_of at = length at.trail - 1

abbrev pub write_need : Place → List ℕ → ℕ
write_need at bytes = if nat_eq (length bytes) 0 then 0 else need (depth_of at) (length bytes)

abbrev pub create_need : Place → ℕ
create_need at = need (length at.trail) 0

abbrev pub grows : Option ℕ → Body → Bool
grows None body = false
grows (Some n) body = nat_lt (length_of body) n

abbrev pub need_of : Change → ℕ → List ℕ × Node → ℕ
need_of what depth f =
    if changes_nothing what f.0 f.1.body then 0
    else (if grows what.length f.1.body then need depth 0 else give depth)

abbrev pub change_need_of : Change → ℕ → Result (List ℕ × Node) FileError → ℕ
change_need_of what depth (Ok f) = need_of what depth f
change_need_of what depth (Err e) = 0

abbrev pub change_need : Bool → World → Place → Change → ℕ
change_need whole w at what = change_need_of what (depth_of at) (reached whole w at)

-- what any change of a file may take, whatever the world
abbrev pub most_need : Place → ℕ
most_need at = need (depth_of at) 0
