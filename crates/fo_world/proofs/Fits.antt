-- Worlds within the limits stay so, and what is told of their files fits stat records.
use Rattle.std.proofs.Common.{ℕ, ◌+◌, ◌<◌, ◌^◌, List, [], ◌∷◌, length, map, Bool, true, false, not, nat_eq, nat_lt, Option, Some, None, Ok, if◌then◌else◌}
use Rattle.std.specs.Prelude.{option_and_then, is_some, ◌&&◌, nat_le, IfSome, IfOk}
use Rattle.std.specs.Str.{bytes_eq}
use Rattle.std.specs.List.{All}
use Rattle.std.specs.Option.{ok_or, option_map_or}
use Rattle.std.proofs.lemmas.List.Elements.{All-head, All-tail}
use Rattle.fo_sparse.specs.Written.{written, resized}
use Rattle.fo_world.specs.declared.tree.Node.{Node}
use Rattle.fo_world.specs.declared.tree.Body.{Body}
use Rattle.fo_world.specs.declared.tree.Body.TheVariants.{File, Dir}
use Rattle.fo_world.specs.declared.error.FileError.TheVariants as error
use Rattle.fo_world.specs.declared.place.View.{View}
use Rattle.fo_world.specs.declared.place.View.TheVariants.{Active, Snap, Archive, Dated}
use Rattle.fo_world.specs.declared.place.Place.{Place}
use Rattle.fo_world.specs.declared.place.Info.{Info}
use Rattle.fo_world.specs.declared.place.Change.{Change}
use Rattle.fo_world.specs.Names.{Stat, Names, no_names, file, folder}
use Rattle.fo_world.specs.Tree.{stat_of, node_of, and_body, and_node, first, child, along, named, front, is_dir, has_names, name_count, put_name, without, rename, rename_found, change_first, change_names, change_bytes, change_along, comes_before, touched, with_bytes, with_name, without_name, with_renamed, with_length, with_mode, with_gid, with_mtime}
use Rattle.fo_world.specs.World as plain
use Rattle.fo_world.specs.World.{World}
use Rattle.fo_world.specs.Dated.{Taken, taken_snap, taken_archive, taken_of, taken_at, dated_name, dated_node, is_dated, slash}
use Rattle.fo_world.specs.Limits.{IsName, IsUser}
use Rattle.fo_world.specs.Step.{with_active, is_dir_mode, new_node, new_name, changes_nothing, with_fields, changed_tree, after_write, after_create, after_change, snap_at, archive_at, dated_root, root_of, taken_name, root_name, reached_from, reached, info_of, as_dir, as_file, is_active, is_above, gives_length, is_taken, siblings, exceeds, after_remove, root_at, below, above, file_found, view_found, next_found, next_view_found, entry_named, entries_of, next_above, least_above, info, find, parent, next_name, write, create, remove, change}
use Rattle.fo_world.specs.Laws.{InfoIsFit, FindIsFit, ParentIsFit, NextIsFit, WriteFits, MadeFits, CreateFits, RemoveFits, ChangeFits}
use Rattle.fo_world.specs.Fits.{StatFits, NamesFit, BodyFits, NodeFits, SnapFits, ArchiveFits, WorldFits, InfoFits}
use Rattle.fo_world.proofs.Texts.{name-slash, user-adm, name-dated, name-dated_dir}
use Rattle.fo_world.proofs.Steps.{goes, on, passed, unless, view-cases, from_ok}

-- ---- what is found fits

-- a file with its name
pub record FileFits (f : List ℕ × Node) : Type 0 where
  pub name : IsName f.0
  pub node : NodeFits f.1

first-fits : (p : List ℕ → ℕ → Bool) (names : Names) → NamesFit names → IfSome (first p names) FileFits
first-fits p no_names h = tt
first-fits p (file name stat bytes rest) h = go (p name stat.number) (first-fits p rest h.2)
  where
    go : (b : Bool) → IfSome (first p rest) FileFits → IfSome (if b then Some (name, node_of stat (File bytes)) else first p rest) FileFits
    go true ih = record { name = h.0; node = record { stat = record { uid = h.1.uid; gid = h.1.gid; muid = h.1.muid }; body = tt } }
    go false ih = ih
first-fits p (folder name stat inside rest) h = go (p name stat.number) (first-fits p rest h.3)
  where
    go : (b : Bool) → IfSome (first p rest) FileFits → IfSome (if b then Some (name, node_of stat (Dir inside)) else first p rest) FileFits
    go true ih = record { name = h.0; node = record { stat = record { uid = h.1.uid; gid = h.1.gid; muid = h.1.muid }; body = h.2 } }
    go false ih = ih

child-fits : (k : ℕ) (body : Body) → BodyFits body → IfSome (child k body) FileFits
child-fits k (File bytes) h = tt
child-fits k (Dir names) h = first-fits (λ _ number. nat_eq number k) names h

along-fits : (trail : List ℕ) (f : List ℕ × Node) → FileFits f → IfSome (along trail f) FileFits
along-fits [] f h = h
along-fits (k ∷ ks) f h = go (child k f.1.body) (child-fits k f.1.body h.node.body) (along-fits ks)
  where
    go : (o : Option (List ℕ × Node)) → IfSome o FileFits → ((e : List ℕ × Node) → FileFits e → IfSome (along ks e) FileFits) → IfSome (option_and_then (along ks) o) FileFits
    go None g ih = tt
    go (Some e) g ih = ih e g

snap-fits : (e : ℕ) (snaps : List plain.Snap) → All SnapFits snaps → IfSome (snap_at e snaps) NodeFits
snap-fits e [] h = tt
snap-fits e (s ∷ rest) h = go (nat_eq s.epoch e) (snap-fits e rest (All-tail SnapFits s rest h))
  where
    go : (b : Bool) → IfSome (snap_at e rest) NodeFits → IfSome (if b then Some s.tree.root else snap_at e rest) NodeFits
    go true ih = let one : SnapFits s = All-head SnapFits s rest h in one.tree
    go false ih = ih

archive-fits : (e : ℕ) (archives : List plain.Archive) → All ArchiveFits archives → IfSome (archive_at e archives) NodeFits
archive-fits e [] h = tt
archive-fits e (a ∷ rest) h = go (nat_eq a.epoch e) (archive-fits e rest (All-tail ArchiveFits a rest h))
  where
    go : (b : Bool) → IfSome (archive_at e rest) NodeFits → IfSome (if b then Some a.tree.root else archive_at e rest) NodeFits
    go true ih = let one : ArchiveFits a = All-head ArchiveFits a rest h in one.tree
    go false ih = ih

dated-fits : (w : World) (archive : Bool) (year monthday : ℕ) → IfSome (dated_root w archive year monthday) NodeFits
dated-fits w archive year monthday = go (is_dated (taken_of archive w) year monthday)
  where
    go : (b : Bool) → IfSome (if b then Some (dated_node year monthday) else None) NodeFits
    go true = record { stat = record { uid = user-adm; gid = user-adm; muid = user-adm }; body = tt }
    go false = tt

root-fits : (w : World) (view : View) → WorldFits w → IfSome (root_of w view) NodeFits
root-fits w Active h = h.active
root-fits w (Snap e) h = snap-fits e w.snaps h.snaps
root-fits w (Archive e) h = archive-fits e w.archives h.archives
root-fits w (Dated archive year monthday) h = dated-fits w archive year monthday

-- ---- the names of roots

abbrev EpochFits : Taken → Type 0
EpochFits t = t.epoch < 2 ^ 31

snaps-taken : (snaps : List plain.Snap) → All SnapFits snaps → (e : ℕ) → IfSome (taken_at e (map taken_snap snaps)) EpochFits
snaps-taken [] h e = tt
snaps-taken (s ∷ rest) h e = go (nat_eq s.epoch e) (snaps-taken rest (All-tail SnapFits s rest h) e)
  where
    go : (b : Bool) → IfSome (taken_at e (map taken_snap rest)) EpochFits → IfSome (if b then Some (taken_snap s) else taken_at e (map taken_snap rest)) EpochFits
    go true ih = let one : SnapFits s = All-head SnapFits s rest h in one.epoch
    go false ih = ih

archives-taken : (archives : List plain.Archive) → All ArchiveFits archives → (e : ℕ) → IfSome (taken_at e (map taken_archive archives)) EpochFits
archives-taken [] h e = tt
archives-taken (a ∷ rest) h e = go (nat_eq a.epoch e) (archives-taken rest (All-tail ArchiveFits a rest h) e)
  where
    go : (b : Bool) → IfSome (taken_at e (map taken_archive rest)) EpochFits → IfSome (if b then Some (taken_archive a) else taken_at e (map taken_archive rest)) EpochFits
    go true ih = let one : ArchiveFits a = All-head ArchiveFits a rest h in one.epoch
    go false ih = ih

taken-fits : (w : World) (archive : Bool) → WorldFits w → (e : ℕ) → IfSome (taken_at e (taken_of archive w)) EpochFits
taken-fits w true h e = archives-taken w.archives h.archives e
taken-fits w false h e = snaps-taken w.snaps h.snaps e

taken_name-fits : (w : World) (archive : Bool) (e : ℕ) → WorldFits w → IsName (taken_name w archive e)
taken_name-fits w archive e h = go (taken_at e (taken_of archive w)) (taken-fits w archive h e)
  where
    go : (o : Option Taken) → IfSome o EpochFits → IsName (option_map_or (dated_name (taken_of archive w)) o slash)
    go None g = name-slash
    go (Some t) g = name-dated (taken_of archive w) t g

name-if : (whole : Bool) (name : List ℕ) → IsName name → IsName (if whole then name else slash)
name-if true name h = h
name-if false name h = name-slash

root_name-fits : (whole : Bool) (w : World) (view : View) → WorldFits w → IsName (root_name whole w view)
root_name-fits whole w Active h = name-slash
root_name-fits whole w (Snap e) h = name-if whole (taken_name w false e) (taken_name-fits w false e h)
root_name-fits whole w (Archive e) h = name-if whole (taken_name w true e) (taken_name-fits w true e h)
root_name-fits whole w (Dated archive year monthday) h = name-dated_dir year monthday

reached-fits : (whole : Bool) (w : World) (at : Place) → WorldFits w → IfOk (reached whole w at) FileFits
reached-fits whole w at h = go (root_of w at.view) (root-fits w at.view h)
  where
    found : (o : Option (List ℕ × Node)) → IfSome o FileFits → IfOk (ok_or o error.Gone) FileFits
    found None g = tt
    found (Some f) g = g

    go : (o : Option Node) → IfSome o NodeFits → IfOk (reached_from (root_name whole w at.view) o at.trail) FileFits
    go None g = tt
    go (Some root) g = found (along at.trail (root_name whole w at.view, root)) (along-fits at.trail (root_name whole w at.view, root) (record { name = root_name-fits whole w at.view h; node = g }))

-- ---- what is told

told : (at : Place) (f : List ℕ × Node) → FileFits f → InfoFits (info_of at f)
told at f h = record { name = h.name; uid = h.node.stat.uid; gid = h.node.stat.gid; muid = h.node.stat.muid }

abbrev InfoTold : Info × World → Type 0
InfoTold p = InfoFits p.0

abbrev NextTold : Option Info × World → Type 0
NextTold p = IfSome p.0 InfoFits

if-info : (whole : Bool) (w : World) (at : Place) → WorldFits w → IfOk (info whole w at) InfoTold
if-info whole w at h = on FileFits InfoTold (reached whole w at) (λ f. Ok (info_of at f, w)) (reached-fits whole w at h) (λ f g. told at f g)

names-fit : (body : Body) → BodyFits body → IfOk (as_dir body) NamesFit
names-fit (File bytes) h = tt
names-fit (Dir names) h = h

view-fits : (whole : Bool) (w : World) → WorldFits w → (o : Option View) → IfOk (view_found whole w o) InfoTold
view-fits whole w h None = tt
view-fits whole w h (Some view) = if-info whole w (root_at view) h

file-fits : (w : World) (at : Place) (o : Option (List ℕ × Node)) → IfSome o FileFits → IfOk (file_found w at o) InfoTold
file-fits w at None g = tt
file-fits w at (Some f) g = told (below at f.1.number) f g

if-find : (whole : Bool) (w : World) (at : Place) (name : List ℕ) → WorldFits w → IfOk (find whole w at name) InfoTold
unfolding find
if-find whole w at name h =
    on FileFits InfoTold (reached whole w at) _ (reached-fits whole w at h) (λ f g.
    on NamesFit InfoTold (as_dir f.1.body) _ (names-fit f.1.body g.node.body) (λ names n.
    view-cases InfoTold at.view (file_found w at (named name names)) (λ archive year monthday. view_found whole w (entry_named name (entries_of w archive year monthday)))
    (file-fits w at (named name names) (first-fits (λ other _. bytes_eq other name) names n))
    (λ archive year monthday. view-fits whole w h (entry_named name (entries_of w archive year monthday)))))

if-parent : (whole : Bool) (w : World) (at : Place) → WorldFits w → IfOk (parent whole w at) InfoTold
unfolding parent
if-parent whole w at h = on FileFits InfoTold (reached whole w at) (λ f. info whole w (above whole w at)) (reached-fits whole w at h) (λ f g. if-info whole w (above whole w at) h)

next_file-fits : (w : World) (at : Place) (o : Option (List ℕ × Node)) → IfSome o FileFits → IfOk (next_found w at o) NextTold
next_file-fits w at None g = tt
next_file-fits w at (Some f) g = told (below at f.1.number) f g

next_view-fits : (whole : Bool) (w : World) → WorldFits w → (o : Option View) → IfOk (next_view_found whole w o) NextTold
next_view-fits whole w h None = tt
next_view-fits whole w h (Some view) = on InfoTold NextTold (info whole w (root_at view)) (λ i. Ok (Some i.0, w)) (if-info whole w (root_at view) h) (λ i g. g)

if-next_name : (whole : Bool) (w : World) (at : Place) (after : Option (List ℕ)) → WorldFits w → IfOk (next_name whole w at after) NextTold
unfolding next_name
if-next_name whole w at after h =
    on FileFits NextTold (reached whole w at) _ (reached-fits whole w at h) (λ f g.
    on NamesFit NextTold (as_dir f.1.body) _ (names-fit f.1.body g.node.body) (λ names n.
    view-cases NextTold at.view (next_found w at (next_above after names)) (λ archive year monthday. next_view_found whole w (least_above after (entries_of w archive year monthday)))
    (next_file-fits w at (next_above after names) (first-fits (λ name _. is_above after name) names n))
    (λ archive year monthday. next_view-fits whole w h (least_above after (entries_of w archive year monthday)))))

-- ---- changes of trees

and_body-fits : (name : List ℕ) (stat : Stat) (body : Body) (rest : Names) → IsName name → StatFits stat → BodyFits body → NamesFit rest → NamesFit (and_body name stat body rest)
and_body-fits name stat (File bytes) rest n s b r = (n, s, r)
and_body-fits name stat (Dir inside) rest n s b r = (n, s, b, r)

and_node-fits : (name : List ℕ) (node : Node) (rest : Names) → IsName name → NodeFits node → NamesFit rest → NamesFit (and_node name node rest)
and_node-fits name node rest n h r = and_body-fits name (stat_of node) node.body rest n h.stat h.body r

file-node : (stat : Stat) (body : Body) → StatFits stat → BodyFits body → NodeFits (node_of stat body)
file-node stat body s b = record { stat = record { uid = s.uid; gid = s.gid; muid = s.muid }; body = b }

-- a change of a node keeps it within the limits
abbrev Keeps : (Node → Node) → Type 0
Keeps f = (m : Node) → NodeFits m → NodeFits (f m)

change_first-fits : (k : ℕ) (f : Node → Node) → Keeps f → (names : Names) → NamesFit names → NamesFit (change_first k f names)
change_first-fits k f keep no_names h = tt
change_first-fits k f keep (file name stat bytes rest) h = go (nat_eq stat.number k) (change_first-fits k f keep rest h.2)
  where
    go : (b : Bool) → NamesFit (change_first k f rest) → NamesFit (if b then and_node name (f (node_of stat (File bytes))) rest else file name stat bytes (change_first k f rest))
    go true ih = and_node-fits name (f (node_of stat (File bytes))) rest h.0 (keep _ (file-node stat (File bytes) h.1 tt)) h.2
    go false ih = (h.0, h.1, ih)
change_first-fits k f keep (folder name stat inside rest) h = go (nat_eq stat.number k) (change_first-fits k f keep rest h.3)
  where
    go : (b : Bool) → NamesFit (change_first k f rest) → NamesFit (if b then and_node name (f (node_of stat (Dir inside))) rest else folder name stat inside (change_first k f rest))
    go true ih = and_node-fits name (f (node_of stat (Dir inside))) rest h.0 (keep _ (file-node stat (Dir inside) h.1 h.2)) h.3
    go false ih = (h.0, h.1, h.2, ih)

change_names-fits : (f : Names → Names) → ((names : Names) → NamesFit names → NamesFit (f names)) → (body : Body) → BodyFits body → BodyFits (change_names f body)
change_names-fits f keep (File bytes) h = tt
change_names-fits f keep (Dir names) h = keep names h

change_bytes-fits : (f : List ℕ → List ℕ) (body : Body) → BodyFits body → BodyFits (change_bytes f body)
change_bytes-fits f (File bytes) h = tt
change_bytes-fits f (Dir names) h = h

same_stat : (m : Node) → NodeFits m → (body : Body) → BodyFits body → NodeFits (record m { body = body })
same_stat m h body b = record { stat = record { uid = h.stat.uid; gid = h.stat.gid; muid = h.stat.muid }; body = b }

change_along-fits : (trail : List ℕ) (f : Node → Node) → Keeps f → Keeps (change_along trail f)
change_along-fits [] f keep m h = keep m h
change_along-fits (k ∷ ks) f keep m h = same_stat m h _ (change_names-fits (change_first k (change_along ks f)) (change_first-fits k (change_along ks f) (change_along-fits ks f keep)) m.body h.body)

put_name-fits : (k : List ℕ) (n : Node) → IsName k → NodeFits n → (names : Names) → NamesFit names → NamesFit (put_name k n names)
put_name-fits k n is fits no_names h = and_node-fits k n no_names is fits tt
put_name-fits k n is fits (file name stat bytes rest) h = go (comes_before k name) (put_name-fits k n is fits rest h.2)
  where
    go : (b : Bool) → NamesFit (put_name k n rest) → NamesFit (if b then and_node k n (file name stat bytes rest) else file name stat bytes (put_name k n rest))
    go true ih = and_node-fits k n (file name stat bytes rest) is fits h
    go false ih = (h.0, h.1, ih)
put_name-fits k n is fits (folder name stat inside rest) h = go (comes_before k name) (put_name-fits k n is fits rest h.3)
  where
    go : (b : Bool) → NamesFit (put_name k n rest) → NamesFit (if b then and_node k n (folder name stat inside rest) else folder name stat inside (put_name k n rest))
    go true ih = and_node-fits k n (folder name stat inside rest) is fits h
    go false ih = (h.0, h.1, h.2, ih)

without-fits : (k : List ℕ) (names : Names) → NamesFit names → NamesFit (without k names)
without-fits k no_names h = tt
without-fits k (file name stat bytes rest) h = go (bytes_eq name k) (without-fits k rest h.2)
  where
    go : (b : Bool) → NamesFit (without k rest) → NamesFit (if b then rest else file name stat bytes (without k rest))
    go true ih = h.2
    go false ih = (h.0, h.1, ih)
without-fits k (folder name stat inside rest) h = go (bytes_eq name k) (without-fits k rest h.3)
  where
    go : (b : Bool) → NamesFit (without k rest) → NamesFit (if b then rest else folder name stat inside (without k rest))
    go true ih = h.3
    go false ih = (h.0, h.1, h.2, ih)

rename-fits : (old name : List ℕ) (f : Node → Node) → IsName name → Keeps f → (names : Names) → NamesFit names → NamesFit (rename old name f names)
rename-fits old name f is keep names h = go (named old names) (first-fits (λ other _. bytes_eq other old) names h)
  where
    go : (o : Option (List ℕ × Node)) → IfSome o FileFits → NamesFit (rename_found old name f names o)
    go None g = h
    go (Some e) g = put_name-fits name (f e.1) is (keep e.1 g.node) (without old names) (without-fits old names h)

touched-fits : (who : List ℕ) (now : ℕ) → IsUser who → Keeps (touched who now)
touched-fits who now u m h = record { stat = record { uid = h.stat.uid; gid = h.stat.gid; muid = u }; body = h.body }

with_bytes-fits : (offset : ℕ) (bytes who : List ℕ) (now : ℕ) → IsUser who → Keeps (with_bytes offset bytes who now)
with_bytes-fits offset bytes who now u m h = touched-fits who now u _ (same_stat m h _ (change_bytes-fits (λ old. written old offset bytes) m.body h.body))

with_name-fits : (name : List ℕ) (new : Node) (who : List ℕ) (now : ℕ) → IsName name → NodeFits new → IsUser who → Keeps (with_name name new who now)
with_name-fits name new who now is n u m h = touched-fits who now u _ (same_stat m h _ (change_names-fits (put_name name new) (put_name-fits name new is n) m.body h.body))

without_name-fits : (name who : List ℕ) (now : ℕ) → IsUser who → Keeps (without_name name who now)
without_name-fits name who now u m h = touched-fits who now u _ (same_stat m h _ (change_names-fits (without name) (without-fits name) m.body h.body))

with_renamed-fits : (old name : List ℕ) (f : Node → Node) (who : List ℕ) (now : ℕ) → IsName name → Keeps f → IsUser who → Keeps (with_renamed old name f who now)
with_renamed-fits old name f who now is keep u m h = touched-fits who now u _ (same_stat m h _ (change_names-fits (rename old name f) (rename-fits old name f is keep) m.body h.body))

with_length-fits : (len : Option ℕ) (who : List ℕ) (now : ℕ) → IsUser who → Keeps (with_length len who now)
with_length-fits None who now u m h = h
with_length-fits (Some n) who now u m h = go (is_dir m.body)
  where
    go : (b : Bool) → NodeFits (if b then m else touched who now (record m { body = change_bytes (λ old. resized old n) m.body }))
    go true = h
    go false = touched-fits who now u _ (same_stat m h _ (change_bytes-fits (λ old. resized old n) m.body h.body))

with_mode-fits : (mode : Option ℕ) → Keeps (with_mode mode)
with_mode-fits None m h = h
with_mode-fits (Some mode) m h = record { stat = record { uid = h.stat.uid; gid = h.stat.gid; muid = h.stat.muid }; body = h.body }

with_gid-fits : (gid : Option (List ℕ)) → IfSome gid IsUser → Keeps (with_gid gid)
with_gid-fits None u m h = h
with_gid-fits (Some gid) u m h = record { stat = record { uid = h.stat.uid; gid = u; muid = h.stat.muid }; body = h.body }

with_mtime-fits : (mtime : Option ℕ) → Keeps (with_mtime mtime)
with_mtime-fits None m h = h
with_mtime-fits (Some mtime) m h = record { stat = record { uid = h.stat.uid; gid = h.stat.gid; muid = h.stat.muid }; body = h.body }

with_fields-fits : (what : Change) (who : List ℕ) (now : ℕ) → IfSome what.gid IsUser → IsUser who → Keeps (with_fields what who now)
with_fields-fits what who now g u m h = with_mtime-fits what.mtime _ (with_gid-fits what.gid g _ (with_mode-fits what.mode _ (with_length-fits what.length who now u m h)))

-- ---- the calls that change

active-fits : (w : World) (root : Node) → WorldFits w → NodeFits root → WorldFits (with_active w root)
active-fits w root h n = record { active = n; snaps = h.snaps; archives = h.archives }

abbrev Fit : {A : Type 0} → A × World → Type 0
Fit p = WorldFits p.1

if-write : (whole : Bool) (largest : ℕ) (w : World) (at : Place) (offset : ℕ) (bytes who : List ℕ) (now : ℕ) → IsUser who → WorldFits w → IfOk (write whole largest w at offset bytes who now) Fit
unfolding write
if-write whole largest w at offset bytes who now u h =
    goes Fit (reached whole w at) _ (λ f.
    goes Fit (as_file f.1.body) _ (λ old.
    passed Fit (not (is_active at.view)) error.ReadOnly _ (
    unless Fit (nat_eq (length bytes) 0) (Ok (tt, w)) _ h (
    passed Fit (nat_lt largest (offset + length bytes)) error.TooBig _ (
    passed Fit w.halted error.Halted (Ok (tt, after_write w at offset bytes who now)) (
    active-fits w _ h (change_along-fits at.trail (with_bytes offset bytes who now) (with_bytes-fits offset bytes who now u) w.active.root h.active)))))))

new-fits : (number mode : ℕ) (who uid gid : List ℕ) (now : ℕ) → IsUser who → IsUser uid → IsUser gid → NodeFits (new_node number mode who uid gid now)
new-fits number mode who uid gid now u v g = record { stat = record { uid = v; gid = g; muid = u }; body = go (is_dir_mode mode) }
  where
    go : (b : Bool) → BodyFits (if b then Dir no_names else File [])
    go true = tt
    go false = tt

-- the new world fits, and what is told of the new file
abbrev Made : Info × World → Type 0
Made p = MadeFits p.0 p.1

if-create : (whole : Bool) (w : World) (at : Place) (name : List ℕ) (mode : ℕ) (who uid gid : List ℕ) (now : ℕ) → IsName name → IsUser who → IsUser uid → IsUser gid → WorldFits w → IfOk (create whole w at name mode who uid gid now) Made
unfolding create
if-create whole w at name mode who uid gid now is u v g h =
    let new : NodeFits (new_node w.next mode who uid gid now) = new-fits w.next mode who uid gid now u v g in
    goes Made (reached whole w at) _ (λ f.
    goes Made (as_dir f.1.body) _ (λ names.
    passed Made (not (is_active at.view)) error.ReadOnly _ (
    passed Made (is_some (named name names)) error.Exists _ (
    passed Made w.halted error.Halted _ (
    passed Made (is_dir_mode mode && nat_le 64 (length at.trail)) error.TooDeep _ (
    passed Made (nat_le (2 ^ 20) (name_count names)) error.DirFull _ (
    passed Made (nat_le (2 ^ 30) w.next) error.NoNumbers (Ok (after_create w at name mode who uid gid now)) (
    record {
      told = told (below at w.next) (name, new_node w.next mode who uid gid now) (record { name = is; node = new });
      world =
          record { active = change_along-fits at.trail (with_name name (new_node w.next mode who uid gid now) who now) (with_name-fits name (new_node w.next mode who uid gid now) who now is new u) w.active.root h.active; snaps = h.snaps; archives = h.archives };
    }))))))))

if-remove : (whole : Bool) (w : World) (at : Place) (who : List ℕ) (now : ℕ) → IsUser who → WorldFits w → IfOk (remove whole w at who now) Fit
unfolding remove
if-remove whole w at who now u h =
    goes Fit (reached whole w at) _ (λ f.
    passed Fit (not (is_active at.view)) error.ReadOnly _ (
    passed Fit (has_names f.1.body) error.NotEmpty _ (
    passed Fit w.halted error.Halted (Ok (tt, after_remove w at f.0 who now)) (
    active-fits w _ h (change_along-fits (front at.trail) (without_name f.0 who now) (without_name-fits f.0 who now u) w.active.root h.active)))))

changed-fits : (new : Option (List ℕ)) (at : Place) (old : List ℕ) (f : Node → Node) (who : List ℕ) (now : ℕ) → IfSome new IsName → Keeps f → IsUser who → Keeps (changed_tree new at old f who now)
changed-fits None at old f who now n keep u m h = change_along-fits at.trail f keep m h
changed-fits (Some name) at old f who now n keep u m h = change_along-fits (front at.trail) (with_renamed old name f who now) (with_renamed-fits old name f who now n keep u) m h

new_name-fits : (name : Option (List ℕ)) (old : List ℕ) → IfSome name IsName → IfSome (new_name name old) IsName
new_name-fits None old h = tt
new_name-fits (Some name) old h = go (bytes_eq name old)
  where
    go : (b : Bool) → IfSome (if b then None else Some name) IsName
    go true = tt
    go false = h

if-change : (whole : Bool) (largest : ℕ) (w : World) (at : Place) (what : Change) (who : List ℕ) (now : ℕ) → IfSome what.name IsName → IfSome what.gid IsUser → IsUser who → WorldFits w → IfOk (change whole largest w at what who now) Fit
unfolding change
if-change whole largest w at what who now n g u h =
    goes Fit (reached whole w at) _ (λ f.
    passed Fit (gives_length what.length f.1.body) error.IsDir _ (
    passed Fit (not (is_active at.view)) error.ReadOnly _ (
    passed Fit (is_taken (new_name what.name f.0) (siblings w at)) error.Exists _ (
    passed Fit (exceeds largest what.length) error.TooBig _ (
    unless Fit (changes_nothing what f.0 f.1.body) (Ok (tt, w)) _ h (
    passed Fit w.halted error.Halted (Ok (tt, after_change w at what f.0 who now)) (
    active-fits w _ h (changed-fits (new_name what.name f.0) at f.0 (with_fields what who now) who now (new_name-fits what.name f.0 n) (with_fields-fits what who now g u) u w.active.root h.active))))))))

-- ---- the laws

pub info-fits : InfoIsFit
info-fits whole w at i w' h e = from_ok InfoTold (info whole w at) (i, w') (if-info whole w at h) e

pub find-fits : FindIsFit
find-fits whole w at name i w' h e = from_ok InfoTold (find whole w at name) (i, w') (if-find whole w at name h) e

pub parent-fits : ParentIsFit
parent-fits whole w at i w' h e = from_ok InfoTold (parent whole w at) (i, w') (if-parent whole w at h) e

pub next_name-fits : NextIsFit
next_name-fits whole w at after o w' h e = from_ok NextTold (next_name whole w at after) (o, w') (if-next_name whole w at after h) e

pub write-fits : WriteFits
write-fits whole largest w at offset bytes who now w' u h e = from_ok Fit (write whole largest w at offset bytes who now) (tt, w') (if-write whole largest w at offset bytes who now u h) e

pub create-fits : CreateFits
create-fits whole w at name mode who uid gid now i w' is u v g h e = from_ok Made (create whole w at name mode who uid gid now) (i, w') (if-create whole w at name mode who uid gid now is u v g h) e

pub remove-fits : RemoveFits
remove-fits whole w at who now w' u h e = from_ok Fit (remove whole w at who now) (tt, w') (if-remove whole w at who now u h) e

pub change-fits : ChangeFits
change-fits whole largest w at what who now w' n g u h e = from_ok Fit (change whole largest w at what who now) (tt, w') (if-change whole largest w at what who now n g u h) e
