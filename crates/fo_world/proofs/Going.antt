-- The laws of the file step, proved.
use Rattle.std.proofs.Common.{◌≡◌, refl, sym, ap, ◌∙◌, ℕ, ◌+◌, ◌≤◌, List, [], ◌∷◌, length, Bool, true, false, not, ◌&&◌, nat_eq, nat_lt, nat_le, ◌^◌, Option, Some, None, Ok, arith, if◌then◌else◌}
use Rattle.std.specs.Prelude.{option_and_then, is_some, IfOk}
use Rattle.std.specs.Str.{bytes_eq}
use Rattle.std.specs.Option.{option_map}
use Rattle.std.proofs.lemmas.Bool.{eqb-true, eqb-false}
use Rattle.fo_sparse.specs.Written.{written, resized}
use Rattle.fo_world.specs.declared.tree.Node.{Node}
use Rattle.fo_world.specs.declared.tree.Body.{Body}
use Rattle.fo_world.specs.declared.tree.Body.TheVariants.{File, Dir}
use Rattle.fo_world.specs.declared.error.FileError.TheVariants as error
use Rattle.fo_world.specs.declared.place.Place.{Place}
use Rattle.fo_world.specs.declared.place.Change.{Change}
use Rattle.fo_world.specs.Names.{Stat, Names, no_names, file, folder}
use Rattle.fo_world.specs.Tree.{stat_of, node_of, and_body, and_node, first, child, along, named, front, is_dir, has_names, name_count, put_name, without, rename, rename_found, change_first, change_names, change_bytes, change_along, comes_before, touched, with_bytes, with_name, without_name, with_renamed, with_length, with_mode, with_gid, with_mtime}
use Rattle.fo_world.specs.World.{World}
use Rattle.fo_world.specs.Step.{reached, as_file, as_dir, is_active, with_active, is_dir_mode, new_node, new_name, gives_length, is_taken, siblings, exceeds, changes_nothing, with_fields, changed_tree, after_write, after_create, after_remove, after_change, write, create, remove, change}
use Rattle.fo_world.specs.Laws.{here, times, times_in, times_at, IsNumbered, Goes, part, WriteGoes, CreateGoes, RemoveGoes, ChangeGoes, OthersStay}
use Rattle.fo_world.proofs.Steps.{goes, passed, unless, from_ok}

-- ---- how often a number is given

times-and_body : (k : ℕ) (name : List ℕ) (stat : Stat) (body : Body) (rest : Names) → times k (and_body name stat body rest) ≡ here k stat.number + times_in k body + times k rest
times-and_body k name stat (File bytes) rest = omega arith
times-and_body k name stat (Dir inside) rest = refl

pub times-and_node : (k : ℕ) (name : List ℕ) (node : Node) (rest : Names) → times k (and_node name node rest) ≡ times_at k node + times k rest
times-and_node k name node rest = times-and_body k name (stat_of node) node.body rest

-- a change of one file gives a number at most as much more often as it does in that file
pub times-change_first : (k d j : ℕ) (g : Node → Node) → ((m : Node) → times_at k (g m) ≤ times_at k m + d) → (names : Names) → times k (change_first j g names) ≤ times k names + d
times-change_first k d j g h no_names = omega arith
times-change_first k d j g h (file name stat bytes rest) = go (nat_eq stat.number j) (times-change_first k d j g h rest)
  where
    go : (b : Bool) → times k (change_first j g rest) ≤ times k rest + d → times k (if b then and_node name (g (node_of stat (File bytes))) rest else file name stat bytes (change_first j g rest)) ≤ here k stat.number + times k rest + d
    go true ih = omega (arith, h (node_of stat (File bytes)), times-and_node k name (g (node_of stat (File bytes))) rest)
    go false ih = omega arith
times-change_first k d j g h (folder name stat inside rest) = go (nat_eq stat.number j) (times-change_first k d j g h rest)
  where
    go : (b : Bool) → times k (change_first j g rest) ≤ times k rest + d → times k (if b then and_node name (g (node_of stat (Dir inside))) rest else folder name stat inside (change_first j g rest)) ≤ here k stat.number + times k inside + times k rest + d
    go true ih = omega (arith, h (node_of stat (Dir inside)), times-and_node k name (g (node_of stat (Dir inside))) rest)
    go false ih = omega arith

times_in-change_first : (k d j : ℕ) (g : Node → Node) → ((m : Node) → times_at k (g m) ≤ times_at k m + d) → (body : Body) → times_in k (change_names (change_first j g) body) ≤ times_in k body + d
times_in-change_first k d j g h (File bytes) = omega arith
times_in-change_first k d j g h (Dir names) = times-change_first k d j g h names

pub times-change_along : (k d : ℕ) (trail : List ℕ) (f : Node → Node) → ((m : Node) → times_at k (f m) ≤ times_at k m + d) → (node : Node) → times_at k (change_along trail f node) ≤ times_at k node + d
times-change_along k d [] f h node = h node
times-change_along k d (j ∷ js) f h node =
    omega (arith, times_in-change_first k d j (change_along js f) (times-change_along k d js f h) node.body)

pub times-put_name : (k : ℕ) (name : List ℕ) (new : Node) (names : Names) → times k (put_name name new names) ≡ times_at k new + times k names
times-put_name k name new no_names = times-and_node k name new no_names
times-put_name k name new (file other stat bytes rest) = go (comes_before name other) (times-put_name k name new rest)
  where
    go : (b : Bool) → times k (put_name name new rest) ≡ times_at k new + times k rest → times k (if b then and_node name new (file other stat bytes rest) else file other stat bytes (put_name name new rest)) ≡ times_at k new + (here k stat.number + times k rest)
    go true ih = times-and_node k name new (file other stat bytes rest)
    go false ih = omega arith
times-put_name k name new (folder other stat inside rest) = go (comes_before name other) (times-put_name k name new rest)
  where
    go : (b : Bool) → times k (put_name name new rest) ≡ times_at k new + times k rest → times k (if b then and_node name new (folder other stat inside rest) else folder other stat inside (put_name name new rest)) ≡ times_at k new + (here k stat.number + times k inside + times k rest)
    go true ih = times-and_node k name new (folder other stat inside rest)
    go false ih = omega arith

pub times-without : (k : ℕ) (name : List ℕ) (names : Names) → times k (without name names) ≤ times k names
times-without k name no_names = omega arith
times-without k name (file other stat bytes rest) = go (bytes_eq other name) (times-without k name rest)
  where
    go : (b : Bool) → times k (without name rest) ≤ times k rest → times k (if b then rest else file other stat bytes (without name rest)) ≤ here k stat.number + times k rest
    go true ih = omega arith
    go false ih = omega arith
times-without k name (folder other stat inside rest) = go (bytes_eq other name) (times-without k name rest)
  where
    go : (b : Bool) → times k (without name rest) ≤ times k rest → times k (if b then rest else folder other stat inside (without name rest)) ≤ here k stat.number + times k inside + times k rest
    go true ih = omega arith
    go false ih = omega arith

abbrev times_of : ℕ → Option (List ℕ × Node) → ℕ
times_of k None = 0
times_of k (Some g) = times_at k g.1

-- a file and the names without its own have a number as often as all of them
pub times-named : (k : ℕ) (name : List ℕ) (names : Names) (g : List ℕ × Node) → named name names ≡ Some g → times_at k g.1 + times k (without name names) ≡ times k names
times-named k name no_names g e = absurd (cc)
times-named k name (file other stat bytes rest) g e = go (bytes_eq other name) (times-named k name rest g) e
  where
    go : (b : Bool) → (named name rest ≡ Some g → times_at k g.1 + times k (without name rest) ≡ times k rest) → (if b then Some (other, node_of stat (File bytes)) else named name rest) ≡ Some g → times_at k g.1 + times k (if b then rest else file other stat bytes (without name rest)) ≡ here k stat.number + times k rest
    go true ih e = omega (arith, ap (times_of k) e)
    go false ih e = omega (arith, ih e)
times-named k name (folder other stat inside rest) g e = go (bytes_eq other name) (times-named k name rest g) e
  where
    go : (b : Bool) → (named name rest ≡ Some g → times_at k g.1 + times k (without name rest) ≡ times k rest) → (if b then Some (other, node_of stat (Dir inside)) else named name rest) ≡ Some g → times_at k g.1 + times k (if b then rest else folder other stat inside (without name rest)) ≡ here k stat.number + times k inside + times k rest
    go true ih e = omega (arith, ap (times_of k) e)
    go false ih e = omega (arith, ih e)

pub times-rename : (k : ℕ) (old name : List ℕ) (f : Node → Node) → ((m : Node) → times_at k (f m) ≤ times_at k m + 0) → (names : Names) → times k (rename old name f names) ≤ times k names + 0
times-rename k old name f h names = go (named old names) refl
  where
    go : (o : Option (List ℕ × Node)) → named old names ≡ o → times k (rename_found old name f names o) ≤ times k names + 0
    go None e = omega arith
    go (Some g) e = omega (arith, times-put_name k name (f g.1) (without old names), h g.1, times-named k old names g e)

-- ---- what the calls do to one node

times_in-bytes : (k : ℕ) (f : List ℕ → List ℕ) (body : Body) → times_in k (change_bytes f body) ≡ times_in k body
times_in-bytes k f (File bytes) = refl
times_in-bytes k f (Dir names) = refl

pub times-with_bytes : (k offset : ℕ) (bytes who : List ℕ) (now : ℕ) (m : Node) → times_at k (with_bytes offset bytes who now m) ≤ times_at k m + 0
times-with_bytes k offset bytes who now m = omega (arith, times_in-bytes k (λ old. written old offset bytes) m.body)

times_in-put : (k : ℕ) (name : List ℕ) (new : Node) (body : Body) → times_in k (change_names (put_name name new) body) ≤ times_in k body + times_at k new
times_in-put k name new (File bytes) = omega arith
times_in-put k name new (Dir names) = omega (arith, times-put_name k name new names)

pub times-with_name : (k : ℕ) (name : List ℕ) (new : Node) (who : List ℕ) (now : ℕ) (m : Node) → times_at k (with_name name new who now m) ≤ times_at k m + times_at k new
times-with_name k name new who now m = omega (arith, times_in-put k name new m.body)

times_in-without : (k : ℕ) (name : List ℕ) (body : Body) → times_in k (change_names (without name) body) ≤ times_in k body
times_in-without k name (File bytes) = omega arith
times_in-without k name (Dir names) = times-without k name names

pub times-without_name : (k : ℕ) (name who : List ℕ) (now : ℕ) (m : Node) → times_at k (without_name name who now m) ≤ times_at k m + 0
times-without_name k name who now m = omega (arith, times_in-without k name m.body)

times_in-rename : (k : ℕ) (old name : List ℕ) (f : Node → Node) → ((m : Node) → times_at k (f m) ≤ times_at k m + 0) → (body : Body) → times_in k (change_names (rename old name f) body) ≤ times_in k body + 0
times_in-rename k old name f h (File bytes) = omega arith
times_in-rename k old name f h (Dir names) = times-rename k old name f h names

pub times-with_renamed : (k : ℕ) (old name : List ℕ) (f : Node → Node) (who : List ℕ) (now : ℕ) → ((m : Node) → times_at k (f m) ≤ times_at k m + 0) → (m : Node) → times_at k (with_renamed old name f who now m) ≤ times_at k m + 0
times-with_renamed k old name f who now h m = omega (arith, times_in-rename k old name f h m.body)

times-length : (k : ℕ) (len : Option ℕ) (who : List ℕ) (now : ℕ) (m : Node) → times_at k (with_length len who now m) ≡ times_at k m
times-length k None who now m = refl
times-length k (Some n) who now m = go (is_dir m.body)
  where
    go : (b : Bool) → times_at k (if b then m else touched who now (record m { body = change_bytes (λ old. resized old n) m.body })) ≡ times_at k m
    go true = refl
    go false = omega (arith, times_in-bytes k (λ old. resized old n) m.body)

times-mode : (k : ℕ) (mode : Option ℕ) (m : Node) → times_at k (with_mode mode m) ≡ times_at k m
times-mode k None m = refl
times-mode k (Some mode) m = refl

times-gid : (k : ℕ) (gid : Option (List ℕ)) (m : Node) → times_at k (with_gid gid m) ≡ times_at k m
times-gid k None m = refl
times-gid k (Some gid) m = refl

times-mtime : (k : ℕ) (mtime : Option ℕ) (m : Node) → times_at k (with_mtime mtime m) ≡ times_at k m
times-mtime k None m = refl
times-mtime k (Some mtime) m = refl

pub times-with_fields : (k : ℕ) (what : Change) (who : List ℕ) (now : ℕ) (m : Node) → times_at k (with_fields what who now m) ≤ times_at k m + 0
times-with_fields k what who now m =
    let a = with_length what.length who now m in
    let b = with_mode what.mode a in
    let c = with_gid what.gid b in
    omega (arith, times-mtime k what.mtime c, times-gid k what.gid b, times-mode k what.mode a, times-length k what.length who now m)

-- ---- the calls that change

stays : (w : World) → Goes w w
stays w = record { low = refl; high = refl; snaps = refl; archives = refl; pending = refl; halted = refl; exclusive = refl; next = omega arith; numbered = λ n. n }

numbered-keeps : (next : ℕ) (old new : Node) → ((k : ℕ) → times_at k new ≤ times_at k old + 0) → IsNumbered next old → IsNumbered next new
numbered-keeps next old new h n = record { once = λ k. omega (arith, h k, n.once k); below = λ k l. omega (arith, h k, n.below k l) }

changes : (w : World) (root : Node) → ((k : ℕ) → times_at k root ≤ times_at k w.active.root + 0) → Goes w (with_active w root)
changes w root h = record { low = refl; high = refl; snaps = refl; archives = refl; pending = refl; halted = refl; exclusive = refl; next = omega arith; numbered = numbered-keeps w.next w.active.root root h }

abbrev From : {A : Type 0} → World → A × World → Type 0
From w p = Goes w p.1

if-write : (whole : Bool) (largest : ℕ) (w : World) (at : Place) (offset : ℕ) (bytes who : List ℕ) (now : ℕ) → IfOk (write whole largest w at offset bytes who now) (From w)
unfolding write
if-write whole largest w at offset bytes who now =
    goes (From w) (reached whole w at) _ (λ f.
    goes (From w) (as_file f.1.body) _ (λ old.
    passed (From w) (not (is_active at.view)) error.ReadOnly _ (
    unless (From w) (nat_eq (length bytes) 0) (Ok (tt, w)) _ (stays w) (
    passed (From w) (nat_lt largest (offset + length bytes)) error.TooBig _ (
    passed (From w) w.halted error.Halted (Ok (tt, after_write w at offset bytes who now)) (
    changes w _ (λ k. times-change_along k 0 at.trail (with_bytes offset bytes who now) (times-with_bytes k offset bytes who now) w.active.root)))))))

pub write-goes : WriteGoes
write-goes whole largest w at offset bytes who now w' e = from_ok (From w) (write whole largest w at offset bytes who now) (tt, w') (if-write whole largest w at offset bytes who now) e

if-remove : (whole : Bool) (w : World) (at : Place) (who : List ℕ) (now : ℕ) → IfOk (remove whole w at who now) (From w)
unfolding remove
if-remove whole w at who now =
    goes (From w) (reached whole w at) _ (λ f.
    passed (From w) (not (is_active at.view)) error.ReadOnly _ (
    passed (From w) (has_names f.1.body) error.NotEmpty _ (
    passed (From w) w.halted error.Halted (Ok (tt, after_remove w at f.0 who now)) (
    changes w _ (λ k. times-change_along k 0 (front at.trail) (without_name f.0 who now) (times-without_name k f.0 who now) w.active.root)))))

pub remove-goes : RemoveGoes
remove-goes whole w at who now w' e = from_ok (From w) (remove whole w at who now) (tt, w') (if-remove whole w at who now) e

changed-times : (k : ℕ) (new : Option (List ℕ)) (at : Place) (old : List ℕ) (f : Node → Node) (who : List ℕ) (now : ℕ) (root : Node) → ((m : Node) → times_at k (f m) ≤ times_at k m + 0) → times_at k (changed_tree new at old f who now root) ≤ times_at k root + 0
changed-times k None at old f who now root h = times-change_along k 0 at.trail f h root
changed-times k (Some name) at old f who now root h = times-change_along k 0 (front at.trail) (with_renamed old name f who now) (times-with_renamed k old name f who now h) root

if-change : (whole : Bool) (largest : ℕ) (w : World) (at : Place) (what : Change) (who : List ℕ) (now : ℕ) → IfOk (change whole largest w at what who now) (From w)
unfolding change
if-change whole largest w at what who now =
    goes (From w) (reached whole w at) _ (λ f.
    passed (From w) (gives_length what.length f.1.body) error.IsDir _ (
    passed (From w) (not (is_active at.view)) error.ReadOnly _ (
    passed (From w) (is_taken (new_name what.name f.0) (siblings w at)) error.Exists _ (
    passed (From w) (exceeds largest what.length) error.TooBig _ (
    unless (From w) (changes_nothing what f.0 f.1.body) (Ok (tt, w)) _ (stays w) (
    passed (From w) w.halted error.Halted (Ok (tt, after_change w at what f.0 who now)) (
    changes w _ (λ k. changed-times k (new_name what.name f.0) at f.0 (with_fields what who now) who now w.active.root (times-with_fields k what who now)))))))))

pub change-goes : ChangeGoes
change-goes whole largest w at what who now w' e = from_ok (From w) (change whole largest w at what who now) (tt, w') (if-change whole largest w at what who now) e

-- a new file has its own number once, and no other
times-new : (k number mode : ℕ) (who uid gid : List ℕ) (now : ℕ) → times_at k (new_node number mode who uid gid now) ≡ here k number
times-new k number mode who uid gid now = go (is_dir_mode mode)
  where
    go : (b : Bool) → here k number + times_in k (if b then Dir no_names else File []) ≡ here k number
    go true = omega arith
    go false = omega arith

numbered-more : (next : ℕ) (old new : Node) → ((k : ℕ) → times_at k new ≤ times_at k old + here k next) → IsNumbered next old → IsNumbered (next + 1) new
numbered-more next old new h n =
    record {
      once = λ k. once k (nat_eq next k) refl;
      below = λ k l. below k l (nat_eq next k) refl;
    }
  where
    once : (k : ℕ) (b : Bool) → nat_eq next k ≡ b → times_at k new ≤ 1
    once k true e =
        let same : next ≡ k = eqb-true next k e in
        let one : here k next ≡ 1 = ap (λ (b : Bool). if b then 1 else 0) e in
        omega (arith, h k, n.below k (omega arith))
    once k false e =
        let none : here k next ≡ 0 = ap (λ (b : Bool). if b then 1 else 0) e in
        omega (arith, h k, n.once k)

    below : (k : ℕ) → next + 1 ≤ k → (b : Bool) → nat_eq next k ≡ b → times_at k new ≡ 0
    below k l true e =
        let same : next ≡ k = eqb-true next k e in
        absurd (omega arith)
    below k l false e =
        let none : here k next ≡ 0 = ap (λ (b : Bool). if b then 1 else 0) e in
        omega (arith, h k, n.below k (omega arith))

made : (w : World) (at : Place) (name : List ℕ) (mode : ℕ) (who uid gid : List ℕ) (now : ℕ) → Goes w (after_create w at name mode who uid gid now).1
made w at name mode who uid gid now =
    record {
      low = refl;
      high = refl;
      snaps = refl;
      archives = refl;
      pending = refl;
      halted = refl;
      exclusive = refl;
      next = omega arith;
      numbered = numbered-more w.next w.active.root _ (λ k. omega (arith, times-change_along k (times_at k (new_node w.next mode who uid gid now)) at.trail (with_name name (new_node w.next mode who uid gid now) who now) (times-with_name k name (new_node w.next mode who uid gid now) who now) w.active.root, times-new k w.next mode who uid gid now));
    }

if-create : (whole : Bool) (w : World) (at : Place) (name : List ℕ) (mode : ℕ) (who uid gid : List ℕ) (now : ℕ) → IfOk (create whole w at name mode who uid gid now) (From w)
unfolding create
if-create whole w at name mode who uid gid now =
    goes (From w) (reached whole w at) _ (λ f.
    goes (From w) (as_dir f.1.body) _ (λ names.
    passed (From w) (not (is_active at.view)) error.ReadOnly _ (
    passed (From w) (is_some (named name names)) error.Exists _ (
    passed (From w) w.halted error.Halted _ (
    passed (From w) (is_dir_mode mode && nat_le 64 (length at.trail)) error.TooDeep _ (
    passed (From w) (nat_le (2 ^ 20) (name_count names)) error.DirFull _ (
    passed (From w) (nat_le (2 ^ 30) w.next) error.NoNumbers (Ok (after_create w at name mode who uid gid now)) (
    made w at name mode who uid gid now))))))))

pub create-goes : CreateGoes
create-goes whole w at name mode who uid gid now i w' e = from_ok (From w) (create whole w at name mode who uid gid now) (i, w') (if-create whole w at name mode who uid gid now) e

-- ---- what a change of one file leaves alone

first-and_body : (p : List ℕ → ℕ → Bool) (name : List ℕ) (stat : Stat) (body : Body) (rest : Names) → first p (and_body name stat body rest) ≡ (if p name stat.number then Some (name, node_of stat body) else first p rest)
first-and_body p name stat (File bytes) rest = refl
first-and_body p name stat (Dir inside) rest = refl

first-and_node : (p : List ℕ → ℕ → Bool) (name : List ℕ) (node : Node) (rest : Names) → first p (and_node name node rest) ≡ (if p name node.number then Some (name, node) else first p rest)
first-and_node p name node rest = first-and_body p name (stat_of node) node.body rest

abbrev is_number : ℕ → List ℕ → ℕ → Bool
is_number k name number = nat_eq number k

-- the changed file is found under its number
first-same : (k : ℕ) (g : Node → Node) → ((m : Node) → (g m).number ≡ m.number) → (names : Names) → first (is_number k) (change_first k g names) ≡ option_map (λ e. (e.0, g e.1)) (first (is_number k) names)
first-same k g h no_names = refl
first-same k g h (file name stat bytes rest) = go (nat_eq stat.number k) refl (first-same k g h rest)
  where
    go : (c : Bool) → nat_eq stat.number k ≡ c → first (is_number k) (change_first k g rest) ≡ option_map (λ e. (e.0, g e.1)) (first (is_number k) rest)
        → first (is_number k) (if c then and_node name (g (node_of stat (File bytes))) rest else file name stat bytes (change_first k g rest)) ≡ option_map (λ e. (e.0, g e.1)) (if c then Some (name, node_of stat (File bytes)) else first (is_number k) rest)
    go true e ih = first-and_node (is_number k) name (g (node_of stat (File bytes))) rest ∙ ap (λ (c : Bool). if c then Some (name, g (node_of stat (File bytes))) else first (is_number k) rest) (ap (λ (n : ℕ). nat_eq n k) (h (node_of stat (File bytes))) ∙ e)
    go false e ih = ap (λ (c : Bool). if c then Some (name, node_of stat (File bytes)) else first (is_number k) (change_first k g rest)) e ∙ ih
first-same k g h (folder name stat inside rest) = go (nat_eq stat.number k) refl (first-same k g h rest)
  where
    go : (c : Bool) → nat_eq stat.number k ≡ c → first (is_number k) (change_first k g rest) ≡ option_map (λ e. (e.0, g e.1)) (first (is_number k) rest)
        → first (is_number k) (if c then and_node name (g (node_of stat (Dir inside))) rest else folder name stat inside (change_first k g rest)) ≡ option_map (λ e. (e.0, g e.1)) (if c then Some (name, node_of stat (Dir inside)) else first (is_number k) rest)
    go true e ih = first-and_node (is_number k) name (g (node_of stat (Dir inside))) rest ∙ ap (λ (c : Bool). if c then Some (name, g (node_of stat (Dir inside))) else first (is_number k) rest) (ap (λ (n : ℕ). nat_eq n k) (h (node_of stat (Dir inside))) ∙ e)
    go false e ih = ap (λ (c : Bool). if c then Some (name, node_of stat (Dir inside)) else first (is_number k) (change_first k g rest)) e ∙ ih

other_number : (j k n : ℕ) → nat_eq j k ≡ false → nat_eq n k ≡ true → nat_eq n j ≡ false
other_number j k n d e = go (nat_eq n j) refl
  where
    go : (c : Bool) → nat_eq n j ≡ c → c ≡ false
    go false f = refl
    go true f = absurd (eqb-false j k d (sym (eqb-true n j f) ∙ eqb-true n k e))

-- and every other as it was
first-other : (j k : ℕ) (g : Node → Node) → ((m : Node) → (g m).number ≡ m.number) → nat_eq j k ≡ false → (names : Names) → first (is_number j) (change_first k g names) ≡ first (is_number j) names
first-other j k g h d no_names = refl
first-other j k g h d (file name stat bytes rest) = go (nat_eq stat.number k) refl (first-other j k g h d rest)
  where
    go : (c : Bool) → nat_eq stat.number k ≡ c → first (is_number j) (change_first k g rest) ≡ first (is_number j) rest
        → first (is_number j) (if c then and_node name (g (node_of stat (File bytes))) rest else file name stat bytes (change_first k g rest)) ≡ (if nat_eq stat.number j then Some (name, node_of stat (File bytes)) else first (is_number j) rest)
    go true e ih =
        first-and_node (is_number j) name (g (node_of stat (File bytes))) rest
        ∙ ap (λ (c : Bool). if c then Some (name, g (node_of stat (File bytes))) else first (is_number j) rest) (ap (λ (n : ℕ). nat_eq n j) (h (node_of stat (File bytes))) ∙ other_number j k stat.number d e)
        ∙ sym (ap (λ (c : Bool). if c then Some (name, node_of stat (File bytes)) else first (is_number j) rest) (other_number j k stat.number d e))
    go false e ih = ap (λ (o : Option (List ℕ × Node)). if nat_eq stat.number j then Some (name, node_of stat (File bytes)) else o) ih
first-other j k g h d (folder name stat inside rest) = go (nat_eq stat.number k) refl (first-other j k g h d rest)
  where
    go : (c : Bool) → nat_eq stat.number k ≡ c → first (is_number j) (change_first k g rest) ≡ first (is_number j) rest
        → first (is_number j) (if c then and_node name (g (node_of stat (Dir inside))) rest else folder name stat inside (change_first k g rest)) ≡ (if nat_eq stat.number j then Some (name, node_of stat (Dir inside)) else first (is_number j) rest)
    go true e ih =
        first-and_node (is_number j) name (g (node_of stat (Dir inside))) rest
        ∙ ap (λ (c : Bool). if c then Some (name, g (node_of stat (Dir inside))) else first (is_number j) rest) (ap (λ (n : ℕ). nat_eq n j) (h (node_of stat (Dir inside))) ∙ other_number j k stat.number d e)
        ∙ sym (ap (λ (c : Bool). if c then Some (name, node_of stat (Dir inside)) else first (is_number j) rest) (other_number j k stat.number d e))
    go false e ih = ap (λ (o : Option (List ℕ × Node)). if nat_eq stat.number j then Some (name, node_of stat (Dir inside)) else o) ih

number-change_along : (trail : List ℕ) (f : Node → Node) → ((m : Node) → (f m).number ≡ m.number) → (m : Node) → (change_along trail f m).number ≡ m.number
number-change_along [] f h m = h m
number-change_along (k ∷ ks) f h m = refl

child-other : (j k : ℕ) (g : Node → Node) → ((m : Node) → (g m).number ≡ m.number) → nat_eq j k ≡ false → (body : Body) → child j (change_names (change_first k g) body) ≡ child j body
child-other j k g h d (File bytes) = refl
child-other j k g h d (Dir names) = first-other j k g h d names

child-same : (k : ℕ) (g : Node → Node) → ((m : Node) → (g m).number ≡ m.number) → (body : Body) → child k (change_names (change_first k g) body) ≡ option_map (λ e. (e.0, g e.1)) (child k body)
child-same k g h (File bytes) = refl
child-same k g h (Dir names) = first-same k g h names

below_same : (ks js : List ℕ) (f : Node → Node) → ((name : List ℕ) (node : Node) → along js (name, change_along ks f node) ≡ along js (name, node)) → (o : Option (List ℕ × Node)) → option_and_then (along js) (option_map (λ e. (e.0, change_along ks f e.1)) o) ≡ option_and_then (along js) o
below_same ks js f same None = refl
below_same ks js f same (Some e) = same e.0 e.1

pub along-other : OthersStay
along-other [] s f h d name node = absurd (cc)
along-other (k ∷ ks) [] f h d name node = absurd (cc)
along-other (k ∷ ks) (j ∷ js) f h d name node = go (nat_eq j k) refl d (λ d. along-other ks js f h d)
  where
    go : (c : Bool) → nat_eq j k ≡ c → (if c then part ks js else true) ≡ true → (part ks js ≡ true → (name : List ℕ) (node : Node) → along js (name, change_along ks f node) ≡ along js (name, node)) → option_and_then (along js) (child j (change_names (change_first k (change_along ks f)) node.body)) ≡ option_and_then (along js) (child j node.body)
    go false e d ih = ap (option_and_then (along js)) (child-other j k (change_along ks f) (number-change_along ks f h) e node.body)
    go true e d ih =
        let same : j ≡ k = eqb-true j k e in
        rw same (ap (option_and_then (along js)) (child-same k (change_along ks f) (number-change_along ks f h) node.body) ∙ below_same ks js f (ih d) (child k node.body))
