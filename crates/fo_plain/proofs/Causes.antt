-- No refusal of the file step is a fault of a device, a damaged block or want of room, so each has its cause where no device is.
use Rattle.std.proofs.Common.{◌≡◌, subst, sym, ◌⊎◌, inl, inr, ℕ, ◌+◌, ◌^◌, List, length, Bool, true, false, nat_eq, nat_lt, Option, Some, None, Result, Ok, Err, if◌then◌else◌}
use Rattle.std.specs.Prelude.{◌&&◌, nat_le, not, is_some, option_and_then, IfErr, MatchResult}
use Rattle.std.specs.Option.{ok_or}
use Rattle.fo_world.specs.declared.error.FileError.{FileError}
use Rattle.fo_world.specs.declared.error.FileError.TheVariants as error
use Rattle.fo_world.specs.declared.tree.Body.{Body}
use Rattle.fo_world.specs.declared.tree.Body.TheVariants.{File, Dir}
use Rattle.fo_world.specs.declared.tree.Node.{Node}
use Rattle.fo_world.specs.declared.place.View.{View}
use Rattle.fo_world.specs.declared.place.View.TheVariants.{Active, Snap, Archive, Dated}
use Rattle.fo_world.specs.declared.place.Place.{Place}
use Rattle.fo_world.specs.declared.place.Info.{Info}
use Rattle.fo_world.specs.declared.place.Change.{Change}
use Rattle.fo_world.specs.Names.{Names}
use Rattle.fo_world.specs.World.{World, Faults}
use Rattle.fo_world.specs.Answers.{HasCause}
use Rattle.fo_world.specs.Tree.{along, named, name_count, has_names}
use Rattle.fo_world.specs.Chain.{and_then, refuse_if}
use Rattle.fo_world.specs.Step.{by_view, reached, reached_from, root_name, root_of, as_dir, as_file, is_active, is_dir_mode, root_at, above, file_found, view_found, next_found, next_view_found, entry_named, entries_of, next_above, least_above, gives_length, is_taken, new_name, siblings, exceeds, changes_nothing, info, find, parent, next_name, read, write, create, remove, change}
use Rattle.fo_plain.specs.Kept.{Tells}

-- ---- steps, one after another

-- no call of a device has failed
abbrev pub quiet : Faults
quiet = record { main = 0; arena = 0 }

-- it has its cause where no device is, whatever room is asked for
abbrev pub Own : FileError → Type 0
Own e = (most : ℕ) → HasCause quiet quiet (Unit {0}) (λ _. ⊥) most e

after : {A B : Type 0} (r : Result A FileError) (f : A → Result B FileError) → IfErr r Own → ((x : A) → IfErr (f x) Own) → IfErr (and_then r f) Own
after (Ok x) f h g = g x
after (Err e) f h g = h

past : {A : Type 0} (b : Bool) (e : FileError) (r : Result A FileError) → Own e → IfErr r Own → IfErr (refuse_if b e r) Own
past true e r own h = own
past false e r own h = h

either : {A : Type 0} (b : Bool) (r s : Result A FileError) → IfErr r Own → IfErr s Own → IfErr (if b then r else s) Own
either true r s h g = h
either false r s h g = g

viewed : {A : Type 0} (view : View) (tree : Result A FileError) (dated : Bool → ℕ → ℕ → Result A FileError) → IfErr tree Own → ((a : Bool) (y m : ℕ) → IfErr (dated a y m) Own) → IfErr (by_view view tree dated) Own
viewed Active tree dated t d = t
viewed (Snap e) tree dated t d = t
viewed (Archive e) tree dated t d = t
viewed (Dated archive year monthday) tree dated t d = d archive year monthday

found-own : (o : Option (List ℕ × Node)) → IfErr (ok_or o error.Gone) Own
found-own None = λ most. tt
found-own (Some g) = tt

reached-own : (w : World) (at : Place) → IfErr (reached true w at) Own
reached-own w at = found-own (option_and_then (λ node. along at.trail (root_name true w at.view, node)) (root_of w at.view))

as_dir-own : (body : Body) → IfErr (as_dir body) Own
as_dir-own (File bytes) = λ most. tt
as_dir-own (Dir names) = tt

as_file-own : (body : Body) → IfErr (as_file body) Own
as_file-own (File bytes) = tt
as_file-own (Dir names) = λ most. tt

-- ---- the calls

pub info-own : (w : World) (at : Place) → IfErr (info true w at) Own
info-own w at = after (reached true w at) _ (reached-own w at) (λ f. tt)

file_found-own : (w : World) (at : Place) (o : Option (List ℕ × Node)) → IfErr (file_found w at o) Own
file_found-own w at None = λ most. tt
file_found-own w at (Some g) = tt

view_found-own : (w : World) (o : Option View) → IfErr (view_found true w o) Own
view_found-own w None = λ most. tt
view_found-own w (Some view) = info-own w (root_at view)

pub find-own : (w : World) (at : Place) (name : List ℕ) → IfErr (find true w at name) Own
unfolding find
find-own w at name =
    after (reached true w at) _ (reached-own w at) (λ f.
    after (as_dir f.1.body) _ (as_dir-own f.1.body) (λ names.
    viewed at.view _ _ (file_found-own w at (named name names)) (λ archive year monthday. view_found-own w (entry_named name (entries_of w archive year monthday)))))

pub parent-own : (w : World) (at : Place) → IfErr (parent true w at) Own
unfolding parent
parent-own w at = after (reached true w at) _ (reached-own w at) (λ f. info-own w (above true w at))

next_found-own : (w : World) (at : Place) (o : Option (List ℕ × Node)) → IfErr (next_found w at o) Own
next_found-own w at None = tt
next_found-own w at (Some g) = tt

next_view_found-own : (w : World) (o : Option View) → IfErr (next_view_found true w o) Own
next_view_found-own w None = tt
next_view_found-own w (Some view) = after (info true w (root_at view)) _ (info-own w (root_at view)) (λ i. tt)

pub next_name-own : (w : World) (at : Place) (name : Option (List ℕ)) → IfErr (next_name true w at name) Own
unfolding next_name
next_name-own w at name =
    after (reached true w at) _ (reached-own w at) (λ f.
    after (as_dir f.1.body) _ (as_dir-own f.1.body) (λ names.
    viewed at.view _ _ (next_found-own w at (next_above name names)) (λ archive year monthday. next_view_found-own w (least_above name (entries_of w archive year monthday)))))

pub read-own : (w : World) (at : Place) (offset count : ℕ) → IfErr (read true w at offset count) Own
unfolding read
read-own w at offset count =
    after (reached true w at) _ (reached-own w at) (λ f.
    after (as_file f.1.body) _ (as_file-own f.1.body) (λ bytes. tt))

pub write-own : (largest : ℕ) (w : World) (at : Place) (offset : ℕ) (bytes who : List ℕ) (now : ℕ) → IfErr (write true largest w at offset bytes who now) Own
unfolding write
write-own largest w at offset bytes who now =
    after (reached true w at) _ (reached-own w at) (λ f.
    after (as_file f.1.body) _ (as_file-own f.1.body) (λ old.
    past (not (is_active at.view)) error.ReadOnly _ (λ most. tt) (
    either (nat_eq (length bytes) 0) _ _ tt (
    past (nat_lt largest (offset + length bytes)) error.TooBig _ (λ most. tt) (
    past w.halted error.Halted _ (λ most. tt) tt)))))

pub create-own : (w : World) (at : Place) (name : List ℕ) (mode : ℕ) (who uid gid : List ℕ) (now : ℕ) → IfErr (create true w at name mode who uid gid now) Own
unfolding create
create-own w at name mode who uid gid now =
    after (reached true w at) _ (reached-own w at) (λ f.
    after (as_dir f.1.body) _ (as_dir-own f.1.body) (λ names.
    past (not (is_active at.view)) error.ReadOnly _ (λ most. tt) (
    past (is_some (named name names)) error.Exists _ (λ most. tt) (
    past w.halted error.Halted _ (λ most. tt) (
    past (is_dir_mode mode && nat_le 64 (length at.trail)) error.TooDeep _ (λ most. tt) (
    past (nat_le (2 ^ 20) (name_count names)) error.DirFull _ (λ most. tt) (
    past (nat_le (2 ^ 30) w.next) error.NoNumbers _ (λ most. tt) tt)))))))

pub remove-own : (w : World) (at : Place) (who : List ℕ) (now : ℕ) → IfErr (remove true w at who now) Own
unfolding remove
remove-own w at who now =
    after (reached true w at) _ (reached-own w at) (λ f.
    past (not (is_active at.view)) error.ReadOnly _ (λ most. tt) (
    past (has_names f.1.body) error.NotEmpty _ (λ most. tt) (
    past w.halted error.Halted _ (λ most. tt) tt)))

pub change-own : (largest : ℕ) (w : World) (at : Place) (what : Change) (who : List ℕ) (now : ℕ) → IfErr (change true largest w at what who now) Own
unfolding change
change-own largest w at what who now =
    after (reached true w at) _ (reached-own w at) (λ f.
    past (gives_length what.length f.1.body) error.IsDir _ (λ most. tt) (
    past (not (is_active at.view)) error.ReadOnly _ (λ most. tt) (
    past (is_taken (new_name what.name f.0) (siblings w at)) error.Exists _ (λ most. tt) (
    past (exceeds largest what.length) error.TooBig _ (λ most. tt) (
    either (changes_nothing what f.0 f.1.body) _ _ tt (
    past w.halted error.Halted _ (λ most. tt) tt))))))

-- ---- what is answered

-- a refusal that is the step's, or want of memory
pub cause-of : {A : Type 0} (told : Result A FileError) (e : FileError) (most : ℕ) → IfErr told Own → (told ≡ Err e) ⊎ (e ≡ error.Memory) → HasCause quiet quiet (Unit {0}) (λ _. ⊥) most e
cause-of told e most own (inl is) = subst (λ (r : Result _ FileError). IfErr r Own) is own most
cause-of told e most own (inr is) = subst (λ (e : FileError). HasCause quiet quiet (Unit {0}) (λ _. ⊥) most e) (sym is) tt

-- of a call that looks
pub told-cause : {A : Type 0} (told : Result (A × World) FileError) (w : World) (r : Result A FileError) (most : ℕ) → IfErr told Own → Tells told w r → IfErr r (HasCause quiet quiet (Unit {0}) (λ _. ⊥) most)
told-cause told w (Ok x) most own t = tt
told-cause told w (Err e) most own t = cause-of told e most own t

-- of a call that says more of either answer
pub answer-cause : {A B : Type 0} (told : Result B FileError) (P : A → Type 0) (Q : Type 0) (r : Result A FileError) (most : ℕ) → IfErr told Own → MatchResult r P (λ e. ((told ≡ Err e) ⊎ (e ≡ error.Memory)) × Q) → IfErr r (HasCause quiet quiet (Unit {0}) (λ _. ⊥) most)
answer-cause told P Q (Ok x) most own t = tt
answer-cause told P Q (Err e) most own t = cause-of told e most own t.0
