-- Walks: where one name leads, and all names.
use Rattle.std.proofs.Common.{◌≡◌, ℕ, suc, ◌+◌, ◌<◌, List, [], ◌∷◌, ◌++◌, length, get_or, drop, drop-cons, add-one, Bool, false, not, Option, Some, None, Result, Ok, Err, refl, sym, ap, ◌∙◌, append_assoc}
use Rattle.std.specs.Prelude.{IfErr, if◌then◌else◌, ◌==◌}
use Rattle.std.proofs.lemmas.List.{append-nil}
use Rattle.nine_fields.specs.declared.qid.Qid.{Qid}
use Rattle.fo_world.specs.declared.place.Info.{Info}
use Rattle.fo_world.specs.declared.place.Place.{Place}
use Rattle.fo_world.specs.World.{World}
use Rattle.fo_world.specs.declared.error.FileError.TheVariants as error
use Rattle.fo_users.specs.declared.right.Right.TheVariants.{Execute}
use Rattle.fo_users.specs.Rights.{may}
use Rattle.fo_users.specs.declared.table.User.{User}
use Rattle.fo_world.specs.Step as step
use Rattle.nine_fids.specs.declared.refusal.Refusal.{Refusal}
use Rattle.nine_fids.specs.declared.refusal.Refusal.TheVariants as refusal
use Rattle.fo_world.specs.Chain.{and_then, refuse_if}
use Rattle.nine_fids.specs.Refusing.{is_failure}
use Rattle.nine_fids.specs.Rights.{table_of}
use Rattle.nine_fids.specs.declared.fid.Fid.{Fid}
use Rattle.nine_files.specs.Parts.{arrived}
use Rattle.nine_fids.specs.Told.{Files, info_at, parent_at, named_at, is_dir, qid_of}
use Rattle.nine_fids.proofs.Staying.{told_plain, parent_stays, named_plain}
use Rattle.nine_files.proofs.Links.{IsPlain, if_plain, refuse_plain}
use Rattle.nine_files.specs.declared.walking.Walked.{Walked}
use Rattle.nine_files.specs.Walking.{from_next, is_up, next_by, passed, stands_for_none, walked_by}

-- ---- one name

parent_plain : (e : Files) (w : World) (at : Place) → IsPlain (parent_at e w at)
unfolding parent_at
parent_plain e w at = told_plain (step.parent e.whole w at) w (parent_stays e.whole w at)

pub next_plain : (table : List User) (e : Files) (w : World) (user : List ℕ) (i : Info) (name : List ℕ) → IfErr (next_by table e w user i name) (λ r. is_failure r ≡ false)
unfolding next_by
next_plain table e w user i name =
    let named : Result Info Refusal = named_at e w i.place name in
    let there : Result Info Refusal = refuse_if (stands_for_none name) (refusal.File error.Absent) named in
    let led : Result Info Refusal = if is_up name then parent_at e w i.place else there in
    let may_go : Bool = may table user i Execute in
    refuse_plain (not (is_dir i.mode)) (refusal.File error.NotDir) (refuse_if (not may_go) refusal.PermissionDenied led) refl
    (refuse_plain (not may_go) refusal.PermissionDenied led refl
    (if_plain (is_up name) (parent_at e w i.place) there (parent_plain e w i.place)
    (refuse_plain (stands_for_none name) (refusal.File error.Absent) named refl (named_plain e w i.place name))))

-- ---- all names

-- what a walk comes to, behind what it has passed
abbrev pub behind : List Qid → Walked → Walked
behind qids w = record { qids = qids ++ w.qids; last = w.last; stopped = w.stopped }

one_behind : (qids : List Qid) (q : Qid) (w : Walked) → behind qids (passed q w) ≡ behind (qids ++ q ∷ []) w
one_behind qids q w =
    let put : List Qid → Walked = λ t. record { qids = t; last = w.last; stopped = w.stopped } in
    ap put (sym (append_assoc qids (q ∷ []) w.qids))

none_behind : (qids : List Qid) (at : Place) (stopped : Option Refusal) → behind qids (record { qids = []; last = at; stopped = stopped }) ≡ record { qids = qids; last = at; stopped = stopped }
none_behind qids at stopped =
    let put : List Qid → Walked = λ t. record { qids = t; last = at; stopped = stopped } in
    ap put (append-nil qids)

-- no name is left
pub walk_done : (table : List User) (e : Files) (w : World) (user : List ℕ) (names : List (List ℕ)) (qids : List Qid) (i : Info) → names ≡ [] → behind qids (walked_by table e w user names i) ≡ record { qids = qids; last = i.place; stopped = None }
unfolding walked_by
walk_done table e w user names qids i none =
    ap (λ ns. behind qids (walked_by table e w user ns i)) none ∙ none_behind qids i.place None

-- a name leads on
pub walk_on : (table : List User) (e : Files) (w : World) (user : List ℕ) (names rest : List (List ℕ)) (name : List ℕ) (qids : List Qid) (i j : Info) → names ≡ name ∷ rest → next_by table e w user i name ≡ Ok j → behind qids (walked_by table e w user names i) ≡ behind (qids ++ qid_of j ∷ []) (walked_by table e w user rest j)
unfolding walked_by
walk_on table e w user names rest name qids i j front leads =
    ap (λ ns. behind qids (walked_by table e w user ns i)) front
    ∙ ap (λ t. behind qids (from_next (walked_by table e w user rest) i t)) leads
    ∙ one_behind qids (qid_of j) (walked_by table e w user rest j)

-- a name leads nowhere
pub walk_stops : (table : List User) (e : Files) (w : World) (user : List ℕ) (names rest : List (List ℕ)) (name : List ℕ) (qids : List Qid) (i : Info) (r : Refusal) → names ≡ name ∷ rest → next_by table e w user i name ≡ Err r → behind qids (walked_by table e w user names i) ≡ record { qids = qids; last = i.place; stopped = Some r }
unfolding walked_by
walk_stops table e w user names rest name qids i r front stops =
    ap (λ ns. behind qids (walked_by table e w user ns i)) front
    ∙ ap (λ t. behind qids (from_next (walked_by table e w user rest) i t)) stops
    ∙ none_behind qids i.place (Some r)

-- the names from one on
pub name_here : (names : List (List ℕ)) (i : ℕ) (name : List ℕ) → i < length names → name ≡ get_or names i name → drop i names ≡ name ∷ drop (i + 1) names
name_here names i name within is =
    drop-cons names i name within ∙ ap (λ n. n ∷ drop (suc i) names) (sym is) ∙ ap (λ k. name ∷ drop k names) (sym (add-one i))

-- ---- from a fid

pub arrived_from : (e : Files) (w : World) (f : Fid) (names : List (List ℕ)) → (length names == 0) ≡ false → arrived e w f names ≡ and_then (info_at e w f.place) (λ i. Ok (walked_by (table_of e w) e w f.user names i))
arrived_from e w f [] some = absurd cc
arrived_from e w f (name ∷ names) some = refl
