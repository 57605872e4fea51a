-- Tversion and Tattach (version(5), attach(5) of the Plan 9 manual).
use Rattle.std.specs.Prelude.{ℕ, List, [], ◌∷◌, ◌++◌, length, take, min, position, unwrap_or, Bool, true, false, not, ◌||◌, ◌==◌, nat_lt, nat_le, Option, Some, None, Result, Ok, Err, if◌then◌else◌, codes}
use Rattle.std.specs.Str.{bytes_eq}
use Rattle.nine_wire.specs.declared.message.Reply.{Reply}
use Rattle.nine_wire.specs.declared.message.Reply.TheVariants as reply
use Rattle.nine_wire.specs.Version.{largest_message, version_text}
use Rattle.fo_world.specs.declared.place.View.{View}
use Rattle.fo_world.specs.declared.place.View.TheVariants.{Active, Dated}
use Rattle.fo_world.specs.Step as step
use Rattle.nine_fids.specs.declared.refusal.Refusal.{Refusal}
use Rattle.nine_fids.specs.declared.refusal.Refusal.TheVariants as refusal
use Rattle.fo_world.specs.Chain.{and_then, refuse_if}
use Rattle.std.specs.Option.{ok_or}
use Rattle.nine_fids.specs.Fids.{State, nofid, most_fids, in_use, version_of, with_fids, restarted}
use Rattle.nine_fids.specs.Told.{Files, info_at, qid_of}
use Rattle.nine_fids.specs.Rights.{table_of, user_of}

-- the text before the first point, or all where there is none
abbrev pub base_of : List ℕ → List ℕ
base_of version = take (unwrap_or (position (λ b. b == 46) version) (length version)) version

-- a version is one of 9P2000
abbrev pub is_known : List ℕ → Bool
is_known version = bytes_eq (base_of version) version_text

-- the text that a version is answered with
abbrev pub answer_text : Bool → List ℕ
answer_text true = version_text
answer_text false = codes "unknown"

-- Tversion: all fids go, none of them with its file; a version is agreed to or none. It is never refused but for want of memory.
unfoldable pub version : State → ℕ → List ℕ → Reply × State
version z msize text =
    if nat_lt msize 256 then (reply.Error (codes "msize too small"), restarted z None)
    else (if is_known text then (reply.Version (min msize largest_message) (answer_text true), restarted z (Some (min msize largest_message)))
    else (reply.Version (min msize largest_message) (answer_text false), restarted z None))

-- Tauth: there is no authentication
unfoldable pub auth : State → Result (Reply × State) Refusal
auth z = and_then (version_of z) (λ _. Err refusal.NoAuthentication)

-- Tflush: each request is answered before the next is read, so there is nothing to abort
unfoldable pub flush : State → Result (Reply × State) Refusal
flush z = and_then (version_of z) (λ _. Ok (reply.Flush, z))

-- the root of the dated names of the snapshots, or of the archives
abbrev pub dated : Bool → View
dated archive = Dated archive 0 0

-- the trees that can be attached to: the active one, and the dated names of the snapshots and of the archives
unfoldable pub tree_of : List ℕ → Option View
tree_of aname =
    if bytes_eq aname [] || bytes_eq aname (codes "main/active") then Some Active
    else (if bytes_eq aname (codes "main/snapshot") then Some (dated false)
    else (if bytes_eq aname (codes "main/archive") then Some (dated true) else None))

-- Tattach: a new fid for the root of a tree
unfoldable pub attach : Files → State → ℕ → ℕ → List ℕ → List ℕ → Result (Reply × State) Refusal
attach e z fid afid uname aname =
    and_then (version_of z) (λ _.
    refuse_if (not (afid == nofid)) refusal.NoAuthentication (
    refuse_if (in_use fid z.session.fids) refusal.FidInUse (
    refuse_if (nat_le most_fids (length z.session.fids)) refusal.TooManyFids (
    and_then (ok_or (tree_of aname) refusal.UnknownTree) (λ view.
    and_then (info_at e z.world (step.root_at view)) (λ i.
    Ok (reply.Attach (qid_of i), with_fids z (z.session.fids ++ (record { number = fid; user = user_of (table_of e z.world) uname; place = step.root_at view; opened = None }) ∷ []))))))))
