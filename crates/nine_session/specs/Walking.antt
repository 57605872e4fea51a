-- Twalk (walk(5) of the Plan 9 manual).
use Rattle.std.specs.Prelude.{ℕ, List, [], ◌∷◌, ◌++◌, length, not, ◌&&◌, ◌==◌, nat_lt, nat_le, Option, Some, None, Result, Ok, Err, if◌then◌else◌}
use Rattle.nine_fields.specs.declared.qid.Qid.{Qid}
use Rattle.nine_wire.specs.declared.message.Reply.{Reply}
use Rattle.nine_wire.specs.declared.message.Reply.TheVariants as reply
use Rattle.fo_world.specs.declared.place.Place.{Place}
use Rattle.nine_fids.specs.declared.fid.Fid.{Fid}
use Rattle.nine_fids.specs.declared.refusal.Refusal.{Refusal}
use Rattle.nine_fids.specs.declared.refusal.Refusal.TheVariants as refusal
use Rattle.fo_world.specs.Chain.{and_then, refuse_if}
use Rattle.nine_fids.specs.Fids.{State, most_fids, in_use, is_open, with_fid, version_of, fid_at, with_fids}
use Rattle.nine_fids.specs.Told.{Files, info_at}
use Rattle.nine_files.specs.Walking.{walked}

-- the fids after a walk: the new one is at the place where the walk came to
abbrev pub moved : Fid → ℕ → Place → List Fid → List Fid
moved f newfid at fids =
    if newfid == f.number then with_fid (record { number = f.number; user = f.user; place = at; opened = None }) fids
    else fids ++ (record { number = newfid; user = f.user; place = at; opened = None }) ∷ []

-- A walk that stops at its first name is refused; one that stops later tells the qids so far and moves nothing.
abbrev pub ended : State → Fid → ℕ → List Qid → Place → Option Refusal → Result (Reply × State) Refusal
ended z f newfid qids at None = Ok (reply.Walk qids, with_fids z (moved f newfid at z.session.fids))
ended z f newfid [] at (Some r) = Err r
ended z f newfid (qid ∷ qids) at (Some r) = Ok (reply.Walk (qid ∷ qids), z)

-- a walk by these names, to this fid
abbrev pub walk_from : Files → State → Fid → ℕ → List (List ℕ) → Result (Reply × State) Refusal
walk_from e z f newfid [] = ended z f newfid [] f.place None
walk_from e z f newfid (name ∷ names) =
    and_then (info_at e z.world f.place) (λ i.
    let w = walked e z.world f.user (name ∷ names) i in ended z f newfid w.qids w.last w.stopped)

-- Twalk: by up to 16 names, to a new fid or by the same one
unfoldable pub walk : Files → State → ℕ → ℕ → List (List ℕ) → Result (Reply × State) Refusal
walk e z fid newfid names =
    and_then (version_of z) (λ _.
    and_then (fid_at z fid) (λ f.
    refuse_if (nat_lt 16 (length names)) refusal.TooManyNames (
    refuse_if (is_open f) refusal.FidIsOpen (
    refuse_if (not (newfid == fid) && in_use newfid z.session.fids) refusal.FidInUse (
    refuse_if (not (newfid == fid) && nat_le most_fids (length z.session.fids)) refusal.TooManyFids (
    walk_from e z f newfid names))))))
