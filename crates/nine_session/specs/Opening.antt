-- Topen and Tcreate (open(5) of the Plan 9 manual).
use Rattle.std.specs.Prelude.{ℕ, List, [], ◌∷◌, ◌++◌, Bool, not, ◌&&◌, Result, Ok, if◌then◌else◌}
use Rattle.nine_wire.specs.declared.message.Reply.{Reply}
use Rattle.nine_wire.specs.declared.message.Reply.TheVariants as reply
use Rattle.fo_world.specs.declared.place.Place.{Place}
use Rattle.fo_world.specs.Step as step
use Rattle.fo_users.specs.declared.right.Right.TheVariants.{Write as ToWrite}
use Rattle.nine_fids.specs.declared.fid.Fid.{Fid}
use Rattle.nine_fids.specs.declared.mode.Mode.{Mode}
use Rattle.nine_fids.specs.declared.refusal.Refusal.{Refusal}
use Rattle.nine_fids.specs.declared.refusal.Refusal.TheVariants as refusal
use Rattle.fo_world.specs.Chain.{and_then, refuse_if}
use Rattle.nine_fids.specs.Refusing.{changed}
use Rattle.nine_fids.specs.Fids.{State, number_at, is_listed, is_open, with_fid, version_of, fid_at}
use Rattle.nine_fids.specs.Told.{Files, info_at, is_exclusive, qid_of, iounit}
use Rattle.fo_users.specs.Rights.{may}
use Rattle.nine_fids.specs.Rights.{table_of}
use Rattle.nine_files.specs.Opening.{allowed_mode, allowed_new, new_mode, opened_so, opening_rights, truncated}

-- the list with a number that a fid puts on it
abbrev pub listed : Bool → ℕ → List ℕ → List ℕ
listed held k exclusive = if held then exclusive ++ k ∷ [] else exclusive

-- the state with a fid open at this place; a file for exclusive use is put on the list
abbrev pub with_open : State → Fid → Place → Mode → Bool → State
with_open z f at m held = record {
  session = record { msize = z.session.msize; fids = with_fid (record { number = f.number; user = f.user; place = at; opened = opened_so m held }) z.session.fids };
  exclusive = listed held (number_at at) z.exclusive;
  world = z.world;
}

-- Topen
unfoldable pub open_file : Files → State → ℕ → ℕ → ℕ → Result (Reply × State) Refusal
open_file e z now fid mode =
    and_then (version_of z) (λ msize.
    and_then (fid_at z fid) (λ f.
    refuse_if (is_open f) refusal.FidIsOpen (
    and_then (info_at e z.world f.place) (λ i.
    and_then (allowed_mode f i mode) (λ m.
    and_then (opening_rights e z.world f i m) (λ _.
    refuse_if (is_exclusive i.mode && is_listed (number_at f.place) z.exclusive) refusal.ExclusivelyOpen (
    and_then (truncated e z.world f i m now) (λ p.
    Ok (reply.Open (qid_of p.0) (iounit msize), with_open (record z { world = p.1 }) f f.place m (is_exclusive i.mode))))))))))

-- Tcreate
unfoldable pub create_file : Files → State → ℕ → ℕ → List ℕ → ℕ → ℕ → Result (Reply × State) Refusal
create_file e z now fid name perm mode =
    and_then (version_of z) (λ msize.
    and_then (fid_at z fid) (λ f.
    refuse_if (is_open f) refusal.FidIsOpen (
    and_then (info_at e z.world f.place) (λ above.
    and_then (allowed_new f above name perm mode) (λ m.
    refuse_if (not (may (table_of e z.world) f.user above ToWrite)) refusal.PermissionDenied (
    and_then (changed (step.create e.whole z.world f.place name (new_mode perm above.mode) f.user f.user above.gid now)) (λ p.
    Ok (reply.Create (qid_of p.0) (iounit msize), with_open (record z { world = p.1 }) f p.0.place m (is_exclusive p.0.mode)))))))))
