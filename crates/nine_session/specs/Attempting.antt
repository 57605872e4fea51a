-- What the private calls of a session answer.
use Rattle.std.specs.Prelude.{◌≡◌, ◌≤◌, ℕ, List, Bool, true, false, Option, Some, None, Result, Ok, Err, MatchResult, IfOk, IfErr, is_ok, not, ◌&&◌, length, ◌==◌, nat_lt, nat_le}
use Rattle.nine_wire.specs.declared.message.Request.{Request}
use Rattle.nine_wire.specs.Message.{ReplyFits}
use Rattle.nine_wire.specs.declared.message.Reply.{Reply}
use Rattle.nine_wire.specs.declared.message.Reply.TheVariants as reply
use Rattle.fo_world.specs.declared.error.FileError.{FileError}
use Rattle.fo_world.specs.World.{World}
use Rattle.nine_fids.specs.Looking.{IsRefused}
use Rattle.nine_fids.specs.declared.refusal.Refusal.{Refusal}
use Rattle.nine_fids.specs.declared.refusal.Refusal.TheVariants as refusal
use Rattle.nine_fids.specs.declared.fid.Fid.{Fid}
use Rattle.nine_fids.specs.Fids.{Fids, State, fid_of, clunked, number_at, is_open, with_fid, most_fids, in_use, version_of, fid_at}
use Rattle.fo_world.specs.Chain.{and_then, refuse_if}
use Rattle.fo_world.specs.Answers.{granted_world, tried}
use Rattle.nine_fids.specs.Refusing.{refusal_text}
use Rattle.nine_fids.specs.Told.{Files}
use Rattle.nine_session.specs.Opening.{listed}
use Rattle.nine_fids.specs.Looking.{FilesState, HasCause, MayMiss}
use Rattle.nine_files.specs.Answering.{FailsBy, HadRoom, is_file_fault}
use Rattle.nine_session.specs.Session.{AgreesWithin, Fails, Grants, Kept, Needs, Tells, Told, Touches, in_files, kept_of, left_by, most_of, sure_need, world_after}

-- a session with the list of exclusive opens
abbrev pub kept : Fids → List ℕ → Kept
kept session exclusive = record { session = session; exclusive = exclusive }

-- the state that these and the world make
abbrev pub state : Fids → List ℕ → World → State
state session exclusive w = record { session = session; exclusive = exclusive; world = w }

-- What asks no files and changes nothing: the reply that is told, or the refusal.
abbrev pub Replies : Told → State → Result Reply Refusal → Type 0
Replies told z result = MatchResult result (λ r. told ≡ Ok (r, z)) (λ r. told ≡ Err r)

-- A request: its reply and the state after it, or a refusal and what it leaves.
abbrev pub Attempts : Told → (FileError → Type 0) → State → State → Result Reply Refusal → Type 0
Attempts told fails left z' result = MatchResult result (λ r. told ≡ Ok (r, z')) (λ r. IsRefused told fails r × (z' ≡ left))

-- without the fid of this number, where there is one
abbrev pub without_one : State → Option Fid → State
without_one z None = z
without_one z (Some f) = clunked z f

-- without the fid of a number, if there is one
abbrev pub let_go : ℕ → State → State
let_go number z = without_one z (fid_of number z.session.fids)

-- The reply of a method has a spelling, and agrees to no more than the largest message size.
abbrev pub IsSent : Result Reply Refusal → Type 0
IsSent result = IfOk result (λ r. ReplyFits r × AgreesWithin r)

-- What a method of a session does for a request, over files: where they are honest it answers what is told, or fails for a cause; over
-- any files a refusal has its cause and leaves this, and no more blocks are taken than `most`.
pub record Attempted (old new : FilesState) (within : Touches) (k k' : Kept) (told : Files → State → Told) (need : Files → State → ℕ) (most : ℕ) (left : State → State) (result : Result Reply Refusal) : Type 0 where
  pub answer : old.honest → Attempts (told old.how (in_files k old.world)) (FailsBy old new (need old.how (in_files k old.world)) (is_ok (told old.how (in_files k old.world)))) (left (in_files k old.world)) (in_files k' new.world) result
  pub room : old.honest → HadRoom old.has_room (need old.how (in_files k old.world)) result
  pub touched : old.honest → within (tried is_file_fault (granted_world world_after (told old.how (in_files k old.world)) old.world) old.world result) (need old.how (in_files k old.world))
  pub cause : IfErr result (HasCause old new most)
  pub left_is : IfErr result (λ _. k' ≡ kept_of (left (in_files k old.world)))
  pub taken : (w : World) × within w most

-- The same of a method that only looks.
pub record Looked (old new : FilesState) (k k' : Kept) (told : Files → State → Told) (result : Result Reply Refusal) : Type 0 where
  pub answer : old.honest → Attempts (told old.how (in_files k old.world)) (MayMiss old.faults new.faults old.honest) (in_files k old.world) (in_files k' new.world) result
  pub cause : IfErr result (HasCause old new 0)
  pub left_is : IfErr result (λ _. k' ≡ k)

-- A request as it is attempted: what it is told, the blocks that it needs, how it comes out, and what it may have touched.
pub record Tried (e : Files) (fails : Fails) (has_room : ℕ → Type 0) (within : Touches) (z : State) (now : ℕ) (q : Request) (z' : State) (result : Result Reply Refusal) : Type 0 where
  pub told : Told
  pub need : ℕ
  pub tells : Tells e z now q told
  pub needs : Needs e z q need
  pub attempts : Attempts told (fails need (is_ok told)) (left_by z q) z' result
  pub room : HadRoom has_room need result
  pub touched : within (tried is_file_fault (granted_world world_after told z.world) z.world result) need

-- and over any files
pub record TriedOver (old new : FilesState) (within : Touches) (k k' : Kept) (now : ℕ) (q : Request) (result : Result Reply Refusal) : Type 0 where
  pub answer : old.honest → Tried old.how (FailsBy old new) old.has_room within (in_files k old.world) now q (in_files k' new.world) result
  pub grants : IfOk result (Grants q)
  pub had : IfOk result (λ _. (n : ℕ) → old.has_room n → sure_need k q ≤ n)
  pub cause : IfErr result (HasCause old new (most_of (in_files k old.world) q))
  pub left_is : IfErr result (λ _. k' ≡ kept_of (left_by (in_files k old.world) q))
  pub taken : (w : World) × within w (most_of (in_files k old.world) q)

-- the message size that is agreed to, where the version is known
abbrev pub agreed_size : Bool → ℕ → Option ℕ
agreed_size true msize = Some msize
agreed_size false msize = None

-- the Rerror of a refusal, or none for a reply
abbrev pub error_of : Result Reply Refusal → Option Reply
error_of (Ok r) = None
error_of (Err why) = Some (reply.Error (refusal_text why))

-- with an open fid in place of the one of its number, and its file on the list where it is held
abbrev pub with_put : State → Fid → Bool → State
with_put z f held = record {
  session = record { msize = z.session.msize; fids = with_fid f z.session.fids };
  exclusive = listed held (number_at f.place) z.exclusive;
  world = z.world;
}

-- ---- walks

-- the fid that a walk goes from, where it may
unfoldable pub walked_fid : State → ℕ → ℕ → List (List ℕ) → Result Fid Refusal
walked_fid z fid newfid names =
    and_then (version_of z) (λ _.
    and_then (fid_at z fid) (λ f.
    refuse_if (nat_lt 16 (length names)) refusal.TooManyNames (
    refuse_if (is_open f) refusal.FidIsOpen (
    refuse_if (not (newfid == fid) && in_use newfid z.session.fids) refusal.FidInUse (
    refuse_if (not (newfid == fid) && nat_le most_fids (length z.session.fids)) refusal.TooManyFids (
    Ok f))))))
